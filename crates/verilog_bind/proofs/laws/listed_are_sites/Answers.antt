use Rattle.verilog_bind.proofs.Listing.{listed_sites}
use Rattle.verilog_bind.proofs.laws.listed_are_sites.Goals as goal

pub returns : goal.returns
returns c = listed_sites
