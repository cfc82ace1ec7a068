use Rattle.verilog_bind.proofs.Listing.{assign_sites_are}
use Rattle.verilog_bind.proofs.laws.assigns_are_sites.Goals as goal

pub returns : goal.returns
returns c = assign_sites_are
