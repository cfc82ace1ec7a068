use Rattle.verilog_bind.proofs.Listing.{instance_sites_are}
use Rattle.verilog_bind.proofs.laws.instances_are_sites.Goals as goal

pub returns : goal.returns
returns c = instance_sites_are
