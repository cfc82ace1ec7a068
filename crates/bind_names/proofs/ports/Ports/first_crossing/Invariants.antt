use Rattle.std.proofs.Common.{map}
use Rattle.bind_sites.specs.View.{view_site}
use Rattle.bind_names.specs.Crossing.{CrossesAmong, IsLeast}
use Rattle.bind_names.proofs.ports.Ports.first_crossing.Given as goal

abbrev pub invariant-loop-scalar : goal.invariant-loop-scalar
invariant-loop-scalar l = IsLeast (CrossesAmong (map view_site l.sites) l.limit l.scalar) l.first
