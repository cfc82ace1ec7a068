use Rattle.std.proofs.Common.{map}
use Rattle.bind_sites.specs.View.{view_site}
use Rattle.bind_names.specs.Places.{IsIndexOf}
use Rattle.bind_names.proofs.ports.Ports.of.Given as goal

abbrev pub invariant-loop-at : goal.invariant-loop-at
invariant-loop-at l = IsIndexOf (map view_site l.sites) l.at l.listed l.directed
