use Rattle.std.proofs.Common.{map}
use Rattle.bind_sites.specs.View.{view_site}
use Rattle.bind_names.specs.Indexed.{IsIndex}
use Rattle.bind_names.proofs.index.Index.of.Given as goal

abbrev pub invariant-loop-at : goal.invariant-loop-at
invariant-loop-at l = IsIndex l.sort (map view_site l.sites) l.at l.index
