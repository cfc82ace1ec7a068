use Rattle.std.proofs.Common.{◌≡◌}
use Rattle.graph_rings.specs.declared.search.Mark.TheVariants as mark
use Rattle.graph_rings.specs.Search.{mark_of, IsSearchOf, work_of}
use Rattle.graph_rings.proofs.surveying.run.Given as goal

abbrev pub invariant-search : goal.invariant-search
invariant-search l = record {
  search : IsSearchOf l.graph l.start l.search;
  seen : mark_of l.search.marks.items l.start ≡ mark.Unseen → ⊥;
}

abbrev pub decreases-search : goal.decreases-search
decreases-search l = work_of l.search
