use Rattle.clock_tree.specs.Clock.{design_of}
use Rattle.clock_tree.proofs.Whole.{rank_of, ranked, at_rank, at_place}
use Rattle.clock_tree.proofs.laws.graphs_are_ready.Goals as goal

pub returns : goal.returns
returns c graph bench g (marks, clocked) = (
  rank_of graph g,
  record {
    ranked = ranked graph g;
    at_rank = at_rank graph g;
    place = at_place graph g;
    ready = c.circuits_are_ready.ensures (design_of graph bench) (rank_of graph g) clocked.set_up clocked.shape (ranked graph g);
  },
)
