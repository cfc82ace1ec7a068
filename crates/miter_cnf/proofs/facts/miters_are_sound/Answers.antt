use Rattle.clock_tree.specs.Clock.{design_of}
use Rattle.miter_cnf.proofs.Solutions.{means}
use Rattle.miter_cnf.proofs.Settled.{decides}
use Rattle.miter_cnf.proofs.Bounded.{formula}
use Rattle.miter_cnf.proofs.facts.miters_are_sound.Goals as goal

pub returns : goal.returns
returns c graph aig matched bench made is ok m =
    let ranked = c.orders_rank.ensures (design_of graph bench) graph.order is.flat_fits is.ordered in
    record {
      means = means graph aig matched bench made is ok m ranked.0 ranked.1 c.values_exist.ensures c.circuits_are_ready.ensures;
      formula = formula graph aig matched bench made is ok m ranked.0 ranked.1;
      decides = decides graph aig matched bench made is ok m ranked.0 ranked.1 c.values_exist.ensures c.circuits_are_ready.ensures;
    }
