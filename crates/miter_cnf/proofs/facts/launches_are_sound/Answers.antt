use Rattle.clock_tree.specs.Clock.{design_of}
use Rattle.miter_cnf.proofs.Launched.{means, decides, formula}
use Rattle.miter_cnf.proofs.facts.launches_are_sound.Goals as goal

pub returns : goal.returns
returns c graph bench first second made is ok m =
    let ranked = c.orders_rank.ensures (design_of graph bench) graph.order is.flat_fits is.ordered in
    record {
      means = means graph bench first second made is ok m ranked.0 ranked.1 c.values_exist.ensures c.circuits_are_ready.ensures;
      formula = formula graph bench first second made is ok m ranked.0 ranked.1 c.values_exist.ensures c.circuits_are_ready.ensures;
      decides = decides graph bench first second made is ok m ranked.0 ranked.1 c.values_exist.ensures c.circuits_are_ready.ensures;
    }
