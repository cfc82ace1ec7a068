use Rattle.std.proofs.Common.{◌/◌, ℕ, List, get_or, sym, subst}
use Rattle.std.proofs.lemmas.Option.{slice_get-get_or}
use Rattle.aiger_order.specs.Numbers.{Known}
use Rattle.aiger_order.proofs.InputNames.{fresh_input}
use Rattle.aiger_order.proofs.sorting.number_inputs.Goals as goal

pub give-requires-clause-fresh : goal.give-requires-clause-fresh
give-requires-clause-fresh c =
    let i = c.loop-literal.literal-index in
    let inputs = c.args.inputs.now in
    let is = slice_get-get_or inputs i 0 c.loop-literal-test.true in
    subst (λ (names : List ℕ). ¬ Known names (get_or inputs i 0 / 2)) (sym c.loop-literal.invariant.names) (fresh_input c.args.top inputs i (get_or inputs i 0) c.requires.definitions c.requires.once is)
