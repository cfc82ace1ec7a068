use Rattle.std.proofs.Common.{◌≡◌, ◌/◌, ◌∷◌, take, map}
use Rattle.aiger_order.specs.Numbers.{Numbers}
use Rattle.aiger_order.proofs.sorting.number_inputs.Given as goal

abbrev pub invariant-loop-literal : goal.invariant-loop-literal
invariant-loop-literal l = record {
  numbers : Numbers l.top l.numbering;
  names : l.numbering.names.items ≡ 0 ∷ map (λ literal. literal / 2) (take l.literal-index l.inputs);
}
