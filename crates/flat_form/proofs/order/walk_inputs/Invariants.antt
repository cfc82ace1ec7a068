use Rattle.flat_form.specs.Walking.{IsWalk, AreInputsServed}
use Rattle.flat_form.proofs.order.walk_inputs.Given as goal

abbrev pub invariant-loop-net : goal.invariant-loop-net
invariant-loop-net l = record { walk : IsWalk l.flat l.seen l.order; served : AreInputsServed l.flat l.seen l.net }
