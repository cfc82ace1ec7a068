use Rattle.std.proofs.Common.{◌≡◌, ◌-◌, ◌++◌, map}
use Rattle.std.specs.List.{range_with_len}
use Rattle.rsfq_ids.specs.declared.circuit.Driver.TheVariants.{Out}
use Rattle.flattener.proofs.ends.push_outputs.Given as goal

abbrev pub invariant-loop-output : goal.invariant-loop-output
invariant-loop-output l = l.nets ≡ l.initial.nets ++ map (Out l.cell) (range_with_len 0 (l.output - 0))
