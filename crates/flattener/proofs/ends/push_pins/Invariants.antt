use Rattle.std.proofs.Common.{◌≡◌, ◌-◌, ◌++◌, map}
use Rattle.std.specs.List.{range_with_len}
use Rattle.rsfq_ids.specs.declared.circuit.Reader.TheVariants.{Pin}
use Rattle.flattener.proofs.ends.push_pins.Given as goal

abbrev pub invariant-loop-pin : goal.invariant-loop-pin
invariant-loop-pin l = l.readers.items ≡ l.initial.readers.items ++ map (Pin l.cell) (range_with_len 0 (l.pin - 0))
