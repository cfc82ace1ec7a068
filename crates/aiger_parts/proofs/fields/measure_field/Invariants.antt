use Rattle.std.proofs.Common.{◌≡◌, ◌+◌, drop}
use Rattle.aiger_parts.specs.Reading.{field_length}
use Rattle.aiger_parts.proofs.fields.measure_field.Given as goal

abbrev pub invariant-loop-place : goal.invariant-loop-place
invariant-loop-place l = field_length l.bytes ≡ l.place + field_length (drop l.place l.bytes)
