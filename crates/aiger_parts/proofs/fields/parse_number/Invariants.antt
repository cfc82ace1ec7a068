use Rattle.std.proofs.Common.{◌≡◌, Some, drop}
use Rattle.aiger_parts.specs.Reading.{number_of, number_from}
use Rattle.aiger_parts.proofs.fields.parse_number.Given as goal

abbrev pub invariant-loop-byte : goal.invariant-loop-byte
invariant-loop-byte l = number_of l.field ≡ number_from (Some l.value) (drop l.byte-index l.field)
