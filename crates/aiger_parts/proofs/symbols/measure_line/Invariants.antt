use Rattle.std.proofs.Common.{◌≡◌, ◌+◌, drop}
use Rattle.aiger_parts.specs.Symbols.{line_length}
use Rattle.aiger_parts.proofs.symbols.measure_line.Given as goal

abbrev pub invariant-loop-place : goal.invariant-loop-place
invariant-loop-place l = line_length l.bytes ≡ l.place + line_length (drop l.place l.bytes)
