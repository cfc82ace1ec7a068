use Rattle.std.proofs.Common.{◌≡◌, ◌-◌, []}
use Rattle.aiger_read.specs.Lines.{output_at, more_at}
use Rattle.aiger_read.proofs.lines.take_output_lines.Given as goal

abbrev pub invariant-loop : goal.invariant-loop
invariant-loop l = more_at (λ front. output_at l.top) (l.count - l.counter) l.outputs l.rest ≡ more_at (λ front. output_at l.top) l.count [] l.bytes
