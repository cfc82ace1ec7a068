use Rattle.std.proofs.Common.{◌≡◌, ◌-◌}
use Rattle.aiger_parts.specs.Reading.{many_at, literal_at}
use Rattle.aiger_parts.proofs.Loop.{with_front}
use Rattle.aiger_parts.proofs.outputs.take_outputs.Given as goal

abbrev pub invariant-loop : goal.invariant-loop
invariant-loop l = with_front l.literals (many_at (λ place. literal_at l.top) l.counter (l.count - l.counter) l.rest) ≡ many_at (λ place. literal_at l.top) 0 l.count l.bytes
