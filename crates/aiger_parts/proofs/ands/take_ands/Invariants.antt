use Rattle.std.proofs.Common.{◌≡◌, ◌-◌, ◌+◌, ◌*◌}
use Rattle.aiger_parts.specs.Reading.{many_at, and_at}
use Rattle.aiger_parts.proofs.Loop.{with_front}
use Rattle.aiger_parts.proofs.ands.take_ands.Given as goal

abbrev pub invariant-loop-place : goal.invariant-loop-place
invariant-loop-place l =
    with_front l.ands (many_at (λ place. and_at (2 * (l.inputs + place + 1))) l.place (l.count - l.place) l.rest) ≡ many_at (λ place. and_at (2 * (l.inputs + place + 1))) 0 l.count l.bytes
