use Rattle.std.proofs.Common.{ℕ, ◌<◌}
use Rattle.rsfq_ids.specs.Circuit.{IsPin}
use Rattle.pulse_laws.proofs.plain.net_of.Given as goal

-- no pin so far is the reader
abbrev pub invariant-loop-i : goal.invariant-loop-i
invariant-loop-i l = (k net : ℕ) → k < l.i → IsPin l.flat k l.reader net → ⊥
