use Rattle.std.proofs.Common.{ℕ, pos, ◌<◌, get_or}
use Rattle.rsfq_ids.specs.Time.{IsNear}
use Rattle.pulse_laws.proofs.plain.is_far_from_earlier.Given as goal

abbrev pub invariant-loop-k : goal.invariant-loop-k
invariant-loop-k l = (j : ℕ) → j < l.k → IsNear l.dead (get_or l.times j (pos 0)) (get_or l.times l.i (pos 0)) → ⊥
