use Rattle.std.proofs.Common.{ℕ, pos, ◌<◌, get_or}
use Rattle.rsfq_ids.specs.Time.{IsNear}
use Rattle.pulse_laws.proofs.plain.is_apart.Given as goal

-- each time so far is far from all earlier ones
abbrev pub invariant-loop-i : goal.invariant-loop-i
invariant-loop-i l = (j : ℕ) → j < l.i → (k : ℕ) → k < j → IsNear l.dead (get_or l.times k (pos 0)) (get_or l.times j (pos 0)) → ⊥
