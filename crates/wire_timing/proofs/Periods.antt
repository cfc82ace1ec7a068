-- Whole periods between a pulse and a strobe.
use Rattle.std.proofs.Common.{◌≡◌, ℕ, zero, suc, ◌+◌, ◌<◌, ◌≤◌, ◌⊎◌, ◌↔◌, ℤ, pos, ◌+ℤ◌, ◌-ℤ◌, ◌*ℤ◌, ◌≤ℤ◌, ◌<ℤ◌, arith, inl, inr}
use Rattle.std.proofs.lemmas.Int.{ints}
use Rattle.std.proofs.lemmas.Bool.{cases_lt}
use Rattle.rsfq_ids.specs.declared.circuit.Strobe.{Strobe}
use Rattle.rsfq_ids.specs.Time.{IsInZone}
use Rattle.wire_timing.specs.Reach.{IsStepCount}

pub times_suc : (k : ℕ) (t : ℤ) → (pos (suc k) *ℤ t) ≡ ((pos k *ℤ t) +ℤ t)
times_suc k t = omega (arith, ints)

times_zero : (t : ℤ) → (pos 0 *ℤ t) ≡ pos 0
times_zero t = omega (arith, ints)

pub times_add : (a b : ℕ) (t : ℤ) → (pos (a + b) *ℤ t) ≡ ((pos a *ℤ t) +ℤ (pos b *ℤ t))
times_add a b t = omega (arith, ints)

pub times_positive : (a : ℕ) (t : ℤ) → pos 1 ≤ℤ t → pos 0 ≤ℤ (pos a *ℤ t)
times_positive zero t l = omega (arith, ints)
times_positive (suc a) t l = let h = times_positive a t l in let e = times_suc a t in omega (arith, ints)

times_mono : (a b : ℕ) (t : ℤ) → pos 1 ≤ℤ t → a ≤ b → (pos a *ℤ t) ≤ℤ (pos b *ℤ t)
times_mono zero b t l h = let g = times_positive b t l in let e = times_zero t in omega (arith, ints)
times_mono (suc a) zero t l h = absurd (omega arith)
times_mono (suc a) (suc b) t l h = let g = times_mono a b t l (omega arith) in let e = times_suc a t in let f = times_suc b t in omega (arith, ints)

module _ (T : ℤ) (strobe : Strobe) (low high : ℤ) (q : ℕ) (period : pos 1 ≤ℤ T) (steps : IsStepCount T strobe high q) where
  -- a pulse so many numbers behind is before the zone
  pub before_zone : (p n : ℕ) (d : ℤ) → d ≤ℤ high → p + q ≤ n → ((pos p *ℤ T) +ℤ d) ≤ℤ ((strobe.offset +ℤ (pos n *ℤ T)) -ℤ strobe.setup)
  before_zone p n d l h = let g = times_mono (p + q) n T period h in let e = times_add p q T in let b = steps.below in omega (arith, ints)

  -- and so a pulse in the zone is not so far behind
  pub reaches_zone : (p n : ℕ) (d : ℤ) → d ≤ℤ high → IsInZone strobe.setup strobe.hold (strobe.offset +ℤ (pos n *ℤ T)) ((pos p *ℤ T) +ℤ d) → n < p + q
  reaches_zone p n d l zone = elim (cases_lt n (p + q)) [
    | inl below ↦ below
    | inr above ↦ (let b = before_zone p n d l above in let a = zone.after in absurd (omega (arith, ints)))
  ]

  module _ (clear : (strobe.offset +ℤ strobe.hold +ℤ (pos q *ℤ T)) ≤ℤ (low +ℤ T)) where
    -- a pulse that is not so many numbers behind is behind the zone
    behind_zone : (p n : ℕ) (d : ℤ) → low ≤ℤ d → n < p + q → (strobe.offset +ℤ (pos n *ℤ T) +ℤ strobe.hold) ≤ℤ ((pos p *ℤ T) +ℤ d)
    behind_zone p n d l h = let g = times_mono (suc n) (p + q) T period (omega arith) in let e = times_add p q T in let f = times_suc n T in omega (arith, ints)

    pub no_zone : (p n : ℕ) (d : ℤ) → low ≤ℤ d → d ≤ℤ high → IsInZone strobe.setup strobe.hold (strobe.offset +ℤ (pos n *ℤ T)) ((pos p *ℤ T) +ℤ d) → ⊥
    no_zone p n d l h zone = let b = behind_zone p n d l (reaches_zone p n d h zone) in let z = zone.before in absurd (omega (arith, ints))

    -- a pulse is later than a strobe exactly where it is not so many numbers behind
    pub later : pos 1 ≤ℤ strobe.setup → pos 1 ≤ℤ strobe.hold → (p n : ℕ) (d : ℤ) → low ≤ℤ d → d ≤ℤ high → ((strobe.offset +ℤ (pos n *ℤ T)) <ℤ ((pos p *ℤ T) +ℤ d)) ↔ (pos n <ℤ (pos p +ℤ pos q))
    later setup hold p n d l h = (λ late. after late (cases_lt n (p + q)), λ less. (let b = behind_zone p n d l (omega (arith, ints)) in omega (arith, ints)))
      where
        after : (strobe.offset +ℤ (pos n *ℤ T)) <ℤ ((pos p *ℤ T) +ℤ d) → (n < p + q) ⊎ (p + q ≤ n) → pos n <ℤ (pos p +ℤ pos q)
        after late (inl below) = omega (arith, ints)
        after late (inr above) = let b = before_zone p n d h above in absurd (omega (arith, ints))
