-- Whole periods counted by an unsigned division.
use Rattle.std.proofs.Common.{◌≡◌, ℕ, zero, suc, ◌/◌, ◌≤◌, Fits, w64, ℤ, pos, negsuc, ◌+ℤ◌, ◌-ℤ◌, ◌*ℤ◌, ◌≤ℤ◌, ◌<ℤ◌, subst, sym, ap, ◌∙◌, arith}
use Rattle.std.proofs.lemmas.Int.{ints, to_z_pos, to_z-of_z}
use Rattle.rsfq_ids.specs.declared.circuit.Strobe.{Strobe}
use Rattle.wire_timing.specs.Reach.{IsStepCount}
use Rattle.wire_timing.proofs.Periods.{times_suc}
use mir.Val.{SFits, to_z, of_z}
use lib.IntN.{nat_abs}
use lib.Signed.{non_neg}
use lib.Dec.{T}

pub cast_fits : (x : ℤ) → pos 0 ≤ℤ x → x ≤ℤ pos 1000000000000000 → T (non_neg x) × Fits w64 (nat_abs x)
cast_fits (pos n) l h = (tt, (let small : n ≤ 1000000000000000 = omega (arith, ints) in omega arith))
cast_fits (negsuc n) l h = absurd (omega (arith, ints))

division : (x t : ℤ) → pos 0 ≤ℤ x → pos 1 ≤ℤ t → ((pos (nat_abs x / nat_abs t) *ℤ t) ≤ℤ x) × (x <ℤ ((pos (nat_abs x / nat_abs t) *ℤ t) +ℤ t))
division (negsuc n) t l h = absurd (omega (arith, ints))
division (pos n) (negsuc m) l h = absurd (omega (arith, ints))
division (pos n) (pos zero) l h = absurd (omega (arith, ints))
division (pos n) (pos (suc m)) l h = (omega (arith, ints), omega (arith, ints))

-- the same of values that are shown as they are cast
pub quotient : (x t y u : ℤ) → y ≡ x → u ≡ t → pos 0 ≤ℤ x → pos 1 ≤ℤ t → ((pos (nat_abs y / nat_abs u) *ℤ t) ≤ℤ x) × (x <ℤ ((pos (nat_abs y / nat_abs u) *ℤ t) +ℤ t))
quotient x t y u e f l h =
    subst (λ (z : ℤ). ((pos (nat_abs z / nat_abs u) *ℤ t) ≤ℤ x) × (x <ℤ ((pos (nat_abs z / nat_abs u) *ℤ t) +ℤ t))) (sym e)
    (subst (λ (z : ℤ). ((pos (nat_abs x / nat_abs z) *ℤ t) ≤ℤ x) × (x <ℤ ((pos (nat_abs x / nat_abs z) *ℤ t) +ℤ t))) (sym f) (division x t l h))

times_least : (a : ℕ) (t : ℤ) → pos 1 ≤ℤ t → pos a ≤ℤ (pos a *ℤ t)
times_least zero t l = omega (arith, ints)
times_least (suc a) t l = let h = times_least a t l in let e = times_suc a t in omega (arith, ints)

pub product : (a : ℕ) (t : ℤ) → pos 1 ≤ℤ t → SFits w64 t → (pos a *ℤ t) ≤ℤ pos 1000000000000000 → to_z w64 (of_z w64 (to_z w64 a *ℤ to_z w64 (of_z w64 t))) ≡ (pos a *ℤ t)
product a t l fits small =
    let n = times_least a t l in
    let e : to_z w64 a ≡ pos a = to_z_pos w64 a (omega (arith, ints)) in
    let f : to_z w64 (of_z w64 t) ≡ t = to_z-of_z w64 t fits in
    let whole : SFits w64 (pos a *ℤ t) = omega (arith, ints) in
    ap (λ (z : ℤ). to_z w64 (of_z w64 (z *ℤ to_z w64 (of_z w64 t)))) e ∙ ap (λ (z : ℤ). to_z w64 (of_z w64 (pos a *ℤ z))) f ∙ to_z-of_z w64 (pos a *ℤ t) whole

-- steps counted from what was passed
pub steps_are : (period : ℤ) (strobe : Strobe) (high x y : ℤ) (q : ℕ) → x ≡ ((((high -ℤ strobe.offset) +ℤ strobe.setup) -ℤ pos 1) +ℤ period) → y ≡ period → (pos q *ℤ y) ≤ℤ x → x <ℤ ((pos q *ℤ y) +ℤ y) → IsStepCount period strobe high q
steps_are period strobe high x y q e f from below = record {
  from = subst (λ (z : ℤ). (pos q *ℤ period) ≤ℤ z) e (subst (λ (z : ℤ). (pos q *ℤ z) ≤ℤ x) f from);
  below = subst (λ (z : ℤ). z <ℤ ((pos q *ℤ period) +ℤ period)) e (subst (λ (z : ℤ). x <ℤ ((pos q *ℤ z) +ℤ z)) f below);
}
