-- The clauses of a formula as a function, up to one more.
use Rattle.std.proofs.Common.{◌≡◌, ◌<◌, ◌≤◌, ◌+◌, ℕ, zero, suc, refl, ap, arith, take, List, [], ◌∷◌, length, get_or, inl, inr, Some, add-one}
use Rattle.std.specs.Prelude.{◌==◌, slice_get, if◌then◌else◌}
use Rattle.std.proofs.Math.Path.{fun_ext}
use Rattle.std.proofs.lemmas.Bool.{eq-eqb}
use Rattle.std.proofs.lemmas.Bool.Decides.{eqb_tells}
use Rattle.rsfq_ids.specs.Formula.{Clause}
use Rattle.lrat_table.specs.Found.{given_at, with_clause}

more_at : (xs : List Clause) (i k : ℕ) (x : Clause) → i < length xs → x ≡ get_or xs i x → (if k == i then Some x else slice_get (take i xs) k) ≡ slice_get (take (suc i) xs) k
more_at [] i k x lt is = absurd (omega arith)
more_at (y ∷ ys) zero zero x lt is = ap Some is
more_at (y ∷ ys) zero (suc k) x lt is = elim (eqb_tells (suc k) 0) [ inl t ↦ absurd (let e = t.1 in omega arith) | inr t ↦ rw t.0 refl ]
more_at (y ∷ ys) (suc i) zero x lt is = elim (eqb_tells 0 (suc i)) [ inl t ↦ absurd (let e = t.1 in omega arith) | inr t ↦ rw t.0 refl ]
more_at (y ∷ ys) (suc i) (suc k) x lt is =
    let rest = more_at ys i k x (omega arith) is in
    elim (eqb_tells k i) [
      | inl t ↦ let same = t.1 in rw (eq-eqb (suc k) (suc i) (ap suc same)) (rw t.0 at rest)
      | inr t ↦ elim (eqb_tells (suc k) (suc i)) [
        | inl u ↦ absurd (t.1 (let e = u.1 in omega arith))
        | inr u ↦ rw u.0 (rw t.0 at rest)
      ]
    ]

given_more_at : (xs : List Clause) (i other : ℕ) (x : Clause) → i < length xs → x ≡ get_or xs i x → with_clause (given_at (take i xs)) (i + 1) x other ≡ given_at (take (i + 1) xs) other
given_more_at xs i zero x lt is = elim (eqb_tells 0 (i + 1)) [
  | inl t ↦ absurd (let e = t.1 in omega arith)
  | inr t ↦ rw t.0 refl
]
given_more_at xs i (suc k) x lt is =
    let rest : (if k == i then Some x else slice_get (take i xs) k) ≡ slice_get (take (i + 1) xs) k = rw add-one (more_at xs i k x lt is) in
    elim (eqb_tells k i) [
      | inl t ↦ let same = t.1 in rw (eq-eqb (suc k) (i + 1) (omega arith)) (rw t.0 at rest)
      | inr t ↦ elim (eqb_tells (suc k) (i + 1)) [
        | inl u ↦ absurd (t.1 (let e = u.1 in omega arith))
        | inr u ↦ rw u.0 (rw t.0 at rest)
      ]
    ]

-- the clauses of a formula up to one more
pub given_more : (xs : List Clause) (i : ℕ) (x : Clause) → i < length xs → x ≡ get_or xs i x → with_clause (given_at (take i xs)) (i + 1) x ≡ given_at (take (i + 1) xs)
given_more xs i x lt is = fun_ext (λ other. given_more_at xs i other x lt is)

pub whole : (xs : List Clause) (i : ℕ) → length xs ≤ i → take i xs ≡ xs
whole [] zero le = refl
whole [] (suc i) le = refl
whole (x ∷ xs) zero le = absurd (omega arith)
whole (x ∷ xs) (suc i) le = ap (λ ys. x ∷ ys) (whole xs i (omega arith))
