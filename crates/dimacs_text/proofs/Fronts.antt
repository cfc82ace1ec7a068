-- Bytes that stay at the front.
use Rattle.std.proofs.Math.Seq.{take-length}
use Rattle.std.proofs.Common.{◌≡◌, ◌∙◌, ℕ, refl, ap, ap₂, subst, List, [], ◌∷◌, ◌++◌, length, take, Result, Ok, Err}
use Rattle.std.specs.Prelude.{OnErr}

same_head : (x y : ℕ) (xs ys : List ℕ) → x ∷ xs ≡ y ∷ ys → x ≡ y
same_head x y xs ys e = cc

pub same_tail : (x y : ℕ) (xs ys : List ℕ) → x ∷ xs ≡ y ∷ ys → xs ≡ ys
same_tail x y xs ys e = cc

no_head : (x : ℕ) (xs : List ℕ) → [] ≡ x ∷ xs → ⊥
no_head x xs e = cc

front_kept : (old extra new : List ℕ) → take (length (old ++ extra)) new ≡ old ++ extra → take (length old) new ≡ old
front_kept [] extra new is = refl
front_kept (x ∷ old) extra [] is = absurd (no_head x (old ++ extra) is)
front_kept (x ∷ old) extra (y ∷ new) is =
    ap₂ (λ (z : ℕ) (zs : List ℕ). z ∷ zs) (same_head y x _ _ is) (front_kept old extra new (same_tail y x _ _ is))

-- what kept bytes that begin with others keeps those
pub still_kept : (old extra mid new : List ℕ) → mid ≡ old ++ extra → take (length mid) new ≡ mid → take (length old) new ≡ old
still_kept old extra mid new is kept = front_kept old extra new (subst (λ (bytes : List ℕ). take (length bytes) new ≡ bytes) is kept)

pub on_err : {T E : Type 0} (r : Result T E) (P : Type 0) → P → OnErr r P
on_err (Ok x) P p = tt
on_err (Err e) P p = p

-- what is unchanged is kept
pub unchanged_kept : (old new : List ℕ) → new ≡ old → take (length old) new ≡ old
unchanged_kept old new is = ap (take (length old)) is ∙ take-length old
