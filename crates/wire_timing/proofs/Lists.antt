-- Lists along lists.
use Rattle.std.proofs.Common.{◌≡◌, ℕ, zero, suc, ◌+◌, ◌<◌, List, [], ◌∷◌, ◌++◌, length, get_or, take, refl, sym, ap, subst, arith}
use Rattle.std.proofs.lemmas.List.{take_more}
use Rattle.std.specs.List.{AllZip}

module _ {A B : Type 0} (R : A → B → Type 0) where
  pub zip_push : (xs : List A) (ys : List B) (x : A) (y : B) → AllZip R xs ys → R x y → AllZip R (xs ++ x ∷ []) (ys ++ y ∷ [])
  zip_push [] [] x y zip last = (last, tt)
  zip_push [] (z ∷ ys) x y zip last = absurd zip
  zip_push (w ∷ xs) [] x y zip last = absurd zip
  zip_push (w ∷ xs) (z ∷ ys) x y zip last = (zip.0, zip_push xs ys x y zip.1 last)

  pub zip_length : (xs : List A) (ys : List B) → AllZip R xs ys → length xs ≡ length ys
  zip_length [] [] zip = refl
  zip_length [] (y ∷ ys) zip = absurd zip
  zip_length (x ∷ xs) [] zip = absurd zip
  zip_length (x ∷ xs) (y ∷ ys) zip = ap suc (zip_length xs ys zip.1)

  pub zip_at : (xs : List A) (ys : List B) (i : ℕ) (d : A) (e : B) → AllZip R xs ys → i < length xs → R (get_or xs i d) (get_or ys i e)
  zip_at [] ys i d e zip l = absurd (omega arith)
  zip_at (x ∷ xs) [] i d e zip l = absurd zip
  zip_at (x ∷ xs) (y ∷ ys) zero d e zip l = zip.0
  zip_at (x ∷ xs) (y ∷ ys) (suc i) d e zip l = zip_at xs ys i d e zip.1 (omega arith)

  -- one more of a list that is gone through
  pub zip_more : (xs : List A) (ys ys' : List B) (i : ℕ) (d : A) (y : B) → AllZip R (take i xs) ys → i < length xs → R (get_or xs i d) y → ys' ≡ ys ++ y ∷ [] → AllZip R (take (i + 1) xs) ys'
  zip_more xs ys ys' i d y zip l last made = subst (λ (zs : List B). AllZip R (take (i + 1) xs) zs) (sym made) (subst (λ (ws : List A). AllZip R ws (ys ++ y ∷ [])) (sym (take_more xs i d l)) (zip_push (take i xs) ys (get_or xs i d) y zip last))
