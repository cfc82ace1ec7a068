-- The first place of a list with one more item.
use Rattle.std.proofs.Common.{◌≡◌, ◌∙◌, ◌||◌, ◌+◌, ℕ, Bool, true, false, sym, refl, ap, arith, List, [], ◌∷◌, ◌++◌, length, Option, Some, None}
use Rattle.std.specs.Prelude.{nat_lt, position}
use Rattle.std.specs.List.{list_any, position_or_len}
use Rattle.std.proofs.lemmas.Bool.{lt-ltb, le-ltb}
use Rattle.std.proofs.lemmas.List.Folds.{list_any-append}
use Rattle.table_fields.proofs.Places.{place_new, place_there}

pub some_place : {X : Type 0} (p : X → Bool) (xs : List X) → list_any p xs ≡ true → position p xs ≡ Some (position_or_len p xs)
some_place p xs any = rw (lt-ltb _ _ (place_there p xs any)) refl

no_place_len : {X : Type 0} (p : X → Bool) (xs : List X) → list_any p xs ≡ false → position_or_len p xs ≡ length xs
no_place_len p [] none = refl
no_place_len p (x ∷ xs) none = go (p x) refl none (no_place_len p xs)
  where
    go : (b : Bool) → p x ≡ b → (b || list_any p xs) ≡ false → (list_any p xs ≡ false → position_or_len p xs ≡ length xs) → position_or_len p (x ∷ xs) ≡ length (x ∷ xs)
    go true is bad later = cc
    go false is none later = let same = later none in rw is (omega arith)

pub no_place : {X : Type 0} (p : X → Bool) (xs : List X) → list_any p xs ≡ false → position p xs ≡ None
no_place p xs none =
    let len = no_place_len p xs none in
    let past : nat_lt (position_or_len p xs) (length xs) ≡ false = rw len (le-ltb (length xs) (length xs) (omega arith)) in
    rw past refl

kept_place : {X : Type 0} (p : X → Bool) (xs ys : List X) → list_any p xs ≡ true → position_or_len p (xs ++ ys) ≡ position_or_len p xs
kept_place p [] ys any = cc
kept_place p (x ∷ xs) ys any = go (p x) refl any (λ later. kept_place p xs ys later)
  where
    go : (b : Bool) → p x ≡ b → (b || list_any p xs) ≡ true → (list_any p xs ≡ true → position_or_len p (xs ++ ys) ≡ position_or_len p xs) → position_or_len p (x ∷ xs ++ ys) ≡ position_or_len p (x ∷ xs)
    go true is any later = rw is refl
    go false is any later = rw is (ap (λ n. 1 + n) (later any))

or_true : (b : Bool) → (b || true) ≡ true
or_true true = refl
or_true false = refl

or_false : (b : Bool) → (b || false) ≡ b
or_false true = refl
or_false false = refl

-- an item that does not pass changes nothing
pub place_passed : {X : Type 0} (p : X → Bool) (xs : List X) (x : X) → p x ≡ false → position p (xs ++ x ∷ []) ≡ position p xs
place_passed p xs x not_so = go (list_any p xs) refl
  where
    any : list_any p (xs ++ x ∷ []) ≡ list_any p xs
    any = list_any-append p xs (x ∷ []) ∙ (ap (λ b. list_any p xs || (b || false)) not_so ∙ or_false (list_any p xs))

    go : (b : Bool) → list_any p xs ≡ b → position p (xs ++ x ∷ []) ≡ position p xs
    go true is = some_place p (xs ++ x ∷ []) (any ∙ is) ∙ (ap Some (kept_place p xs (x ∷ []) is) ∙ sym (some_place p xs is))
    go false is = no_place p (xs ++ x ∷ []) (any ∙ is) ∙ sym (no_place p xs is)

-- the first item that passes stands at the end
pub place_found : {X : Type 0} (p : X → Bool) (xs : List X) (x : X) → position p xs ≡ None → p x ≡ true → position p (xs ++ x ∷ []) ≡ Some (length xs)
place_found p xs x none so = go (list_any p xs) refl
  where
    any : list_any p (xs ++ x ∷ []) ≡ true
    any = list_any-append p xs (x ∷ []) ∙ (ap (λ b. list_any p xs || (b || false)) so ∙ or_true (list_any p xs))

    go : (b : Bool) → list_any p xs ≡ b → position p (xs ++ x ∷ []) ≡ Some (length xs)
    go true is = let bad : ◌≡◌ {A = Option ℕ} None (Some (position_or_len p xs)) = sym none ∙ some_place p xs is in cc
    go false is = some_place p (xs ++ x ∷ []) any ∙ ap Some (place_new p xs x is so ∙ no_place_len p xs is)
