-- Places in a list, and in the list of what its elements show.
use Rattle.std.proofs.Common.{◌≡◌, ◌<◌, ◌≤◌, ◌+◌, ◌||◌, ℕ, Bool, cond, true, false, not, refl, ap, arith, List, [], ◌∷◌, ◌++◌, map, length, Some, length-append}
use Rattle.std.specs.Prelude.{position}
use Rattle.std.specs.List.{list_any, position_or_len, prefix_len}
use Rattle.std.specs.Str.{bytes_eq}
use Rattle.std.proofs.lemmas.List.{length-map}
use Rattle.std.proofs.lemmas.Bool.{lt-ltb}
use Rattle.std.proofs.lemmas.Slice.Eq.{bytes_eq-Decides}

prefix_len-map : {X Y : Type 0} (p : Y → Bool) (f : X → Y) (xs : List X) → prefix_len p (map f xs) ≡ prefix_len (λ x. p (f x)) xs
prefix_len-map p f [] = refl
prefix_len-map p f (x ∷ xs) = ap (λ n. cond (p (f x)) (1 + n) 0) (prefix_len-map p f xs)

pub position-map : {X Y : Type 0} (p : Y → Bool) (f : X → Y) (xs : List X) → position p (map f xs) ≡ position (λ x. p (f x)) xs
position-map p f xs = rw (prefix_len-map (λ y. not (p y)) f xs, length-map) refl

list_any-map : {X Y : Type 0} (p : Y → Bool) (f : X → Y) (xs : List X) → list_any p (map f xs) ≡ list_any (λ x. p (f x)) xs
list_any-map p f [] = refl
list_any-map p f (x ∷ xs) = ap (λ b. p (f x) || b) (list_any-map p f xs)

module _ {X : Type 0} (p : X → Bool) where
  pub place_there : (xs : List X) → list_any p xs ≡ true → position_or_len p xs < length xs
  place_there [] e = cc
  place_there (x ∷ xs) e = go (p x) refl (place_there xs)
    where
      go : (b : Bool) → p x ≡ b → (list_any p xs ≡ true → position_or_len p xs < length xs) → position_or_len p (x ∷ xs) < length (x ∷ xs)
      go true is more = rw is (omega arith)
      go false is more =
          let any : list_any p xs ≡ true = rw is at e in
          let less = more any in
          rw is (omega arith)

  pub place_new : (xs : List X) (k : X) → list_any p xs ≡ false → p k ≡ true → position_or_len p (xs ++ k ∷ []) ≡ position_or_len p xs
  place_new [] k e here = rw here refl
  place_new (x ∷ xs) k e here = go (p x) refl (place_new xs k)
    where
      go : (b : Bool) → p x ≡ b → (list_any p xs ≡ false → p k ≡ true → position_or_len p (xs ++ k ∷ []) ≡ position_or_len p xs)
          → position_or_len p (x ∷ xs ++ k ∷ []) ≡ position_or_len p (x ∷ xs)
      go true is more =
          let bad : true ≡ false = rw is at e in
          cc
      go false is more =
          let any : list_any p xs ≡ false = rw is at e in
          rw is (ap (λ n. 1 + n) (more any here))

  place_end : (xs : List X) → position_or_len p xs ≤ length xs
  place_end [] = omega arith
  place_end (x ∷ xs) = go (p x) (place_end xs)
    where
      go : (b : Bool) → position_or_len p xs ≤ length xs → cond (not b) (1 + position_or_len p xs) 0 ≤ length (x ∷ xs)
      go true more = omega arith
      go false more = omega arith

  -- the place of a key after it was put in
  pub place_after : (xs ys : List X) (k : X) → ys ≡ cond (list_any p xs) xs (xs ++ k ∷ []) → p k ≡ true → position p ys ≡ Some (position_or_len p xs)
  place_after xs ys k is here = rw is (go (list_any p xs) refl)
    where
      at : (zs : List X) → position_or_len p zs ≡ position_or_len p xs → position_or_len p xs < length zs → position p zs ≡ Some (position_or_len p xs)
      at zs same lt = rw (same, lt-ltb _ _ lt) refl

      go : (b : Bool) → list_any p xs ≡ b → position p (cond b xs (xs ++ k ∷ [])) ≡ Some (position_or_len p xs)
      go true any = at xs refl (place_there xs any)
      go false any = at (xs ++ k ∷ []) (place_new xs k any here) (let le = place_end xs in omega (arith, length-append xs (k ∷ [])))

pub same_bytes : (t : List ℕ) → bytes_eq t t ≡ true
same_bytes t = (bytes_eq-Decides t t).1 refl
