-- The items of lists that are made item by item and joined end to end.
use Rattle.std.proofs.Common.{◌≡◌, ◌∙◌, ◌<◌, ◌+◌, ◌⊎◌, inl, inr, ℕ, zero, suc, List, [], ◌∷◌, ◌++◌, map, take, length, Option, Some, None, refl, sym, ap, subst, arith, length-append}
use Rattle.std.specs.Prelude.{slice_get}
use Rattle.std.specs.Option.{option_map}
use Rattle.std.specs.List.{All, flat_map, enumerate_from, range_with_len}
use Rattle.std.proofs.lemmas.Option.{same_Some, slice_get-map, slice_get_within, get_or_from_slice_get}

-- an item of two lists joined is of the first, or of the second
pub joined_got : {X : Type 0} (xs ys : List X) (k : ℕ) (x : X) → slice_get (xs ++ ys) k ≡ Some x → ((k < length xs) × (slice_get xs k ≡ Some x)) ⊎ ((j : ℕ) × (k ≡ length xs + j) × (slice_get ys j ≡ Some x))
joined_got [] ys k x e = inr (k, omega arith, e)
joined_got (z ∷ xs) ys zero x e = inl (omega arith, e)
joined_got (z ∷ xs) ys (suc k) x e = elim (joined_got xs ys k x e) [ inl h ↦ (let l = h.0 in inl (omega arith, h.1)) | inr h ↦ (let l = h.1 in inr (h.0, omega arith, h.2)) ]

pub got_left : {X : Type 0} (xs ys : List X) (k : ℕ) (x : X) → slice_get xs k ≡ Some x → slice_get (xs ++ ys) k ≡ Some x
got_left [] ys k x e = absurd cc
got_left (z ∷ xs) ys zero x e = e
got_left (z ∷ xs) ys (suc k) x e = got_left xs ys k x e

pub got_right : {X : Type 0} (xs ys : List X) (j : ℕ) (x : X) → slice_get ys j ≡ Some x → slice_get (xs ++ ys) (length xs + j) ≡ Some x
got_right [] ys j x e = let z : j ≡ 0 + j = omega arith in subst (λ (n : ℕ). slice_get ys n ≡ Some x) z e
got_right (w ∷ xs) ys j x e = let z : suc (length xs + j) ≡ length (w ∷ xs) + j = omega arith in subst (λ (n : ℕ). slice_get (w ∷ xs ++ ys) n ≡ Some x) z (got_right xs ys j x e)

pub map_got : {X Y : Type 0} (f : X → Y) (xs : List X) (k : ℕ) (y : Y) → slice_get (map f xs) k ≡ Some y → (x : X) × (slice_get xs k ≡ Some x) × (f x ≡ y)
map_got {X} {Y} f xs k y e = go (slice_get xs k) refl (sym (slice_get-map f xs k) ∙ e) where
  go : (o : Option X) → slice_get xs k ≡ o → option_map f o ≡ Some y → (x : X) × (slice_get xs k ≡ Some x) × (f x ≡ y)
  go None is g = absurd cc
  go (Some x) is g = (x, is, same_Some (f x) y g)

pub got_map : {X Y : Type 0} (f : X → Y) (xs : List X) (k : ℕ) (x : X) → slice_get xs k ≡ Some x → slice_get (map f xs) k ≡ Some (f x)
got_map f xs k x e = slice_get-map f xs k ∙ ap (option_map f) e

-- an item of a range is its place from the start on
pub range_got : (a n k x : ℕ) → slice_get (range_with_len a n) k ≡ Some x → (x ≡ a + k) × (k < n)
range_got a zero k x e = absurd cc
range_got a (suc n) zero x e = let same = same_Some a x e in (omega (arith, same), omega arith)
range_got a (suc n) (suc k) x e = let h = range_got (a + 1) n k x e in let p = h.0 in let q = h.1 in (omega arith, omega arith)

pub got_range : (a n k : ℕ) → k < n → slice_get (range_with_len a n) k ≡ Some (a + k)
got_range a zero k l = absurd (omega arith)
got_range a (suc n) zero l = ap Some (omega arith)
got_range a (suc n) (suc k) l = got_range (a + 1) n k (omega arith) ∙ ap Some (omega arith)

-- an item of the list that numbered items come to, joined, comes from one of them
pub flat_got : {X Y : Type 0} (f : ℕ × X → List Y) (n : ℕ) (xs : List X) (k : ℕ) (y : Y) → slice_get (flat_map f (enumerate_from n xs)) k ≡ Some y →
    (i : ℕ) × (x : X) × (j : ℕ) × (slice_get xs i ≡ Some x) × (slice_get (f (n + i, x)) j ≡ Some y) × (k ≡ length (flat_map f (enumerate_from n (take i xs))) + j)
flat_got f n [] k y e = absurd cc
flat_got {X} {Y} f n (x ∷ xs) k y e = elim (joined_got (f (n, x)) (flat_map f (enumerate_from (n + 1) xs)) k y e) [
  | inl h ↦ (let z : n ≡ n + 0 = omega arith in (0, x, k, refl, subst (λ (m : ℕ). slice_get (f (m, x)) k ≡ Some y) z h.1, omega arith))
  | inr h ↦
      let r = flat_got f (n + 1) xs h.0 y h.2 in
      let z : n + 1 + r.0 ≡ n + suc r.0 = omega arith in
      let len = length-append (f (n, x)) (flat_map f (enumerate_from (n + 1) (take r.0 xs))) in
      (suc r.0, r.1, r.2, r.3, subst (λ (m : ℕ). slice_get (f (m, r.1)) r.2 ≡ Some y) z r.4, (let a = h.1 in let b = r.5 in omega (arith, a, b, len)))
]

pub got_flat : {X Y : Type 0} (f : ℕ × X → List Y) (n : ℕ) (xs : List X) (i : ℕ) (x : X) (j : ℕ) (y : Y) → slice_get xs i ≡ Some x → slice_get (f (n + i, x)) j ≡ Some y →
    slice_get (flat_map f (enumerate_from n xs)) (length (flat_map f (enumerate_from n (take i xs))) + j) ≡ Some y
got_flat f n [] i x j y e g = absurd cc
got_flat {X} {Y} f n (w ∷ xs) zero x j y e g =
    let same = same_Some w x e in
    let z : n + 0 ≡ n = omega arith in
    let k : j ≡ 0 + j = omega arith in
    subst (λ (m : ℕ). slice_get (f (n, w) ++ flat_map f (enumerate_from (n + 1) xs)) m ≡ Some y) k
    (got_left (f (n, w)) (flat_map f (enumerate_from (n + 1) xs)) j y (subst (λ (v : X). slice_get (f (n, v)) j ≡ Some y) (sym same) (subst (λ (m : ℕ). slice_get (f (m, x)) j ≡ Some y) z g)))
got_flat {X} {Y} f n (w ∷ xs) (suc i) x j y e g =
    let z : n + suc i ≡ n + 1 + i = omega arith in
    let rest = got_flat f (n + 1) xs i x j y e (subst (λ (m : ℕ). slice_get (f (m, x)) j ≡ Some y) z g) in
    let len = length-append (f (n, w)) (flat_map f (enumerate_from (n + 1) (take i xs))) in
    let k : length (f (n, w)) + (length (flat_map f (enumerate_from (n + 1) (take i xs))) + j) ≡ length (flat_map f (enumerate_from n (take (suc i) (w ∷ xs)))) + j = omega (arith, len) in
    subst (λ (m : ℕ). slice_get (f (n, w) ++ flat_map f (enumerate_from (n + 1) xs)) m ≡ Some y) k (got_right (f (n, w)) (flat_map f (enumerate_from (n + 1) xs)) (length (flat_map f (enumerate_from (n + 1) (take i xs))) + j) y rest)

-- the same of items that are not numbered
pub listed_got : {X Y : Type 0} (f : X → List Y) (xs : List X) (k : ℕ) (y : Y) → slice_get (flat_map f xs) k ≡ Some y → (i : ℕ) × (x : X) × (j : ℕ) × (slice_get xs i ≡ Some x) × (slice_get (f x) j ≡ Some y)
listed_got f [] k y e = absurd cc
listed_got f (x ∷ xs) k y e = elim (joined_got (f x) (flat_map f xs) k y e) [
  | inl h ↦ (0, x, k, refl, h.1)
  | inr h ↦ (let r = listed_got f xs h.0 y h.2 in (suc r.0, r.1, r.2, r.3, r.4))
]

pub got_listed : {X Y : Type 0} (f : X → List Y) (xs : List X) (i : ℕ) (x : X) (j : ℕ) (y : Y) → slice_get xs i ≡ Some x → slice_get (f x) j ≡ Some y → (k : ℕ) × (slice_get (flat_map f xs) k ≡ Some y)
got_listed f [] i x j y e g = absurd cc
got_listed {X} {Y} f (w ∷ xs) zero x j y e g = (j, got_left (f w) (flat_map f xs) j y (subst (λ (v : X). slice_get (f v) j ≡ Some y) (sym (same_Some w x e)) g))
got_listed f (w ∷ xs) (suc i) x j y e g = let r = got_listed f xs i x j y e g in (length (f w) + r.0, got_right (f w) (flat_map f xs) r.0 y r.1)

-- what holds of each item holds of one
pub all_got : {X : Type 0} (P : X → Type 0) (xs : List X) (k : ℕ) (x : X) → All P xs → slice_get xs k ≡ Some x → P x
all_got {X} P xs k x all e = subst P (get_or_from_slice_get xs k x x e) (all k x (slice_get_within xs k x e))

-- a value that comes from an optional one comes from a value
pub mapped_from : {X Y : Type 0} (f : X → Y) (o : Option X) (y : Y) → option_map f o ≡ Some y → (x : X) × (o ≡ Some x) × (f x ≡ y)
mapped_from f None y e = absurd cc
mapped_from f (Some x) y e = (x, refl, same_Some (f x) y e)
