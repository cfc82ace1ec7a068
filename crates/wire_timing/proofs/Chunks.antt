-- Places in a list that is made chunk by chunk.
use Rattle.std.proofs.Common.{◌≡◌, ℕ, zero, suc, ◌+◌, ◌<◌, ◌⊎◌, List, [], ◌∷◌, ◌++◌, length, map, refl, sym, ap, ◌∙◌, subst, arith, inl, inr}
use Rattle.std.specs.Prelude.{slice_get, Some}
use Rattle.std.specs.List.{flat_map, enumerate_from, range_with_len}

module _ {Y : Type 0} where
  abbrev pub At : List Y → ℕ → Y → Type 0
  At xs k y = slice_get xs k ≡ Some y

  -- no element stands at two places
  abbrev pub IsDistinct : List Y → Type 0
  IsDistinct xs = (i j : ℕ) (y : Y) → At xs i y → At xs j y → i ≡ j

  pub at_left : (xs ys : List Y) (k : ℕ) (y : Y) → At xs k y → At (xs ++ ys) k y
  at_left [] ys k y is = cc
  at_left (x ∷ xs) ys zero y is = is
  at_left (x ∷ xs) ys (suc k) y is = at_left xs ys k y is

  pub at_right : (xs ys : List Y) (k : ℕ) (y : Y) → At ys k y → At (xs ++ ys) (length xs + k) y
  at_right [] ys k y is = let e : 0 + k ≡ k = omega arith in rw e is
  at_right (x ∷ xs) ys k y is = let e : suc (length xs) + k ≡ suc (length xs + k) = omega arith in rw e (at_right xs ys k y is)

  pub at_split : (xs ys : List Y) (k : ℕ) (y : Y) → At (xs ++ ys) k y → At xs k y ⊎ ((m : ℕ) × At ys m y × (k ≡ length xs + m))
  at_split [] ys k y is = inr (k, is, omega arith)
  at_split (x ∷ xs) ys zero y is = inl is
  at_split (x ∷ xs) ys (suc k) y is = elim (at_split xs ys k y is) [
    | inl left ↦ inl left
    | inr (m, at, sum) ↦ inr (m, at, omega arith)
  ]

  distinct_append : (xs ys : List Y) → IsDistinct xs → IsDistinct ys → ((i j : ℕ) (y : Y) → At xs i y → At ys j y → ⊥) → IsDistinct (xs ++ ys)
  distinct_append xs ys one two apart i j y at at' = elim (at_split xs ys i y at) [
    | inl left ↦ elim (at_split xs ys j y at') [
      | inl left' ↦ one i j y left left'
      | inr (m, right, sum) ↦ absurd (apart i m y left right)
    ]
    | inr (m, right, sum) ↦ elim (at_split xs ys j y at') [
      | inl left ↦ absurd (apart j m y left right)
      | inr (m', right', sum') ↦ (let e = two m m' y right right' in omega arith)
    ]
  ]

  module _ {A : Type 0} (g : ℕ × A → List Y) where
    pub chunk_in : (start : ℕ) (xs : List A) (k : ℕ) (y : Y) → At (flat_map g (enumerate_from start xs)) k y → (i : ℕ) × (x : A) × (slice_get xs i ≡ Some x) × (m : ℕ) × At (g (start + i, x)) m y
    chunk_in start [] k y is = cc
    chunk_in start (x ∷ xs) k y is = elim (at_split (g (start, x)) (flat_map g (enumerate_from (start + 1) xs)) k y is) [
      | inl left ↦ (0, x, refl, k, (let e : start ≡ start + 0 = omega arith in subst (λ (n : ℕ). At (g (n, x)) k y) e left))
      | inr (m, right, sum) ↦
          (let rest = chunk_in (start + 1) xs m y right in
          let e : start + 1 + rest.0 ≡ start + suc rest.0 = omega arith in (suc rest.0, rest.1, rest.2, rest.3, subst (λ (n : ℕ). At (g (n, rest.1)) rest.3 y) e rest.4))
    ]

    module _ (tag : Y → ℕ) (tagged : (n : ℕ) (x : A) (m : ℕ) (y : Y) → At (g (n, x)) m y → tag y ≡ n) (each : (n : ℕ) (x : A) → IsDistinct (g (n, x))) where
      pub chunks_distinct : (start : ℕ) (xs : List A) → IsDistinct (flat_map g (enumerate_from start xs))
      chunks_distinct start [] = λ i j y one two. cc
      chunks_distinct start (x ∷ xs) = distinct_append (g (start, x)) (flat_map g (enumerate_from (start + 1) xs)) (each start x) (chunks_distinct (start + 1) xs)
          (λ i j y at at'.
          let rest = chunk_in (start + 1) xs j y at' in
          let one = tagged start x i y at in
          let two = tagged (start + 1 + rest.0) rest.1 rest.3 y rest.4 in absurd (omega arith))

    -- chunks of one element each
    pub chunks_one : (f : ℕ → Y) (start : ℕ) (xs : List A) → ((i : ℕ) (x : A) → slice_get xs i ≡ Some x → g (start + i, x) ≡ f (start + i) ∷ []) → flat_map g (enumerate_from start xs) ≡ map f (range_with_len start (length xs))
    chunks_one f start [] each = refl
    chunks_one f start (x ∷ xs) each =
        let e : start + 0 ≡ start = omega arith in
        let here : g (start, x) ≡ f start ∷ [] = subst (λ (n : ℕ). g (n, x) ≡ f n ∷ []) e (each 0 x refl) in
        let rest = chunks_one f (start + 1) xs (λ i y is. let e : start + suc i ≡ start + 1 + i = omega arith in subst (λ (n : ℕ). g (n, y) ≡ f n ∷ []) e (each (suc i) y is)) in
        ap (λ (ys : List Y). ys ++ flat_map g (enumerate_from (start + 1) xs)) here ∙ ap (λ (ys : List Y). f start ∷ ys) rest

  -- the elements of a range
  pub range_in : (f : ℕ → Y) (a c m : ℕ) (y : Y) → At (map f (range_with_len a c)) m y → (m < c) × (y ≡ f (a + m))
  range_in f a zero m y is = cc
  range_in f a (suc c) zero y is = (omega arith, (let same : f a ≡ y = cc in let e : a ≡ a + 0 = omega arith in sym same ∙ ap f e))
  range_in f a (suc c) (suc m) y is = let rest = range_in f (a + 1) c m y is in let e : a + 1 + m ≡ a + suc m = omega arith in (omega (arith, rest.0), rest.1 ∙ ap f e)

  pub range_from : (f : ℕ → Y) (a c m : ℕ) → m < c → At (map f (range_with_len a c)) m (f (a + m))
  range_from f a zero m l = absurd (omega arith)
  range_from f a (suc c) zero l = let e : a ≡ a + 0 = omega arith in ap (λ (n : ℕ). Some (f n)) e
  range_from f a (suc c) (suc m) l = let e : a + 1 + m ≡ a + suc m = omega arith in range_from f (a + 1) c m (omega arith) ∙ ap (λ (n : ℕ). Some (f n)) e
