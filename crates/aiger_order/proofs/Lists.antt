-- Items of lists after a write or an item more.
use Rattle.std.proofs.Common.{◌≡◌, ◌≢◌, ◌⊎◌, inl, inr, ◌∙◌, ◌<◌, ◌≤◌, ◌+◌, ℕ, Bool, true, false, cond, zero, suc, refl, ap, sym, subst, arith, List, [], ◌∷◌, ◌++◌, length, take, drop, get_or, None, Some}
use Rattle.std.specs.Prelude.{slice_get, slice_set, replicate}
use Rattle.std.specs.List.{AllPairs, count_by, sum_by}
use Rattle.std.proofs.lemmas.List.{take-append-drop}
use Rattle.std.proofs.lemmas.Option.{same_Some, slice_get_within, get_or_from_slice_get, slice_get-get_or}
use Rattle.std.proofs.lemmas.List.Sums.{sum_by-set, sum_by-drop_more}
use Rattle.aiger_order.specs.Numbers.{HoldsOnce}

module _ {A : Type 0} where
  pub none_past : (xs : List A) (i : ℕ) → slice_get xs i ≡ None → length xs ≤ i
  none_past [] i e = omega arith
  none_past (x ∷ xs) zero e = absurd cc
  none_past (x ∷ xs) (suc i) e = let le = none_past xs i e in omega arith

  pub get_more : (xs ys : List A) (i : ℕ) (x : A) → slice_get xs i ≡ Some x → slice_get (xs ++ ys) i ≡ Some x
  get_more [] ys i x e = absurd cc
  get_more (z ∷ xs) ys zero x e = e
  get_more (z ∷ xs) ys (suc i) x e = get_more xs ys i x e

  pub get_last : (xs : List A) (y : A) → slice_get (xs ++ y ∷ []) (length xs) ≡ Some y
  get_last [] y = refl
  get_last (x ∷ xs) y = get_last xs y

  -- an item of a list with one more is one of before, or the last
  pub get_cases : (xs : List A) (y : A) (i : ℕ) (x : A) → slice_get (xs ++ y ∷ []) i ≡ Some x → (slice_get xs i ≡ Some x) ⊎ ((i ≡ length xs) × (y ≡ x))
  get_cases [] y zero x e = inr (refl, same_Some y x e)
  get_cases [] y (suc i) x e = absurd cc
  get_cases (z ∷ xs) y zero x e = inl e
  get_cases (z ∷ xs) y (suc i) x e = elim (get_cases xs y i x e) [ inl is ↦ inl is | inr is ↦ inr (ap suc is.0, is.1) ]

  -- an item of two lists is one of the first, or one of the second
  pub get_parts : (xs ys : List A) (i : ℕ) (x : A) → slice_get (xs ++ ys) i ≡ Some x → (slice_get xs i ≡ Some x) ⊎ ((k : ℕ) × (i ≡ length xs + k) × (slice_get ys k ≡ Some x))
  get_parts [] ys i x e = inr (i, omega arith, e)
  get_parts (z ∷ xs) ys zero x e = inl e
  get_parts (z ∷ xs) ys (suc i) x e = elim (get_parts xs ys i x e) [ inl is ↦ inl is | inr is ↦ inr (is.0, (let at = is.1 in omega arith), is.2) ]

  pub get_behind : (xs ys : List A) (k : ℕ) → slice_get (xs ++ ys) (length xs + k) ≡ slice_get ys k
  get_behind [] ys k = ap (slice_get ys) (omega arith)
  get_behind (x ∷ xs) ys k =
      let at : length (x ∷ xs) + k ≡ suc (length xs + k) = omega arith in
      ap (slice_get (x ∷ xs ++ ys)) at ∙ get_behind xs ys k

  pub set_same : (xs : List A) (i : ℕ) (y : A) → i < length xs → slice_get (slice_set xs i y) i ≡ Some y
  set_same [] i y lt = absurd (omega arith)
  set_same (x ∷ xs) zero y lt = refl
  set_same (x ∷ xs) (suc i) y lt = set_same xs i y (omega arith)

  pub set_other : (xs : List A) (i j : ℕ) (y : A) → i ≢ j → slice_get (slice_set xs i y) j ≡ slice_get xs j
  set_other [] i j y ne = refl
  set_other (x ∷ xs) zero zero y ne = absurd (ne refl)
  set_other (x ∷ xs) zero (suc j) y ne = refl
  set_other (x ∷ xs) (suc i) zero y ne = refl
  set_other (x ∷ xs) (suc i) (suc j) y ne = set_other xs i j y (λ e. ne (ap suc e))

  -- one that passed and passes no more
  pub count_set : (p : A → Bool) (xs : List A) (i : ℕ) (x y : A) → slice_get xs i ≡ Some x → p x ≡ true → p y ≡ false → suc (count_by p (slice_set xs i y)) ≡ count_by p xs
  count_set p xs i x y e before after =
      let f : A → ℕ = λ z. cond (p z) 1 0 in
      let lt = slice_get_within xs i x e in
      let sum : sum_by f (slice_set xs i y) + f (get_or xs i x) ≡ sum_by f xs + f y = sum_by-set f xs i y x lt in
      let old : f (get_or xs i x) ≡ 1 = rw (get_or_from_slice_get xs i x x e, before) refl in
      let new : f y ≡ 0 = rw after refl in
      omega arith

  pub count_replicate : (p : A → Bool) (n : ℕ) (x : A) → p x ≡ true → count_by p (replicate n x) ≡ n
  count_replicate p zero x passes = refl
  count_replicate p (suc n) x passes =
      let f : A → ℕ = λ z. cond (p z) 1 0 in
      let ih : sum_by f (replicate n x) ≡ n = count_replicate p n x passes in
      let first : sum_by f (x ∷ replicate n x) ≡ f x + sum_by f (replicate n x) = sum_by-drop_more f (x ∷ replicate n x) 0 x (omega arith) in
      let one : f x ≡ 1 = rw passes refl in
      first ∙ omega arith

  pub get_replicate : (n : ℕ) (x : A) (i : ℕ) (y : A) → slice_get (replicate n x) i ≡ Some y → x ≡ y
  get_replicate zero x i y e = absurd cc
  get_replicate (suc n) x zero y e = same_Some x y e
  get_replicate (suc n) x (suc i) y e = get_replicate n x i y e

  pub get_inside : (xs : List A) (i : ℕ) → i < length xs → (x : A) × (slice_get xs i ≡ Some x)
  get_inside [] i lt = absurd (omega arith)
  get_inside (x ∷ xs) zero lt = (x, refl)
  get_inside (x ∷ xs) (suc i) lt = get_inside xs i (omega arith)

-- ---- lists without an item twice

pub once_more : (xs : List ℕ) (x : ℕ) → HoldsOnce xs → ((at : ℕ) → slice_get xs at ≢ Some x) → HoldsOnce (xs ++ x ∷ [])
once_more xs x once new i j y e f = elim (get_cases xs x i y e) [
  | inl here ↦ elim (get_cases xs x j y f) [
    | inl there ↦ once i j y here there
    | inr there ↦ absurd (new i (here ∙ ap Some (sym there.1)))
  ]
  | inr here ↦ elim (get_cases xs x j y f) [
    | inl there ↦ absurd (new j (there ∙ ap Some (sym here.1)))
    | inr there ↦ here.0 ∙ sym there.0
  ]
]

pub once_behind : (xs ys : List ℕ) → HoldsOnce (xs ++ ys) → HoldsOnce ys
once_behind xs ys once i j y e f =
    let same = once (length xs + i) (length xs + j) y (get_behind xs ys i ∙ e) (get_behind xs ys j ∙ f) in
    omega arith

pub once_dropped : (xs : List ℕ) (n : ℕ) → HoldsOnce xs → HoldsOnce (drop n xs)
once_dropped xs n once = once_behind (take n xs) (drop n xs) (subst HoldsOnce (sym (take-append-drop n xs)) once)

once_swapped : (xs ys : List ℕ) → HoldsOnce (xs ++ ys) → HoldsOnce (ys ++ xs)
once_swapped xs ys once i j y e f = elim (get_parts ys xs i y e) [
  | inl here ↦ elim (get_parts ys xs j y f) [
    | inl there ↦ once_behind xs ys once i j y here there
    | inr there ↦
        let same : length xs + i ≡ there.0 = once (length xs + i) there.0 y (get_behind xs ys i ∙ here) (get_more xs ys there.0 y there.2) in
        let lt = slice_get_within xs there.0 y there.2 in
        absurd (omega arith)
  ]
  | inr here ↦ elim (get_parts ys xs j y f) [
    | inl there ↦
        let same : length xs + j ≡ here.0 = once (length xs + j) here.0 y (get_behind xs ys j ∙ there) (get_more xs ys here.0 y here.2) in
        let lt = slice_get_within xs here.0 y here.2 in
        absurd (omega arith)
    | inr there ↦
        let same : here.0 ≡ there.0 = once here.0 there.0 y (get_more xs ys here.0 y here.2) (get_more xs ys there.0 y there.2) in
        here.1 ∙ (ap (λ (k : ℕ). length ys + k) same ∙ sym there.1)
  ]
]

pub once_turned : (xs : List ℕ) (n : ℕ) → HoldsOnce xs → HoldsOnce (drop n xs ++ take n xs)
once_turned xs n once = once_swapped (take n xs) (drop n xs) (subst HoldsOnce (sym (take-append-drop n xs)) once)

pub once_apart : (xs : List ℕ) → HoldsOnce xs → AllPairs (λ one other. one ≢ other) xs
once_apart xs once i j d lt within e =
    let same : i ≡ j = once i j (get_or xs j d) (slice_get-get_or xs i d (omega arith) ∙ ap Some e) (slice_get-get_or xs j d within) in
    absurd (omega arith)
