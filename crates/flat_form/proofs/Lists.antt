-- What stands at a place of a list.
use Rattle.std.proofs.Common.{◌≡◌, ◌∙◌, ◌<◌, ◌+◌, ◌⊎◌, inl, inr, ℕ, zero, suc, List, [], ◌∷◌, ◌++◌, map, length, take, Option, Some, None, refl, sym, ap, subst, arith, get_or}
use Rattle.std.specs.Prelude.{slice_get}
use Rattle.std.specs.Option.{option_map}
use Rattle.std.specs.List.{Contains}
use Rattle.std.proofs.lemmas.Option.{slice_get_within, slice_get-get_or, slice_get-map, get_or_from_slice_get}
use Rattle.rsfq_ids.specs.WellFormed.{AreDistinct}

pub some_same : {X : Type 0} (a b : X) → Some a ≡ Some b → a ≡ b
some_same a b e = cc

-- ---- by cases

pub got_none : {X : Type 0} (k : ℕ) (x : X) → slice_get [] k ≡ Some x → ⊥
got_none k x e = let l = slice_get_within [] k x e in absurd (omega arith)

pub got_first : {X : Type 0} (y : X) (xs : List X) (x : X) → slice_get (y ∷ xs) 0 ≡ Some x → y ≡ x
got_first y xs x e = get_or_from_slice_get (y ∷ xs) 0 x x e

pub got_rest : {X : Type 0} (y : X) (xs : List X) (k : ℕ) (x : X) → slice_get (y ∷ xs) (suc k) ≡ Some x → slice_get xs k ≡ Some x
got_rest y xs k x e =
    let l = slice_get_within (y ∷ xs) (suc k) x e in
    let lt : k < length xs = omega arith in
    slice_get-get_or xs k x lt ∙ ap Some (get_or_from_slice_get (y ∷ xs) (suc k) x x e)

pub get_rest : {X : Type 0} (y : X) (xs : List X) (k : ℕ) (x : X) → slice_get xs k ≡ Some x → slice_get (y ∷ xs) (suc k) ≡ Some x
get_rest y xs k x e =
    let l = slice_get_within xs k x e in
    let lt : suc k < length (y ∷ xs) = omega arith in
    slice_get-get_or (y ∷ xs) (suc k) x lt ∙ ap Some (get_or_from_slice_get xs k x x e)

pub get_first : {X : Type 0} (x : X) (xs : List X) → slice_get (x ∷ xs) 0 ≡ Some x
get_first x xs = slice_get-get_or (x ∷ xs) 0 x (omega arith)

pub got_contained : {X : Type 0} (xs : List X) (k : ℕ) (x : X) → slice_get xs k ≡ Some x → Contains xs x
got_contained xs k x e = (k, slice_get_within xs k x e, get_or_from_slice_get xs k x x e)

pub contained_got : {X : Type 0} (xs : List X) (x : X) → Contains xs x → (k : ℕ) × (slice_get xs k ≡ Some x)
contained_got xs x c = (c.0, slice_get-get_or xs c.0 x c.1 ∙ ap Some c.2)

pub contains_here : {X : Type 0} (x : X) (xs : List X) → Contains (x ∷ xs) x
contains_here x xs = (0, omega arith, refl)

pub contains_there : {X : Type 0} (y : X) (xs : List X) (x : X) → Contains xs x → Contains (y ∷ xs) x
contains_there y xs x h = (suc h.0, (let l = h.1 in omega arith), h.2)

pub contains_cons : {X : Type 0} (y : X) (xs : List X) (x : X) → Contains (y ∷ xs) x → (y ≡ x) ⊎ Contains xs x
contains_cons y xs x h = go h.0 h.1 h.2 where
  go : (k : ℕ) → k < length (y ∷ xs) → get_or (y ∷ xs) k x ≡ x → (y ≡ x) ⊎ Contains xs x
  go zero l e = inl e
  go (suc k) l e = inr (k, omega arith, e)

pub contains_none : {X : Type 0} (x : X) → ¬ Contains [] x
contains_none x h = let l = h.1 in absurd (omega arith)

-- ---- two lists, one behind the other

pub split_got : {X : Type 0} (xs ys : List X) (k : ℕ) (x : X) → slice_get (xs ++ ys) k ≡ Some x → ((slice_get xs k ≡ Some x) × (k < length xs)) ⊎ ((j : ℕ) × (k ≡ length xs + j) × (slice_get ys j ≡ Some x))
split_got [] ys k x e = inr (k, omega arith, e)
split_got (z ∷ xs) ys zero x e = inl (get_first z xs ∙ ap Some (got_first z (xs ++ ys) x e), omega arith)
split_got (z ∷ xs) ys (suc k) x e = go (split_got xs ys k x (got_rest z (xs ++ ys) k x e)) where
  go : ((slice_get xs k ≡ Some x) × (k < length xs)) ⊎ ((j : ℕ) × (k ≡ length xs + j) × (slice_get ys j ≡ Some x))
      → ((slice_get (z ∷ xs) (suc k) ≡ Some x) × (suc k < length (z ∷ xs))) ⊎ ((j : ℕ) × (suc k ≡ length (z ∷ xs) + j) × (slice_get ys j ≡ Some x))
  go (inl h) = let l = h.1 in inl (get_rest z xs k x h.0, omega arith)
  go (inr h) = let l = h.1 in inr (h.0, omega arith, h.2)

pub get_left : {X : Type 0} (xs ys : List X) (k : ℕ) (x : X) → slice_get xs k ≡ Some x → slice_get (xs ++ ys) k ≡ Some x
get_left [] ys k x e = absurd (got_none k x e)
get_left (z ∷ xs) ys zero x e = get_first z (xs ++ ys) ∙ ap Some (got_first z xs x e)
get_left (z ∷ xs) ys (suc k) x e = get_rest z (xs ++ ys) k x (get_left xs ys k x (got_rest z xs k x e))

pub get_right : {X : Type 0} (xs ys : List X) (k : ℕ) (x : X) → slice_get ys k ≡ Some x → slice_get (xs ++ ys) (length xs + k) ≡ Some x
get_right [] ys k x e = subst (λ (i : ℕ). slice_get ys i ≡ Some x) (let z : k ≡ 0 + k = omega arith in z) e
get_right (z ∷ xs) ys k x e = subst (λ (i : ℕ). slice_get (z ∷ (xs ++ ys)) i ≡ Some x) (let i : suc (length xs + k) ≡ length (z ∷ xs) + k = omega arith in i) (get_rest z (xs ++ ys) (length xs + k) x (get_right xs ys k x e))

pub take_front : {X : Type 0} (xs ys : List X) → take (length xs) (xs ++ ys) ≡ xs
take_front [] ys = refl
take_front (x ∷ xs) ys = ap (λ (zs : List _). x ∷ zs) (take_front xs ys)

pub take_less : {X : Type 0} (xs ys : List X) (k : ℕ) → k < length xs → take k (xs ++ ys) ≡ take k xs
take_less [] ys k l = absurd (omega arith)
take_less (x ∷ xs) ys zero l = refl
take_less (x ∷ xs) ys (suc k) l = ap (λ (zs : List _). x ∷ zs) (take_less xs ys k (omega arith))

pub taken_before : {X : Type 0} (n : ℕ) (xs : List X) (x : X) → Contains (take n xs) x → (k : ℕ) × (k < n) × (slice_get xs k ≡ Some x)
taken_before zero xs x c = absurd (contains_none x c)
taken_before (suc n) [] x c = absurd (contains_none x c)
taken_before (suc n) (y ∷ xs) x c = go (contains_cons y (take n xs) x c) (taken_before n xs x) where
  go : (y ≡ x) ⊎ Contains (take n xs) x → (Contains (take n xs) x → (k : ℕ) × (k < n) × (slice_get xs k ≡ Some x)) → (k : ℕ) × (k < suc n) × (slice_get (y ∷ xs) k ≡ Some x)
  go (inl e) deep = (0, omega arith, get_first y xs ∙ ap Some e)
  go (inr h) deep = let p = deep h in (suc p.0, (let l = p.1 in omega arith), get_rest y xs p.0 x p.2)

-- ---- lists that are made from others

pub map_got : {X Y : Type 0} (f : X → Y) (xs : List X) (k : ℕ) (x : X) → slice_get xs k ≡ Some x → slice_get (map f xs) k ≡ Some (f x)
map_got f xs k x e = slice_get-map f xs k ∙ ap (option_map f) e

pub got_map : {X Y : Type 0} (f : X → Y) (xs : List X) (k : ℕ) (y : Y) → slice_get (map f xs) k ≡ Some y → (x : X) × (slice_get xs k ≡ Some x) × (f x ≡ y)
got_map {X} {Y} f xs k y e = go (slice_get xs k) refl (sym (slice_get-map f xs k) ∙ e) where
  go : (o : Option X) → slice_get xs k ≡ o → option_map f o ≡ Some y → (x : X) × (slice_get xs k ≡ Some x) × (f x ≡ y)
  go None is g = absurd cc
  go (Some x) is g = (x, is, some_same (f x) y g)

-- so many items, each made from its number
abbrev pub numbered : {X : Type 0} → (ℕ → X) → ℕ → ℕ → List X
numbered make start zero = []
numbered make start (suc n) = make start ∷ numbered make (start + 1) n

pub numbered_length : {X : Type 0} (make : ℕ → X) (start n : ℕ) → length (numbered make start n) ≡ n
numbered_length make start zero = refl
numbered_length make start (suc n) = ap suc (numbered_length make (start + 1) n)

pub numbered_get : {X : Type 0} (make : ℕ → X) (start n k : ℕ) → k < n → slice_get (numbered make start n) k ≡ Some (make (start + k))
numbered_get make start zero k l = absurd (omega arith)
numbered_get make start (suc n) zero l = get_first (make start) (numbered make (start + 1) n) ∙ ap (λ (i : ℕ). Some (make i)) (let z : start ≡ start + 0 = omega arith in z)
numbered_get make start (suc n) (suc k) l =
    get_rest (make start) (numbered make (start + 1) n) k (make (start + suc k)) (numbered_get make (start + 1) n k (omega arith) ∙ ap (λ (i : ℕ). Some (make i)) (let z : start + 1 + k ≡ start + suc k = omega arith in z))

-- ---- names

distinct_tail : (x : List ℕ) (xs : List (List ℕ)) → AreDistinct (x ∷ xs) → AreDistinct xs
distinct_tail x xs h = λ i j d l m. h (suc i) (suc j) d (omega arith) (omega arith)

distinct_head : (x : List ℕ) (xs : List (List ℕ)) → AreDistinct (x ∷ xs) → ¬ Contains xs x
distinct_head x xs h c = let l = c.1 in h 0 (suc c.0) x (omega arith) (omega arith) (sym c.2)

-- the same name stands at one place
pub one_place : (names : List (List ℕ)) → AreDistinct names → (i j : ℕ) (name : List ℕ) → slice_get names i ≡ Some name → slice_get names j ≡ Some name → i ≡ j
one_place [] d i j name e f = absurd (got_none i name e)
one_place (n ∷ ns) d zero zero name e f = refl
one_place (n ∷ ns) d zero (suc j) name e f = absurd (distinct_head n ns d (got_contained ns j n (got_rest n ns j name f ∙ ap Some (sym (got_first n ns name e)))))
one_place (n ∷ ns) d (suc i) zero name e f = absurd (distinct_head n ns d (got_contained ns i n (got_rest n ns i name e ∙ ap Some (sym (got_first n ns name f)))))
one_place (n ∷ ns) d (suc i) (suc j) name e f = ap suc (one_place ns (distinct_tail n ns d) i j name (got_rest n ns i name e) (got_rest n ns j name f))
