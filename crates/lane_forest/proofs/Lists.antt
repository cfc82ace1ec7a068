-- Lists along lists, and what two lists hold.
use Rattle.std.proofs.Common.{◌≡◌, inl, inr, ℕ, zero, suc, ◌+◌, ◌<◌, ◌≤◌, List, [], ◌∷◌, ◌++◌, map, length, get_or, take, refl, sym, ap, ◌∙◌, subst, arith}
use Rattle.std.proofs.lemmas.List.FromFn.{length-range_with_len, get_or-range_with_len}
use Rattle.std.proofs.lemmas.List.Elements.{Contains-append_left, Contains-append_right, Contains-append_cases}
use Rattle.std.specs.List.{AllPairs, AllZip, Contains, flat_map, range_with_len}

pub zip_append : {A B : Type 0} (R : A → B → Type 0) (xs : List A) (ys : List B) (us : List A) (vs : List B) → AllZip R xs ys → AllZip R us vs → AllZip R (xs ++ us) (ys ++ vs)
zip_append R [] [] us vs zip more = more
zip_append R [] (y ∷ ys) us vs zip more = absurd zip
zip_append R (x ∷ xs) [] us vs zip more = absurd zip
zip_append R (x ∷ xs) (y ∷ ys) us vs zip more = (zip.0, zip_append R xs ys us vs zip.1 more)

-- what stands beside an element
pub zip_find : {A B : Type 0} (R : A → B → Type 0) (xs : List A) (ys : List B) (x : A) → AllZip R xs ys → Contains xs x → (y : B) × R x y × (k : ℕ) × (k < length xs) × (k < length ys) × (get_or ys k y ≡ y)
zip_find R [] ys x zip (k, l, e) = absurd (omega arith)
zip_find R (z ∷ xs) [] x zip has = absurd zip
zip_find R (z ∷ xs) (y ∷ ys) x zip (zero, l, e) = (y, subst (λ a. R a y) e zip.0, 0, omega arith, omega arith, refl)
zip_find R (z ∷ xs) (y ∷ ys) x zip (suc k, l, e) = let f = zip_find R xs ys x zip.1 (k, omega arith, e) in (f.0, f.1, suc f.2, (let a = f.3 in omega arith), (let a = f.4 in omega arith), f.5)

-- and before it
pub zip_found : {A B : Type 0} (R : A → B → Type 0) (xs : List A) (ys : List B) (y : B) → AllZip R xs ys → Contains ys y → (x : A) × R x y × Contains xs x
zip_found R xs [] y zip (k, l, e) = absurd (omega arith)
zip_found R [] (z ∷ ys) y zip has = absurd zip
zip_found R (x ∷ xs) (z ∷ ys) y zip (zero, l, e) = (x, subst (λ b. R x b) e zip.0, (0, omega arith, refl))
zip_found R (x ∷ xs) (z ∷ ys) y zip (suc k, l, e) = let f = zip_found R xs ys y zip.1 (k, omega arith, e) in (f.0, f.1, (suc f.2.0, (let a = f.2.1 in omega arith), f.2.2))

pub zip_length : {A B : Type 0} (R : A → B → Type 0) (xs : List A) (ys : List B) → AllZip R xs ys → length xs ≡ length ys
zip_length R [] [] zip = refl
zip_length R [] (y ∷ ys) zip = absurd zip
zip_length R (x ∷ xs) [] zip = absurd zip
zip_length R (x ∷ xs) (y ∷ ys) zip = ap suc (zip_length R xs ys zip.1)

pub zip_at : {A B : Type 0} (R : A → B → Type 0) (xs : List A) (ys : List B) (i : ℕ) (d : A) (e : B) → AllZip R xs ys → i < length xs → R (get_or xs i d) (get_or ys i e)
zip_at R [] ys i d e zip l = absurd (omega arith)
zip_at R (x ∷ xs) [] i d e zip l = absurd zip
zip_at R (x ∷ xs) (y ∷ ys) zero d e zip l = zip.0
zip_at R (x ∷ xs) (y ∷ ys) (suc i) d e zip l = zip_at R xs ys i d e zip.1 (omega arith)

-- what tells elements of one list apart tells those of the other
pub zip_pairs : {A B : Type 0} (R : A → B → Type 0) (D : A → A → Type 0) (E : B → B → Type 0) → ((x u : A) (y v : B) → R x y → R u v → D x u → E y v) → (xs : List A) (ys : List B) → AllZip R xs ys → AllPairs D xs → AllPairs E ys
zip_pairs R D E step [] [] zip pairs i j d l m = absurd (omega arith)
zip_pairs R D E step [] (y ∷ ys) zip pairs i j d l m = absurd zip
zip_pairs R D E step (x ∷ xs) ys zip pairs i j d l m =
    let n = zip_length R (x ∷ xs) ys zip in
    step (get_or (x ∷ xs) i x) (get_or (x ∷ xs) j x) (get_or ys i d) (get_or ys j d) (zip_at R (x ∷ xs) ys i x d zip (omega arith)) (zip_at R (x ∷ xs) ys j x d zip (omega arith)) (pairs i j x l (omega arith))

-- an element of a joined list comes from one of the parts
pub contains_flat : {A B : Type 0} (f : A → List B) (xs : List A) (y : B) → Contains (flat_map f xs) y → (x : A) × Contains xs x × Contains (f x) y
contains_flat f [] y (k, l, e) = absurd (omega arith)
contains_flat f (x ∷ xs) y has = elim (Contains-append_cases (f x) (flat_map f xs) y has) [
  | inl here ↦ (x, (0, omega arith, refl), here)
  | inr later ↦ (let r = contains_flat f xs y later in (r.0, (suc r.1.0, (let a = r.1.1 in omega arith), r.1.2), r.2))
]

-- and each element of a part is in it
pub flat_contains : {A B : Type 0} (f : A → List B) (xs : List A) (x : A) (y : B) → Contains xs x → Contains (f x) y → Contains (flat_map f xs) y
flat_contains f [] x y (k, l, e) has = absurd (omega arith)
flat_contains f (z ∷ xs) x y (zero, l, e) has = Contains-append_left (f z) (flat_map f xs) y (subst (λ a. Contains (f a) y) (sym e) has)
flat_contains f (z ∷ xs) x y (suc k, l, e) has = Contains-append_right (f z) (flat_map f xs) y (flat_contains f xs x y (k, omega arith, e) has)

pub contains_mapped : {A B : Type 0} (f : A → B) (xs : List A) (y : B) → Contains (map f xs) y → (x : A) × Contains xs x × (f x ≡ y)
contains_mapped f [] y (k, l, e) = absurd (omega arith)
contains_mapped f (x ∷ xs) y (zero, l, e) = (x, (0, omega arith, refl), e)
contains_mapped f (x ∷ xs) y (suc k, l, e) = let r = contains_mapped f xs y (k, omega arith, e) in (r.0, (suc r.1.0, (let a = r.1.1 in omega arith), r.1.2), r.2)

pub map_contains : {A B : Type 0} (f : A → B) (xs : List A) (x : A) → Contains xs x → Contains (map f xs) (f x)
map_contains f [] x (k, l, e) = absurd (omega arith)
map_contains f (z ∷ xs) x (zero, l, e) = (0, omega arith, ap f e)
map_contains f (z ∷ xs) x (suc k, l, e) = let r = map_contains f xs x (k, omega arith, e) in (suc r.0, (let a = r.1 in omega arith), r.2)

pub in_range : (a n k : ℕ) → Contains (range_with_len a n) k → (a ≤ k) × (k < a + n)
in_range a n k (i, l, e) =
    let m = length-range_with_len a n in
    let g : get_or (range_with_len a n) i k ≡ a + i = get_or-range_with_len a n i k (omega arith) in (omega arith, omega arith)

-- an element of the front of a list
pub front_contains : {A : Type 0} (xs : List A) (n k : ℕ) (x : A) → k < n → k < length xs → get_or xs k x ≡ x → Contains (take n xs) x
front_contains [] n k x l m e = absurd (omega arith)
front_contains (z ∷ xs) zero k x l m e = absurd (omega arith)
front_contains (z ∷ xs) (suc n) zero x l m e = (0, omega arith, e)
front_contains (z ∷ xs) (suc n) (suc k) x l m e = let r = front_contains xs n k x (omega arith) (omega arith) e in (suc r.0, (let a = r.1 in omega arith), r.2)

pub map_agree : {X : Type 0} (f g : ℕ → X) (a n : ℕ) → ((k : ℕ) → a ≤ k → k < a + n → f k ≡ g k) → map f (range_with_len a n) ≡ map g (range_with_len a n)
map_agree f g a zero same = refl
map_agree f g a (suc n) same = let head : f a ≡ g a = same a (omega arith) (omega arith) in let tail : map f (range_with_len (a + 1) n) ≡ map g (range_with_len (a + 1) n) = map_agree f g (a + 1) n (λ k l m. same k (omega arith) (omega arith)) in cc

pub map_twice : {X Y Z : Type 0} (f : X → Y) (g : Y → Z) (xs : List X) → map g (map f xs) ≡ map (λ x. g (f x)) xs
map_twice f g [] = refl
map_twice f g (x ∷ xs) = ap (λ ys. g (f x) ∷ ys) (map_twice f g xs)
