-- Lists that are mapped, joined and zipped.
use Rattle.std.proofs.Common.{◌≡◌, ◌∙◌, ◌+◌, ℕ, zero, suc, List, [], ◌∷◌, ◌++◌, map, take, sum_by, Some, refl, sym, ap, subst, arith}
use Rattle.std.specs.Prelude.{slice_get}
use Rattle.std.specs.List.{flat_map, enumerate_from, range_with_len, zip}
use Rattle.std.proofs.lemmas.List.{map-append}
use Rattle.std.proofs.lemmas.List.Concat.{flat_map-append}
use Rattle.std.proofs.lemmas.List.Sums.{sum_by-cons}
use Rattle.bind_forms.specs.declared.bound.BoundInstance.{BoundInstance}
use Rattle.flat_places.specs.Pieces.{Piece, empty, joined, pieces_from}

pub map_same : {X Y : Type 0} (f g : X → Y) (xs : List X) → ((x : X) → f x ≡ g x) → map f xs ≡ map g xs
map_same f g [] same = refl
map_same {X} {Y} f g (x ∷ xs) same = ap (λ (y : Y). y ∷ map f xs) (same x) ∙ ap (λ (r : List Y). g x ∷ r) (map_same f g xs same)

-- items that come from mapped items, item by item
pub flat_same : {X Y Z : Type 0} (h : Y → Z) (f : X → List Z) (g : X → List Y) (xs : List X) → ((i : ℕ) (x : X) → slice_get xs i ≡ Some x → f x ≡ map h (g x)) → flat_map f xs ≡ map h (flat_map g xs)
flat_same h f g [] same = refl
flat_same {X} {Y} {Z} h f g (x ∷ xs) same =
    ap (λ (r : List Z). r ++ flat_map f xs) (same 0 x refl)
    ∙ ap (λ (r : List Z). map h (g x) ++ r) (flat_same h f g xs (λ i y e. same (suc i) y e))
    ∙ sym (map-append h (g x) (flat_map g xs))

pub zip_map : {X Y : Type 0} (g : X → Y) (xs ys : List X) → zip (map g xs) (map g ys) ≡ map (λ (p : X × X). (g p.0, g p.1)) (zip xs ys)
zip_map g [] ys = refl
zip_map g (x ∷ xs) [] = refl
zip_map {X} {Y} g (x ∷ xs) (y ∷ ys) = ap (λ (r : List (Y × Y)). (g x, g y) ∷ r) (zip_map g xs ys)

pub numbered_map : {X Y : Type 0} (g : X → Y) (n : ℕ) (xs : List X) → enumerate_from n (map g xs) ≡ map (λ (p : ℕ × X). (p.0, g p.1)) (enumerate_from n xs)
numbered_map g n [] = refl
numbered_map {X} {Y} g n (x ∷ xs) = ap (λ (r : List (ℕ × Y)). (n, g x) ∷ r) (numbered_map g (n + 1) xs)

pub range_map : (g : ℕ → ℕ) (a m n : ℕ) → ((i : ℕ) → g (m + i) ≡ a + i) → range_with_len a n ≡ map g (range_with_len m n)
range_map g a m zero same = refl
range_map g a m (suc n) same =
    let z : m + 0 ≡ m = omega arith in
    let first : a ≡ g m = (let s = same 0 in let t = ap g z in omega (arith, s, t)) in
    ap (λ (x : ℕ). x ∷ range_with_len (a + 1) n) first
    ∙ ap (λ (r : List ℕ). g m ∷ r) (range_map g (a + 1) (m + 1) n (λ i. let s = same (suc i) in let e : m + 1 + i ≡ m + suc i = omega arith in let t = ap g e in omega (arith, s, t)))

-- a part of pieces that is a list, of pieces one after another
pub pieces_list : {X : Type 0} (get : Piece → List X) → ((one other : Piece) → get (joined one other) ≡ get one ++ get other) → get empty ≡ [] → (one : ℕ → BoundInstance → Piece) (size : BoundInstance → ℕ) (f : ℕ × BoundInstance → List X) (base n : ℕ) (xs : List BoundInstance) →
    ((i : ℕ) (x : BoundInstance) → slice_get xs i ≡ Some x → (b : ℕ) → (one b x).places ≡ size x) → ((i : ℕ) (x : BoundInstance) → slice_get xs i ≡ Some x → get (one (base + sum_by size (take i xs)) x) ≡ f (n + i, x)) →
    get (pieces_from one base xs) ≡ flat_map f (enumerate_from n xs)
pieces_list get join none one size f base n [] sizes same = none
pieces_list {X} get join none one size f base n (x ∷ xs) sizes same =
    let b : base + 0 ≡ base = omega arith in
    let m : n + 0 ≡ n = omega arith in
    let first : get (one base x) ≡ f (n, x) = subst (λ (c : ℕ). get (one c x) ≡ f (n, x)) b (subst (λ (k : ℕ). get (one (base + 0) x) ≡ f (k, x)) m (same 0 x refl)) in
    join (one base x) (pieces_from one (base + (one base x).places) xs)
    ∙ ap (λ (r : List X). r ++ get (pieces_from one (base + (one base x).places) xs)) first
    ∙ ap (λ (r : List X). f (n, x) ++ r) (pieces_list get join none one size f (base + (one base x).places) (n + 1) xs (λ i y e. sizes (suc i) y e) (λ i y e.
    let here = sizes 0 x refl base in
    let sum = sum_by-cons size x (take i xs) in
    let c : base + sum_by size (take (suc i) (x ∷ xs)) ≡ base + (one base x).places + sum_by size (take i xs) = omega (arith, here, sum) in
    let k : n + suc i ≡ n + 1 + i = omega arith in
    subst (λ (c : ℕ). get (one c y) ≡ f (n + 1 + i, y)) c (subst (λ (k : ℕ). get (one (base + sum_by size (take (suc i) (x ∷ xs))) y) ≡ f (k, y)) k (same (suc i) y e))))

-- items that come to the same lists
pub flat_each : {X Y : Type 0} (f g : X → List Y) (xs : List X) → ((i : ℕ) (x : X) → slice_get xs i ≡ Some x → f x ≡ g x) → flat_map f xs ≡ flat_map g xs
flat_each f g [] same = refl
flat_each {X} {Y} f g (x ∷ xs) same = ap (λ (r : List Y). r ++ flat_map f xs) (same 0 x refl) ∙ ap (λ (r : List Y). g x ++ r) (flat_each f g xs (λ i y e. same (suc i) y e))

pub map_each : {X Y : Type 0} (f g : X → Y) (xs : List X) → ((i : ℕ) (x : X) → slice_get xs i ≡ Some x → f x ≡ g x) → map f xs ≡ map g xs
map_each f g [] same = refl
map_each {X} {Y} f g (x ∷ xs) same = ap (λ (y : Y). y ∷ map f xs) (same 0 x refl) ∙ ap (λ (r : List Y). g x ∷ r) (map_each f g xs (λ i y e. same (suc i) y e))

pub flat_flat : {X Y Z : Type 0} (f : Y → List Z) (g : X → List Y) (xs : List X) → flat_map f (flat_map g xs) ≡ flat_map (λ x. flat_map f (g x)) xs
flat_flat f g [] = refl
flat_flat {X} {Y} {Z} f g (x ∷ xs) = flat_map-append f (g x) (flat_map g xs) ∙ ap (λ (r : List Z). flat_map f (g x) ++ r) (flat_flat f g xs)
