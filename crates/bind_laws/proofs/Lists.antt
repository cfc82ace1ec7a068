-- Lists by the places of their items.
use Rattle.std.proofs.Common.{◌≡◌, ◌≢◌, ◌∙◌, ◌<◌, ◌≤◌, ◌+◌, ◌⊎◌, inl, inr, ℕ, zero, suc, List, [], ◌∷◌, ◌++◌, map, take, length, get_or, Option, Some, None, refl, sym, ap, subst, arith, length-append}
use Rattle.std.specs.Prelude.{slice_get}
use Rattle.std.specs.Option.{option_map}
use Rattle.std.specs.List.{All, AllPairs, AllZip, Contains, flat_map, filter_map, enumerate_from, cons_option}
use Rattle.std.proofs.lemmas.Option.{same_Some, slice_get-map, slice_get_within, slice_get-get_or, get_or_from_slice_get, some_pair_parts}

-- ---- joined lists

-- an item of two lists joined is of the first, or of the second
pub joined_got : {X : Type 0} (xs ys : List X) (k : ℕ) (x : X) → slice_get (xs ++ ys) k ≡ Some x → ((k < length xs) × (slice_get xs k ≡ Some x)) ⊎ ((j : ℕ) × (k ≡ length xs + j) × (slice_get ys j ≡ Some x))
joined_got [] ys k x e = inr (k, omega arith, e)
joined_got (z ∷ xs) ys zero x e = inl (omega arith, e)
joined_got (z ∷ xs) ys (suc k) x e = elim (joined_got xs ys k x e) [ inl h ↦ (let l = h.0 in inl (omega arith, h.1)) | inr h ↦ (let l = h.1 in inr (h.0, omega arith, h.2)) ]

pub got_left : {X : Type 0} (xs ys : List X) (k : ℕ) (x : X) → slice_get xs k ≡ Some x → slice_get (xs ++ ys) k ≡ Some x
got_left [] ys k x e = absurd cc
got_left (z ∷ xs) ys zero x e = e
got_left (z ∷ xs) ys (suc k) x e = got_left xs ys k x e

pub got_right : {X : Type 0} (xs ys : List X) (j : ℕ) (x : X) → slice_get ys j ≡ Some x → slice_get (xs ++ ys) (length xs + j) ≡ Some x
got_right [] ys j x e = let z : j ≡ 0 + j = omega arith in subst (λ (n : ℕ). slice_get ys n ≡ Some x) z e
got_right (w ∷ xs) ys j x e = let z : suc (length xs + j) ≡ length (w ∷ xs) + j = omega arith in subst (λ (n : ℕ). slice_get (w ∷ xs ++ ys) n ≡ Some x) z (got_right xs ys j x e)

pub map_got : {X Y : Type 0} (f : X → Y) (xs : List X) (k : ℕ) (y : Y) → slice_get (map f xs) k ≡ Some y → (x : X) × (slice_get xs k ≡ Some x) × (f x ≡ y)
map_got {X} {Y} f xs k y e = go (slice_get xs k) refl (sym (slice_get-map f xs k) ∙ e) where
  go : (o : Option X) → slice_get xs k ≡ o → option_map f o ≡ Some y → (x : X) × (slice_get xs k ≡ Some x) × (f x ≡ y)
  go None is g = absurd cc
  go (Some x) is g = (x, is, same_Some (f x) y g)

pub got_map : {X Y : Type 0} (f : X → Y) (xs : List X) (k : ℕ) (x : X) → slice_get xs k ≡ Some x → slice_get (map f xs) k ≡ Some (f x)
got_map f xs k x e = slice_get-map f xs k ∙ ap (option_map f) e

-- an item within the length is there
pub got_within : {X : Type 0} (xs : List X) (k : ℕ) → k < length xs → (x : X) × (slice_get xs k ≡ Some x)
got_within [] k l = absurd (omega arith)
got_within (x ∷ xs) zero l = (x, refl)
got_within (x ∷ xs) (suc k) l = got_within xs k (omega arith)

pub one_got : {X : Type 0} (xs : List X) (k : ℕ) (x y : X) → slice_get xs k ≡ Some x → slice_get xs k ≡ Some y → x ≡ y
one_got xs k x y e f = same_Some x y (sym e ∙ f)

pub numbered_got : {X : Type 0} (n : ℕ) (xs : List X) (k : ℕ) (x : X) → slice_get xs k ≡ Some x → slice_get (enumerate_from n xs) k ≡ Some (n + k, x)
numbered_got n [] k x e = absurd cc
numbered_got {X} n (y ∷ xs) zero x e = let same = same_Some y x e in ap (λ (z : X). Some (n, z)) same ∙ ap (λ (m : ℕ). Some (m, x)) (omega arith)
numbered_got n (y ∷ xs) (suc k) x e = numbered_got (n + 1) xs k x e ∙ ap (λ (m : ℕ). Some (m, x)) (omega arith)

pub got_numbered : {X : Type 0} (n : ℕ) (xs : List X) (k : ℕ) (i : ℕ) (x : X) → slice_get (enumerate_from n xs) k ≡ Some (i, x) → (i ≡ n + k) × (slice_get xs k ≡ Some x)
got_numbered n [] k i x e = absurd cc
got_numbered n (y ∷ xs) zero i x e = let both = some_pair_parts n i y x e in let first = both.0 in (omega (arith, first), ap Some both.1)
got_numbered n (y ∷ xs) (suc k) i x e = let r = got_numbered (n + 1) xs k i x e in let f = r.0 in (omega (arith, f), r.1)

-- an item of pieces joined end to end is of one of them
pub flat_got : {X Y : Type 0} (f : X → List Y) (xs : List X) (k : ℕ) (y : Y) → slice_get (flat_map f xs) k ≡ Some y → (i : ℕ) × (x : X) × (j : ℕ) × (slice_get xs i ≡ Some x) × (slice_get (f x) j ≡ Some y)
flat_got f [] k y e = absurd cc
flat_got {X} {Y} f (x ∷ xs) k y e = elim (joined_got (f x) (flat_map f xs) k y e) [
  | inl h ↦ (0, x, k, refl, h.1)
  | inr h ↦ (let r = flat_got f xs h.0 y h.2 in (suc r.0, r.1, r.2, r.3, r.4))
]

-- ---- pieces of lists

-- a list stands in another one, from a place on
abbrev pub Piece : {X : Type 0} → List X → ℕ → List X → Type 0
Piece {X} all at piece = (k : ℕ) (x : X) → slice_get piece k ≡ Some x → slice_get all (at + k) ≡ Some x

pub piece_left : {X : Type 0} (xs ys : List X) → Piece (xs ++ ys) 0 xs
piece_left xs ys k x e = let z : k ≡ 0 + k = omega arith in subst (λ (n : ℕ). slice_get (xs ++ ys) n ≡ Some x) z (got_left xs ys k x e)

pub piece_right : {X : Type 0} (xs ys : List X) → Piece (xs ++ ys) (length xs) ys
piece_right xs ys k x e = got_right xs ys k x e

pub piece_tail : {X : Type 0} (y : X) (xs : List X) → Piece (y ∷ xs) 1 xs
piece_tail y xs k x e = let z : suc k ≡ 1 + k = omega arith in subst (λ (n : ℕ). slice_get (y ∷ xs) n ≡ Some x) z e

pub piece_behind : {X : Type 0} (y : X) (all piece : List X) (at : ℕ) → Piece all at piece → Piece (y ∷ all) (suc at) piece
piece_behind y all piece at inner k x e = let z : suc (at + k) ≡ suc at + k = omega arith in subst (λ (n : ℕ). slice_get (y ∷ all) n ≡ Some x) z (inner k x e)

pub piece_in : {X : Type 0} (all mid piece : List X) (at k : ℕ) → Piece all at mid → Piece mid k piece → Piece all (at + k) piece
piece_in all mid piece at k outer inner j x e =
    let z : at + (k + j) ≡ at + k + j = omega arith in
    subst (λ (n : ℕ). slice_get all n ≡ Some x) z (outer (k + j) x (inner j x e))

pub piece_flat : {X Y : Type 0} (f : X → List Y) (xs : List X) (i : ℕ) (x : X) → slice_get xs i ≡ Some x → Piece (flat_map f xs) (length (flat_map f (take i xs))) (f x)
piece_flat f [] i x e = absurd cc
piece_flat {X} {Y} f (w ∷ xs) zero x e = subst (λ (v : X). Piece (f w ++ flat_map f xs) 0 (f v)) (same_Some w x e) (piece_left (f w) (flat_map f xs))
piece_flat {X} {Y} f (w ∷ xs) (suc i) x e =
    let z : length (f w) + length (flat_map f (take i xs)) ≡ length (flat_map f (take (suc i) (w ∷ xs))) = sym (length-append (f w) (flat_map f (take i xs))) in
    subst (λ (n : ℕ). Piece (f w ++ flat_map f xs) n (f x)) z
    (piece_in (f w ++ flat_map f xs) (flat_map f xs) (f x) (length (f w)) (length (flat_map f (take i xs))) (piece_right (f w) (flat_map f xs)) (piece_flat f xs i x e))

pub piece_self : {X : Type 0} (xs : List X) → Piece xs 0 xs
piece_self xs k x e = let z : k ≡ 0 + k = omega arith in subst (λ (n : ℕ). slice_get xs n ≡ Some x) z e

-- an item of pieces joined end to end stands in one of them, behind those before it
pub flat_placed : {X Y : Type 0} (f : X → List Y) (xs : List X) (k : ℕ) (y : Y) → slice_get (flat_map f xs) k ≡ Some y
    → (i : ℕ) × (x : X) × (j : ℕ) × (slice_get xs i ≡ Some x) × (slice_get (f x) j ≡ Some y) × (k ≡ length (flat_map f (take i xs)) + j)
flat_placed f [] k y e = absurd cc
flat_placed {X} {Y} f (x ∷ xs) k y e = elim (joined_got (f x) (flat_map f xs) k y e) [
  | inl h ↦ (0, x, k, refl, h.1, omega arith)
  | inr h ↦
      let r = flat_placed f xs h.0 y h.2 in
      let len = length-append (f x) (flat_map f (take r.0 xs)) in
      (suc r.0, r.1, r.2, r.3, r.4, (let a = h.1 in let b = r.5 in omega (arith, a, b, len)))
]

-- the pieces are not empty, so the later one stands at the later place
pub flat_rises : {X Y : Type 0} (f : X → List Y) → ((x : X) → 0 < length (f x)) → (xs : List X) (i j : ℕ) → i < j → j ≤ length xs → length (flat_map f (take i xs)) < length (flat_map f (take j xs))
flat_rises f some [] i j l m = absurd (omega arith)
flat_rises f some (x ∷ xs) i zero l m = absurd (omega arith)
flat_rises f some (x ∷ xs) zero (suc j) l m = let s = some x in let len = length-append (f x) (flat_map f (take j xs)) in omega (arith, s, len)
flat_rises f some (x ∷ xs) (suc i) (suc j) l m =
    let deep = flat_rises f some xs i j (omega arith) (omega arith) in
    let one = length-append (f x) (flat_map f (take i xs)) in
    let two = length-append (f x) (flat_map f (take j xs)) in
    omega (arith, deep, one, two)

-- ---- facts of items

pub all_got : {X : Type 0} (P : X → Type 0) (xs : List X) → ((k : ℕ) (x : X) → slice_get xs k ≡ Some x → P x) → All P xs
all_got P xs f = λ k d l. f k (get_or xs k d) (slice_get-get_or xs k d l)

pub got_all : {X : Type 0} (P : X → Type 0) (xs : List X) (k : ℕ) (x : X) → All P xs → slice_get xs k ≡ Some x → P x
got_all P xs k x h e = subst P (get_or_from_slice_get xs k x x e) (h k x (slice_get_within xs k x e))

pub pairs_got : {X : Type 0} (R : X → X → Type 0) (xs : List X) → ((i j : ℕ) (x y : X) → i < j → slice_get xs i ≡ Some x → slice_get xs j ≡ Some y → R x y) → AllPairs R xs
pairs_got R xs f = λ i j d l m. f i j (get_or xs i d) (get_or xs j d) l (slice_get-get_or xs i d (omega arith)) (slice_get-get_or xs j d m)

pub got_pairs : {X : Type 0} (R : X → X → Type 0) (xs : List X) → AllPairs R xs → (i j : ℕ) (x y : X) → i < j → slice_get xs i ≡ Some x → slice_get xs j ≡ Some y → R x y
got_pairs {X} R xs h i j x y l e f =
    let whole = h i j x l (slice_get_within xs j y f) in
    let half = subst (λ (z : X). R z (get_or xs j x)) (get_or_from_slice_get xs i x x e) whole in
    subst (R x) (get_or_from_slice_get xs j y x f) half

pub got_contains : {X : Type 0} (xs : List X) (k : ℕ) (x : X) → slice_get xs k ≡ Some x → Contains xs x
got_contains xs k x e = (k, slice_get_within xs k x e, get_or_from_slice_get xs k x x e)

pub contains_got : {X : Type 0} (xs : List X) (x : X) → Contains xs x → (k : ℕ) × (slice_get xs k ≡ Some x)
contains_got xs x h = (h.0, slice_get-get_or xs h.0 x h.1 ∙ ap Some h.2)

-- ---- two lists, item by item

pub zip_right : {X Y : Type 0} (R : X → Y → Type 0) (xs : List X) (ys : List Y) (k : ℕ) (y : Y) → AllZip R xs ys → slice_get ys k ≡ Some y → (x : X) × (slice_get xs k ≡ Some x) × R x y
zip_right R xs [] k y h e = absurd cc
zip_right R [] (z ∷ ys) k y h e = absurd h
zip_right {X} {Y} R (x ∷ xs) (z ∷ ys) zero y h e = (x, refl, subst (R x) (same_Some z y e) h.0)
zip_right R (x ∷ xs) (z ∷ ys) (suc k) y h e = zip_right R xs ys k y h.1 e

pub zip_left : {X Y : Type 0} (R : X → Y → Type 0) (xs : List X) (ys : List Y) (k : ℕ) (x : X) → AllZip R xs ys → slice_get xs k ≡ Some x → (y : Y) × (slice_get ys k ≡ Some y) × R x y
zip_left R [] ys k x h e = absurd cc
zip_left R (z ∷ xs) [] k x h e = absurd h
zip_left {X} {Y} R (z ∷ xs) (y ∷ ys) zero x h e = (y, refl, subst (λ (w : X). R w y) (same_Some z x e) h.0)
zip_left R (z ∷ xs) (y ∷ ys) (suc k) x h e = zip_left R xs ys k x h.1 e

pub zip_length : {X Y : Type 0} (R : X → Y → Type 0) (xs : List X) (ys : List Y) → AllZip R xs ys → length xs ≡ length ys
zip_length R [] [] h = refl
zip_length R [] (y ∷ ys) h = absurd h
zip_length R (x ∷ xs) [] h = absurd h
zip_length R (x ∷ xs) (y ∷ ys) h = ap suc (zip_length R xs ys h.1)

pub zip_joined : {X Y : Type 0} (R : X → Y → Type 0) (xs : List X) (ys : List Y) (vs : List X) (ws : List Y) → AllZip R xs ys → AllZip R vs ws → AllZip R (xs ++ vs) (ys ++ ws)
zip_joined R [] [] vs ws g h = h
zip_joined R [] (y ∷ ys) vs ws g h = absurd g
zip_joined R (x ∷ xs) [] vs ws g h = absurd g
zip_joined R (x ∷ xs) (y ∷ ys) vs ws g h = (g.0, zip_joined R xs ys vs ws g.1 h)

-- ---- items that are picked

-- an item that was picked comes from an item
pub picked_got : {X Y : Type 0} (h : X → Option Y) (xs : List X) (m : ℕ) (y : Y) → slice_get (filter_map h xs) m ≡ Some y → (i : ℕ) × (x : X) × (slice_get xs i ≡ Some x) × (h x ≡ Some y)
picked_got h [] m y e = absurd cc
picked_got {X} {Y} h (x ∷ xs) m y e = go (h x) refl m e (λ n f. picked_got h xs n y f) where
  go : (o : Option Y) → h x ≡ o → (m : ℕ) → slice_get (cons_option o (filter_map h xs)) m ≡ Some y
      → ((n : ℕ) → slice_get (filter_map h xs) n ≡ Some y → (i : ℕ) × (v : X) × (slice_get xs i ≡ Some v) × (h v ≡ Some y))
      → (i : ℕ) × (v : X) × (slice_get (x ∷ xs) i ≡ Some v) × (h v ≡ Some y)
  go None is m f deep = let r = deep m f in (suc r.0, r.1, r.2, r.3)
  go (Some z) is zero f deep = (0, x, refl, is ∙ f)
  go (Some z) is (suc m) f deep = let r = deep m f in (suc r.0, r.1, r.2, r.3)

-- and the later one from the later one
pub picked_pair : {X Y : Type 0} (h : X → Option Y) (xs : List X) (m n : ℕ) (y z : Y) → m < n → slice_get (filter_map h xs) m ≡ Some y → slice_get (filter_map h xs) n ≡ Some z
    → (i j : ℕ) × (v w : X) × (i < j) × (slice_get xs i ≡ Some v) × (slice_get xs j ≡ Some w) × (h v ≡ Some y) × (h w ≡ Some z)
picked_pair h [] m n y z l e f = absurd cc
picked_pair {X} {Y} h (x ∷ xs) m n y z l e f = go (h x) refl m n l e f (λ i j k g t. picked_pair h xs i j y z k g t) where
  go : (o : Option Y) → h x ≡ o → (m n : ℕ) → m < n → slice_get (cons_option o (filter_map h xs)) m ≡ Some y → slice_get (cons_option o (filter_map h xs)) n ≡ Some z
      → ((p q : ℕ) → p < q → slice_get (filter_map h xs) p ≡ Some y → slice_get (filter_map h xs) q ≡ Some z
      → (i j : ℕ) × (v w : X) × (i < j) × (slice_get xs i ≡ Some v) × (slice_get xs j ≡ Some w) × (h v ≡ Some y) × (h w ≡ Some z))
      → (i j : ℕ) × (v w : X) × (i < j) × (slice_get (x ∷ xs) i ≡ Some v) × (slice_get (x ∷ xs) j ≡ Some w) × (h v ≡ Some y) × (h w ≡ Some z)
  go None is m n l e f deep = let r = deep m n l e f in let b = r.4 in (suc r.0, suc r.1, r.2, r.3, omega (arith, b), r.5, r.6, r.7, r.8)
  go (Some u) is m zero l e f deep = absurd (omega arith)
  go (Some u) is zero (suc n) l e f deep = let r = picked_got h xs n z f in (0, suc r.0, x, r.1, omega arith, refl, r.2, is ∙ e, r.3)
  go (Some u) is (suc m) (suc n) l e f deep = let r = deep m n (omega arith) e f in let b = r.4 in (suc r.0, suc r.1, r.2, r.3, omega (arith, b), r.5, r.6, r.7, r.8)

-- ---- distinct items

-- Relations of earlier and later items, by places.
abbrev pub Pairs : {X : Type 0} → (X → X → Type 0) → List X → Type 0
Pairs {X} R xs = (i j : ℕ) (x y : X) → i < j → slice_get xs i ≡ Some x → slice_get xs j ≡ Some y → R x y

pub pairs_flat : {X Y : Type 0} (R : Y → Y → Type 0) (f : X → List Y) (xs : List X) → ((k : ℕ) (x : X) → slice_get xs k ≡ Some x → Pairs R (f x))
    → ((i j : ℕ) (x y : X) (a b : ℕ) (u v : Y) → i < j → slice_get xs i ≡ Some x → slice_get xs j ≡ Some y → slice_get (f x) a ≡ Some u → slice_get (f y) b ≡ Some v → R u v)
    → Pairs R (flat_map f xs)
pairs_flat R f [] own across i j x y l e g = absurd cc
pairs_flat {X} {Y} R f (w ∷ xs) own across i j x y l e g =
    by (joined_got (f w) (flat_map f xs) i x e) (joined_got (f w) (flat_map f xs) j y g)
    (pairs_flat R f xs (λ k v t. own (suc k) v t) (λ p q v z a b s t m c d. across (suc p) (suc q) v z a b s t (omega (arith, m)) c d)) where
      by : (((i < length (f w)) × (slice_get (f w) i ≡ Some x)) ⊎ ((a : ℕ) × (i ≡ length (f w) + a) × (slice_get (flat_map f xs) a ≡ Some x)))
          → (((j < length (f w)) × (slice_get (f w) j ≡ Some y)) ⊎ ((b : ℕ) × (j ≡ length (f w) + b) × (slice_get (flat_map f xs) b ≡ Some y)))
          → Pairs R (flat_map f xs) → R x y
      by (inl h) (inl k) deep = own 0 w refl i j x y l h.1 k.1
      by (inl h) (inr k) deep = let r = flat_got f xs k.0 y k.2 in across 0 (suc r.0) w r.1 i r.2 x y (omega arith) refl r.3 h.1 r.4
      by (inr h) (inl k) deep = let p = h.1 in let q = k.0 in absurd (omega (arith, p, q))
      by (inr h) (inr k) deep = let p = h.1 in let q = k.1 in deep h.0 k.0 x y (omega (arith, p, q)) h.2 k.2

-- a list without one of its items
pub without : {X : Type 0} (xs : List X) (k : ℕ) (x : X) → slice_get xs k ≡ Some x → (ys : List X) × (length xs ≡ suc (length ys)) × ((j : ℕ) (y : X) → slice_get xs j ≡ Some y → x ≢ y → (i : ℕ) × (slice_get ys i ≡ Some y))
without [] k x e = absurd cc
without {X} (z ∷ xs) zero x e = (xs, refl, kept) where
  kept : (j : ℕ) (y : X) → slice_get (z ∷ xs) j ≡ Some y → x ≢ y → (i : ℕ) × (slice_get xs i ≡ Some y)
  kept zero y f apart = absurd (apart (one_got (z ∷ xs) 0 x y e f))
  kept (suc j) y f apart = (j, f)
without {X} (z ∷ xs) (suc k) x e = more (without xs k x e) where
  more : (ys : List X) × (length xs ≡ suc (length ys)) × ((j : ℕ) (y : X) → slice_get xs j ≡ Some y → x ≢ y → (i : ℕ) × (slice_get ys i ≡ Some y))
      → (ys : List X) × (length (z ∷ xs) ≡ suc (length ys)) × ((j : ℕ) (y : X) → slice_get (z ∷ xs) j ≡ Some y → x ≢ y → (i : ℕ) × (slice_get ys i ≡ Some y))
  more r = (z ∷ r.0, ap suc r.1, kept) where
    kept : (j : ℕ) (y : X) → slice_get (z ∷ xs) j ≡ Some y → x ≢ y → (i : ℕ) × (slice_get (z ∷ r.0) i ≡ Some y)
    kept zero y f apart = (0, f)
    kept (suc j) y f apart = let deep = r.2 j y f apart in (suc deep.0, deep.1)

-- distinct items of another list are no more than it has
pub distinct_fit : {X : Type 0} (xs ys : List X) → Pairs (λ one other. one ≢ other) xs → ((k : ℕ) (x : X) → slice_get xs k ≡ Some x → (j : ℕ) × (slice_get ys j ≡ Some x)) → length xs ≤ length ys
distinct_fit [] ys once among = omega arith
distinct_fit {X} (x ∷ xs) ys once among =
    let here = among 0 x refl in
    let rest = without ys here.0 x here.1 in
    let deep = distinct_fit xs rest.0 (λ i j v w l e f. once (suc i) (suc j) v w (omega (arith, l)) e f)
    (λ k v e. let there = among (suc k) v e in rest.2 there.0 v there.1 (once 0 (suc k) x v (omega arith) refl e)) in
    let len = rest.1 in
    omega (arith, deep, len)
