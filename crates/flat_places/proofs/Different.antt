-- The assigns of a module, each once, are the assigns of the module.
use Rattle.std.proofs.Common.{◌≡◌, ◌∙◌, ◌+◌, ◌<◌, ◌||◌, ℕ, zero, suc, Bool, true, false, cond, List, [], ◌∷◌, ◌++◌, take, length, get_or, Option, Some, None, refl, sym, ap, subst, arith}
use Rattle.std.specs.Prelude.{slice_get, option_to_list}
use Rattle.std.specs.List.{All, flat_map, enumerate_from}
use Rattle.std.specs.Str.{bytes_eq}
use Rattle.std.proofs.lemmas.Slice.Eq.{bytes_eq-Decides}
use Rattle.std.proofs.lemmas.Option.{same_Some, slice_get-get_or, get_or_from_slice_get, slice_get_within}
use Rattle.bind_forms.specs.declared.bound.BoundPart.{BoundPart}
use Rattle.bind_forms.specs.declared.bound.BoundAssign.{BoundAssign}
use Rattle.flat_places.specs.Assigns.{part_key, assign_key, has_key, new_place, new_places, different}
use Rattle.flat_places.proofs.Joined.{flat_got, got_flat, listed_got, got_listed}

-- ---- equal numbers are of equal assigns

abbrev first_of : List ℕ → ℕ
first_of [] = 0
first_of (x ∷ xs) = x

abbrev rest_of : List ℕ → List ℕ
rest_of [] = []
rest_of (x ∷ xs) = xs

same_part : (one other : BoundPart) (ones others : List ℕ) → part_key one ++ ones ≡ part_key other ++ others → (one ≡ other) × (ones ≡ others)
same_part one other ones others e =
    let wires : one.wire ≡ other.wire = ap first_of e in
    let behind : one.bit ∷ one.count ∷ ones ≡ other.bit ∷ other.count ∷ others = ap rest_of e in
    let bits : one.bit ≡ other.bit = ap first_of behind in
    let last : one.count ∷ ones ≡ other.count ∷ others = ap rest_of behind in
    let counts : one.count ≡ other.count = ap first_of last in (
      ap (λ (n : ℕ). let p : BoundPart = record { wire = n; bit = one.bit; count = one.count } in p) wires
          ∙ ap (λ (n : ℕ). let p : BoundPart = record { wire = other.wire; bit = n; count = one.count } in p) bits
          ∙ ap (λ (n : ℕ). let p : BoundPart = record { wire = other.wire; bit = other.bit; count = n } in p) counts,
      ap rest_of last,
    )

-- as many parts, and what is behind them
same_front : (ones others : List BoundPart) (behind after : List ℕ) → length ones ≡ length others → flat_map part_key ones ++ behind ≡ flat_map part_key others ++ after → (ones ≡ others) × (behind ≡ after)
same_front [] [] behind after n e = (refl, e)
same_front [] (y ∷ ys) behind after n e = absurd (omega (arith, n))
same_front (x ∷ xs) [] behind after n e = absurd (omega (arith, n))
same_front (x ∷ xs) (y ∷ ys) behind after n e =
    let one = same_part x y (flat_map part_key xs ++ behind) (flat_map part_key ys ++ after) e in
    let more = same_front xs ys behind after (omega (arith, n)) one.1 in
    (ap (λ (p : BoundPart). p ∷ xs) one.0 ∙ ap (λ (ps : List BoundPart). y ∷ ps) more.0, more.1)

same_parts : (ones others : List BoundPart) → flat_map part_key ones ≡ flat_map part_key others → ones ≡ others
same_parts [] [] e = refl
same_parts [] (y ∷ ys) e = let wrong : [] ≡ y.wire ∷ (y.bit ∷ y.count ∷ flat_map part_key ys) = e in absurd cc
same_parts (x ∷ xs) [] e = let wrong : x.wire ∷ (x.bit ∷ x.count ∷ flat_map part_key xs) ≡ [] = e in absurd cc
same_parts (x ∷ xs) (y ∷ ys) e =
    let one = same_part x y (flat_map part_key xs) (flat_map part_key ys) e in
    ap (λ (p : BoundPart). p ∷ xs) one.0 ∙ ap (λ (ps : List BoundPart). y ∷ ps) (same_parts xs ys one.1)

same_assign : (one other : BoundAssign) → assign_key one ≡ assign_key other → one ≡ other
same_assign one other e =
    let counts : length one.to ≡ length other.to = ap first_of e in
    let front = same_front one.to other.to (flat_map part_key one.from) (flat_map part_key other.from) counts (ap rest_of e) in
    ap (λ (ps : List BoundPart). let a : BoundAssign = record { to = ps; from = one.from } in a) front.0
    ∙ ap (λ (ps : List BoundPart). let a : BoundAssign = record { to = other.to; from = ps } in a) (same_parts one.from other.from front.1)

-- ---- each of them is one of the module

one_got : {X : Type 0} (o : Option X) (k : ℕ) (x : X) → slice_get (option_to_list o) k ≡ Some x → o ≡ Some x
one_got None k x e = absurd cc
one_got (Some y) zero x e = e
one_got (Some y) (suc k) x e = absurd cc

pub different_got : (assigns : List BoundAssign) (k : ℕ) (one : BoundAssign) → slice_get (different assigns) k ≡ Some one → (at : ℕ) × (slice_get assigns at ≡ Some one)
different_got assigns k one e =
    let l = listed_got (λ (at : ℕ). option_to_list (slice_get assigns at)) (new_places assigns) k one e in
    (l.1, one_got (slice_get assigns l.1) l.2 one l.4)

pub all_different : (P : BoundAssign → Type 0) (assigns : List BoundAssign) → All P assigns → All P (different assigns)
all_different P assigns all = λ k d low.
    let one = get_or (different assigns) k d in
    let found = different_got assigns k one (slice_get-get_or (different assigns) k d low) in
    subst P (get_or_from_slice_get assigns found.0 one one found.1) (all found.0 one (slice_get_within assigns found.0 one found.1))

-- ---- each of the module is one of them

taken_got : {X : Type 0} (n : ℕ) (xs : List X) (k : ℕ) (x : X) → slice_get (take n xs) k ≡ Some x → (k < n) × (slice_get xs k ≡ Some x)
taken_got zero xs k x e = absurd cc
taken_got (suc n) [] k x e = absurd cc
taken_got (suc n) (y ∷ xs) zero x e = (omega arith, e)
taken_got (suc n) (y ∷ xs) (suc k) x e = let more = taken_got n xs k x e in let low = more.0 in (omega (arith, low), more.1)

-- where an assign stands that joins what has these numbers
abbrev StandsAt : List BoundAssign → List ℕ → Type 0
StandsAt assigns key = (at : ℕ) × (one : BoundAssign) × (slice_get assigns at ≡ Some one) × (assign_key one ≡ key)

key_got : (assigns : List BoundAssign) (key : List ℕ) → has_key assigns key ≡ true → StandsAt assigns key
key_got [] key e = absurd cc
key_got (x ∷ xs) key e = go (key_got xs key) (bytes_eq (assign_key x) key) refl e where
  go : (has_key xs key ≡ true → StandsAt xs key) → (b : Bool) → bytes_eq (assign_key x) key ≡ b → (b || has_key xs key) ≡ true → StandsAt (x ∷ xs) key
  go more true is h = (0, x, refl, (bytes_eq-Decides (assign_key x) key).0 is)
  go more false is h = let r = more h in (suc r.0, r.1, r.2, r.3)

-- a new place at which the assign stands
abbrev IsPlaced : List BoundAssign → BoundAssign → Type 0
IsPlaced assigns one = (k at : ℕ) × (slice_get (new_places assigns) k ≡ Some at) × (slice_get assigns at ≡ Some one)

placed : (assigns : List BoundAssign) (bound at : ℕ) (one : BoundAssign) → at < bound → slice_get assigns at ≡ Some one → IsPlaced assigns one
placed assigns zero at one low e = absurd (omega (arith, low))
placed assigns (suc bound) at one low e = go (placed assigns bound) (has_key (take at assigns) (assign_key one)) refl where
  go : ((q : ℕ) (other : BoundAssign) → q < bound → slice_get assigns q ≡ Some other → IsPlaced assigns other) → (b : Bool) → has_key (take at assigns) (assign_key one) ≡ b → IsPlaced assigns one
  go law true is =
      let found = key_got (take at assigns) (assign_key one) is in
      let taken = taken_got at assigns found.0 found.1 found.2 in
      let before = taken.0 in
      law found.0 one (omega (arith, before, low)) (taken.1 ∙ ap Some (same_assign found.1 one found.3))
  go law false is =
      let z : at ≡ 0 + at = omega arith in
      let here : new_place assigns (at, one) ≡ at ∷ [] = ap (λ (b : Bool). let ns : List ℕ = cond b [] (at ∷ []) in ns) is in
      let first : slice_get (new_place assigns (0 + at, one)) 0 ≡ Some at = subst (λ (n : ℕ). slice_get (new_place assigns (n, one)) 0 ≡ Some at) z (ap (λ (ns : List ℕ). slice_get ns 0) here) in
      (length (flat_map (new_place assigns) (enumerate_from 0 (take at assigns))) + 0, at, got_flat (new_place assigns) 0 assigns at one 0 at e first, e)

pub got_different : (assigns : List BoundAssign) (at : ℕ) (one : BoundAssign) → slice_get assigns at ≡ Some one → (k : ℕ) × (slice_get (different assigns) k ≡ Some one)
got_different assigns at one e =
    let p = placed assigns (suc at) at one (omega arith) e in
    got_listed (λ (n : ℕ). option_to_list (slice_get assigns n)) (new_places assigns) p.0 p.1 0 one p.2 (ap (λ (o : Option BoundAssign). slice_get (option_to_list o) 0) p.3)

-- ---- new places are places of assigns

pub new_below : (assigns : List BoundAssign) (k at : ℕ) → slice_get (new_places assigns) k ≡ Some at → at < length assigns
new_below assigns k at e = let f = flat_got (new_place assigns) 0 assigns k at e in go f.0 f.1 f.3 (has_key (take (0 + f.0) assigns) (assign_key f.1)) f.2 f.4 where
  go : (i : ℕ) (one : BoundAssign) → slice_get assigns i ≡ Some one → (b : Bool) (j : ℕ) → slice_get (cond b [] ((0 + i) ∷ [])) j ≡ Some at → at < length assigns
  go i one there true j g = absurd cc
  go i one there false zero g = let low = slice_get_within assigns i one there in let same = same_Some (0 + i) at g in omega (arith, low, same)
  go i one there false (suc j) g = absurd cc
