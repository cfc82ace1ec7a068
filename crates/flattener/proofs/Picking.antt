-- Instances that hold something, picked from all instances by their places.
use Rattle.std.proofs.Common.{◌≡◌, ◌∙◌, ◌+◌, ◌<◌, ℕ, zero, suc, List, [], ◌∷◌, ◌++◌, map, length, get_or, Bool, true, false, cond, Option, Some, refl, sym, ap, subst, arith}
use Rattle.std.specs.Prelude.{slice_get, option_to_list}
use Rattle.std.specs.List.{All, flat_map, enumerate_from}
use Rattle.std.proofs.lemmas.Option.{same_Some}
use Rattle.bind_forms.specs.declared.bound.BoundInstance.{BoundInstance}
use Rattle.bind_forms.specs.declared.bound.BoundModule.{BoundModule}
use Rattle.flat_places.specs.declared.size.Size.{Size}
use Rattle.flat_places.specs.Pieces.{Piece, empty, joined, pieces_from}
use Rattle.flat_names.proofs.Lists.{read_at}
use Rattle.flattener.specs.Solid.{is_solid, solid_place, solid_places}
use Rattle.flattener.proofs.Joining.{empty_joined}
use Rattle.flat_places.proofs.Joined.{got_map}

-- the instances at these places
abbrev pub picked : List BoundInstance → List ℕ → List BoundInstance
picked xs places = flat_map (λ (place : ℕ). option_to_list (slice_get xs place)) places

-- the rest of a list begins at this place
abbrev IsRest : List BoundInstance → ℕ → List BoundInstance → Type 0
IsRest xs k rest = (j : ℕ) (x : BoundInstance) → slice_get rest j ≡ Some x → slice_get xs (k + j) ≡ Some x

rest_first : (xs : List BoundInstance) (k : ℕ) (x : BoundInstance) (rest : List BoundInstance) → IsRest xs k (x ∷ rest) → slice_get xs k ≡ Some x
rest_first xs k x rest is = let same : k + 0 ≡ k = omega arith in subst (λ (n : ℕ). slice_get xs n ≡ Some x) same (is 0 x refl)

rest_more : (xs : List BoundInstance) (k : ℕ) (x : BoundInstance) (rest : List BoundInstance) → IsRest xs k (x ∷ rest) → IsRest xs (k + 1) rest
rest_more xs k x rest is j y e = let same : k + suc j ≡ k + 1 + j = omega arith in subst (λ (n : ℕ). slice_get xs n ≡ Some y) same (is (suc j) y e)

-- instances that hold nothing come to nothing
abbrev AreHollow : (ℕ → BoundInstance → Piece) → List Size → List BoundInstance → Type 0
AreHollow one sizes xs = (k : ℕ) (x : BoundInstance) → slice_get xs k ≡ Some x → is_solid sizes x.kind ≡ false → (base : ℕ) → one base x ≡ empty

rest_solid : (one : ℕ → BoundInstance → Piece) (sizes : List Size) (xs : List BoundInstance) → AreHollow one sizes xs → (k : ℕ) (rest : List BoundInstance) → IsRest xs k rest → (base : ℕ) →
    pieces_from one base rest ≡ pieces_from one base (picked xs (flat_map (solid_place sizes) (enumerate_from k rest)))
rest_solid one sizes xs hollow k [] is base = refl
rest_solid one sizes xs hollow k (x ∷ rest) is base = go (rest_solid one sizes xs hollow (k + 1) rest (rest_more xs k x rest is)) (is_solid sizes x.kind) refl where
  places : List ℕ
  places = flat_map (solid_place sizes) (enumerate_from (k + 1) rest)

  go : ((from : ℕ) → pieces_from one from rest ≡ pieces_from one from (picked xs places)) → (solid : Bool) → is_solid sizes x.kind ≡ solid →
      joined (one base x) (pieces_from one (base + (one base x).places) rest) ≡ pieces_from one base (picked xs (cond solid (k ∷ []) [] ++ places))
  go more true e =
      ap (joined (one base x)) (more (base + (one base x).places))
      ∙ sym (ap (λ (o : Option BoundInstance). pieces_from one base (option_to_list o ++ picked xs places)) (rest_first xs k x rest is))
  go more false e =
      let same : base + 0 ≡ base = omega arith in
      ap (λ (p : Piece). joined p (pieces_from one (base + p.places) rest)) (hollow k x (rest_first xs k x rest is) e base)
      ∙ ap (λ (n : ℕ). joined empty (pieces_from one n rest)) same
      ∙ empty_joined (pieces_from one base rest)
      ∙ more base

-- instances come to the same without those that hold nothing
pub all_solid : (one : ℕ → BoundInstance → Piece) (sizes : List Size) (xs : List BoundInstance) → AreHollow one sizes xs → (base : ℕ) → pieces_from one base xs ≡ pieces_from one base (picked xs (solid_places sizes xs))
all_solid one sizes xs hollow base = rest_solid one sizes xs hollow 0 xs (λ j x e. let same : j ≡ 0 + j = omega arith in subst (λ (n : ℕ). slice_get xs n ≡ Some x) same e) base

rest_below : (sizes : List Size) (k : ℕ) (rest : List BoundInstance) → All (λ (place : ℕ). place < k + length rest) (flat_map (solid_place sizes) (enumerate_from k rest))
rest_below sizes k [] = λ i d low. absurd (omega (arith, low))
rest_below sizes k (x ∷ rest) = go (rest_below sizes (k + 1) rest) (is_solid sizes x.kind) where
  places : List ℕ
  places = flat_map (solid_place sizes) (enumerate_from (k + 1) rest)

  go : All (λ (place : ℕ). place < k + 1 + length rest) places → (solid : Bool) → All (λ (place : ℕ). place < k + suc (length rest)) (cond solid (k ∷ []) [] ++ places)
  go more true zero d low = omega arith
  go more true (suc i) d low = let m : get_or places i d < k + 1 + length rest = more i d (omega (arith, low)) in omega (arith, m)
  go more false i d low = let m : get_or places i d < k + 1 + length rest = more i d low in omega (arith, m)

-- their places are places of instances
pub solid_below : (sizes : List Size) (xs : List BoundInstance) → All (λ (place : ℕ). place < length xs) (solid_places sizes xs)
solid_below sizes xs = λ i d low. let m : get_or (solid_places sizes xs) i d < 0 + length xs = rest_below sizes 0 xs i d low in omega (arith, m)

pub place_below : (sizes : List Size) (xs items : List BoundInstance) (places : List ℕ) (i : ℕ) → places ≡ solid_places sizes xs → items ≡ xs → i < length places → get_or places i 0 < length items
place_below sizes xs items places i listed same low =
    let all : All (λ (place : ℕ). place < length xs) places = subst (λ (ps : List ℕ). All (λ (place : ℕ). place < length xs) ps) (sym listed) (solid_below sizes xs) in
    let inside : get_or places i 0 < length xs = all i 0 low in
    let count = ap length same in
    omega (arith, inside, count)

-- what is kept for a module
pub kept_at : (f : BoundModule → List ℕ) (modules : List BoundModule) (kept : List (List ℕ)) (at : ℕ) (owner : BoundModule) (found : List ℕ) → kept ≡ map f modules → slice_get modules at ≡ Some owner → found ≡ get_or kept at found → found ≡ f owner
kept_at f modules kept at owner found same there is =
    let got = got_map f modules at owner there in
    same_Some found (f owner) (sym (read_at (map f modules) kept at (f owner) found got same is) ∙ got)
