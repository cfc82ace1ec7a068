-- Lists of numbers: members by their places, and lists that rise.
use Rattle.std.proofs.Common.{◌≡◌, ◌∙◌, ◌<◌, ◌≤◌, ◌⊎◌, inl, inr, ℕ, List, [], ◌∷◌, ◌++◌, length, sym, subst, arith, get_or, length-append}
use Rattle.std.specs.List.{Contains}
use Rattle.std.proofs.Math.ListN.{get_or-append}
use Rattle.std.proofs.Math.Seq.{get_or-append_seam}
use Rattle.std.proofs.lemmas.Bool.{cases_lt}
use Rattle.std.proofs.lemmas.List.{get_or_default}
use Rattle.std.proofs.lemmas.List.Elements.{Contains-get_or, Contains-push_cases}
use Rattle.graph_rings.specs.Search.{Rises}

pub in_at : (xs : List ℕ) (x : ℕ) → Contains xs x → (k : ℕ) × (k < length xs) × (get_or xs k 0 ≡ x)
in_at xs x c = (c.0, c.1, get_or_default xs c.0 0 x c.1 ∙ c.2)

pub at_in : (xs : List ℕ) (k x : ℕ) → k < length xs → get_or xs k 0 ≡ x → Contains xs x
at_in xs k x l e = subst (λ (y : ℕ). Contains xs y) e (Contains-get_or xs k 0 l)

-- a place of a list that grew by one: an old one, or the new one
pub at_pushed : (xs : List ℕ) (y k : ℕ) → k < length (xs ++ y ∷ []) → ((k < length xs) × (get_or (xs ++ y ∷ []) k 0 ≡ get_or xs k 0)) ⊎ ((k ≡ length xs) × (get_or (xs ++ y ∷ []) k 0 ≡ y))
at_pushed xs y k h = elim (cases_lt k (length xs)) [
  | inl l ↦ inl (l, get_or-append xs (y ∷ []) 0 k l)
  | inr g ↦
      let same : k ≡ length xs = omega (arith, length-append xs (y ∷ [])) in
      inr (same, subst (λ (n : ℕ). get_or (xs ++ y ∷ []) n 0 ≡ y) (sym same) (get_or-append_seam xs y [] 0))
]

pub rises_pushed : (xs : List ℕ) (y : ℕ) → Rises xs → ((k : ℕ) → k < length xs → get_or xs k 0 < y) → Rises (xs ++ y ∷ [])
rises_pushed xs y r below i k l h = elim (at_pushed xs y k h) [
  | inl old ↦
      let near : i < length xs = omega (arith, old.0) in
      let first : get_or (xs ++ y ∷ []) i 0 ≡ get_or xs i 0 = get_or-append xs (y ∷ []) 0 i near in
      let rise : get_or xs i 0 < get_or xs k 0 = r i k l old.0 in
      omega (arith, old.1, first, rise)
  | inr new ↦
      let near : i < length xs = omega (arith, new.0) in
      let first : get_or (xs ++ y ∷ []) i 0 ≡ get_or xs i 0 = get_or-append xs (y ∷ []) 0 i near in
      let under : get_or xs i 0 < y = below i near in
      omega (arith, new.1, first, under)
]

pub rises_popped : (ys : List ℕ) (y : ℕ) → Rises (ys ++ y ∷ []) → Rises ys
rises_popped ys y r i k l h =
    let near : i < length ys = omega arith in
    let rise : get_or (ys ++ y ∷ []) i 0 < get_or (ys ++ y ∷ []) k 0 = r i k l (omega (arith, length-append ys (y ∷ []))) in
    let first : get_or (ys ++ y ∷ []) i 0 ≡ get_or ys i 0 = get_or-append ys (y ∷ []) 0 i near in
    let second : get_or (ys ++ y ∷ []) k 0 ≡ get_or ys k 0 = get_or-append ys (y ∷ []) 0 k h in
    omega (arith, rise, first, second)

-- the last of a list that rises is above the others
pub below_last : (ys : List ℕ) (y : ℕ) → Rises (ys ++ y ∷ []) → (x : ℕ) → Contains ys x → x < y
below_last ys y r x c =
    let place = in_at ys x c in
    let near : place.0 < length ys = place.1 in
    let is : get_or ys place.0 0 ≡ x = place.2 in
    let rise : get_or (ys ++ y ∷ []) place.0 0 < get_or (ys ++ y ∷ []) (length ys) 0 = r place.0 (length ys) near (omega (arith, length-append ys (y ∷ []))) in
    let first : get_or (ys ++ y ∷ []) place.0 0 ≡ get_or ys place.0 0 = get_or-append ys (y ∷ []) 0 place.0 near in
    let second : get_or (ys ++ y ∷ []) (length ys) 0 ≡ y = get_or-append_seam ys y [] 0 in
    omega (arith, rise, first, second, is)

pub to_last : (ys : List ℕ) (y : ℕ) → Rises (ys ++ y ∷ []) → (x : ℕ) → Contains (ys ++ y ∷ []) x → x ≤ y
to_last ys y r x c = elim (Contains-push_cases ys y x c) [
  | inl old ↦ let l : x < y = below_last ys y r x old in omega arith
  | inr same ↦ omega arith
]
