-- First places of names, in a list that is read place by place.
use Rattle.std.proofs.Common.{◌≡◌, ◌≢◌, ◌⊎◌, inl, inr, ℕ, ◌+◌, ◌<◌, ◌≤◌, Bool, true, false, cond, length, List, Option, Some, None, refl, sym, ◌∙◌, subst, arith}
use Rattle.std.specs.Prelude.{slice_get}
use Rattle.std.specs.Str.{bytes_eq}
use Rattle.std.proofs.lemmas.Option.{slice_get_within}
use Rattle.std.proofs.lemmas.Slice.Eq.{bytes_eq-Decides}
use Rattle.name_table.specs.declared.places.FirstNames.{FirstNames}
use Rattle.name_table.specs.Places.{place_of, first_place, Sees}
use Rattle.bind_hierarchy.specs.Names.{IsFirstPlace}

-- the first place of a name before a limit
abbrev pub IsFirstBelow : List (List ℕ) → ℕ → List ℕ → Option ℕ → Type 0
IsFirstBelow names limit name None = (at : ℕ) → at < limit → slice_get names at ≢ Some name
IsFirstBelow names limit name (Some place) = (place < limit) × (slice_get names place ≡ Some name) × ((at : ℕ) → at < place → slice_get names at ≢ Some name)

abbrev pub AreFirstBelow : List (List ℕ) → ℕ → FirstNames → Type 0
AreFirstBelow names limit places = (name : List ℕ) → IsFirstBelow names limit name (place_of places name)

below : (at limit : ℕ) → at < limit + 1 → (at < limit) ⊎ (at ≡ limit)
below at limit h = grind arith

some_same : {A : Type 0} {a b : A} → Some a ≡ Some b → a ≡ b
some_same h = cc

never : {A : Type 0} {a : A} → None ≡ Some a → ⊥
never e = cc

pub none_more : (names : List (List ℕ)) (limit : ℕ) (name : List ℕ) → ((at : ℕ) → at < limit → slice_get names at ≢ Some name) → slice_get names limit ≢ Some name
    → (at : ℕ) → at < limit + 1 → slice_get names at ≢ Some name
none_more names limit name before here = λ at lt is.
    elim (below at limit lt) [ inl b ↦ before at b is | inr e ↦ here (subst (λ (n : ℕ). slice_get names n ≡ Some name) e is) ]

kept : (names : List (List ℕ)) (limit : ℕ) (name : List ℕ) (place : Option ℕ) → slice_get names limit ≢ Some name → IsFirstBelow names limit name place → IsFirstBelow names (limit + 1) name place
kept names limit name None here h = none_more names limit name h here
kept names limit name (Some place) here h = (omega (arith, h.0), h.1, h.2)

arrives : (names : List (List ℕ)) (limit : ℕ) (name : List ℕ) (place : Option ℕ) → slice_get names limit ≡ Some name → IsFirstBelow names limit name place → IsFirstBelow names (limit + 1) name (first_place place limit)
arrives names limit name None here h = (omega arith, here, h)
arrives names limit name (Some place) here h = (omega (arith, h.0), h.1, h.2)

-- the name at the next place is seen
pub seen_more : (names : List (List ℕ)) (limit : ℕ) (seen : List ℕ) (old new : FirstNames) → slice_get names limit ≡ Some seen → Sees old new seen limit → AreFirstBelow names limit old → AreFirstBelow names (limit + 1) new
seen_more names limit seen old new is sees before = λ name.
    subst (λ (p : Option ℕ). IsFirstBelow names (limit + 1) name p) (sym (sees name)) (by name (bytes_eq seen name) refl) where
      by : (name : List ℕ) (b : Bool) → bytes_eq seen name ≡ b → IsFirstBelow names (limit + 1) name (cond b (first_place (place_of old seen) limit) (place_of old name))
      by name true e =
          let same : seen ≡ name = (bytes_eq-Decides seen name).0 e in
          subst (λ (n : List ℕ). IsFirstBelow names (limit + 1) n (first_place (place_of old seen) limit)) same (arrives names limit seen (place_of old seen) is (before seen))
      by name false e =
          kept names limit name (place_of old name) (λ here. other ((bytes_eq-Decides seen name).1 (some_same (sym is ∙ here)))) (before name) where
            other : bytes_eq seen name ≡ true → ⊥
            other t = absurd cc

pub first_of : (names : List (List ℕ)) (limit : ℕ) (name : List ℕ) (place : Option ℕ) → length names ≤ limit → IsFirstBelow names limit name place → IsFirstPlace names name place
first_of names limit name None all h = λ at is. h at (let near : at < length names = slice_get_within names at name is in omega arith) is
first_of names limit name (Some place) all h = (h.1, h.2)
