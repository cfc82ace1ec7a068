-- Dropping the last number of a list that rises.
use Rattle.std.proofs.Common.{◌≡◌, ◌∙◌, ◌-◌, inl, inr, ℕ, List, [], ◌∷◌, ◌++◌, Option, Some, None, length, sym, subst, ap, arith, get_or, length-append}
use Rattle.std.specs.Prelude.{IsSome}
use Rattle.std.specs.List.{Contains}
use Rattle.std.specs.Option.{option_to_list}
use Rattle.std.proofs.Math.Seq.{get_or-append_seam}
use Rattle.std.proofs.lemmas.List.Elements.{Contains-append_left, Contains-push_cases}
use Rattle.graph_rings.specs.Search.{Rises}
use Rattle.graph_rings.proofs.Lists.{rises_popped}

pub popped : (xs ys : List ℕ) (r : Option ℕ) (last : ℕ) → xs ≡ ys ++ option_to_list r → IsSome r → get_or xs (length xs - 1) 0 ≡ last → xs ≡ ys ++ last ∷ []
popped xs ys None last e some at = cc
popped xs ys (Some y) last e some at =
    let place : length xs - 1 ≡ length ys = omega (arith, ap length e, length-append ys (y ∷ [])) in
    let read : get_or xs (length xs - 1) 0 ≡ y = subst (λ (n : ℕ). get_or xs n 0 ≡ y) (sym place) (subst (λ (l : List ℕ). get_or l (length ys) 0 ≡ y) (sym e) (get_or-append_seam ys y [] 0)) in
    e ∙ ap (λ (z : ℕ). ys ++ z ∷ []) (sym read ∙ at)

pub dropped_rises : (xs ys : List ℕ) (last : ℕ) → xs ≡ ys ++ last ∷ [] → Rises xs → Rises ys
dropped_rises xs ys last e r = rises_popped ys last (subst Rises e r)

pub dropped_fewer : (xs ys : List ℕ) (last : ℕ) → xs ≡ ys ++ last ∷ [] → (x : ℕ) → Contains ys x → Contains xs x
dropped_fewer xs ys last e x c = subst (λ (l : List ℕ). Contains l x) (sym e) (Contains-append_left ys (last ∷ []) x c)

pub dropped_kept : (xs ys : List ℕ) (last : ℕ) → xs ≡ ys ++ last ∷ [] → (x : ℕ) → (last ≡ x → ⊥) → Contains xs x → Contains ys x
dropped_kept xs ys last e x other c = elim (Contains-push_cases ys last x (subst (λ (l : List ℕ). Contains l x) e c)) [ inl kept ↦ kept | inr same ↦ absurd (other same) ]
