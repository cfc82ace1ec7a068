-- One more flag.
use Rattle.std.proofs.Common.{◌≡◌, ◌⊎◌, inl, inr, ℕ, ◌+◌, ◌<◌, ◌≤◌, Bool, true, false, List, [], ◌∷◌, ◌++◌, length, get_or, Option, Some, None, refl, sym, ◌∙◌, ap, subst, arith}
use Rattle.std.specs.Prelude.{slice_get}
use Rattle.std.specs.List.{Contains}
use Rattle.std.proofs.lemmas.List.{length_push, get_or_past}
use Rattle.std.proofs.lemmas.List.Elements.{All-push, Contains-append_left, Contains-push, Contains-push_cases}
use Rattle.std.proofs.lemmas.List.Quantifiers.{all_pairs_push}
use Rattle.std.proofs.lemmas.Option.{get_or_from_slice_get}
use Rattle.verilog_bind.specs.Places.{AreNumbers, ArePlaces, HasPlacesTo}
use Rattle.verilog_bind.proofs.Found.{never, same_some}
use Rattle.verilog_bind.proofs.Zips.{get_left, get_last, last_cases}

below : (at limit : ℕ) → at < limit + 1 → (at < limit) ⊎ (at ≡ limit)
below at limit h = grind arith

apart : (b : Bool) → b ≡ false → b ≡ true → ⊥
apart b e f = cc

pub without : (reached : List Bool) (at : ℕ) (places : List ℕ) (numbers more : List (Option ℕ)) → get_or reached at false ≡ false → more ≡ numbers ++ None ∷ [] → HasPlacesTo reached at places numbers
    → HasPlacesTo reached (at + 1) places more
without reached at places numbers more flag pushed before = subst (λ (l : List (Option ℕ)). HasPlacesTo reached (at + 1) places l) (sym pushed) (record {
  count = length_push numbers None ∙ ap (λ (n : ℕ). n + 1) before.count;
  rising = before.rising;
  below = λ k d lt. omega (arith, before.below k d lt);
  to = λ k lt flagged. elim (below k at lt) [
    | inl b ↦ before.to k b flagged
    | inr e ↦ absurd (apart (get_or reached at false) flag (subst (λ (n : ℕ). get_or reached n false ≡ true) e flagged))
  ];
  from = before.from;
  numbers_are = record {
    numbered = λ k number there. elim (last_cases numbers None (Some number) k there) [
      | inl h ↦ before.numbers_are.numbered k number h
      | inr h ↦ absurd (never number h.1)
    ];
    each = λ k within. (let h = before.numbers_are.each k within in (h.0, get_left numbers (None ∷ []) k (Some h.0) h.1));
  };
})

pub with_one : (reached : List Bool) (at number : ℕ) (places more_places : List ℕ) (numbers more : List (Option ℕ)) → get_or reached at false ≡ true → number ≡ length places → more_places ≡ places ++ at ∷ []
    → more ≡ numbers ++ Some number ∷ [] → HasPlacesTo reached at places numbers → HasPlacesTo reached (at + 1) more_places more
with_one reached at number places more_places numbers more flag is pushed_place pushed before =
    subst (λ (l : List (Option ℕ)). HasPlacesTo reached (at + 1) more_places l) (sym pushed)
    (subst (λ (l : List ℕ). HasPlacesTo reached (at + 1) l (numbers ++ Some number ∷ [])) (sym pushed_place) (record {
      count = length_push numbers (Some number) ∙ ap (λ (n : ℕ). n + 1) before.count;
      rising = all_pairs_push (λ (one other : ℕ). one < other) places at before.rising before.below;
      below = All-push (λ (place : ℕ). place < at + 1) places at (λ k d lt. omega (arith, before.below k d lt)) (omega arith);
      to = λ k lt flagged. elim (below k at lt) [
        | inl b ↦ Contains-append_left places (at ∷ []) k (before.to k b flagged)
        | inr e ↦ subst (λ (n : ℕ). Contains (places ++ at ∷ []) n) (sym e) (Contains-push places at)
      ];
      from = λ k within. elim (Contains-push_cases places at k within) [
        | inl h ↦ before.from k h
        | inr e ↦ subst (λ (n : ℕ). get_or reached n false ≡ true) e flag
      ];
      numbers_are = record {
        numbered = λ k n there. elim (last_cases numbers (Some number) (Some n) k there) [
          | inl h ↦ get_left places (at ∷ []) n k (before.numbers_are.numbered k n h)
          | inr h ↦
              let here : length places ≡ n = sym is ∙ same_some number n h.1 in
              let place : k ≡ at = h.0 ∙ before.count in
              subst (λ (m : ℕ). slice_get (places ++ at ∷ []) m ≡ Some k) here (get_last places at ∙ ap Some (sym place))
        ];
        each = λ k within. elim (Contains-push_cases places at k within) [
          | inl h ↦ (let old = before.numbers_are.each k h in (old.0, get_left numbers (Some number ∷ []) k (Some old.0) old.1))
          | inr e ↦ (number, subst (λ (m : ℕ). slice_get (numbers ++ Some number ∷ []) m ≡ Some (Some number)) (before.count ∙ e) (get_last numbers (Some number)))
        ];
      };
    }))

pub none_yet : (reached : List Bool) (places : List ℕ) (numbers : List (Option ℕ)) → places ≡ [] → numbers ≡ [] → HasPlacesTo reached 0 places numbers
none_yet reached places numbers e f = rw (e, f) (record {
  count = refl;
  rising = λ i j d lt within. absurd (omega (arith, within));
  below = λ k d within. absurd (omega (arith, within));
  to = λ k lt flag. absurd (omega (arith, lt));
  from = λ k within. absurd (let w = within.1 in omega (arith, w));
  numbers_are = record { numbered = λ k n there. absurd (never (Some n) there); each = λ k within. absurd (let w = within.1 in omega (arith, w)) };
})

pub all_taken : (reached : List Bool) (at : ℕ) (places : List ℕ) (numbers : List (Option ℕ)) → at ≡ length reached → HasPlacesTo reached at places numbers → ArePlaces reached places numbers
all_taken reached at places numbers end h = record {
  count = h.count ∙ end;
  rising = h.rising;
  flagged = λ k. (
    h.from k,
    λ flag. elim (order k (length reached)) [
      | inl lt ↦ h.to k (omega (arith, lt, end)) flag
      | inr le ↦ absurd (apart (get_or reached k false) (get_or_past reached k false le) flag)
    ],
  );
  numbers_are = h.numbers_are;
} where
  order : (a b : ℕ) → (a < b) ⊎ (b ≤ a)
  order a b = grind arith

-- the number of a place
pub number_there : (places : List ℕ) (numbers : List (Option ℕ)) (at : ℕ) (d : Option ℕ) → AreNumbers places numbers → Contains places at → (number : ℕ) × (get_or numbers at d ≡ Some number)
number_there places numbers at d are within =
    let h = are.each at within in
    (h.0, get_or_from_slice_get numbers at (Some h.0) d h.1)

pub number_is : (places : List ℕ) (numbers : List (Option ℕ)) (at number : ℕ) → AreNumbers places numbers → Contains places at → get_or numbers at None ≡ Some number → slice_get places number ≡ Some at
number_is places numbers at number are within is =
    let h = are.each at within in
    let same : h.0 ≡ number = same_some h.0 number (sym (get_or_from_slice_get numbers at (Some h.0) None h.1) ∙ is) in
    are.numbered at number (h.1 ∙ ap (λ (n : ℕ). Some (Some n)) same)
