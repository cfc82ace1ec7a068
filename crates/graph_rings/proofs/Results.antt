-- What is read at a place, and what is known where a call succeeds.
use Rattle.std.proofs.Common.{◌≡◌, ◌∙◌, ◌<◌, ◌≤◌, ◌-◌, inl, inr, ℕ, List, Some, Result, Ok, Err, OnOk, length, sym, subst, ap, arith, get_or}
use Rattle.std.specs.Prelude.{slice_get}
use Rattle.std.specs.List.{Contains}
use Rattle.std.proofs.lemmas.Bool.{cases_lt}
use Rattle.std.proofs.lemmas.List.{get_or_default}
use Rattle.std.proofs.lemmas.List.Elements.{Contains-get_or}
use Rattle.std.proofs.lemmas.Option.{slice_get-get_or}
use Rattle.graph_rings.specs.declared.search.Mark.{Mark}
use Rattle.graph_rings.specs.Search.{Rises, IsSearch}
use Rattle.graph_rings.proofs.Lists.{in_at}

pub read_at : {X : Type 0} (xs : List X) (i : ℕ) (d v : X) → i < length xs → v ≡ get_or xs i v → get_or xs i d ≡ v
read_at xs i d v l e = get_or_default xs i d v l ∙ sym e

pub on_ok_six : {T N : Type 0} {A B C D E F G : Type 0} (r : Result T N) → OnOk r A → OnOk r B → OnOk r C → OnOk r D → OnOk r E → OnOk r F → (A → B → C → D → E → F → G) → OnOk r G
on_ok_six (Ok x) a b c d e f k = k a b c d e f
on_ok_six (Err x) a b c d e f k = tt

pub same_search : (g : List (List ℕ)) (start : ℕ) (left left' : List ℕ) (marks marks' : List Mark) (path path' bases bases' stack stack' order order' : List ℕ) → left' ≡ left → marks' ≡ marks → path' ≡ path → bases' ≡ bases → stack' ≡ stack → order' ≡ order →
    IsSearch g start left marks path bases stack order → IsSearch g start left' marks' path' bases' stack' order'
same_search g start left left' marks marks' path path' bases bases' stack stack' order order' a b c d e f s =
    let s1 = subst (λ (x : List ℕ). IsSearch g start x marks path bases stack order) (sym a) s in
    let s2 = subst (λ (x : List Mark). IsSearch g start left' x path bases stack order) (sym b) s1 in
    let s3 = subst (λ (x : List ℕ). IsSearch g start left' marks' x bases stack order) (sym c) s2 in
    let s4 = subst (λ (x : List ℕ). IsSearch g start left' marks' path' x stack order) (sym d) s3 in
    let s5 = subst (λ (x : List ℕ). IsSearch g start left' marks' path' bases' x order) (sym e) s4 in
    subst (λ (x : List ℕ). IsSearch g start left' marks' path' bases' stack' x) (sym f) s5

-- the greatest of a list that rises is its last
pub greatest_last : (xs : List ℕ) (w : ℕ) → Rises xs → Contains xs w → ((k : ℕ) → Contains xs k → k ≤ w) → slice_get xs (length xs - 1) ≡ Some w
greatest_last xs w rise c top =
    let at = in_at xs w c in
    let near : at.0 < length xs = at.1 in
    let is : get_or xs at.0 0 ≡ w = at.2 in
    let end : length xs - 1 < length xs = omega arith in
    let most : get_or xs (length xs - 1) 0 ≤ w = top (get_or xs (length xs - 1) 0) (Contains-get_or xs (length xs - 1) 0 end) in
    let same : get_or xs (length xs - 1) 0 ≡ w = elim (cases_lt at.0 (length xs - 1)) [
      | inl low ↦ let less : get_or xs at.0 0 < get_or xs (length xs - 1) 0 = rise at.0 (length xs - 1) low end in absurd (omega (arith, less, most, is))
      | inr high ↦ let one : length xs - 1 ≡ at.0 = omega arith in ap (λ (n : ℕ). get_or xs n 0) one ∙ is
    ] in
    slice_get-get_or xs (length xs - 1) 0 end ∙ ap Some same
