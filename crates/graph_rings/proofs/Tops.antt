-- The last of a list that rises.
use Rattle.std.proofs.Common.{◌≡◌, ◌∙◌, ◌<◌, ◌≤◌, ◌+◌, ◌-◌, ℕ, List, [], ◌∷◌, ◌++◌, Some, length, take, sym, subst, ap, arith, get_or}
use Rattle.std.specs.Prelude.{slice_get}
use Rattle.std.specs.List.{Contains}
use Rattle.std.proofs.Math.Seq.{take-length}
use Rattle.std.proofs.lemmas.List.{take_more}
use Rattle.std.proofs.lemmas.List.Elements.{Contains-push}
use Rattle.std.proofs.lemmas.Option.{slice_get_within, get_or_from_slice_get}
use Rattle.graph_rings.specs.Search.{Rises}
use Rattle.graph_rings.proofs.Lists.{to_last}

pub split_last : (xs : List ℕ) (w : ℕ) → slice_get xs (length xs - 1) ≡ Some w → xs ≡ take (length xs - 1) xs ++ w ∷ []
split_last xs w e =
    let near : length xs - 1 < length xs = slice_get_within xs (length xs - 1) w e in
    let whole : take (length xs - 1 + 1) xs ≡ xs = ap (λ (n : ℕ). take n xs) (let t : length xs - 1 + 1 ≡ length xs = omega arith in t) ∙ take-length xs in
    let read : get_or xs (length xs - 1) 0 ≡ w = get_or_from_slice_get xs (length xs - 1) w 0 e in
    sym whole ∙ (take_more xs (length xs - 1) 0 near ∙ ap (λ (x : ℕ). take (length xs - 1) xs ++ x ∷ []) read)

pub top_in : (xs : List ℕ) (w : ℕ) → slice_get xs (length xs - 1) ≡ Some w → Contains xs w
top_in xs w e = subst (λ (l : List ℕ). Contains l w) (sym (split_last xs w e)) (Contains-push (take (length xs - 1) xs) w)

pub top_of : (xs : List ℕ) (w : ℕ) → slice_get xs (length xs - 1) ≡ Some w → Rises xs → (k : ℕ) → Contains xs k → k ≤ w
top_of xs w e r k c = to_last (take (length xs - 1) xs) w (subst Rises (split_last xs w e) r) k (subst (λ (l : List ℕ). Contains l k) (split_last xs w e) c)
