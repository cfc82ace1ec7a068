-- One more link by order, as a loop takes it.
use Rattle.std.proofs.Common.{◌≡◌, ℕ, ◌+◌, ◌<◌, suc, List, [], ◌∷◌, ◌++◌, length, take, map, get_or, sym, ◌∙◌, ap, append_assoc, arith}
use Rattle.std.specs.List.{flat_map, enumerate_from}
use Rattle.std.proofs.lemmas.List.{map_more}
use Rattle.std.proofs.lemmas.Grind.{common_steps, flat_map-append}

pub enumerate_from-append : {X : Type 0} (n : ℕ) (xs : List X) (y : X) → enumerate_from n (xs ++ y ∷ []) ≡ enumerate_from n xs ++ (n + length xs, y) ∷ []
enumerate_from-append n [] y = ap (λ (k : ℕ). (k, y) ∷ []) (omega arith)
enumerate_from-append n (x ∷ xs) y =
    let same : n + 1 + length xs ≡ n + suc (length xs) = omega arith in
    ap (λ l. (n, x) ∷ l) (enumerate_from-append (n + 1) xs y ∙ ap (λ (k : ℕ). enumerate_from (n + 1) xs ++ (k, y) ∷ []) same)

-- the pieces of the items so far, each with its place, and that of one more
pub places_more : {X Y Z : Type 0} (f : ℕ × Y → List Z) (v : X → Y) (xs : List X) (i : ℕ) (d : X) → i < length xs
    → flat_map f (enumerate_from 0 (map v (take (i + 1) xs))) ≡ flat_map f (enumerate_from 0 (map v (take i xs))) ++ f (i, v (get_or xs i d))
places_more f v xs i d h =
    let at : 0 + length (map v (take i xs)) ≡ i = grind (arith, common_steps) in
    ap (λ l. flat_map f (enumerate_from 0 l)) (map_more v xs i d h)
    ∙ ap (flat_map f) (enumerate_from-append 0 (map v (take i xs)) (v (get_or xs i d)))
    ∙ ap (λ (k : ℕ). flat_map f (enumerate_from 0 (map v (take i xs)) ++ (k, v (get_or xs i d)) ∷ [])) at
    ∙ flat_map-append f (enumerate_from 0 (map v (take i xs))) ((i, v (get_or xs i d)) ∷ [])
    ∙ grind (arith, common_steps)

-- what a loop added so far, and one more
pub more_places : {X Y Z : Type 0} (f : ℕ × Y → List Z) (v : X → Y) (xs : List X) (i : ℕ) (x : X) (s t u : List Z) → i < length xs → x ≡ get_or xs i x
    → t ≡ s ++ flat_map f (enumerate_from 0 (map v (take i xs))) → u ≡ t ++ f (i, v x) → u ≡ s ++ flat_map f (enumerate_from 0 (map v (take (i + 1) xs)))
more_places f v xs i x s t u h is before now =
    let more : flat_map f (enumerate_from 0 (map v (take (i + 1) xs))) ≡ flat_map f (enumerate_from 0 (map v (take i xs))) ++ f (i, v x)
    = places_more f v xs i x h ∙ ap (λ y. flat_map f (enumerate_from 0 (map v (take i xs))) ++ f (i, v y)) (sym is) in
    rw more (now ∙ ap (λ y. y ++ f (i, v x)) before ∙ append_assoc s (flat_map f (enumerate_from 0 (map v (take i xs)))) (f (i, v x)))
