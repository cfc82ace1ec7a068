-- Facts that go along two lists.
use Rattle.std.proofs.Common.{◌≡◌, ℕ, suc, ◌+◌, ◌<◌, Some, List, [], ◌∷◌, ◌++◌, map, length, take, get_or, refl, sym, ◌∙◌, ap, subst}
use Rattle.std.specs.List.{AllZip}
use Rattle.std.specs.Prelude.{slice_get}
use Rattle.std.proofs.lemmas.List.{take_more}
use Rattle.std.proofs.lemmas.Option.{slice_get_within, get_or_from_slice_get}

zip_push : {A B : Type 0} (R : A → B → Type 0) (xs : List A) (ys : List B) (x : A) (y : B) → AllZip R xs ys → R x y → AllZip R (xs ++ x ∷ []) (ys ++ y ∷ [])
zip_push R [] [] x y h r = (r, tt)
zip_push R [] (b ∷ ys) x y h r = absurd h
zip_push R (a ∷ xs) [] x y h r = absurd h
zip_push R (a ∷ xs) (b ∷ ys) x y h r = (h.0, zip_push R xs ys x y h.1 r)

pub zip_append : {A B : Type 0} (R : A → B → Type 0) (xs others : List A) (ys more : List B) → AllZip R xs ys → AllZip R others more → AllZip R (xs ++ others) (ys ++ more)
zip_append R [] others [] more h r = r
zip_append R [] others (y ∷ ys) more h r = absurd h
zip_append R (x ∷ xs) others [] more h r = absurd h
zip_append R (x ∷ xs) others (y ∷ ys) more h r = (h.0, zip_append R xs others ys more h.1 r)

-- one more item
pub zip_more : {A B : Type 0} (R : A → B → Type 0) (xs : List A) (at : ℕ) (ys : List B) (x : A) (y : B) → at < length xs → x ≡ get_or xs at x → AllZip R (take at xs) ys → R x y
    → AllZip R (take (at + 1) xs) (ys ++ y ∷ [])
zip_more {A} R xs at ys x y near is h r =
    let more : take at xs ++ x ∷ [] ≡ take (at + 1) xs = ap (λ (z : A). take at xs ++ z ∷ []) is ∙ sym (take_more xs at x near) in
    subst (λ (l : List A). AllZip R l (ys ++ y ∷ [])) more (zip_push R (take at xs) ys x y h r)

pub zip_next : {A B : Type 0} (R : A → B → Type 0) (xs : List A) (at : ℕ) (ys : List B) (x : A) (y : B) → slice_get xs at ≡ Some x → AllZip R (take at xs) ys → R x y → AllZip R (take (at + 1) xs) (ys ++ y ∷ [])
zip_next R xs at ys x y there h r = zip_more R xs at ys x y (slice_get_within xs at x there) (sym (get_or_from_slice_get xs at x x there)) h r

pub zip_length : {A B : Type 0} (R : A → B → Type 0) (xs : List A) (ys : List B) → AllZip R xs ys → length xs ≡ length ys
zip_length R [] [] h = refl
zip_length R [] (y ∷ ys) h = absurd h
zip_length R (x ∷ xs) [] h = absurd h
zip_length R (x ∷ xs) (y ∷ ys) h = ap suc (zip_length R xs ys h.1)

-- along two lists of one value place by place
pub zip_along : {A B C V : Type 0} (f : A → V) (g : B → V) (R : A → C → Type 0) (Q : B → C → Type 0) → ((a : A) (b : B) (c : C) → f a ≡ g b → R a c → Q b c)
    → (xs : List A) (ys : List B) (zs : List C) → map f xs ≡ map g ys → AllZip R xs zs → AllZip Q ys zs
zip_along f g R Q to [] [] [] same h = tt
zip_along f g R Q to [] [] (z ∷ zs) same h = absurd h
zip_along f g R Q to [] (y ∷ ys) zs same h = absurd cc
zip_along f g R Q to (x ∷ xs) [] zs same h = absurd cc
zip_along f g R Q to (x ∷ xs) (y ∷ ys) [] same h = absurd h
zip_along f g R Q to (x ∷ xs) (y ∷ ys) (z ∷ zs) same h =
    let first : f x ≡ g y = cc in
    let rest : map f xs ≡ map g ys = cc in
    (to x y z first h.0, zip_along f g R Q to xs ys zs rest h.1)

-- along a list and what it is seen as
pub zip_seen : {A B C : Type 0} (f : A → B) (R : B → C → Type 0) (xs : List A) (zs : List C) → AllZip (λ x z. R (f x) z) xs zs → AllZip R (map f xs) zs
zip_seen f R [] [] h = tt
zip_seen f R [] (z ∷ zs) h = absurd h
zip_seen f R (x ∷ xs) [] h = absurd h
zip_seen f R (x ∷ xs) (z ∷ zs) h = (h.0, zip_seen f R xs zs h.1)

pub map_map : {A B C : Type 0} (f : B → C) (g : A → B) (xs : List A) → map f (map g xs) ≡ map (λ x. f (g x)) xs
map_map f g [] = refl
map_map f g (x ∷ xs) = ap (λ (rest : List _). f (g x) ∷ rest) (map_map f g xs)
