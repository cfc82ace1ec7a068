-- Lists that agree item by item, and lists that grow at their ends.
use Rattle.std.proofs.Common.{◌≡◌, ◌⊎◌, inl, inr, ℕ, zero, suc, ◌+◌, ◌<◌, List, [], ◌∷◌, ◌++◌, map, length, take, reverse, get_or, Option, Some, None, Result, Ok, Err, OnOk, refl, sym, ◌∙◌, ap, subst, arith}
use Rattle.std.specs.Prelude.{slice_get}
use Rattle.std.specs.Option.{option_map}
use Rattle.std.specs.List.{All, AllZip, filter_map, cons_option, enumerate_from}
use Rattle.std.proofs.lemmas.List.{take_more, reverse-append}
use Rattle.std.proofs.lemmas.List.Elements.{filter_map-append}
use Rattle.std.proofs.lemmas.Option.{slice_get_within, slice_get-get_or, slice_get-map, get_or_from_slice_get}
use Rattle.verilog_bind.proofs.Found.{never, same_some}

pub zip_at : {A B : Type 0} (R : A → B → Type 0) (xs : List A) (ys : List B) (k : ℕ) (x : A) → AllZip R xs ys → slice_get xs k ≡ Some x → (y : B) × (slice_get ys k ≡ Some y) × R x y
zip_at R [] ys k x h e = absurd (never x e)
zip_at R (z ∷ xs) [] k x h e = absurd h
zip_at R (z ∷ xs) (y ∷ ys) zero x h e = (y, refl, subst (λ (w : _). R w y) (same_some z x e) h.0)
zip_at R (z ∷ xs) (y ∷ ys) (suc k) x h e = zip_at R xs ys k x h.1 e

pub zip_from : {A B : Type 0} (R : A → B → Type 0) (xs : List A) (ys : List B) (k : ℕ) (y : B) → AllZip R xs ys → slice_get ys k ≡ Some y → (x : A) × (slice_get xs k ≡ Some x) × R x y
zip_from R [] [] k y h e = absurd (never y e)
zip_from R [] (z ∷ ys) k y h e = absurd h
zip_from R (x ∷ xs) [] k y h e = absurd h
zip_from R (x ∷ xs) (z ∷ ys) zero y h e = (x, refl, subst (λ (w : _). R x w) (same_some z y e) h.0)
zip_from R (x ∷ xs) (z ∷ ys) (suc k) y h e = zip_from R xs ys k y h.1 e

pub zip_both : {A B : Type 0} (R : A → B → Type 0) (xs : List A) (ys : List B) (xt : List A) (yt : List B) → AllZip R xs ys → AllZip R xt yt → AllZip R (xs ++ xt) (ys ++ yt)
zip_both R [] [] xt yt h k = k
zip_both R [] (y ∷ ys) xt yt h k = absurd h
zip_both R (x ∷ xs) [] xt yt h k = absurd h
zip_both R (x ∷ xs) (y ∷ ys) xt yt h k = (h.0, zip_both R xs ys xt yt h.1 k)

pub zip_push : {A B : Type 0} (R : A → B → Type 0) (xs : List A) (ys : List B) (x : A) (y : B) → AllZip R xs ys → R x y → AllZip R (xs ++ x ∷ []) (ys ++ y ∷ [])
zip_push R xs ys x y h k = zip_both R xs ys (x ∷ []) (y ∷ []) h (k, tt)

pub zip_reverse : {A B : Type 0} (R : A → B → Type 0) (xs : List A) (ys : List B) → AllZip R xs ys → AllZip R (reverse xs) (reverse ys)
zip_reverse R [] [] h = tt
zip_reverse R [] (y ∷ ys) h = absurd h
zip_reverse R (x ∷ xs) [] h = absurd h
zip_reverse {A = A} {B = B} R (x ∷ xs) (y ∷ ys) h =
    subst (λ (l : List A). AllZip R l (reverse (y ∷ ys))) (sym (reverse-append (x ∷ []) xs))
    (subst (λ (l : List B). AllZip R (reverse xs ++ x ∷ []) l) (sym (reverse-append (y ∷ []) ys)) (zip_push R (reverse xs) (reverse ys) x y (zip_reverse R xs ys h.1) h.0))

-- ---- one item more

pub get_left : {X : Type 0} (xs ys : List X) (k : ℕ) (x : X) → slice_get xs k ≡ Some x → slice_get (xs ++ ys) k ≡ Some x
get_left [] ys k x e = absurd (never x e)
get_left (z ∷ xs) ys zero x e = e
get_left (z ∷ xs) ys (suc k) x e = get_left xs ys k x e

pub get_last : {X : Type 0} (xs : List X) (x : X) → slice_get (xs ++ x ∷ []) (length xs) ≡ Some x
get_last [] x = refl
get_last (z ∷ xs) x = get_last xs x

pub get_cases : {X : Type 0} (xs : List X) (x y : X) (k : ℕ) → slice_get (xs ++ x ∷ []) k ≡ Some y → (slice_get xs k ≡ Some y) ⊎ (x ≡ y)
get_cases [] x y zero e = inr (same_some x y e)
get_cases [] x y (suc k) e = absurd (never y e)
get_cases (z ∷ xs) x y zero e = inl e
get_cases (z ∷ xs) x y (suc k) e = get_cases xs x y k e

pub take_one : {X : Type 0} (xs : List X) (k : ℕ) (x : X) → slice_get xs k ≡ Some x → take (k + 1) xs ≡ take k xs ++ x ∷ []
take_one xs k x e =
    let lt = slice_get_within xs k x e in
    let same : get_or xs k x ≡ x = same_some (get_or xs k x) x (sym (slice_get-get_or xs k x lt) ∙ e) in
    take_more xs k x lt ∙ ap (λ (y : _). take k xs ++ y ∷ []) same

-- what a filter takes of one item more
pub filter_none : {X Y : Type 0} (h : X → Option Y) (xs : List X) (k : ℕ) (x : X) → slice_get xs k ≡ Some x → h x ≡ None → filter_map h (take (k + 1) xs) ≡ filter_map h (take k xs)
filter_none h xs k x e is =
    let none : cons_option (h x) [] ≡ [] = rw is refl in
    ap (filter_map h) (take_one xs k x e) ∙ filter_map-append h (take k xs) (x ∷ []) ∙ ap (λ (l : List _). filter_map h (take k xs) ++ l) none ∙ append_none (filter_map h (take k xs)) where
      append_none : {Z : Type 0} (zs : List Z) → zs ++ [] ≡ zs
      append_none [] = refl
      append_none (z ∷ zs) = ap (λ (l : List _). z ∷ l) (append_none zs)

pub filter_one : {X Y : Type 0} (h : X → Option Y) (xs : List X) (k : ℕ) (x : X) (y : Y) → slice_get xs k ≡ Some x → h x ≡ Some y → filter_map h (take (k + 1) xs) ≡ filter_map h (take k xs) ++ y ∷ []
filter_one h xs k x y e is =
    let one : cons_option (h x) [] ≡ y ∷ [] = rw is refl in
    ap (filter_map h) (take_one xs k x e) ∙ filter_map-append h (take k xs) (x ∷ []) ∙ ap (λ (l : List _). filter_map h (take k xs) ++ l) one

pub filter_more : {X Y : Type 0} (h : X → Option Y) (xs : List X) (k : ℕ) (x : X) → slice_get xs k ≡ Some x → filter_map h (take (k + 1) xs) ≡ filter_map h (take k xs) ++ filter_map h (x ∷ [])
filter_more h xs k x e = ap (filter_map h) (take_one xs k x e) ∙ filter_map-append h (take k xs) (x ∷ [])

pub last_cases : {X : Type 0} (xs : List X) (x y : X) (k : ℕ) → slice_get (xs ++ x ∷ []) k ≡ Some y → (slice_get xs k ≡ Some y) ⊎ ((k ≡ length xs) × (x ≡ y))
last_cases [] x y zero e = inr (refl, same_some x y e)
last_cases [] x y (suc k) e = absurd (never y e)
last_cases (z ∷ xs) x y zero e = inl e
last_cases (z ∷ xs) x y (suc k) e = elim (last_cases xs x y k e) [ inl h ↦ inl h | inr h ↦ (let l = h.0 in inr (omega arith, h.1)) ]

pub enumerated : {X : Type 0} (n : ℕ) (xs : List X) (k : ℕ) (x : X) → slice_get xs k ≡ Some x → slice_get (enumerate_from n xs) k ≡ Some (n + k, x)
enumerated n [] k x e = absurd (never x e)
enumerated n (z ∷ xs) zero x e =
    let same : n ≡ n + 0 = omega arith in
    ap (λ (y : _). Some (n, y)) (same_some z x e) ∙ ap (λ (m : ℕ). Some (m, x)) same
enumerated n (z ∷ xs) (suc k) x e =
    let same : n + 1 + k ≡ n + suc k = omega arith in
    enumerated (n + 1) xs k x e ∙ ap (λ (m : ℕ). Some (m, x)) same

pub length_enumerated : {X : Type 0} (n : ℕ) (xs : List X) → length (enumerate_from n xs) ≡ length xs
length_enumerated n [] = refl
length_enumerated n (x ∷ xs) = let rest = length_enumerated (n + 1) xs in omega (arith, rest)

-- what holds of all items holds of the one at a place
pub all_at : {X : Type 0} (P : X → Type 0) (xs : List X) (x : X) (k : ℕ) → All P xs → slice_get xs k ≡ Some x → P x
all_at P xs x k h e = subst P (get_or_from_slice_get xs k x x e) (h k x (slice_get_within xs k x e))

pub read_at : {X Y : Type 0} (v : X → Y) (xs : List X) (k : ℕ) (x : X) → k < length xs → x ≡ get_or xs k x → slice_get (map v xs) k ≡ Some (v x)
read_at v xs k x lt is = slice_get-map v xs k ∙ ap (option_map v) (slice_get-get_or xs k x lt ∙ ap Some (sym is))

-- what follows from what a clause says of an `Ok`
pub after : {A E : Type 0} (r : Result A E) {P Q : Type 0} → OnOk r P → (P → Q) → OnOk r Q
after (Ok a) p f = f p
after (Err e) p f = tt
