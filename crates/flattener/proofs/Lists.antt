-- Lists that are written item by item.
use Rattle.std.proofs.Common.{◌≡◌, ◌∙◌, ◌+◌, ◌-◌, min, ◌<◌, ◌≤◌, ℕ, zero, suc, List, [], ◌∷◌, ◌++◌, map, drop, length, get_or, Option, Some, None, Result, Ok, Err, refl, sym, ap, subst, arith, add-one, append_assoc, drop-cons, length-drop}
use Rattle.std.proofs.lemmas.List.{append-nil}
use Rattle.std.proofs.lemmas.List.FromFn.{map-range_with_len_more}
use Rattle.std.specs.Prelude.{slice_get}
use Rattle.std.specs.Option.{option_map}
use Rattle.std.specs.Result.{OnOk}
use Rattle.std.specs.List.{All, flat_map, enumerate_from, range_with_len, zip}
use Rattle.std.proofs.lemmas.Option.{same_Some, slice_get-map}

pub range_more : (a n : ℕ) → range_with_len a (suc n) ≡ range_with_len a n ++ (a + n) ∷ []
range_more a zero = let e : a ≡ a + 0 = omega arith in ap (λ (j : ℕ). j ∷ []) e
range_more a (suc n) =
    let e : a + 1 + n ≡ a + suc n = omega arith in
    ap (λ xs. a ∷ xs) (range_more (a + 1) n ∙ ap (λ (j : ℕ). range_with_len (a + 1) n ++ j ∷ []) e)

-- the next number of a range was written
pub range_step : (a j : ℕ) (done old : List ℕ) → a ≤ j → done ≡ old ++ range_with_len a (j - a) → done ++ j ∷ [] ≡ old ++ range_with_len a (j + 1 - a)
range_step a j done old low e =
    let more : j + 1 - a ≡ suc (j - a) = omega arith in
    let last : a + (j - a) ≡ j = omega arith in
    ap (λ (xs : List ℕ). xs ++ j ∷ []) e
    ∙ append_assoc old (range_with_len a (j - a)) (j ∷ [])
    ∙ ap (λ (k : ℕ). old ++ (range_with_len a (j - a) ++ k ∷ [])) (sym last)
    ∙ ap (λ (xs : List ℕ). old ++ xs) (sym (range_more a (j - a)))
    ∙ ap (λ (n : ℕ). old ++ range_with_len a n) (sym more)

-- what the next number of a range comes to was written
pub number_step : {Y : Type 0} (f : ℕ → Y) (a j : ℕ) (done old : List Y) → a ≤ j → done ≡ old ++ map f (range_with_len a (j - a)) → done ++ f j ∷ [] ≡ old ++ map f (range_with_len a (j + 1 - a))
number_step {Y} f a j done old low e =
    let more : j + 1 - a ≡ j - a + 1 = omega arith in
    let last : a + (j - a) ≡ j = omega arith in
    ap (λ (ys : List Y). ys ++ f j ∷ []) e
    ∙ append_assoc old (map f (range_with_len a (j - a))) (f j ∷ [])
    ∙ ap (λ (ys : List Y). old ++ ys) (sym (map-range_with_len_more f a (j - a) j last))
    ∙ ap (λ (n : ℕ). old ++ map f (range_with_len a n)) (sym more)

-- what the next item comes to was written
pub flat_step : {X Y : Type 0} (f : X → List Y) (xs : List X) (i : ℕ) (d : X) (done whole : List Y) → i < length xs → done ++ flat_map f (drop i xs) ≡ whole → (done ++ f (get_or xs i d)) ++ flat_map f (drop (i + 1) xs) ≡ whole
flat_step f xs i d done whole low e =
    append_assoc done (f (get_or xs i d)) (flat_map f (drop (i + 1) xs))
    ∙ ap (λ k. done ++ (f (get_or xs i d) ++ flat_map f (drop k xs))) (add-one i)
    ∙ ap (λ ys. done ++ flat_map f ys) (sym (drop-cons xs i d low))
    ∙ e

-- as many pairs as the shorter list has items were written
pub zip_end : {X Y : Type 0} (f : X × X → Y) (xs ys : List X) (i : ℕ) (done whole : List Y) → min (length xs) (length ys) ≤ i → done ++ map f (zip (drop i xs) (drop i ys)) ≡ whole → done ≡ whole
zip_end {X} {Y} f xs ys i done whole high e =
    sym (append-nil done) ∙ ap (λ (zs : List Y). done ++ zs) (sym (none (drop i xs) (drop i ys) (simp length-drop (omega arith)))) ∙ e where
      none : (left right : List X) → min (length left) (length right) ≡ 0 → map f (zip left right) ≡ []
      none [] right z = refl
      none (a ∷ left) [] z = refl
      none (a ∷ left) (b ∷ right) z = absurd (omega arith)

-- ---- items of lists

pub all_tail : {X : Type 0} (P : X → Type 0) (x : X) (xs : List X) → All P (x ∷ xs) → All P xs
all_tail P x xs h = λ k d low. h (suc k) d (omega arith)

-- what holds of a value where a call succeeds holds of an equal one
pub ok_along : {T E X : Type 0} (P : X → Type 0) {x y : X} → x ≡ y → (r : Result T E) → OnOk r (P x) → OnOk r (P y)
ok_along P e (Ok v) h = subst P e h
ok_along P e (Err f) h = h

pub map_twice : {X Y Z : Type 0} (f : Y → Z) (g : X → Y) (xs : List X) → map f (map g xs) ≡ map (λ x. f (g x)) xs
map_twice f g [] = refl
map_twice f g (x ∷ xs) = ap (λ ys. f (g x) ∷ ys) (map_twice f g xs)

-- all that the items come to was written
pub flat_end : {X Y : Type 0} (f : X → List Y) (xs : List X) (i : ℕ) (done whole : List Y) → length xs ≤ i → done ++ flat_map f (drop i xs) ≡ whole → done ≡ whole
flat_end {X} {Y} f xs i done whole high e = sym (append-nil done) ∙ ap (λ (ys : List Y). done ++ ys) (sym (none (drop i xs) (simp length-drop (omega arith)))) ∙ e where
  none : (left : List X) → length left ≡ 0 → flat_map f left ≡ []
  none [] z = refl
  none (x ∷ left) z = absurd (omega arith)

-- what the next of numbered items comes to was written
pub numbered_step : {X Y : Type 0} (f : ℕ × X → List Y) (xs : List X) (i : ℕ) (d : X) (done whole : List Y) → i < length xs → done ++ flat_map f (enumerate_from i (drop i xs)) ≡ whole → (done ++ f (i, get_or xs i d)) ++ flat_map f (enumerate_from (i + 1) (drop (i + 1) xs)) ≡ whole
numbered_step f xs i d done whole low e =
    append_assoc done (f (i, get_or xs i d)) (flat_map f (enumerate_from (i + 1) (drop (i + 1) xs)))
    ∙ ap (λ k. done ++ (f (i, get_or xs i d) ++ flat_map f (enumerate_from (i + 1) (drop k xs)))) (add-one i)
    ∙ ap (λ ys. done ++ flat_map f (enumerate_from i ys)) (sym (drop-cons xs i d low))
    ∙ e

pub on_ok : {T E : Type 0} (P : Type 0) → P → (r : Result T E) → OnOk r P
on_ok P p (Ok x) = p
on_ok P p (Err e) = tt
