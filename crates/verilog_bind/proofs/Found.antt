-- Items of lists by their places: in lists joined, mapped, filtered and laid end to end.
use Rattle.std.proofs.Common.{◌≡◌, ◌⊎◌, inl, inr, ℕ, zero, suc, List, [], ◌∷◌, ◌++◌, map, Option, Some, None, refl, sym, ◌∙◌, ap, subst}
use Rattle.std.specs.Prelude.{slice_get}
use Rattle.std.specs.Option.{option_map}
use Rattle.std.specs.List.{All, Contains, filter_map, flat_map, cons_option}
use Rattle.std.proofs.lemmas.Option.{slice_get-map, slice_get_within, slice_get-get_or, get_or_from_slice_get}

-- an item stands somewhere
abbrev pub Somewhere : {X : Type 0} → List X → X → Type 0
Somewhere xs x = (at : ℕ) × (slice_get xs at ≡ Some x)

pub never : {X : Type 0} (x : X) → None ≡ Some x → ⊥
never x e = cc

pub same_some : {X : Type 0} (x y : X) → Some x ≡ Some y → x ≡ y
same_some x y e = cc

pub one_item : {X : Type 0} (xs : List X) (at : ℕ) (x y : X) → slice_get xs at ≡ Some x → slice_get xs at ≡ Some y → x ≡ y
one_item xs at x y e f = same_some x y (sym e ∙ f)

pub contains_found : {X : Type 0} (xs : List X) (x : X) → Somewhere xs x → Contains xs x
contains_found xs x h = (h.0, slice_get_within xs h.0 x h.1, get_or_from_slice_get xs h.0 x x h.1)

pub found_contains : {X : Type 0} (xs : List X) (x : X) → Contains xs x → Somewhere xs x
found_contains xs x h = (h.0, slice_get-get_or xs h.0 x h.1 ∙ ap Some h.2)

pub found_right : {X : Type 0} (xs ys : List X) (x : X) → Somewhere ys x → Somewhere (xs ++ ys) x
found_right [] ys x h = h
found_right (y ∷ xs) ys x h = let rest = found_right xs ys x h in (suc rest.0, rest.1)

pub found_left : {X : Type 0} (xs ys : List X) (x : X) → Somewhere xs x → Somewhere (xs ++ ys) x
found_left [] ys x h = absurd (never x h.1)
found_left (y ∷ xs) ys x (zero, e) = (zero, e)
found_left (y ∷ xs) ys x (suc at, e) = let rest = found_left xs ys x (at, e) in (suc rest.0, rest.1)

pub found_cases : {X : Type 0} (xs ys : List X) (x : X) → Somewhere (xs ++ ys) x → Somewhere xs x ⊎ Somewhere ys x
found_cases [] ys x h = inr h
found_cases (y ∷ xs) ys x (zero, e) = inl (zero, e)
found_cases (y ∷ xs) ys x (suc at, e) = elim (found_cases xs ys x (at, e)) [ inl h ↦ inl (suc h.0, h.1) | inr h ↦ inr h ]

-- what holds of all items
pub all_at : {X : Type 0} (P : X → Type 0) (xs : List X) (x : X) → All P xs → Somewhere xs x → P x
all_at P xs x h s = subst P (get_or_from_slice_get xs s.0 x x s.1) (h s.0 x (slice_get_within xs s.0 x s.1))

-- an item of a mapped list
pub mapped : {X Y : Type 0} (f : X → Y) (xs : List X) (at : ℕ) (y : Y) → slice_get (map f xs) at ≡ Some y → (x : X) × (slice_get xs at ≡ Some x) × (f x ≡ y)
mapped f [] at y e = absurd (never y e)
mapped f (x ∷ xs) zero y e = (x, refl, same_some (f x) y e)
mapped f (x ∷ xs) (suc at) y e = mapped f xs at y e

pub found_mapped : {X Y : Type 0} (f : X → Y) (xs : List X) (x : X) → Somewhere xs x → Somewhere (map f xs) (f x)
found_mapped f xs x h = (h.0, slice_get-map f xs h.0 ∙ ap (option_map f) h.1)

-- a list with an item put before it, or none
found_cons : {Y : Type 0} (o : Option Y) (ys : List Y) (y : Y) → Somewhere ys y → Somewhere (cons_option o ys) y
found_cons None ys y h = h
found_cons (Some v) ys y h = (suc h.0, h.1)

-- what a filter takes
pub taken : {X Y : Type 0} (h : X → Option Y) (xs : List X) (x : X) (y : Y) → Somewhere xs x → h x ≡ Some y → Somewhere (filter_map h xs) y
taken h [] x y s e = absurd (never x s.1)
taken h (z ∷ xs) x y (zero, s) e =
    let same : z ≡ x = same_some z x s in
    let is : h z ≡ Some y = ap h same ∙ e in
    rw is (zero, refl)
taken h (z ∷ xs) x y (suc at, s) e = found_cons (h z) (filter_map h xs) y (taken h xs x y (at, s) e)

cons_cases : {Y : Type 0} (o : Option Y) (ys : List Y) (y : Y) → Somewhere (cons_option o ys) y → (o ≡ Some y) ⊎ Somewhere ys y
cons_cases None ys y h = inr h
cons_cases (Some v) ys y (zero, e) = inl e
cons_cases (Some v) ys y (suc at, e) = inr (at, e)

pub given : {X Y : Type 0} (h : X → Option Y) (xs : List X) (y : Y) → Somewhere (filter_map h xs) y → (x : X) × Somewhere xs x × (h x ≡ Some y)
given h [] y s = absurd (never y s.1)
given h (x ∷ xs) y s = elim (cons_cases (h x) (filter_map h xs) y s) [
  | inl e ↦ (x, (zero, refl), e)
  | inr rest ↦ (let more = given h xs y rest in (more.0, (suc more.1.0, more.1.1), more.2))
]

-- lists laid end to end
pub laid : {X Y : Type 0} (f : X → List Y) (xs : List X) (x : X) (y : Y) → Somewhere xs x → Somewhere (f x) y → Somewhere (flat_map f xs) y
laid f [] x y s h = absurd (never x s.1)
laid f (z ∷ xs) x y (zero, s) h =
    let same : z ≡ x = same_some z x s in
    found_left (f z) (flat_map f xs) y (rw same h)
laid f (z ∷ xs) x y (suc at, s) h = found_right (f z) (flat_map f xs) y (laid f xs x y (at, s) h)

pub laid_from : {X Y : Type 0} (f : X → List Y) (xs : List X) (y : Y) → Somewhere (flat_map f xs) y → (x : X) × Somewhere xs x × Somewhere (f x) y
laid_from f [] y s = absurd (never y s.1)
laid_from f (x ∷ xs) y s = elim (found_cases (f x) (flat_map f xs) y s) [
  | inl h ↦ (x, (zero, refl), h)
  | inr rest ↦ (let more = laid_from f xs y rest in (more.0, (suc more.1.0, more.1.1), more.2))
]
