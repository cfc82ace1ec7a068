-- A fact of each element of a list, by recursion.
use Rattle.std.proofs.Common.{◌≡◌, ℕ, List, [], ◌∷◌, ◌++◌, map, Some, subst}
use Rattle.std.specs.Prelude.{slice_get}
use Rattle.std.specs.List.{All, Contains, flat_map}
use Rattle.std.proofs.lemmas.List.Elements.{All-nil, All-cons, All-get_or, Contains-append_left, Contains-append_right, Contains-push}
use Rattle.std.proofs.lemmas.Option.{slice_get_within, get_or_from_slice_get}

abbrev pub Every : {A : Type 0} → (A → Type 0) → List A → Type 0
Every P [] = Unit {0}
Every P (a ∷ items) = P a × Every P items

pub every_both : {A : Type 0} (P : A → Type 0) (a b : List A) → Every P a → Every P b → Every P (a ++ b)
every_both P [] b g h = h
every_both P (x ∷ a) b g h = (g.0, every_both P a b g.1 h)

pub every_weaker : {A : Type 0} (P Q : A → Type 0) → ((a : A) → P a → Q a) → (items : List A) → Every P items → Every Q items
every_weaker P Q to [] h = tt
every_weaker P Q to (a ∷ items) h = (to a h.0, every_weaker P Q to items h.1)

pub every_map : {A B : Type 0} (P : B → Type 0) (f : A → B) → ((a : A) → P (f a)) → (items : List A) → Every P (map f items)
every_map P f h [] = tt
every_map P f h (a ∷ items) = (h a, every_map P f h items)

-- of what is made of each element
pub every_flat : {A B : Type 0} (P : B → Type 0) (f : A → List B) (items : List A) → ((a : A) → Contains items a → Every P (f a)) → Every P (flat_map f items)
every_flat P f [] h = tt
every_flat {A} P f (a ∷ items) h =
    every_both P (f a) (flat_map f items) (h a (Contains-append_left (a ∷ []) items a (Contains-push [] a))) (every_flat P f items (λ x c. h x (Contains-append_right (a ∷ []) items x c)))

all_of : {A : Type 0} (P : A → Type 0) (items : List A) → Every P items → All P items
all_of P [] h = All-nil P
all_of P (a ∷ items) h = All-cons P a items h.0 (all_of P items h.1)

pub every_at : {A : Type 0} (P : A → Type 0) (items : List A) (k : ℕ) (a : A) → Every P items → slice_get items k ≡ Some a → P a
every_at {A} P items k a h e = subst P (get_or_from_slice_get items k a a e) (All-get_or P items k a (slice_get_within items k a e) (all_of P items h))
