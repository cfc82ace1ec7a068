-- The fields of a record as a list.
use Rattle.std.proofs.Common.{◌≡◌, ◌∙◌, ◌<◌, ℕ, zero, suc, refl, List, [], ◌∷◌, length, Option, Some, None}
use Rattle.std.specs.Prelude.{IsSome, option_map, slice_get}
use Rattle.std.specs.Borrow.{Bor}
use Rattle.std.proofs.lemmas.Option.{slice_get-get_or}
use Rattle.csv.specs.Records.{field_at}

pub field_at-slice_get : (fs : List (List ℕ)) (i : ℕ) → field_at fs i ≡ slice_get fs i
unfolding field_at
field_at-slice_get [] i = refl
field_at-slice_get (f ∷ fs) zero = refl
field_at-slice_get (f ∷ fs) (suc i) = field_at-slice_get fs i

-- a field at a place that the record has is there
pub is_field : (fs : List (List ℕ)) (i : ℕ) (got : Option (Bor (List ℕ))) → i < length fs → option_map (λ s. s.now) got ≡ field_at fs i → IsSome got
is_field fs i None lt e =
    let bad : ◌≡◌ {A = Option (List ℕ)} None (Some _) = e ∙ (field_at-slice_get fs i ∙ slice_get-get_or fs i [] lt) in
    cc
is_field fs i (Some s) lt e = refl
