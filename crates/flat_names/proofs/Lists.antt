-- Items of lists, and what holds of them.
use Rattle.std.proofs.Common.{◌≡◌, ◌∙◌, ℕ, List, length, get_or, Option, Some, None, Result, Ok, Err, refl, ap, subst}
use Rattle.std.specs.Prelude.{slice_get}
use Rattle.std.specs.Option.{option_map}
use Rattle.std.specs.Result.{IfOk}
use Rattle.std.specs.List.{All}
use Rattle.std.proofs.lemmas.Option.{same_Some, slice_get_within, get_or_from_slice_get, slice_get_read}

-- what was read from a list that is another
pub read_from : {X : Type 0} (xs ys : List X) (k : ℕ) (x : X) → ys ≡ xs → x ≡ get_or ys k x → x ≡ get_or xs k x
read_from {X} xs ys k x same is = is ∙ ap (λ (zs : List X). get_or zs k x) same

pub read_at : {X : Type 0} (xs ys : List X) (k : ℕ) (there x : X) → slice_get xs k ≡ Some there → ys ≡ xs → x ≡ get_or ys k x → slice_get xs k ≡ Some x
read_at xs ys k there x e same is = slice_get_read xs (length xs) k x refl (slice_get_within xs k there e) (read_from xs ys k x same is)

pub ok_then : {T E : Type 0} (P Q : T → Type 0) → ((x : T) → P x → Q x) → (r : Result T E) → IfOk r P → IfOk r Q
ok_then P Q law (Ok x) h = law x h
ok_then P Q law (Err e) h = h
