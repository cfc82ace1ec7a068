-- A list of numbers, field by field.
use Rattle.std.proofs.Common.{◌≡◌, ◌∙◌, refl, ap, true, false, List, [], ◌++◌, Option, Some, None}
use Rattle.std.specs.Prelude.{option_map, is_some}
use Rattle.std.specs.List.{list_any}
use Rattle.dimacs_text.specs.Parts.{Part}
use Rattle.dimacs_text.specs.declared.number.Signed.{Signed}
use Rattle.lrat_lines.specs.Lines.{broken, deletion, deletion_of}

-- numbers before those of a list
abbrev pub before : List Signed → Option (List Signed × List Part) → Option (List Signed × List Part)
before numbers found = option_map (λ f. (numbers ++ f.0, f.1)) found

pub is_none : {X : Type 0} (r : Option X) → is_some r ≡ false → r ≡ None
is_none None e = refl
is_none (Some x) e = absurd (let f : true ≡ false = e in cc)

deleted_by : (ids : List Signed) → list_any (λ (id : Signed). id.negative) ids ≡ false → deletion_of (Some (ids, [])) ≡ deletion ids
deleted_by ids e = rw e refl

broken_by : (ids : List Signed) → list_any (λ (id : Signed). id.negative) ids ≡ true → deletion_of (Some (ids, [])) ≡ broken
broken_by ids e = rw e refl

pub deletes : (found : Option (List Signed × List Part)) (ids : List Signed) (rest : List Part) → found ≡ Some (ids, rest) → rest ≡ [] → list_any (λ (id : Signed). id.negative) ids ≡ false
    → deletion_of found ≡ deletion ids
deletes found ids rest is none plain = ap deletion_of (is ∙ ap (λ (r : List Part). Some (ids, r)) none) ∙ deleted_by ids plain

pub has_broken : (found : Option (List Signed × List Part)) (ids : List Signed) (rest : List Part) → found ≡ Some (ids, rest) → rest ≡ [] → list_any (λ (id : Signed). id.negative) ids ≡ true
    → deletion_of found ≡ broken
has_broken found ids rest is none hyphen = ap deletion_of (is ∙ ap (λ (r : List Part). Some (ids, r)) none) ∙ broken_by ids hyphen
