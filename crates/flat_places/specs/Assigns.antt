-- The assigns of a module, each once: one that joins the same parts as an earlier one adds nothing.
use Rattle.std.specs.Prelude.{ℕ, Bool, cond, List, [], ◌∷◌, ◌++◌, length, take, slice_get, option_to_list}
use Rattle.std.specs.List.{flat_map, enumerate_from, list_any}
use Rattle.std.specs.Str.{bytes_eq}
use Rattle.bind_forms.specs.declared.bound.BoundPart.{BoundPart}
use Rattle.bind_forms.specs.declared.bound.BoundAssign.{BoundAssign}

-- what a part is, as numbers: its wire, its first bit, and how many bits it has
abbrev pub part_key : BoundPart → List ℕ
part_key part = part.wire ∷ part.bit ∷ part.count ∷ []

-- what an assign joins, as numbers: how many parts are set, these, and the parts that they are set from
abbrev pub assign_key : BoundAssign → List ℕ
assign_key assign = length assign.to ∷ (flat_map part_key assign.to ++ flat_map part_key assign.from)

-- one of some assigns joins what has these numbers
abbrev pub has_key : List BoundAssign → List ℕ → Bool
has_key assigns key = list_any (λ one. bytes_eq (assign_key one) key) assigns

-- the place of an assign, if no assign before it joins the same
abbrev pub new_place : List BoundAssign → ℕ × BoundAssign → List ℕ
new_place assigns (at, assign) = cond (has_key (take at assigns) (assign_key assign)) [] (at ∷ [])

abbrev pub new_places : List BoundAssign → List ℕ
new_places assigns = flat_map (new_place assigns) (enumerate_from 0 assigns)

-- the assigns at these places
abbrev pub picked_assigns : List BoundAssign → List ℕ → List BoundAssign
picked_assigns assigns places = flat_map (λ at. option_to_list (slice_get assigns at)) places

-- the assigns, each once
abbrev pub different : List BoundAssign → List BoundAssign
different assigns = picked_assigns assigns (new_places assigns)
