-- First places of names: one more name is seen, and what a first place means.
use Rattle.std.proofs.Common.{◌≡◌, ◌≢◌, ◌∙◌, ◌<◌, ◌≤◌, ◌⊎◌, inl, inr, ℕ, Bool, true, false, cond, List, [], ◌∷◌, ◌++◌, Option, Some, None, map, length, refl, sym, subst, ap, arith, get_or, take, ◌+◌, length-append}
use Rattle.std.specs.Prelude.{slice_get}
use Rattle.std.specs.Option.{option_map}
use Rattle.std.specs.Str.{bytes_eq}
use Rattle.std.proofs.Math.ListN.{get_or-append}
use Rattle.std.proofs.Math.Seq.{get_or-append_seam}
use Rattle.std.proofs.lemmas.Bool.{cases_lt, cases_Bool}
use Rattle.std.proofs.lemmas.Slice.Eq.{bytes_eq-Decides}
use Rattle.std.proofs.lemmas.Option.{slice_get_within, slice_get-get_or, get_or_from_slice_get, slice_get-map}
use Rattle.std.proofs.lemmas.List.{get_or-map, length-map, length-take-le, take_more}
use Rattle.rsfq_ids.specs.declared.table.CellTable.{CellTable}
use Rattle.rsfq_ids.specs.declared.table.CellRow.{CellRow}
use Rattle.verilog_tree.specs.declared.tree.Module.{Module as CodeModule}
use Rattle.verilog_tree.specs.Trees.{Module}
use Rattle.verilog_tree.specs.Views.{view_module}
use Rattle.name_table.specs.Places.{first_place}
use Rattle.bind_hierarchy.specs.Names.{IsFirstPlace, module_names, cell_names}

-- a place of a list that grew by one name: an old one, or the new one
pub placed : (names : List (List ℕ)) (y : List ℕ) (k : ℕ) (name : List ℕ) → slice_get (names ++ y ∷ []) k ≡ Some name → ((k < length names) × (slice_get names k ≡ Some name)) ⊎ ((k ≡ length names) × (y ≡ name))
placed names y k name e =
    let near : k < length (names ++ y ∷ []) = slice_get_within (names ++ y ∷ []) k name e in
    let read : get_or (names ++ y ∷ []) k [] ≡ name = get_or_from_slice_get (names ++ y ∷ []) k name [] e in
    elim (cases_lt k (length names)) [
      | inl l ↦ inl (l, slice_get-get_or names k [] l ∙ ap Some (sym (get_or-append names (y ∷ []) [] k l) ∙ read))
      | inr g ↦
          let same : k ≡ length names = omega (arith, length-append names (y ∷ [])) in
          inr (same, sym (get_or-append_seam names y [] []) ∙ (ap (λ (n : ℕ). get_or (names ++ y ∷ []) n []) (sym same) ∙ read))
    ]

pub place_old : (names : List (List ℕ)) (y : List ℕ) (k : ℕ) (name : List ℕ) → slice_get names k ≡ Some name → slice_get (names ++ y ∷ []) k ≡ Some name
place_old names y k name e =
    let near : k < length names = slice_get_within names k name e in
    slice_get-get_or (names ++ y ∷ []) k [] (omega (arith, near, length-append names (y ∷ []))) ∙ ap Some (get_or-append names (y ∷ []) [] k near ∙ get_or_from_slice_get names k name [] e)

pub place_new : (names : List (List ℕ)) (y : List ℕ) → slice_get (names ++ y ∷ []) (length names) ≡ Some y
place_new names y = slice_get-get_or (names ++ y ∷ []) (length names) [] (omega (arith, length-append names (y ∷ []))) ∙ ap Some (get_or-append_seam names y [] [])

-- a name that stood before keeps its first place
keeps : (names : List (List ℕ)) (y name : List ℕ) (at : ℕ) → IsFirstPlace names name (Some at) → IsFirstPlace (names ++ y ∷ []) name (Some at)
keeps names y name at f = (
  place_old names y at name f.0,
  λ earlier below e. elim (placed names y earlier name e) [
    | inl old ↦ f.1 earlier below old.1
    | inr new ↦ let near : at < length names = slice_get_within names at name f.0 in omega (arith, near, below, new.0)
  ],
)

-- a name that is not the new one is where it was
passes : (names : List (List ℕ)) (y name : List ℕ) (r : Option ℕ) → y ≢ name → IsFirstPlace names name r → IsFirstPlace (names ++ y ∷ []) name r
passes names y name None other f = λ at e. elim (placed names y at name e) [ inl old ↦ f at old.1 | inr new ↦ other new.1 ]
passes names y name (Some at) other f = keeps names y name at f

arrives : (names : List (List ℕ)) (y : List ℕ) (r : Option ℕ) → IsFirstPlace names y r → IsFirstPlace (names ++ y ∷ []) y (first_place r (length names))
arrives names y None f = (place_new names y, λ earlier below e. elim (placed names y earlier y e) [ inl old ↦ f earlier old.1 | inr new ↦ omega (arith, below, new.0) ])
arrives names y (Some at) f = keeps names y y at f

pub seen_first : (names : List (List ℕ)) (y : List ℕ) (place : ℕ) (old new : List ℕ → Option ℕ) → place ≡ length names → ((name : List ℕ) → IsFirstPlace names name (old name)) → ((name : List ℕ) → new name ≡ cond (bytes_eq y name) (first_place (old y) place) (old name)) →
    (name : List ℕ) → IsFirstPlace (names ++ y ∷ []) name (new name)
seen_first names y place old new at firsts sees name =
    subst (λ (r : Option ℕ). IsFirstPlace (names ++ y ∷ []) name r) (sym (sees name)) (go (bytes_eq y name) refl) where
      go : (b : Bool) → bytes_eq y name ≡ b → IsFirstPlace (names ++ y ∷ []) name (cond b (first_place (old y) place) (old name))
      go true e =
          let same : y ≡ name = (bytes_eq-Decides y name).0 e in
          subst (λ (n : List ℕ). IsFirstPlace (names ++ y ∷ []) n (first_place (old y) place)) same
          (subst (λ (k : ℕ). IsFirstPlace (names ++ y ∷ []) y (first_place (old y) k)) (sym at) (arrives names y (old y) (firsts y)))
      go false e =
          let other : y ≢ name = λ (same : y ≡ name). let no : true ≡ false = sym ((bytes_eq-Decides y name).1 same) ∙ e in cc in
          passes names y name (old name) other (firsts name)

-- ---- the names that the loops read

pub module_name_at : (modules : List CodeModule) (place : ℕ) (holder : CodeModule) → place < length modules → holder ≡ get_or modules place holder → get_or (module_names (map view_module modules)) place [] ≡ holder.name
module_name_at modules place holder l is =
    get_or-map (λ (m : Module). m.name) (map view_module modules) place (view_module holder) [] (omega (arith, l, length-map modules view_module))
    ∙ ap (λ (m : Module). m.name) (get_or-map view_module modules place holder (view_module holder) l ∙ ap view_module (sym is))

pub cell_name_at : (table : CellTable) (place : ℕ) (row : CellRow) → place < length table.rows → row ≡ get_or table.rows place row → get_or (cell_names table) place [] ≡ row.name
cell_name_at table place row l is = get_or-map (λ (c : CellRow). c.name) table.rows place row [] l ∙ ap (λ (c : CellRow). c.name) (sym is)

-- one more name of a list was seen
pub seen_next : (names : List (List ℕ)) (place : ℕ) (y : List ℕ) (old new : List ℕ → Option ℕ) → place < length names → get_or names place [] ≡ y → ((name : List ℕ) → IsFirstPlace (take place names) name (old name)) →
    ((name : List ℕ) → new name ≡ cond (bytes_eq y name) (first_place (old y) place) (old name)) → (name : List ℕ) → IsFirstPlace (take (place + 1) names) name (new name)
seen_next names place y old new l is firsts sees name =
    let size : place ≡ length (take place names) = sym (length-take-le place names (omega (arith, l))) in
    subst (λ (xs : List (List ℕ)). IsFirstPlace xs name (new name)) (sym (take_more names place [] l ∙ ap (λ (x : List ℕ). take place names ++ x ∷ []) is)) (seen_first (take place names) y place old new size firsts sees name)
