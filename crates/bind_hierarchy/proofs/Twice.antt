-- A name that is given twice, by the first places of names.
use Rattle.std.proofs.Common.{◌≡◌, ◌≢◌, ◌∙◌, ◌<◌, ◌≤◌, ◌+◌, ◌⊎◌, ◌↔◌, inl, inr, ℕ, Bool, true, false, List, [], Option, Some, None, is_some, map, length, refl, sym, ap, subst, arith, get_or}
use Rattle.std.specs.Prelude.{slice_get}
use Rattle.std.proofs.lemmas.Bool.{cases_lt, cases_eq}
use Rattle.std.proofs.lemmas.Option.{slice_get_within, slice_get-get_or}
use Rattle.std.proofs.lemmas.List.{length-map}
use Rattle.rsfq_ids.specs.declared.table.CellTable.{CellTable}
use Rattle.verilog_tree.specs.declared.tree.Module.{Module as CodeModule}
use Rattle.verilog_tree.specs.Trees.{Module}
use Rattle.verilog_tree.specs.Views.{view_module}
use Rattle.name_table.specs.Places.{place_of}
use Rattle.bind_hierarchy.specs.declared.kinds.Kinds.{Kinds}
use Rattle.bind_hierarchy.specs.Names.{IsFirstPlace, module_names, cell_names}
use Rattle.bind_hierarchy.specs.Kinds.{AreKinds}
use Rattle.bind_hierarchy.specs.Modules.{IsModuleNamed, IsCellNamed, MeansModule}
use Rattle.bind_hierarchy.specs.Duplicates.{IsDuplicate}
use Rattle.bind_hierarchy.proofs.Firsts.{module_name_at}
use Rattle.bind_hierarchy.proofs.Inner.{named_at, at_named, first_means}
use Rattle.bind_hierarchy.proofs.Meanings.{means_module, no_cell, cell_at}

module _ (modules : List Module) (table : CellTable) (kinds : Kinds) (k : AreKinds modules table kinds) (name : List ℕ) (place : ℕ) (named : IsModuleNamed modules place name) where
  pub earlier_twice : (first : ℕ) → place_of kinds.modules name ≡ Some first → first < place → IsDuplicate modules table place name
  earlier_twice first e l = (named, inl (first, l, (means_module modules table kinds k name first e).0))

  pub cell_twice : (row : ℕ) → place_of kinds.cells name ≡ Some row → IsDuplicate modules table place name
  cell_twice row e =
      let f : IsFirstPlace (cell_names table) name (Some row) = subst (λ (r : Option ℕ). IsFirstPlace (cell_names table) name r) e (k.cells_are name) in
      (named, inr (row, cell_at table row name f.0))

  -- no earlier module has the name where its first place is not before this one
  no_earlier : (r : Option ℕ) → place_of kinds.modules name ≡ r → ((first : ℕ) → r ≡ Some first → first < place → ⊥) → (earlier : ℕ) → earlier < place → IsModuleNamed modules earlier name → ⊥
  no_earlier None e none earlier l h = (subst (λ (r : Option ℕ). IsFirstPlace (module_names modules) name r) e (k.modules_are name)) earlier (at_named modules earlier name h)
  no_earlier (Some first) e none earlier l h =
      let m : MeansModule modules name first = means_module modules table kinds k name first e in
      elim (cases_lt first place) [
        | inl low ↦ none first refl low
        | inr high ↦ m.1 earlier (omega (arith, l, high)) h
      ]

  -- the answer: an earlier first place, or that of a cell
  pub twice_is : (cell : Option ℕ) → place_of kinds.cells name ≡ cell → ((first : ℕ) → place_of kinds.modules name ≡ Some first → first < place → ⊥) → (is_some cell ≡ true) ↔ IsDuplicate modules table place name
  twice_is (Some row) e none = (λ _. cell_twice row e, λ _. refl)
  twice_is None e none = (
    λ no. absurd (let n : false ≡ true = no in cc),
    λ d. elim d.1 [
      | inl p ↦ absurd (no_earlier (place_of kinds.modules name) refl none p.0 p.1 p.2)
      | inr c ↦ absurd (no_cell modules table kinds k name e c.0 c.1)
    ],
  )

pub module_named : (modules : List CodeModule) (place : ℕ) (holder : CodeModule) → place < length modules → holder ≡ get_or modules place holder → IsModuleNamed (map view_module modules) place holder.name
module_named modules place holder l is =
    named_at (map view_module modules) place holder.name
    (slice_get-get_or (module_names (map view_module modules)) place [] (omega (arith, l, length-map modules view_module, length-map (map view_module modules) (λ m. m.name))) ∙ ap Some (module_name_at modules place holder l is))

-- a module has one name
pub one_name : (modules : List Module) (at : ℕ) (a b : List ℕ) → IsModuleNamed modules at a → IsModuleNamed modules at b → a ≡ b
one_name modules at a b p q =
    let e : Some a ≡ Some b = sym (at_named modules at a p) ∙ at_named modules at b q in cc

pub module_below : (modules : List Module) (at : ℕ) (name : List ℕ) → IsModuleNamed modules at name → at < length modules
module_below modules at name h = slice_get_within modules at h.0 h.1
