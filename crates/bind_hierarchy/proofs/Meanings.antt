-- What a name means, by the first places of names.
use Rattle.std.proofs.Common.{◌≡◌, ◌∙◌, ◌<◌, ℕ, List, Option, Some, None, map, refl, sym, ap, subst}
use Rattle.std.specs.Prelude.{slice_get}
use Rattle.std.specs.Option.{option_map}
use Rattle.std.proofs.lemmas.Option.{slice_get-map}
use Rattle.rsfq_ids.specs.declared.table.CellTable.{CellTable}
use Rattle.rsfq_ids.specs.declared.table.CellRow.{CellRow}
use Rattle.verilog_tree.specs.Trees.{Module}
use Rattle.name_table.specs.Places.{place_of}
use Rattle.bind_hierarchy.specs.declared.kinds.Kinds.{Kinds}
use Rattle.bind_hierarchy.specs.declared.kinds.Meaning.TheVariants as meaning
use Rattle.bind_hierarchy.specs.Names.{IsFirstPlace, module_names, cell_names}
use Rattle.bind_hierarchy.specs.Kinds.{AreKinds}
use Rattle.bind_hierarchy.specs.Modules.{IsModuleNamed, IsCellNamed, MeansModule, MeansCell, Means}
use Rattle.bind_hierarchy.proofs.Inner.{at_named, means_first, some_same}

pub cell_at : (table : CellTable) (row : ℕ) (name : List ℕ) → slice_get (cell_names table) row ≡ Some name → IsCellNamed table row name
cell_at table row name e = go (slice_get table.rows row) refl where
  go : (o : Option CellRow) → slice_get table.rows row ≡ o → IsCellNamed table row name
  go None is = absurd (let no : None ≡ Some name = sym (slice_get-map (λ (c : CellRow). c.name) table.rows row ∙ ap (option_map (λ (c : CellRow). c.name)) is) ∙ e in cc)
  go (Some cell) is =
      let yes : Some cell.name ≡ Some name = sym (slice_get-map (λ (c : CellRow). c.name) table.rows row ∙ ap (option_map (λ (c : CellRow). c.name)) is) ∙ e in
      (cell, is, some_same cell.name name yes)

pub at_cell : (table : CellTable) (row : ℕ) (name : List ℕ) → IsCellNamed table row name → slice_get (cell_names table) row ≡ Some name
at_cell table row name h = slice_get-map (λ (c : CellRow). c.name) table.rows row ∙ (ap (option_map (λ (c : CellRow). c.name)) h.1 ∙ ap Some h.2)

module _ (modules : List Module) (table : CellTable) (kinds : Kinds) (k : AreKinds modules table kinds) (name : List ℕ) where
  pub no_module : place_of kinds.modules name ≡ None → (at : ℕ) → IsModuleNamed modules at name → ⊥
  no_module none at h = (subst (λ (r : Option ℕ). IsFirstPlace (module_names modules) name r) none (k.modules_are name)) at (at_named modules at name h)

  pub means_module : (at : ℕ) → place_of kinds.modules name ≡ Some at → MeansModule modules name at
  means_module at is = means_first modules name at (subst (λ (r : Option ℕ). IsFirstPlace (module_names modules) name r) is (k.modules_are name))

  pub means_cell : (row : ℕ) → place_of kinds.modules name ≡ None → place_of kinds.cells name ≡ Some row → MeansCell modules table name row
  means_cell row none is =
      let f : IsFirstPlace (cell_names table) name (Some row) = subst (λ (r : Option ℕ). IsFirstPlace (cell_names table) name r) is (k.cells_are name) in
      (no_module none, cell_at table row name f.0, λ earlier below h. f.1 earlier below (at_cell table earlier name h))

  pub no_cell : place_of kinds.cells name ≡ None → (row : ℕ) → IsCellNamed table row name → ⊥
  no_cell none row h = (subst (λ (r : Option ℕ). IsFirstPlace (cell_names table) name r) none (k.cells_are name)) row (at_cell table row name h)
