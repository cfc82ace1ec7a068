use Rattle.std.proofs.Common.{ℕ, List, ◌<◌}
use Rattle.rsfq_ids.specs.declared.table.CellTable.{CellTable}
use Rattle.verilog_tree.specs.Views.{view_source}
use Rattle.bind_hierarchy.specs.Kinds.{AreKinds}
use Rattle.bind_hierarchy.specs.Duplicates.{IsDuplicate}
use Rattle.bind_hierarchy.proofs.duplicates.first_duplicate.Given as goal

abbrev pub invariant-loop-place : goal.invariant-loop-place
invariant-loop-place l = (table : CellTable) → AreKinds (view_source l.source) table l.kinds → (before : ℕ) (name : List ℕ) → before < l.place → IsDuplicate (view_source l.source) table before name → ⊥
