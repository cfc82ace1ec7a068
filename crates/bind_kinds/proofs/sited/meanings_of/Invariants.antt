use Rattle.std.proofs.Common.{List, Option, take, ℕ}
use Rattle.std.specs.List.{AllZip}
use Rattle.rsfq_ids.specs.declared.table.CellTable.{CellTable}
use Rattle.verilog_tree.specs.Views.{view_source}
use Rattle.bind_hierarchy.specs.Kinds.{AreKinds}
use Rattle.bind_forms.specs.Modules.{setting}
use Rattle.bind_kinds.specs.Netlist.{AreMeaningsOf}
use Rattle.bind_kinds.proofs.sited.meanings_of.Given as goal

abbrev pub invariant-loop-at : goal.invariant-loop-at
invariant-loop-at l =
    (table : CellTable) (top : Option (List ℕ)) → AreKinds (view_source l.source) table l.kinds → AllZip (AreMeaningsOf (setting (view_source l.source) table top)) (take l.at (view_source l.source)) l.meanings.items
