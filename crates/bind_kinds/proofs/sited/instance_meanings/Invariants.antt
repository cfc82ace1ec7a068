use Rattle.std.proofs.Common.{List, map, take}
use Rattle.std.specs.List.{AllZip, flat_map}
use Rattle.rsfq_ids.specs.declared.table.CellTable.{CellTable}
use Rattle.verilog_tree.specs.Trees.{Module}
use Rattle.verilog_tree.specs.Views.{view_item}
use Rattle.bind_hierarchy.specs.Kinds.{AreKinds}
use Rattle.bind_hierarchy.specs.Modules.{Means}
use Rattle.bind_kinds.specs.Meanings.{instance_kinds}
use Rattle.bind_kinds.proofs.sited.instance_meanings.Given as goal

abbrev pub invariant-loop-item : goal.invariant-loop-item
invariant-loop-item l =
    (modules : List Module) (table : CellTable) → AreKinds modules table l.kinds → AllZip (Means modules table) (flat_map instance_kinds (map view_item (take l.item-index l.items))) l.meanings
