use Rattle.std.proofs.Common.{ℕ, List, take}
use Rattle.name_table.specs.Places.{place_of}
use Rattle.verilog_tree.specs.Views.{view_module}
use Rattle.bind_hierarchy.specs.Names.{IsFirstPlace, module_names}
use Rattle.std.specs.Prelude.{map}
use Rattle.bind_hierarchy.proofs.kinds.index_modules.Given as goal

abbrev pub invariant-loop-place : goal.invariant-loop-place
invariant-loop-place l = (name : List ℕ) → IsFirstPlace (take l.place (module_names (map view_module l.source.modules))) name (place_of l.names name)
