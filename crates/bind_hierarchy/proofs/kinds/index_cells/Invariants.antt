use Rattle.std.proofs.Common.{ℕ, List, take}
use Rattle.name_table.specs.Places.{place_of}
use Rattle.bind_hierarchy.specs.Names.{IsFirstPlace, cell_names}
use Rattle.bind_hierarchy.proofs.kinds.index_cells.Given as goal

abbrev pub invariant-loop-place : goal.invariant-loop-place
invariant-loop-place l = (name : List ℕ) → IsFirstPlace (take l.place (cell_names l.cells)) name (place_of l.names name)
