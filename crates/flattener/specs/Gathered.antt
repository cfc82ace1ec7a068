-- Both ends of the nets of a source that is written out.
use Rattle.std.specs.Prelude.{◌≡◌, ◌≤◌, List, ◌++◌, map, length}
use Rattle.std.specs.List.{All}
use Rattle.rsfq_ids.specs.declared.table.CellTable.{CellTable}
use Rattle.rsfq_ids.specs.declared.circuit.Pin.{Pin}
use Rattle.rsfq_ids.specs.WellFormed.{drivers_of, readers_of}
use Rattle.bind_forms.specs.declared.bound.Bound.{Bound}
use Rattle.flat_places.specs.Whole.{IsShapeOf, ReadsNet}
use Rattle.flattener.specs.declared.flattening.Ends.{Ends}
use Rattle.flattener.specs.declared.wiring.Wiring.{Wiring}
use Rattle.flattener.specs.Ends.{bare, input_places, output_places}

-- all drivers and readers in their orders, with the numbers of their places
pub record AreEnds (table : CellTable) (bound : Bound) (wiring : Wiring) (ends : Ends) : Type 0 where
  pub has_shape : IsShapeOf bound (bare ends.ports wiring.cells)
  pub few_cells : length wiring.cells ≤ 100000
  pub few_ports : length ends.ports ≤ 2000000
  pub nets : ends.nets ≡ drivers_of table (bare ends.ports wiring.cells)
  pub readers : ends.readers.items ≡ readers_of table (bare ends.ports wiring.cells)
  pub starts : ends.starts.items ≡ input_places ends.ports ++ wiring.outputs.items
  pub reads : ends.reads.items ≡ wiring.reads.items ++ output_places ends.ports

-- all readers in the order of pins, each with the net of a driver of what it reads
pub record ArePins (table : CellTable) (bound : Bound) (ends : Ends) (pins : List Pin) : Type 0 where
  pub listed : map (λ pin. pin.reader) pins ≡ ends.readers.items
  pub read : All (λ pin. ReadsNet table bound ends.nets pin.reader pin.net) pins
