-- The circuit of a bound source over a cell table.
use Rattle.std.specs.Prelude.{◌≡◌, ℕ, List, [], map, slice_get, Some, unwrap_or}
use Rattle.std.specs.Option.{option_map}
use Rattle.std.specs.List.{flat_map}
use Rattle.rsfq_ids.specs.declared.table.CellTable.{CellTable}
use Rattle.rsfq_ids.specs.declared.circuit.Flat.{Flat}
use Rattle.rsfq_ids.specs.declared.circuit.PortBit.{PortBit}
use Rattle.rsfq_ids.specs.declared.circuit.Pin.{Pin}
use Rattle.rsfq_ids.specs.declared.circuit.Driver.{Driver}
use Rattle.rsfq_ids.specs.declared.circuit.Reader.{Reader}
use Rattle.rsfq_ids.specs.WellFormed.{drivers_of, readers_of}
use Rattle.bind_forms.specs.declared.bound.BoundPort.{BoundPort}
use Rattle.bind_forms.specs.declared.bound.Bound.{Bound}
use Rattle.bind_forms.specs.Bits.{bit_names}
use Rattle.flat_places.specs.Places.{Place, cells_of}
use Rattle.flat_places.specs.Drives.{Drives, ReadsAt}
use Rattle.flat_places.specs.Names.{cell_name}

-- the bits of ports in port order, those of one port from the right of its range
abbrev pub port_bits : List BoundPort → List PortBit
port_bits ports = flat_map (λ port. map (λ name. record { name = name; output = port.output }) (bit_names port.name port.range)) ports

-- what a reader reads from: a driver of its place
pub record ReadsFromDriver (table : CellTable) (bound : Bound) (from : Driver) (by : Reader) : Type 0 where
  pub place : Place
  pub reads : ReadsAt bound by place
  pub drives : Drives table bound from place

-- The circuit: the port bits of the top; its cells depth first in text order; its nets and pins numbered by these; and each pin reads the net of what drives its place.
pub record IsCircuitOf (table : CellTable) (bound : Bound) (flat : Flat) : Type 0 where
  pub ports : flat.ports ≡ unwrap_or (option_map (λ top. port_bits top.ports) (slice_get bound.modules bound.top)) []
  pub cells : flat.cells ≡ map (λ cell. record { path = cell_name bound cell; row = cell.row }) (cells_of bound)
  pub nets : flat.nets ≡ drivers_of table flat
  pub pins : map (λ pin. pin.reader) flat.pins ≡ readers_of table flat
  pub read : (at : ℕ) (pin : Pin) → slice_get flat.pins at ≡ Some pin → (from : Driver) × (slice_get flat.nets pin.net ≡ Some from) × ReadsFromDriver table bound from pin.reader
