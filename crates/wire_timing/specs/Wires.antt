-- Circuits of JTL wires, and what is said of the depth of an output.
use Rattle.std.specs.Prelude.{◌≡◌, ℕ, ◌<◌, ◌≤◌, true, cond, pos, List, [], ◌∷◌, length, take, slice_get, Some}
use Rattle.std.specs.List.{All, Contains, flat_map, enumerate_from}
use Rattle.rsfq_ids.specs.declared.id.NetId.{NetId}
use Rattle.rsfq_ids.specs.declared.id.CellId.{CellId}
use Rattle.rsfq_ids.specs.declared.id.PinId.{PinId}
use Rattle.rsfq_ids.specs.declared.id.PortId.{PortId}
use Rattle.rsfq_ids.specs.declared.table.CellTable.{CellTable}
use Rattle.rsfq_ids.specs.declared.table.CellRow.{CellRow}
use Rattle.rsfq_ids.specs.declared.table.Kind.TheVariants as kind
use Rattle.rsfq_ids.specs.declared.circuit.Flat.{Flat}
use Rattle.rsfq_ids.specs.declared.circuit.Bench.{Bench}
use Rattle.rsfq_ids.specs.declared.circuit.PortUse.{PortUse}
use Rattle.rsfq_ids.specs.declared.circuit.Driver.TheVariants as driver
use Rattle.rsfq_ids.specs.declared.circuit.Reader.{Reader}
use Rattle.rsfq_ids.specs.declared.circuit.Reader.TheVariants as reader
use Rattle.rsfq_ids.specs.declared.offence.PathArc.{PathArc}
use Rattle.rsfq_ids.specs.Design.{Design}
use Rattle.rsfq_ids.specs.Circuit.{IsDrivenBy, IsPin, Reads, IsOf}
use Rattle.rsfq_ids.specs.Bench.{IsUsed, is_data}
use Rattle.rsfq_ids.specs.Path.{IsPathTo, BeginsAtPort, HasDepth}
use Rattle.rsfq_ids.specs.Offence.{ReadsFrom}
use Rattle.rsfq_ids.specs.Order.{IsOrder}
use Rattle.rsfq_ids.specs.Ready.{IsSetUp}
use Rattle.wire_timing.specs.declared.WireDepth.{WireDepth}

-- cell table, circuit and bench as one design
abbrev pub design_of : CellTable → Flat → Bench → Design
design_of table flat bench = record { table = table; flat = flat; bench = bench }

-- each cell is a JTL
abbrev pub HasOnlyJtls : Design → Type 0
HasOnlyJtls design = (cell : CellId) (row : CellRow) → IsOf design cell row → row.kind ≡ kind.Jtl

-- nothing reads the clock
abbrev pub LeavesClockUnread : Design → Type 0
LeavesClockUnread design = (net : NetId) (by : Reader) → IsDrivenBy design.flat net (driver.Port design.bench.clock) → ¬ Reads design.flat by net

-- A well-formed design of JTLs with an unread clock, and an order of its cells.
pub record AreWires (design : Design) (order : List CellId) : Type 0 where
  pub set_up : IsSetUp design
  pub jtls : HasOnlyJtls design
  pub clock : LeavesClockUnread design
  pub ordered : IsOrder design.flat order

-- the output bits in port order
abbrev pub outputs_of : Flat → List PortId
outputs_of flat = flat_map (λ (n, port). cond port.output (n ∷ []) []) (enumerate_from 0 flat.ports)

-- The depth of an output bit, and the data input at the other end of its wire.
pub record IsWireDepth (design : Design) (found : WireDepth) : Type 0 where
  pub depth_is : HasDepth design (reader.Port found.output) (pos found.depth)
  pub used : PortUse
  pub source_used : IsUsed design.bench found.source used
  pub source_data : is_data used ≡ true
  pub pin : PinId
  pub net : NetId
  pub arcs : List PathArc
  pub ends : IsPin design.flat pin (reader.Port found.output) net
  pub path : IsPathTo design arcs pin
  pub begins : BeginsAtPort arcs found.source
