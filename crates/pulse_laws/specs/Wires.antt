-- Designs of JTL wires alone: what they need to be signed off, and what their outputs then show.
use Rattle.std.specs.Prelude.{◌≡◌, ℕ, ◌<◌, Bool, true, pos, List, length, take, map, slice_get, Some}
use Rattle.std.specs.List.{Contains}
use Rattle.rsfq_ids.specs.declared.id.NetId.{NetId}
use Rattle.rsfq_ids.specs.declared.id.CellId.{CellId}
use Rattle.rsfq_ids.specs.declared.id.PinId.{PinId}
use Rattle.rsfq_ids.specs.declared.id.PortId.{PortId}
use Rattle.rsfq_ids.specs.declared.table.CellRow.{CellRow}
use Rattle.rsfq_ids.specs.declared.table.Kind.TheVariants as kind
use Rattle.rsfq_ids.specs.declared.circuit.Flat.{Flat}
use Rattle.rsfq_ids.specs.declared.circuit.PortUse.{PortUse}
use Rattle.rsfq_ids.specs.declared.circuit.Driver.TheVariants as driver
use Rattle.rsfq_ids.specs.declared.circuit.Reader.{Reader}
use Rattle.rsfq_ids.specs.declared.circuit.Reader.TheVariants as reader
use Rattle.rsfq_ids.specs.declared.offence.PathArc.{PathArc}
use Rattle.rsfq_ids.specs.declared.offence.Offence.TheVariants as offence
use Rattle.rsfq_ids.specs.Design.{Design}
use Rattle.rsfq_ids.specs.Circuit.{IsDrivenBy, Reads, IsOf}
use Rattle.rsfq_ids.specs.Bench.{IsUsed, is_data, bit_of}
use Rattle.rsfq_ids.specs.Path.{IsPath, BeginsAtPort, HasDepth}
use Rattle.rsfq_ids.specs.Offence.{ReadsFrom, OffenceExists, HasNoWindow}
use Rattle.rsfq_ids.specs.Numbering.{IsRanked}
use Rattle.rsfq_ids.specs.WellFormed.{IsFlat}
use Rattle.rsfq_ids.specs.Order.{IsOrder}
use Rattle.rsfq_ids.specs.Ready.{IsSetUp}
use Rattle.rsfq_ids.specs.Signed.{HasAllDepths, IsSigned}

-- A well-formed design of JTLs alone, without dead time, whose clock nothing reads, and no net of which has two readers.
pub record IsWired (design : Design) : Type 0 where
  pub set_up : IsSetUp design
  pub jtls : (cell : CellId) (row : CellRow) → IsOf design cell row → row.kind ≡ kind.Jtl
  pub no_dead_time : (cell : CellId) (row : CellRow) → IsOf design cell row → row.dead ≡ pos 0
  pub clock_unread : (net : NetId) (by : Reader) → IsDrivenBy design.flat net (driver.Port design.bench.clock) → ¬ Reads design.flat by net
  pub fanout : (net : NetId) (first second : PinId) → ¬ OffenceExists design (offence.Fanout net first second)

-- A data input is at the other end of an output's wire: a path from it leads to the net that the output reads.
abbrev pub IsWireFrom : Design → PortId → PortId → Type 0
IsWireFrom design port source =
    (arcs : List PathArc) × (net : NetId) × (used : PortUse) × Reads design.flat (reader.Port port) net × IsPath design arcs net × BeginsAtPort arcs source × IsUsed design.bench source used × (is_data used ≡ true)

-- of each output its depth, from a list that names the data input at the other end too
abbrev pub depths_of : List (PortId × ℕ × PortId) → List (PortId × ℕ)
depths_of ends = map (λ (port, depth, source). (port, depth)) ends

-- Each output has the depth and, at the other end of its wire, the data input that the list names.
abbrev pub AreEnds : Design → List (PortId × ℕ × PortId) → Type 0
AreEnds design ends = (port : PortId) (depth : ℕ) (source : PortId) → Contains ends (port, depth, source) → HasDepth design (reader.Port port) (pos depth) × IsWireFrom design port source

-- a bit at an output is that of the word at the data input that the list names
abbrev pub IsSourceBit : Design → List (PortId × ℕ × PortId) → List Bool → PortId → Bool → Type 0
IsSourceBit design ends word port bit = (depth : ℕ) (source : PortId) → Contains ends (port, depth, source) → bit ≡ bit_of design.bench source word

-- An order of the cells of a well-formed circuit gives a rank of them: the place of each.
abbrev pub OrdersRank : Type 0
OrdersRank = (design : Design) (order : List CellId) → IsFlat design.table design.flat → IsOrder design.flat order → (rank : CellId → ℕ) × IsRanked design.flat rank

-- JTL wires with an order of their cells, in which no window is broken, are signed off with their depths: every run is clean, and from its depth on each output shows the bits of the data input that the list names at the other end of its wire.
abbrev pub WiresAreSigned : Type 0
WiresAreSigned =
    (design : Design) (order : List CellId) (ends : List (PortId × ℕ × PortId)) → IsWired design → IsOrder design.flat order → HasNoWindow design → HasAllDepths design.bench (depths_of ends) → AreEnds design ends →
    IsSigned design (IsSourceBit design ends) (depths_of ends)
