-- Which designs are ready for the laws of pulses: well formed, of good shape, and with an order of the cells.
use Rattle.std.specs.Prelude.{◌≡◌, ℕ, true, ℤ, ◌≤ℤ◌, List}
use Rattle.rsfq_ids.specs.declared.id.NetId.{NetId}
use Rattle.rsfq_ids.specs.declared.id.CellId.{CellId}
use Rattle.rsfq_ids.specs.declared.id.PinId.{PinId}
use Rattle.rsfq_ids.specs.declared.id.PortId.{PortId}
use Rattle.rsfq_ids.specs.declared.table.CellRow.{CellRow}
use Rattle.rsfq_ids.specs.declared.circuit.Strobe.{Strobe}
use Rattle.rsfq_ids.specs.declared.circuit.PortUse.{PortUse}
use Rattle.rsfq_ids.specs.declared.circuit.PortUse.TheVariants as port_use
use Rattle.rsfq_ids.specs.declared.circuit.Driver.{Driver}
use Rattle.rsfq_ids.specs.declared.circuit.Driver.TheVariants as driver
use Rattle.rsfq_ids.specs.declared.circuit.Reader.TheVariants as reader
use Rattle.rsfq_ids.specs.declared.offence.PathArc.{PathArc}
use Rattle.rsfq_ids.specs.declared.offence.Offence.TheVariants as offence
use Rattle.rsfq_ids.specs.Design.{Design}
use Rattle.rsfq_ids.specs.Circuit.{IsDrivenBy, Reads, IsOf, InputNets, is_gate, clock_pin}
use Rattle.rsfq_ids.specs.Bench.{IsUsed}
use Rattle.rsfq_ids.specs.Offence.{OffenceExists}
use Rattle.rsfq_ids.specs.Numbering.{IsNumbered, IsRanked}
use Rattle.rsfq_ids.specs.WellFormed.{IsTable, IsFlat, IsBench, IsRow, IsTime, IsPositiveTime}

-- a well-formed circuit over its table, with its bench
pub record IsSetUp (design : Design) : Type 0 where
  pub table_fits : IsTable design.table
  pub flat_fits : IsFlat design.table design.flat
  pub bench_fits : IsBench design.flat design.bench

-- no net with two readers, no loop, and each clock where a clock belongs
pub record HasGoodShape (design : Design) : Type 0 where
  pub fanout : (net : NetId) (first second : PinId) → ¬ OffenceExists design (offence.Fanout net first second)
  pub loop : (cells : List CellId) → ¬ OffenceExists design (offence.Loop cells)
  pub data_on_clock : (pin : PinId) (path : List PathArc) → ¬ OffenceExists design (offence.DataOnClock pin path)
  pub clock_on_data : (pin : PinId) (path : List PathArc) → ¬ OffenceExists design (offence.ClockOnData pin path)
  pub clock_merged : (pin : PinId) (path : List PathArc) → ¬ OffenceExists design (offence.ClockMerged pin path)
  pub clock_out : (pin : PinId) (path : List PathArc) → ¬ OffenceExists design (offence.ClockOut pin path)

-- What a driver needs is there: the use of its port; or the row of its cell, the nets that its input pins read and, at a gate, the net of its clock pin.
abbrev pub IsComplete : Design → Driver → Type 0
IsComplete design (driver.Port port) = (used : PortUse) × IsUsed design.bench port used
IsComplete design (driver.Out cell out) =
    (row : CellRow) × (nets : List NetId) × IsOf design cell row × InputNets design.flat cell row nets × (is_gate row.kind ≡ true → (clock : NetId) × Reads design.flat (reader.Pin cell (clock_pin row)) clock)

-- A design that is ready for the laws of pulses: numbered, complete, with a rank of its cells that rises along the pulses, with rows, uses and times that fit, and each clock where a clock belongs.
pub record IsReady (design : Design) (rank : CellId → ℕ) : Type 0 where
  pub numbered : IsNumbered design.flat
  pub complete : (net : NetId) (driver : Driver) → IsDrivenBy design.flat net driver → IsComplete design driver
  pub ranked : IsRanked design.flat rank
  pub rows : (cell : CellId) (row : CellRow) → IsOf design cell row → IsRow row
  pub one_clock : (port : PortId) → IsUsed design.bench port port_use.Clock → port ≡ design.bench.clock
  pub clock_used : IsUsed design.bench design.bench.clock port_use.Clock
  pub sources : (net : NetId) (port : PortId) (strobe : Strobe) → IsDrivenBy design.flat net (driver.Port port) → ¬ IsUsed design.bench port (port_use.Strobed strobe)
  pub arrivals : (port : PortId) (low high : ℤ) → IsUsed design.bench port (port_use.Arrival low high) → low ≤ℤ high
  pub strobes : (port : PortId) (strobe : Strobe) → IsUsed design.bench port (port_use.Strobed strobe) → IsPositiveTime strobe.setup × IsPositiveTime strobe.hold
  pub period : IsPositiveTime design.bench.period
  pub jitter : IsTime design.bench.jitter
  pub data_on_clock : (pin : PinId) (path : List PathArc) → ¬ OffenceExists design (offence.DataOnClock pin path)
  pub clock_on_data : (pin : PinId) (path : List PathArc) → ¬ OffenceExists design (offence.ClockOnData pin path)
  pub clock_merged : (pin : PinId) (path : List PathArc) → ¬ OffenceExists design (offence.ClockMerged pin path)
  pub clock_out : (pin : PinId) (path : List PathArc) → ¬ OffenceExists design (offence.ClockOut pin path)
