-- The bench of JTL wires, and what they then are for those who time them.
use Rattle.std.specs.Prelude.{◌≡◌, cond, ℤ, pos, List, map}
use Rattle.std.specs.Str.{bytes_eq}
use Rattle.rsfq_ids.specs.declared.id.NetId.{NetId}
use Rattle.rsfq_ids.specs.declared.id.CellId.{CellId}
use Rattle.rsfq_ids.specs.declared.id.PinId.{PinId}
use Rattle.rsfq_ids.specs.declared.id.PortId.{PortId}
use Rattle.rsfq_ids.specs.declared.table.CellRow.{CellRow}
use Rattle.rsfq_ids.specs.declared.table.Kind.TheVariants as kind
use Rattle.rsfq_ids.specs.declared.circuit.Flat.{Flat}
use Rattle.rsfq_ids.specs.declared.circuit.PortBit.{PortBit}
use Rattle.rsfq_ids.specs.declared.circuit.Bench.{Bench}
use Rattle.rsfq_ids.specs.declared.circuit.PortUse.{PortUse}
use Rattle.rsfq_ids.specs.declared.circuit.PortUse.TheVariants as port_use
use Rattle.rsfq_ids.specs.declared.circuit.Driver.TheVariants as driver
use Rattle.rsfq_ids.specs.declared.circuit.Reader.{Reader}
use Rattle.rsfq_ids.specs.declared.offence.Offence.TheVariants as offence
use Rattle.rsfq_ids.specs.Design.{Design}
use Rattle.rsfq_ids.specs.Circuit.{IsDrivenBy, Reads, IsOf}
use Rattle.rsfq_ids.specs.Offence.{OffenceExists}
use Rattle.rsfq_ids.specs.Order.{IsOrder}
use Rattle.rsfq_ids.specs.Ready.{IsSetUp}
use Rattle.flat_form.specs.Table.{jtl_table}
use Rattle.flat_form.specs.Form.{clock_name}

-- Each output is read at a strobe with offset 0, setup 1 and hold 1. The input clk is the clock, and every other input has its pulses low to high after the tick.
abbrev pub use_of : ℤ → ℤ → PortBit → PortUse
use_of low high port =
    cond port.output (port_use.Strobed (record { offset = pos 0; setup = pos 1; hold = pos 1 })) (cond (bytes_eq port.name clock_name) port_use.Clock (port_use.Arrival low high))

-- The clock has no jitter.
abbrev pub wire_bench_of : Flat → PortId → ℤ → ℤ → ℤ → Bench
wire_bench_of flat clock period low high = record { period = period; jitter = pos 0; clock = clock; uses = map (use_of low high) flat.ports }

-- the circuit with the table of its cells and this bench
abbrev pub design_on : Flat → Bench → Design
design_on flat bench = record { table = jtl_table; flat = flat; bench = bench }

-- What the timing of wires rests on: a well-formed design, whose cells are JTLs without dead time, whose clock is read by nothing, of which no net has two readers, and an order of its cells.
pub record IsTimeable (design : Design) (order : List CellId) : Type 0 where
  pub set_up : IsSetUp design
  pub jtls : (cell : CellId) (row : CellRow) → IsOf design cell row → row.kind ≡ kind.Jtl
  pub no_dead_time : (cell : CellId) (row : CellRow) → IsOf design cell row → row.dead ≡ pos 0
  pub clock_unread : (net : NetId) (by : Reader) → IsDrivenBy design.flat net (driver.Port design.bench.clock) → ¬ Reads design.flat by net
  pub fanout : (net : NetId) (first second : PinId) → ¬ OffenceExists design (offence.Fanout net first second)
  pub ordered : IsOrder design.flat order
