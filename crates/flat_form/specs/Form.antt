-- The form of circuits that are JTL wires. Every cell of the circuits spoken of is a JTL.
use Rattle.std.specs.Prelude.{◌≡◌, ℕ, false, List, slice_get, Some, codes}
use Rattle.rsfq_ids.specs.declared.id.NetId.{NetId}
use Rattle.rsfq_ids.specs.declared.id.CellId.{CellId}
use Rattle.rsfq_ids.specs.declared.id.PinId.{PinId}
use Rattle.rsfq_ids.specs.declared.id.PortId.{PortId}
use Rattle.rsfq_ids.specs.declared.circuit.Flat.{Flat}
use Rattle.rsfq_ids.specs.declared.circuit.PortBit.{PortBit}
use Rattle.rsfq_ids.specs.declared.circuit.Driver.TheVariants as driver
use Rattle.rsfq_ids.specs.declared.circuit.Reader.{Reader}
use Rattle.rsfq_ids.specs.Circuit.{IsDrivenBy, IsPin, Reads}
use Rattle.rsfq_ids.specs.Offence.{IsLoop}
use Rattle.rsfq_ids.specs.Order.{IsOrder}
use Rattle.flat_form.specs.declared.wires.Wires.{Wires}

-- the name of the clock
abbrev pub clock_name : List ℕ
clock_name = codes "clk"

-- The port bit is an input that is named clk.
pub record IsClockPort (flat : Flat) (port : PortId) : Type 0 where
  pub bit : PortBit
  pub at : slice_get flat.ports port ≡ Some bit
  pub input : bit.output ≡ false
  pub named : bit.name ≡ clock_name

-- Something reads a net that the input bit drives.
abbrev pub IsRead : Flat → PortId → Type 0
IsRead flat port = (net : NetId) × (by : Reader) × IsDrivenBy flat net (driver.Port port) × Reads flat by net

-- No net has two readers: pins that read one net are one.
abbrev pub HasOneReaderEach : Flat → Type 0
HasOneReaderEach flat = (net : NetId) (first second : PinId) (one two : Reader) → IsPin flat first one net → IsPin flat second two net → first ≡ second

-- No cells form a ring.
abbrev pub HasNoRing : Flat → Type 0
HasNoRing flat = (cells : List CellId) → ¬ IsLoop flat cells

-- A circuit of JTLs is of the form: some input bit is named clk and nothing reads it, no net has two readers, and no cells form a ring.
pub record IsOfForm (flat : Flat) : Type 0 where
  pub clock : PortId
  pub clock_is : IsClockPort flat clock
  pub clock_unread : ¬ IsRead flat clock
  pub one_reader : HasOneReaderEach flat
  pub no_ring : HasNoRing flat

-- What is found of a circuit of the form: its clock, and an order of its cells.
pub record AreWires (flat : Flat) (wires : Wires) : Type 0 where
  pub form : IsOfForm flat
  pub clock : IsClockPort flat wires.clock
  pub ordered : IsOrder flat wires.order
