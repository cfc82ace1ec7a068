-- The Boolean values of the nets of a circuit without loops.
use Rattle.std.specs.Prelude.{◌≡◌, ℕ, Bool, false, List, map, length, slice_index_or}
use Rattle.std.specs.List.{list_any}
use Rattle.rsfq_ids.specs.declared.id.NetId.{NetId}
use Rattle.rsfq_ids.specs.declared.id.PortId.{PortId}
use Rattle.rsfq_ids.specs.declared.table.CellRow.{CellRow}
use Rattle.rsfq_ids.specs.declared.table.Kind.{Kind}
use Rattle.rsfq_ids.specs.declared.table.Kind.TheVariants as kind
use Rattle.rsfq_ids.specs.declared.circuit.Bench.{Bench}
use Rattle.rsfq_ids.specs.declared.circuit.PortUse.{PortUse}
use Rattle.rsfq_ids.specs.declared.circuit.PortUse.TheVariants as port_use
use Rattle.rsfq_ids.specs.declared.circuit.Driver.{Driver}
use Rattle.rsfq_ids.specs.declared.circuit.Driver.TheVariants as driver
use Rattle.rsfq_ids.specs.Circuit.{IsDrivenBy, IsOf, InputNets}
use Rattle.rsfq_ids.specs.Bench.{IsUsed, bit_of}
use Rattle.rsfq_ids.specs.Run.{truth_at}
use Rattle.rsfq_ids.specs.Design.{Design}

-- the value of a net in a list of values
abbrev pub value_of : List Bool → NetId → Bool
value_of values net = slice_index_or values net false

-- What a cell makes of the values of its inputs: a gate its truth, any other cell the or of them, which is a copy where there is one.
abbrev pub value_made : Kind → CellRow → ℕ → List Bool → Bool
value_made kind.Gate row out bits = truth_at row out bits
value_made kind.Jtl row out bits = list_any (λ bit. bit) bits
value_made kind.Split row out bits = list_any (λ bit. bit) bits
value_made kind.Merge row out bits = list_any (λ bit. bit) bits

-- The value at a port bit under a word. Clock nets have no value; they stand as false.
abbrev pub port_value : PortUse → Bench → PortId → List Bool → Bool
port_value (port_use.Arrival low high) bench port word = bit_of bench port word
port_value port_use.Clock bench port word = false
port_value (port_use.Strobed strobe) bench port word = false

-- the value that a driver gives its net, where the nets have these values
abbrev pub Gives : Design → List Bool → List Bool → Driver → Bool → Type 0
Gives design word values (driver.Port port) value = (used : PortUse) × IsUsed design.bench port used × (value ≡ port_value used design.bench port word)
Gives design word values (driver.Out cell out) value =
    (row : CellRow) × (nets : List NetId) × IsOf design cell row × InputNets design.flat cell row nets × (value ≡ value_made row.kind row out (map (value_of values) nets))

-- Values of all nets under a word, each the one that its driver gives.
pub record AreValues (design : Design) (word values : List Bool) : Type 0 where
  pub nets : length values ≡ length design.flat.nets
  pub given : (net : NetId) (driver : Driver) → IsDrivenBy design.flat net driver → Gives design word values driver (value_of values net)

-- The value of a net under a word. A circuit without loops has one list of values, so this is one bit.
abbrev pub HasValue : Design → List Bool → NetId → Bool → Type 0
HasValue design word net value = (values : List Bool) × AreValues design word values × (value_of values net ≡ value)
