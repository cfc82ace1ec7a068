-- What gates find at their data pins and outputs show in a run: the values of the words and, before these come, the filling.
use Rattle.std.specs.Prelude.{◌≡◌, ℕ, ◌+◌, ◌<◌, Bool, true, pos, List, [], length, slice_index_or}
use Rattle.rsfq_ids.specs.declared.id.NetId.{NetId}
use Rattle.rsfq_ids.specs.declared.id.CellId.{CellId}
use Rattle.rsfq_ids.specs.declared.id.PortId.{PortId}
use Rattle.rsfq_ids.specs.declared.table.CellRow.{CellRow}
use Rattle.rsfq_ids.specs.declared.circuit.Strobe.{Strobe}
use Rattle.rsfq_ids.specs.declared.circuit.PortUse.TheVariants as port_use
use Rattle.std.specs.List.{AllZip}
use Rattle.rsfq_ids.specs.declared.circuit.Driver.TheVariants as driver
use Rattle.rsfq_ids.specs.declared.circuit.Reader.TheVariants as reader
use Rattle.rsfq_ids.specs.Design.{Design}
use Rattle.rsfq_ids.specs.Circuit.{IsDrivenBy, Reads, IsOf, InputNets, is_gate, clock_pin}
use Rattle.rsfq_ids.specs.Bench.{IsUsed}
use Rattle.rsfq_ids.specs.Run.{Run, times_of, truth_at, is_present, stream_bit}
use Rattle.rsfq_ids.specs.Path.{HasDepth}
use Rattle.rsfq_ids.specs.Value.{AreValues, value_of}
use Rattle.rsfq_ids.specs.Filling.{AreFilling, IsFillBit}

-- A data pin of a gate, with the nets that this pin and the gate's clock pin read, and the depth of the gate.
pub record IsGateInput (design : Design) (cell : CellId) (net clock : NetId) (depth : ℕ) : Type 0 where
  pub row : CellRow
  pub pin : ℕ
  pub of : IsOf design cell row
  pub gate : is_gate row.kind ≡ true
  pub input : pin < length row.inputs
  pub reads : Reads design.flat (reader.Pin cell pin) net
  pub clock_reads : Reads design.flat (reader.Pin cell (clock_pin row)) clock
  pub has : HasDepth design (reader.Pin cell 0) (pos depth)

-- what a gate's clock entry k finds at a data pin: whether a pulse is present
abbrev pub bit_found : Run → NetId → NetId → ℕ → Bool
bit_found run net clock k = is_present (times_of run.pulses net) (times_of run.pulses clock) (slice_index_or (times_of run.pulses clock) k (pos 0))

-- A gate's clock entry j + depth is there, and finds at each data pin the value under word j.
-- Behind the last word it finds the values under zeros: `slice_index_or run.words j []` is then the empty word, whose bits are all 0.
abbrev pub GateFindsValues : Design → Run → CellId → Type 0
GateFindsValues design run cell =
    (net clock : NetId) (depth j : ℕ) (values : List Bool) → IsGateInput design cell net clock depth → j + depth < run.clocks → AreValues design (slice_index_or run.words j []) values →
    (j + depth < length (times_of run.pulses clock)) × (bit_found run net clock (j + depth) ≡ value_of values net)

-- An output, with the net that it reads, its strobe and its depth.
pub record IsStrobedOutput (design : Design) (port : PortId) (strobe : Strobe) (net : NetId) (depth : ℕ) : Type 0 where
  pub used : IsUsed design.bench port (port_use.Strobed strobe)
  pub reads : Reads design.flat (reader.Port port) net
  pub has : HasDepth design (reader.Port port) (pos depth)

-- Bit j + depth of an output's stream is its value under word j, and behind the last word under zeros.
abbrev pub OutputShowsValues : Design → Run → PortId → Type 0
OutputShowsValues design run port =
    (strobe : Strobe) (net : NetId) (depth j : ℕ) (values : List Bool) → IsStrobedOutput design port strobe net depth → j + depth < run.clocks → AreValues design (slice_index_or run.words j []) values →
    stream_bit strobe run.tick (j + depth) (times_of run.pulses net) ≡ value_of values net

-- Before the pulses of word 0 have come to a gate, at entries k below its depth, it finds the filling values.
abbrev pub GateFindsFilling : Design → Run → (CellId → Bool) → CellId → Type 0
GateFindsFilling design run covered cell =
    (net clock : NetId) (depth early k : ℕ) (values : List Bool) → IsGateInput design cell net clock depth → k < depth → k < run.clocks → k + early ≡ depth → AreFilling design covered early values →
    (k < length (times_of run.pulses clock)) × (bit_found run net clock k ≡ value_of values net)

-- and the first bits of an output's stream are its filling values
abbrev pub OutputShowsFilling : Design → Run → (CellId → Bool) → PortId → Type 0
OutputShowsFilling design run covered port =
    (strobe : Strobe) (net : NetId) (depth early k : ℕ) (values : List Bool) → IsStrobedOutput design port strobe net depth → k < depth → k < run.clocks → k + early ≡ depth → AreFilling design covered early values →
    stream_bit strobe run.tick k (times_of run.pulses net) ≡ value_of values net

-- What the outputs of the gates before a place in the order give at the entries before their depths: the truth at the bits that the paths from gates tell.
abbrev pub IsFillBelow : Design → (CellId → ℕ) → ℕ → (CellId → ℕ → ℕ → Bool) → Type 0
IsFillBelow design rank top fill =
    (cell : CellId) (out : ℕ) (net : NetId) (row : CellRow) (nets : List NetId) (depth k : ℕ) → rank cell < top → IsOf design cell row → is_gate row.kind ≡ true → IsDrivenBy design.flat net (driver.Out cell out) → InputNets design.flat cell row nets →
    HasDepth design (reader.Pin cell 0) (pos depth) → k < depth → (bits : List Bool) × AllZip (λ m bit. IsFillBit design fill m depth k bit) nets bits × (fill cell out k ≡ truth_at row out bits)

-- The same for a filling that is given by the paths from gates: the gate finds its bits.
abbrev pub GateFindsFillBits : Design → Run → (CellId → ℕ → ℕ → Bool) → CellId → Type 0
GateFindsFillBits design run fill cell =
    (net clock : NetId) (depth k : ℕ) → IsGateInput design cell net clock depth → k < depth → k < run.clocks → IsFillBit design fill net depth k (bit_found run net clock k)
