-- What is known of the paths to gates and outputs, without any rule of timing: there are some, where they come from, and that their steps are one number.
use Rattle.std.specs.Prelude.{◌≡◌, ◌⊎◌, ℕ, ◌<◌, ◌≤◌, true, ℤ, List, length, slice_get, Some}
use Rattle.std.specs.List.{Contains}
use Rattle.rsfq_ids.specs.declared.id.CellId.{CellId}
use Rattle.rsfq_ids.specs.declared.id.PinId.{PinId}
use Rattle.rsfq_ids.specs.declared.table.CellRow.{CellRow}
use Rattle.rsfq_ids.specs.declared.circuit.Pin.{Pin}
use Rattle.rsfq_ids.specs.declared.circuit.Reader.{Reader}
use Rattle.rsfq_ids.specs.declared.circuit.Reader.TheVariants as reader
use Rattle.rsfq_ids.specs.declared.offence.PathArc.{PathArc}
use Rattle.rsfq_ids.specs.declared.offence.PathArc.TheVariants as arc
use Rattle.rsfq_ids.specs.Design.{Design}
use Rattle.rsfq_ids.specs.Circuit.{IsOf, is_gate}
use Rattle.rsfq_ids.specs.Path.{IsPathTo, IsFromData, HasSteps, EndsAt}
use Rattle.rsfq_ids.specs.Ready.{IsReady}
use Rattle.rsfq_ids.specs.Numbering.{IsRanked}
use Rattle.rsfq_ids.specs.Order.{IsOrder}
use Rattle.rsfq_ids.specs.WellFormed.{IsFlat}

-- a path leads to each pin
abbrev pub PathsExist : Type 0
PathsExist = (design : Design) (rank : CellId → ℕ) (pin : PinId) (end : Pin) → IsReady design rank → slice_get design.flat.pins pin ≡ Some end → (arcs : List PathArc) × IsPathTo design arcs pin

-- The path passes a gate, which comes before the gate at which the path ends, if it ends at one.
pub record PassesGate (design : Design) (rank : CellId → ℕ) (arcs : List PathArc) (to : Reader) : Type 0 where
  pub gate : CellId
  pub pin : ℕ
  pub out : ℕ
  pub row : CellRow
  pub of : IsOf design gate row
  pub is : is_gate row.kind ≡ true
  pub within : Contains arcs (arc.Through gate pin out)
  pub earlier : (cell : CellId) (at : ℕ) → to ≡ reader.Pin cell at → rank gate < rank cell

-- A path to a data pin of a gate or to an output begins at a data input or passes a gate: none comes from the clock port alone.
abbrev pub PathsHaveOrigins : Type 0
PathsHaveOrigins =
    (design : Design) (rank : CellId → ℕ) (pin : PinId) (to : Reader) (arcs : List PathArc) → IsReady design rank → EndsAt design pin to → IsPathTo design arcs pin →
    IsFromData design.bench arcs ⊎ PassesGate design rank arcs to

-- the steps of a path are one number
abbrev pub StepsAreOne : Type 0
StepsAreOne = (design : Design) (rank : CellId → ℕ) (pin : PinId) (arcs : List PathArc) (one other : ℤ) → IsReady design rank → IsPathTo design arcs pin → HasSteps design arcs pin one → HasSteps design arcs pin other → one ≡ other

-- An order of the cells gives a rank that tells places: each cell of the circuit stands in the order at its rank, and at no earlier place.
abbrev pub OrdersPlace : Type 0
OrdersPlace =
    (design : Design) (order : List CellId) → IsFlat design.table design.flat → IsOrder design.flat order →
    (rank : CellId → ℕ) × IsRanked design.flat rank × ((cell : CellId) → cell < length design.flat.cells → slice_get order (rank cell) ≡ Some cell) × ((place : ℕ) (cell : CellId) → slice_get order place ≡ Some cell → rank cell ≤ place)
