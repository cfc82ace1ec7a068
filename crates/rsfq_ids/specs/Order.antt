-- Orders of the cells of a circuit along its pulses.
use Rattle.std.specs.Prelude.{◌≡◌, ℕ, ◌<◌, ◌≤◌, List, length, take, slice_get, Some}
use Rattle.std.specs.List.{All, Contains}
use Rattle.rsfq_ids.specs.declared.id.CellId.{CellId}
use Rattle.rsfq_ids.specs.declared.circuit.Flat.{Flat}
use Rattle.rsfq_ids.specs.Offence.{ReadsFrom}

-- An order of the cells: each cell once, and each after the cells that it reads from.
pub record IsOrder (flat : Flat) (order : List CellId) : Type 0 where
  pub cells : All (λ cell. cell < length flat.cells) order
  pub each : (cell : CellId) → cell < length flat.cells → Contains order cell
  pub once : length order ≤ length flat.cells
  pub after : (place : ℕ) (cell before : CellId) → slice_get order place ≡ Some cell → ReadsFrom flat cell before → Contains (take place order) before
