use Rattle.std.proofs.Common.{◌≢◌, ℕ, ◌<◌, Some}
use Rattle.std.specs.Prelude.{slice_get}
use Rattle.bind_forms.specs.WellFormed.{cell_ports}
use Rattle.bind_kinds.proofs.pins.cell_place.Given as goal

abbrev pub invariant-loop-place : goal.invariant-loop-place
invariant-loop-place l = (at : ℕ) → at < l.place → slice_get (cell_ports l.row) at ≢ Some l.name
