use Rattle.std.proofs.Common.{◌≡◌, ◌<◌, ℕ, Some}
use Rattle.std.specs.Prelude.{slice_get}
use Rattle.aiger_order.specs.Ready.{IsReadyLine, Has, OnlyReady}
use Rattle.aiger_order.proofs.ready.wake_all.Given as goal

abbrev pub invariant-loop-place : goal.invariant-loop-place
invariant-loop-place l = record {
  only : OnlyReady l.numbering.names.items l.lines l.ready;
  kept : (line : ℕ) → Has l.fn.ready line → Has l.ready line;
  put : (at place : ℕ) → at < l.place-index → slice_get l.places at ≡ Some place → IsReadyLine l.numbering.names.items l.lines place → Has l.ready place;
}
