use Rattle.std.proofs.Common.{◌<◌, ℕ}
use Rattle.aiger_order.specs.Ready.{IsReadyLine, Has, OnlyReady}
use Rattle.aiger_order.proofs.ready.find_ready.Given as goal

abbrev pub invariant-loop-place : goal.invariant-loop-place
invariant-loop-place l = record {
  only : OnlyReady l.numbering.names.items l.lines l.ready;
  all : (line : ℕ) → line < l.place → IsReadyLine l.numbering.names.items l.lines line → Has l.ready line;
}
