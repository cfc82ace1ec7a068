use Rattle.std.proofs.Common.{◌+◌, ◌-◌, ℕ, length}
use Rattle.aiger_order.specs.Numbers.{Numbers}
use Rattle.aiger_order.specs.Ready.{IsReadyLine, Has, OnlyReady}
use Rattle.aiger_order.specs.Sorted.{IsSorted}
use Rattle.aiger_order.proofs.sorting.sort_lines.Given as goal

abbrev pub invariant-loop-place : goal.invariant-loop-place
invariant-loop-place l = record {
  numbers : Numbers l.top l.sorted.numbering;
  sorted : IsSorted l.inputs l.lines l.sorted.numbering.names.items l.sorted.ands;
  only : OnlyReady l.sorted.numbering.names.items l.lines l.ready;
  all : (line : ℕ) → IsReadyLine l.sorted.numbering.names.items l.lines line → Has l.ready line;
}

abbrev pub decreases-loop-place : goal.decreases-loop-place
decreases-loop-place l = l.top + 1 - length l.sorted.numbering.names.items
