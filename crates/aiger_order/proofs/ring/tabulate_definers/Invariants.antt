use Rattle.aiger_order.specs.Ring.{AreDefiners}
use Rattle.aiger_order.proofs.ring.tabulate_definers.Given as goal

abbrev pub invariant-loop-place : goal.invariant-loop-place
invariant-loop-place l = AreDefiners l.top l.place l.lines l.definers.items
