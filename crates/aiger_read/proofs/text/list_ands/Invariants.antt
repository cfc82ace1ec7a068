use Rattle.std.proofs.Common.{◌≡◌, take, map}
use Rattle.aiger_read.specs.Text.{and_of}
use Rattle.aiger_read.proofs.text.list_ands.Given as goal

abbrev pub invariant-loop-line : goal.invariant-loop-line
invariant-loop-line l = l.ands ≡ map and_of (take l.line-index l.lines)
