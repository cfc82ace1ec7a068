use Rattle.env_table.specs.Bound.{AreSound}
use Rattle.env_table.proofs.BindFacts.{IsBoundUpTo}
use Rattle.env_table.proofs.bind.bind_lines.Given as goal

abbrev pub invariant-loop-line : goal.invariant-loop-line
invariant-loop-line l = IsBoundUpTo l.ports l.lines l.line-index l.bound.uses.items l.bound.clocks.items × AreSound l.ports l.bound.uses.items l.bound.clocks.items
