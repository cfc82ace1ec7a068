use Rattle.std.proofs.Common.{◌≡◌, ◌++◌, ◌+◌, ◌-◌, take}
use Rattle.lrat_check.specs.Written.{step_lines}
use Rattle.lrat_check.proofs.write.append_steps.Given as goal

abbrev pub invariant-loop-place : goal.invariant-loop-place
invariant-loop-place l = l.out.items ≡ l.fn.out.items ++ step_lines (l.given + 1) (take (l.place - l.given) l.log.steps)
