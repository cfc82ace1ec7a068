use Rattle.std.proofs.Common.{◌≡◌, ◌*◌, map, take}
use Rattle.miter_cnf.proofs.making.add_some.Given as goal

abbrev pub invariant-loop-variable : goal.invariant-loop-variable
invariant-loop-variable l = l.literals.items ≡ map (λ variable. 2 * variable) (take l.variable-index l.variables)
