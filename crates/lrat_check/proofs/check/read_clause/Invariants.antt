use Rattle.std.proofs.Common.{◌≡◌, drop, take}
use Rattle.lrat_check.specs.Check.{range_fault, clause_of}
use Rattle.lrat_check.proofs.check.read_clause.Given as goal

abbrev pub invariant-loop-lit : goal.invariant-loop-lit
invariant-loop-lit l = record {
  rest : range_fault l.vars l.lits ≡ range_fault l.vars (drop l.lit-index l.lits);
  clause : l.clause.items ≡ clause_of (take l.lit-index l.lits);
}
