use Rattle.std.proofs.Common.{◌≡◌, length, drop}
use Rattle.proof_arena.specs.Step.{ends_in_conflict}
use Rattle.proof_arena.specs.Log.{clauses_of}
use Rattle.proof_arena.specs.Table.{falses_of}
use Rattle.proof_arena.proofs.step.find_conflict.Given as goal

abbrev pub invariant-loop-hint : goal.invariant-loop-hint
invariant-loop-hint l = record {
  rest : ends_in_conflict (clauses_of l.log) (falses_of l.fn.marks) l.hints ≡ ends_in_conflict (clauses_of l.log) (falses_of l.marks) (drop l.hint-index l.hints);
  size : length l.marks.table ≡ length l.fn.marks.table;
}
