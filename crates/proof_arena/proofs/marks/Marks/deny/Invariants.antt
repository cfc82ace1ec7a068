use Rattle.std.proofs.Common.{◌≡◌, length, take}
use Rattle.std.specs.Prelude.{◌||◌}
use Rattle.proof_arena.specs.Step.{is_among}
use Rattle.proof_arena.specs.Table.{falses_of}
use Rattle.proof_arena.proofs.marks.Marks.deny.Given as goal

abbrev pub invariant-loop-lit : goal.invariant-loop-lit
invariant-loop-lit l = record {
  falses : falses_of l.self ≡ (λ lit. is_among (take l.lit-index l.lits) lit || falses_of l.fn.self lit);
  size : length l.self.table ≡ length l.fn.self.table;
}
