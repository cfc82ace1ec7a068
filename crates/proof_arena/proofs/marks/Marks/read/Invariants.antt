use Rattle.std.proofs.Common.{◌≡◌, take}
use Rattle.proof_arena.specs.Step.{reading}
use Rattle.proof_arena.specs.Table.{falses_of}
use Rattle.proof_arena.proofs.marks.Marks.read.Given as goal

abbrev pub invariant-loop-lit : goal.invariant-loop-lit
invariant-loop-lit l = l.said ≡ reading (falses_of l.self) (take l.lit-index l.clause)
