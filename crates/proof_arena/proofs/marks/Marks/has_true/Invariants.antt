use Rattle.std.proofs.Common.{◌≡◌, false, take}
use Rattle.std.specs.List.{list_any}
use Rattle.rsfq_ids.specs.Formula.{opposite}
use Rattle.proof_arena.specs.Table.{falses_of}
use Rattle.proof_arena.proofs.marks.Marks.has_true.Given as goal

abbrev pub invariant-loop-lit : goal.invariant-loop-lit
invariant-loop-lit l = list_any (λ lit. falses_of l.self (opposite lit)) (take l.lit-index l.clause) ≡ false
