use Rattle.std.proofs.Common.{◌≡◌, ◌<◌, ℕ, true, false, length, take}
use Rattle.std.specs.List.{Contains}
use Rattle.rsfq_ids.specs.Formula.{opposite}
use Rattle.proof_arena.specs.Step.{is_among}
use Rattle.proof_arena.specs.Table.{falses_of}
use Rattle.cdcl_core.specs.Oldest.{IsAt}
use Rattle.cdcl_core.proofs.queue.Queue.add.Given as goal

abbrev pub invariant-loop-lit : goal.invariant-loop-lit
invariant-loop-lit l = record {
  kept : (n : ℕ) → Contains l.fn.self n → Contains l.self n;
  added : (lit : ℕ) → is_among (take l.lit-index l.clause) lit ≡ true → falses_of l.marks lit ≡ false → (n : ℕ) → n < length l.trail.trail → IsAt l.trail.trail n (opposite lit) → Contains l.self n;
}
