use Rattle.std.proofs.Common.{◌≡◌, ◌+◌, length}
use Rattle.cdcl_core.proofs.Queueing.{KeptBelow}
use Rattle.cdcl_core.proofs.queue.Queue.below.Given as goal

abbrev pub invariant-loop-turn : goal.invariant-loop-turn
invariant-loop-turn l = record {
  kept : KeptBelow l.fn.self l.self l.place;
  size : length l.self + l._turn ≡ length l.fn.self;
}
