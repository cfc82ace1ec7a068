use Rattle.std.proofs.Common.{◌<◌, ◌≤◌, ℕ, length}
use Rattle.std.specs.Prelude.{slice_index}
use Rattle.aiger_order.proofs.ring.find_least.Given as goal

abbrev pub invariant-loop-place : goal.invariant-loop-place
invariant-loop-place l = record {
  inside : l.best < length l.items;
  least : (at : ℕ) → at < l.place → slice_index l.items l.best ≤ slice_index l.items at;
}
