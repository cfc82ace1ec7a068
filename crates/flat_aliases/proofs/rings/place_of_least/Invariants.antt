use Rattle.std.proofs.Common.{ℕ, ◌<◌, ◌≤◌, length, get_or}
use Rattle.flat_aliases.proofs.rings.place_of_least.Given as goal

abbrev pub invariant-loop-at : goal.invariant-loop-at
invariant-loop-at l = record {
  inside : l.least < length l.ring;
  least : (k : ℕ) → k < l.at → get_or l.ring l.least 0 ≤ get_or l.ring k 0;
}
