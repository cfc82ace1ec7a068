use Rattle.std.proofs.Common.{◌≤◌, ◌-◌, ◌≡◌, vec_len}
use Rattle.rsfq_outside.proofs.edge.read_at_most.Given as goal

abbrev pub invariant-loop-bytes : goal.invariant-loop-bytes
invariant-loop-bytes g l = (vec_len l.bytes ≤ l.limit) × (vec_len l.buffer ≡ 65536)

abbrev pub decreases-loop-bytes : goal.decreases-loop-bytes
decreases-loop-bytes g l = l.limit - vec_len l.bytes
