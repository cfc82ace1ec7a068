use Rattle.std.proofs.Common.{◌≡◌, ◌+◌, ◌<◌, ℕ, min, take, length, sum_by, get_or}
use Rattle.flat_names.specs.Found.{size_bits}
use Rattle.flat_names.proofs.begins.instance_begins.Given as goal

abbrev pub invariant-loop-instance : goal.invariant-loop-instance
invariant-loop-instance l = record {
  next : l.next ≡ min (sum_by (size_bits l.sizes) (take l.instance-index l.instances)) 2000001;
  counted : length l.begins.items ≡ l.instance-index + 1;
  each : (k : ℕ) → k < length l.begins.items → get_or l.begins.items k 0 ≡ min (sum_by (size_bits l.sizes) (take k l.instances)) 2000001;
}
