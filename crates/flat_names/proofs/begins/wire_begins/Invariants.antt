use Rattle.std.proofs.Common.{◌≡◌, ◌+◌, ◌<◌, ℕ, min, take, length, sum_by, get_or}
use Rattle.bind_forms.specs.declared.bound.BoundWire.{BoundWire}
use Rattle.bind_forms.specs.Bits.{width_of}
use Rattle.flat_names.proofs.begins.wire_begins.Given as goal

abbrev pub invariant-loop-wire : goal.invariant-loop-wire
invariant-loop-wire l = record {
  next : l.next ≡ min (sum_by (λ (wire : BoundWire). width_of wire.range) (take l.wire-index l.wires)) 2000001;
  counted : length l.begins.items ≡ l.wire-index + 1;
  each : (k : ℕ) → k < length l.begins.items → get_or l.begins.items k 0 ≡ min (sum_by (λ (wire : BoundWire). width_of wire.range) (take k l.wires)) 2000001;
}
