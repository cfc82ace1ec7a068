use Rattle.std.proofs.Common.{◌≡◌, ◌+◌, ◌<◌, ℕ, min, List, [], ◌∷◌, take, length, sum_by, get_or, sym, ap, subst, arith, length-append}
use Rattle.bind_forms.specs.declared.bound.BoundWire.{BoundWire}
use Rattle.bind_forms.specs.Bits.{width_of}
use Rattle.flat_names.proofs.Begun.{next_begin, begin_more}
use Rattle.flat_names.proofs.begins.wire_begins.Goals as goal

pub loop-wire-preserved : goal.loop-wire-preserved
loop-wire-preserved c =
    let count = λ (wire : BoundWire). width_of wire.range in
    let wires = c.args.wires.now in
    let i = c.loop-wire.wire-index in
    let before = c.loop-wire.begins.items in
    let so_far = c.loop-wire.invariant in
    let pushed = c.in_ok-push-2.ensures.items in
    let capped : c.min-next.result ≡ min (c.loop-wire.next + count c.wire-item.result) 2000001 = (let bits = c.width.ensures.value in let sum = c.saturating_add.ensures in let least = c.min-next.ensures in omega (arith, bits, sum, least)) in
    let next = next_begin count wires i c.wire-item.result c.loop-wire.next c.min-next.result c.loop-wire-test.true c.wire-item.is so_far.next capped in
    let longer = length-append before (c.min-next.result ∷ []) in
    let same = ap length pushed in
    let counted = so_far.counted in
    record {
      next = next;
      counted = omega (arith, longer, same, counted);
      each = subst (λ (begins : List ℕ). (k : ℕ) → k < length begins → get_or begins k 0 ≡ min (sum_by count (take k wires)) 2000001) (sym pushed) (begin_more count wires before i c.min-next.result counted next so_far.each);
    }
