use Rattle.std.proofs.Common.{◌≡◌, ◌+◌, ◌<◌, ℕ, min, List, [], ◌∷◌, take, length, sum_by, get_or, sym, ap, subst, arith, length-append}
use Rattle.flat_names.specs.Found.{size_bits}
use Rattle.flat_names.proofs.Begun.{next_begin, begin_more}
use Rattle.flat_names.proofs.begins.instance_begins.Goals as goal

pub loop-instance-preserved : goal.loop-instance-preserved
loop-instance-preserved c =
    let count = size_bits c.args.sizes.now in
    let instances = c.args.instances.now in
    let i = c.loop-instance.instance-index in
    let before = c.loop-instance.begins.items in
    let so_far = c.loop-instance.invariant in
    let pushed = c.in_ok-push-2.ensures.items in
    let capped : c.min-next.result ≡ min (c.loop-instance.next + count c.instance-item.result) 2000001 = (let bits = c.kind_bits.ensures in let sum = c.saturating_add.ensures in let least = c.min-next.ensures in omega (arith, bits, sum, least)) in
    let next = next_begin count instances i c.instance-item.result c.loop-instance.next c.min-next.result c.loop-instance-test.true c.instance-item.is so_far.next capped in
    let longer = length-append before (c.min-next.result ∷ []) in
    let same = ap length pushed in
    let counted = so_far.counted in
    record {
      next = next;
      counted = omega (arith, longer, same, counted);
      each = subst (λ (begins : List ℕ). (k : ℕ) → k < length begins → get_or begins k 0 ≡ min (sum_by count (take k instances)) 2000001) (sym pushed) (begin_more count instances before i c.min-next.result counted next so_far.each);
    }
