use Rattle.std.proofs.Common.{◌≡◌, ◌<◌, ◌+◌, ℕ, List, drop, drop-cons, add-one, length, get_or, arith, refl}
use Rattle.std.specs.Prelude.{ℤ, pos, ◌+ℤ◌}
use Rattle.std.proofs.lemmas.Int.{ints}
use Rattle.rsfq_ids.specs.Time.{total}
use Rattle.signoff.proofs.text.total_delay.Goals as goal

-- the sum from a delay on
total_from : (delays : List ℤ) (i : ℕ) → i < length delays → total (drop i delays) ≡ (get_or delays i (pos 0) +ℤ total (drop (i + 1) delays))
total_from delays i below = rw (add-one, drop-cons delays i (pos 0)) refl

pub loop-delay-preserved : goal.loop-delay-preserved
loop-delay-preserved c =
    let next = total_from c.args.delays.now c.loop-delay.delay-index c.loop-delay-test.true in
    record { sum = omega (arith, ints, next); from = omega (arith, ints); to = omega (arith, ints) }
