use Rattle.std.proofs.Common.{arith, inl, inr, refl}
use Rattle.std.proofs.lemmas.Int.{ints}
use Rattle.wire_timing.proofs.window.count_spare.Goals as goal

pub returns-then-begins-low : goal.returns-then-begins-low
returns-then-begins-low c = let below = c.if-begins-low.true in record { natural = omega (arith, ints); enough = omega (arith, ints); least = inl refl }

pub returns-else-begins-low : goal.returns-else-begins-low
returns-else-begins-low c = let above = c.if-begins-low.false in record { natural = omega (arith, ints); enough = omega (arith, ints); least = inr (omega (arith, ints)) }
