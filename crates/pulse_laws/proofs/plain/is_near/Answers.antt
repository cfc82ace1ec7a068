use Rattle.std.proofs.Common.{arith}
use Rattle.std.proofs.lemmas.Int.{ints}
use Rattle.pulse_laws.proofs.plain.is_near.Goals as goal

pub returns-then-second-first : goal.returns-then-second-first
returns-then-second-first c = (λ t. record { before = grind (arith, ints); after = grind (arith, ints) }, λ near. grind (arith, ints))
