use Rattle.std.proofs.Common.{pos, ◌≡◌, ◌∙◌, sym, refl, arith, w64, to_z, of_z}
use Rattle.std.proofs.lemmas.Int.{to_z-of_z}
use Rattle.pulse_laws.proofs.Apart.{apart_from_rows}
use Rattle.pulse_laws.proofs.plain.is_apart.Goals as goal

pub returns-then-not-is_far_from_earlier : goal.returns-then-not-is_far_from_earlier
returns-then-not-is_far_from_earlier c =
    let same : to_z w64 (of_z w64 c.args.dead) ≡ c.args.dead = to_z-of_z w64 c.args.dead c.ranges.dead in
    (λ t. cc, λ apart. sym c.if-not-is_far_from_earlier.true ∙ c.is_far_from_earlier.ensures.1 (λ k h near. apart k c.loop-i.i (pos 0) h c.loop-i-test.true (rw same at near)))

pub returns : goal.returns
returns c =
    let same : to_z w64 (of_z w64 c.args.dead) ≡ c.args.dead = to_z-of_z w64 c.args.dead c.ranges.dead in
    (λ t. apart_from_rows c.args.dead c.args.times.now (λ j l k h near. c.loop-i.invariant j (omega arith) k h (rw same near)), λ apart. refl)
