use Rattle.std.proofs.Common.{below_more, rules, get_or, pos, w64}
use Rattle.std.proofs.lemmas.Bool.{both_ways}
use Rattle.std.proofs.lemmas.Int.{to_z-of_z}
use Rattle.std.specs.Prelude.{FitsSigned}
use Rattle.pulse_laws.proofs.plain.is_far_from_earlier.Goals as goal

pub loop-k-preserved : goal.loop-k-preserved
loop-k-preserved c =
    let earlier : FitsSigned w64 (get_or c.args.times.now c.loop-k.k (pos 0)) = search rules in
    let later : FitsSigned w64 (get_or c.args.times.now c.args.i (pos 0)) = search rules in
    below_more _ _ c.loop-k.invariant (λ near. both_ways _ c.if-is_near.false (c.is_near.ensures.1 (rw (to_z-of_z w64 (get_or c.args.times.now c.loop-k.k (pos 0)) earlier, to_z-of_z w64 (get_or c.args.times.now c.args.i (pos 0)) later) near)))
