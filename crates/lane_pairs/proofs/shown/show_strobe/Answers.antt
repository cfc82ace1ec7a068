use Rattle.rsfq_ids.specs.Design.{design_of}
use Rattle.std.proofs.Common.{◌≡◌, ℤ, ◌-ℤ◌, ◌*ℤ◌, sym, subst, ap, refl, w64, to_z, of_z, ◌∙◌, arith}
use Rattle.std.proofs.lemmas.Int.{ints, to_z-of_z}
use Rattle.lane_pairs.specs.Pulses.{HaveStrobeDelays, IsChosenOn}
use Rattle.lane_pairs.proofs.Shows.{have_strobe, strobe_shown}
use Rattle.lane_pairs.proofs.shown.show_strobe.Goals as goal

pub strobe_delays-requires-clause-delays : goal.strobe_delays-requires-clause-delays
strobe_delays-requires-clause-delays c =
    let a = c.requires.few.from in
    let b = c.requires.few.to in
    let d = c.requires.turned.from in
    let e = c.requires.turned.to in
    let f = c.requires.difference.from in
    let g = c.requires.difference.to in
    let apart = to_z-of_z w64 c.args.meeting.apart (omega (arith, ints)) in
    let difference = to_z-of_z w64 c.args.meeting.difference (omega (arith, ints)) in
    let value = c.own_difference-difference.ensures ∙ ap (λ (z : ℤ). z -ℤ (to_z w64 (of_z w64 c.args.meeting.apart) *ℤ c.args.bench.now.period)) difference ∙ ap (λ (z : ℤ). c.args.meeting.difference -ℤ (z *ℤ c.args.bench.now.period)) apart in
    let own : to_z w64 (of_z w64 c.own_difference-difference.result) ≡ c.own_difference-difference.result = omega (arith, ints) in
    let (pulse, number, pair) = c.requires.pair in
    subst (λ (z : ℤ). HaveStrobeDelays (design_of c.args.table.now c.args.flat.now c.args.bench.now) c.args.x.now c.args.strobe z) (sym (own ∙ value)) (have_strobe (design_of c.args.table.now c.args.flat.now c.args.bench.now) c.args.x.now c.args.strobe c.args.at c.args.meeting.apart c.args.meeting.difference pulse number pair)

pub returns : goal.returns
returns c =
    let a = c.requires.few.from in
    let b = c.requires.few.to in
    let d = c.requires.turned.from in
    let e = c.requires.turned.to in
    let f = c.requires.difference.from in
    let g = c.requires.difference.to in
    let apart = to_z-of_z w64 c.args.meeting.apart (omega (arith, ints)) in
    let difference = to_z-of_z w64 c.args.meeting.difference (omega (arith, ints)) in
    let value = c.own_difference-difference.ensures ∙ ap (λ (z : ℤ). z -ℤ (to_z w64 (of_z w64 c.args.meeting.apart) *ℤ c.args.bench.now.period)) difference ∙ ap (λ (z : ℤ). c.args.meeting.difference -ℤ (z *ℤ c.args.bench.now.period)) apart in
    let own : to_z w64 (of_z w64 c.own_difference-difference.result) ≡ c.own_difference-difference.result = omega (arith, ints) in
    let (pulse, number, pair) = c.requires.pair in
    strobe_shown (design_of c.args.table.now c.args.flat.now c.args.bench.now) c.args.x.now c.args.strobe c.args.at c.args.meeting.apart c.args.meeting.difference pulse _ number _ pair
    (subst (λ (z : ℤ). IsChosenOn (design_of c.args.table.now c.args.flat.now c.args.bench.now) c.args.x.now c.args.strobe z c.in_ok-delays.delays) (own ∙ value) c.in_ok-delays.ensures) c.in_ok-copy_arcs.ensures refl c.print_numbers-number.ensures.zero (c.print_numbers-number.ensures.far ∙ apart)
