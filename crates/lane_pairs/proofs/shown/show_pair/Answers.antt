use Rattle.std.proofs.Common.{◌≡◌, ℤ, ◌-ℤ◌, ◌*ℤ◌, sym, subst, ap, refl, w64, to_z, of_z, ◌∙◌, arith}
use Rattle.std.proofs.lemmas.Int.{ints, to_z-of_z}
use Rattle.rsfq_ids.specs.Design.{design_of}
use Rattle.lane_pairs.specs.Arcs.{IsSharedAt}
use Rattle.lane_pairs.specs.Pulses.{HaveDelays, AreChosenOn}
use Rattle.lane_pairs.proofs.Shows.{have_delays, shown}
use Rattle.lane_pairs.proofs.shown.show_pair.Goals as goal

pub delays_of-requires-clause-delays : goal.delays_of-requires-clause-delays
delays_of-requires-clause-delays c =
    let a = c.requires.few.from in
    let b = c.requires.few.to in
    let d = c.requires.turned.from in
    let e = c.requires.turned.to in
    let f = c.requires.difference.from in
    let g = c.requires.difference.to in
    let apart = to_z-of_z w64 c.args.meeting.apart (omega (arith, ints)) in
    let difference = to_z-of_z w64 c.args.meeting.difference (omega (arith, ints)) in
    let value = c.own_difference-difference.ensures ∙ ap (λ (z : ℤ). z -ℤ (to_z w64 (of_z w64 c.args.meeting.apart) *ℤ c.args.bench.now.period)) difference ∙ ap (λ (z : ℤ). c.args.meeting.difference -ℤ (z *ℤ c.args.bench.now.period)) apart in
    let own : to_z w64 (of_z w64 c.own_difference-difference.result) ≡ c.own_difference-difference.result = omega (arith, ints) in
    let common = subst (λ (z : ℤ). IsSharedAt z c.args.x.now c.args.y.now c.count_shared-shared.result) apart c.count_shared-shared.ensures in
    let (first, second, pair) = c.requires.pair in
    subst (λ (z : ℤ). HaveDelays (design_of c.args.table.now c.args.flat.now c.args.bench.now) c.count_shared-shared.result c.args.x.now c.args.y.now z) (sym (own ∙ value))
    (have_delays (design_of c.args.table.now c.args.flat.now c.args.bench.now) c.args.x.now c.args.y.now c.args.at c.args.to c.args.meeting.apart c.args.meeting.difference c.count_shared-shared.result first second common pair)

pub returns : goal.returns
returns c =
    let a = c.requires.few.from in
    let b = c.requires.few.to in
    let d = c.requires.turned.from in
    let e = c.requires.turned.to in
    let f = c.requires.difference.from in
    let g = c.requires.difference.to in
    let apart = to_z-of_z w64 c.args.meeting.apart (omega (arith, ints)) in
    let difference = to_z-of_z w64 c.args.meeting.difference (omega (arith, ints)) in
    let value = c.own_difference-difference.ensures ∙ ap (λ (z : ℤ). z -ℤ (to_z w64 (of_z w64 c.args.meeting.apart) *ℤ c.args.bench.now.period)) difference ∙ ap (λ (z : ℤ). c.args.meeting.difference -ℤ (z *ℤ c.args.bench.now.period)) apart in
    let own : to_z w64 (of_z w64 c.own_difference-difference.result) ≡ c.own_difference-difference.result = omega (arith, ints) in
    let common = subst (λ (z : ℤ). IsSharedAt z c.args.x.now c.args.y.now c.count_shared-shared.result) apart c.count_shared-shared.ensures in
    let (first, second, pair) = c.requires.pair in
    shown (design_of c.args.table.now c.args.flat.now c.args.bench.now) c.args.x.now c.args.y.now c.args.at c.args.to c.args.meeting.apart c.args.meeting.difference c.count_shared-shared.result first second _ _ pair common
    (subst (λ (z : ℤ). AreChosenOn (design_of c.args.table.now c.args.flat.now c.args.bench.now) c.count_shared-shared.result c.args.x.now c.args.y.now z c.in_ok-delays.delays c.in_ok-delays.ends) (own ∙ value) c.in_ok-delays.ensures)
    c.in_ok-copy_arcs.ensures c.in_ok-copy_arcs-2.ensures refl refl c.print_numbers-number.ensures.zero (c.print_numbers-number.ensures.far ∙ apart)
