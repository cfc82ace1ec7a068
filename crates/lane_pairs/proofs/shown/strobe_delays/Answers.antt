use Rattle.std.proofs.Common.{ℤ, List, [], ◌∷◌, sym, subst, w64, to_z, of_z, arith}
use Rattle.std.proofs.lemmas.Int.{ints, to_z-of_z}
use Rattle.pulse_pairs.specs.declared.meeting.Interval.{Interval}
use Rattle.pulse_pairs.specs.Choice.{AreLaneIntervals, ShareArcs, IsArcSpread, AreChosen}
use Rattle.rsfq_ids.specs.Design.{design_of}
use Rattle.lane_pairs.specs.Arcs.{HaveIntervals}
use Rattle.lane_pairs.proofs.Intervals.{lane_fits}
use Rattle.lane_pairs.proofs.Shows.{strobe_lane, share_none, strobe_spread, strobe_chosen, fixed_is}
use Rattle.lane_pairs.proofs.shown.strobe_delays.Goals as goal

pub choose_delays-requires-clause-first : goal.choose_delays-requires-clause-first
choose_delays-requires-clause-first c =
    subst (λ (is : List Interval). AreLaneIntervals is) (sym c.deref.ensures.value) (lane_fits (design_of c.args.table.now c.args.flat.now c.args.bench.now) c.requires.set_up c.args.x.now c.in_ok-own.own.items c.requires.few c.in_ok-own.ensures)

pub choose_delays-requires-clause-second : goal.choose_delays-requires-clause-second
choose_delays-requires-clause-second c =
    let a = c.requires.offset.from in
    let b = c.requires.offset.to in
    let fixed = fixed_is c.args.strobe _ (to_z-of_z w64 c.args.strobe.offset (omega (arith, ints))) in
    subst (λ (is : List Interval). AreLaneIntervals is) (sym fixed) (strobe_lane (design_of c.args.table.now c.args.flat.now c.args.bench.now) c.args.x.now c.args.strobe c.requires.offset)

pub choose_delays-requires-clause-shared : goal.choose_delays-requires-clause-shared
choose_delays-requires-clause-shared c =
    let a = c.requires.offset.from in
    let b = c.requires.offset.to in
    let fixed = fixed_is c.args.strobe _ (to_z-of_z w64 c.args.strobe.offset (omega (arith, ints))) in
    subst (λ (is : List Interval). ShareArcs 0 c.deref.result.now is) (sym fixed) (share_none (design_of c.args.table.now c.args.flat.now c.args.bench.now) c.args.x.now c.args.strobe c.deref.result.now)

pub choose_delays-requires-clause-difference : goal.choose_delays-requires-clause-difference
choose_delays-requires-clause-difference c = λ spread is.
    let f = c.requires.offset.from in
    let g = c.requires.offset.to in
    let fixed = fixed_is c.args.strobe _ (to_z-of_z w64 c.args.strobe.offset (omega (arith, ints))) in
    let own = subst (λ (is : List Interval). HaveIntervals (design_of c.args.table.now c.args.flat.now c.args.bench.now) c.args.x.now is) (sym c.deref.ensures.value) c.in_ok-own.ensures in
    let lane = lane_fits (design_of c.args.table.now c.args.flat.now c.args.bench.now) c.requires.set_up c.args.x.now c.deref.result.now c.requires.few own in
    let within = strobe_spread (design_of c.args.table.now c.args.flat.now c.args.bench.now) c.args.x.now c.args.strobe c.spreads_are_exact.ensures c.args.difference c.deref.result.now spread lane c.requires.offset c.requires.delays own (subst (λ (is : List Interval). IsArcSpread 0 c.deref.result.now is spread) fixed is) in
    let a = within.from in
    let b = within.to in
    let e = to_z-of_z w64 c.args.difference c.ranges.difference in
    record { from = omega (arith, ints); to = omega (arith, ints) }

pub returns : goal.returns
returns c =
    let f = c.requires.offset.from in
    let g = c.requires.offset.to in
    let fixed = fixed_is c.args.strobe _ (to_z-of_z w64 c.args.strobe.offset (omega (arith, ints))) in
    let own = subst (λ (is : List Interval). HaveIntervals (design_of c.args.table.now c.args.flat.now c.args.bench.now) c.args.x.now is) (sym c.deref.ensures.value) c.in_ok-own.ensures in
    strobe_chosen (design_of c.args.table.now c.args.flat.now c.args.bench.now) c.args.x.now c.args.strobe c.args.difference c.deref.result.now c.in_ok-delays.delays c.in_ok-delays.field-0-1 own
    (subst (λ (is : List Interval). AreChosen 0 c.deref.result.now is c.args.difference c.in_ok-delays.delays c.in_ok-delays.field-0-1) fixed
    (subst (λ (z : ℤ). AreChosen 0 c.deref.result.now (record { low = to_z w64 (of_z w64 c.args.strobe.offset); high = to_z w64 (of_z w64 c.args.strobe.offset) } ∷ []) z c.in_ok-delays.delays c.in_ok-delays.field-0-1) (to_z-of_z w64 c.args.difference c.ranges.difference) c.in_ok-delays.ensures))
