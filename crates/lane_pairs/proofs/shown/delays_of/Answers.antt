use Rattle.std.proofs.Common.{ℤ, List, sym, subst, w64, arith}
use Rattle.std.proofs.lemmas.Int.{ints, to_z-of_z}
use Rattle.pulse_pairs.specs.declared.meeting.Interval.{Interval}
use Rattle.pulse_pairs.specs.Choice.{AreLaneIntervals, AreChosen}
use Rattle.rsfq_ids.specs.Design.{design_of}
use Rattle.lane_pairs.specs.Arcs.{HaveIntervals}
use Rattle.lane_pairs.proofs.Intervals.{lane_fits}
use Rattle.lane_pairs.proofs.Shows.{share_arcs, within_spread, chosen_on}
use Rattle.lane_pairs.proofs.shown.delays_of.Goals as goal

pub choose_delays-requires-clause-first : goal.choose_delays-requires-clause-first
choose_delays-requires-clause-first c =
    subst (λ (is : List Interval). AreLaneIntervals is) (sym c.deref.ensures.value) (lane_fits (design_of c.args.table.now c.args.flat.now c.args.bench.now) c.requires.set_up c.args.x.now c.in_ok-own.own.items c.requires.first c.in_ok-own.ensures)

pub choose_delays-requires-clause-second : goal.choose_delays-requires-clause-second
choose_delays-requires-clause-second c =
    subst (λ (is : List Interval). AreLaneIntervals is) (sym c.deref-2.ensures.value) (lane_fits (design_of c.args.table.now c.args.flat.now c.args.bench.now) c.requires.set_up c.args.y.now c.in_ok-others.others.items c.requires.second c.in_ok-others.ensures)

pub choose_delays-requires-clause-shared : goal.choose_delays-requires-clause-shared
choose_delays-requires-clause-shared c =
    let own = subst (λ (is : List Interval). HaveIntervals (design_of c.args.table.now c.args.flat.now c.args.bench.now) c.args.x.now is) (sym c.deref.ensures.value) c.in_ok-own.ensures in
    let others = subst (λ (is : List Interval). HaveIntervals (design_of c.args.table.now c.args.flat.now c.args.bench.now) c.args.y.now is) (sym c.deref-2.ensures.value) c.in_ok-others.ensures in
    share_arcs (design_of c.args.table.now c.args.flat.now c.args.bench.now) c.args.x.now c.args.y.now c.args.shared c.args.difference c.deref.result.now c.deref-2.result.now c.requires.delays own others

pub choose_delays-requires-clause-difference : goal.choose_delays-requires-clause-difference
choose_delays-requires-clause-difference c = λ spread is.
    let own = subst (λ (is : List Interval). HaveIntervals (design_of c.args.table.now c.args.flat.now c.args.bench.now) c.args.x.now is) (sym c.deref.ensures.value) c.in_ok-own.ensures in
    let others = subst (λ (is : List Interval). HaveIntervals (design_of c.args.table.now c.args.flat.now c.args.bench.now) c.args.y.now is) (sym c.deref-2.ensures.value) c.in_ok-others.ensures in
    let lane = lane_fits (design_of c.args.table.now c.args.flat.now c.args.bench.now) c.requires.set_up c.args.x.now c.deref.result.now c.requires.first own in
    let lane' = lane_fits (design_of c.args.table.now c.args.flat.now c.args.bench.now) c.requires.set_up c.args.y.now c.deref-2.result.now c.requires.second others in
    let within = within_spread (design_of c.args.table.now c.args.flat.now c.args.bench.now) c.args.x.now c.args.y.now c.spreads_are_exact.ensures c.args.shared c.args.difference c.deref.result.now c.deref-2.result.now spread lane lane' c.requires.delays own others is in
    let a = within.from in
    let b = within.to in
    let e = to_z-of_z w64 c.args.difference c.ranges.difference in
    record { from = omega (arith, ints); to = omega (arith, ints) }

pub returns : goal.returns
returns c =
    let own = subst (λ (is : List Interval). HaveIntervals (design_of c.args.table.now c.args.flat.now c.args.bench.now) c.args.x.now is) (sym c.deref.ensures.value) c.in_ok-own.ensures in
    let others = subst (λ (is : List Interval). HaveIntervals (design_of c.args.table.now c.args.flat.now c.args.bench.now) c.args.y.now is) (sym c.deref-2.ensures.value) c.in_ok-others.ensures in
    chosen_on (design_of c.args.table.now c.args.flat.now c.args.bench.now) c.args.x.now c.args.y.now c.args.shared c.args.difference c.deref.result.now c.deref-2.result.now c.in_ok-delays.delays c.in_ok-delays.ends own others
    (subst (λ (z : ℤ). AreChosen c.args.shared c.deref.result.now c.deref-2.result.now z c.in_ok-delays.delays c.in_ok-delays.ends) (to_z-of_z w64 c.args.difference c.ranges.difference) c.in_ok-delays.ensures)
