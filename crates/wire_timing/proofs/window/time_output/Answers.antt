use Rattle.std.proofs.Common.{w64, of_z, to_z, ℤ, pos, ◌+ℤ◌, ◌*ℤ◌, ◌≤ℤ◌, sym, ap, subst, arith, ◌∙◌}
use Rattle.std.proofs.lemmas.Int.{ints, to_z-of_z}
use Rattle.rsfq_ids.specs.Time.{IsWithin}
use Rattle.wire_timing.specs.Wires.{design_of}
use Rattle.wire_timing.specs.Reach.{IsStepCount}
use Rattle.wire_timing.proofs.Outputs.{no_window_at, wire_depth}
use Rattle.wire_timing.proofs.Shown.{timely, period_shown, turned_within, steps_shown, ends_shown, clear_shown, late_shown}
use Rattle.wire_timing.proofs.window.time_output.Goals as goal
use mir.Val.{SFits}

pub count_steps-steps-requires : goal.count_steps-steps-requires
count_steps-steps-requires c =
    let low = c.requires.small.low in
    let order = c.requires.small.order in
    let high = c.requires.small.high in
    timely (design_of c.args.table.now c.args.flat.now c.args.bench.now) c.requires.set_up c.requires.jtls c.args.pin c.args.net c.args.strobe (c.args.output, c.requires.pin, c.requires.used) (to_z w64 (of_z w64 c.args.bench.now.period)) (to_z w64 (of_z w64 c.args.reach.high)) (to_z-of_z w64 c.args.bench.now.period (period_shown (design_of c.args.table.now c.args.flat.now c.args.bench.now) c.requires.set_up c.requires.jtls c.args.pin c.args.net c.args.strobe (c.args.output, c.requires.pin, c.requires.used))) (omega (arith, ints)) (omega (arith, ints))

pub span_periods-turned-requires-clause-small : goal.span_periods-turned-requires-clause-small
span_periods-turned-requires-clause-small c =
    let low = c.requires.small.low in
    let order = c.requires.small.order in
    let high = c.requires.small.high in
    let period = to_z-of_z w64 c.args.bench.now.period (period_shown (design_of c.args.table.now c.args.flat.now c.args.bench.now) c.requires.set_up c.requires.jtls c.args.pin c.args.net c.args.strobe (c.args.output, c.requires.pin, c.requires.used)) in
    let top : SFits w64 c.args.reach.high = omega (arith, ints) in
    let steps : IsStepCount c.args.bench.now.period c.args.strobe c.args.reach.high c.count_steps-steps.result = steps_shown c.args.bench.now.period (to_z w64 (of_z w64 c.args.bench.now.period)) c.args.strobe c.args.reach.high (to_z w64 (of_z w64 c.args.reach.high)) c.count_steps-steps.result period (to_z-of_z w64 c.args.reach.high top) c.count_steps-steps.ensures in
    let within = turned_within (design_of c.args.table.now c.args.flat.now c.args.bench.now) c.requires.set_up c.requires.jtls c.args.pin c.args.net c.args.strobe (c.args.output, c.requires.pin, c.requires.used) c.args.reach.high c.count_steps-steps.result (omega (arith, ints)) (omega (arith, ints)) steps in
    subst (λ (z : ℤ). (pos c.count_steps-steps.result *ℤ z) ≤ℤ pos 1000000000000000) (sym period) within.to

pub end_zone-ends-requires-clause-timely : goal.end_zone-ends-requires-clause-timely
end_zone-ends-requires-clause-timely c =
    timely (design_of c.args.table.now c.args.flat.now c.args.bench.now) c.requires.set_up c.requires.jtls c.args.pin c.args.net c.args.strobe (c.args.output, c.requires.pin, c.requires.used) (to_z w64 (of_z w64 c.args.bench.now.period)) (pos 0) (to_z-of_z w64 c.args.bench.now.period (period_shown (design_of c.args.table.now c.args.flat.now c.args.bench.now) c.requires.set_up c.requires.jtls c.args.pin c.args.net c.args.strobe (c.args.output, c.requires.pin, c.requires.used))) (omega (arith, ints)) (omega (arith, ints))

pub end_zone-ends-requires-clause-turned : goal.end_zone-ends-requires-clause-turned
end_zone-ends-requires-clause-turned c =
    let low = c.requires.small.low in
    let order = c.requires.small.order in
    let high = c.requires.small.high in
    let period = to_z-of_z w64 c.args.bench.now.period (period_shown (design_of c.args.table.now c.args.flat.now c.args.bench.now) c.requires.set_up c.requires.jtls c.args.pin c.args.net c.args.strobe (c.args.output, c.requires.pin, c.requires.used)) in
    let top : SFits w64 c.args.reach.high = omega (arith, ints) in
    let steps : IsStepCount c.args.bench.now.period c.args.strobe c.args.reach.high c.count_steps-steps.result = steps_shown c.args.bench.now.period (to_z w64 (of_z w64 c.args.bench.now.period)) c.args.strobe c.args.reach.high (to_z w64 (of_z w64 c.args.reach.high)) c.count_steps-steps.result period (to_z-of_z w64 c.args.reach.high top) c.count_steps-steps.ensures in
    let within = turned_within (design_of c.args.table.now c.args.flat.now c.args.bench.now) c.requires.set_up c.requires.jtls c.args.pin c.args.net c.args.strobe (c.args.output, c.requires.pin, c.requires.used) c.args.reach.high c.count_steps-steps.result (omega (arith, ints)) (omega (arith, ints)) steps in
    let same = c.span_periods-turned.ensures ∙ ap (λ (z : ℤ). pos c.count_steps-steps.result *ℤ z) period in
    let turned : IsWithin (pos 0) (pos 1000000000000000) c.span_periods-turned.result = subst (λ (z : ℤ). IsWithin (pos 0) (pos 1000000000000000) z) (sym same) within in
    let turned_from = turned.from in
    let turned_to = turned.to in
    let small : SFits w64 c.span_periods-turned.result = omega (arith, ints) in
    let shown = to_z-of_z w64 c.span_periods-turned.result small in
    subst (λ (z : ℤ). IsWithin (pos 0) (pos 1000000000000000) z) (sym shown) turned

pub show_window-requires-clause-steps : goal.show_window-requires-clause-steps
show_window-requires-clause-steps c =
    let low = c.requires.small.low in
    let order = c.requires.small.order in
    let high = c.requires.small.high in
    let period = to_z-of_z w64 c.args.bench.now.period (period_shown (design_of c.args.table.now c.args.flat.now c.args.bench.now) c.requires.set_up c.requires.jtls c.args.pin c.args.net c.args.strobe (c.args.output, c.requires.pin, c.requires.used)) in
    let top : SFits w64 c.args.reach.high = omega (arith, ints) in
    let steps : IsStepCount c.args.bench.now.period c.args.strobe c.args.reach.high c.count_steps-steps.result = steps_shown c.args.bench.now.period (to_z w64 (of_z w64 c.args.bench.now.period)) c.args.strobe c.args.reach.high (to_z w64 (of_z w64 c.args.reach.high)) c.count_steps-steps.result period (to_z-of_z w64 c.args.reach.high top) c.count_steps-steps.ensures in
    steps

pub show_window-requires-clause-offends : goal.show_window-requires-clause-offends
show_window-requires-clause-offends c =
    let low = c.requires.small.low in
    let order = c.requires.small.order in
    let high = c.requires.small.high in
    let period = to_z-of_z w64 c.args.bench.now.period (period_shown (design_of c.args.table.now c.args.flat.now c.args.bench.now) c.requires.set_up c.requires.jtls c.args.pin c.args.net c.args.strobe (c.args.output, c.requires.pin, c.requires.used)) in
    let top : SFits w64 c.args.reach.high = omega (arith, ints) in
    let steps : IsStepCount c.args.bench.now.period c.args.strobe c.args.reach.high c.count_steps-steps.result = steps_shown c.args.bench.now.period (to_z w64 (of_z w64 c.args.bench.now.period)) c.args.strobe c.args.reach.high (to_z w64 (of_z w64 c.args.reach.high)) c.count_steps-steps.result period (to_z-of_z w64 c.args.reach.high top) c.count_steps-steps.ensures in
    let within = turned_within (design_of c.args.table.now c.args.flat.now c.args.bench.now) c.requires.set_up c.requires.jtls c.args.pin c.args.net c.args.strobe (c.args.output, c.requires.pin, c.requires.used) c.args.reach.high c.count_steps-steps.result (omega (arith, ints)) (omega (arith, ints)) steps in
    let same = c.span_periods-turned.ensures ∙ ap (λ (z : ℤ). pos c.count_steps-steps.result *ℤ z) period in
    let turned : IsWithin (pos 0) (pos 1000000000000000) c.span_periods-turned.result = subst (λ (z : ℤ). IsWithin (pos 0) (pos 1000000000000000) z) (sym same) within in
    let turned_from = turned.from in
    let turned_to = turned.to in
    let small : SFits w64 c.span_periods-turned.result = omega (arith, ints) in
    let shown = to_z-of_z w64 c.span_periods-turned.result small in
    let ends = ends_shown (design_of c.args.table.now c.args.flat.now c.args.bench.now) c.requires.set_up c.requires.jtls c.args.pin c.args.net c.args.strobe (c.args.output, c.requires.pin, c.requires.used) c.end_zone-ends.result c.span_periods-turned.result (to_z w64 (of_z w64 c.span_periods-turned.result)) (to_z w64 (of_z w64 c.args.bench.now.period)) c.end_zone-ends.ensures shown period turned in
    let least : SFits w64 c.args.reach.low = omega (arith, ints) in
    let low_shown = to_z-of_z w64 c.args.reach.low least in
    late_shown (to_z w64 (of_z w64 c.end_zone-ends.result)) (to_z w64 (of_z w64 c.args.reach.low)) c.args.reach.low c.args.bench.now.period (c.args.strobe.offset +ℤ c.args.strobe.hold) c.span_periods-turned.result (to_z w64 (of_z w64 c.span_periods-turned.result)) ends low_shown (sym shown) c.if-reach-ends.true

pub returns-else-reach-ends-clause-no_offence : goal.returns-else-reach-ends-clause-no_offence
returns-else-reach-ends-clause-no_offence c =
    let low = c.requires.small.low in
    let order = c.requires.small.order in
    let high = c.requires.small.high in
    let period = to_z-of_z w64 c.args.bench.now.period (period_shown (design_of c.args.table.now c.args.flat.now c.args.bench.now) c.requires.set_up c.requires.jtls c.args.pin c.args.net c.args.strobe (c.args.output, c.requires.pin, c.requires.used)) in
    let top : SFits w64 c.args.reach.high = omega (arith, ints) in
    let steps : IsStepCount c.args.bench.now.period c.args.strobe c.args.reach.high c.count_steps-steps.result = steps_shown c.args.bench.now.period (to_z w64 (of_z w64 c.args.bench.now.period)) c.args.strobe c.args.reach.high (to_z w64 (of_z w64 c.args.reach.high)) c.count_steps-steps.result period (to_z-of_z w64 c.args.reach.high top) c.count_steps-steps.ensures in
    let within = turned_within (design_of c.args.table.now c.args.flat.now c.args.bench.now) c.requires.set_up c.requires.jtls c.args.pin c.args.net c.args.strobe (c.args.output, c.requires.pin, c.requires.used) c.args.reach.high c.count_steps-steps.result (omega (arith, ints)) (omega (arith, ints)) steps in
    let same = c.span_periods-turned.ensures ∙ ap (λ (z : ℤ). pos c.count_steps-steps.result *ℤ z) period in
    let turned : IsWithin (pos 0) (pos 1000000000000000) c.span_periods-turned.result = subst (λ (z : ℤ). IsWithin (pos 0) (pos 1000000000000000) z) (sym same) within in
    let turned_from = turned.from in
    let turned_to = turned.to in
    let small : SFits w64 c.span_periods-turned.result = omega (arith, ints) in
    let shown = to_z-of_z w64 c.span_periods-turned.result small in
    let ends = ends_shown (design_of c.args.table.now c.args.flat.now c.args.bench.now) c.requires.set_up c.requires.jtls c.args.pin c.args.net c.args.strobe (c.args.output, c.requires.pin, c.requires.used) c.end_zone-ends.result c.span_periods-turned.result (to_z w64 (of_z w64 c.span_periods-turned.result)) (to_z w64 (of_z w64 c.args.bench.now.period)) c.end_zone-ends.ensures shown period turned in
    let least : SFits w64 c.args.reach.low = omega (arith, ints) in
    let low_shown = to_z-of_z w64 c.args.reach.low least in
    let clear = clear_shown (to_z w64 (of_z w64 c.end_zone-ends.result)) (to_z w64 (of_z w64 c.args.reach.low)) c.args.reach.low c.args.bench.now.period (c.args.strobe.offset +ℤ c.args.strobe.hold) c.span_periods-turned.result (pos c.count_steps-steps.result *ℤ c.args.bench.now.period) ends low_shown same c.if-reach-ends.false in
    no_window_at (design_of c.args.table.now c.args.flat.now c.args.bench.now) c.requires.set_up c.requires.jtls c.args.pin c.args.output c.args.net c.args.strobe c.requires.pin c.requires.used c.args.reach c.requires.reaches c.count_steps-steps.result steps clear

pub returns-else-reach-ends-clause-depth : goal.returns-else-reach-ends-clause-depth
returns-else-reach-ends-clause-depth c =
    let low = c.requires.small.low in
    let order = c.requires.small.order in
    let high = c.requires.small.high in
    let period = to_z-of_z w64 c.args.bench.now.period (period_shown (design_of c.args.table.now c.args.flat.now c.args.bench.now) c.requires.set_up c.requires.jtls c.args.pin c.args.net c.args.strobe (c.args.output, c.requires.pin, c.requires.used)) in
    let top : SFits w64 c.args.reach.high = omega (arith, ints) in
    let steps : IsStepCount c.args.bench.now.period c.args.strobe c.args.reach.high c.count_steps-steps.result = steps_shown c.args.bench.now.period (to_z w64 (of_z w64 c.args.bench.now.period)) c.args.strobe c.args.reach.high (to_z w64 (of_z w64 c.args.reach.high)) c.count_steps-steps.result period (to_z-of_z w64 c.args.reach.high top) c.count_steps-steps.ensures in
    let within = turned_within (design_of c.args.table.now c.args.flat.now c.args.bench.now) c.requires.set_up c.requires.jtls c.args.pin c.args.net c.args.strobe (c.args.output, c.requires.pin, c.requires.used) c.args.reach.high c.count_steps-steps.result (omega (arith, ints)) (omega (arith, ints)) steps in
    let same = c.span_periods-turned.ensures ∙ ap (λ (z : ℤ). pos c.count_steps-steps.result *ℤ z) period in
    let turned : IsWithin (pos 0) (pos 1000000000000000) c.span_periods-turned.result = subst (λ (z : ℤ). IsWithin (pos 0) (pos 1000000000000000) z) (sym same) within in
    let turned_from = turned.from in
    let turned_to = turned.to in
    let small : SFits w64 c.span_periods-turned.result = omega (arith, ints) in
    let shown = to_z-of_z w64 c.span_periods-turned.result small in
    let ends = ends_shown (design_of c.args.table.now c.args.flat.now c.args.bench.now) c.requires.set_up c.requires.jtls c.args.pin c.args.net c.args.strobe (c.args.output, c.requires.pin, c.requires.used) c.end_zone-ends.result c.span_periods-turned.result (to_z w64 (of_z w64 c.span_periods-turned.result)) (to_z w64 (of_z w64 c.args.bench.now.period)) c.end_zone-ends.ensures shown period turned in
    let least : SFits w64 c.args.reach.low = omega (arith, ints) in
    let low_shown = to_z-of_z w64 c.args.reach.low least in
    let clear = clear_shown (to_z w64 (of_z w64 c.end_zone-ends.result)) (to_z w64 (of_z w64 c.args.reach.low)) c.args.reach.low c.args.bench.now.period (c.args.strobe.offset +ℤ c.args.strobe.hold) c.span_periods-turned.result (pos c.count_steps-steps.result *ℤ c.args.bench.now.period) ends low_shown same c.if-reach-ends.false in
    wire_depth (design_of c.args.table.now c.args.flat.now c.args.bench.now) c.requires.set_up c.requires.jtls c.args.pin c.args.output c.args.net c.args.strobe c.requires.pin c.requires.used c.args.reach c.requires.reaches c.count_steps-steps.result steps clear
