use Rattle.std.proofs.Common.{◌≡◌, w64, of_z, to_z, ℤ, pos, ◌*ℤ◌, sym, subst, arith, refl, ◌∙◌}
use Rattle.std.proofs.lemmas.Int.{ints, to_z-of_z}
use Rattle.rsfq_ids.specs.Time.{IsWithin}
use Rattle.wire_timing.specs.Wires.{design_of}
use Rattle.wire_timing.proofs.Shown.{timely, period_shown, turned_within, begins_shown, spare_shown, first_shown}
use Rattle.wire_timing.proofs.window.show_window.Goals as goal

pub begin_zone-begins-requires-clause-timely : goal.begin_zone-begins-requires-clause-timely
begin_zone-begins-requires-clause-timely c =
    timely (design_of c.args.table.now c.args.flat.now c.args.bench.now) c.requires.set_up c.requires.jtls c.args.pin c.args.net c.args.strobe c.requires.output (to_z w64 (of_z w64 c.args.bench.now.period)) (pos 0) (to_z-of_z w64 c.args.bench.now.period (period_shown (design_of c.args.table.now c.args.flat.now c.args.bench.now) c.requires.set_up c.requires.jtls c.args.pin c.args.net c.args.strobe c.requires.output)) (omega (arith, ints)) (omega (arith, ints))

pub begin_zone-begins-requires-clause-turned : goal.begin_zone-begins-requires-clause-turned
begin_zone-begins-requires-clause-turned c =
    let low = c.requires.small.low in
    let order = c.requires.small.order in
    let high = c.requires.small.high in
    let within = turned_within (design_of c.args.table.now c.args.flat.now c.args.bench.now) c.requires.set_up c.requires.jtls c.args.pin c.args.net c.args.strobe c.requires.output c.args.reach.high c.args.steps (omega (arith, ints)) (omega (arith, ints)) c.requires.steps in
    let e : to_z w64 (of_z w64 c.args.turned) ≡ (pos c.args.steps *ℤ c.args.bench.now.period) = to_z-of_z w64 c.args.turned c.ranges.turned ∙ c.requires.turned in
    subst (λ (z : ℤ). IsWithin (pos 0) (pos 1000000000000000) z) (sym e) within

pub count_spare-spare-requires-clause-begins : goal.count_spare-spare-requires-clause-begins
count_spare-spare-requires-clause-begins c =
    let low = c.requires.small.low in
    let order = c.requires.small.order in
    let high = c.requires.small.high in
    let within = turned_within (design_of c.args.table.now c.args.flat.now c.args.bench.now) c.requires.set_up c.requires.jtls c.args.pin c.args.net c.args.strobe c.requires.output c.args.reach.high c.args.steps (omega (arith, ints)) (omega (arith, ints)) c.requires.steps in
    let turned : IsWithin (pos 0) (pos 1000000000000000) c.args.turned = subst (λ (z : ℤ). IsWithin (pos 0) (pos 1000000000000000) z) (sym c.requires.turned) within in
    (begins_shown (design_of c.args.table.now c.args.flat.now c.args.bench.now) c.requires.set_up c.requires.jtls c.args.pin c.args.net c.args.strobe c.requires.output c.begin_zone-begins.result c.args.turned (to_z w64 (of_z w64 c.args.turned)) (to_z w64 (of_z w64 c.args.bench.now.period)) c.begin_zone-begins.ensures
    (to_z-of_z w64 c.args.turned c.ranges.turned) (to_z-of_z w64 c.args.bench.now.period (period_shown (design_of c.args.table.now c.args.flat.now c.args.bench.now) c.requires.set_up c.requires.jtls c.args.pin c.args.net c.args.strobe c.requires.output)) turned).1

pub returns-in-Ok : goal.returns-in-Ok
returns-in-Ok c =
    let low = c.requires.small.low in
    let order = c.requires.small.order in
    let high = c.requires.small.high in
    let natural = c.count_spare-spare.ensures.natural in
    let within = turned_within (design_of c.args.table.now c.args.flat.now c.args.bench.now) c.requires.set_up c.requires.jtls c.args.pin c.args.net c.args.strobe c.requires.output c.args.reach.high c.args.steps (omega (arith, ints)) (omega (arith, ints)) c.requires.steps in
    let turned : IsWithin (pos 0) (pos 1000000000000000) c.args.turned = subst (λ (z : ℤ). IsWithin (pos 0) (pos 1000000000000000) z) (sym c.requires.turned) within in
    let begins = begins_shown (design_of c.args.table.now c.args.flat.now c.args.bench.now) c.requires.set_up c.requires.jtls c.args.pin c.args.net c.args.strobe c.requires.output c.begin_zone-begins.result c.args.turned (to_z w64 (of_z w64 c.args.turned)) (to_z w64 (of_z w64 c.args.bench.now.period)) c.begin_zone-begins.ensures
    (to_z-of_z w64 c.args.turned c.ranges.turned) (to_z-of_z w64 c.args.bench.now.period (period_shown (design_of c.args.table.now c.args.flat.now c.args.bench.now) c.requires.set_up c.requires.jtls c.args.pin c.args.net c.args.strobe c.requires.output)) turned in (
      refl,
      first_shown (design_of c.args.table.now c.args.flat.now c.args.bench.now) c.requires.set_up c.requires.jtls c.args.pin c.args.net c.args.strobe c.requires.output c.args.reach c.requires.reaches c.requires.small c.args.steps c.requires.steps c.args.turned (to_z w64 (of_z w64 c.begin_zone-begins.result)) (to_z w64 (of_z w64 c.args.reach.low))
          c.count_spare-spare.result (to_z w64 (of_z w64 c.count_spare-spare.result)) c.requires.turned begins.0 (omega (arith, ints))
          (spare_shown c.count_spare-spare.result (to_z w64 (of_z w64 c.begin_zone-begins.result)) (to_z w64 (of_z w64 c.args.reach.low)) c.count_spare-spare.ensures begins.1 (record { from = omega (arith, ints); to = omega (arith, ints) })) c.requires.offends
          c.count_spare-spare.ensures c.in-Ok.arcs c.in-Ok.delays c.in-Ok.ensures c.place_apart-number.result.0 c.place_apart-number.result.1 c.place_apart-number.ensures.apart c.place_apart-number.ensures.zero,
    )
