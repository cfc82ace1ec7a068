use Rattle.std.proofs.Common.{◌≡◌, ℕ, sym, ◌∙◌, subst, arith}
use Rattle.clock_tree.specs.Clock.{design_of}
use Rattle.lane_forest.specs.Pins.{AddsPins}
use Rattle.lane_forest.proofs.PinOrder.{pins_more, pins_counted}
use Rattle.lane_forest.proofs.order.push_pins.Goals as goal

pub pin-requires : goal.pin-requires
pin-requires c = (c.pin_count-pin-end.ensures.pins c.loop-pin.pin).1 (omega arith)

pub loop-pin-preserved : goal.loop-pin-preserved
loop-pin-preserved c =
    pins_more (design_of c.args.graph.now c.args.bench.now) c.args.cell c.loop-pin.pin c.pin.result c.pin.ensures.0 c.args.pins.now.items c.loop-pin.pins.items c.push.new.self.items c.loop-pin.invariant c.in_ok-push.ensures.items c.pin.ensures.1

pub returns : goal.returns
returns c =
    let high = c.loop-pin.auto.pin-end in
    let at : c.loop-pin.pin ≡ c.pin_count-pin-end.result = omega arith in
    subst (λ (n : ℕ). AddsPins (design_of c.args.graph.now c.args.bench.now) c.args.cell n c.args.pins.now.items c.loop-pin.pins.items)
    (at ∙ sym (pins_counted (design_of c.args.graph.now c.args.bench.now) c.args.cell c.pin_count-pin-end.result c.pin_count-pin-end.ensures.pins c.pin_count-pin-end.ensures.count)) c.loop-pin.invariant
