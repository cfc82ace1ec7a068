use Rattle.std.proofs.Common.{w64, of_z, to_z, ℤ, ap, ◌∙◌, arith}
use Rattle.std.proofs.lemmas.Int.{ints, clamps, to_z-of_z}
use Rattle.wire_timing.specs.Reach.{raise}
use Rattle.wire_timing.specs.Wires.{design_of}
use Rattle.wire_timing.proofs.Outputs.{bound_fits}
use Rattle.wire_timing.proofs.Raise.{raise_step, bounds_there, raise_ends}
use Rattle.wire_timing.proofs.pick.raise_delays.Goals as goal

pub bounds_of-low-requires-clause-some : goal.bounds_of-low-requires-clause-some
bounds_of-low-requires-clause-some c = bounds_there (design_of c.args.table.now c.args.flat.now c.args.bench.now) c.args.arcs.now c.loop-arc.arc-index c.arc-item.result c.requires.some c.loop-arc-test.true c.arc-item.is

pub raise_delay-delay-requires-clause-low : goal.raise_delay-delay-requires-clause-low
raise_delay-delay-requires-clause-low c = let (low, order, high) = bound_fits (design_of c.args.table.now c.args.flat.now c.args.bench.now) c.requires.set_up c.requires.jtls c.arc-item.result c.bounds_of-low.result c.bounds_of-low.ensures in omega (arith, ints)

pub raise_delay-delay-requires-clause-order : goal.raise_delay-delay-requires-clause-order
raise_delay-delay-requires-clause-order c = let (low, order, high) = bound_fits (design_of c.args.table.now c.args.flat.now c.args.bench.now) c.requires.set_up c.requires.jtls c.arc-item.result c.bounds_of-low.result c.bounds_of-low.ensures in omega (arith, ints)

pub raise_delay-delay-requires-clause-high : goal.raise_delay-delay-requires-clause-high
raise_delay-delay-requires-clause-high c = let (low, order, high) = bound_fits (design_of c.args.table.now c.args.flat.now c.args.bench.now) c.requires.set_up c.requires.jtls c.arc-item.result c.bounds_of-low.result c.bounds_of-low.ensures in omega (arith, ints)

pub loop-arc-preserved : goal.loop-arc-preserved
loop-arc-preserved c =
    let (low, order, high) = bound_fits (design_of c.args.table.now c.args.flat.now c.args.bench.now) c.requires.set_up c.requires.jtls c.arc-item.result c.bounds_of-low.result c.bounds_of-low.ensures in
    let natural = c.loop-arc.invariant.0 in
    let d = c.raise_delay-delay.ensures.delay in
    let e = c.raise_delay-delay.ensures.left in
    raise_step (design_of c.args.table.now c.args.flat.now c.args.bench.now) c.args.arcs.now (to_z w64 (of_z w64 c.args.spare)) c.loop-arc.arc-index c.loop-arc.delays.items (to_z w64 c.loop-arc.left-bits) c.bounds_of-low.result.0 c.bounds_of-low.result.1 c.arc-item.result
    c.loop-arc.invariant c.loop-arc-test.true c.arc-item.is c.bounds_of-low.ensures order (to_z w64 (of_z w64 c.bounds_of-low.result.0)) (to_z w64 (of_z w64 c.bounds_of-low.result.1))
    (to_z w64 (of_z w64 c.raise_delay-delay.result.0)) (to_z w64 (of_z w64 c.raise_delay-delay.result.1)) c.push.new.self.items (omega (arith, ints)) (omega (arith, ints)) (omega (arith, ints, clamps)) (omega (arith, ints, clamps)) c.in_ok-push.ensures.items

pub returns : goal.returns
returns c = λ bounds zip.
    raise_ends (design_of c.args.table.now c.args.flat.now c.args.bench.now) c.args.arcs.now (to_z w64 (of_z w64 c.args.spare)) c.loop-arc.arc-index c.loop-arc.delays.items (to_z w64 c.loop-arc.left-bits) c.loop-arc.invariant c.loop-arc-test.false bounds zip
    ∙ ap (λ (z : ℤ). raise z bounds) (to_z-of_z w64 c.args.spare c.ranges.spare)
