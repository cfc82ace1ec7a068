use Rattle.wire_timing.specs.Wires.{design_of}
use Rattle.wire_timing.proofs.Shown.{bounds_of_route}
use Rattle.wire_timing.proofs.window.raise_path.Goals as goal

pub raise_delays-requires-clause-some : goal.raise_delays-requires-clause-some
raise_delays-requires-clause-some c = bounds_of_route (design_of c.args.table.now c.args.flat.now c.args.bench.now) c.requires.set_up c.requires.jtls c.args.net c.args.reach c.in_ok-arcs.arcs.items c.deref.result.now c.requires.reaches c.in_ok-arcs.ensures c.deref.ensures.value
