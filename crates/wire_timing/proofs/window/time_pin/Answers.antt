use Rattle.std.proofs.Common.{◌≡◌, sym, subst, arith, ◌∙◌}
use Rattle.std.specs.Prelude.{Some}
use Rattle.rsfq_ids.specs.declared.circuit.Reader.TheVariants as reader
use Rattle.wire_timing.specs.declared.reach.Reach.{Reach}
use Rattle.wire_timing.specs.Wires.{design_of}
use Rattle.wire_timing.specs.Reach.{Reaches}
use Rattle.wire_timing.proofs.Shape.{strobed, read_net}
use Rattle.wire_timing.proofs.window.time_pin.Goals as goal

pub strobe_of-strobe-requires : goal.strobe_of-strobe-requires
strobe_of-strobe-requires c = let found = strobed (design_of c.args.table.now c.args.flat.now c.args.bench.now) c.requires.set_up c.requires.jtls c.args.pin c.args.output c.args.net c.requires.pin in (found.0, found.1)

pub reach_of-reach-requires-clause-within : goal.reach_of-reach-requires-clause-within
reach_of-reach-requires-clause-within c = let below = read_net (design_of c.args.table.now c.args.flat.now c.args.bench.now) c.requires.set_up c.requires.jtls (reader.Port c.args.output) c.args.net (c.args.pin, c.requires.pin) in let count = c.requires.reached.count in omega arith

pub reach_of-reach-requires-clause-some : goal.reach_of-reach-requires-clause-some
reach_of-reach-requires-clause-some c = let found = c.requires.reached.each c.args.net (reader.Port c.args.output) (c.args.pin, c.requires.pin) in (found.0, found.1)

pub time_output-requires-clause-reaches : goal.time_output-requires-clause-reaches
time_output-requires-clause-reaches c =
    let found = c.requires.reached.each c.args.net (reader.Port c.args.output) (c.args.pin, c.requires.pin) in
    let e : Some found.0 ≡ Some c.reach_of-reach.result = sym found.1 ∙ c.reach_of-reach.ensures in
    let f : found.0 ≡ c.reach_of-reach.result = cc in
    subst (λ (r : Reach). Reaches (design_of c.args.table.now c.args.flat.now c.args.bench.now) c.args.net r) f found.2
