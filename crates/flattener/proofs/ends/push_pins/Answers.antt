use Rattle.std.proofs.Common.{◌∙◌, arith}
use Rattle.rsfq_ids.specs.declared.circuit.Reader.TheVariants.{Pin}
use Rattle.flattener.proofs.Lists.{number_step}
use Rattle.flattener.proofs.ends.push_pins.Goals as goal

pub loop-pin-preserved : goal.loop-pin-preserved
loop-pin-preserved c = c.in_ok-push.ensures.items ∙ number_step (Pin c.args.cell) 0 c.loop-pin.pin c.loop-pin.readers.items c.args.readers.now.items (omega arith) c.loop-pin.invariant
