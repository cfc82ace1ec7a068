use Rattle.std.proofs.Common.{arith}
use Rattle.verilog_bind.proofs.Steps.{none_yet, all_taken}
use Rattle.verilog_bind.proofs.module_numbers.Places.of.Goals as goal

pub loop-at-init : goal.loop-at-init
loop-at-init c = none_yet c.args.reached.now _ _ c.new.ensures.items c.new-2.ensures.items

pub returns : goal.returns
returns c = all_taken c.args.reached.now c.loop-at.at c.loop-at.all.places.items c.loop-at.all.numbers.items (omega (arith, c.loop-at-test.false, c.loop-at.auto.at-end)) c.loop-at.invariant
