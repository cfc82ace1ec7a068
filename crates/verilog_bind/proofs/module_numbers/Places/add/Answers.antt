use Rattle.std.proofs.Common.{arith}
use Rattle.verilog_bind.proofs.Steps.{without, with_one}
use Rattle.verilog_bind.proofs.module_numbers.Places.add.Goals as goal

pub returns-then-not-reached-at : goal.returns-then-not-reached-at
returns-then-not-reached-at c = without c.args.reached.now c.args.at c.args.self.now.places.items c.args.self.now.numbers.items c.push.new.self.items c.if-not-reached-at.true c.in_ok-push.ensures.items c.requires.before

pub returns : goal.returns
returns c = with_one c.args.reached.now c.args.at c.len-number.result c.args.self.now.places.items c.push-2.new.self.items c.args.self.now.numbers.items c.push-3.new.self.items
    c.if-not-reached-at.false (omega (arith, c.len-number.ensures, c.args.self.now.places.ok.0)) c.in_ok-push-2.ensures.items c.in_ok-push-3.ensures.items c.requires.before
