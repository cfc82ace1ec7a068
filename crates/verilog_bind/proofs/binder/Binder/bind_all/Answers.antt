use Rattle.verilog_bind.specs.Sound.{setting_in}
use Rattle.verilog_bind.proofs.Whole.{modules_start, modules_more, modules_all, place_listed}
use Rattle.verilog_bind.proofs.binder.Binder.bind_all.Goals as goal

pub loop-at-init : goal.loop-at-init
loop-at-init c = modules_start (setting_in c.args.self.now) c.args.self.now.places.now c.new-modules.result c.new-modules.ensures

pub bind_module-requires-clause-there : goal.bind_module-requires-clause-there
bind_module-requires-clause-there c = c.requires.sound.there _ (place_listed c.args.self.now.places.now c.loop-at.at-index 0 c.loop-at-test.true)

pub bind_module-requires-clause-sound : goal.bind_module-requires-clause-sound
bind_module-requires-clause-sound c = λ owner there. c.requires.sound.sound _ owner (place_listed c.args.self.now.places.now c.loop-at.at-index 0 c.loop-at-test.true) there

pub loop-at-preserved : goal.loop-at-preserved
loop-at-preserved c =
    modules_more (setting_in c.args.self.now) c.args.self.now.places.now c.loop-at.at-index 0 c.loop-at.modules c.push.new.self c.in_ok-bind_module.field-0 c.loop-at-test.true c.loop-at.invariant c.in_ok-bind_module.ensures c.in_ok-push.ensures.ok

pub returns : goal.returns
returns c = modules_all (setting_in c.args.self.now) c.args.self.now.places.now c.loop-at.at-index c.loop-at.modules c.loop-at-test.false c.loop-at.invariant
