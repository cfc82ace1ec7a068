use Rattle.lane_forest.proofs.Holds.{pushed_is, pushed_arcs, pushed_gates}
use Rattle.lane_forest.proofs.forest.Forest.push.Goals as goal

pub invariant_of-self-2 : goal.invariant_of-self-2
invariant_of-self-2 c = pushed_is c.self.inside c.args.self.now c.self.view_is c.self.invariant (record { stored = c.push.new.self }) (record { node = c.args.node; jump = c.args.jump; gate = c.args.gate }) c.in_ok-push.ensures.items c.requires.few c.requires.lane c.requires.jump

pub returns-clause-arcs : goal.returns-clause-arcs
returns-clause-arcs c = pushed_arcs c.self.inside c.args.self.now c.self.view_is c.self.invariant (record { stored = c.push.new.self }) (record { node = c.args.node; jump = c.args.jump; gate = c.args.gate }) c.in_ok-push.ensures.items

pub returns-clause-gates : goal.returns-clause-gates
returns-clause-gates c = pushed_gates c.self.inside c.args.self.now c.self.view_is c.self.invariant (record { stored = c.push.new.self }) (record { node = c.args.node; jump = c.args.jump; gate = c.args.gate }) c.in_ok-push.ensures.items
