use Rattle.bind_names.specs.Scoped.{sites_of}
use Rattle.verilog_bind.proofs.Zips.{after}
use Rattle.verilog_bind.proofs.Numbering.{made_names, makes_none, makes_more}
use Rattle.verilog_bind.proofs.wires.Wires.add_other.Goals as goal

pub returns-in-Some-clause-others : goal.returns-in-Some-clause-others
returns-in-Some-clause-others c =
    after c.put.result c.put.ensures.put
    (λ puts. makes_more (sites_of c.args.scope.now) c.args.at _ c.args.self.now c.put.new.self c.in-Some.ensures.made c.requires.before puts c.put.ensures.ports)

pub returns-in-None-clause-others : goal.returns-in-None-clause-others
returns-in-None-clause-others c = makes_none (sites_of c.args.scope.now) c.args.at c.args.self.now c.in-None.ensures.none c.requires.before

pub made_at-requires-clause-before : goal.made_at-requires-clause-before
made_at-requires-clause-before c = made_names (sites_of c.args.scope.now) c.args.at c.args.self.now c.requires.before
