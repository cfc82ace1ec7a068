use Rattle.std.proofs.Common.{◌<◌, ◌≢◌, length}
use Rattle.std.specs.List.{All, AllPairs}
use Rattle.rsfq_ids.specs.Formula.{IsFormula}
use Rattle.rsfq_ids.specs.Propagation.{InputsDecide}
use Rattle.miter_cnf.specs.declared.made.MiterCnf.{MiterCnf}
use Rattle.miter_cnf.specs.Miter.{IsMiter}
use Rattle.miter_cnf.proofs.Assembled.{can_be_made, ok_then, miter_inputs_below, inputs_differ}
use Rattle.miter_cnf.proofs.making.miter.Goals as goal

pub make_miter-requires : goal.make_miter-requires
make_miter-requires c = can_be_made c.args.graph.now c.args.aig.now c.args.ports.now c.facts.ensures c.requires

pub returns-clause-formula : goal.returns-clause-formula
returns-clause-formula c =
    let sound = c.miters_are_sound.ensures c.args.graph.now c.args.aig.now c.args.ports.now c.requires.0 in
    ok_then (IsMiter c.args.graph.now c.args.aig.now c.args.ports.now) (λ (made : MiterCnf). IsFormula made.cnf) (λ made m. (sound made c.facts.ensures c.requires.1 m).formula) c.make_miter.result c.make_miter.ensures

pub returns-clause-decide : goal.returns-clause-decide
returns-clause-decide c =
    let sound = c.miters_are_sound.ensures c.args.graph.now c.args.aig.now c.args.ports.now c.requires.0 in
    ok_then (IsMiter c.args.graph.now c.args.aig.now c.args.ports.now) (λ (made : MiterCnf). InputsDecide made.cnf made.inputs) (λ made m. (sound made c.facts.ensures c.requires.1 m).decides) c.make_miter.result c.make_miter.ensures

pub returns-clause-vars : goal.returns-clause-vars
returns-clause-vars c =
    ok_then (IsMiter c.args.graph.now c.args.aig.now c.args.ports.now) (λ (made : MiterCnf). All (λ input. input < made.cnf.vars) made.inputs)
    (λ made m. miter_inputs_below c.args.graph.now c.args.aig.now c.args.ports.now made m) c.make_miter.result c.make_miter.ensures

pub returns-clause-once : goal.returns-clause-once
returns-clause-once c =
    ok_then (IsMiter c.args.graph.now c.args.aig.now c.args.ports.now) (λ (made : MiterCnf). AllPairs (λ one other. one ≢ other) made.inputs)
    (λ made m. inputs_differ made.inputs (length c.args.ports.now.inputs) m.inputs) c.make_miter.result c.make_miter.ensures
