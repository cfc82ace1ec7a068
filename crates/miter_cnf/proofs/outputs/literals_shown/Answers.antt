use Rattle.std.proofs.Common.{◌≡◌, ◌∙◌, ◌*◌, get_or, ap, sym, subst, arith}
use Rattle.net_graph.specs.Graph.{IsOutputBit}
use Rattle.rsfq_ids.specs.declared.circuit.Reader.TheVariants as reader
use Rattle.std.proofs.lemmas.Option.{slice_get_within}
use Rattle.miter_cnf.specs.Variables.{variable_at}
use Rattle.miter_cnf.proofs.Groups.{shown_more, shown_all}
use Rattle.miter_cnf.proofs.outputs.literals_shown.Goals as goal

pub bounds-variables-index : goal.bounds-variables-index
bounds-variables-index c =
    let graph = c.args.graph.now in
    let driven = c.facts.ensures.numbered.has_driver (reader.Port c.port-item.result) c.net_shown-net.result c.net_shown-net.ensures in
    let within = slice_get_within graph.flat.nets c.net_shown-net.result driven.0 driven.1 in
    let many = c.requires.nets in
    let number = c.index.ensures.number in
    omega (arith, within, many, number)

pub loop-port-preserved : goal.loop-port-preserved
loop-port-preserved c =
    let literal : c.of.result ≡ 2 * variable_at c.args.variables.now c.net_shown-net.result = c.of.ensures ∙ ap (λ k. 2 * get_or c.args.variables.now k 0) c.index.ensures.number in
    shown_more c.args.graph.now.flat c.args.variables.now c.args.outputs.now c.loop-port.port-index c.port-item.result c.net_shown-net.result c.of.result c.loop-port.invariant.0 c.loop-port.literals.items c.push.new.self.items
    c.loop-port-test.true c.port-item.is c.loop-port.invariant.1 c.net_shown-net.ensures literal c.loop-port.invariant.2 c.in_ok-push.ensures.items

pub returns : goal.returns
returns c =
    shown_all c.args.graph.now.flat c.args.variables.now c.args.outputs.now c.loop-port.port-index c.loop-port.invariant.0 c.loop-port.literals.items c.loop-port-test.false c.loop-port.invariant.1 c.loop-port.invariant.2

pub net_shown-net-requires : goal.net_shown-net-requires
net_shown-net-requires c = subst (IsOutputBit c.args.graph.now.flat) (sym c.port-item.is) (c.requires.outputs c.loop-port.port-index c.port-item.result c.loop-port-test.true)
