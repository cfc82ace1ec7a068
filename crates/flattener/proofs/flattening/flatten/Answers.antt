use Rattle.flattener.proofs.Excluding.{none_refused}
use Rattle.flattener.proofs.Agreeing.{refusals_agree, unrefused}
use Rattle.flattener.proofs.flattening.flatten.Goals as goal

pub returns-clause-none : goal.returns-clause-none
returns-clause-none c =
    let laws = c.refused_have_none.ensures in
    none_refused c.args.cells.now c.args.bound.now (record { limits = laws.limit; two = laws.two; rings = laws.ring; undriven = laws.undriven }) c.find_circuit.result c.find_circuit.ensures.err

pub returns-clause-agree : goal.returns-clause-agree
returns-clause-agree c =
    let laws = c.refused_have_none.ensures in
    refusals_agree c.args.cells.now c.args.bound.now (record { limits = laws.limit; two = laws.two; rings = laws.ring; undriven = laws.undriven }) c.find_circuit.result c.find_circuit.ensures.err

pub returns-clause-unrefused : goal.returns-clause-unrefused
returns-clause-unrefused c =
    let laws = c.refused_have_none.ensures in
    unrefused c.args.cells.now c.args.bound.now (record { limits = laws.limit; two = laws.two; rings = laws.ring; undriven = laws.undriven }) c.find_circuit.result c.find_circuit.ensures.circuit
    c.find_circuit.ensures.sound
