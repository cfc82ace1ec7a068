use Rattle.flat_places.proofs.OneCircuit.{limit_passed, two_drivers, undriven_reader}
use Rattle.flat_places.proofs.circuit_laws.refused_have_none.Goals as goal

pub returns-clause-limit : goal.returns-clause-limit
returns-clause-limit c = limit_passed c.args.bound.now

pub returns-clause-two : goal.returns-clause-two
returns-clause-two c = two_drivers c.args.cells.now c.args.bound.now

pub returns-clause-ring : goal.returns-clause-ring
returns-clause-ring c = λ ring named. named.closed

pub returns-clause-undriven : goal.returns-clause-undriven
returns-clause-undriven c = undriven_reader c.args.cells.now c.args.bound.now
