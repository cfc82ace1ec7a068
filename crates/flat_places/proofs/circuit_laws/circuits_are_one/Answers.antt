use Rattle.flat_places.proofs.OneCircuit.{one_circuit}
use Rattle.flat_places.proofs.circuit_laws.circuits_are_one.Goals as goal

pub returns : goal.returns
returns c = one_circuit c.args.cells.now c.args.bound.now c.requires
