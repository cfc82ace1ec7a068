use Rattle.bind_laws.proofs.Printed.{port_bits_are_distinct}
use Rattle.bind_laws.proofs.laws.port_bits_are_distinct.Goals as goal

pub returns : goal.returns
returns c = port_bits_are_distinct c.numbers_are_small.ensures
