use Rattle.std.proofs.Common.{rules}
use Rattle.offence_check.proofs.Sorted.{few_pins}
use Rattle.offence_check.proofs.holds.Goals as goal

pub is_loop-requires-clause-order : goal.is_loop-requires-clause-order
is_loop-requires-clause-order c = (c.circuits_are_wired.ensures c.args.cells.now c.args.graph_of.now c.requires.set_up.flat_fits).in_order

pub is_loop-requires-clause-few : goal.is_loop-requires-clause-few
is_loop-requires-clause-few c = few_pins c.args.cells.now c.args.graph_of.now c.requires.set_up.table_fits (c.circuits_are_wired.ensures c.args.cells.now c.args.graph_of.now c.requires.set_up.flat_fits)

pub returns-in-Fanout : goal.returns-in-Fanout
returns-in-Fanout c = let law = c.is_fanout.ensures c.args.cells.now c.args.bench.now in search rules
