use Rattle.cell_table.proofs.PinLists.{no_pins, pins_are}
use Rattle.cell_table.proofs.pins.are_pins.Goals as goal

pub returns-then-are_plain : goal.returns-then-are_plain
returns-then-are_plain c = pins_are c.args.names.now c.are_plain.result c.are_distinct.result c.are_plain.ensures c.if-are_plain.true c.are_distinct.ensures

pub returns-else-are_plain : goal.returns-else-are_plain
returns-else-are_plain c = no_pins c.args.names.now c.are_plain.result c.are_plain.ensures c.if-are_plain.false
