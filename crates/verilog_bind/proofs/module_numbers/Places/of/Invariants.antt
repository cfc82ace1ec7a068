use Rattle.verilog_bind.specs.Places.{HasPlacesTo}
use Rattle.verilog_bind.proofs.module_numbers.Places.of.Given as goal

abbrev pub invariant-loop-at : goal.invariant-loop-at
invariant-loop-at l = HasPlacesTo l.reached l.at l.all.places.items l.all.numbers.items
