use Rattle.flat_form.specs.Walking.{AreReaders}
use Rattle.flat_form.proofs.readers.find_readers.Given as goal

abbrev pub invariant-loop-pin : goal.invariant-loop-pin
invariant-loop-pin l = AreReaders l.flat l.pin-index l.readers.items
