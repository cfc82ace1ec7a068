use Rattle.dimacs_text.proofs.SpelledTexts.{readings_spelled}
use Rattle.dimacs_text.proofs.laws.readings_are_spelled.Goals as goal

pub returns : goal.returns
returns c = readings_spelled
