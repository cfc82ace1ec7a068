use Rattle.dimacs_text.proofs.SpelledTexts.{spell_one}
use Rattle.dimacs_text.proofs.laws.one_formula_is_spelled.Goals as goal

pub returns : goal.returns
returns c = spell_one
