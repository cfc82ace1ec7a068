use Rattle.dimacs_text.proofs.ReadBack.{formula_read}
use Rattle.dimacs_text.proofs.laws.texts_say_formulas.Goals as goal

pub returns : goal.returns
returns c = formula_read
