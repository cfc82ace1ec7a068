-- That what is written is read back.
use Rattle.std.specs.Prelude.{◌≡◌, Ok}
use Rattle.rsfq_ids.specs.Formula.{IsFormula}
use Rattle.rsfq_ids.specs.declared.circuit.Cnf.{Cnf}
use Rattle.dimacs_text.specs.Text.{dimacs_of}
use Rattle.dimacs_text.specs.Reading.{reading}

-- the text of a formula says the formula
abbrev pub TextsSayFormulas : Type 0
TextsSayFormulas = (cnf : Cnf) → IsFormula cnf → reading (dimacs_of cnf) ≡ Ok cnf
