-- The line that a form and the numbers that were read stand for.
use Rattle.std.specs.Prelude.{List}
use Rattle.dimacs_text.specs.declared.number.Signed.{Signed}
use Rattle.lrat_lines.specs.declared.line.Form.{Form}
use Rattle.lrat_lines.specs.declared.line.Form.TheVariants as form
use Rattle.lrat_lines.specs.Lines.{Line, skipped, broken, addition, deletion}

abbrev pub form_of : Form → List Signed → List Signed → Line
form_of form.Skipped lits hints = skipped
form_of form.Broken lits hints = broken
form_of (form.Addition id) lits hints = addition id lits hints
form_of form.Deletion lits hints = deletion lits
