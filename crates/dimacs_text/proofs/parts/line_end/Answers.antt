use Rattle.dimacs_text.proofs.WordSays.{one_line}
use Rattle.dimacs_text.proofs.parts.line_end.Goals as goal

pub returns-clause-line : goal.returns-clause-line
returns-clause-line c lt = one_line c.args.at c.newline_from.result c.args.text.now lt c.newline_from.ensures.end
