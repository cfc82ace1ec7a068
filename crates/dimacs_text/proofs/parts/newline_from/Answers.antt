use Rattle.dimacs_text.proofs.PartLemmas.{newline_found, newline_missing, rest_is}
use Rattle.dimacs_text.proofs.parts.newline_from.Goals as goal

pub returns-in-Some-clause-end : goal.returns-in-Some-clause-end
returns-in-Some-clause-end c = newline_found c.args.at c.args.text.now c.in-Some.place (rw (rest_is c.args.text.now c.args.at) at c.in-Some.ensures)

pub returns-in-None-clause-end : goal.returns-in-None-clause-end
returns-in-None-clause-end c = newline_missing c.args.at c.args.text.now c.requires (rw (rest_is c.args.text.now c.args.at) at c.in-None.ensures)
