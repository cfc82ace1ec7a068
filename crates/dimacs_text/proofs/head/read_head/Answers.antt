use Rattle.std.proofs.Common.{◌∙◌, ap, sym}
use Rattle.dimacs_text.specs.Reading.{sizes_of}
use Rattle.dimacs_text.proofs.HeadSays.{is_head, is_no_head}
use Rattle.dimacs_text.proofs.head.read_head.Goals as goal

pub returns-in-Some-clause-head : goal.returns-in-Some-clause-head
returns-in-Some-clause-head c =
    c.read_sizes.ensures.head ∙ ap sizes_of c.in-Some.ensures.cases.1 ∙ sym (is_head c.args.line.now c.in-Some.ensures.cases.0)

pub returns-in-None-clause-head : goal.returns-in-None-clause-head
returns-in-None-clause-head c = sym (is_no_head c.args.line.now c.in-None.ensures.cases)
