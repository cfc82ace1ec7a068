use Rattle.std.proofs.Common.{◌∙◌, ap, sym, arith}
use Rattle.std.proofs.lemmas.Result.{err_from_is_err_and}
use Rattle.dimacs_text.specs.Parts.{lines}
use Rattle.std.proofs.Common.{drop, length}
use Rattle.dimacs_text.proofs.WordSays.{line_said, line_fault, head_fault}
use Rattle.dimacs_text.proofs.read.read_clauses.Goals as goal

pub returns-in_err-read_line-clause-err : goal.returns-in_err-read_line-clause-err
returns-in_err-read_line-clause-err c =
    let p = err_from_is_err_and c.from_residual.result c.from_residual.ensures.1 in
    rw (p.1, p.2) (λ apart. head_fault (length c.args.bytes.now) c.args.head (lines c.args.start (drop c.args.start c.args.bytes.now)) _
    (c.more.invariant ∙ line_fault c.args.head.vars c.more.clauses _ c.more.at c.line_end-end.result c.args.bytes.now c.more-test.true c.line_end-end.ensures.end
    (c.in_err-read_line.ensures.err apart)))

pub more-preserved : goal.more-preserved
more-preserved c =
    c.more.invariant ∙ line_said c.args.head.vars c.more.clauses _ c.more.at c.line_end-end.result c.args.bytes.now c.more-test.true c.line_end-end.ensures.end c.in_ok-read_line.ensures.ok
