use Rattle.std.proofs.Common.{◌∙◌, ap, sym, arith}
use Rattle.std.proofs.lemmas.Result.{err_from_is_err_and}
use Rattle.dimacs_text.proofs.WordSays.{word_said, word_fault, blank_said}
use Rattle.dimacs_text.proofs.clauses.Clauses.read_words.Goals as goal
use Rattle.dimacs_text.proofs.clauses.Clauses.read_words.Goals.{then-at-end+in_ok-read_word, else-at-end}

pub returns-in_err-read_word-clause-err : goal.returns-in_err-read_word-clause-err
returns-in_err-read_word-clause-err c =
    let p = err_from_is_err_and c.from_residual.result c.from_residual.ensures.1 in
    rw (p.1, p.2) (λ apart. c.more.invariant.rest
    ∙ word_fault c.args.vars c.more.self _ c.args.start c.more.at c.word_end-end.result c.args.line.now c.more-test.true c.word_end-end.ensures.end c.if-at-end.true
    (c.in_err-read_word.ensures.err apart))

pub more-preserved : goal.more-preserved
more-preserved c = record {
  within = omega arith;
  rest = c.more.invariant.rest ∙ elim c.if-at-end.branch [
    | then-at-end+in_ok-read_word w ↦ rw w.self-is
        (word_said c.args.vars c.more.self _ c.args.start c.more.at c.word_end-end.result c.args.line.now c.more-test.true c.word_end-end.ensures.end w.if-at-end.true w.in_ok-read_word.ensures.ok)
    | else-at-end w ↦ rw w.self-is
        (blank_said c.args.vars c.more.self c.args.start c.more.at c.word_end-end.result c.args.line.now c.more-test.true c.word_end-end.ensures.end w.if-at-end.false)
  ];
}
