use Rattle.std.proofs.Common.{◌∙◌, ap, sym, arith}
use Rattle.dimacs_text.proofs.WordSays.{comment_passed, last_passed}
use Rattle.dimacs_text.proofs.read.comments_end.Goals as goal

pub more-preserved-then-at-bytes : goal.more-preserved-then-at-bytes
more-preserved-then-at-bytes c = record {
  within = omega arith;
  rest = c.more.invariant.rest ∙ comment_passed c.more.at c.line_end-at.result c.args.bytes.now c.more-test.true c.line_end-at.ensures.end c.if-bytes-at-eq99.true;
}

pub more-preserved : goal.more-preserved
more-preserved c = record {
  within = omega arith;
  rest = c.more.invariant.rest ∙ last_passed c.more.at c.line_end-at.result c.args.bytes.now c.more-test.true c.line_end-at.ensures.end c.if-bytes-at-eq99.true c.if-at-bytes.false;
}
