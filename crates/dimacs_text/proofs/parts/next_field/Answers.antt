use Rattle.std.proofs.Common.{◌∙◌, ap, arith}
use Rattle.dimacs_text.proofs.FieldLemmas.{field_here, no_field_here, no_field_past}
use Rattle.dimacs_text.proofs.parts.next_field.Goals as goal

pub returns-then-start-end : goal.returns-then-start-end
returns-then-start-end c = record {
  first = c.more.invariant.rest ∙ field_here c.more.start c.field_end-end.result c.args.text.now c.more-test.true c.field_end-end.ensures.end c.if-start-end.true;
  from = c.more.invariant.low;
  some = c.if-start-end.true;
  within = c.field_end-end.ensures.within;
}

pub more-preserved : goal.more-preserved
more-preserved c = record {
  low = omega arith;
  rest = c.more.invariant.rest ∙ no_field_here c.more.start c.field_end-end.result c.args.text.now c.more-test.true c.field_end-end.ensures.end c.if-start-end.false;
}

pub returns : goal.returns
returns c = c.more.invariant.rest ∙ no_field_past c.more.start c.args.text.now c.more-test.false
