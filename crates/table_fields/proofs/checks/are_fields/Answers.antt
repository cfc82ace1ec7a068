use Rattle.csv.specs.Records.{fields_of}
use Rattle.table_fields.proofs.CheckFacts.{field_more, field_other}
use Rattle.table_fields.proofs.checks.are_fields.Goals as goal

pub returns-then-not-is_same : goal.returns-then-not-is_same
returns-then-not-is_same c =
    field_other (fields_of c.args.fields.now) c.args.wanted.now c.loop-place.place c.field_at.result.now c.as_bytes.result.now c.loop-place-test.true
    c.field_at.ensures c.as_bytes.ensures.value c.if-not-is_same.ensures

pub loop-place-preserved : goal.loop-place-preserved
loop-place-preserved c =
    field_more (fields_of c.args.fields.now) c.args.wanted.now c.loop-place.place c.field_at.result.now c.as_bytes.result.now c.loop-place-test.true
    c.field_at.ensures c.as_bytes.ensures.value c.if-not-is_same.ensures c.loop-place.invariant
