use Rattle.std.proofs.Common.{subst, sym}
use Rattle.std.specs.Str.{IsUtf8}
use Rattle.csv.specs.Records.{fields_of}
use Rattle.table_fields.proofs.CheckFacts.{field_is_text, is_ok_from}
use Rattle.table_fields.proofs.records.text_at.Goals as goal

pub unwrap-requires : goal.unwrap-requires
unwrap-requires c =
    let text : IsUtf8 c.field_at.result.now = subst IsUtf8 (sym c.field_at.ensures) (field_is_text (fields_of c.args.row.now) c.args.place c.requires.place c.requires.text) in
    is_ok_from c.from_utf8.result _ _ c.from_utf8.ensures.cases (λ e bad. bad.0 text)
