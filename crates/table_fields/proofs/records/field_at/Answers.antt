use Rattle.std.proofs.Common.{◌≡◌, ◌∙◌, ap, sym, [], Some}
use Rattle.std.specs.Prelude.{option_map}
use Rattle.std.proofs.lemmas.Option.{slice_get-get_or}
use Rattle.csv.specs.Records.{fields_of}
use Rattle.table_fields.specs.Records.{field}
use Rattle.table_fields.proofs.FieldList.{field_at-slice_get, is_field}
use Rattle.table_fields.proofs.records.field_at.Goals as goal

pub unwrap-requires : goal.unwrap-requires
unwrap-requires c = is_field (fields_of c.args.row.now) c.args.place c.get.result c.requires c.get.ensures.value

pub returns : goal.returns
returns c =
    let both : Some c.unwrap.result.now ≡ Some (field (fields_of c.args.row.now) c.args.place) =
    ap (option_map (λ s. s.now)) (sym c.unwrap.ensures) ∙ c.get.ensures.value ∙ field_at-slice_get (fields_of c.args.row.now) c.args.place
    ∙ slice_get-get_or (fields_of c.args.row.now) c.args.place [] c.requires in
    cc
