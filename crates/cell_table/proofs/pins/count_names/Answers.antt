use Rattle.std.proofs.Common.{◌∙◌, ◌+◌, ◌==◌, ap, sym}
use Rattle.std.specs.Prelude.{count_by}
use Rattle.std.proofs.lemmas.List.Splits.{length-slice_split}
use Rattle.cell_table.proofs.pins.count_names.Goals as goal

pub returns : goal.returns
returns c =
    ap (λ n. n + 1) (c.count_spaces.ensures ∙ ap (count_by (λ byte. byte == 32)) c.as_bytes.ensures.value)
    ∙ sym (length-slice_split (λ byte. byte == 32) c.args.text.now)
