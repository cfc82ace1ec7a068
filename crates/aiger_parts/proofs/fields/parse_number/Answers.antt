use Rattle.std.proofs.Common.{◌∙◌, sym, arith, length}
use Rattle.std.proofs.lemmas.Bool.{eqb-true, eqb-false}
use Rattle.aiger_parts.proofs.Digits.{number_none, number_begins}
use Rattle.aiger_parts.proofs.fields.parse_number.Goals as goal

pub returns-then-is_empty : goal.returns-then-is_empty
returns-then-is_empty c = sym (number_none c.args.field.now (eqb-true (length c.args.field.now) 0 (sym c.is_empty.ensures ∙ c.if-is_empty.true)))

pub loop-byte-init : goal.loop-byte-init
loop-byte-init c =
    let some = eqb-false (length c.args.field.now) 0 (sym c.is_empty.ensures ∙ c.if-is_empty.false) in
    number_begins c.args.field.now (omega arith)
