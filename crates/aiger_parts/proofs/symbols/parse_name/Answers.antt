use Rattle.std.proofs.Common.{◌∙◌, ap, sym, length, Some}
use Rattle.std.proofs.lemmas.Bool.{eqb-true}
use Rattle.aiger_parts.proofs.SymbolLines.{name_empty, name_good, name_bad}
use Rattle.aiger_parts.proofs.symbols.parse_name.Goals as goal

pub returns-then-is_empty : goal.returns-then-is_empty
returns-then-is_empty c = sym (name_empty c.args.bytes.now (eqb-true (length c.args.bytes.now) 0 (sym c.is_empty.ensures ∙ c.if-is_empty.true)))

pub returns-in-Ok : goal.returns-in-Ok
returns-in-Ok c = ap Some c.in-Ok.ensures.cases.0 ∙ sym (name_good c.args.bytes.now (sym c.is_empty.ensures ∙ c.if-is_empty.false) c.in-Ok.ensures.cases.1)

pub returns-in-Err : goal.returns-in-Err
returns-in-Err c = sym (name_bad c.args.bytes.now (sym c.is_empty.ensures ∙ c.if-is_empty.false) c.in-Err.ensures.cases.0)
