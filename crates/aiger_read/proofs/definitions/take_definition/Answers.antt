use Rattle.std.proofs.Common.{◌≡◌, ◌*◌, ◌/◌, ◌∙◌, length, refl, sym, ap, arith, false}
use Rattle.std.proofs.lemmas.Option.{slice_get_read}
use Rattle.aiger_read.specs.Lines.{is_in}
use Rattle.aiger_read.proofs.Marks.{not_out, definition_ok}
use Rattle.aiger_read.proofs.definitions.take_definition.Goals as goal

pub returns-clause-is : goal.returns-clause-is
returns-clause-is c =
    let literal = c.in_ok-literal.literal in
    let defined = c.args.definitions.now.literals in
    let marks = c.args.definitions.now.marks.items in
    let size = c.requires.marks.size in
    let le = c.if-literal-top.false in
    let low = c.if-literal-lt2.false in
    let even = c.if-literal-eq1.false in
    let at = slice_get_read marks (length marks) (literal / 2) c.index.result.now refl (omega arith) c.index.ensures in
    let mark = c.requires.marks.each (literal / 2) c.index.result.now at in
    let whole : 2 * (literal / 2) ≡ literal = omega arith in
    let new : is_in defined literal ≡ false = ap (is_in defined) (sym whole) ∙ (sym mark ∙ c.if-index.false) in
    definition_ok c.args.top literal defined c.args.bytes.now c.in_ok-literal.rest.now c.in_ok-literal.ensures.is (not_out c.args.top literal (omega arith) even (omega arith)) new
