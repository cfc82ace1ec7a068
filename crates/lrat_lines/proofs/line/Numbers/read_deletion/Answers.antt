use Rattle.std.proofs.Common.{◌∙◌, List, ap, sym, drop}
use Rattle.std.specs.List.{list_any}
use Rattle.dimacs_text.specs.Parts.{words, is_space}
use Rattle.dimacs_text.specs.declared.number.Signed.{Signed}
use Rattle.lrat_lines.specs.Lines.{list_of}
use Rattle.lrat_lines.proofs.FieldSays.{is_none, deletes, has_broken}
use Rattle.lrat_lines.proofs.line.Numbers.read_deletion.Goals as goal

pub returns-then-has_hyphen : goal.returns-then-has_hyphen
returns-then-has_hyphen c =
    has_broken (list_of (words is_space c.args.at (drop c.args.at c.args.line.now))) c.read_list.new.list.items (words is_space c.in-Some.behind (drop c.in-Some.behind c.args.line.now))
    (rw c.in-Some.is at c.in_ok-behind.ensures.some)
    (rw (is_none c.next_field.result (sym c.is_some.ensures ∙ c.if-is_some.false)) at c.next_field.ensures)
    (ap (λ (ids : List Signed). list_any (λ (id : Signed). id.negative) ids) (sym c.deref.ensures.value) ∙ (sym c.has_hyphen.ensures ∙ c.if-has_hyphen.true))

pub returns : goal.returns
returns c =
    deletes (list_of (words is_space c.args.at (drop c.args.at c.args.line.now))) c.read_list.new.list.items (words is_space c.in-Some.behind (drop c.in-Some.behind c.args.line.now))
    (rw c.in-Some.is at c.in_ok-behind.ensures.some)
    (rw (is_none c.next_field.result (sym c.is_some.ensures ∙ c.if-is_some.false)) at c.next_field.ensures)
    (ap (λ (ids : List Signed). list_any (λ (id : Signed). id.negative) ids) (sym c.deref.ensures.value) ∙ (sym c.has_hyphen.ensures ∙ c.if-has_hyphen.false))
