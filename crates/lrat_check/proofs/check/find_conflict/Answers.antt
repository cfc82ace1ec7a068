use Rattle.std.proofs.Common.{◌∙◌, ◌+◌, ℕ, Bool, ap, sym, drop, get_or, length, false}
use Rattle.proof_arena.specs.Step.{makes_false}
use Rattle.proof_arena.specs.Table.{Marked, falses_of}
use Rattle.dimacs_text.specs.declared.number.Signed.{Signed}
use Rattle.lrat_check.specs.Check.{hints_fault, at_reading}
use Rattle.lrat_table.specs.Entries.{found_of}
use Rattle.lrat_check.proofs.CheckSays.{hint_read, next_number}
use Rattle.lrat_check.proofs.check.find_conflict.Goals as goal
use Rattle.lrat_check.proofs.check.find_conflict.Goals.{in-Passed, in-Unit+in_ok-make_any_false-in-Unit}

abbrev zero_number : Signed
zero_number = record { negative = false; size = 0 }

pub returns-in-Conflict-clause-ok : goal.returns-in-Conflict-clause-ok
returns-in-Conflict-clause-ok c =
    let hint = get_or c.args.hints.now c.loop-hint.hint-index zero_number in
    let rest = drop (c.loop-hint.hint-index + 1) c.args.hints.now in
    let found = found_of c.args.table.now in
    let falses = falses_of c.loop-hint.marks in
    c.loop-hint.invariant.rest
    ∙ (ap (hints_fault found falses) (next_number c.args.hints.now c.loop-hint.hint-index zero_number c.loop-hint-test.true)
    ∙ (hint_read found falses hint rest c.in-Some.clause.now c.if-hint.false c.in-Some.ensures
    ∙ ap (at_reading hint.size falses (λ next. hints_fault found next rest)) (sym c.in-Conflict.ensures)))

pub loop-hint-preserved : goal.loop-hint-preserved
loop-hint-preserved c =
    let hint = get_or c.args.hints.now c.loop-hint.hint-index zero_number in
    let rest = drop (c.loop-hint.hint-index + 1) c.args.hints.now in
    let found = found_of c.args.table.now in
    let falses = falses_of c.loop-hint.marks in
    record {
      size = elim c.match-read.branch [
        | in-Passed w ↦ ap (λ (m : Marked). length m.table) w.marks-is ∙ c.loop-hint.invariant.size
        | in-Unit+in_ok-make_any_false-in-Unit w ↦ ap (λ (m : Marked). length m.table) w.marks-is ∙ (w.in_ok-make_any_false-in-Unit.ensures.size ∙ c.loop-hint.invariant.size)
      ];
      rest = c.loop-hint.invariant.rest
          ∙ (ap (hints_fault found falses) (next_number c.args.hints.now c.loop-hint.hint-index zero_number c.loop-hint-test.true)
          ∙ (hint_read found falses hint rest c.in-Some.clause.now c.if-hint.false c.in-Some.ensures
          ∙ elim c.match-read.branch [
            | in-Passed w ↦ ap (at_reading hint.size falses (λ next. hints_fault found next rest)) (sym w.in-Passed.ensures)
                ∙ ap (λ m. hints_fault found (falses_of m) rest) (sym w.marks-is)
            | in-Unit+in_ok-make_any_false-in-Unit w ↦ ap (at_reading hint.size falses (λ next. hints_fault found next rest)) (sym w.in-Unit.ensures)
                ∙ (ap (λ (f : ℕ → Bool). hints_fault found f rest) (ap (makes_false falses) (sym w.opposite.ensures) ∙ sym w.in_ok-make_any_false-in-Unit.ensures.falses)
                ∙ ap (λ m. hints_fault found (falses_of m) rest) (sym w.marks-is))
          ]));
    }
