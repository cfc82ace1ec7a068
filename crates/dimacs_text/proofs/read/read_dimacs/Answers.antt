use Rattle.std.proofs.Common.{◌≡◌, ◌∙◌, ◌+◌, ap, sym, arith, length, drop, subst, Result, Ok, Err}
use Rattle.std.specs.Prelude.{IfOk, IfErr, ◌≢◌}
use Rattle.rsfq_ids.specs.declared.circuit.Cnf.{Cnf}
use Rattle.dimacs_text.specs.Parts.{lines}
use Rattle.dimacs_text.specs.Reading.{reading, after_head, with_head}
use Rattle.dimacs_text.specs.declared.fault.TextFault.{TextFault}
use Rattle.dimacs_text.specs.declared.fault.TextWhy.TheVariants.{Memory}
use Rattle.dimacs_text.proofs.WordSays.{head_stands, no_head}
use Rattle.dimacs_text.proofs.Formed.{formed}
use Rattle.dimacs_text.proofs.Results.{IfOk-map}
use Rattle.dimacs_text.proofs.SpelledTexts.{answer_spelled, answer_unspelled, refusal_unspelled}
use Rattle.dimacs_text.proofs.read.read_dimacs.Goals as goal

pub returns-in_default-clause-err : goal.returns-in_default-clause-err
returns-in_default-clause-err c apart =
    let apart_too = c.if-at-bytes.false in
    let within = c.comments_end-at.ensures.within in
    head_stands c.args.bytes.now c.comments_end-at.result c.line_end-end.result c.comments_end-at.ensures.first (omega arith) c.line_end-end.ensures.end
    (c.comments_end-at.ensures.other (omega arith))
    ∙ ap (with_head (length c.args.bytes.now) c.comments_end-at.result (lines (c.line_end-end.result + 1) (drop (c.line_end-end.result + 1) c.args.bytes.now)))
    (sym c.read_head.ensures.head ∙ c.in_default.is)

at_head : (c : goal.After-read_clauses) →
    reading c.args.bytes.now ≡ after_head (length c.args.bytes.now) (lines (c.line_end-end.result + 1) (drop (c.line_end-end.result + 1) c.args.bytes.now)) c.in-Some.head
at_head c =
    let apart_too = c.if-at-bytes.false in
    let within = c.comments_end-at.ensures.within in
    head_stands c.args.bytes.now c.comments_end-at.result c.line_end-end.result c.comments_end-at.ensures.first (omega arith) c.line_end-end.ensures.end
    (c.comments_end-at.ensures.other (omega arith))
    ∙ ap (with_head (length c.args.bytes.now) c.comments_end-at.result (lines (c.line_end-end.result + 1) (drop (c.line_end-end.result + 1) c.args.bytes.now)))
    (sym c.read_head.ensures.head ∙ c.in-Some.is)

pub returns-clause-ok : goal.returns-clause-ok
returns-clause-ok c =
    subst (λ (r : Result Cnf TextFault). IfOk c.read_clauses.result (λ cnf. r ≡ Ok cnf)) (sym (at_head c)) c.read_clauses.ensures.ok

pub returns-clause-formula : goal.returns-clause-formula
returns-clause-formula c =
    IfOk-map c.read_clauses.result (λ cnf is. formed (length c.args.bytes.now) c.in-Some.head (lines (c.line_end-end.result + 1) (drop (c.line_end-end.result + 1) c.args.bytes.now))
    cnf c.in-Some.ensures.small.0 c.in-Some.ensures.small.1 is) c.read_clauses.ensures.ok

pub returns-clause-err : goal.returns-clause-err
returns-clause-err c =
    subst (λ (r : Result Cnf TextFault). IfErr c.read_clauses.result (λ fault. fault.why ≢ Memory → r ≡ Err fault)) (sym (at_head c)) c.read_clauses.ensures.err

-- ---- in the words of the format

pub returns-clause-spelled : goal.returns-clause-spelled
returns-clause-spelled c = answer_spelled c.args.bytes.now c.read_clauses.result (returns-clause-ok c)

pub returns-clause-unspelled : goal.returns-clause-unspelled
returns-clause-unspelled c = answer_unspelled c.args.bytes.now c.read_clauses.result (returns-clause-err c)

pub returns-in_default-clause-unspelled : goal.returns-in_default-clause-unspelled
returns-in_default-clause-unspelled c = λ other. refusal_unspelled c.args.bytes.now _ (returns-in_default-clause-err c other)

pub returns-then-at-bytes-clause-unspelled : goal.returns-then-at-bytes-clause-unspelled
returns-then-at-bytes-clause-unspelled c = λ other.
    refusal_unspelled c.args.bytes.now _ (no_head c.args.bytes.now c.comments_end-at.result c.comments_end-at.ensures.first c.if-at-bytes.true)
