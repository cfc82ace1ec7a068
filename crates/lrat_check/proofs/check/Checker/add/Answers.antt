use Rattle.std.proofs.Common.{◌≡◌, ◌∙◌, Bool, ℕ, ap, sym, refl, arith, length, Ok}
use Rattle.std.proofs.lemmas.Result.{err_from_is_err_and}
use Rattle.proof_arena.specs.Table.{Marked, falses_of}
use Rattle.lrat_table.specs.Found.{with_clause}
use Rattle.lrat_check.specs.Check.{clause_of, hints_fault, unless_why, added, Known}
use Rattle.lrat_table.specs.Entries.{found_of, last_of}
use Rattle.lrat_check.specs.Tables.{known_of}
use Rattle.lrat_check.proofs.NearTables.{still_near, grown_near}
use Rattle.lrat_check.proofs.CheckSays.{is_tautologous, is_judged, denied, told, added_as, none_of}
use Rattle.lrat_check.proofs.check.Checker.add.Goals as goal
use Rattle.lrat_check.proofs.check.Checker.add.Goals.{then-self, else-self}

pub returns-then-has_true-clause-err : goal.returns-then-has_true-clause-err
returns-then-has_true-clause-err c apart =
    let lits = clause_of c.args.lits.now in
    let first : c.deref-2.result.now ≡ lits = c.deref-2.ensures.value ∙ c.in_ok-read_clause.ensures.ok.1 in
    let second : c.deref-3.result.now ≡ lits = c.deref-3.ensures.value ∙ c.in_ok-read_clause.ensures.ok.1 in
    let falses = denied lits c.deref-2.result.now (falses_of c.deny_any.new.self) (falses_of c.clear_for.new.self) first c.in_ok-deny_any.ensures.falses c.in_ok-clear_for.ensures.falses in
    let taut = told lits c.deref-3.result.now (falses_of c.deny_any.new.self) c.has_true.result second falses c.has_true.ensures in
    ap (λ f. unless_why f (added (known_of c.args.self.now) c.args.id lits))
    (is_tautologous c.args.self.now.vars (known_of c.args.self.now) c.args.id c.args.lits.now c.args.hints.now (omega arith) c.in_ok-read_clause.ensures.ok.0 (taut ∙ c.if-has_true.true))

pub returns-in_err-find_conflict-clause-err : goal.returns-in_err-find_conflict-clause-err
returns-in_err-find_conflict-clause-err c =
    let lits = clause_of c.args.lits.now in
    let first : c.deref-2.result.now ≡ lits = c.deref-2.ensures.value ∙ c.in_ok-read_clause.ensures.ok.1 in
    let second : c.deref-3.result.now ≡ lits = c.deref-3.ensures.value ∙ c.in_ok-read_clause.ensures.ok.1 in
    let falses = denied lits c.deref-2.result.now (falses_of c.deny_any.new.self) (falses_of c.clear_for.new.self) first c.in_ok-deny_any.ensures.falses c.in_ok-clear_for.ensures.falses in
    let taut = told lits c.deref-3.result.now (falses_of c.deny_any.new.self) c.has_true.result second falses c.has_true.ensures in
    let p = err_from_is_err_and c.from_residual-in_err-find_conflict.result c.from_residual-in_err-find_conflict.ensures.1 in
    rw (p.1, p.2) (λ apart.
    ap (λ f. unless_why f (added (known_of c.args.self.now) c.args.id lits))
    (is_judged c.args.self.now.vars (known_of c.args.self.now) c.args.id c.args.lits.now c.args.hints.now (omega arith) c.in_ok-read_clause.ensures.ok.0 (taut ∙ c.if-has_true.false)
    ∙ ap (λ (f : ℕ → Bool). hints_fault (found_of c.args.self.now.table) f c.args.hints.now) (sym falses)
    ∙ c.in_err-find_conflict.ensures.err apart))

pub returns-clause-ok : goal.returns-clause-ok
returns-clause-ok c =
    let lits = clause_of c.args.lits.now in
    let first : c.deref-2.result.now ≡ lits = c.deref-2.ensures.value ∙ c.in_ok-read_clause.ensures.ok.1 in
    let second : c.deref-3.result.now ≡ lits = c.deref-3.ensures.value ∙ c.in_ok-read_clause.ensures.ok.1 in
    let third : c.deref-4.result.now ≡ lits = c.deref-4.ensures.value ∙ c.in_ok-read_clause.ensures.ok.1 in
    let falses = denied lits c.deref-2.result.now (falses_of c.deny_any.new.self) (falses_of c.clear_for.new.self) first c.in_ok-deny_any.ensures.falses c.in_ok-clear_for.ensures.falses in
    let taut = told lits c.deref-3.result.now (falses_of c.deny_any.new.self) c.has_true.result second falses c.has_true.ensures in
    ap (λ f. unless_why f (added (known_of c.args.self.now) c.args.id lits))
    (is_judged c.args.self.now.vars (known_of c.args.self.now) c.args.id c.args.lits.now c.args.hints.now (omega arith) c.in_ok-read_clause.ensures.ok.0 (taut ∙ c.if-has_true.false)
    ∙ ap (λ (f : ℕ → Bool). hints_fault (found_of c.args.self.now.table) f c.args.hints.now) (sym falses)
    ∙ c.in_ok-find_conflict.ensures.ok)
    ∙ ap (λ (k : Known). Ok k) (added_as (known_of c.args.self.now) (found_of c.add.new.self) c.args.id (last_of 0 c.add.new.self) lits c.if-self.self (c.in_ok-add.ensures.found ∙ ap (with_clause (found_of c.args.self.now.table) c.args.id) (c.in-Ok.ensures ∙ third)) c.in_ok-add.ensures.last
    (elim c.if-self.branch [
      | then-self w ↦ w.self-is ∙ sym (rw w.if-self.true refl)
      | else-self w ↦ w.self-is ∙ (w.is_empty-self.ensures ∙ (none_of c.args.lits.now ∙ sym (rw w.if-self.false refl)))
    ]))

pub returns-in_err-clear_for-clause-near : goal.returns-in_err-clear_for-clause-near
returns-in_err-clear_for-clause-near c = still_near _ _ _ _ _ _ _ c.requires.near c.meet.ensures.more c.meet.ensures.vars (ap (λ (m : Marked). length m.table) c.in_err-clear_for.ensures.kept)

pub returns-in_err-deny_any-clause-near : goal.returns-in_err-deny_any-clause-near
returns-in_err-deny_any-clause-near c =
    grown_near _ _ _ _ _ _ _ _ c.requires.near c.meet.ensures.more c.meet.ensures.vars c.near.ensures (c.in_err-deny_any.ensures.size ∙ c.in_ok-clear_for.ensures.size)

pub returns-then-has_true-clause-near : goal.returns-then-has_true-clause-near
returns-then-has_true-clause-near c =
    grown_near _ _ _ _ _ _ _ _ c.requires.near c.meet.ensures.more c.meet.ensures.vars c.near.ensures (c.in_ok-deny_any.ensures.size ∙ c.in_ok-clear_for.ensures.size)

pub returns-in_err-find_conflict-clause-near : goal.returns-in_err-find_conflict-clause-near
returns-in_err-find_conflict-clause-near c =
    grown_near _ _ _ _ _ _ _ _ c.requires.near c.meet.ensures.more c.meet.ensures.vars c.near.ensures (c.find_conflict.ensures.size ∙ (c.in_ok-deny_any.ensures.size ∙ c.in_ok-clear_for.ensures.size))

pub returns-in_default-clause-near : goal.returns-in_default-clause-near
returns-in_default-clause-near c =
    grown_near _ _ _ _ _ _ _ _ c.requires.near c.meet.ensures.more c.meet.ensures.vars c.near.ensures (c.find_conflict.ensures.size ∙ (c.in_ok-deny_any.ensures.size ∙ c.in_ok-clear_for.ensures.size))

pub returns-in_err-add-clause-near : goal.returns-in_err-add-clause-near
returns-in_err-add-clause-near c =
    grown_near _ _ _ _ _ _ _ _ c.requires.near c.meet.ensures.more c.meet.ensures.vars c.near.ensures (c.find_conflict.ensures.size ∙ (c.in_ok-deny_any.ensures.size ∙ c.in_ok-clear_for.ensures.size))

pub returns-clause-near : goal.returns-clause-near
returns-clause-near c =
    grown_near _ _ _ _ _ _ _ _ c.requires.near c.meet.ensures.more c.meet.ensures.vars c.near.ensures (c.find_conflict.ensures.size ∙ (c.in_ok-deny_any.ensures.size ∙ c.in_ok-clear_for.ensures.size))
