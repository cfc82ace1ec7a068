use Rattle.std.proofs.Common.{◌∙◌, ◌+◌, ap, sym, drop, get_or, false}
use Rattle.dimacs_text.specs.declared.number.Signed.{Signed}
use Rattle.lrat_table.specs.Found.{Found}
use Rattle.lrat_check.specs.Check.{deleted}
use Rattle.lrat_table.specs.Entries.{found_of}
use Rattle.lrat_check.proofs.CheckSays.{one_deleted, next_number}
use Rattle.lrat_check.proofs.check.Checker.delete.Goals as goal

abbrev zero_number : Signed
zero_number = record { negative = false; size = 0 }

pub loop-id-preserved : goal.loop-id-preserved
loop-id-preserved c = record {
  vars = c.loop-id.invariant.vars;
  marks = c.loop-id.invariant.marks;
  reach = c.loop-id.invariant.reach;
  last = c.remove.ensures.last ∙ c.loop-id.invariant.last;
  refuted = c.loop-id.invariant.refuted;
  rest = c.loop-id.invariant.rest
      ∙ (ap (deleted (found_of c.loop-id.self.table)) (next_number c.args.ids.now c.loop-id.id-index zero_number c.loop-id-test.true)
      ∙ (one_deleted (found_of c.loop-id.self.table) (get_or c.args.ids.now c.loop-id.id-index zero_number) (drop (c.loop-id.id-index + 1) c.args.ids.now) (sym c.remove.ensures.found ∙ c.if-not-remove.false)
      ∙ ap (λ (f : Found). deleted f (drop (c.loop-id.id-index + 1) c.args.ids.now)) (sym c.remove.ensures.without)));
}
