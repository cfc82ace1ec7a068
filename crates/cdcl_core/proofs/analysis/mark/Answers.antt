use Rattle.std.proofs.Common.{◌≡◌, ◌∙◌, ◌<◌, ◌+◌, true, sym, ap, subst, arith, length, take, get_or}
use Rattle.std.specs.Prelude.{◌==◌, ◌||◌}
use Rattle.std.proofs.lemmas.List.{get_or_read}
use Rattle.proof_arena.specs.Step.{is_among}
use Rattle.proof_arena.specs.Table.{falses_of}
use Rattle.cdcl_core.specs.Analysis.{open_in}
use Rattle.cdcl_core.proofs.Members.{more_bool, or_swap, among_at}
use Rattle.cdcl_core.proofs.analysis.mark.Goals as goal

pub loop-lit-preserved : goal.loop-lit-preserved
loop-lit-preserved c =
    let clause = c.args.clause.now in
    let i = c.loop-lit.lit-index in
    let here = c.lit-item.result in
    let was = c.loop-lit.invariant in
    let now = c.mark_one-count.ensures in
    let below : i < length clause = omega arith in
    let at : here ≡ get_or clause i 0 = get_or_read clause i here below c.lit-item.is 0 in
    record {
      table = now.table ∙ was.table;
      marked = λ lit. now.marked lit ∙ (ap (λ b. (lit == here) || b) (was.marked lit) ∙ (or_swap (lit == here) (is_among (take i clause) lit) (falses_of c.args.marks.now lit)
          ∙ ap (λ b. b || falses_of c.args.marks.now lit) (sym (more_bool clause i 0 lit below ∙ ap (λ x. (lit == x) || is_among (take i clause) lit) (sym at)))));
      counted = λ clauses older t agree.
          let old : open_in (falses_of c.loop-lit.marks) c.args.level older ≡ c.loop-lit.count + open_in (falses_of c.args.marks.now) c.args.level older = was.counted clauses older t agree in
          let new : open_in (falses_of c.mark_one-count.new.marks) c.args.level older ≡ c.mark_one-count.result + open_in (falses_of c.loop-lit.marks) c.args.level older =
          now.counted clauses older t (agree here (subst (λ x. is_among clause x ≡ true) (sym at) (among_at clause i 0 below))) in
          omega (arith, old, new);
      few = omega (arith, was.few, now.few);
    }
