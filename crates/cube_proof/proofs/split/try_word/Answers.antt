use Rattle.std.proofs.Common.{◌∙◌, ◌<◌, ◌-◌, ◌^◌, ◌++◌, List, sym, ap, subst, arith}
use Rattle.std.specs.List.{All}
use Rattle.rsfq_ids.specs.Formula.{Clause}
use Rattle.proof_arena.specs.Step.{StepHolds, ends_in_conflict, is_among}
use Rattle.proof_arena.specs.Log.{clauses_of, lits_of}
use Rattle.proof_arena.specs.Table.{falses_of}
use Rattle.cube_proof.proofs.Words.{word_over, word_apart}
use Rattle.cube_proof.proofs.Leaves.{leaf_found}
use Rattle.cube_proof.proofs.Splits.{word_step}
use Rattle.cube_proof.proofs.split.try_word.Goals as goal

pub propagate-requires-clause-over : goal.propagate-requires-clause-over
propagate-requires-clause-over c = word_over c.args.table.now.cnf.now.vars c.args.table.now.inputs.now c.args.word.now c.requires.table.inputs.vars c.requires.word

pub propagate-requires-clause-apart : goal.propagate-requires-clause-apart
propagate-requires-clause-apart c = word_apart c.args.table.now.inputs.now c.args.word.now c.requires.table.inputs.once c.requires.word

pub returns-clause-found : goal.returns-clause-found
returns-clause-found c =
    leaf_found c.args.table.now.cnf.now c.args.table.now.inputs.now c.args.word.now (falses_of c.propagate.new.self.marks) c.in_ok-values.values c.requires.table.inputs c.requires.word
    (c.in_ok-propagate.ensures.closed c.if-branch.false) (record { many = c.in_ok-values.ensures.many; each = c.in_ok-values.ensures.values })

pub add-requires : goal.add-requires
add-requires c =
    let cnf = c.args.table.now.cnf.now in
    let log = c.args.log.now in
    let word = c.args.word.now in
    let refuted = c.in_ok-propagate.ensures.refuted c.if-branch.true in
    let over = word_over cnf.vars c.args.table.now.inputs.now word c.requires.table.inputs.vars c.requires.word in
    let apart = word_apart c.args.table.now.inputs.now word c.requires.table.inputs.once c.requires.word in
    let ends = ap (ends_in_conflict cnf.clauses (is_among word)) c.as_slice.ensures.value ∙ refuted.hints.ends in
    let step = word_step cnf.vars cnf.clauses (lits_of log.steps) word c.as_slice.result.now over apart ends in
    let room = c.requires.room.room in
    record {
      holds = subst (λ vars. StepHolds vars (clauses_of log) word c.as_slice.result.now) (sym c.requires.room.vars)
          (subst (λ (given : List Clause). StepHolds cnf.vars (given ++ lits_of log.steps) word c.as_slice.result.now) (sym c.requires.room.given) step);
      printed = subst (All (λ hint. hint < 2 ^ 32 - 1)) (sym c.as_slice.ensures.value) (λ k d lt. let within = refuted.hints.within k d lt in let few = c.requires.table.inputs.formula.count in omega (arith, within, few));
      room = omega (arith, room);
    }
