use Rattle.std.proofs.Common.{◌≡◌, ◌≤◌, [], length, sym, subst, arith}
use Rattle.std.proofs.lemmas.Option.{get_or_from_slice_get}
use Rattle.proof_arena.specs.Log.{clauses_of}
use Rattle.proof_arena.specs.Table.{falses_of}
use Rattle.cdcl_core.specs.Trail.{clause_at, IsTrail}
use Rattle.cdcl_core.specs.Analysis.{open_in}
use Rattle.cdcl_core.proofs.Few.{plain_few}
use Rattle.cdcl_core.proofs.Trails.{plain_trail}
use Rattle.cdcl_core.proofs.Marking.{count_few}
use Rattle.cdcl_core.proofs.Queueing.{more_queued}
use Rattle.cdcl_core.proofs.Analysing.{resolved_by}
use Rattle.cdcl_core.proofs.analysis.Analysis.resolve.Goals as goal

pub overflow_add-self : goal.overflow_add-self
overflow_add-self c =
    let n = c.requires.next in
    let clauses = clauses_of c.args.log.now in
    let is : clause_at clauses c.args.reason ≡ c.clause-clause.result.now = get_or_from_slice_get clauses c.args.reason c.clause-clause.result.now [] c.clause-clause.ensures.clause in
    let r = resolved_by _ clauses c.args.trail.now.trail c.args.entry n.0 c.args.level c.args.reason (falses_of c.args.self.now.marks) (falses_of c.mark-opened.new.marks) c.clause-clause.result.now c.args.self.now.open c.one_of.result c.mark-opened.result c.args.self.now.learnt.items c.args.self.now.hints.items
    c.requires.known n.1.0 c.requires.reason is c.requires.marked c.mark-opened.ensures.marked (λ cs ts t h. c.mark-opened.ensures.counted cs ts (subst (λ v. IsTrail v cs ts) (sym c.requires.vars) t) h) c.one_of.ensures.same c.one_of.ensures.differ c.requires.why n.1.1 in
    let few : open_in (falses_of c.mark-opened.new.marks) c.args.level n.0 ≤ length n.0 = count_few (falses_of c.mark-opened.new.marks) c.args.level n.0 in
    let fit : length n.0 ≤ c.args.log.now.vars = plain_few _ _ (plain_trail _ _ _ n.1.0.tail.1) in
    let vars = c.vars-vars.ensures in
    let total = r.1.0 in
    omega arith

pub returns-clause-resolved : goal.returns-clause-resolved
returns-clause-resolved c = λ older next a.
    let clauses = clauses_of c.args.log.now in
    let is : clause_at clauses c.args.reason ≡ c.clause-clause.result.now = get_or_from_slice_get clauses c.args.reason c.clause-clause.result.now [] c.clause-clause.ensures.clause in
    rw c.in_ok-push.ensures.items (resolved_by _ clauses c.args.trail.now.trail c.args.entry older c.args.level c.args.reason (falses_of c.args.self.now.marks) (falses_of c.mark-opened.new.marks) c.clause-clause.result.now c.args.self.now.open c.one_of.result c.mark-opened.result c.args.self.now.learnt.items c.args.self.now.hints.items
    c.requires.known next c.requires.reason is c.requires.marked c.mark-opened.ensures.marked (λ cs ts t h. c.mark-opened.ensures.counted cs ts (subst (λ v. IsTrail v cs ts) (sym c.requires.vars) t) h) c.one_of.ensures.same c.one_of.ensures.differ c.requires.why a).1.1

pub returns-clause-queued : goal.returns-clause-queued
returns-clause-queued c = λ place l queued.
    more_queued c.args.trail.now.trail c.clause-clause.result.now (falses_of c.args.self.now.marks) (falses_of c.mark-opened.new.marks) place c.args.self.now.queue c.add.new.self l
    c.mark-opened.ensures.marked c.add.ensures.kept c.in_ok-add.ensures.added queued
