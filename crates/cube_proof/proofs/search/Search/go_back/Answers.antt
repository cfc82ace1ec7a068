use Rattle.std.proofs.Common.{◌∙◌, List, sym, ap, subst}
use Rattle.std.specs.declared.vec.Vec.{Vec}
use Rattle.std.specs.declared.alloc.Global.{Global}
use Rattle.proof_arena.specs.Table.{falses_of}
use Rattle.cube_proof.specs.declared.search.Reason.{Reason}
use Rattle.cube_proof.specs.Search.{IsGoingBack}
use Rattle.cube_proof.proofs.Traces.{back_first, back_last, back_skipped, back_kept, back_done, reason_within}
use Rattle.cube_proof.proofs.search.Search.go_back.Goals as goal

pub loop-reason-init : goal.loop-reason-init
loop-reason-init c =
    let clauses = c.args.cnf.now.clauses in
    let word = c.args.word.now in
    let old = c.args.self.now in
    let new = c.need.new.self in
    record {
      back = subst (λ (r : Vec Reason Global). IsGoingBack clauses word r.items (falses_of new.needed) new.hints.items) (sym c.need.ensures.reasons)
          (back_first clauses word old.reasons.items c.args.clause (falses_of old.marks) (falses_of c.clear.new.self) (falses_of new.needed) c.clear-2.new.self.items new.hints.items
          c.requires.traced c.requires.there c.requires.conflict c.clear.ensures.falses c.need.ensures.needed c.clear-2.ensures.items c.in_ok-need.ensures.hints);
      table = c.need.ensures.table ∙ c.clear.ensures.size ∙ c.requires.table;
      marks = c.need.ensures.marks;
      left = c.need.ensures.left;
      stack = c.need.ensures.stack;
    }

pub need-requires-then-is_false-clause-there : goal.need-requires-then-is_false-clause-there
need-requires-then-is_false-clause-there c =
    let clauses = c.args.cnf.now.clauses in
    let loop = c.loop-reason.self in
    let last = back_last clauses c.args.word.now loop.reasons.items c.pop.new.self.items c.in-Some.reason (falses_of loop.needed) loop.hints.items c.in-Some.ensures.items c.loop-reason.invariant.back in
    reason_within clauses last.middle c.in-Some.reason last.last

pub loop-reason-preserved-in-Continue-branch-2 : goal.loop-reason-preserved-in-Continue-branch-2
loop-reason-preserved-in-Continue-branch-2 c =
    let clauses = c.args.cnf.now.clauses in
    let word = c.args.word.now in
    let loop = c.loop-reason.self in
    let new = c.need-then-is_false.new.self in
    record {
      back = subst (λ (r : Vec Reason Global). IsGoingBack clauses word r.items (falses_of new.needed) new.hints.items) (sym c.need-then-is_false.ensures.reasons)
          (back_kept clauses word loop.reasons.items c.pop.new.self.items c.in-Some.reason (falses_of loop.needed) (falses_of new.needed) loop.hints.items new.hints.items c.in-Some.ensures.items
          (sym c.is_false.ensures ∙ c.if-is_false.true) c.need-then-is_false.ensures.needed c.in_ok-need-2.ensures.hints c.loop-reason.invariant.back);
      table = c.need-then-is_false.ensures.table ∙ c.loop-reason.invariant.table;
      marks = c.need-then-is_false.ensures.marks ∙ c.loop-reason.invariant.marks;
      left = c.need-then-is_false.ensures.left ∙ c.loop-reason.invariant.left;
      stack = c.need-then-is_false.ensures.stack ∙ c.loop-reason.invariant.stack;
    }

pub loop-reason-preserved : goal.loop-reason-preserved
loop-reason-preserved c =
    let loop = c.loop-reason.self in
    record {
      back = back_skipped c.args.cnf.now.clauses c.args.word.now loop.reasons.items c.pop.new.self.items c.in-Some.reason (falses_of loop.needed) loop.hints.items c.in-Some.ensures.items
          (sym c.is_false.ensures ∙ c.if-is_false.false) c.loop-reason.invariant.back;
      table = c.loop-reason.invariant.table;
      marks = c.loop-reason.invariant.marks;
      left = c.loop-reason.invariant.left;
      stack = c.loop-reason.invariant.stack;
    }
