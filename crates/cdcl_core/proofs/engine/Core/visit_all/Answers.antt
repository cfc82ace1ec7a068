use Rattle.std.proofs.Common.{◌≡◌, ◌∙◌, ◌<◌, ◌-◌, List, length, sym, ap, subst, refl, arith, suc, Some, None}
use Rattle.std.specs.List.{All}
use Rattle.std.proofs.lemmas.List.{get_or_read}
use Rattle.proof_arena.specs.Log.{Log, clauses_of}
use Rattle.cdcl_core.specs.declared.watches.Node.{Node}
use Rattle.cdcl_core.specs.Oldest.{Truths}
use Rattle.cdcl_core.specs.Trail.{IsQuiet}
use Rattle.cdcl_core.specs.Watch.{Visits, CanVisit, node_at}
use Rattle.cdcl_core.proofs.Growing.{grown_on}
use Rattle.cdcl_core.proofs.Passing.{taken_out}
use Rattle.cdcl_core.proofs.Visiting.{seen, from_cursor, some_left, grown_same}
use Rattle.cdcl_core.proofs.engine.Core.visit_all.Goals as goal

pub detach-cursor-requires : goal.detach-cursor-requires
detach-cursor-requires c = let s = c.requires.begins.1.1.1 in omega (arith, s.small, s.heads_len)

pub nodes-init : goal.nodes-init
nodes-init c = record {
  log = refl;
  vars = refl;
  done = refl;
  fresh = refl;
  grown = grown_same _;
  still = λ quiet. (refl, refl);
  visits = λ older entry b.
      let room : length c.args.self.now.watches.nodes.items ≡ c.len-left.result = ap (λ (xs : List Node). length xs) (sym c.detach-cursor.ensures.nodes) ∙ omega (arith, c.len-left.ensures) in
      rw (c.detach-cursor.ensures.first, c.detach-cursor.ensures.heads, c.detach-cursor.ensures.nodes) (taken_out _ _ _ older entry _ _ _ c.len-left.result b (omega arith));
}

pub overflow_sub-left : goal.overflow_sub-left
overflow_sub-left c =
    let b = c.requires.begins in
    let v = c.nodes.invariant.visits b.0 b.1.0 b.1.1 in
    let e = some_left _ _ _ _ _ _ _ _ _ c.nodes.left _ (from_cursor _ _ _ _ _ _ _ _ _ c.nodes.cursor (Some c.in-Some.node) _ v c.in-Some.is) in
    omega (arith, e)

pub index-requires : goal.index-requires
index-requires c =
    let b = c.requires.begins in
    let v = c.nodes.invariant.visits b.0 b.1.0 b.1.1 in
    let s = seen _ _ _ _ _ _ _ _ (b.0, (b.1.0, (c.nodes.left, from_cursor _ _ _ _ _ _ _ _ _ c.nodes.cursor (Some c.in-Some.node) _ v c.in-Some.is))) in
    let k : c.in-Some.node < length c.nodes.self.watches.nodes.items = s.within in
    omega arith

pub visit-found-requires-clause-visit : goal.visit-found-requires-clause-visit
visit-found-requires-clause-visit c =
    let b = c.requires.begins in
    let v = c.nodes.invariant.visits b.0 b.1.0 b.1.1 in
    subst (λ (log : Log). CanVisit log.vars (clauses_of log) c.nodes.self.trail.trail c.nodes.self.watches.heads.items c.nodes.self.watches.nodes.items c.args.gone c.in-Some.node c.nodes.found) (sym c.nodes.invariant.log)
    (b.0, (b.1.0, (c.nodes.left, from_cursor _ _ _ _ _ _ _ _ _ c.nodes.cursor (Some c.in-Some.node) _ v c.in-Some.is)))

pub nodes-smaller : goal.nodes-smaller
nodes-smaller c =
    let b = c.requires.begins in
    let v = c.nodes.invariant.visits b.0 b.1.0 b.1.1 in
    let e = some_left _ _ _ _ _ _ _ _ _ c.nodes.left _ (from_cursor _ _ _ _ _ _ _ _ _ c.nodes.cursor (Some c.in-Some.node) _ v c.in-Some.is) in
    omega (arith, e)

pub nodes-preserved : goal.nodes-preserved
nodes-preserved c =
    let was = c.nodes.invariant in
    let now = c.visit-found.ensures in
    record {
      log = now.log ∙ was.log;
      vars = now.vars ∙ was.vars;
      done = now.done ∙ was.done;
      fresh = now.fresh ∙ was.fresh;
      grown = grown_on _ _ _ was.grown now.grown;
      still = λ quiet.
          let old = was.still quiet in
          let same : All (IsQuiet c.nodes.self.trail.trail) (clauses_of c.nodes.self.log) =
          subst (λ (log : Log). All (IsQuiet c.nodes.self.trail.trail) (clauses_of log)) (sym was.log) (subst (λ (t : Truths). All (IsQuiet t.trail) (clauses_of c.args.self.now.log)) (sym old.0) quiet) in
          let new = now.still same old.1 in
          (new.0 ∙ old.0, new.1);
      visits = λ older entry b.
          let v = was.visits older entry b in
          let at = from_cursor _ _ _ _ _ _ _ _ _ c.nodes.cursor (Some c.in-Some.node) _ v c.in-Some.is in
          let more = some_left _ _ _ _ _ _ _ _ _ c.nodes.left _ at in
          let s = seen _ _ _ _ _ _ _ _ (older, (entry, (c.nodes.left, at))) in
          let within : c.in-Some.node < length c.nodes.self.watches.nodes.items = s.within in
          let here : c.index.result.now ≡ node_at c.nodes.self.watches.nodes.items c.in-Some.node = get_or_read c.nodes.self.watches.nodes.items c.in-Some.node c.index.result.now within c.index.ensures _ in
          let given : Visits c.args.self.now.log.vars (clauses_of c.args.self.now.log) c.nodes.self.trail.trail older entry c.nodes.self.watches.heads.items c.nodes.self.watches.nodes.items c.args.gone (Some c.in-Some.node) (suc (c.nodes.left - 1)) c.nodes.found =
          subst (λ n. Visits c.args.self.now.log.vars (clauses_of c.args.self.now.log) c.nodes.self.trail.trail older entry c.nodes.self.watches.heads.items c.nodes.self.watches.nodes.items c.args.gone (Some c.in-Some.node) n c.nodes.found) more at in
          let there = now.visited older entry (c.nodes.left - 1)
          (subst (λ (log : Log). Visits log.vars (clauses_of log) c.nodes.self.trail.trail older entry c.nodes.self.watches.heads.items c.nodes.self.watches.nodes.items c.args.gone (Some c.in-Some.node) (suc (c.nodes.left - 1)) c.nodes.found) (sym was.log) given) in
          subst (λ (log : Log). Visits log.vars (clauses_of log) c.visit-found.new.self.trail.trail older entry c.visit-found.new.self.watches.heads.items c.visit-found.new.self.watches.nodes.items c.args.gone c.index.result.now.next (c.nodes.left - 1) c.visit-found.result) was.log
          (from_cursor _ _ _ older entry _ _ _ _ _ c.index.result.now.next _ there (ap (λ (x : Node). x.next) (sym here)));
    }

pub returns-clause-visited : goal.returns-clause-visited
returns-clause-visited c = λ older entry b.
    let v = c.nodes.invariant.visits older entry b in
    (c.nodes.left, from_cursor _ _ _ older entry _ _ _ _ c.nodes.cursor None _ v c.in_default.is)
