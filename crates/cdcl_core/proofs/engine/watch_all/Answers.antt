use Rattle.std.proofs.Common.{◌≡◌, ◌∙◌, ◌*◌, ◌<◌, ◌++◌, ℕ, List, [], length, sym, ap, subst, arith, get_or, None}
use Rattle.std.specs.Prelude.{◌≢◌, Option}
use Rattle.std.specs.List.{AllPairs}
use Rattle.std.proofs.lemmas.List.{get_or_read, length-replicate}
use Rattle.std.proofs.lemmas.List.Elements.{All-get_or}
use Rattle.rsfq_ids.specs.Formula.{Clause, IsOver}
use Rattle.cdcl_core.specs.declared.watches.Node.{Node}
use Rattle.cdcl_core.specs.Trail.{clause_at}
use Rattle.cdcl_core.specs.Watch.{node_at}
use Rattle.cdcl_core.proofs.Linking.{none_wired}
use Rattle.cdcl_core.proofs.engine.watch_all.Goals as goal

pub loop-i-init : goal.loop-i-init
loop-i-init c =
    let heads = c.make_room.ensures.heads ∙ c.in_ok-watches.ensures.heads in
    let m = c.make_room.ensures.nodes in
    let nodes : c.make_room.new.self.nodes.items ≡ m.0 = m.1.0 ∙ ap (λ (xs : List Node). xs ++ m.0) c.in_ok-watches.ensures.nodes in
    let size : length c.as_slice-clauses.result.now ≡ length c.args.cnf.now.clauses = ap (λ (xs : List Clause). length xs) c.as_slice-clauses.ensures in
    let room = c.in_ok-make_room.ensures.room in
    record {
      heads = ap (λ (xs : List (Option ℕ)). length xs) heads ∙ length-replicate (2 * c.args.cnf.now.vars) None;
      nodes = omega arith;
      over = λ n l some.
          let at : (node_at c.make_room.new.self.nodes.items n).lit ≡ 0 = ap (λ (xs : List Node). (node_at xs n).lit) nodes ∙ m.1.1 n in
          omega arith;
      wired = none_wired c.args.cnf.now.clauses c.make_room.new.self.heads.items c.make_room.new.self.nodes.items (2 * c.args.cnf.now.vars) heads;
    }

clause_is : (all rows : List Clause) (i : ℕ) (row clause : Clause) → rows ≡ all → i < length rows → row ≡ get_or rows i row → clause ≡ row → clause_at all i ≡ clause
clause_is all rows i row clause e l r s = ap (λ (xs : List Clause). clause_at xs i) (sym e) ∙ (sym (get_or_read rows i row l r []) ∙ sym s)

pub watch-requires-clause-lits : goal.watch-requires-clause-lits
watch-requires-clause-lits c =
    let is = clause_is c.args.cnf.now.clauses c.as_slice-clauses.result.now c.loop-i.i c.index-clauses-i.result c.as_slice.result.now c.as_slice-clauses.ensures (omega arith) c.index-clauses-i.is c.as_slice.ensures in
    let size = ap (λ (xs : List Clause). length xs) c.as_slice-clauses.ensures in
    let over : IsOver c.args.cnf.now.vars (clause_at c.args.cnf.now.clauses c.loop-i.i) = All-get_or (IsOver c.args.cnf.now.vars) c.args.cnf.now.clauses c.loop-i.i [] (omega arith) c.requires.lits in
    rw c.loop-i.invariant.heads (subst (IsOver c.args.cnf.now.vars) is over)

pub watch-requires-clause-differ : goal.watch-requires-clause-differ
watch-requires-clause-differ c =
    let is = clause_is c.args.cnf.now.clauses c.as_slice-clauses.result.now c.loop-i.i c.index-clauses-i.result c.as_slice.result.now c.as_slice-clauses.ensures (omega arith) c.index-clauses-i.is c.as_slice.ensures in
    let size = ap (λ (xs : List Clause). length xs) c.as_slice-clauses.ensures in
    let once : AllPairs (λ one other. one ≢ other) (clause_at c.args.cnf.now.clauses c.loop-i.i) = All-get_or (λ (k : Clause). AllPairs (λ one other. one ≢ other) k) c.args.cnf.now.clauses c.loop-i.i [] (omega arith) c.requires.once in
    let here : AllPairs (λ one other. one ≢ other) c.as_slice.result.now = subst (λ (k : Clause). AllPairs (λ one other. one ≢ other) k) is once in
    λ l. here 0 1 0 (omega arith) (omega arith)

pub loop-i-preserved : goal.loop-i-preserved
loop-i-preserved c =
    let is = clause_is c.args.cnf.now.clauses c.as_slice-clauses.result.now c.loop-i.i c.index-clauses-i.result c.as_slice.result.now c.as_slice-clauses.ensures (omega arith) c.index-clauses-i.is c.as_slice.ensures in
    let size = ap (λ (xs : List Clause). length xs) c.as_slice-clauses.ensures in
    let over : IsOver c.args.cnf.now.vars (clause_at c.args.cnf.now.clauses c.loop-i.i) = All-get_or (IsOver c.args.cnf.now.vars) c.args.cnf.now.clauses c.loop-i.i [] (omega arith) c.requires.lits in
    let here : IsOver c.args.cnf.now.vars c.as_slice.result.now = subst (IsOver c.args.cnf.now.vars) is over in
    let was = c.loop-i.invariant in
    record {
      heads = c.watch.ensures.heads ∙ was.heads;
      nodes = omega (arith, was.nodes, c.watch.ensures.nodes);
      over = λ n l some. c.watch.ensures.over (2 * c.args.cnf.now.vars) (λ m b. was.over m b some) here n l;
      wired = c.watch.ensures.wired c.args.cnf.now.clauses is was.wired;
    }
