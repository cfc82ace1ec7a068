use Rattle.std.proofs.Common.{◌∙◌, ◌<◌, get_or, length, below_more, arith, []}
use Rattle.std.specs.Prelude.{slice_index_or}
use Rattle.proof_arena.specs.Table.{falses_of}
use Rattle.cube_proof.proofs.Lists.{same_item}
use Rattle.cube_proof.proofs.Watching.{watched_two}
use Rattle.cube_proof.proofs.Looking.{visit_on, visit_watched, visit_here}
use Rattle.cube_proof.proofs.Passes.{first_bounds, visit_bounds}
use Rattle.cube_proof.proofs.search.Search.look_at_short.Goals as goal
use Rattle.cube_proof.proofs.search.Search.look_at_short.Goals.{else-index-le-FEW-via-then-index-le-FEW+in_ok-visit+else-branch, else-index-le-FEW-via-else-index-le-FEW}

pub loop-place-init : goal.loop-place-init
loop-place-init c = record {
  under_way = c.requires.begun.under_way;
  bounds = first_bounds c.args.cnf.now c.args.word.now c.args.self.now c.requires.begun;
  watched = λ place lt. absurd (omega arith);
}

pub loop-place-preserved : goal.loop-place-preserved
loop-place-preserved c =
    let cnf = c.args.cnf.now in
    let before = c.loop-place.self in
    let place = c.loop-place.place in
    let lt : place < length cnf.clauses = (let end = c.loop-place-test.true in let many = c.len-place-end.ensures in omega (arith, end, many)) in
    elim c.else-index-le-FEW.branch [
      | else-index-le-FEW-via-then-index-le-FEW+in_ok-visit+else-branch w ↦
          let after = w.visit.new.self in
          rw w.self-is (record {
            under_way = visit_on cnf c.args.word.now place before after w.in_ok-visit.field-0 c.requires.formula lt w.in_ok-visit.ensures.visit w.visit.ensures.tables w.visit.ensures.left w.if-branch.false c.loop-place.invariant.under_way;
            bounds = λ k within. visit_bounds cnf place k before after w.in_ok-visit.field-0 w.in_ok-visit.ensures.visit w.visit.ensures.left (c.loop-place.invariant.bounds k within);
            watched = below_more _ _ (λ k below. visit_watched cnf [] place k before after w.in_ok-visit.field-0 w.in_ok-visit.ensures.visit w.visit.ensures.left (c.loop-place.invariant.watched k below))
                (visit_here cnf place before after w.in_ok-visit.field-0 w.in_ok-visit.ensures.visit w.visit.ensures.left w.if-branch.false (c.loop-place.invariant.bounds place lt));
          })
      | else-index-le-FEW-via-else-index-le-FEW w ↦
          let many = c.loop-place.invariant.under_way.many in
          let read = c.index.ensures ∙ same_item before.left.items place c.index.result.now 0 (omega (arith, many, lt)) in
          rw w.self-is (record {
            under_way = c.loop-place.invariant.under_way;
            bounds = c.loop-place.invariant.bounds;
            watched = below_more _ _ c.loop-place.invariant.watched
                (watched_two (falses_of before.marks) before.stack.items (slice_index_or cnf.clauses place []) (get_or before.left.items place 0) (c.loop-place.invariant.bounds place lt) (let two = w.if-index-le-FEW.false in omega (arith, two, read)));
          })
    ]
