use Rattle.std.proofs.Common.{◌≡◌, ◌+◌, ℕ, List, length, ap, arith}
use Rattle.cdcl_core.proofs.Queueing.{turn_none, turn_over, turn_found, turn_shorter, empty_list}
use Rattle.cdcl_core.proofs.queue.Queue.below.Goals as goal

pub returns-then-next-place : goal.returns-then-next-place
returns-then-next-place c = turn_found c.args.self.now c.loop-turn.self c.pop.new.self c.args.place c.in-Some.next c.loop-turn.invariant.kept c.in-Some.ensures.0 c.in-Some.ensures.1 c.if-next-place.true

pub loop-turn-preserved : goal.loop-turn-preserved
loop-turn-preserved c = record {
  kept = turn_over c.args.self.now c.loop-turn.self c.pop.new.self c.args.place c.in-Some.next c.loop-turn.invariant.kept c.in-Some.ensures.0 (omega (arith, c.if-next-place.false));
  size = let shorter : length c.pop.new.self + 1 ≡ length c.loop-turn.self = turn_shorter c.loop-turn.self c.pop.new.self c.in-Some.next c.in-Some.ensures.0 in omega (arith, c.loop-turn.invariant.size);
}

pub returns : goal.returns
returns c =
    let view = ap (λ (xs : List ℕ). length xs) c.self.view_is in
    let none : length c.loop-turn.self ≡ 0 = omega (arith, c.loop-turn-test.false, c.len-turn-end.ensures, view, c.loop-turn.invariant.size, c.self.inside.places.data.ok.0) in
    turn_none c.args.self.now c.loop-turn.self c.args.place c.loop-turn.invariant.kept (empty_list c.loop-turn.self none)
