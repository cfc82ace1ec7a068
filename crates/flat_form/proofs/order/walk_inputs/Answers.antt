use Rattle.std.proofs.Common.{arith, subst, ◌<◌, ℕ}
use Rattle.flat_form.specs.Walking.{first_output, IsServed}
use Rattle.flat_form.proofs.Walks.{input_comes, inputs_more}
use Rattle.flat_form.proofs.order.walk_inputs.Goals as goal

pub follow-requires-clause-comes : goal.follow-requires-clause-comes
follow-requires-clause-comes c = input_comes c.args.flat.now c.requires.flat c.loop-net.order c.of.result (let l : c.of.result < first_output c.args.flat.now = omega arith in l)

pub loop-net-preserved : goal.loop-net-preserved
loop-net-preserved c = record {
  walk = c.in_ok-follow.ensures.walk;
  served = inputs_more c.args.flat.now c.requires.flat c.loop-net.seen c.follow.new.seen c.loop-net.net c.loop-net.invariant.served c.in_ok-follow.ensures.grows
      (subst (λ (net : ℕ). IsServed c.args.flat.now c.follow.new.seen net) c.of.ensures c.in_ok-follow.ensures.served);
}

pub returns-clause-served : goal.returns-clause-served
returns-clause-served c = λ net l. c.loop-net.invariant.served net (omega arith)
