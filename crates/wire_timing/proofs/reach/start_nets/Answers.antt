use Rattle.std.proofs.Common.{List, sym, subst, ◌∙◌}
use Rattle.std.proofs.lemmas.List.{take_all}
use Rattle.std.specs.List.{AllZip}
use Rattle.rsfq_ids.specs.declared.circuit.Driver.{Driver}
use Rattle.wire_timing.specs.Reach.{StartsAt}
use Rattle.wire_timing.proofs.Lists.{zip_more, zip_length}
use Rattle.wire_timing.proofs.reach.start_nets.Goals as goal

pub loop-driver-preserved : goal.loop-driver-preserved
loop-driver-preserved c = (
  c.loop-driver.invariant.0,
  zip_more (StartsAt c.args.bench.now) c.as_slice-driver-items.result.now c.loop-driver.reached.items c.push.new.self.items c.loop-driver.driver-index c.driver-item.result c.start_at.result
      c.loop-driver.invariant.1 c.loop-driver-test.true (subst (λ (d : Driver). StartsAt c.args.bench.now d c.start_at.result) c.driver-item.is c.start_at.ensures) c.in_ok-push.ensures.items,
)

pub returns : goal.returns
returns c =
    let all = take_all c.loop-driver.driver-index c.as_slice-driver-items.result.now c.loop-driver-test.false ∙ c.loop-driver.invariant.0 in
    let zip = subst (λ (ds : List Driver). AllZip (StartsAt c.args.bench.now) ds c.loop-driver.reached.items) all c.loop-driver.invariant.1 in
    record { count = sym (zip_length (StartsAt c.args.bench.now) c.args.flat.now.nets c.loop-driver.reached.items zip); each = zip }
