use Rattle.std.proofs.Common.{◌∙◌, ◌-◌, map, length, ap, arith, length-append}
use Rattle.std.specs.List.{range_with_len}
use Rattle.std.proofs.lemmas.List.FromFn.{length-map-range_with_len}
use Rattle.rsfq_ids.specs.declared.circuit.Driver.TheVariants.{Out}
use Rattle.flattener.proofs.Lists.{number_step}
use Rattle.flattener.proofs.ends.push_outputs.Goals as goal

pub push-requires : goal.push-requires
push-requires c =
    let made = ap length c.loop-output.invariant in
    let both = length-append c.args.nets.now (map (Out c.args.cell) (range_with_len 0 (c.loop-output.output - 0))) in
    let new = length-map-range_with_len (Out c.args.cell) 0 (c.loop-output.output - 0) in
    omega (arith, made, both, new)

pub loop-output-preserved : goal.loop-output-preserved
loop-output-preserved c = c.in_ok-push.ensures.ok ∙ number_step (Out c.args.cell) 0 c.loop-output.output c.loop-output.nets c.args.nets.now (omega arith) c.loop-output.invariant
