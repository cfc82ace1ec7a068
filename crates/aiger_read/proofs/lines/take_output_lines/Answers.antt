use Rattle.std.proofs.Common.{◌∙◌, sym, List}
use Rattle.aiger_read.specs.declared.lines.Used.{Used}
use Rattle.aiger_read.specs.Lines.{output_at}
use Rattle.aiger_read.proofs.More.{more_step}
use Rattle.aiger_read.proofs.lines.take_output_lines.Goals as goal

pub loop-preserved : goal.loop-preserved
loop-preserved c =
    let step = more_step (λ (front : List Used). output_at c.args.top) c.args.count c.loop.counter c.loop.outputs c.in_ok-used.used c.loop.rest.now c.in_ok-used.behind.now c.loop-test.true c.in_ok-used.ensures in
    rw c.in_ok-push.ensures.ok (sym step ∙ c.loop.invariant)
