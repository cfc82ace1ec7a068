use Rattle.std.proofs.Common.{ℕ}
use Rattle.std.proofs.lemmas.Result.{err_from_is_err_and}
use Rattle.aiger_parts.specs.Reading.{many_at, literal_at}
use Rattle.aiger_parts.proofs.Loop.{goes_on, ends, is_done}
use Rattle.aiger_parts.proofs.outputs.take_outputs.Goals as goal

pub returns-in_err-literal : goal.returns-in_err-literal
returns-in_err-literal c =
    let p = err_from_is_err_and c.from_residual.result c.from_residual.ensures.1 in
    rw (p.1, p.2) (ends (λ (place : ℕ). literal_at c.args.top) c.in_err-literal.field-0.0 c.loop.literals c.args.count c.loop.counter c.loop.rest.now
    (many_at (λ (place : ℕ). literal_at c.args.top) 0 c.args.count c.args.bytes.now) c.loop-test.true c.in_err-literal.ensures.is c.loop.invariant)

pub loop-preserved : goal.loop-preserved
loop-preserved c =
    rw c.in_ok-push.ensures.ok (goes_on (λ (place : ℕ). literal_at c.args.top) c.loop.literals c.args.count c.loop.counter c.loop.rest.now c.in_ok-literal.literal c.in_ok-literal.behind.now
    (many_at (λ (place : ℕ). literal_at c.args.top) 0 c.args.count c.args.bytes.now) c.loop-test.true c.in_ok-literal.ensures.is c.loop.invariant)

pub returns : goal.returns
returns c =
    is_done (λ (place : ℕ). literal_at c.args.top) c.loop.literals c.args.count c.loop.counter c.loop.rest.now (many_at (λ (place : ℕ). literal_at c.args.top) 0 c.args.count c.args.bytes.now)
    c.loop-test.false c.loop.invariant
