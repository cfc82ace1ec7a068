use Rattle.std.proofs.Common.{◌≡◌, arith, ap}
use Rattle.proof_arena.specs.Log.{Log}
use Rattle.cdcl_search.proofs.Searching.{all_satisfied}
use Rattle.cdcl_search.proofs.search.values.Goals as goal

pub returns : goal.returns
returns c =
    let vars = ap (λ (log : Log). log.vars) c.kept_log.ensures.log in
    let same : c.loop-index.index ≡ c.args.state.now.log.vars = omega (arith, vars, c.vars-index-end.ensures) in
    all_satisfied c.args.state.now.log c.args.state.now.trail c.loop-index.values c.loop-index.index same c.loop-index.invariant.size c.loop-index.invariant.read c.requires.whole c.requires.over c.requires.quiet
