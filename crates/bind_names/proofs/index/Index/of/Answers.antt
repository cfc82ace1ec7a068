use Rattle.std.proofs.Common.{ℕ, map, subst, arith}
use Rattle.bind_sites.specs.View.{view_site}
use Rattle.bind_names.specs.Indexed.{IsIndex}
use Rattle.bind_names.proofs.index.Index.of.Goals as goal

pub returns : goal.returns
returns c =
    subst (λ (n : ℕ). IsIndex c.args.sort (map view_site c.args.sites.now) n c.loop-at.index) (omega (arith, c.loop-at-test.false, c.loop-at.auto.at-end)) c.loop-at.invariant
