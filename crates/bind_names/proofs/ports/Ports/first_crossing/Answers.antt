use Rattle.std.proofs.Common.{◌≡◌, ℕ, map, length, subst, arith}
use Rattle.bind_sites.specs.View.{view_site}
use Rattle.bind_names.specs.Crossing.{CrossesAmong, IsLeast}
use Rattle.bind_names.proofs.Least.{least_step}
use Rattle.bind_names.proofs.ports.Ports.first_crossing.Goals as goal

pub loop-scalar-preserved : goal.loop-scalar-preserved
loop-scalar-preserved c =
    least_step (map view_site c.args.sites.now) c.args.limit c.loop-scalar.scalar c.loop-scalar.first c.crossing_at.result c.first_of-first.result
    c.loop-scalar.invariant c.crossing_at.ensures c.first_of-first.ensures

pub returns : goal.returns
returns c =
    let e : c.loop-scalar.scalar ≡ length c.args.sites.now = omega arith in
    let P : ℕ → Type 0 = λ n. IsLeast (CrossesAmong (map view_site c.args.sites.now) c.args.limit n) c.loop-scalar.first in
    subst P e c.loop-scalar.invariant
