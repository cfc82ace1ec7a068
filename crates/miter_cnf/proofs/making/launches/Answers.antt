use Rattle.std.proofs.Common.{◌∙◌, ◌<◌, ◌≢◌, ℕ, length, sym, ap, subst, arith}
use Rattle.std.specs.List.{All, AllPairs}
use Rattle.golden_aig.specs.Matched.{data_inputs}
use Rattle.golden_aig.proofs.NoMatch.{data_side}
use Rattle.miter_cnf.specs.declared.made.MiterCnf.{MiterCnf}
use Rattle.miter_cnf.specs.Miter.{IsLaunch}
use Rattle.miter_cnf.proofs.Bits.{inputs_most}
use Rattle.miter_cnf.proofs.Solutions.{rising_differ}
use Rattle.miter_cnf.proofs.Assembled.{ok_then, launch_inputs_below, inputs_differ}
use Rattle.miter_cnf.proofs.making.launches.Goals as goal

pub make_launch-requires-clause-ports : goal.make_launch-requires-clause-ports
make_launch-requires-clause-ports c =
    let is = c.as_slice.ensures.value ∙ c.in_ok-inputs.ensures in
    subst (All (λ (port : ℕ). port < length c.args.graph.now.flat.ports)) (sym is) (data_side c.args.graph.now.flat c.args.bench.now c.requires.bench_fits).inside

pub make_launch-requires-clause-once : goal.make_launch-requires-clause-once
make_launch-requires-clause-once c =
    let is = c.as_slice.ensures.value ∙ c.in_ok-inputs.ensures in
    subst (AllPairs (λ (one other : ℕ). one ≢ other)) (sym is) (rising_differ (data_inputs c.args.bench.now) (data_side c.args.graph.now.flat c.args.bench.now c.requires.bench_fits).rise)

pub make_launch-requires-clause-few : goal.make_launch-requires-clause-few
make_launch-requires-clause-few c =
    let long = ap length (c.as_slice.ensures.value ∙ c.in_ok-inputs.ensures) in
    let most = inputs_most c.args.bench.now in
    let uses = c.requires.bench_fits.ports in
    let few = c.requires.few in
    let cells = c.facts.ensures.flat_fits.cells in
    omega (arith, long, most, uses, few, cells)

pub returns-clause-vars : goal.returns-clause-vars
returns-clause-vars c =
    ok_then (IsLaunch c.args.graph.now c.as_slice.result.now c.args.first c.args.second) (λ (made : MiterCnf). All (λ input. input < made.cnf.vars) made.inputs)
    (λ made m. launch_inputs_below c.args.graph.now c.as_slice.result.now c.args.first c.args.second made m) c.make_launch.result c.make_launch.ensures

pub returns-clause-once : goal.returns-clause-once
returns-clause-once c =
    ok_then (IsLaunch c.args.graph.now c.as_slice.result.now c.args.first c.args.second) (λ (made : MiterCnf). AllPairs (λ one other. one ≢ other) made.inputs)
    (λ made m. inputs_differ made.inputs (length c.as_slice.result.now) m.input_variables) c.make_launch.result c.make_launch.ensures
