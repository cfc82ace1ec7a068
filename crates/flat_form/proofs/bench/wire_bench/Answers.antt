use Rattle.std.proofs.Common.{◌∙◌, refl, sym, subst, w64}
use Rattle.std.proofs.lemmas.Int.{to_z-of_z}
use Rattle.rsfq_ids.specs.declared.circuit.Bench.{Bench}
use Rattle.flat_form.specs.Bench.{design_on, IsTimeable}
use Rattle.flat_form.proofs.Timeable.{ok_that, same_bench, timeable}
use Rattle.flat_form.proofs.bench.wire_bench.Goals as goal

pub returns-clause-timeable : goal.returns-clause-timeable
returns-clause-timeable c =
    let same = same_bench c.args.flat.now c.args.wires.now.clock c.args.period c.args.low c.args.high _ _ _ (to_z-of_z w64 c.args.period c.ranges.period) (to_z-of_z w64 c.args.low c.ranges.low)
    (to_z-of_z w64 c.args.high c.ranges.high) in
    ok_that _ (λ (bench : Bench). IsTimeable (design_on c.args.flat.now bench) c.args.wires.now.order) c.make_bench.result c.make_bench.ensures (λ bench is.
    subst (λ (b : Bench). IsTimeable (design_on c.args.flat.now b) c.args.wires.now.order) (sym (is ∙ same))
    (timeable c.args.flat.now c.requires.flat c.args.wires.now.clock c.requires.wires.clock c.args.period c.args.low c.args.high c.requires.period c.requires.low c.requires.high c.requires.arrivals c.args.wires.now c.requires.wires refl))
