use Rattle.std.proofs.Common.{◌≡◌, ◌∙◌, arith, ap, sym, get_or, None, Some, true, false}
use Rattle.std.proofs.lemmas.Grind.{common_steps}
use Rattle.env_table.specs.declared.fault.EnvFault.TheVariants.{StrobeOutside}
use Rattle.env_table.specs.Binding.{is_within}
use Rattle.env_table.proofs.FaultFacts.{strobe_end, strobe_here, strobe_later}
use Rattle.env_table.proofs.bind.check_strobes.Goals as goal

pub returns-then-not-is_within-clause-fault : goal.returns-then-not-is_within-clause-fault
returns-then-not-is_within-clause-fault c =
    let out : is_within c.args.env.now.period (get_or c.args.uses.now c.loop-place.place None) ≡ false = grind (arith, common_steps) in
    λ _. c.loop-place.invariant
    ∙ (strobe_here c.args.env.now.period c.args.ports.now c.args.uses.now c.loop-place.place c.index-ports-place.result (omega arith) c.requires out
    ∙ ap (λ name. Some (StrobeOutside name)) (sym c.in_ok-copy_name.ensures.copy))

pub loop-place-preserved : goal.loop-place-preserved
loop-place-preserved c =
    let within : is_within c.args.env.now.period (get_or c.args.uses.now c.loop-place.place None) ≡ true = grind (arith, common_steps) in
    c.loop-place.invariant ∙ strobe_later c.args.env.now.period c.args.ports.now c.args.uses.now c.loop-place.place (omega arith) c.requires within

pub returns-clause-passed : goal.returns-clause-passed
returns-clause-passed c =
    c.loop-place.invariant ∙ strobe_end c.args.env.now.period c.args.ports.now c.args.uses.now c.loop-place.place (omega arith)
