use Rattle.std.proofs.Common.{◌≡◌, ◌∙◌, ◌∷◌, [], ◌++◌, arith, ap, sym, get_or, map, take, None, Some, Option}
use Rattle.std.proofs.lemmas.Grind.{common_steps}
use Rattle.std.proofs.lemmas.List.{map-append, take_more}
use Rattle.rsfq_ids.specs.declared.circuit.PortUse.{PortUse}
use Rattle.env_table.specs.declared.fault.EnvFault.TheVariants.{Missing}
use Rattle.env_table.proofs.FaultFacts.{missing_end, missing_here, missing_later}
use Rattle.env_table.proofs.bind.all_uses.Goals as goal

pub returns-in-None-clause-fault : goal.returns-in-None-clause-fault
returns-in-None-clause-fault c =
    let none : get_or c.args.uses.now c.loop-place.place None ≡ None = grind (arith, common_steps, c.in-None.is) in
    λ _. c.loop-place.invariant.1
    ∙ (missing_here c.args.ports.now c.args.uses.now c.loop-place.place c.index-ports-place.result (omega arith) c.requires.length none
    ∙ ap (λ name. Some (Missing name)) (sym c.in_ok-copy_name-in-None.ensures.copy))

pub loop-place-preserved : goal.loop-place-preserved
loop-place-preserved c =
    let some : get_or c.args.uses.now c.loop-place.place None ≡ Some c.in-Some.used = grind (arith, common_steps, c.in-Some.is) in (
      ap (map {A = PortUse} {B = Option PortUse} (λ used. Some used)) c.in_ok-push-in-Some.ensures.ok
          ∙ (map-append {A = PortUse} {B = Option PortUse} (λ used. Some used) c.loop-place.all (c.in-Some.used ∷ [])
          ∙ (ap (λ xs. xs ++ Some c.in-Some.used ∷ []) c.loop-place.invariant.0
          ∙ sym (take_more c.args.uses.now c.loop-place.place None (omega arith) ∙ ap (λ used. take c.loop-place.place c.args.uses.now ++ used ∷ []) some))),
      c.loop-place.invariant.1 ∙ missing_later c.args.ports.now c.args.uses.now c.loop-place.place c.in-Some.used (omega arith) c.requires.length some,
    )

pub returns-clause-passed : goal.returns-clause-passed
returns-clause-passed c = c.loop-place.invariant.1 ∙ missing_end c.args.ports.now c.args.uses.now c.loop-place.place (omega arith)
