use Rattle.std.proofs.Common.{◌≡◌, ◌∷◌, sym, subst, ℕ}
use Rattle.rsfq_ids.specs.declared.circuit.Driver.TheVariants as driver
use Rattle.rsfq_ids.specs.declared.offence.PathArc.{PathArc}
use Rattle.rsfq_ids.specs.Circuit.{IsDrivenBy}
use Rattle.rsfq_ids.specs.Path.{IsRoute}
use Rattle.rsfq_ids.specs.Design.{design_of}
use Rattle.offence_check.proofs.Leads.{leads_one}
use Rattle.offence_check.proofs.path.starts_route.Goals as goal

pub returns-in-Some : goal.returns-in-Some
returns-in-Some c = λ bench.
    let design = design_of c.args.table.now c.args.flat.now bench in (
      λ t. subst (λ (a : PathArc). IsRoute design (a ∷ c.args.arcs.now) c.args.net) (sym c.in-Port.is) (c.in-Some.source, c.is_driven_by.ensures.0 t, c.in-Some.ensures.some bench),
      λ route.
          (let (n, is, lead) = subst (λ (a : PathArc). IsRoute design (a ∷ c.args.arcs.now) c.args.net) c.in-Port.is route in
          let same : n ≡ c.in-Some.source = leads_one design (c.circuits_are_wired.ensures c.args.table.now c.args.flat.now c.requires).numbered c.args.arcs.now n c.in-Some.source c.args.net lead (c.in-Some.ensures.some bench) in
          c.is_driven_by.ensures.1 (subst (λ (x : ℕ). IsDrivenBy c.args.flat.now x (driver.Port c.in-Port.port)) same is)),
    )
