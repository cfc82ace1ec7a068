use Rattle.std.proofs.Common.{sym, subst}
use Rattle.std.proofs.lemmas.Option.{IfSome_then}
use Rattle.rsfq_ids.specs.declared.offence.PathArc.{PathArc}
use Rattle.rsfq_ids.specs.Path.{ArcLeads}
use Rattle.rsfq_ids.specs.Design.{design_of}
use Rattle.offence_check.proofs.Options.{none_then, both}
use Rattle.offence_check.proofs.path.net_before.Goals as goal

pub returns-then-not-is_passed_from-clause-none : goal.returns-then-not-is_passed_from-clause-none
returns-then-not-is_passed_from-clause-none c = λ bench before lead.
    let leads = subst (λ (a : PathArc). ArcLeads (design_of c.args.table.now c.args.flat.now bench) before a c.args.net) c.in-Through.is lead in
    both c.is_passed_from.result ((c.is_passed_from.ensures bench).1 (leads.0, leads.1, leads.2)) c.if-not-is_passed_from.true

pub returns-else-not-is_passed_from-clause-some : goal.returns-else-not-is_passed_from-clause-some
returns-else-not-is_passed_from-clause-some c = IfSome_then c.net_of.result c.net_of.ensures.found (λ before reads bench.
    let passed = (c.is_passed_from.ensures bench).0 c.if-not-is_passed_from.false in
    subst (λ (a : PathArc). ArcLeads (design_of c.args.table.now c.args.flat.now bench) before a c.args.net) (sym c.in-Through.is) (passed.0, passed.1, passed.2, reads, c.is_driven_by.ensures.0 c.if-not-is_driven_by.false))

pub returns-else-not-is_passed_from-clause-none : goal.returns-else-not-is_passed_from-clause-none
returns-else-not-is_passed_from-clause-none c = none_then c.net_of.result c.net_of.ensures.none (λ none bench before lead.
    let leads = subst (λ (a : PathArc). ArcLeads (design_of c.args.table.now c.args.flat.now bench) before a c.args.net) c.in-Through.is lead in none before leads.3)
