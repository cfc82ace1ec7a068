use Rattle.std.proofs.Common.{arith, ◌-◌}
use Rattle.rsfq_ids.specs.Design.{design_of}
use Rattle.offence_check.proofs.Leads.{leads_back}
use Rattle.offence_check.proofs.path.source_of.Goals as goal

pub returns-in-None-clause-none : goal.returns-in-None-clause-none
returns-in-None-clause-none c = λ bench first lead.
    let design = design_of c.args.table.now c.args.flat.now bench in
    let within = c.back.invariant.within in
    let some = c.back-test.true in
    let (k, on) = leads_back design (c.circuits_are_wired.ensures c.args.table.now c.args.flat.now c.requires).numbered c.args.arcs.now (c.back.left - 1) c.back.left c.index-arcs-left.result first c.back.at c.args.net
    (omega arith) c.index-arcs-left.is (omega arith) (c.back.invariant.lead bench) lead in
    c.in-None.ensures.none bench k on

pub net_before-requires : goal.net_before-requires
net_before-requires c = (c.circuits_are_wired.ensures c.args.table.now c.args.flat.now c.requires).in_order
