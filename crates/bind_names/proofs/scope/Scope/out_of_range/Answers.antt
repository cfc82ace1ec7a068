use Rattle.std.proofs.Common.{inl, inr}
use Rattle.bind_sites.specs.declared.site.Site.TheVariants as code
use Rattle.bind_sites.specs.View.{view_operand}
use Rattle.bind_names.specs.Scoped.{sites_of}
use Rattle.bind_names.proofs.Known.{site_read, within}
use Rattle.bind_names.proofs.RangeFaults.{refused_found, assigned_none, linked_none, wire_found, wire_none, port_found, port_none, other_fits}
use Rattle.bind_names.proofs.scope.Scope.out_of_range.Goals as goal

pub returns-in-Assigned-clause-found : goal.returns-in-Assigned-clause-found
returns-in-Assigned-clause-found c =
    let there = site_read c.args.self.now.sites.now c.args.at _ (code.Assigned c.in-Assigned.operand) (within c.args.self.now.sites.now c.args.at c.requires.there) c.in-Assigned.is in
    refused_found (sites_of c.args.self.now) c.args.at (view_operand c.in-Assigned.operand) c.refused_select.result (inl there) c.refused_select.ensures.found

pub returns-in-Assigned-clause-none : goal.returns-in-Assigned-clause-none
returns-in-Assigned-clause-none c =
    let there = site_read c.args.self.now.sites.now c.args.at _ (code.Assigned c.in-Assigned.operand) (within c.args.self.now.sites.now c.args.at c.requires.there) c.in-Assigned.is in
    assigned_none (sites_of c.args.self.now) c.args.at (view_operand c.in-Assigned.operand) c.refused_select.result there c.refused_select.ensures.none

pub returns-in-Linked-clause-found : goal.returns-in-Linked-clause-found
returns-in-Linked-clause-found c =
    let there = site_read c.args.self.now.sites.now c.args.at _ (code.Linked c.in-Linked.operand) (within c.args.self.now.sites.now c.args.at c.requires.there) c.in-Linked.is in
    refused_found (sites_of c.args.self.now) c.args.at (view_operand c.in-Linked.operand) c.refused_select-in-Linked.result (inr there) c.refused_select-in-Linked.ensures.found

pub returns-in-Linked-clause-none : goal.returns-in-Linked-clause-none
returns-in-Linked-clause-none c =
    let there = site_read c.args.self.now.sites.now c.args.at _ (code.Linked c.in-Linked.operand) (within c.args.self.now.sites.now c.args.at c.requires.there) c.in-Linked.is in
    linked_none (sites_of c.args.self.now) c.args.at (view_operand c.in-Linked.operand) c.refused_select-in-Linked.result there c.refused_select-in-Linked.ensures.none

pub returns-in-Wire-clause-found : goal.returns-in-Wire-clause-found
returns-in-Wire-clause-found c =
    let there = site_read c.args.self.now.sites.now c.args.at _ (code.Wire c.in-Wire.name c.in-Wire.range) (within c.args.self.now.sites.now c.args.at c.requires.there) c.in-Wire.is in
    wire_found (sites_of c.args.self.now) c.args.at c.in-Wire.name.now c.in-Wire.range c.other_port.result there c.other_port.ensures.found

pub returns-in-Wire-clause-none : goal.returns-in-Wire-clause-none
returns-in-Wire-clause-none c =
    let there = site_read c.args.self.now.sites.now c.args.at _ (code.Wire c.in-Wire.name c.in-Wire.range) (within c.args.self.now.sites.now c.args.at c.requires.there) c.in-Wire.is in
    wire_none (sites_of c.args.self.now) c.args.at c.in-Wire.name.now c.in-Wire.range c.other_port.result there c.other_port.ensures.none

pub returns-in-Port-clause-found : goal.returns-in-Port-clause-found
returns-in-Port-clause-found c =
    let there = site_read c.args.self.now.sites.now c.args.at _ (code.Port c.in-Port.name c.in-Port.output c.in-Port.range) (within c.args.self.now.sites.now c.args.at c.requires.there) c.in-Port.is in
    port_found (sites_of c.args.self.now) c.args.at c.in-Port.name.now c.in-Port.output c.in-Port.range c.other_wire.result there c.other_wire.ensures.found

pub returns-in-Port-clause-none : goal.returns-in-Port-clause-none
returns-in-Port-clause-none c =
    let there = site_read c.args.self.now.sites.now c.args.at _ (code.Port c.in-Port.name c.in-Port.output c.in-Port.range) (within c.args.self.now.sites.now c.args.at c.requires.there) c.in-Port.is in
    port_none (sites_of c.args.self.now) c.args.at c.in-Port.name.now c.in-Port.output c.in-Port.range c.other_wire.result there c.other_wire.ensures.none

pub returns-in_default : goal.returns-in_default
returns-in_default c = record {
  found = tt;
  none = other_fits c.args.self.now.sites.now c.args.at _ c.requires.there c.in_default.not-Port c.in_default.not-Wire c.in_default.not-Assigned c.in_default.not-Linked;
}
