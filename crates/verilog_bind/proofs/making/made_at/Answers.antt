use Rattle.std.proofs.Common.{inl, inr}
use Rattle.bind_sites.specs.declared.site.Site.TheVariants as code
use Rattle.bind_names.specs.Scoped.{sites_of}
use Rattle.verilog_bind.proofs.Made.{read, declared, port_declared, else_none}
use Rattle.verilog_bind.proofs.making.made_at.Goals as goal

pub returns-in-Some-clause-none : goal.returns-in-Some-clause-none
returns-in-Some-clause-none c =
    let all = sites_of c.args.scope.now in
    let there = read c.args.scope.now.sites.now c.args.at _ (code.Wire c.in-Wire.name c.in-Wire.range) c.requires.there c.in-Wire.is in
    port_declared all c.args.at c.in-Wire.name.now c.in-Wire.range there (c.in-Some.field-0.0, c.in-Some.field-0.1, c.in-Some.ensures.found)

pub returns-in-None-clause-made : goal.returns-in-None-clause-made
returns-in-None-clause-made c =
    let all = sites_of c.args.scope.now in
    let there = read c.args.scope.now.sites.now c.args.at _ (code.Wire c.in-Wire.name c.in-Wire.range) c.requires.there c.in-Wire.is in
    declared all c.args.at c.in-Wire.name.now c.in-Wire.range there c.in-None.ensures.missed

pub returns-in_default : goal.returns-in_default
returns-in_default c = record { made = tt; none = else_none c.args.scope.now.sites.now c.args.at _ c.requires.there c.in_default.not-Wire c.in_default.not-Assigned c.in_default.not-Linked }

pub made_by_use-requires-clause-there : goal.made_by_use-requires-clause-there
made_by_use-requires-clause-there c = inl (read c.args.scope.now.sites.now c.args.at _ (code.Assigned c.in-Assigned.operand) c.requires.there c.in-Assigned.is)

pub made_by_use-requires-in-Linked-clause-there : goal.made_by_use-requires-in-Linked-clause-there
made_by_use-requires-in-Linked-clause-there c = inr (read c.args.scope.now.sites.now c.args.at _ (code.Linked c.in-Linked.operand) c.requires.there c.in-Linked.is)
