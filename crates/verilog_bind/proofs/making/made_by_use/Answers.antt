use Rattle.std.proofs.Common.{inl, inr, refl}
use Rattle.bind_sites.specs.View.{view_operand}
use Rattle.bind_names.specs.Scoped.{sites_of}
use Rattle.bind_forms.specs.Binds.{ByUse}
use Rattle.verilog_bind.proofs.Made.{not_made, made_name, used_here, unused_before, made_twice, is_known, is_new}
use Rattle.verilog_bind.proofs.making.made_by_use.Goals as goal

pub returns-in_err-name-clause-none : goal.returns-in_err-name-clause-none
returns-in_err-name-clause-none c = rw c.from_residual.ensures (not_made (sites_of c.args.scope.now) c.args.at (view_operand c.args.operand) _ c.requires.there c.whole.ensures (rw c.in_err-name.was refl))

pub returns-else-is_made_by_links-clause-none : goal.returns-else-is_made_by_links-clause-none
returns-else-is_made_by_links-clause-none c = λ wire makes.
    let here = made_name (sites_of c.args.scope.now) c.args.at (view_operand c.args.operand) c.in_ok-name.name.now wire c.requires.there (rw c.in_ok-name.was at c.whole.ensures) makes in
    c.if-is_made_by_links.ensures (record { undirected = here.no_direction; undeclared = here.no_declaration; link = here.link })

pub returns-in-Some-clause-none : goal.returns-in-Some-clause-none
returns-in-Some-clause-none c = λ wire makes.
    let all = sites_of c.args.scope.now in
    let name = c.in_ok-name.name.now in
    let here = made_name all c.args.at (view_operand c.args.operand) name wire c.requires.there (rw c.in_ok-name.was at c.whole.ensures) makes in
    elim (is_known all c.args.at c.args.made.now name c.find.result c.in-Some.field-0 c.requires.before c.find.ensures c.in-Some.is) [ inl directed ↦ here.no_direction directed | inr before ↦ made_twice all c.args.at name here before ]

pub returns-in-None-clause-made : goal.returns-in-None-clause-made
returns-in-None-clause-made c =
    let all = sites_of c.args.scope.now in
    let name = c.in_ok-name.name.now in
    let links = c.if-is_made_by_links.ensures in
    let fresh = is_new all c.args.at c.args.made.now name c.find.result c.requires.before c.find.ensures c.in-None.is in
    ByUse (used_here all c.args.at (view_operand c.args.operand) name c.requires.there (rw c.in_ok-name.was at c.whole.ensures))
    (unused_before all name c.args.at links.undirected links.undeclared links.link fresh) links.link links.undirected links.undeclared refl
