use Rattle.std.proofs.Common.{◌<◌, ◌+◌, ◌^◌, ℕ, length, IfSome, IfNone, sym, subst, arith}
use Rattle.std.specs.Option.{option_copied}
use Rattle.verilog_tree.specs.Views.{view_expr, view_optional}
use Rattle.bind_sites.specs.declared.site.Site.{Site}
use Rattle.bind_sites.specs.Sites.{operands}
use Rattle.bind_sites.specs.Scope.{ExprWidth}
use Rattle.bind_sites.specs.View.{view_site}
use Rattle.bind_names.specs.Scoped.{sites_of}
use Rattle.bind_forms.specs.Faults.{PortWidth}
use Rattle.bind_kinds.specs.Netlist.{setting_of}
use Rattle.bind_kinds.specs.Meanings.{IsMeantAt}
use Rattle.bind_kinds.specs.Ports.{HasWidthAt}
use Rattle.bind_faults.specs.Widths.{LinkWidth, IsWidths, operand_count}
use Rattle.bind_faults.proofs.Sides.{both_found, both_none, other}
use Rattle.bind_faults.proofs.widths.widths_at.Goals as goal

pub expr_width-requires-clause-few : goal.expr_width-requires-clause-few
expr_width-requires-clause-few c =
    let few : length (operands (view_expr c.in-Assign.to.now)) + length (operands (view_expr c.in-Assign.from.now)) < 2 ^ 32 = subst (λ (s : Site). operand_count (view_site s) < 2 ^ 32) c.in-Assign.is c.requires.few in
    omega (arith, few)

pub expr_width-requires-in-Assign-clause-few : goal.expr_width-requires-in-Assign-clause-few
expr_width-requires-in-Assign-clause-few c =
    let few : length (operands (view_expr c.in-Assign.to.now)) + length (operands (view_expr c.in-Assign.from.now)) < 2 ^ 32 = subst (λ (s : Site). operand_count (view_site s) < 2 ^ 32) c.in-Assign.is c.requires.few in
    omega (arith, few)

pub link_width-requires-clause-few : goal.link_width-requires-clause-few
link_width-requires-clause-few c = subst (λ (s : Site). operand_count (view_site s) < 2 ^ 32) c.in-Named.is c.requires.few

pub link_width-requires-in-Ordered-clause-few : goal.link_width-requires-in-Ordered-clause-few
link_width-requires-in-Ordered-clause-few c = subst (λ (s : Site). operand_count (view_site s) < 2 ^ 32) c.in-Ordered.is c.requires.few

pub returns-in_default : goal.returns-in_default
returns-in_default c = record {
  found = tt;
  none = other c.args.site.now c.in_default.not-Assign c.in_default.not-Named c.in_default.not-Ordered (setting_of c.args.netlist.now) (sites_of c.args.scope.now);
}

pub returns-in-Assign-clause-found : goal.returns-in-Assign-clause-found
returns-in-Assign-clause-found c =
    let setting = setting_of c.args.netlist.now in
    let all = sites_of c.args.scope.now in
    subst (λ (s : Site). IfSome c.both.result (λ w. IsWidths setting all (view_site s) w.0 w.1)) (sym c.in-Assign.is)
    (both_found (ExprWidth all (view_expr c.in-Assign.from.now)) (ExprWidth all (view_expr c.in-Assign.to.now)) c.expr_width.result c.expr_width-in-Assign.result c.both.result c.both.ensures c.expr_width.ensures.found c.expr_width-in-Assign.ensures.found)

pub returns-in-Assign-clause-none : goal.returns-in-Assign-clause-none
returns-in-Assign-clause-none c =
    let setting = setting_of c.args.netlist.now in
    let all = sites_of c.args.scope.now in
    subst (λ (s : Site). IfNone c.both.result ((have want : ℕ) → ¬ IsWidths setting all (view_site s) have want)) (sym c.in-Assign.is)
    (both_none (ExprWidth all (view_expr c.in-Assign.from.now)) (ExprWidth all (view_expr c.in-Assign.to.now)) c.expr_width.result c.expr_width-in-Assign.result c.both.result c.both.ensures c.expr_width.ensures.none c.expr_width-in-Assign.ensures.none)

pub returns-in-Named-clause-found : goal.returns-in-Named-clause-found
returns-in-Named-clause-found c =
    let setting = setting_of c.args.netlist.now in
    let all = sites_of c.args.scope.now in
    subst (λ (s : Site). IfSome c.both-in-Named.result (λ w. IsWidths setting all (view_site s) w.0 w.1)) (sym c.in-Named.is)
    (both_found (LinkWidth all (view_optional (option_copied c.in-Named.expr))) (PortWidth setting c.in-Named.kind.now c.in-Named.port.now) c.link_width.result c.port_width.result c.both-in-Named.result c.both-in-Named.ensures c.link_width.ensures.found c.port_width.ensures.found)

pub returns-in-Named-clause-none : goal.returns-in-Named-clause-none
returns-in-Named-clause-none c =
    let setting = setting_of c.args.netlist.now in
    let all = sites_of c.args.scope.now in
    subst (λ (s : Site). IfNone c.both-in-Named.result ((have want : ℕ) → ¬ IsWidths setting all (view_site s) have want)) (sym c.in-Named.is)
    (both_none (LinkWidth all (view_optional (option_copied c.in-Named.expr))) (PortWidth setting c.in-Named.kind.now c.in-Named.port.now) c.link_width.result c.port_width.result c.both-in-Named.result c.both-in-Named.ensures c.link_width.ensures.none c.port_width.ensures.none)

pub returns-in-Ordered-clause-found : goal.returns-in-Ordered-clause-found
returns-in-Ordered-clause-found c =
    let setting = setting_of c.args.netlist.now in
    let all = sites_of c.args.scope.now in
    subst (λ (s : Site). IfSome c.both-in-Ordered.result (λ w. IsWidths setting all (view_site s) w.0 w.1)) (sym c.in-Ordered.is)
    (both_found (LinkWidth all (view_optional (option_copied c.in-Ordered.expr))) (HasWidthAt setting c.in-Ordered.kind.now c.in-Ordered.place) c.link_width-in-Ordered.result c.width_at.result c.both-in-Ordered.result c.both-in-Ordered.ensures c.link_width-in-Ordered.ensures.found c.width_at.ensures.found)

pub returns-in-Ordered-clause-none : goal.returns-in-Ordered-clause-none
returns-in-Ordered-clause-none c =
    let setting = setting_of c.args.netlist.now in
    let all = sites_of c.args.scope.now in
    subst (λ (s : Site). IfNone c.both-in-Ordered.result ((have want : ℕ) → ¬ IsWidths setting all (view_site s) have want)) (sym c.in-Ordered.is)
    (both_none (LinkWidth all (view_optional (option_copied c.in-Ordered.expr))) (HasWidthAt setting c.in-Ordered.kind.now c.in-Ordered.place) c.link_width-in-Ordered.result c.width_at.result c.both-in-Ordered.result c.both-in-Ordered.ensures c.link_width-in-Ordered.ensures.none c.width_at.ensures.none)

pub port_width-requires-clause-meant : goal.port_width-requires-clause-meant
port_width-requires-clause-meant c = subst (λ (s : Site). IsMeantAt (setting_of c.args.netlist.now) (view_site s) c.args.meaning) c.in-Named.is c.requires.meant

pub width_at-requires-clause-meant : goal.width_at-requires-clause-meant
width_at-requires-clause-meant c = subst (λ (s : Site). IsMeantAt (setting_of c.args.netlist.now) (view_site s) c.args.meaning) c.in-Ordered.is c.requires.meant
