use Rattle.verilog_tree.specs.Views.{view_expr}
use Rattle.bind_sites.specs.declared.site.Site.TheVariants as code
use Rattle.verilog_bind.specs.Numbered.{sites_in}
use Rattle.verilog_bind.proofs.Made.{read}
use Rattle.verilog_bind.proofs.Zips.{after}
use Rattle.verilog_bind.proofs.Assigning.{to_used, from_used, assign_more, assign_none}
use Rattle.verilog_bind.proofs.wires.Wires.add_assign.Goals as goal

pub bind_expr-requires-clause-used : goal.bind_expr-requires-clause-used
bind_expr-requires-clause-used c =
    let there = read c.args.self.now.sites.now c.args.at _ (code.Assign c.in-Assign.to c.in-Assign.from) c.requires.there c.in-Assign.is in
    to_used (sites_in c.args.self.now) c.args.at (view_expr c.in-Assign.to.now) (view_expr c.in-Assign.from.now) c.requires.sites there

pub bind_expr-requires-in-Assign-clause-used : goal.bind_expr-requires-in-Assign-clause-used
bind_expr-requires-in-Assign-clause-used c =
    let there = read c.args.self.now.sites.now c.args.at _ (code.Assign c.in-Assign.to c.in-Assign.from) c.requires.there c.in-Assign.is in
    from_used (sites_in c.args.self.now) c.args.at (view_expr c.in-Assign.to.now) (view_expr c.in-Assign.from.now) c.requires.sites there

pub returns-in_ok-from-in-Assign : goal.returns-in_ok-from-in-Assign
returns-in_ok-from-in-Assign c =
    let there = read c.args.self.now.sites.now c.args.at _ (code.Assign c.in-Assign.to c.in-Assign.from) c.requires.there c.in-Assign.is in
    after c.push.result c.push.ensures.ok
    (λ pushed. assign_more (sites_in c.args.self.now) c.args.self.now.list c.args.at (view_expr c.in-Assign.to.now) (view_expr c.in-Assign.from.now) c.args.assigns.now c.push.new.self
    (record { to = c.in_ok-to-in-Assign.to; from = c.in_ok-from-in-Assign.from }) there c.requires.before c.in_ok-to-in-Assign.ensures c.in_ok-from-in-Assign.ensures pushed)

pub returns-in_default : goal.returns-in_default
returns-in_default c = assign_none c.args.self.now.sites.now c.args.self.now.list c.args.at _ c.args.assigns.now c.requires.there c.in_default.not-Assign c.requires.before
