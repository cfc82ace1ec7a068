use Rattle.std.proofs.Common.{List, ℕ, ap, sym, subst}
use Rattle.verilog_tree.specs.Views.{view_expr, view_named, view_optional}
use Rattle.bind_forms.specs.Binds.{BindsNamed}
use Rattle.verilog_bind.specs.Sound.{setting_in, HasPort}
use Rattle.verilog_bind.proofs.Zips.{after}
use Rattle.verilog_bind.proofs.Linking.{adds_named}
use Rattle.verilog_bind.proofs.binder.Binder.add_named.Goals as goal

pub named_link-requires-clause-port : goal.named_link-requires-clause-port
named_link-requires-clause-port c = subst (λ (n : List ℕ). HasPort (setting_in c.args.self.now) c.args.kind.name.now n) (sym c.as_str.ensures) c.requires.link.port

pub returns-in_ok-named_link-in-Some : goal.returns-in_ok-named_link-in-Some
returns-in_ok-named_link-in-Some c =
    after c.push.result c.push.ensures.ok
    (λ pushed. adds_named (setting_in c.args.self.now) c.args.kind.name.now c.args.wires.now.list (view_named c.args.link.now) (view_expr c.in-Some.expr) c.args.bound.now c.push.new.self c.in_ok-named_link-in-Some.field-0 (ap view_optional c.in-Some.is)
    (λ names ports. subst (λ (n : List ℕ). BindsNamed names c.args.wires.now.list (n, view_expr c.in-Some.expr) c.in_ok-named_link-in-Some.field-0) c.as_str.ensures (c.in_ok-named_link-in-Some.ensures names ports)) pushed)
