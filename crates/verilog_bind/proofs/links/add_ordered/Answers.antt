use Rattle.std.proofs.Common.{refl, ap}
use Rattle.verilog_tree.specs.Views.{view_expr, view_optional}
use Rattle.verilog_bind.proofs.Zips.{after}
use Rattle.verilog_bind.proofs.Linking.{adds_ordered}
use Rattle.verilog_bind.proofs.links.add_ordered.Goals as goal

pub returns-in_ok-parts-in-Some : goal.returns-in_ok-parts-in-Some
returns-in_ok-parts-in-Some c =
    after c.push.result c.push.ensures.ok
    (λ pushed. adds_ordered c.args.wires.now.list c.args.place (view_optional c.args.link.now) (view_expr c.in-Some.expr) c.args.bound.now c.push.new.self (record { port = c.args.place; parts = c.in_ok-parts-in-Some.parts })
    (ap view_optional c.in-Some.is) refl c.in_ok-parts-in-Some.ensures pushed)
