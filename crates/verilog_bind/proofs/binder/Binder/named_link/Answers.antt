use Rattle.std.proofs.Common.{refl}
use Rattle.verilog_tree.specs.Views.{view_expr}
use Rattle.verilog_bind.specs.Sound.{setting_in}
use Rattle.verilog_bind.proofs.Linking.{has_place, named_is}
use Rattle.verilog_bind.proofs.binder.Binder.named_link.Goals as goal

pub unreachable-requires : goal.unreachable-requires
unreachable-requires c = has_place (setting_in c.args.self.now) c.args.kind.name.now c.args.name.now c.requires.port c.in_default.ensures.none

pub returns : goal.returns
returns c =
    named_is (setting_in c.args.self.now) c.args.kind.name.now c.args.name.now c.in-Some.port c.args.wires.now.list (view_expr c.args.expr.now) (record { port = c.in-Some.port; parts = c.in_ok-parts.parts }) c.ports_are_one.ensures
    c.in-Some.ensures.found refl c.in_ok-parts.ensures
