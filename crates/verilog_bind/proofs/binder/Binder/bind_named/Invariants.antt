use Rattle.std.proofs.Common.{take, map}
use Rattle.verilog_tree.specs.Views.{view_named}
use Rattle.verilog_bind.specs.Sound.{setting_in}
use Rattle.verilog_bind.proofs.Linking.{NamedTo}
use Rattle.verilog_bind.proofs.binder.Binder.bind_named.Given as goal

abbrev pub invariant-loop-link : goal.invariant-loop-link
invariant-loop-link l = NamedTo (setting_in l.self) l.kind.name.now l.wires.list (take l.link-index (map view_named l.links)) l.bound
