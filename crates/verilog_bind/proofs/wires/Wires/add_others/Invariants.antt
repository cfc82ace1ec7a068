use Rattle.std.proofs.Common.{◌≡◌}
use Rattle.bind_names.specs.Scoped.{sites_of}
use Rattle.verilog_bind.specs.Numbered.{HasOthersTo}
use Rattle.verilog_bind.proofs.wires.Wires.add_others.Given as goal

abbrev pub invariant-loop-at : goal.invariant-loop-at
invariant-loop-at l = record {
  sites : l.self.sites ≡ l.fn.self.sites;
  others : HasOthersTo (sites_of l.scope) l.at l.self;
}
