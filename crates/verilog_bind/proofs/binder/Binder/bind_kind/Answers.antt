use Rattle.std.proofs.Common.{Option, subst}
use Rattle.bind_hierarchy.specs.declared.kinds.Meaning.{Meaning}
use Rattle.bind_kinds.specs.Meanings.{KindMeans}
use Rattle.verilog_bind.specs.Sound.{setting_in}
use Rattle.verilog_bind.proofs.Meant.{no_kind}
use Rattle.verilog_bind.proofs.binder.Binder.bind_kind.Goals as goal

pub unreachable-requires : goal.unreachable-requires
unreachable-requires c = c.requires.kind.known (no_kind (setting_in c.args.self.now) c.args.kind.name.now (subst (λ (m : Option Meaning). KindMeans (setting_in c.args.self.now) c.args.kind.name.now m) c.in-None.is c.requires.meant))
