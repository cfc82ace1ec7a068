use Rattle.std.proofs.Common.{◌≡◌, ℕ, List, Option, Some, None, sym, refl}
use Rattle.name_table.specs.Places.{place_of}
use Rattle.rsfq_ids.specs.declared.table.CellTable.{CellTable}
use Rattle.verilog_tree.specs.Trees.{Module}
use Rattle.bind_hierarchy.specs.declared.kinds.Kinds.{Kinds}
use Rattle.bind_hierarchy.specs.Kinds.{AreKinds}
use Rattle.bind_hierarchy.specs.Top.{MeansNamed}
use Rattle.bind_hierarchy.proofs.Meanings.{means_module, no_module}
use Rattle.bind_hierarchy.proofs.top.named_top.Goals as goal

named : (modules : List Module) (table : CellTable) (kinds : Kinds) (k : AreKinds modules table kinds) (name : List ℕ) (r : Option ℕ) → r ≡ place_of kinds.modules name → MeansNamed modules name r
named modules table kinds k name (Some at) e = means_module modules table kinds k name at (sym e)
named modules table kinds k name None e = no_module modules table kinds k name (sym e)

pub returns : goal.returns
returns c = λ modules table k. named modules table c.args.kinds.now k c.args.name.now c.find.result c.find.ensures
