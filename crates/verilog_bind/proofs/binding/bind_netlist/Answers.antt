use Rattle.std.proofs.Common.{arith}
use Rattle.bind_forms.specs.First.{Duplicates}
use Rattle.bind_kinds.specs.Netlist.{setting_of}
use Rattle.verilog_bind.proofs.binding.bind_netlist.Goals as goal

pub returns-clause-only : goal.returns-clause-only
returns-clause-only c other binds =
    c.bound_is_one.ensures (setting_of c.args.netlist.now) other c.in_ok-bound.bound c.requires.table (c.in_ok-found.ensures.clean 0 Duplicates (omega arith)) binds c.in_ok-bound.ensures

pub returns-clause-well_formed : goal.returns-clause-well_formed
returns-clause-well_formed c =
    let found = c.in_ok-found.ensures.reached in
    c.bound_is_well_formed.ensures (setting_of c.args.netlist.now) c.in_ok-bound.bound c.in_ok-found.found.order.items c.in_ok-bound.ensures c.in_ok-found.ensures.clean c.requires.tree
    (record { each = found.order_is; once = found.once; after = found.after })
