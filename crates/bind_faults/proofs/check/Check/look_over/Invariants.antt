use Rattle.bind_kinds.specs.Netlist.{setting_of}
use Rattle.bind_faults.proofs.Sites.{IsClearBefore}
use Rattle.bind_faults.proofs.check.Check.look_over.Given as goal

abbrev pub invariant-loop-at : goal.invariant-loop-at
invariant-loop-at l = IsClearBefore l.self (setting_of l.netlist) l.at
