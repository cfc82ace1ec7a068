use Rattle.std.proofs.Common.{◌↔◌, drop}
use Rattle.std.specs.List.{AllZip}
use Rattle.rsfq_ids.specs.Path.{IsDelay}
use Rattle.rsfq_ids.specs.Design.{design_of}
use Rattle.offence_check.proofs.pick.are_delays.Given as goal

-- what is left to look at decides all
abbrev pub invariant-loop-i : goal.invariant-loop-i
invariant-loop-i l = AllZip (IsDelay (design_of l.table l.flat l.bench)) (drop l.i l.arcs) (drop l.i l.delays) ↔ AllZip (IsDelay (design_of l.table l.flat l.bench)) l.arcs l.delays
