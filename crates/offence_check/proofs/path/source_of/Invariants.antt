use Rattle.std.proofs.Common.{◌≤◌, length, drop}
use Rattle.rsfq_ids.specs.declared.circuit.Bench.{Bench}
use Rattle.rsfq_ids.specs.Path.{ArcsLead}
use Rattle.rsfq_ids.specs.Design.{design_of}
use Rattle.offence_check.proofs.path.source_of.Given as goal

-- the arcs from here on lead from the net that was reached
abbrev pub invariant-back : goal.invariant-back
invariant-back l = record {
  within : l.left ≤ length l.arcs;
  lead : (bench : Bench) → ArcsLead (design_of l.table l.flat bench) l.at (drop l.left l.arcs) l.fn.net;
}

abbrev pub decreases-back : goal.decreases-back
decreases-back l = l.left
