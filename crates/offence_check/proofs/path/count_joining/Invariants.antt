use Rattle.std.proofs.Common.{◌≡◌, ◌≤◌, take, not}
use Rattle.std.specs.List.{count_by}
use Rattle.rsfq_ids.specs.declared.circuit.Bench.{Bench}
use Rattle.rsfq_ids.specs.Circuit.{is_copying}
use Rattle.rsfq_ids.specs.Path.{passes}
use Rattle.rsfq_ids.specs.Design.{design_of}
use Rattle.offence_check.proofs.path.count_joining.Given as goal

abbrev pub invariant-loop-arc : goal.invariant-loop-arc
invariant-loop-arc l = record {
  small : l.count ≤ l.arc-index;
  counted : (bench : Bench) → l.count ≡ count_by (passes (λ k. not (is_copying k)) (design_of l.table l.flat bench)) (take l.arc-index l.arcs);
}
