use Rattle.std.proofs.Common.{◌≡◌, take}
use Rattle.rsfq_ids.specs.Bench.{is_data}
use Rattle.golden_aig.specs.Matched.{places_from}
use Rattle.miter_cnf.proofs.making.inputs_of.Given as goal

abbrev pub invariant-loop-place : goal.invariant-loop-place
invariant-loop-place l = l.ports.items ≡ places_from is_data 0 (take l.place l.bench.uses)
