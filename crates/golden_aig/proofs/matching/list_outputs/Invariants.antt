use Rattle.std.proofs.Common.{◌≡◌, take}
use Rattle.golden_aig.specs.Matched.{places_from}
use Rattle.golden_aig.proofs.matching.list_outputs.Given as goal

abbrev pub invariant-loop-place : goal.invariant-loop-place
invariant-loop-place l = l.ports.items ≡ places_from (λ port. port.output) 0 (take l.place l.flat.ports)
