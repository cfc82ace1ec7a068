use Rattle.std.proofs.Common.{take}
use Rattle.golden_aig.specs.FirstPlaces.{HoldsPlaces}
use Rattle.golden_aig.specs.Matched.{names_of}
use Rattle.golden_aig.proofs.matching.tabulate_names.Given as goal

abbrev pub invariant-loop-place : goal.invariant-loop-place
invariant-loop-place l = HoldsPlaces (take l.place (names_of l.flat l.ports)) l.table
