use Rattle.std.proofs.Common.{take, map}
use Rattle.rsfq_ids.specs.WellFormed.{AreDistinct}
use Rattle.golden_aig.specs.FirstPlaces.{HoldsPlaces}
use Rattle.golden_aig.proofs.matching.refuse_repeats.Given as goal

abbrev pub invariant-loop-place : goal.invariant-loop-place
invariant-loop-place l = record {
  table : HoldsPlaces (take l.place (map (λ text. text.now) l.symbols)) l.table;
  distinct : AreDistinct (take l.place (map (λ text. text.now) l.symbols));
}
