use Rattle.std.proofs.Common.{◌≡◌, take, map}
use Rattle.std.specs.List.{All, Contains}
use Rattle.golden_aig.specs.Matched.{names_of}
use Rattle.golden_aig.proofs.matching.find_ports.Given as goal

abbrev pub invariant-loop-symbol : goal.invariant-loop-symbol
invariant-loop-symbol l = record {
  names : names_of l.flat l.matched ≡ take l.symbol-index (map (λ text. text.now) l.symbols);
  ports : All (Contains l.ports) l.matched;
}
