use Rattle.std.proofs.Common.{◌≡◌, take, map}
use Rattle.golden_aig.specs.Matched.{symbols_of}
use Rattle.golden_aig.proofs.matching.list_symbols.Given as goal

abbrev pub invariant-loop-entry : goal.invariant-loop-entry
invariant-loop-entry l = map (λ text. text.now) l.symbols.items ≡ symbols_of (take l.entry-index l.entries)
