use Rattle.std.proofs.Common.{◌≡◌, ◌-◌, length, None}
use Rattle.std.specs.Prelude.{replicate}
use Rattle.aiger_parts.specs.Symbols.{symbols_at}
use Rattle.aiger_parts.proofs.symbols.take_symbols.Given as goal

abbrev pub invariant-loop : goal.invariant-loop
invariant-loop l =
    symbols_at (length l.bytes - l.counter) (l.symbols.inputs.items, l.symbols.outputs.items) l.rest
    ≡ symbols_at (length l.bytes) (replicate l.fn.inputs None, replicate l.fn.outputs None) l.bytes
