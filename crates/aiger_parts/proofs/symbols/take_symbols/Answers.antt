use Rattle.std.proofs.Common.{◌∙◌, ◌+◌, ap, sym, length, ◌-◌}
use Rattle.aiger_parts.specs.Symbols.{symbols_at, Entries}
use Rattle.aiger_parts.proofs.SymbolLines.{symbols_end, symbols_bad, symbols_more, symbols_done}
use Rattle.aiger_parts.proofs.symbols.take_symbols.Goals as goal

pub returns-then-ends_here : goal.returns-then-ends_here
returns-then-ends_here c =
    sym c.loop.invariant
    ∙ symbols_end (length c.args.bytes.now) c.loop.counter (c.loop.symbols.inputs.items, c.loop.symbols.outputs.items) c.loop.rest.now c.loop-test.true (sym c.ends_here.ensures ∙ c.if-ends_here.true)

pub returns-then-not-branch : goal.returns-then-not-branch
returns-then-not-branch c =
    sym c.loop.invariant
    ∙ symbols_bad (length c.args.bytes.now) c.loop.counter (c.loop.symbols.inputs.items, c.loop.symbols.outputs.items) c.loop.rest.now c.loop-test.true (sym c.ends_here.ensures ∙ c.if-ends_here.false)
    (rw c.if-not-branch.true at c.in_ok-put_line.ensures.ok)

pub loop-preserved : goal.loop-preserved
loop-preserved c =
    let entries : Entries × Entries = (c.loop.symbols.inputs.items, c.loop.symbols.outputs.items) in
    let more : Entries × Entries = (c.put_line.new.symbols.inputs.items, c.put_line.new.symbols.outputs.items) in
    let n = length c.args.bytes.now in
    let step = symbols_more n c.loop.counter entries more c.loop.rest.now c.loop-test.true (sym c.ends_here.ensures ∙ c.if-ends_here.false)
    (rw c.if-not-branch.false at c.in_ok-put_line.ensures.ok) in
    ap (symbols_at (n - (c.loop.counter + 1)) more) c.behind_line-rest.ensures ∙ (sym step ∙ c.loop.invariant)

pub returns : goal.returns
returns c = sym c.loop.invariant ∙ symbols_done (length c.args.bytes.now) c.loop.counter (c.loop.symbols.inputs.items, c.loop.symbols.outputs.items) c.loop.rest.now c.loop-test.false
