use Rattle.std.proofs.Common.{sym, ◌∙◌}
use Rattle.flat_form.proofs.Clocks.{item_at}
use Rattle.flat_form.proofs.PinByPin.{two_readers, one_reader_more}
use Rattle.flat_form.proofs.readers.find_readers.Goals as goal

pub returns-then-is_some-clause-two : goal.returns-then-is_some-clause-two
returns-then-is_some-clause-two c = λ one.
    let at = item_at c.as_slice-pin-items.result.now c.args.flat.now.pins c.loop-pin.pin-index c.pin-item.result c.as_slice-pin-items.ensures.value c.loop-pin-test.true c.pin-item.is in
    two_readers c.args.flat.now c.requires c.loop-pin.pin-index c.pin-item.result at c.loop-pin.readers.items c.loop-pin.invariant c.index-net.result c.index-net.ensures.number c.index.result.now c.index.ensures
    (sym c.is_some.ensures ∙ c.if-is_some.true) one

pub loop-pin-preserved : goal.loop-pin-preserved
loop-pin-preserved c =
    let at = item_at c.as_slice-pin-items.result.now c.args.flat.now.pins c.loop-pin.pin-index c.pin-item.result c.as_slice-pin-items.ensures.value c.loop-pin-test.true c.pin-item.is in
    one_reader_more c.args.flat.now c.requires c.loop-pin.pin-index c.pin-item.result at c.loop-pin.readers.items c.loop-pin.invariant c.index-net.result c.index-net.ensures.number c.index.result.now c.index.ensures
    (sym c.is_some.ensures ∙ c.if-is_some.false)
