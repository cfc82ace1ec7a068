use Rattle.std.proofs.Common.{rules, below_more, sym, ◌∙◌, ◌≤◌, length, subst}
use Rattle.flat_form.proofs.Clocks.{item_at, read_here, not_driven_here, other_driven_here, never_read}
use Rattle.flat_form.proofs.clock.is_read.Goals as goal
use Rattle.flat_form.proofs.clock.is_read.Goals.{in-Port+else-eq, in_default}

pub returns-then-eq : goal.returns-then-eq
returns-then-eq c =
    let at = item_at c.as_slice-pin-items.result.now c.args.flat.now.pins c.loop-pin.pin-index c.pin-item.result c.as_slice-pin-items.ensures.value c.loop-pin-test.true c.pin-item.is in (
      λ t. read_here c.args.flat.now c.requires c.args.port c.loop-pin.pin-index c.pin-item.result at c.as_slice.result.now c.as_slice.ensures.value c.index.result c.index.ensures.number _ c.in-Port.driver c.in-Port.is
          (sym c.eq.ensures ∙ c.if-eq.true),
      λ r. search rules,
    )

pub loop-pin-preserved : goal.loop-pin-preserved
loop-pin-preserved c =
    let at = item_at c.as_slice-pin-items.result.now c.args.flat.now.pins c.loop-pin.pin-index c.pin-item.result c.as_slice-pin-items.ensures.value c.loop-pin-test.true c.pin-item.is in
    below_more _ _ c.loop-pin.invariant (elim c.match-as_slice-index.branch [
      | in-Port+else-eq w ↦
          other_driven_here c.args.flat.now c.requires c.args.port c.loop-pin.pin-index c.pin-item.result at c.as_slice.result.now c.as_slice.ensures.value c.index.result c.index.ensures.number _ w.in-Port.driver w.in-Port.is
          (sym w.eq.ensures ∙ w.if-eq.false)
      | in_default w ↦
          not_driven_here c.args.flat.now c.requires c.args.port c.loop-pin.pin-index c.pin-item.result at c.as_slice.result.now c.as_slice.ensures.value c.index.result c.index.ensures.number _ w.in_default.field-0
          w.in_default.field-1 w.in_default.is
    ])

pub returns : goal.returns
returns c = (
  λ t. search rules,
  λ read. absurd (never_read c.args.flat.now c.args.port c.loop-pin.pin-index (subst (λ pins. length pins ≤ c.loop-pin.pin-index) c.as_slice-pin-items.ensures.value c.loop-pin-test.false) c.loop-pin.invariant read),
)
