use Rattle.std.proofs.Common.{below_more, sym, ap, subst, ◌∙◌, ◌≤◌, length}
use Rattle.std.specs.Str.{bytes_eq}
use Rattle.flat_form.specs.Form.{clock_name}
use Rattle.flat_form.proofs.Clocks.{item_at, clock_here, output_here, other_here, port_before}
use Rattle.flat_form.proofs.clock.clock_port.Goals as goal
use Rattle.flat_form.proofs.clock.clock_port.Goals.{else-not-port-via-then-not-port+else-eq, else-not-port-via-else-not-port}

pub returns-then-eq-clause-found : goal.returns-then-eq-clause-found
returns-then-eq-clause-found c =
    let at = item_at c.as_slice-port-items.result.now c.args.flat.now.ports c.loop-place.place c.port-item.result c.as_slice-port-items.ensures.value c.loop-place-test.true c.port-item.is in
    clock_here c.args.flat.now c.loop-place.place c.port-item.result at c.of.result c.of.ensures c.if-not-port.true (ap (λ name. bytes_eq name clock_name) (sym c.as_str.ensures) ∙ sym c.eq.ensures ∙ c.if-eq.true)

pub loop-place-preserved : goal.loop-place-preserved
loop-place-preserved c =
    let at = item_at c.as_slice-port-items.result.now c.args.flat.now.ports c.loop-place.place c.port-item.result c.as_slice-port-items.ensures.value c.loop-place-test.true c.port-item.is in
    below_more _ _ c.loop-place.invariant (elim c.else-not-port.branch [
      | else-not-port-via-then-not-port+else-eq w ↦
          other_here c.args.flat.now c.loop-place.place c.port-item.result at (ap (λ name. bytes_eq name clock_name) (sym w.as_str.ensures) ∙ sym w.eq.ensures ∙ w.if-eq.false)
      | else-not-port-via-else-not-port w ↦ output_here c.args.flat.now c.loop-place.place c.port-item.result at w.if-not-port.false
    ])

pub returns-clause-none : goal.returns-clause-none
returns-clause-none c = λ none port is. c.loop-place.invariant port (port_before c.args.flat.now port c.loop-place.place is (let l = c.loop-place-test.false in subst (λ ports. length ports ≤ c.loop-place.place) c.as_slice-port-items.ensures.value l)) is
