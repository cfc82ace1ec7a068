use Rattle.std.proofs.Common.{◌∙◌, ap, ap₂, length, ◌<◌, ◌≤◌, ◌++◌, ◌∷◌, [], ℕ, List, sym}
use Rattle.rsfq_ids.specs.declared.circuit.PortBit.{PortBit}
use Rattle.golden_aig.specs.Matched.{places_from, outputs_of}
use Rattle.golden_aig.proofs.PortLists.{places_more, places_kept, take_all_at}
use Rattle.golden_aig.proofs.matching.list_outputs.Goals as goal
use Rattle.golden_aig.proofs.matching.list_outputs.Goals.{then-port+in_ok-push, else-port}

pub loop-place-preserved : goal.loop-place-preserved
loop-place-preserved c = elim c.if-port.branch [
  | then-port+in_ok-push w ↦
      let lt : c.loop-place.place < length c.args.flat.now.ports = rw c.as_slice-port-items.ensures.value at c.loop-place-test.true in
      let item = rw c.as_slice-port-items.ensures.value at c.port-item.is in
      let more = places_more (λ (port : PortBit). port.output) c.args.flat.now.ports c.loop-place.place c.port-item.result lt (ap (λ (port : PortBit). port.output) (sym item) ∙ w.if-port.true) in
      ap (λ (v : _). v.items) w.ports-is ∙ (w.in_ok-push.ensures.items ∙ (ap₂ (λ (ps : List ℕ) (p : ℕ). ps ++ p ∷ []) c.loop-place.invariant w.of.ensures ∙ sym more))
  | else-port w ↦
      let lt : c.loop-place.place < length c.args.flat.now.ports = rw c.as_slice-port-items.ensures.value at c.loop-place-test.true in
      let item = rw c.as_slice-port-items.ensures.value at c.port-item.is in
      let kept = places_kept (λ (port : PortBit). port.output) c.args.flat.now.ports c.loop-place.place c.port-item.result lt (ap (λ (port : PortBit). port.output) (sym item) ∙ w.if-port.false) in
      ap (λ (v : _). v.items) w.ports-is ∙ (c.loop-place.invariant ∙ sym kept)
]

pub returns-clause-ok : goal.returns-clause-ok
unfolding outputs_of
returns-clause-ok c =
    let ge : length c.args.flat.now.ports ≤ c.loop-place.place = rw c.as_slice-port-items.ensures.value at c.loop-place-test.false in
    let le : c.loop-place.place ≤ length c.args.flat.now.ports = rw c.as_slice-port-items.ensures.value at c.loop-place.auto.place-end in
    c.loop-place.invariant ∙ ap (places_from (λ port. port.output) 0) (take_all_at c.args.flat.now.ports c.loop-place.place le ge)
