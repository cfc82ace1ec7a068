use Rattle.std.proofs.Common.{◌∙◌, ap, ap₂, length, ◌<◌, ◌≤◌, ◌++◌, ◌∷◌, [], ℕ, List, sym}
use Rattle.rsfq_ids.specs.Bench.{is_data}
use Rattle.rsfq_ids.specs.declared.circuit.PortUse.TheVariants as port_use
use Rattle.golden_aig.specs.Matched.{places_from, data_inputs}
use Rattle.golden_aig.proofs.PortLists.{places_more, places_kept, take_all_at}
use Rattle.miter_cnf.proofs.making.inputs_of.Goals as goal
use Rattle.miter_cnf.proofs.making.inputs_of.Goals.{then-is_data+in_ok-push, else-is_data}

pub loop-place-preserved : goal.loop-place-preserved
loop-place-preserved c = elim c.if-is_data.branch [
  | then-is_data+in_ok-push w ↦
      let lt : c.loop-place.place < length c.args.bench.now.uses = rw c.as_slice-used-items.ensures.value at c.loop-place-test.true in
      let is = rw c.as_slice-used-items.ensures.value at c.is_data.ensures in
      let more = places_more is_data c.args.bench.now.uses c.loop-place.place port_use.Clock lt (sym is ∙ w.if-is_data.true) in
      ap (λ (v : _). v.items) w.ports-is ∙ (w.in_ok-push.ensures.items ∙ (ap₂ (λ (ps : List ℕ) (p : ℕ). ps ++ p ∷ []) c.loop-place.invariant w.of.ensures ∙ sym more))
  | else-is_data w ↦
      let lt : c.loop-place.place < length c.args.bench.now.uses = rw c.as_slice-used-items.ensures.value at c.loop-place-test.true in
      let is = rw c.as_slice-used-items.ensures.value at c.is_data.ensures in
      let kept = places_kept is_data c.args.bench.now.uses c.loop-place.place port_use.Clock lt (sym is ∙ w.if-is_data.false) in
      ap (λ (v : _). v.items) w.ports-is ∙ (c.loop-place.invariant ∙ sym kept)
]

pub returns : goal.returns
unfolding data_inputs
returns c =
    let ge : length c.args.bench.now.uses ≤ c.loop-place.place = rw c.as_slice-used-items.ensures.value at c.loop-place-test.false in
    let le : c.loop-place.place ≤ length c.args.bench.now.uses = rw c.as_slice-used-items.ensures.value at c.loop-place.auto.place-end in
    c.loop-place.invariant ∙ ap (places_from is_data 0) (take_all_at c.args.bench.now.uses c.loop-place.place le ge)
