use Rattle.std.proofs.Common.{◌≡◌, ◌<◌, ℕ, List, length, get_or, Some, refl, sym, subst, arith}
use Rattle.std.specs.Prelude.{slice_get}
use Rattle.std.proofs.lemmas.Option.{slice_get_read, slice_get-get_or}
use Rattle.bind_forms.specs.declared.bound.BoundAssign.{BoundAssign}
use Rattle.flat_places.specs.Assigns.{new_places}
use Rattle.flat_places.proofs.Different.{new_below}
use Rattle.flattener.specs.Wiring.{AreNumbered}
use Rattle.flattener.proofs.Fresh.{links_more}
use Rattle.flattener.proofs.wiring.Wiring.add_assigns.Goals as goal

below : (assigns : List BoundAssign) (places : List ℕ) (i : ℕ) → places ≡ new_places assigns → i < length places → get_or places i 0 < length assigns
below assigns places i is low = new_below assigns i (get_or places i 0) (subst (λ (ps : List ℕ). slice_get ps i ≡ Some (get_or places i 0)) is (slice_get-get_or places i 0 low))

pub offset_bounds-assigns-place : goal.offset_bounds-assigns-place
offset_bounds-assigns-place c = let inside = below c.args.assigns.now c.args.places.now c.loop-place.place-index c.requires.places c.loop-place-test.true in omega (arith, inside)

pub bounds-assigns-place : goal.bounds-assigns-place
bounds-assigns-place c = below c.args.assigns.now c.args.places.now c.loop-place.place-index c.requires.places c.loop-place-test.true

pub push_assign-requires-clause-to : goal.push_assign-requires-clause-to
push_assign-requires-clause-to c =
    subst (λ (a : BoundAssign). AreNumbered c.args.offsets.now a.to) (sym c.index-assigns-place.is)
    (c.requires.parts (get_or c.args.places.now c.loop-place.place-index 0) c.index-assigns-place.result (below c.args.assigns.now c.args.places.now c.loop-place.place-index c.requires.places c.loop-place-test.true)).0

pub push_assign-requires-clause-from : goal.push_assign-requires-clause-from
push_assign-requires-clause-from c =
    subst (λ (a : BoundAssign). AreNumbered c.args.offsets.now a.from) (sym c.index-assigns-place.is)
    (c.requires.parts (get_or c.args.places.now c.loop-place.place-index 0) c.index-assigns-place.result (below c.args.assigns.now c.args.places.now c.loop-place.place-index c.requires.places c.loop-place-test.true)).1

pub loop-place-preserved : goal.loop-place-preserved
loop-place-preserved c =
    let assigns = c.args.assigns.now in
    let place = get_or c.args.places.now c.loop-place.place-index 0 in
    let one = c.index-assigns-place.result in
    let there = slice_get_read assigns (length assigns) place one refl (below assigns c.args.places.now c.loop-place.place-index c.requires.places c.loop-place-test.true) c.index-assigns-place.is in
    record {
      links = links_more c.args.offsets.now assigns c.args.places.now c.loop-place.place-index one c.loop-place.self.links.items c.push_assign.new.links.items _ c.loop-place-test.true there c.in_ok-push_assign.ensures c.loop-place.invariant.links;
      places = c.loop-place.invariant.places;
      cells = c.loop-place.invariant.cells;
      reads = c.loop-place.invariant.reads;
      outputs = c.loop-place.invariant.outputs;
    }
