use Rattle.std.proofs.Common.{◌≡◌, ◌∙◌, Bool, true, false, sym, take}
use Rattle.std.specs.Prelude.{not}
use Rattle.flat_places.specs.Assigns.{assign_key, has_key}
use Rattle.flattener.proofs.Fresh.{seen_more, key_is_new, places_more}
use Rattle.flattener.proofs.assigns.new_places.Goals as goal
use Rattle.flattener.proofs.assigns.new_places.Goals.{then-branch+in_ok-push, else-branch}

pub loop-at-preserved : goal.loop-at-preserved
loop-at-preserved c =
    let assigns = c.args.assigns.now in
    let at = c.loop-at.at in
    let one = c.index-assigns-at.result in
    let key = c.in_ok-key.key in
    let fresh : c.in_ok-insert.field-0 ≡ not (has_key (take at assigns) (assign_key one)) = key_is_new (take at assigns) c.loop-at.seen key one c.in_ok-insert.field-0 c.in_ok-key.ensures c.in_ok-insert.ensures.added c.loop-at.invariant.seen in
    record {
      seen = seen_more assigns at one c.loop-at.seen c.insert.new.self key c.loop-at-test.true c.index-assigns-at.is c.in_ok-key.ensures c.in_ok-insert.ensures.updates c.loop-at.invariant.seen;
      places = elim c.if-branch.branch [
        | then-branch+in_ok-push w ↦
            places_more assigns at one c.loop-at.places c.if-branch.places _ true c.loop-at-test.true c.index-assigns-at.is (sym w.if-branch.true ∙ fresh) (w.places-is ∙ w.in_ok-push.ensures.ok) c.loop-at.invariant.places
        | else-branch w ↦ places_more assigns at one c.loop-at.places c.if-branch.places _ false c.loop-at-test.true c.index-assigns-at.is (sym w.if-branch.false ∙ fresh) w.places-is c.loop-at.invariant.places
      ];
    }
