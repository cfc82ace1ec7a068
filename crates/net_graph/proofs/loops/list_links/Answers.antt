use Rattle.std.proofs.Common.{◌≡◌, ◌+◌, ◌∙◌, Some, List, Vec, Global, ap, sym, subst}
use Rattle.std.specs.Prelude.{slice_get}
use Rattle.rsfq_ids.specs.declared.circuit.Pin.{Pin}
use Rattle.flat_aliases.specs.declared.link.Link.{Link}
use Rattle.net_graph.specs.Loops.{AreLinks}
use Rattle.net_graph.proofs.Got.{read_at}
use Rattle.net_graph.proofs.Links.{links_none, links_more, links_same}
use Rattle.net_graph.proofs.loops.list_links.Goals as goal
use Rattle.net_graph.proofs.loops.list_links.Goals.{in-Some+in_ok-push, in_default}

pub loop-place-init : goal.loop-place-init
loop-place-init c = subst (AreLinks c.args.flat.now 0) (sym c.new-links.ensures.items) (links_none c.args.flat.now)

pub loop-place-preserved : goal.loop-place-preserved
loop-place-preserved c =
    let flat = c.args.flat.now in
    let pins = c.as_slice-pin-items.result.now in
    let n = c.loop-place.place in
    let is : slice_get pins n ≡ Some c.pin-item.result = read_at pins n c.pin-item.result c.loop-place-test.true c.pin-item.is in
    let here : slice_get flat.pins n ≡ Some c.pin-item.result = subst (λ (ps : List Pin). slice_get ps n ≡ Some c.pin-item.result) c.as_slice-pin-items.ensures.value is in
    elim c.match-link_of.branch [
      | in-Some+in_ok-push w ↦
          let items = ap (λ (v : Vec Link Global). v.items) w.links-is ∙ w.in_ok-push.ensures.items in
          subst (AreLinks flat (n + 1)) (sym items) (links_more flat n c.loop-place.links.items c.pin-item.result w.in-Some.link c.loop-place.invariant here w.in-Some.ensures.some)
      | in_default w ↦
          let items = ap (λ (v : Vec Link Global). v.items) w.links-is in
          subst (AreLinks flat (n + 1)) (sym items) (links_same flat n c.loop-place.links.items c.pin-item.result c.loop-place.invariant here w.in_default.ensures.none)
    ]
