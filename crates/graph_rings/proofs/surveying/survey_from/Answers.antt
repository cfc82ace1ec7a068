use Rattle.std.proofs.Common.{◌≡◌, ◌∙◌, sym, subst, ap, List, Bool, map}
use Rattle.graph_rings.specs.declared.search.Mark.{Mark}
use Rattle.graph_rings.specs.Search.{is_done, is_on_ring}
use Rattle.graph_rings.specs.Graph.{IsSurvey}
use Rattle.graph_rings.proofs.Finishing.{surveyed}
use Rattle.graph_rings.proofs.surveying.survey_from.Goals as goal

pub returns : goal.returns
returns c =
    let s = c.in_ok-search.search in
    let whole : IsSurvey c.args.graph.now c.args.start (map is_done s.marks.items) (map is_on_ring s.marks.items) s.order.items = surveyed c.args.graph.now c.args.start s c.in_ok-search.ensures in
    let reached_is : c.in_ok-reached.reached.items ≡ map is_done s.marks.items = c.in_ok-reached.ensures ∙ ap (λ (l : List Mark). map is_done l) c.as_slice.ensures.value in
    let on_ring_is : c.in_ok-on_ring.on_ring.items ≡ map is_on_ring s.marks.items = c.in_ok-on_ring.ensures ∙ ap (λ (l : List Mark). map is_on_ring l) c.as_slice-2.ensures.value in
    subst (λ (l : List Bool). IsSurvey c.args.graph.now c.args.start c.in_ok-reached.reached.items l s.order.items) (sym on_ring_is)
    (subst (λ (l : List Bool). IsSurvey c.args.graph.now c.args.start l (map is_on_ring s.marks.items) s.order.items) (sym reached_is) whole)
