-- All pins have their lanes.
use Rattle.std.proofs.Common.{◌≡◌, inl, inr, ℕ, zero, suc, ◌+◌, ◌-◌, ◌<◌, ◌≤◌, ◌↔◌, Bool, List, [], ◌∷◌, ◌++◌, map, length, get_or, take, drop, refl, sym, ap, ◌∙◌, subst, arith, length-append}
use Rattle.std.proofs.lemmas.List.{length_push, length-replicate, length-map, take_all, same_from_push, get_or_past, get_or-map, get_or_default, drop_at}
use Rattle.std.proofs.lemmas.List.Elements.{All-replicate, All-contains}
use Rattle.std.proofs.lemmas.List.Sums.{sum_by-cons}
use Rattle.std.proofs.lemmas.List.Folds.{sum_by-replicate}
use Rattle.std.proofs.lemmas.List.FromFn.{length-range_with_len}
use Rattle.std.proofs.lemmas.Bool.{cases_lt, cases_eq, cases_order}
use Rattle.std.proofs.lemmas.Option.{slice_get_within, slice_get-get_or}
use Rattle.std.specs.Prelude.{Option, Some, None, slice_get, replicate}
use Rattle.std.specs.List.{All, Contains, sum_by}
use Rattle.rsfq_ids.specs.declared.circuit.Pin.{Pin}
use Rattle.rsfq_ids.specs.declared.circuit.Bench.{Bench}
use Rattle.rsfq_ids.specs.declared.circuit.Driver.TheVariants as driver
use Rattle.rsfq_ids.specs.declared.circuit.Reader.TheVariants as reader
use Rattle.rsfq_ids.specs.declared.offence.PathArc.{PathArc}
use Rattle.rsfq_ids.specs.declared.offence.PathArc.TheVariants as arc
use Rattle.rsfq_ids.specs.Design.{Design}
use Rattle.rsfq_ids.specs.Circuit.{IsDrivenBy}
use Rattle.rsfq_ids.specs.Path.{IsRoute, IsPath}
use Rattle.rsfq_ids.specs.Ready.{IsReady, HasGoodShape}
use Rattle.net_graph.specs.Graph.{NetGraph, IsGraph}
use Rattle.clock_tree.specs.Clock.{design_of, IsClocked, GraphsAreReady}
use Rattle.lane_forest.specs.declared.node.LaneNode.{LaneNode}
use Rattle.lane_forest.specs.declared.growth.Span.{Span}
use Rattle.lane_forest.specs.declared.growth.Growth.{Growth}
use Rattle.lane_forest.specs.Gates.{gate_along}
use Rattle.lane_forest.specs.Forest.{arcs_at, arcs_before, IsStoredLane, AreAllLanes, DifferInArcs}
use Rattle.lane_forest.specs.Paths.{ComesBefore, ArePathsTo}
use Rattle.lane_forest.specs.Lanes.{FollowsParent}
use Rattle.lane_forest.specs.Growth.{HasReadyRank, span_lanes, lanes_in, paths_at, IsSpan, IsPinOrder, IsGrown}
use Rattle.lane_forest.specs.Table.{LaneTable, lanes_of, paths_of, AreLanes}
use Rattle.lane_forest.proofs.Routes.{route_last}
use Rattle.lane_forest.proofs.Short.{route_short}
use Rattle.lane_forest.proofs.Gates.{gate_is}
use Rattle.lane_forest.proofs.Grown.{count_few, lane_inside}

-- a design with its order is ready
pub ordered_of : (graph : NetGraph) (bench : Bench) (marks : List Bool) → GraphsAreReady → IsGraph graph → IsClocked (design_of graph bench) marks → HasReadyRank (design_of graph bench)
ordered_of graph bench marks law is clocked = let rank = law graph bench is (marks, clocked) in (rank.0, rank.1.ready)

abbrev no_span : Span
no_span = record { from = 0; to = 0 }

empty_at : (count pin : ℕ) → get_or (replicate count no_span) pin no_span ≡ no_span
empty_at zero pin = refl
empty_at (suc count) zero = refl
empty_at (suc count) (suc pin) = empty_at count pin

-- nothing has grown
pub grown_none : (design : Design) (pins : List ℕ) (growth : Growth) (count : ℕ) → count ≡ length design.flat.pins → growth.forest.nodes ≡ [] → growth.forest.arcs ≡ [] → growth.forest.gates ≡ [] → growth.spans.items ≡ replicate count (no_span) → IsGrown design pins 0 growth
grown_none design pins growth count many nodes arcs gates spans =
    let none : length growth.forest.nodes ≡ 0 = ap (λ (xs : List LaneNode). length xs) nodes in
    let none' : length growth.forest.arcs ≡ 0 = ap (λ (xs : List (List PathArc)). length xs) arcs in
    let l = length-replicate count (no_span) in
    record {
      safe = record {
        spans_many = ap (λ (xs : List Span). length xs) spans ∙ length-replicate count (no_span) ∙ many;
        spans_fit = subst (λ (xs : List Span). All (IsSpan (length growth.forest.nodes)) xs) (sym spans) (All-replicate (IsSpan (length growth.forest.nodes)) count (no_span) (record { order = omega arith; inside = omega arith; few = omega arith }));
        even = none' ∙ sym none;
        nodes = λ lane node has. (let b = slice_get_within growth.forest.nodes lane node has in absurd (omega arith));
        gates = gates ∙ ap (λ (xs : List (List PathArc)). map (gate_along design None) xs) (sym arcs);
        small = omega arith;
      };
      paths = λ pin end (k, b, e) is. absurd (omega arith);
      later = λ pin no. ap span_lanes (ap (λ (xs : List Span). get_or xs pin (no_span)) spans ∙ empty_at count pin);
      home = λ lane b. absurd (omega arith);
      total = none;
      whole = (let s = sum_by-replicate (λ (s : Span). s.to - s.from) count (no_span) in let e : sum_by (λ (s : Span). s.to - s.from) growth.spans.items ≡ sum_by (λ (s : Span). s.to - s.from) (replicate count (no_span)) = ap (λ (xs : List Span). sum_by (λ (s : Span). s.to - s.from) xs) spans in omega arith);
    }

-- a path leads to one net
module _ (design : Design) (rank : ℕ → ℕ) (ready : IsReady design rank) where
  pub route_net : (arcs : List PathArc) (net other : ℕ) → IsRoute design arcs net → IsRoute design arcs other → net ≡ other
  route_net arcs net other one two = elim (route_last design arcs net one) [
    | inl (port, is, driven) ↦
        (elim (route_last design arcs other two) [
          | inl (port', is', driven') ↦ (let e : arc.Port port ∷ [] ≡ arc.Port port' ∷ [] = sym is ∙ is' in let f : port ≡ port' = cc in ready.numbered.one_net (driver.Port port) net other driven (subst (λ (p : ℕ). IsDrivenBy design.flat other (driver.Port p)) (sym f) driven'))
          | inr b ↦ (let e = same_from_push [] b.before (arc.Port port) (arc.Through b.cell b.pin b.out) (sym is ∙ b.parts) in let f : arc.Port port ≡ arc.Through b.cell b.pin b.out = e.1 in cc)
        ])
    | inr a ↦
        (elim (route_last design arcs other two) [
          | inl (port', is', driven') ↦ (let e = same_from_push a.before [] (arc.Through a.cell a.pin a.out) (arc.Port port') (sym a.parts ∙ is') in let f : arc.Through a.cell a.pin a.out ≡ arc.Port port' = e.1 in cc)
          | inr b ↦
              (let e = same_from_push a.before b.before (arc.Through a.cell a.pin a.out) (arc.Through b.cell b.pin b.out) (sym a.parts ∙ b.parts) in
              let f : arc.Through a.cell a.pin a.out ≡ arc.Through b.cell b.pin b.out = e.1 in
              let cells : a.cell ≡ b.cell = cc in
              let outs : a.out ≡ b.out = cc in
              ready.numbered.one_net (driver.Out a.cell a.out) net other a.driven (subst (λ (c : ℕ). IsDrivenBy design.flat other (driver.Out c a.out)) (sym cells) (subst (λ (o : ℕ). IsDrivenBy design.flat other (driver.Out b.cell o)) (sym outs) b.driven)))
        ])
  ]

-- no path comes before itself
pub not_itself : (arcs : List PathArc) → ComesBefore arcs arcs → ⊥
not_itself arcs b =
    let one : List PathArc = arc.Through b.cell b.pin b.out ∷ b.rest in
    let two : List PathArc = arc.Through b.cell b.later b.out ∷ b.rest in
    let l = length-append b.before one in
    let m = length-append b.behind two in
    let n : length arcs ≡ length (b.before ++ one) = ap (λ (xs : List PathArc). length xs) b.one_is in
    let o : length arcs ≡ length (b.behind ++ two) = ap (λ (xs : List PathArc). length xs) b.other_is in
    let p : length b.before ≡ length b.behind = omega arith in
    let e : one ≡ two = sym (drop_at b.before one (length b.before) refl) ∙ ap (λ (xs : List PathArc). drop (length b.before) xs) (sym b.one_is ∙ b.other_is) ∙ drop_at b.behind two (length b.before) (sym p) in
    let f : b.pin ≡ b.later = cc in
    let g = b.earlier in omega arith

sum_lanes : (spans : List Span) → sum_by (λ (ls : List ℕ). length ls) (map span_lanes spans) ≡ sum_by (λ (s : Span). s.to - s.from) spans
sum_lanes [] = refl
sum_lanes (s ∷ spans) =
    let a = sum_by-cons (λ (ls : List ℕ). length ls) (span_lanes s) (map span_lanes spans) in
    let b = sum_by-cons (λ (t : Span). t.to - t.from) s spans in
    let more = sum_lanes spans in
    let l = length-range_with_len s.from (s.to - s.from) in omega arith

lanes_same : (spans : List Span) (pin : ℕ) → get_or (map span_lanes spans) pin [] ≡ lanes_in spans pin
lanes_same spans pin = elim (cases_lt pin (length spans)) [
  | inl inside ↦ get_or-map span_lanes spans pin no_span [] inside
  | inr past ↦ get_or_past (map span_lanes spans) pin [] (let n = length-map spans span_lanes in omega arith) ∙ ap span_lanes (sym (get_or_past spans pin no_span past))
]

root_is : (arcs : List (List PathArc)) (lane : ℕ) (node : LaneNode) (parent : Option ℕ) → node.parent ≡ parent → IsStoredLane arcs lane node → (parent ≡ None) ↔ (node.length ≡ 1)
root_is arcs lane node None has is =
    let one : length (arcs_at arcs lane) ≡ 1 = ap (λ (xs : List PathArc). length xs) (is.arcs_are ∙ ap (λ (o : Option ℕ). arcs_before arcs o ++ node.last ∷ []) has) in
    let same = is.length_is in (λ e. omega arith, λ e. refl)
root_is arcs lane node (Some p) has is =
    let more : length (arcs_at arcs lane) ≡ length (arcs_at arcs p) + 1 = ap (λ (xs : List PathArc). length xs) (is.arcs_are ∙ ap (λ (o : Option ℕ). arcs_before arcs o ++ node.last ∷ []) has) ∙ length_push (arcs_at arcs p) node.last in
    let same = is.length_is in
    let some = is.parent_some p has in (λ e. cc, λ e. absurd (omega arith))

module _ (graph : NetGraph) (bench : Bench) (ordered : HasReadyRank (design_of graph bench)) (shape : HasGoodShape (design_of graph bench)) (pins : List ℕ) (ord : IsPinOrder (design_of graph bench) graph.order pins) (place : ℕ) (all : length pins ≤ place)
    (growth : Growth) (grown : IsGrown (design_of graph bench) pins place growth) (stored : AreAllLanes growth.forest) (known : IsGraph graph) where
  abbrev pub table : LaneTable
  table = record { nodes = growth.forest.nodes; arcs = growth.forest.arcs; gates = growth.forest.gates; pins = map span_lanes growth.spans.items }

  whole : take place pins ≡ pins
  whole = take_all place pins all

  lanes_are_in : (pin : ℕ) → lanes_of table pin ≡ lanes_in growth.spans.items pin
  lanes_are_in pin = lanes_same growth.spans.items pin

  paths_are_in : (pin : ℕ) → paths_of table pin ≡ paths_at growth pin
  paths_are_in pin = ap (λ (ls : List ℕ). map (arcs_at growth.forest.arcs) ls) (lanes_are_in pin)

  paths_to : (pin : ℕ) (end : Pin) → slice_get graph.flat.pins pin ≡ Some end → ArePathsTo (design_of graph bench) end.net (paths_at growth pin)
  paths_to pin end is = grown.paths pin end (subst (λ (ps : List ℕ). Contains ps pin) (sym whole) (ord.each pin (slice_get_within graph.flat.pins pin end is))) is

  home_of : (lane : ℕ) → lane < length growth.forest.nodes → (pin : ℕ) × (pin < length graph.flat.pins) × Contains (lanes_in growth.spans.items pin) lane
  home_of lane l =
      let h = grown.home lane l in
      (h.0, All-contains (λ p. p < length graph.flat.pins) pins h.0 ord.inside (subst (λ (ps : List ℕ). Contains ps h.0) whole h.1), h.2)

  follows : (last : PathArc) (parent : Option ℕ) → FollowsParent (design_of graph bench) (lanes_in growth.spans.items) last parent → FollowsParent (design_of graph bench) (lanes_of table) last parent
  follows (arc.Port port) None is = is
  follows (arc.Port port) (Some parent) is = is
  follows (arc.Through cell input out) None is = is
  follows (arc.Through cell input out) (Some parent) (at, net, is, has) = (at, net, is, subst (λ (ls : List ℕ). Contains ls parent) (sym (lanes_are_in at)) has)

  end_of : (pin : ℕ) → pin < length graph.flat.pins → (end : Pin) × (slice_get graph.flat.pins pin ≡ Some end)
  end_of pin l = (get_or graph.flat.pins pin (record { reader = reader.Port 0; net = 0 }), slice_get-get_or graph.flat.pins pin (record { reader = reader.Port 0; net = 0 }) l)

  -- a lane stands among those of its pin, with its path
  path_at : (pin lane : ℕ) (end : Pin) → slice_get graph.flat.pins pin ≡ Some end → (has : Contains (lanes_in growth.spans.items pin) lane) → (d : List PathArc) → (has.0 < length (paths_at growth pin)) × (get_or (paths_at growth pin) has.0 d ≡ arcs_at growth.forest.arcs lane)
  path_at pin lane end is has d =
      let n = length-map (lanes_in growth.spans.items pin) (arcs_at growth.forest.arcs) in
      let l = has.1 in
      (omega arith, get_or-map (arcs_at growth.forest.arcs) (lanes_in growth.spans.items pin) has.0 lane d l ∙ ap (λ (k : ℕ). arcs_at growth.forest.arcs k) has.2)

  -- lanes of one pin with the same arcs are one
  one_lane : (pin a b : ℕ) (end : Pin) → slice_get graph.flat.pins pin ≡ Some end → (one : Contains (lanes_in growth.spans.items pin) a) → (other : Contains (lanes_in growth.spans.items pin) b) → arcs_at growth.forest.arcs a ≡ arcs_at growth.forest.arcs b → a ≡ b
  one_lane pin a b end is one other same =
      let P = paths_at growth pin in
      let x = path_at pin a end is one [] in
      let y = path_at pin b end is other [] in
      let order = (paths_to pin end is).ordered in
      elim (cases_order one.0 other.0) [
        | inl here ↦ (let e = get_or_default (lanes_in growth.spans.items pin) other.0 a b other.1 in sym one.2 ∙ ap (λ (k : ℕ). get_or (lanes_in growth.spans.items pin) k a) here ∙ e ∙ other.2)
        | inr (inl below) ↦ absurd (not_itself (arcs_at growth.forest.arcs b) (subst (λ (xs : List PathArc). ComesBefore xs (arcs_at growth.forest.arcs b)) (x.1 ∙ same) (subst (λ (ys : List PathArc). ComesBefore (get_or P one.0 []) ys) y.1 (order one.0 other.0 [] below y.0))))
        | inr (inr above) ↦ absurd (not_itself (arcs_at growth.forest.arcs a) (subst (λ (xs : List PathArc). ComesBefore xs (arcs_at growth.forest.arcs a)) (y.1 ∙ sym same) (subst (λ (ys : List PathArc). ComesBefore (get_or P other.0 []) ys) x.1 (order other.0 one.0 [] above x.0))))
      ]

  -- each lane is a path
  lane_path : (lane : ℕ) → lane < length growth.forest.nodes → (net : ℕ) × IsPath (design_of graph bench) (arcs_at growth.forest.arcs lane) net
  lane_path lane l =
      let h = home_of lane l in
      let end = end_of h.0 h.1 in
      let x = path_at h.0 lane end.0 end.1 h.2 [] in
      (end.0.net, subst (λ (xs : List PathArc). IsPath (design_of graph bench) xs end.0.net) x.1 ((paths_to h.0 end.0 end.1).each h.2.0 [] x.0))

  lane_short : (lane : ℕ) → lane < length growth.forest.nodes → length (arcs_at growth.forest.arcs lane) ≤ length graph.flat.cells + 1
  lane_short lane l = let path = lane_path lane l in route_short (design_of graph bench) graph.order known.ordered (arcs_at growth.forest.arcs lane) path.0 path.1.route

  distinct : DifferInArcs growth.forest.arcs
  distinct a b l m same =
      let e = grown.safe.even in
      let h = home_of a (omega arith) in
      let k = home_of b (omega arith) in
      let hp = end_of h.0 h.1 in
      let kp = end_of k.0 k.1 in
      let x = path_at h.0 a hp.0 hp.1 h.2 [] in
      let y = path_at k.0 b kp.0 kp.1 k.2 [] in
      let p = subst (λ (xs : List PathArc). IsPath (design_of graph bench) xs hp.0.net) x.1 ((paths_to h.0 hp.0 hp.1).each h.2.0 [] x.0) in
      let q = subst (λ (xs : List PathArc). IsPath (design_of graph bench) xs kp.0.net) (y.1 ∙ sym same) ((paths_to k.0 kp.0 kp.1).each k.2.0 [] y.0) in
      let nets : hp.0.net ≡ kp.0.net = route_net (design_of graph bench) ordered.0 ordered.1 (arcs_at growth.forest.arcs a) hp.0.net kp.0.net p.route q.route in
      elim (cases_eq h.0 k.0) [
        | inl here ↦ one_lane k.0 a b kp.0 kp.1 (subst (λ (pin : ℕ). Contains (lanes_in growth.spans.items pin) a) here h.2) k.2 same
        | inr apart ↦ absurd (shape.fanout hp.0.net h.0 k.0 (apart, (hp.0.reader, kp.0.reader, hp.1, kp.1 ∙ ap (λ (n : ℕ). Some (record { reader = kp.0.reader; net = n })) (sym nets))))
      ]

  pub lanes_are : AreLanes (design_of graph bench) table
  lanes_are = record {
    pins_many = length-map growth.spans.items span_lanes ∙ grown.safe.spans_many;
    paths = λ pin end is. subst (λ (ps : List (List PathArc)). ArePathsTo (design_of graph bench) end.net ps) (sym (paths_are_in pin)) (paths_to pin end is);
    few = λ pin. subst (λ (ls : List ℕ). length ls ≤ 64) (sym (lanes_are_in pin)) (count_few (design_of graph bench) growth grown.safe pin);
    inside = λ pin lane has. lane_inside (design_of graph bench) growth grown.safe pin lane (subst (λ (ls : List ℕ). Contains ls lane) (lanes_are_in pin) has);
    home = λ lane l. (let h = home_of lane l in (h.0, h.1, subst (λ (ls : List ℕ). Contains ls lane) (sym (lanes_are_in h.0)) h.2));
    even = grown.safe.even;
    nodes = λ lane node has.
        (let is = stored lane node has in
        let more = grown.safe.nodes lane node has in
        record { arcs = is.arcs_are; length_is = is.length_is; root = root_is growth.forest.arcs lane node node.parent refl is; parent = follows node.last node.parent more.parent; sums = more.sums; short = (let s = lane_short lane (slice_get_within growth.forest.nodes lane node has) in let n = is.length_is in omega arith); summed = is.summed });
    gates = λ lane l. gate_is (design_of graph bench) growth.forest lane grown.safe.gates (let e = grown.safe.even in omega arith);
    distinct = distinct;
    total = grown.whole ∙ sym (sum_lanes growth.spans.items);
    small = grown.safe.small;
    cells = known.flat_fits.cells;
  }
