-- The lanes of pins, and the arcs of lanes, as they are read.
use Rattle.std.proofs.Common.{◌≡◌, inl, inr, ℕ, ◌+◌, ◌-◌, ◌<◌, ◌≤◌, Bool, true, false, ℤ, pos, ◌-ℤ◌, ◌≤ℤ◌, List, [], ◌∷◌, ◌++◌, map, length, get_or, take, drop, refl, sym, ap, ◌∙◌, subst, arith}
use Rattle.std.proofs.lemmas.Int.{ints}
use Rattle.std.proofs.lemmas.List.{same_lists, length-take, length-drop, get_or-take, get_or-drop, get_or_push, length_push, drop_more, get_or-map, take-append-drop}
use Rattle.std.proofs.lemmas.List.FromFn.{length-range_with_len, get_or-range_with_len}
use Rattle.std.proofs.lemmas.Option.{slice_get_within, get_or_from_slice_get}
use Rattle.std.specs.Prelude.{Some, slice_get}
use Rattle.std.specs.List.{range_with_len}
use Rattle.rsfq_ids.specs.declared.offence.PathArc.{PathArc}
use Rattle.rsfq_ids.specs.Design.{Design}
use Rattle.rsfq_ids.specs.Time.{IsWithin, total}
use Rattle.pulse_laws.specs.Spread.{IsSpread, IsReached}
use Rattle.lane_forest.specs.declared.node.LaneNode.{LaneNode}
use Rattle.lane_forest.specs.declared.growth.Span.{Span}
use Rattle.lane_forest.specs.Forest.{Grove, arcs_at, arcs_before, IsStoredLane, IsFirstPart, AreAlikeUpTo, DifferInArcs, IsShare, AreSumsOf, IsSpreadOf}
use Rattle.lane_forest.specs.Lanes.{HasSums}
use Rattle.lane_forest.specs.Growth.{span_lanes}
use Rattle.lane_forest.specs.Table.{LaneTable, AreLanes, most_sum, IsBoundedLane, IsBoundedSpread}
use Rattle.lane_forest.proofs.Spreading.{go_apart, spread_shared, spread_free, sums_within}

-- a part of all ids
pub range_part : (n from to : ℕ) → from ≤ to → to ≤ n → take (to - from) (drop from (range_with_len 0 n)) ≡ range_with_len from (to - from)
range_part n from to order inside =
    let l = length-range_with_len 0 n in
    let d = length-drop from (range_with_len 0 n) in
    let t = length-take (to - from) (drop from (range_with_len 0 n)) in
    let m = length-range_with_len from (to - from) in
    same_lists (take (to - from) (drop from (range_with_len 0 n))) (range_with_len from (to - from)) (omega arith)
    (λ k e below.
    get_or-take (to - from) (drop from (range_with_len 0 n)) k e (omega arith) ∙ get_or-drop from (range_with_len 0 n) k e ∙ get_or-range_with_len 0 n (from + k) e (omega arith)
    ∙ (let z : 0 + (from + k) ≡ from + k = omega arith in z) ∙ sym (get_or-range_with_len from (to - from) k e (omega arith)))

pub lanes_at : (spans : List Span) (pin : ℕ) (span : Span) (ids : List ℕ) (n : ℕ) → slice_get spans pin ≡ Some span → ids ≡ range_with_len 0 n → span.from ≤ span.to → span.to ≤ n → take (span.to - span.from) (drop span.from ids) ≡ get_or (map span_lanes spans) pin []
lanes_at spans pin span ids n has all order inside =
    ap (λ (xs : List ℕ). take (span.to - span.from) (drop span.from xs)) all ∙ range_part n span.from span.to order inside
    ∙ sym (get_or-map span_lanes spans pin span [] (slice_get_within spans pin span has) ∙ ap (λ (s : Span). range_with_len s.from (s.to - s.from)) (get_or_from_slice_get spans pin span span has))

-- the last arc of a first part is the arc at its end
pub last_at : (arcs : List (List PathArc)) (lane at place : ℕ) (node : LaneNode) (d : PathArc) → IsStoredLane arcs at node → IsFirstPart arcs lane at → length (arcs_at arcs at) ≡ place + 1 → get_or (arcs_at arcs lane) place d ≡ node.last
last_at arcs lane at place node d is part long =
    let l : length (arcs_at arcs at) ≡ length (arcs_before arcs node.parent) + 1 = ap (λ (xs : List PathArc). length xs) is.arcs_are ∙ length_push (arcs_before arcs node.parent) node.last in
    sym (get_or-take (length (arcs_at arcs at)) (arcs_at arcs lane) place d (omega arith)) ∙ ap (λ (xs : List PathArc). get_or xs place d) (sym part.first)
    ∙ ap (λ (xs : List PathArc). get_or xs place d) is.arcs_are ∙ get_or_push (arcs_before arcs node.parent) node.last d place (omega arith)

pub next_left : (arcs : List (List PathArc)) (lane at place count : ℕ) (node : LaneNode) (left : List PathArc) → drop place (arcs_at arcs lane) ≡ left → place < length (arcs_at arcs lane) → IsStoredLane arcs at node → IsFirstPart arcs lane at → length (arcs_at arcs at) ≡ place + 1 → left ≡ node.last ∷ drop (place + 1) (arcs_at arcs lane)
next_left arcs lane at place count node left were more is part long =
    sym were ∙ drop_more (arcs_at arcs lane) place node.last more ∙ ap (λ (a : PathArc). a ∷ drop (place + 1) (arcs_at arcs lane)) (last_at arcs lane at place node node.last is part long)

module _ (design : Design) (table : LaneTable) (are : AreLanes design table) where
  node_sums : (lane : ℕ) (node : LaneNode) → slice_get table.nodes lane ≡ Some node → HasSums design (arcs_at table.arcs lane) node.low node.high
  node_sums lane node has = (are.nodes lane node has).sums

  no_sums : HasSums design [] (pos 0) (pos 0)
  no_sums = record { lows = []; highs = []; least = tt; greatest = tt; low_is = refl; high_is = refl }

  share_sums : (grove : Grove) (arcs : List PathArc) (low high : ℤ) → grove.nodes ≡ table.nodes → grove.arcs ≡ table.arcs → AreSumsOf grove arcs low high → HasSums design arcs low high
  share_sums grove arcs low high nodes all (inl (none, l, h)) = subst (λ (xs : List PathArc). HasSums design xs low high) (sym none) (subst (λ (z : ℤ). HasSums design [] z high) (sym l) (subst (λ (z : ℤ). HasSums design [] (pos 0) z) (sym h) no_sums))
  share_sums grove arcs low high nodes all (inr (lane, node, has, same, l, h)) =
      let sums = node_sums lane node (subst (λ (xs : List LaneNode). slice_get xs lane ≡ Some node) nodes has) in
      subst (λ (z : ℤ). HasSums design arcs z high) (sym l) (subst (λ (z : ℤ). HasSums design arcs node.low z) (sym h) (subst (λ (xs : List PathArc). HasSums design xs node.low node.high) (sym (ap (λ (xss : List (List PathArc)). arcs_at xss lane) all) ∙ same) sums))

  spread_same : (grove : Grove) (a b : ℕ) (one other : LaneNode) (low high : ℤ) → grove.nodes ≡ table.nodes → grove.arcs ≡ table.arcs → slice_get table.nodes a ≡ Some one → slice_get table.nodes b ≡ Some other → IsShare grove a b low high →
      IsSpread design true (arcs_at table.arcs a) (arcs_at table.arcs b) ((one.low -ℤ low) -ℤ (other.high -ℤ high)) ((one.high -ℤ high) -ℤ (other.low -ℤ low))
  spread_same grove a b one other low high nodes all has has' share =
      let A : List PathArc = arcs_at table.arcs a in
      let B : List PathArc = arcs_at table.arcs b in
      let same_a : arcs_at grove.arcs a ≡ A = ap (λ (xss : List (List PathArc)). arcs_at xss a) all in
      let same_b : arcs_at grove.arcs b ≡ B = ap (λ (xss : List (List PathArc)). arcs_at xss b) all in
      let k = share.count in
      let alike : take k A ≡ take k B = ap (λ (xs : List PathArc). take k xs) (sym same_a) ∙ share.alike ∙ ap (λ (xs : List PathArc). take k xs) same_b in
      let whole_a : take k A ++ drop k A ≡ A = take-append-drop k A in
      let whole_b : take k A ++ drop k B ≡ B = ap (λ (xs : List PathArc). xs ++ drop k B) alike ∙ take-append-drop k B in
      let most : AreAlikeUpTo A B k = subst (λ (xs : List PathArc). AreAlikeUpTo xs B k) same_a (subst (λ (ys : List PathArc). AreAlikeUpTo (arcs_at grove.arcs a) ys k) same_b (share.most (subst (λ (xss : List (List PathArc)). DifferInArcs xss) (sym all) are.distinct))) in
      let n : length (take k A) ≡ k = (let i = share.in_first in let s : length (arcs_at grove.arcs a) ≡ length A = ap (λ (xs : List PathArc). length xs) same_a in let t = length-take k A in omega arith) in
      let front : HasSums design (take k A) low high = subst (λ (xs : List PathArc). HasSums design (take k xs) low high) same_a (share_sums grove (take k (arcs_at grove.arcs a)) low high nodes all share.sums) in
      let apart = go_apart (take k A) (drop k A) (drop k B) (subst (λ (m : ℕ). AreAlikeUpTo (take k A ++ drop k A) (take k A ++ drop k B) m) (sym n) (subst (λ (xs : List PathArc). AreAlikeUpTo xs (take k A ++ drop k B) k) (sym whole_a) (subst (λ (ys : List PathArc). AreAlikeUpTo A ys k) (sym whole_b) most))) in
      let spread = spread_shared design (take k A) (drop k A) (drop k B) one.low one.high other.low other.high low high
      (subst (λ (xs : List PathArc). HasSums design xs one.low one.high) (sym whole_a) (node_sums a one has)) (subst (λ (xs : List PathArc). HasSums design xs other.low other.high) (sym whole_b) (node_sums b other has')) front apart in
      subst (λ (xs : List PathArc). IsSpread design true xs B ((one.low -ℤ low) -ℤ (other.high -ℤ high)) ((one.high -ℤ high) -ℤ (other.low -ℤ low))) whole_a
      (subst (λ (ys : List PathArc). IsSpread design true (take k A ++ drop k A) ys ((one.low -ℤ low) -ℤ (other.high -ℤ high)) ((one.high -ℤ high) -ℤ (other.low -ℤ low))) whole_b spread)

  -- the bounds in numbers
  pub bounded_lane : (lane : ℕ) (node : LaneNode) → slice_get table.nodes lane ≡ Some node → IsBoundedLane node
  bounded_lane lane node has =
      let is = are.nodes lane node has in
      let short = is.short in
      let cells = are.cells in
      let small = is.summed.small in
      record { short = omega arith; natural = is.summed.natural; order = is.summed.order; small = omega (arith, ints) }

  difference_within : (same : Bool) (a b : ℕ) (one other : LaneNode) (difference : ℤ) → slice_get table.nodes a ≡ Some one → slice_get table.nodes b ≡ Some other → IsReached design same (arcs_at table.arcs a) (arcs_at table.arcs b) difference →
      IsWithin (pos 0 -ℤ pos most_sum) (pos most_sum) difference
  difference_within same a b one other difference has has' (delays, ends, together, is) =
      let x = bounded_lane a one has in
      let y = bounded_lane b other has' in
      let p = sums_within design (arcs_at table.arcs a) one.low one.high delays (node_sums a one has) together.first in
      let q = sums_within design (arcs_at table.arcs b) other.low other.high ends (node_sums b other has') together.second in
      let xn = x.natural in
      let xs = x.small in
      let yn = y.natural in
      let ys = y.small in
      let pf = p.from in
      let pt = p.to in
      let qf = q.from in
      let qt = q.to in
      record { from = omega (arith, ints); to = omega (arith, ints) }

  in_order : (same : Bool) (arcs others : List PathArc) (least most : ℤ) → IsSpread design same arcs others least most → IsReached design same arcs others least → least ≤ℤ most
  in_order same arcs others least most is (delays, ends, together, at) = let within = is.within delays ends together in let to = within.to in omega (arith, ints)

  less_none : (x y low high : ℤ) → low ≡ pos 0 → high ≡ pos 0 → ((x -ℤ low) -ℤ (y -ℤ high)) ≡ (x -ℤ y)
  less_none x y low high l h = omega (arith, ints)

  pub spread_is : (grove : Grove) (same : Bool) (a b : ℕ) (least most : ℤ) → grove.nodes ≡ table.nodes → grove.arcs ≡ table.arcs → IsSpreadOf grove same a b least most → IsSpread design same (arcs_at table.arcs a) (arcs_at table.arcs b) least most
  spread_is grove true a b least most nodes all of =
      let has = subst (λ (xs : List LaneNode). slice_get xs a ≡ Some of.one) nodes of.one_is in
      let has' = subst (λ (xs : List LaneNode). slice_get xs b ≡ Some of.other) nodes of.other_is in
      subst (λ (z : ℤ). IsSpread design true (arcs_at table.arcs a) (arcs_at table.arcs b) z most) (sym of.difference.0)
      (subst (λ (z : ℤ). IsSpread design true (arcs_at table.arcs a) (arcs_at table.arcs b) ((of.one.low -ℤ of.low) -ℤ (of.other.high -ℤ of.high)) z) (sym of.difference.1) (spread_same grove a b of.one of.other of.low of.high nodes all has has' (of.shared.0 refl)))
  spread_is grove false a b least most nodes all of =
      let has = subst (λ (xs : List LaneNode). slice_get xs a ≡ Some of.one) nodes of.one_is in
      let has' = subst (λ (xs : List LaneNode). slice_get xs b ≡ Some of.other) nodes of.other_is in
      let zero_of = of.shared.1 (λ e. cc) in
      subst (λ (z : ℤ). IsSpread design false (arcs_at table.arcs a) (arcs_at table.arcs b) z most) (sym (of.difference.0 ∙ less_none of.one.low of.other.high of.low of.high zero_of.0 zero_of.1))
      (subst (λ (z : ℤ). IsSpread design false (arcs_at table.arcs a) (arcs_at table.arcs b) (of.one.low -ℤ of.other.high) z) (sym (of.difference.1 ∙ less_none of.one.high of.other.low of.high of.low zero_of.1 zero_of.0))
      (spread_free design false (arcs_at table.arcs a) (arcs_at table.arcs b) of.one.low of.one.high of.other.low of.other.high (λ e. cc) (node_sums a of.one has) (node_sums b of.other has')))

  pub spread_bounded : (grove : Grove) (same : Bool) (a b : ℕ) (least most : ℤ) → grove.nodes ≡ table.nodes → grove.arcs ≡ table.arcs → IsSpreadOf grove same a b least most → IsBoundedSpread least most
  spread_bounded grove same a b least most nodes all of =
      let has = subst (λ (xs : List LaneNode). slice_get xs a ≡ Some of.one) nodes of.one_is in
      let has' = subst (λ (xs : List LaneNode). slice_get xs b ≡ Some of.other) nodes of.other_is in
      let is = spread_is grove same a b least most nodes all of in
      let low = difference_within same a b of.one of.other least has has' is.least in
      let high = difference_within same a b of.one of.other most has has' is.most in
      record { from = low.from; order = in_order same (arcs_at table.arcs a) (arcs_at table.arcs b) least most is is.least; to = high.to }
