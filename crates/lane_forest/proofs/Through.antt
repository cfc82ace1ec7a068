-- The lanes to a net, made from those of the cell that drives it.
use Rattle.std.proofs.Common.{◌≡◌, ℕ, zero, suc, ◌+◌, ◌-◌, ◌<◌, ◌≤◌, Bool, List, [], ◌∷◌, ◌++◌, map, length, refl, sym, ap, ◌∙◌, subst, arith, length-append}
use Rattle.std.proofs.lemmas.List.{length_push, append-nil, append_assoc, length-map}
use Rattle.std.proofs.lemmas.List.FromFn.{length-range_with_len, get_or-range_with_len}
use Rattle.std.proofs.lemmas.Option.{get_or_from_slice_get}
use Rattle.std.specs.Prelude.{Some, None, slice_get}
use Rattle.std.specs.List.{Contains, range_with_len}
use Rattle.rsfq_ids.specs.declared.table.CellRow.{CellRow}
use Rattle.rsfq_ids.specs.declared.circuit.Driver.TheVariants as driver
use Rattle.rsfq_ids.specs.declared.circuit.Reader.TheVariants as reader
use Rattle.rsfq_ids.specs.declared.offence.PathArc.{PathArc}
use Rattle.rsfq_ids.specs.declared.offence.PathArc.TheVariants as arc
use Rattle.rsfq_ids.specs.Design.{Design}
use Rattle.rsfq_ids.specs.Circuit.{IsPin, IsOf, IsDrivenBy, is_gate}
use Rattle.rsfq_ids.specs.Path.{passes}
use Rattle.lane_forest.specs.declared.node.DelayRange.{DelayRange}
use Rattle.lane_forest.specs.declared.growth.Span.{Span}
use Rattle.lane_forest.specs.declared.growth.Growth.{Growth}
use Rattle.lane_forest.specs.Forest.{arcs_at, rooted, AreBehind, AreGatesBehind}
use Rattle.lane_forest.specs.Paths.{ArePathsTo}
use Rattle.lane_forest.specs.Growth.{IsPassedRange, HasDelayRange, HasReadyRank, lanes_in, paths_at, IsSpan, IsSafe, IsMade, through, joined, IsThrough}
use Rattle.lane_forest.proofs.Grows.{at_kept}
use Rattle.lane_forest.proofs.Lists.{map_agree, map_twice}
use Rattle.lane_forest.proofs.Gates.{gates_planted, gates_behind}
use Rattle.lane_forest.proofs.Joined.{groups_push, joined_push, port_paths, joined_paths}
use Rattle.lane_forest.proofs.Nodes.{nodes_planted, nodes_behind}

pub range_contains : (a n k : ℕ) → a ≤ k → k < a + n → Contains (range_with_len a n) k
range_contains a n k l m = (k - a, (let e = length-range_with_len a n in omega arith), get_or-range_with_len a n (k - a) k (omega arith) ∙ (let e : a + (k - a) ≡ k = omega arith in e))

-- what was made of one arc from a port
pub made_from_port : (design : Design) (ordered : HasReadyRank design) (net port : ℕ) (delay : DelayRange) (old new : Growth) → IsDrivenBy design.flat net (driver.Port port) → IsSafe design old → HasDelayRange design (arc.Port port) delay → new.spans.items ≡ old.spans.items →
    new.forest.nodes ≡ old.forest.nodes ++ rooted (arc.Port port) delay.low delay.high ∷ [] → new.forest.arcs ≡ old.forest.arcs ++ (arc.Port port ∷ []) ∷ [] → new.forest.gates ≡ old.forest.gates ++ None ∷ [] → IsMade design net old new
made_from_port design ordered net port delay old new driven safe has spans nodes arcs gates = record {
  paths = (arc.Port port ∷ []) ∷ [];
  are = port_paths design ordered.0 ordered.1 port net driven;
  spans = spans;
  arcs = arcs;
  even = ap (λ (xs : List (List PathArc)). length xs) arcs ∙ length_push old.forest.arcs (arc.Port port ∷ []) ∙ ap (λ (n : ℕ). n + 1) safe.even ∙ sym (length_push old.forest.nodes (rooted (arc.Port port) delay.low delay.high)) ∙ ap (λ (xs : List _). length xs) (sym nodes);
  nodes = nodes_planted design old.spans.items old.forest new.forest port delay safe.nodes safe.even has nodes arcs;
  gates = gates_planted design old.forest new.forest port safe.gates gates arcs;
  few = omega arith;
}

module _ (design : Design) (cell out first : ℕ) (old : Growth) (safe : IsSafe design old) where
  pub through_none : IsThrough design cell out first first old old
  through_none = record { groups = []; many = omega arith; are = tt; spans = refl; arcs = sym (append-nil old.forest.arcs); even = safe.even; nodes = safe.nodes; gates = safe.gates; few = omega arith }

  module _ (mid new : Growth) (pin at net : ℕ) (span : Span) (delay : DelayRange) (is : IsThrough design cell out first pin old mid) (here : IsPin design.flat at (reader.Pin cell pin) net) (at_is : slice_get old.spans.items at ≡ Some span) (fits : IsSpan (length old.forest.nodes) span)
      (paths : ArePathsTo design net (paths_at old at)) (has : HasDelayRange design (arc.Through cell pin out) delay) (spans : new.spans.items ≡ mid.spans.items) (behind : AreBehind mid.forest new.forest span.from span.to (arc.Through cell pin out) delay.low delay.high)
      (gated : Bool) (same : passes is_gate design (arc.Through cell pin out) ≡ gated) (gates : AreGatesBehind mid.forest new.forest span.from span.to (arc.Through cell pin out) gated) where
    lanes_are : lanes_in old.spans.items at ≡ range_with_len span.from (span.to - span.from)
    lanes_are = ap (λ (s : Span). range_with_len s.from (s.to - s.from)) (get_or_from_slice_get old.spans.items at span (record { from = 0; to = 0 }) at_is)

    mid_at : (lane : ℕ) → lane < length old.forest.arcs → arcs_at mid.forest.arcs lane ≡ arcs_at old.forest.arcs lane
    mid_at lane l = ap (λ (xs : List (List PathArc)). arcs_at xs lane) is.arcs ∙ at_kept old.forest.arcs (joined cell out first is.groups) lane l

    added : map (λ lane. arcs_at mid.forest.arcs lane ++ arc.Through cell pin out ∷ []) (range_with_len span.from (span.to - span.from)) ≡ map (through cell pin out) (paths_at old at)
    added =
        let o = fits.order in
        let i = fits.inside in
        let e = safe.even in
        map_agree (λ lane. arcs_at mid.forest.arcs lane ++ arc.Through cell pin out ∷ []) (λ lane. through cell pin out (arcs_at old.forest.arcs lane)) span.from (span.to - span.from)
        (λ k l m. ap (λ (xs : List PathArc). xs ++ arc.Through cell pin out ∷ []) (mid_at k (omega arith)))
        ∙ sym (map_twice (arcs_at old.forest.arcs) (through cell pin out) (range_with_len span.from (span.to - span.from)))
        ∙ ap (λ (ls : List ℕ). map (through cell pin out) (map (arcs_at old.forest.arcs) ls)) (sym lanes_are)

    added_many : length (map (through cell pin out) (paths_at old at)) ≡ span.to - span.from
    added_many =
        length-map (paths_at old at) (through cell pin out) ∙ length-map (lanes_in old.spans.items at) (arcs_at old.forest.arcs) ∙ ap (λ (ls : List ℕ). length ls) lanes_are ∙ length-range_with_len span.from (span.to - span.from)

    pub through_more : IsThrough design cell out first (pin + 1) old new
    through_more =
        let push = joined_push cell out first pin is.groups (paths_at old at) is.many in
        record {
          groups = is.groups ++ paths_at old at ∷ [];
          many = (let m = is.many in let n = length_push is.groups (paths_at old at) in omega arith);
          are = groups_push design cell first pin net is.groups (paths_at old at) is.are is.many (at, here) paths;
          spans = spans ∙ is.spans;
          arcs = behind.arcs ∙ ap (λ (xs : List (List PathArc)). mid.forest.arcs ++ xs) added ∙ ap (λ (xs : List (List PathArc)). xs ++ map (through cell pin out) (paths_at old at)) is.arcs
              ∙ append_assoc old.forest.arcs (joined cell out first is.groups) (map (through cell pin out) (paths_at old at)) ∙ ap (λ (xs : List (List PathArc)). old.forest.arcs ++ xs) (sym push);
          even = (let k = behind.many in let e = is.even in
              let n : length new.forest.arcs ≡ length mid.forest.arcs + (span.to - span.from) = ap (λ (xs : List (List PathArc)). length xs) (behind.arcs ∙ ap (λ (xs : List (List PathArc)). mid.forest.arcs ++ xs) added) ∙ length-append mid.forest.arcs (map (through cell pin out) (paths_at old at)) ∙ ap (λ (j : ℕ). length mid.forest.arcs + j) added_many in omega arith);
          nodes = nodes_behind design old.spans.items mid.forest new.forest cell pin out at net span.from span.to delay is.nodes is.even has here
              (λ lane l m. subst (λ (ls : List ℕ). Contains ls lane) (sym lanes_are) (range_contains span.from (span.to - span.from) lane l (let o = fits.order in omega arith))) behind;
          gates = gates_behind design mid.forest new.forest span.from span.to (arc.Through cell pin out) gated is.gates same
              (let i = fits.inside in let e = safe.even in let n : length mid.forest.arcs ≡ length old.forest.arcs + length (joined cell out first is.groups) = ap (λ (xs : List (List PathArc)). length xs) is.arcs ∙ length-append old.forest.arcs (joined cell out first is.groups) in omega arith)
              behind.arcs gates;
          few = (let f = fits.few in let g = is.few in let m = length_push is.groups (paths_at old at) in
              let n : length (joined cell out first (is.groups ++ paths_at old at ∷ [])) ≡ length (joined cell out first is.groups) + (span.to - span.from) = ap (λ (xs : List (List PathArc)). length xs) push ∙ length-append (joined cell out first is.groups) (map (through cell pin out) (paths_at old at)) ∙ ap (λ (j : ℕ). length (joined cell out first is.groups) + j) added_many in omega arith);
        }

  -- all pins were gone through
  pub through_all : (ordered : HasReadyRank design) (new : Growth) (net count : ℕ) (row : CellRow) → IsOf design cell row → IsDrivenBy design.flat net (driver.Out cell out) → IsPassedRange row first count → IsThrough design cell out first (first + count) old new → IsMade design net old new
  through_all ordered new net count row of driven range is =
      let m = is.many in
      let c = range.few in
      let f = is.few in
      record {
        paths = joined cell out first is.groups;
        are = joined_paths design ordered.0 ordered.1 cell out net row of driven first is.groups is.are (λ k l n. range.passed k l (omega arith)) (λ k p. let b = range.only k p in let lo = b.0 in let hi = b.1 in (lo, omega arith));
        spans = is.spans;
        arcs = is.arcs;
        even = is.even;
        nodes = is.nodes;
        gates = is.gates;
        few = omega arith;
      }
