-- What is stored of lanes, as more are added.
use Rattle.std.proofs.Common.{◌≡◌, inl, inr, ℕ, ◌<◌, ◌≤◌, ℤ, pos, ◌+ℤ◌, ◌≤ℤ◌, w64, List, [], ◌∷◌, ◌++◌, length, sym, ap, ◌∙◌, subst, arith}
use Rattle.std.proofs.lemmas.Int.{ints, to_z-of_z}
use Rattle.std.proofs.lemmas.Option.{slice_get_within}
use Rattle.std.specs.Prelude.{Some, slice_get}
use Rattle.std.specs.List.{AllZip, Contains}
use Rattle.rsfq_ids.specs.declared.table.CellRow.{CellRow}
use Rattle.rsfq_ids.specs.declared.circuit.PortUse.{PortUse}
use Rattle.rsfq_ids.specs.declared.circuit.PortUse.TheVariants as port_use
use Rattle.rsfq_ids.specs.declared.circuit.Reader.TheVariants as reader
use Rattle.rsfq_ids.specs.declared.offence.PathArc.{PathArc}
use Rattle.rsfq_ids.specs.declared.offence.PathArc.TheVariants as arc
use Rattle.rsfq_ids.specs.Design.{Design}
use Rattle.rsfq_ids.specs.Time.{IsWithin, total}
use Rattle.rsfq_ids.specs.Bench.{IsUsed}
use Rattle.rsfq_ids.specs.Run.{IsPortDelay}
use Rattle.rsfq_ids.specs.Circuit.{IsPin, IsOf}
use Rattle.rsfq_ids.specs.WellFormed.{IsRow, IsTime}
use Rattle.lane_forest.specs.declared.node.LaneNode.{LaneNode}
use Rattle.lane_forest.specs.declared.node.DelayRange.{DelayRange}
use Rattle.lane_forest.specs.declared.growth.Span.{Span}
use Rattle.lane_forest.specs.Forest.{Grove, arcs_at, rooted, AreBehind}
use Rattle.lane_forest.specs.Lanes.{IsLeastDelay, IsGreatestDelay, HasSums, IsNode}
use Rattle.lane_forest.specs.Growth.{HasDelayRange, lanes_in, AreNodes}
use Rattle.lane_forest.proofs.Casts.{kept}
use Rattle.lane_forest.proofs.Grows.{at_kept, at_push, slice_get_push}
use mir.Val.{SFits}

pub zip_push : {A B : Type 0} (R : A → B → Type 0) (xs : List A) (ys : List B) (x : A) (y : B) → AllZip R xs ys → R x y → AllZip R (xs ++ x ∷ []) (ys ++ y ∷ [])
zip_push R [] [] x y zip last = (last, tt)
zip_push R [] (z ∷ ys) x y zip last = absurd zip
zip_push R (w ∷ xs) [] x y zip last = absurd zip
zip_push R (w ∷ xs) (z ∷ ys) x y zip last = (zip.0, zip_push R xs ys x y zip.1 last)

pub total-push : (ds : List ℤ) (d : ℤ) → total (ds ++ d ∷ []) ≡ (total ds +ℤ d)
total-push [] d = omega (arith, ints)
total-push (e ∷ ds) d = let more = total-push ds d in omega (arith, ints)

module _ (design : Design) where
  -- the same interval as it is kept
  pub interval_kept : (a : PathArc) (low high : ℤ) → HasDelayRange design a (record { low = low; high = high }) → HasDelayRange design a (record { low = kept low; high = kept high })
  interval_kept a low high has =
      let n = has.bounded.natural in
      let o = has.bounded.order in
      let s = has.bounded.small in
      let fl : SFits w64 low = omega (arith, ints) in
      let fh : SFits w64 high = omega (arith, ints) in
      subst (λ (z : ℤ). HasDelayRange design a (record { low = z; high = kept high })) (sym (to_z-of_z w64 low fl)) (subst (λ (z : ℤ). HasDelayRange design a (record { low = low; high = z })) (sym (to_z-of_z w64 high fh)) has)

  port_least : (used : PortUse) (port : ℕ) (delay : ℤ) → IsUsed design.bench port used → ((other : ℤ) → IsPortDelay design.bench used other → delay ≤ℤ other) → IsPortDelay design.bench used delay → IsLeastDelay design (arc.Port port) delay
  port_least used port delay is least may = record {
    may = (used, is, may);
    least = λ other (used', is', may'). (let e : Some used' ≡ Some used = sym is' ∙ is in let f : used' ≡ used = cc in least other (subst (λ (u : PortUse). IsPortDelay design.bench u other) f may'));
  }

  port_greatest : (used : PortUse) (port : ℕ) (delay : ℤ) → IsUsed design.bench port used → ((other : ℤ) → IsPortDelay design.bench used other → other ≤ℤ delay) → IsPortDelay design.bench used delay → IsGreatestDelay design (arc.Port port) delay
  port_greatest used port delay is greatest may = record {
    may = (used, is, may);
    greatest = λ other (used', is', may'). (let e : Some used' ≡ Some used = sym is' ∙ is in let f : used' ≡ used = cc in greatest other (subst (λ (u : PortUse). IsPortDelay design.bench u other) f may'));
  }

  pub clock_interval : (port : ℕ) → IsUsed design.bench port port_use.Clock → IsTime design.bench.jitter → HasDelayRange design (arc.Port port) (record { low = pos 0; high = design.bench.jitter })
  clock_interval port is time =
      let f = time.from in
      let t = time.to in
      record {
        least = port_least port_use.Clock port (pos 0) is (λ other may. may.from) (record { from = omega (arith, ints); to = f });
        greatest = port_greatest port_use.Clock port design.bench.jitter is (λ other may. may.to) (record { from = f; to = omega (arith, ints) });
        bounded = record { natural = omega (arith, ints); order = f; small = t };
      }

  pub arrival_interval : (port : ℕ) (low high : ℤ) → IsUsed design.bench port (port_use.Arrival low high) → IsTime low → IsTime high → low ≤ℤ high → HasDelayRange design (arc.Port port) (record { low = low; high = high })
  arrival_interval port low high is least most order =
      let f = least.from in
      let t = most.to in
      record {
        least = port_least (port_use.Arrival low high) port low is (λ other may. may.from) (record { from = omega (arith, ints); to = order });
        greatest = port_greatest (port_use.Arrival low high) port high is (λ other may. may.to) (record { from = order; to = omega (arith, ints) });
        bounded = record { natural = f; order = order; small = t };
      }

  cell_bounds : (cell pin out : ℕ) (row : CellRow) → IsOf design cell row → IsRow row → HasDelayRange design (arc.Through cell pin out) (record { low = row.low; high = row.high })
  cell_bounds cell pin out row of is =
      let l = is.low in
      let h = is.high in
      let o = is.delays in
      let f = l.from in
      let t = h.to in
      record {
        least = record { may = (row, of, record { from = omega (arith, ints); to = o }); least = λ other (row', of', may). (let e : Some row' ≡ Some row = sym of' ∙ of in let g : row' ≡ row = cc in (subst (λ (r : CellRow). IsWithin r.low r.high other) g may).from) };
        greatest = record { may = (row, of, record { from = o; to = omega (arith, ints) }); greatest = λ other (row', of', may). (let e : Some row' ≡ Some row = sym of' ∙ of in let g : row' ≡ row = cc in (subst (λ (r : CellRow). IsWithin r.low r.high other) g may).to) };
        bounded = record { natural = f; order = o; small = t };
      }

  pub cell_interval : (cell pin out : ℕ) (row : CellRow) (delay : DelayRange) → IsOf design cell row → IsRow row → delay.low ≡ row.low → delay.high ≡ row.high → HasDelayRange design (arc.Through cell pin out) delay
  cell_interval cell pin out row delay of is low_is high_is =
      let whole = cell_bounds cell pin out row of is in
      subst (λ (z : ℤ). HasDelayRange design (arc.Through cell pin out) (record { low = z; high = delay.high })) (sym low_is) (subst (λ (z : ℤ). HasDelayRange design (arc.Through cell pin out) (record { low = row.low; high = z })) (sym high_is) whole)

  pub sums_one : (a : PathArc) (delay : DelayRange) → HasDelayRange design a delay → HasSums design (a ∷ []) delay.low delay.high
  sums_one a delay has = record { lows = delay.low ∷ []; highs = delay.high ∷ []; least = (has.least, tt); greatest = (has.greatest, tt); low_is = omega (arith, ints); high_is = omega (arith, ints) }

  pub sums_more : (arcs : List PathArc) (a : PathArc) (low high : ℤ) (delay : DelayRange) → HasSums design arcs low high → HasDelayRange design a delay → HasSums design (arcs ++ a ∷ []) (low +ℤ delay.low) (high +ℤ delay.high)
  sums_more arcs a low high delay sums has =
      let x = sums.low_is in
      let y = sums.high_is in
      let u = total-push sums.lows delay.low in
      let v = total-push sums.highs delay.high in
      record {
        lows = sums.lows ++ delay.low ∷ [];
        highs = sums.highs ++ delay.high ∷ [];
        least = zip_push (IsLeastDelay design) arcs sums.lows a delay.low sums.least has.least;
        greatest = zip_push (IsGreatestDelay design) arcs sums.highs a delay.high sums.greatest has.greatest;
        low_is = omega (arith, ints);
        high_is = omega (arith, ints);
      }

  module _ (lanes : ℕ → List ℕ) where
    node_over : (arcs others : List (List PathArc)) (lane : ℕ) (node : LaneNode) → arcs_at others lane ≡ arcs_at arcs lane → IsNode design lanes arcs lane node → IsNode design lanes others lane node
    node_over arcs others lane node same is = record { parent = is.parent; sums = subst (λ (xs : List PathArc). HasSums design xs node.low node.high) (sym same) is.sums }

  -- a lane from a port
  pub nodes_planted : (spans : List Span) (old new : Grove) (port : ℕ) (delay : DelayRange) → AreNodes design spans old → length old.arcs ≡ length old.nodes → HasDelayRange design (arc.Port port) delay → new.nodes ≡ old.nodes ++ rooted (arc.Port port) delay.low delay.high ∷ [] →
      new.arcs ≡ old.arcs ++ (arc.Port port ∷ []) ∷ [] → AreNodes design spans new
  nodes_planted spans old new port delay are even has nodes arcs lane node at = elim (slice_get_push old.nodes (rooted (arc.Port port) delay.low delay.high) node lane (subst (λ (xs : List LaneNode). slice_get xs lane ≡ Some node) nodes at)) [
    | inl was ↦
        (let l = slice_get_within old.nodes lane node was in
        node_over (lanes_in spans) old.arcs new.arcs lane node (ap (λ (xs : List (List PathArc)). arcs_at xs lane) arcs ∙ at_kept old.arcs ((arc.Port port ∷ []) ∷ []) lane (omega arith)) (are lane node was))
    | inr (here, same) ↦
        (let one : arcs_at new.arcs lane ≡ arc.Port port ∷ [] = ap (λ (xs : List (List PathArc)). arcs_at xs lane) arcs ∙ at_push old.arcs (arc.Port port ∷ []) lane (omega arith) in
        subst (λ (n : LaneNode). IsNode design (lanes_in spans) new.arcs lane n) same
        (record { parent = tt; sums = subst (λ (xs : List PathArc). HasSums design xs delay.low delay.high) (sym one) (sums_one (arc.Port port) delay has) }))
  ]

  -- lanes behind those of a pin
  pub nodes_behind : (spans : List Span) (old new : Grove) (cell pin out at net from to : ℕ) (delay : DelayRange) → AreNodes design spans old → length old.arcs ≡ length old.nodes → HasDelayRange design (arc.Through cell pin out) delay → IsPin design.flat at (reader.Pin cell pin) net →
      ((lane : ℕ) → from ≤ lane → lane < to → Contains (lanes_in spans at) lane) → AreBehind old new from to (arc.Through cell pin out) delay.low delay.high → AreNodes design spans new
  nodes_behind spans old new cell pin out at net from to delay are even has is within behind lane node here = elim (behind.each lane node here) [
    | inl was ↦
        (let l = slice_get_within old.nodes lane node was in
        node_over (lanes_in spans) old.arcs new.arcs lane node (ap (λ (xs : List (List PathArc)). arcs_at xs lane) behind.arcs ∙ at_kept old.arcs _ lane (omega arith)) (are lane node was))
    | inr n ↦
        (let e = n.node_is in
        let more = sums_more (arcs_at old.arcs n.parent) (arc.Through cell pin out) n.before.low n.before.high delay (are n.parent n.before n.old_is).sums has in
        subst (λ (x : LaneNode). IsNode design (lanes_in spans) new.arcs lane x) (sym e)
        (record {
          parent = (at, net, is, within n.parent n.low_end n.high_end);
          sums = subst (λ (xs : List PathArc). HasSums design xs (n.before.low +ℤ delay.low) (n.before.high +ℤ delay.high)) (sym n.arcs_are) more;
        }))
  ]
