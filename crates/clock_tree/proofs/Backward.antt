-- The path back from a net, arc by arc.
use Rattle.std.proofs.Common.{◌≡◌, ◌==◌, ℕ, zero, suc, ◌+◌, ◌<◌, Bool, true, false, cond, List, [], ◌∷◌, ◌++◌, length, take, reverse, Option, Some, None, refl, sym, ap, ◌∙◌, subst, arith, get_or}
use Rattle.std.specs.Prelude.{slice_get, option_to_list}
use Rattle.std.specs.List.{All, Contains}
use Rattle.std.proofs.lemmas.Bool.{eqb-true, eq-eqb}
use Rattle.std.proofs.lemmas.List.{reverse-append}
use Rattle.std.proofs.lemmas.List.Elements.{All-cons}
use Rattle.std.proofs.lemmas.Option.{slice_get-get_or}
use Rattle.rsfq_ids.specs.declared.table.CellRow.{CellRow}
use Rattle.rsfq_ids.specs.declared.table.Kind.{Kind}
use Rattle.rsfq_ids.specs.declared.table.Kind.TheVariants as kind
use Rattle.rsfq_ids.specs.declared.circuit.Bench.{Bench}
use Rattle.rsfq_ids.specs.declared.circuit.Driver.{Driver}
use Rattle.rsfq_ids.specs.declared.circuit.Driver.TheVariants as driver
use Rattle.rsfq_ids.specs.declared.circuit.Reader.TheVariants as reader
use Rattle.rsfq_ids.specs.declared.offence.PathArc.{PathArc}
use Rattle.rsfq_ids.specs.declared.offence.PathArc.TheVariants as arc
use Rattle.rsfq_ids.specs.Design.{Design}
use Rattle.rsfq_ids.specs.Circuit.{IsDrivenBy, Reads, is_gate, clock_pin}
use Rattle.rsfq_ids.specs.Path.{IsPassedFrom, ArcLeads, ArcsLead}
use Rattle.rsfq_ids.specs.WellFormed.{IsRow, FitsKind}
use Rattle.net_graph.specs.Graph.{NetGraph, IsGraph, HasPin, IsRowOf}
use Rattle.clock_tree.specs.Clock.{design_of, back_pin, GoesBack, IsPathBack}

-- ---- how far it can go on

-- the first place of a cell
abbrev pub find_place : List ℕ → ℕ → ℕ
find_place [] cell = 0
find_place (x ∷ xs) cell = cond (x == cell) 0 (suc (find_place xs cell))

abbrev pub steps_of : List ℕ → Option Driver → ℕ
steps_of order None = 0
steps_of order (Some (driver.Port port)) = 0
steps_of order (Some (driver.Out cell out)) = suc (find_place order cell)

-- how many cells there may still be before a net
abbrev pub steps_left : NetGraph → ℕ → ℕ
steps_left graph net = steps_of graph.order (slice_get graph.flat.nets net)

pub place_at : (order : List ℕ) (cell : ℕ) → Contains order cell → slice_get order (find_place order cell) ≡ Some cell
place_at [] cell (k, l, e) = absurd (omega arith)
place_at (x ∷ xs) cell (k, l, e) = go (place_at xs cell) (x == cell) refl k l e where
  go : (Contains xs cell → slice_get xs (find_place xs cell) ≡ Some cell) → (b : Bool) → (x == cell) ≡ b → (k : ℕ) → k < length (x ∷ xs) → get_or (x ∷ xs) k cell ≡ cell → slice_get (x ∷ xs) (cond b 0 (suc (find_place xs cell))) ≡ Some cell
  go deep true is k l e = ap Some (eqb-true x cell is)
  go deep false is zero l e = (let wrong : true ≡ false = sym (eq-eqb x cell e) ∙ is in cc)
  go deep false is (suc k) l e = deep (k, omega arith, e)

pub place_low : (n : ℕ) (order : List ℕ) (cell : ℕ) → Contains (take n order) cell → find_place order cell < n
place_low zero order cell (k, l, e) = absurd (omega arith)
place_low (suc n) [] cell (k, l, e) = absurd (omega arith)
place_low (suc n) (x ∷ xs) cell (k, l, e) = go (place_low n xs cell) (x == cell) refl k l e where
  go : (Contains (take n xs) cell → find_place xs cell < n) → (b : Bool) → (x == cell) ≡ b → (k : ℕ) → k < length (take (suc n) (x ∷ xs)) → get_or (take (suc n) (x ∷ xs)) k cell ≡ cell → cond b 0 (suc (find_place xs cell)) < suc n
  go deep true is k l e = omega arith
  go deep false is zero l e = (let wrong : true ≡ false = sym (eq-eqb x cell e) ∙ is in cc)
  go deep false is (suc k) l e = let low = deep (k, omega arith, e) in omega arith

-- ---- the pin back

pub back_inside : (k : Kind) (row : CellRow) → FitsKind k row → cond (is_gate k) (clock_pin row) 0 < length row.inputs + length (option_to_list row.clock)
back_inside kind.Jtl row fit = let one = fit.0 in omega arith
back_inside kind.Split row fit = let one = fit.0 in omega arith
back_inside kind.Merge row fit = let one = fit.0 in omega arith
back_inside kind.Gate row fit = let one = fit.2 in omega arith

back_passed : (k : Kind) (row : CellRow) → FitsKind k row → IsPassedFrom (is_gate k) row (cond (is_gate k) (clock_pin row) 0)
back_passed kind.Jtl row fit = let one = fit.0 in omega arith
back_passed kind.Split row fit = let one = fit.0 in omega arith
back_passed kind.Merge row fit = let one = fit.0 in omega arith
back_passed kind.Gate row fit = refl

pub has_back : (graph : NetGraph) (cell : ℕ) (row : CellRow) (pin : ℕ) → IsRowOf graph cell row → IsRow row → pin ≡ back_pin row → HasPin graph cell pin
has_back graph cell row pin of fits is = (row, of, subst (λ (n : ℕ). n < length row.inputs + length (option_to_list row.clock)) (sym is) (back_inside row.kind row fits.kind))

-- ---- arc by arc

-- the arcs found so far lead from `at` to the net
pub record IsTraced (graph : NetGraph) (bench : Bench) (net at : ℕ) (found : List PathArc) : Type 0 where
  pub inside : at < length graph.flat.nets
  pub lead : ArcsLead (design_of graph bench) at (reverse found) net
  pub back : All (GoesBack (design_of graph bench)) (reverse found)

pub traced_none : (graph : NetGraph) (bench : Bench) (net : ℕ) → net < length graph.flat.nets → IsTraced graph bench net net []
traced_none graph bench net l = record { inside = l; lead = refl; back = λ i d l. absurd (omega arith) }

module _ (graph : NetGraph) (g : IsGraph graph) (bench : Bench) (net at : ℕ) (found : List PathArc) (t : IsTraced graph bench net at found) where
  abbrev design : Design
  design = design_of graph bench

  turned : (a : PathArc) → a ∷ reverse found ≡ reverse (found ++ a ∷ [])
  turned a = sym (reverse-append found (a ∷ []))

  pub traced_more : (cell out mid pin : ℕ) (row : CellRow) → IsDrivenBy graph.flat at (driver.Out cell out) → IsRowOf graph cell row → IsRow row → pin ≡ back_pin row → Reads graph.flat (reader.Pin cell pin) mid → mid < length graph.flat.nets →
      IsTraced graph bench net mid (found ++ arc.Through cell pin out ∷ [])
  traced_more cell out mid pin row drives of fits is reads l =
      let on : ArcLeads design mid (arc.Through cell pin out) at = (row, of, subst (IsPassedFrom (is_gate row.kind) row) (sym is) (back_passed row.kind row fits.kind), reads, drives) in
      record {
        inside = l;
        lead = subst (λ (xs : List PathArc). ArcsLead design mid xs net) (turned (arc.Through cell pin out)) (at, on, t.lead);
        back = subst (All (GoesBack design)) (turned (arc.Through cell pin out)) (All-cons (GoesBack design) (arc.Through cell pin out) (reverse found) (row, of, is) t.back);
      }

  pub traced_end : (port : ℕ) → IsDrivenBy graph.flat at (driver.Port port) → IsPathBack design (reverse (found ++ arc.Port port ∷ [])) net
  traced_end port drives = subst (λ (xs : List PathArc). IsPathBack design xs net) (turned (arc.Port port)) (record {
    route = (at, drives, t.lead);
    back = All-cons (GoesBack design) (arc.Port port) (reverse found) tt t.back;
  })

pub fewer_left : (graph : NetGraph) → IsGraph graph → (at cell out mid pin : ℕ) → IsDrivenBy graph.flat at (driver.Out cell out) → Reads graph.flat (reader.Pin cell pin) mid → cell < length graph.flat.cells → steps_left graph mid < steps_left graph at
fewer_left graph g at cell out mid pin drives reads l =
    let source = g.numbered.has_driver (reader.Pin cell pin) mid reads in
    let here : steps_left graph at ≡ suc (find_place graph.order cell) = ap (steps_of graph.order) drives in
    let there : steps_left graph mid ≡ steps_of graph.order (Some source.0) = ap (steps_of graph.order) source.1 in
    let low = go source.0 source.1 in
    omega arith
  where
    go : (d : Driver) → IsDrivenBy graph.flat mid d → steps_of graph.order (Some d) < suc (find_place graph.order cell)
    go (driver.Port port) is = omega arith
    go (driver.Out before from) is =
        let p = find_place graph.order cell in
        let at_place = place_at graph.order cell (g.least.each cell l) in
        let earlier = (g.least.next p cell at_place).served before (pin, from, mid, is, reads) in
        let low = place_low p graph.order before earlier in omega arith

-- a driver as the code reads it
pub driver_read : (nets own : List Driver) (i at : ℕ) (d from : Driver) → nets ≡ own → i ≡ at → at < length own → get_or nets i d ≡ from → slice_get own at ≡ Some from
driver_read nets own i at d from all same within is =
    let e : get_or own at d ≡ from = sym (ap (λ (xs : List Driver). get_or xs at d) all) ∙ sym (ap (λ (k : ℕ). get_or nets k d) same) ∙ is in
    slice_get-get_or own at d within ∙ ap Some e
