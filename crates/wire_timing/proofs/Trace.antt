-- The arcs of the one route to a net, found from its end.
use Rattle.std.proofs.Common.{◌≡◌, ℕ, ◌+◌, ◌<◌, ◌≤◌, List, [], ◌∷◌, ◌++◌, length, get_or, reverse, refl, sym, ap, ◌∙◌, subst, arith, inl, inr, length-append}
use Rattle.std.proofs.lemmas.List.{reverse-append}
use Rattle.std.proofs.lemmas.Option.{slice_get_within, slice_get-get_or}
use Rattle.std.specs.Prelude.{Some}
use Rattle.rsfq_ids.specs.declared.circuit.Driver.{Driver}
use Rattle.rsfq_ids.specs.declared.circuit.Driver.TheVariants as driver
use Rattle.rsfq_ids.specs.declared.circuit.Reader.TheVariants as reader
use Rattle.rsfq_ids.specs.declared.offence.PathArc.{PathArc}
use Rattle.rsfq_ids.specs.declared.offence.PathArc.TheVariants as arc
use Rattle.rsfq_ids.specs.Design.{Design}
use Rattle.rsfq_ids.specs.Circuit.{IsDrivenBy, IsPin}
use Rattle.rsfq_ids.specs.Path.{ArcLeads, ArcsLead, IsRoute, BeginsAtPort}
use Rattle.rsfq_ids.specs.Ready.{IsSetUp}
use Rattle.wire_timing.specs.declared.reach.Reach.{Reach}
use Rattle.wire_timing.specs.Wires.{HasOnlyJtls}
use Rattle.wire_timing.specs.Reach.{Reaches}
use Rattle.wire_timing.proofs.Routes.{same_net, route_last, through}

-- the arcs found so far lead from `at` to the net, and a route from the source leads to `at`
pub record IsTraced (design : Design) (net : ℕ) (reach : Reach) (at : ℕ) (found : List PathArc) : Type 0 where
  pub front : List PathArc
  pub route : IsRoute design front at
  pub begins : BeginsAtPort front reach.source
  pub count : length front + length found ≡ reach.cells + 1
  pub lead : ArcsLead design at (reverse found) net

not_empty : (design : Design) (arcs : List PathArc) (net : ℕ) → IsRoute design arcs net → 0 < length arcs
not_empty design [] net route = absurd route
not_empty design (a ∷ arcs) net route = omega arith

begins_before : (arcs : List PathArc) (end : PathArc) (port : ℕ) → 0 < length arcs → BeginsAtPort (arcs ++ end ∷ []) port → BeginsAtPort arcs port
begins_before [] end port some begins = absurd (omega arith)
begins_before (a ∷ arcs) end port some begins = begins

-- the driver of a net, as the code reads it
pub driver_read : (design : Design) (nets : List Driver) (i at : ℕ) (d from : Driver) → nets ≡ design.flat.nets → i ≡ at → at < length design.flat.nets → get_or nets i d ≡ from → IsDrivenBy design.flat at from
driver_read design nets i at d from all same within is =
    let e : get_or design.flat.nets at d ≡ from = sym (ap (λ (xs : List Driver). get_or xs at d) all) ∙ sym (ap (λ (k : ℕ). get_or nets k d) same) ∙ is in
    slice_get-get_or design.flat.nets at d within ∙ ap (λ (x : Driver). Some x) e

module _ (design : Design) (set_up : IsSetUp design) (jtls : HasOnlyJtls design) (net : ℕ) (reach : Reach) where
  pub trace_starts : Reaches design net reach → IsTraced design net reach net []
  trace_starts reaches = record { front = reaches.arcs; route = reaches.route; begins = reaches.begins; count = (let c = reaches.cells in omega arith); lead = refl }

  pub driven_at : (at : ℕ) (found : List PathArc) → IsTraced design net reach at found → at < length design.flat.nets
  driven_at at found traced = elim (route_last design traced.front at traced.route) [
    | inl (port, is, drives) ↦ slice_get_within design.flat.nets at (driver.Port port) drives
    | inr b ↦ go b.end b.mid b.on
  ]
    where
      go : (end : PathArc) (mid : ℕ) → ArcLeads design mid end at → at < length design.flat.nets
      go (arc.Port port) mid on = absurd on
      go (arc.Through cell pin out) mid (row, of, passed, reads, drives) = slice_get_within design.flat.nets at (driver.Out cell out) drives

  pub fewer : (at : ℕ) (found : List PathArc) → IsTraced design net reach at found → length found ≤ reach.cells
  fewer at found traced = let some = not_empty design traced.front at traced.route in let c = traced.count in omega arith

  pub trace_on : (at cell out next : ℕ) (found : List PathArc) → IsTraced design net reach at found → IsDrivenBy design.flat at (driver.Out cell out) → IsPin design.flat cell (reader.Pin cell 0) next →
      IsTraced design net reach next (found ++ arc.Through cell 0 0 ∷ [])
  trace_on at cell out next found traced drives reads = elim (route_last design traced.front at traced.route) [
    | inl (port, is, from) ↦ (let e : Some (driver.Port port) ≡ Some (driver.Out cell out) = sym from ∙ drives in cc)
    | inr b ↦ go b.before b.end b.mid b.parts b.route b.on
  ]
    where
      go : (before : List PathArc) (end : PathArc) (mid : ℕ) → traced.front ≡ before ++ end ∷ [] → IsRoute design before mid → ArcLeads design mid end at → IsTraced design net reach next (found ++ arc.Through cell 0 0 ∷ [])
      go before (arc.Port port) mid parts route on = absurd on
      go before (arc.Through other pin to) mid parts route on =
          let (a, o, pin_is, from) = through design set_up jtls mid other pin to at on in
          let e : Some (driver.Out other 0) ≡ Some (driver.Out cell out) = sym from ∙ drives in
          let c : other ≡ cell = cc in
          let reads' : IsPin design.flat other (reader.Pin other 0) next = subst (λ (x : ℕ). IsPin design.flat x (reader.Pin x 0) next) (sym c) reads in
          let same : mid ≡ next = same_net design other (reader.Pin other 0) mid next pin_is reads' in
          let is_arc : arc.Through other pin to ≡ arc.Through cell 0 0 = cc in
          let on' : ArcLeads design next (arc.Through cell 0 0) at = subst (λ (x : PathArc). ArcLeads design next x at) is_arc (subst (λ (x : ℕ). ArcLeads design x (arc.Through other pin to) at) same on) in
          record {
            front = before;
            route = subst (λ (x : ℕ). IsRoute design before x) same route;
            begins = begins_before before (arc.Through other pin to) reach.source (not_empty design before mid route) (subst (λ (xs : List PathArc). BeginsAtPort xs reach.source) parts traced.begins);
            count = (let n = ap length parts ∙ length-append before (arc.Through other pin to ∷ []) in let m = length-append found (arc.Through cell 0 0 ∷ []) in let k = traced.count in omega arith);
            lead = subst (λ (xs : List PathArc). ArcsLead design next xs net) (sym (reverse-append found (arc.Through cell 0 0 ∷ []))) (at, on', traced.lead);
          }

  pub trace_ends : (at port : ℕ) (found : List PathArc) → IsTraced design net reach at found → IsDrivenBy design.flat at (driver.Port port) → IsRoute design (reverse (found ++ arc.Port reach.source ∷ [])) net
  trace_ends at port found traced drives = elim (route_last design traced.front at traced.route) [
    | inl (from, is, drives') ↦
        (let begins : arc.Port from ≡ arc.Port reach.source = subst (λ (xs : List PathArc). BeginsAtPort xs reach.source) is traced.begins in
        let e : from ≡ reach.source = cc in
        subst (λ (xs : List PathArc). IsRoute design xs net) (sym (reverse-append found (arc.Port reach.source ∷ []))) (at, subst (λ (p : ℕ). IsDrivenBy design.flat at (driver.Port p)) e drives', traced.lead))
    | inr b ↦ absurd (go b.end b.mid b.on)
  ]
    where
      go : (end : PathArc) (mid : ℕ) → ArcLeads design mid end at → ⊥
      go (arc.Port p) mid on = absurd on
      go (arc.Through cell pin out) mid on = let from = (through design set_up jtls mid cell pin out at on).3 in let e : Some (driver.Port port) ≡ Some (driver.Out cell 0) = sym drives ∙ from in cc
