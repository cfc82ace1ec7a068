-- Pulses at the inputs of a cell that is no gate are far from each other where no offence of dead times exists.
use Rattle.std.proofs.Common.{◌≡◌, ◌≢◌, ℕ, ◌<◌, false, ◌⊎◌, ℤ, pos, ◌+ℤ◌, List, [], ◌∷◌, length, get_or, take, sym, ap, ◌∙◌, subst, arith, inl, inr}
use Rattle.std.proofs.lemmas.Bool.{cases_eq}
use Rattle.std.proofs.lemmas.List.{get_or_default}
use Rattle.std.proofs.lemmas.List.FromFn.{length-range_with_len, get_or-range_with_len}
use Rattle.std.specs.Prelude.{slice_get, Some}
use Rattle.std.specs.List.{flat_map, range_with_len}
use Rattle.rsfq_ids.specs.declared.table.CellRow.{CellRow}
use Rattle.rsfq_ids.specs.declared.circuit.Pin.{Pin}
use Rattle.rsfq_ids.specs.declared.circuit.Reader.{Reader}
use Rattle.rsfq_ids.specs.declared.circuit.Driver.TheVariants as driver
use Rattle.rsfq_ids.specs.declared.circuit.Reader.TheVariants as reader
use Rattle.rsfq_ids.specs.declared.offence.PathArc.{PathArc}
use Rattle.rsfq_ids.specs.declared.offence.PathArc.TheVariants as arc
use Rattle.rsfq_ids.specs.declared.offence.PathPick.{PathPick}
use Rattle.rsfq_ids.specs.declared.offence.Offence.TheVariants as offence
use Rattle.rsfq_ids.specs.Time.{IsNear, total}
use Rattle.rsfq_ids.specs.Circuit.{IsOf, IsPin, Reads, InputNets, is_gate}
use Rattle.rsfq_ids.specs.Bench.{AreTicks}
use Rattle.rsfq_ids.specs.Run.{Run, times_of, ArePassivesClean}
use Rattle.rsfq_ids.specs.Path.{IsPick, pick_time, ArcLeads, ArcsLead, IsRoute}
use Rattle.rsfq_ids.specs.Offence.{Differ, IsDeadPin, HasNoDead, OffenceExists}
use Rattle.rsfq_ids.specs.Numbering.{IsNumbered}
use Rattle.pulse_laws.specs.Tags.{AreTags}
use Rattle.pulse_laws.proofs.Zips.{zip_length, zip_at}
use Rattle.pulse_laws.proofs.Places.{joined_place}
use Rattle.rsfq_ids.specs.Design.{Design}

leads_one : (design : Design) → IsNumbered design.flat → (a : PathArc) (net other next last : ℕ) → ArcLeads design net a next → ArcLeads design other a last → next ≡ last
leads_one design numbered (arc.Port port) net other next last one two = absurd one
leads_one design numbered (arc.Through cell pin out) net other next last one two = numbered.one_net (driver.Out cell out) next last one.4 two.4

lead_one : (design : Design) → IsNumbered design.flat → (arcs : List PathArc) (net other n m : ℕ) → net ≡ other → ArcsLead design net arcs n → ArcsLead design other arcs m → n ≡ m
lead_one design numbered [] net other n m same one two = sym one ∙ same ∙ two
lead_one design numbered (a ∷ arcs) net other n m same one two = lead_one design numbered arcs one.0 two.0 n m (leads_one design numbered a net other one.0 two.0 one.1 two.1) one.2 two.2

-- a route ends at one net
pub route_one : (design : Design) → IsNumbered design.flat → (arcs : List PathArc) (n m : ℕ) → IsRoute design arcs n → IsRoute design arcs m → n ≡ m
route_one design numbered [] n m one two = absurd one
route_one design numbered (arc.Port port ∷ arcs) n m one two = lead_one design numbered arcs one.0 two.0 n m (numbered.one_net (driver.Port port) one.0 two.0 one.1 two.1) one.2 two.2
route_one design numbered (arc.Through cell pin out ∷ arcs) n m one two = absurd one

module _ (design : Design) (run : Run) (tags : List (List PathPick)) (ticks : AreTicks design.bench run.tick) (tagged : AreTags design run tags)
    (numbered : IsNumbered design.flat) (no_fanout : (net first second : ℕ) → ¬ OffenceExists design (offence.Fanout net first second)) where
  -- a pulse at a pin has a tag
  pub tag_at : (pin : ℕ) (from : Reader) (net : ℕ) → IsPin design.flat pin from net → (k : ℕ) → k < length (times_of run.pulses net) → (d : PathPick) →
      (k < length (get_or tags pin [])) × IsPick design (get_or (get_or tags pin []) k d) × ((get_or (get_or tags pin []) k d).ends ≡ pin) × (get_or (times_of run.pulses net) k (pos 0) ≡ pick_time design.bench (get_or (get_or tags pin []) k d))
  tag_at pin from net is k l d =
      let zip = tagged.timed pin (record { reader = from; net = net }) is in
      let same : length (get_or tags pin []) ≡ length (times_of run.pulses net) =
      zip_length (λ (x : PathPick) (time : ℤ). IsPick design x × (x.ends ≡ pin) × (time ≡ (run.tick x.number +ℤ total x.delays))) (get_or tags pin []) (times_of run.pulses net) zip in
      let here = zip_at (λ (x : PathPick) (time : ℤ). IsPick design x × (x.ends ≡ pin) × (time ≡ (run.tick x.number +ℤ total x.delays))) (get_or tags pin []) (times_of run.pulses net) k d (pos 0) zip (omega arith) in
      (omega arith, here.0, here.1, here.2 ∙ ap (λ (t : ℤ). t +ℤ total (get_or (get_or tags pin []) k d).delays) (ticks (get_or (get_or tags pin []) k d).number))

  -- two pulses at two inputs of a cell, or at two places of one, are not near
  meet : HasNoDead false design → (cell : ℕ) (row : CellRow) → IsOf design cell row → is_gate row.kind ≡ false → (p q : ℕ) → p < length row.inputs → q < length row.inputs → (net other : ℕ) →
      (one : Reads design.flat (reader.Pin cell p) net) → (two : Reads design.flat (reader.Pin cell q) other) → (i j : ℕ) → i < length (times_of run.pulses net) → j < length (times_of run.pulses other) → ((x y : PathPick) → Differ (get_or (get_or tags one.0 []) i x) (get_or (get_or tags two.0 []) j y)) →
      ¬ IsNear row.dead (get_or (times_of run.pulses net) i (pos 0)) (get_or (times_of run.pulses other) j (pos 0))
  meet none cell row of passive p q pin_in pin_in' net other one two i j l k differ near =
      let blank : PathPick = record { arcs = []; delays = []; number = 0; ends = 0 } in
      let x = tag_at one.0 (reader.Pin cell p) net one.1 i l blank in
      let y = tag_at two.0 (reader.Pin cell q) other two.1 j k blank in
      none cell row (get_or (get_or tags one.0 []) i blank) (get_or (get_or tags two.0 []) j blank) of passive (
        row,
        record {
          meet = record {
            of = of;
            first = x.1;
            second = y.1;
            agree = tagged.agree one.0 two.0 i blank x.0 j blank y.0;
            differ = differ blank blank;
            first_ends = (p, net, subst (λ b. IsDeadPin b row p) (sym passive) pin_in, subst (λ e. IsPin design.flat e (reader.Pin cell p) net) (sym x.2) one.1);
            second_ends = (q, other, subst (λ b. IsDeadPin b row q) (sym passive) pin_in', subst (λ e. IsPin design.flat e (reader.Pin cell q) other) (sym y.2) two.1);
          };
          near = rw (← x.3, ← y.3) near;
        },
      )

  ends_net : (at pin : ℕ) (end : Pin) (from : Reader) (net : ℕ) → at ≡ pin → slice_get design.flat.pins at ≡ Some end → IsPin design.flat pin from net → end.net ≡ net
  ends_net at pin end from net here one two =
      let some : Some end ≡ Some (record { reader = from; net = net }) = sym one ∙ ap (slice_get design.flat.pins) here ∙ two in
      let same : end ≡ record { reader = from; net = net } = cc in
      ap (λ (x : Pin). x.net) same

  two_pins : (cell p q net other : ℕ) (one two : ℕ) → IsPin design.flat one (reader.Pin cell p) net → IsPin design.flat two (reader.Pin cell q) other → p ≢ q → one ≢ two
  two_pins cell p q net other one two is is' different same =
      let first : Pin = record { reader = reader.Pin cell p; net = net } in
      let second : Pin = record { reader = reader.Pin cell q; net = other } in
      let some : Some first ≡ Some second = sym is ∙ ap (slice_get design.flat.pins) same ∙ is' in
      let pins : first ≡ second = cc in
      let readers : reader.Pin cell p ≡ reader.Pin cell q = ap (λ (x : Pin). x.reader) pins in
      different (cc)

  -- picks that end at two inputs have other arcs
  other_arcs : (cell p q net other : ℕ) → (one : Reads design.flat (reader.Pin cell p) net) → (two : Reads design.flat (reader.Pin cell q) other) → p ≢ q → (x y : PathPick) → IsPick design x → IsPick design y → x.ends ≡ one.0 → y.ends ≡ two.0 → x.arcs ≢ y.arcs
  other_arcs cell p q net other one two different x y pick_x pick_y end_x end_y arcs =
      let net_x : pick_x.path.0.net ≡ net = ends_net x.ends one.0 pick_x.path.0 (reader.Pin cell p) net end_x pick_x.path.1 one.1 in
      let net_y : pick_y.path.0.net ≡ other = ends_net y.ends two.0 pick_y.path.0 (reader.Pin cell q) other end_y pick_y.path.1 two.1 in
      let route : IsRoute design y.arcs net = subst (λ (m : ℕ). IsRoute design y.arcs m) net_x (subst (λ (path : List PathArc). IsRoute design path pick_x.path.0.net) arcs pick_x.path.2.route) in
      let route' : IsRoute design y.arcs other = subst (λ (m : ℕ). IsRoute design y.arcs m) net_y pick_y.path.2.route in
      let one_net : net ≡ other = route_one design numbered y.arcs net other route route' in
      no_fanout other one.0 two.0 (two_pins cell p q net other one.0 two.0 one.1 two.1 different, (reader.Pin cell p, reader.Pin cell q, subst (λ (m : ℕ). IsPin design.flat one.0 (reader.Pin cell p) m) one_net one.1, two.1))

  pin_reads : (cell : ℕ) (row : CellRow) (nets : List ℕ) → InputNets design.flat cell row nets → (pin : ℕ) → pin < length nets → (pin < length row.inputs) × Reads design.flat (reader.Pin cell pin) (get_or nets pin 0)
  pin_reads cell row nets inputs pin l =
      let same : length (range_with_len 0 (length row.inputs)) ≡ length nets = zip_length (λ p net. Reads design.flat (reader.Pin cell p) net) (range_with_len 0 (length row.inputs)) nets inputs in
      let count : length (range_with_len 0 (length row.inputs)) ≡ length row.inputs = length-range_with_len 0 (length row.inputs) in
      let here : get_or (range_with_len 0 (length row.inputs)) pin 0 ≡ pin = get_or-range_with_len 0 (length row.inputs) pin 0 (omega arith) ∙ omega arith in (
        omega arith,
        subst (λ (p : ℕ). Reads design.flat (reader.Pin cell p) (get_or nets pin 0)) here
            (zip_at (λ p net. Reads design.flat (reader.Pin cell p) net) (range_with_len 0 (length row.inputs)) nets pin 0 0 inputs (omega arith)),
      )

  -- two different places of the joined list
  far : HasNoDead false design → (cell : ℕ) (row : CellRow) (nets : List ℕ) → IsOf design cell row → is_gate row.kind ≡ false → InputNets design.flat cell row nets → (p q i j : ℕ) → p < length nets → q < length nets →
      i < length (times_of run.pulses (get_or nets p 0)) → j < length (times_of run.pulses (get_or nets q 0)) → (p ≡ q → i < j) → (p ≡ q) ⊎ (p ≢ q) →
      ¬ IsNear row.dead (get_or (times_of run.pulses (get_or nets p 0)) i (pos 0)) (get_or (times_of run.pulses (get_or nets q 0)) j (pos 0))
  far none cell row nets of passive inputs p q i j pl ql il jl below (inl same) near =
      let one = pin_reads cell row nets inputs p pl in
      let jl' : j < length (times_of run.pulses (get_or nets p 0)) = subst (λ (x : ℕ). j < length (times_of run.pulses (get_or nets x 0))) (sym same) jl in
      meet none cell row of passive p p one.0 one.0 (get_or nets p 0) (get_or nets p 0) one.1 one.1 i j il jl'
      (λ x y. let here = tag_at one.1.0 (reader.Pin cell p) (get_or nets p 0) one.1.1 j jl' x in
      subst (λ (z : PathPick). Differ (get_or (get_or tags one.1.0 []) i x) z) (get_or_default (get_or tags one.1.0 []) j x y here.0) (tagged.distinct one.1.0 i j x (below same) here.0))
      (subst (λ (x : ℕ). IsNear row.dead (get_or (times_of run.pulses (get_or nets p 0)) i (pos 0)) (get_or (times_of run.pulses (get_or nets x 0)) j (pos 0))) (sym same) near)
  far none cell row nets of passive inputs p q i j pl ql il jl below (inr different) near =
      let one = pin_reads cell row nets inputs p pl in
      let two = pin_reads cell row nets inputs q ql in
      meet none cell row of passive p q one.0 two.0 (get_or nets p 0) (get_or nets q 0) one.1 two.1 i j il jl
      (λ x y.
      let a = tag_at one.1.0 (reader.Pin cell p) (get_or nets p 0) one.1.1 i il x in
      let b = tag_at two.1.0 (reader.Pin cell q) (get_or nets q 0) two.1.1 j jl y in
      inl (other_arcs cell p q (get_or nets p 0) (get_or nets q 0) one.1 two.1 different _ _ a.1 b.1 a.2 b.2))
      near

  pub passives_clean : HasNoDead false design → ArePassivesClean design run
  passives_clean none cell row nets of passive inputs i j d below l near =
      let a = joined_place (times_of run.pulses) nets i (omega arith) in
      let b = joined_place (times_of run.pulses) nets j l in
      far none cell row nets of passive inputs a.pin b.pin a.place b.place a.pin_in b.pin_in a.place_in b.place_in
      (λ same. let e : length (flat_map (times_of run.pulses) (take a.pin nets)) ≡ length (flat_map (times_of run.pulses) (take b.pin nets)) = ap (λ (x : ℕ). length (flat_map (times_of run.pulses) (take x nets))) same in omega (arith, a.sum, b.sum))
      (cases_eq a.pin b.pin)
      (subst (λ (s : ℤ). IsNear row.dead s (get_or (times_of run.pulses (get_or nets b.pin 0)) b.place (pos 0))) (a.same d ∙ get_or_default _ a.place d (pos 0) a.place_in)
      (subst (λ (t : ℤ). IsNear row.dead (get_or (flat_map (times_of run.pulses) nets) i d) t) (b.same d ∙ get_or_default _ b.place d (pos 0) b.place_in) near))
