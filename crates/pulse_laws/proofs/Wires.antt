-- JTL wires meet what the laws ask, and carry the bits of their inputs.
use Rattle.std.proofs.Common.{◌≤◌, ◌≡◌, ℕ, zero, suc, ◌<◌, Bool, true, false, cond, ℤ, pos, ◌+ℤ◌, ◌*ℤ◌, ◌≤ℤ◌, ◌<ℤ◌, List, [], ◌∷◌, length, take, map, nat_eq, refl, sym, ap, ◌∙◌, subst, arith, eq-eqb, eqb-true}
use Rattle.std.proofs.lemmas.Int.{ints}
use Rattle.std.proofs.lemmas.Bool.{false≢true}
use Rattle.std.specs.Prelude.{Some, None, slice_get, Option}
use Rattle.std.specs.List.{AllZip, Contains, list_any}
use Rattle.rsfq_ids.specs.declared.table.CellRow.{CellRow}
use Rattle.rsfq_ids.specs.declared.table.Kind.{Kind}
use Rattle.rsfq_ids.specs.declared.table.Kind.TheVariants as kind
use Rattle.rsfq_ids.specs.declared.circuit.Flat.{Flat}
use Rattle.rsfq_ids.specs.declared.circuit.Pin.{Pin}
use Rattle.rsfq_ids.specs.declared.circuit.Strobe.{Strobe}
use Rattle.rsfq_ids.specs.declared.circuit.PortUse.{PortUse}
use Rattle.rsfq_ids.specs.declared.circuit.PortUse.TheVariants as port_use
use Rattle.rsfq_ids.specs.declared.circuit.Driver.TheVariants as driver
use Rattle.rsfq_ids.specs.declared.circuit.Reader.{Reader}
use Rattle.rsfq_ids.specs.declared.circuit.Reader.TheVariants as reader
use Rattle.rsfq_ids.specs.declared.offence.PathArc.{PathArc}
use Rattle.rsfq_ids.specs.declared.offence.PathArc.TheVariants as arc
use Rattle.rsfq_ids.specs.declared.offence.PathPick.{PathPick}
use Rattle.rsfq_ids.specs.declared.offence.Against.{Against}
use Rattle.rsfq_ids.specs.declared.offence.Against.TheVariants as against
use Rattle.rsfq_ids.specs.declared.offence.TrailHop.{TrailHop}
use Rattle.rsfq_ids.specs.Design.{Design}
use Rattle.rsfq_ids.specs.Time.{total}
use Rattle.rsfq_ids.specs.Circuit.{IsDrivenBy, Reads, IsOf, PinsRead, is_gate}
use Rattle.rsfq_ids.specs.Bench.{IsUsed, is_data, bit_of}
use Rattle.rsfq_ids.specs.Run.{IsPortDelay}
use Rattle.rsfq_ids.specs.Path.{IsPassedFrom, ArcLeads, ArcsLead, IsRoute, IsDelay, IsPick, IsPath, BeginsAtPort, pick_time, HasStepsAt, IsHop, AreHops, EndsAt}
use Rattle.rsfq_ids.specs.Value.{AreValues, value_of, value_made, port_value}
use Rattle.rsfq_ids.specs.Offence.{Closes, IsLoop, IsHeldAgainst, HasNoDead, HasNoWindow, HasNoAhead, HasNoUnequal}
use Rattle.rsfq_ids.specs.Numbering.{IsRanked}
use Rattle.rsfq_ids.specs.WellFormed.{FitsKind}
use Rattle.rsfq_ids.specs.Ready.{HasGoodShape}
use Rattle.rsfq_ids.specs.Signed.{HasAllDepths}
use Rattle.pulse_laws.specs.Premises.{IsTimed}
use Rattle.pulse_laws.specs.Statements.{AreDepths, HasOutputValue}
use Rattle.pulse_laws.specs.Hops.{OrdersPlace}
use Rattle.pulse_laws.specs.Wires.{IsWireFrom, depths_of, IsSourceBit, IsWired, OrdersRank, WiresAreSigned}
use Rattle.pulse_laws.proofs.Flows.{one_row}
use Rattle.pulse_laws.proofs.Ready.{rows, use_fits, numbered, cell_reader}
use Rattle.pulse_laws.proofs.LawProofs.{designs_are_signed, signed_over}

-- ---- an order gives a rank

position : ℕ → List ℕ → ℕ
position x [] = 0
position x (y ∷ ys) = cond (nat_eq y x) 0 (suc (position x ys))

elsewhere : (x y : ℕ) (ys : List ℕ) → nat_eq y x ≡ false → Contains (y ∷ ys) x → Contains ys x
elsewhere x y ys other (zero, l, e) = absurd (false≢true (sym other ∙ eq-eqb y x e))
elsewhere x y ys other (suc i, l, e) = (i, omega arith, e)

at_position : (x : ℕ) (xs : List ℕ) → Contains xs x → slice_get xs (position x xs) ≡ Some x
unfolding position
at_position x [] contains = (let l = contains.1 in absurd (omega arith))
at_position x (y ∷ ys) contains = go (nat_eq y x) refl (λ other. at_position x ys (elsewhere x y ys other contains))
  where
    go : (b : Bool) → nat_eq y x ≡ b → (nat_eq y x ≡ false → slice_get ys (position x ys) ≡ Some x) → slice_get (y ∷ ys) (cond b 0 (suc (position x ys))) ≡ Some x
    go true here rest = ap Some (eqb-true y x here)
    go false other rest = rest other

position_before : (x p : ℕ) (xs : List ℕ) → Contains (take p xs) x → position x xs < p
unfolding position
position_before x zero [] contains = (let l = contains.1 in absurd (omega arith))
position_before x zero (y ∷ ys) contains = (let l = contains.1 in absurd (omega arith))
position_before x (suc p) [] contains = (let l = contains.1 in absurd (omega arith))
position_before x (suc p) (y ∷ ys) contains = go (nat_eq y x) refl (λ other. position_before x p ys (elsewhere x y (take p ys) other contains))
  where
    go : (b : Bool) → nat_eq y x ≡ b → (nat_eq y x ≡ false → position x ys < p) → cond b 0 (suc (position x ys)) < suc p
    go true here rest = omega arith
    go false other rest = let l = rest other in omega arith

pub orders_rank : OrdersRank
orders_rank design order fits ordered = (
  λ cell. position cell order,
  λ cell before reads.
      (let within = cell_reader design fits reads.2 cell reads.0 reads.4 in
      let here = at_position cell order (ordered.each cell within) in
      position_before before (position cell order) order (ordered.after (position cell order) cell before here reads)),
)

position_first : (x k : ℕ) (xs : List ℕ) → slice_get xs k ≡ Some x → position x xs ≤ k
unfolding position
position_first x k [] is = omega arith
position_first x zero (y ∷ ys) is = (let same : y ≡ x = cc in go (nat_eq y x) refl same)
  where
    go : (b : Bool) → nat_eq y x ≡ b → y ≡ x → cond b 0 (suc (position x ys)) ≤ 0
    go true here same = omega arith
    go false other same = absurd (false≢true (sym other ∙ eq-eqb y x same))
position_first x (suc k) (y ∷ ys) is = go (nat_eq y x) (position_first x k ys is)
  where
    go : (b : Bool) → position x ys ≤ k → cond b 0 (suc (position x ys)) ≤ suc k
    go true l = omega arith
    go false l = omega arith

pub orders_place : OrdersPlace
orders_place design order fits ordered = (
  λ cell. position cell order,
  λ cell before reads.
      (let within = cell_reader design fits reads.2 cell reads.0 reads.4 in
      let here = at_position cell order (ordered.each cell within) in
      position_before before (position cell order) order (ordered.after (position cell order) cell before here reads)),
  λ cell within. at_position cell order (ordered.each cell within),
  λ place cell is. position_first cell place order is,
)

-- ---- shape

closes_rise : (flat : Flat) (rank : ℕ → ℕ) → IsRanked flat rank → (first before : ℕ) (cells : List ℕ) → Closes flat first before cells → rank before < rank first
closes_rise flat rank ranked first before [] closes = ranked first before closes
closes_rise flat rank ranked first before (cell ∷ cells) closes = let one = ranked cell before closes.0 in let rest = closes_rise flat rank ranked first cell cells closes.1 in omega arith

no_loop : (flat : Flat) (rank : ℕ → ℕ) → IsRanked flat rank → (cells : List ℕ) → IsLoop flat cells → ⊥
no_loop flat rank ranked [] loop = loop
no_loop flat rank ranked (cell ∷ cells) loop = let l = closes_rise flat rank ranked cell cell cells loop in omega arith

module _ (design : Design) (wired : IsWired design) where
  no_gate : (cell : ℕ) (row : CellRow) → IsOf design cell row → is_gate row.kind ≡ true → ⊥
  no_gate cell row of gate = false≢true (subst (λ (k : Kind). is_gate k ≡ true) (wired.jtls cell row of) gate)

  shape : (rank : ℕ → ℕ) → IsRanked design.flat rank → HasGoodShape design
  shape rank ranked = record {
    fanout = wired.fanout;
    loop = λ cells loop. no_loop design.flat rank ranked cells loop;
    data_on_clock = λ pin path (cell, at, net, is, on). (let (row, of, gate, place) = on.clock_pin in no_gate cell row of gate);
    clock_on_data = λ pin path on. (let (cell, at, net, (row, of, gate, input), is, route) = on.place in no_gate cell row of gate);
    clock_merged = λ pin path on.
        (let (cell, at, net, (row, of, merge, input), is, route) = on.place in
        let kinds : kind.Jtl ≡ kind.Merge = sym (wired.jtls cell row of) ∙ merge in cc);
    clock_out = λ pin path (port, net, is, route). from_clock path port net (pin, is) route.route route.clock;
  }
    where
      unread : (first : ℕ) (arcs : List PathArc) (port net : ℕ) → IsDrivenBy design.flat first (driver.Port design.bench.clock) → ArcsLead design first arcs net → Reads design.flat (reader.Port port) net → ⊥
      unread first [] port net driven lead reads = wired.clock_unread first (reader.Port port) driven (subst (λ (n : ℕ). Reads design.flat (reader.Port port) n) (sym lead) reads)
      unread first (arc.Port p ∷ arcs) port net driven lead reads = absurd lead.1
      unread first (arc.Through cell at out ∷ arcs) port net driven (next, (row, of, passed, cell_reads, out_driven), rest) reads = wired.clock_unread first (reader.Pin cell at) driven cell_reads

      from_clock : (path : List PathArc) (port net : ℕ) → Reads design.flat (reader.Port port) net → IsRoute design path net → BeginsAtPort path design.bench.clock → ⊥
      from_clock [] port net reads route begins = absurd route
      from_clock (arc.Through cell at out ∷ arcs) port net reads route begins = absurd route
      from_clock (arc.Port p ∷ arcs) port net reads (first, driven, lead) begins =
          let ports : p ≡ design.bench.clock = cc in
          unread first arcs port net (subst (λ (x : ℕ). IsDrivenBy design.flat first (driver.Port x)) ports driven) lead reads

  -- ---- timing

  no_passive : HasNoDead false design
  no_passive cell row first second of passive (row', dead) =
      let none = wired.no_dead_time cell row' dead.meet.of in
      let before = dead.near.before in
      let after = dead.near.after in absurd (omega (arith, ints))

  delay_from_zero : (a : PathArc) (d : ℤ) → IsDelay design a d → pos 0 ≤ℤ d
  delay_from_zero (arc.Port port) d (used, is, fits) = by_use used is fits
    where
      by_use : (used : PortUse) → IsUsed design.bench port used → IsPortDelay design.bench used d → pos 0 ≤ℤ d
      by_use port_use.Clock is fits = fits.from
      by_use (port_use.Arrival low high) is fits = (let bound = (use_fits design wired.set_up port (port_use.Arrival low high) is).1.2.from in let from = fits.from in omega (arith, ints))
      by_use (port_use.Strobed strobe) is fits = absurd fits
  delay_from_zero (arc.Through cell pin out) d (row, of, within) = let bound = (rows design wired.set_up cell row of).low.from in let from = within.from in omega (arith, ints)

  total_from_zero : (arcs : List PathArc) (delays : List ℤ) → AllZip (IsDelay design) arcs delays → pos 0 ≤ℤ total delays
  total_from_zero [] [] fits = omega (arith, ints)
  total_from_zero [] (d ∷ delays) fits = absurd fits
  total_from_zero (a ∷ arcs) [] fits = absurd fits
  total_from_zero (a ∷ arcs) (d ∷ delays) fits = let one = delay_from_zero a d fits.0 in let rest = total_from_zero arcs delays fits.1 in omega (arith, ints)

  later : (n m : ℕ) (t offset sum : ℤ) → n ≡ 1 → m ≡ 0 → offset <ℤ t → pos 0 ≤ℤ sum → ((pos n *ℤ t) +ℤ sum) ≤ℤ (offset +ℤ (pos m *ℤ t)) → ⊥
  later n m t offset sum one none less above early =
      let at_one : ((pos 1 *ℤ t) +ℤ sum) ≤ℤ (offset +ℤ (pos 0 *ℤ t)) = subst (λ (k : ℕ). ((pos k *ℤ t) +ℤ sum) ≤ℤ (offset +ℤ (pos 0 *ℤ t))) one (subst (λ (k : ℕ). ((pos n *ℤ t) +ℤ sum) ≤ℤ (offset +ℤ (pos k *ℤ t))) none early) in
      omega (arith, ints)

  ahead_at : (pulse : PathPick) → IsPick design pulse → pulse.number ≡ 1 → (r : Reader) (held : Against) → IsHeldAgainst design r pulse held (λ setup hold number time. (number ≡ 0) × (pick_time design.bench pulse ≤ℤ time)) → ⊥
  ahead_at pulse is one (reader.Pin cell place) (against.Clock clock) (row, net, of, gate, input, cpick, cpin, agree, early) = no_gate cell row of gate
  ahead_at pulse is one (reader.Pin cell place) (against.Strobe number) held = absurd held
  ahead_at pulse is one (reader.Port port) (against.Clock clock) held = absurd held
  ahead_at pulse is one (reader.Port port) (against.Strobe number) (strobe, used, early) =
      let fit = (use_fits design wired.set_up port (port_use.Strobed strobe) used).1 in
      later pulse.number number design.bench.period strobe.offset (total pulse.delays) one early.0 fit.2 (total_from_zero pulse.arcs pulse.delays is.delays) early.1

  no_ahead : HasNoAhead design
  no_ahead pin pulse held (one, o) = let (end, at, against) = o.against in ahead_at pulse o.pick one end.reader held against

  -- a trail ends with a hop
  last_hop : (start : Option ℕ) (hops : List TrailHop) (to : Reader) → AreHops design start hops to → (from : Option ℕ) × (hop : TrailHop) × IsHop design from hop × EndsAt design hop.pin to
  last_hop start [] to are = absurd are
  last_hop start (hop ∷ []) to (is, ends) = (start, hop, is, ends)
  last_hop start (hop ∷ next ∷ hops) to (is, gate, ends, rest) = last_hop (Some gate) (next ∷ hops) to rest

  no_unequal : (depths : List (ℕ × ℕ)) → HasAllDepths design.bench depths → AreDepths design depths → HasNoUnequal design
  no_unequal depths all deep (reader.Pin cell at) first second (one, two, other) = let (from, hop, is, (zero_pin, row, input, net, of, gate, less, pin)) = last_hop None first.hops (reader.Pin cell at) one in no_gate cell row of gate
  no_unequal depths all deep (reader.Port port) first second (one, two, other) =
      let (from, hop, is, ends) = last_hop None first.hops (reader.Port port) one in
      let (strobe, used) = strobe_at_end hop.pin is.steps.0 port ends hop.arcs hop.steps is.steps.1 is.steps.2 in
      let (depth, contains) = all port strobe used in
      let has = deep port depth contains in
      other (has.every first.hops one ∙ sym (has.every second.hops two))
    where
      strobe_at_end : (pin : ℕ) (end : Pin) (port : ℕ) → EndsAt design pin (reader.Port port) → (arcs : List PathArc) (q : ℤ) → slice_get design.flat.pins pin ≡ Some end → HasStepsAt design arcs pin end.reader q → (strobe : Strobe) × IsUsed design.bench port (port_use.Strobed strobe)
      strobe_at_end pin end port (net, is) arcs q at steps =
          let e : Some end ≡ Some (record { reader = reader.Port port; net = net }) = sym at ∙ is in
          let same : end ≡ record { reader = reader.Port port; net = net } = cc in
          let found = subst (λ (p : Pin). HasStepsAt design arcs pin p.reader q) same steps in
          (found.0, found.1)

  timed : HasNoWindow design → (depths : List (ℕ × ℕ)) → HasAllDepths design.bench depths → AreDepths design depths → IsTimed design
  timed no_window depths all deep = record { no_dead = λ cell row first second of gate dead. no_gate cell row of gate; no_window = no_window; no_ahead = no_ahead; no_unequal = no_unequal depths all deep }

  -- ---- values

  one_any : (v : Bool) → list_any (λ bit. bit) (v ∷ []) ≡ v
  one_any true = refl
  one_any false = refl

  jtl_value : (k : Kind) (row : CellRow) (out : ℕ) (v : Bool) → k ≡ kind.Jtl → value_made k row out (v ∷ []) ≡ v
  jtl_value kind.Jtl row out v is = one_any v
  jtl_value kind.Split row out v is = cc
  jtl_value kind.Merge row out v is = cc
  jtl_value kind.Gate row out v is = cc

  jtl_inputs : (k : Kind) (row : CellRow) → FitsKind k row → k ≡ kind.Jtl → length row.inputs ≡ 1
  jtl_inputs kind.Jtl row fits is = fits.0
  jtl_inputs kind.Split row fits is = cc
  jtl_inputs kind.Merge row fits is = cc
  jtl_inputs kind.Gate row fits is = cc

  one_net : (cell net : ℕ) (nets : List ℕ) → PinsRead design.flat cell 1 nets → Reads design.flat (reader.Pin cell 0) net → nets ≡ net ∷ []
  one_net cell net [] read reads = absurd read
  one_net cell net (m ∷ []) read reads = let same : m ≡ net = (numbered design wired.set_up.flat_fits).one_read (reader.Pin cell 0) m net read.0 reads in cc
  one_net cell net (m ∷ l ∷ nets) read reads = absurd read.1

  module _ (word values : List Bool) (are : AreValues design word values) where
    arc_keeps : (a : PathArc) (net next : ℕ) → ArcLeads design net a next → value_of values next ≡ value_of values net
    arc_keeps (arc.Port port) net next leads = absurd leads
    arc_keeps (arc.Through cell pin out) net next (row, of, passed, reads, driven) =
        let (row', nets, of', inputs, same) = are.given next (driver.Out cell out) driven in
        let jtl = wired.jtls cell row' of' in
        let few = jtl_inputs row'.kind row' (rows design wired.set_up cell row' of').kind jtl in
        let rows_same : row ≡ row' = one_row design cell row row' of of' in
        let input : pin < length row'.inputs = subst (λ (b : Bool). IsPassedFrom b row' pin) (ap is_gate jtl) (subst (λ (r : CellRow). IsPassedFrom (is_gate r.kind) r pin) rows_same passed) in
        let first : pin ≡ 0 = omega arith in
        let list = one_net cell net nets (subst (λ (n : ℕ). PinsRead design.flat cell n nets) few inputs) (subst (λ (p : ℕ). Reads design.flat (reader.Pin cell p) net) first reads) in
        same ∙ ap (λ (ns : List ℕ). value_made row'.kind row' out (map (value_of values) ns)) list ∙ jtl_value row'.kind row' out (value_of values net) jtl

    arcs_keep : (net : ℕ) (arcs : List PathArc) (last : ℕ) → ArcsLead design net arcs last → value_of values last ≡ value_of values net
    arcs_keep net [] last lead = ap (value_of values) (sym lead)
    arcs_keep net (a ∷ arcs) last (next, on, rest) = arcs_keep next arcs last rest ∙ arc_keeps a net next on

    data_bit : (used : PortUse) (port : ℕ) → is_data used ≡ true → port_value used design.bench port word ≡ bit_of design.bench port word
    data_bit port_use.Clock port is = absurd (false≢true is)
    data_bit (port_use.Arrival low high) port is = refl
    data_bit (port_use.Strobed strobe) port is = absurd (false≢true is)

    wire_bit : (arcs : List PathArc) (net source : ℕ) (used : PortUse) → IsPath design arcs net → BeginsAtPort arcs source → IsUsed design.bench source used → is_data used ≡ true → value_of values net ≡ bit_of design.bench source word
    wire_bit [] net source used path begins is data_is = absurd path.route
    wire_bit (arc.Through cell pin out ∷ arcs) net source used path begins is data_is = absurd path.route
    wire_bit (arc.Port p ∷ arcs) net source used path begins is data_is =
        let (first, driven, lead) = path.route in
        let ports : p ≡ source = cc in
        let (used', is', same) = are.given first (driver.Port p) driven in
        let e : Some used' ≡ Some used = sym is' ∙ subst (λ (x : ℕ). IsUsed design.bench x used) (sym ports) is in
        let uses : used' ≡ used = cc in
        arcs_keep first arcs net lead ∙ same ∙ data_bit used' p (subst (λ (u : PortUse). is_data u ≡ true) (sym uses) data_is) ∙ ap (λ (x : ℕ). bit_of design.bench x word) ports

-- a bit at an output is that of the data input at the other end of its wire
pub output_bit : (design : Design) → IsWired design → (word : List Bool) (port source : ℕ) (bit : Bool) → IsWireFrom design port source → HasOutputValue design word port bit → bit ≡ bit_of design.bench source word
output_bit design wired word port source bit (arcs, end, used, end_reads, path, begins, is, data_is) (net, reads, (values, are, shown)) =
    let nets : end ≡ net = (numbered design wired.set_up.flat_fits).one_read (reader.Port port) end net end_reads reads in
    sym shown ∙ ap (value_of values) (sym nets) ∙ wire_bit design wired word values are arcs end source used path begins is data_is

-- what is in a list of ends of which this is the depth
end_of : (ends : List (ℕ × ℕ × ℕ)) (port depth : ℕ) → Contains {X = ℕ × ℕ} (depths_of ends) (port, depth) → (source : ℕ) × Contains {X = ℕ × ℕ × ℕ} ends (port, depth, source)
end_of [] port depth contains = (let l = contains.1 in absurd (omega arith))
end_of ((port', depth', source) ∷ ends) port depth (zero, l, e) =
    let ports : port' ≡ port = ap (λ (p : ℕ × ℕ). p.0) e in
    let depths : depth' ≡ depth = ap (λ (p : ℕ × ℕ). p.1) e in
    (source, (0, omega arith, cc))
end_of ((port', depth', source) ∷ ends) port depth (suc i, l, e) = let found = end_of ends port depth (i, omega arith, e) in (found.0, (suc found.1.0, (let m = found.1.1 in omega arith), found.1.2))

pub wires_are_signed : WiresAreSigned
wires_are_signed design order ends wired ordered no_window all are_ends =
    let rank = orders_rank design order wired.set_up.flat_fits ordered in
    let deep : AreDepths design (depths_of ends) = λ port depth contains. (let found = end_of ends port depth contains in (are_ends port depth found.0 found.1).0) in
    let signed = designs_are_signed design rank.0 (depths_of ends) wired.set_up (shape design wired rank.0 rank.1) rank.1 (no_passive design wired) (timed design wired no_window (depths_of ends) all deep) all deep in
    signed_over design (HasOutputValue design) (IsSourceBit design ends) (depths_of ends) signed
    (λ word port bit are_word value. λ depth source contains. output_bit design wired word port source bit (are_ends port depth source contains).1 value)
