-- Each net of a circuit of JTLs has at most one route, along JTLs alone.
use Rattle.std.proofs.Common.{◌≡◌, ℕ, zero, suc, ◌+◌, ◌<◌, ◌≤◌, ◌⊎◌, false, cond, List, [], ◌∷◌, ◌++◌, length, refl, sym, ap, ◌∙◌, subst, arith, inl, inr, length-append}
use Rattle.std.proofs.lemmas.List.Recursion.{is_count_by}
use Rattle.std.specs.Prelude.{Option, Some, None}
use Rattle.std.specs.Option.{option_map_or}
use Rattle.std.specs.List.{count_by}
use Rattle.rsfq_ids.specs.declared.table.CellRow.{CellRow}
use Rattle.rsfq_ids.specs.declared.table.Kind.{Kind}
use Rattle.rsfq_ids.specs.declared.table.Kind.TheVariants as kind
use Rattle.rsfq_ids.specs.declared.circuit.Pin.{Pin}
use Rattle.rsfq_ids.specs.declared.circuit.Driver.TheVariants as driver
use Rattle.rsfq_ids.specs.declared.circuit.Reader.{Reader}
use Rattle.rsfq_ids.specs.declared.circuit.Reader.TheVariants as reader
use Rattle.rsfq_ids.specs.declared.offence.PathArc.{PathArc}
use Rattle.rsfq_ids.specs.declared.offence.PathArc.TheVariants as arc
use Rattle.rsfq_ids.specs.Design.{Design}
use Rattle.rsfq_ids.specs.Circuit.{IsDrivenBy, IsPin, IsOf, row_of, is_gate}
use Rattle.rsfq_ids.specs.Path.{IsPassedFrom, ArcLeads, ArcsLead, IsRoute, IsPath, passes}
use Rattle.rsfq_ids.specs.Ready.{IsSetUp}
use Rattle.wire_timing.specs.Wires.{HasOnlyJtls}
use Rattle.wire_timing.proofs.Shape.{row_fits, pin_is, net_is}

-- a pin reads one net
pub same_net : (design : Design) (pin : ℕ) (r : Reader) (n m : ℕ) → IsPin design.flat pin r n → IsPin design.flat pin r m → n ≡ m
same_net design pin r n m one two =
    let pin_of : ℕ → Pin = λ n. record { reader = r; net = n } in
    let e : Some (pin_of n) ≡ Some (pin_of m) = sym one ∙ two in
    let f : pin_of n ≡ pin_of m = cc in ap (λ (x : Pin). x.net) f

module _ (design : Design) where
  lead_more : (net : ℕ) (arcs : List PathArc) (mid : ℕ) (a : PathArc) (last : ℕ) → ArcsLead design net arcs mid → ArcLeads design mid a last → ArcsLead design net (arcs ++ a ∷ []) last
  lead_more net [] mid a last lead on = (last, subst (λ (x : ℕ). ArcLeads design x a last) (sym lead) on, refl)
  lead_more net (b ∷ arcs) mid a last (next, first, rest) on = (next, first, lead_more next arcs mid a last rest on)

  -- a route goes on through one more cell
  pub route_more : (arcs : List PathArc) (mid : ℕ) (a : PathArc) (last : ℕ) → IsRoute design arcs mid → ArcLeads design mid a last → IsRoute design (arcs ++ a ∷ []) last
  route_more [] mid a last route on = absurd route
  route_more (arc.Port port ∷ arcs) mid a last (first, is, lead) on = (first, is, lead_more first arcs mid a last lead on)
  route_more (arc.Through cell pin out ∷ arcs) mid a last route on = absurd route

  record LeadBefore (net : ℕ) (arcs : List PathArc) (last : ℕ) : Type 0 where
    pub before : List PathArc
    pub end : PathArc
    pub mid : ℕ
    pub parts : arcs ≡ before ++ end ∷ []
    pub lead : ArcsLead design net before mid
    pub on : ArcLeads design mid end last

  lead_last : (net : ℕ) (arcs : List PathArc) (last : ℕ) → ArcsLead design net arcs last → ((arcs ≡ []) × (net ≡ last)) ⊎ LeadBefore net arcs last
  lead_last net [] last lead = inl (refl, lead)
  lead_last net (a ∷ arcs) last (next, on, rest) = elim (lead_last next arcs last rest) [
    | inl (none, same) ↦ inr (record { before = []; end = a; mid = net; parts = ap (λ (xs : List PathArc). a ∷ xs) none; lead = refl; on = subst (λ (x : ℕ). ArcLeads design net a x) same on })
    | inr b ↦ inr (record { before = a ∷ b.before; end = b.end; mid = b.mid; parts = ap (λ (xs : List PathArc). a ∷ xs) b.parts; lead = (next, on, b.lead); on = b.on })
  ]

  -- A route through a cell at last.
  pub record RouteBefore (arcs : List PathArc) (last : ℕ) : Type 0 where
    pub before : List PathArc
    pub end : PathArc
    pub mid : ℕ
    pub parts : arcs ≡ before ++ end ∷ []
    pub route : IsRoute design before mid
    pub on : ArcLeads design mid end last

  pub route_last : (arcs : List PathArc) (last : ℕ) → IsRoute design arcs last → ((port : ℕ) × (arcs ≡ arc.Port port ∷ []) × IsDrivenBy design.flat last (driver.Port port)) ⊎ RouteBefore arcs last
  route_last [] last route = absurd route
  route_last (arc.Through cell pin out ∷ arcs) last route = absurd route
  route_last (arc.Port port ∷ arcs) last (first, is, lead) = elim (lead_last first arcs last lead) [
    | inl (none, same) ↦ inl (port, ap (λ (xs : List PathArc). arc.Port port ∷ xs) none, subst (λ (x : ℕ). IsDrivenBy design.flat x (driver.Port port)) same is)
    | inr b ↦ inr (record { before = arc.Port port ∷ b.before; end = b.end; mid = b.mid; parts = ap (λ (xs : List PathArc). arc.Port port ∷ xs) b.parts; route = (first, is, b.lead); on = b.on })
  ]

  module _ (set_up : IsSetUp design) (jtls : HasOnlyJtls design) where
    not_gate : (k : Kind) → k ≡ kind.Jtl → is_gate k ≡ false
    not_gate kind.Jtl is = refl
    not_gate kind.Split is = refl
    not_gate kind.Merge is = refl
    not_gate kind.Gate is = cc

    pub no_gate : (cell : ℕ) (row : CellRow) → IsOf design cell row → is_gate row.kind ≡ false
    no_gate cell row of = not_gate row.kind (jtls cell row of)

    -- What a cell passes: from its one input, which is the pin of its number.
    pub through : (mid : ℕ) (cell at out last : ℕ) → ArcLeads design mid (arc.Through cell at out) last → (at ≡ 0) × (out ≡ 0) × IsPin design.flat cell (reader.Pin cell 0) mid × IsDrivenBy design.flat last (driver.Out cell 0)
    through mid cell at out last (row, of, passed, (pin, is), drives) =
        let p = pin_is design set_up jtls pin cell at mid is in
        let o = net_is design set_up jtls last cell out drives in (
          p.1,
          o.1,
          subst (λ (x : ℕ). IsPin design.flat x (reader.Pin cell 0) mid) p.0 (subst (λ (x : ℕ). IsPin design.flat pin (reader.Pin cell x) mid) p.1 is),
          subst (λ (x : ℕ). IsDrivenBy design.flat last (driver.Out cell x)) o.1 drives,
        )

    -- through a JTL
    pub leads : (mid cell last : ℕ) (row : CellRow) → IsOf design cell row → IsPin design.flat cell (reader.Pin cell 0) mid → IsDrivenBy design.flat last (driver.Out cell 0) → ArcLeads design mid (arc.Through cell 0 0) last
    leads mid cell last row of reads drives =
        let fits = row_fits design set_up jtls cell row of in
        let one = fits.inputs in
        let from : 0 < length row.inputs = omega arith in
        (row, of, subst (λ (b : _). IsPassedFrom b row 0) (sym (no_gate cell row of)) from, (cell, reads), drives)

    same_end : (mid other : ℕ) (a b : PathArc) (last : ℕ) → ArcLeads design mid a last → ArcLeads design other b last → (a ≡ b) × (mid ≡ other)
    same_end mid other (arc.Port p) b last one two = absurd one
    same_end mid other (arc.Through cell at out) (arc.Port p) last one two = absurd two
    same_end mid other (arc.Through cell at out) (arc.Through cell' at' out') last one two =
        let (a, o, pin, drives) = through mid cell at out last one in
        let (a', o', pin', drives') = through other cell' at' out' last two in
        let e : Some (driver.Out cell 0) ≡ Some (driver.Out cell' 0) = sym drives ∙ drives' in
        let c : cell ≡ cell' = cc in
        let pin'' : IsPin design.flat cell (reader.Pin cell 0) other = subst (λ (x : ℕ). IsPin design.flat x (reader.Pin x 0) other) (sym c) pin' in
        let same_pin : at ≡ at' = a ∙ sym a' in
        let same_out : out ≡ out' = o ∙ sym o' in
        (cc, same_net design cell (reader.Pin cell 0) mid other pin pin'')

    port_not_out : (mid last port : ℕ) (a : PathArc) → IsDrivenBy design.flat last (driver.Port port) → ArcLeads design mid a last → ⊥
    port_not_out mid last port (arc.Port p) is on = absurd on
    port_not_out mid last port (arc.Through cell at out) is on =
        let drives = (through mid cell at out last on).3 in
        let e : Some (driver.Port port) ≡ Some (driver.Out cell 0) = sym is ∙ drives in cc

    -- two routes to a net are one
    routes_one : (fuel : ℕ) (arcs others : List PathArc) (last : ℕ) → length arcs ≤ fuel → IsRoute design arcs last → IsRoute design others last → arcs ≡ others
    routes_one zero [] others last l one two = absurd one
    routes_one zero (a ∷ arcs) others last l one two = absurd (omega arith)
    routes_one (suc fuel) arcs others last l one two = elim (route_last arcs last one) [
      | inl (p, is, drives) ↦ elim (route_last others last two) [
        | inl (q, is', drives') ↦ (let e : Some (driver.Port p) ≡ Some (driver.Port q) = sym drives ∙ drives' in let f : p ≡ q = cc in is ∙ ap (λ (x : ℕ). arc.Port x ∷ []) f ∙ sym is')
        | inr b ↦ absurd (port_not_out b.mid last p b.end drives b.on)
      ]
      | inr a ↦ elim (route_last others last two) [
        | inl (q, is', drives') ↦ absurd (port_not_out a.mid last q a.end drives' a.on)
        | inr b ↦
            (let ends = same_end a.mid b.mid a.end b.end last a.on b.on in
            let shorter : length a.before ≤ fuel = (let e = ap length a.parts ∙ length-append a.before (a.end ∷ []) in omega arith) in
            let rest = routes_one fuel a.before b.before b.mid shorter (subst (λ (x : ℕ). IsRoute design a.before x) ends.1 a.route) b.route in
            a.parts ∙ ap (λ (xs : List PathArc). xs ++ a.end ∷ []) rest ∙ ap (λ (x : PathArc). b.before ++ x ∷ []) ends.0 ∙ sym b.parts)
      ]
    ]

    pub route_one : (arcs others : List PathArc) (last : ℕ) → IsRoute design arcs last → IsRoute design others last → arcs ≡ others
    route_one arcs others last one two = routes_one (length arcs) arcs others last (omega arith) one two

    -- no gate is on any path
    passes_none : (a : PathArc) → passes is_gate design a ≡ false
    passes_none (arc.Port port) = refl
    passes_none (arc.Through cell pin out) = go (row_of design cell) refl
      where
        go : (found : Option CellRow) → row_of design cell ≡ found → option_map_or (λ row. is_gate row.kind) (row_of design cell) false ≡ false
        go (Some row) is = ap (λ (o : Option CellRow). option_map_or (λ row. is_gate row.kind) o false) is ∙ no_gate cell row is
        go None is = ap (λ (o : Option CellRow). option_map_or (λ row. is_gate row.kind) o false) is

    pub none_passed : (arcs : List PathArc) → count_by (passes is_gate design) arcs ≡ 0
    none_passed arcs = sym (is_count_by (λ xs. 0) (passes is_gate design) refl (λ x xs. sym (ap (λ b. cond b (1 + 0) 0) (passes_none x))) arcs)

    pub path_of : (arcs : List PathArc) (net : ℕ) → IsRoute design arcs net → IsPath design arcs net
    path_of arcs net route = let none = none_passed arcs in record { route = route; one_gate = omega arith; clocked = λ some. absurd (omega arith) }
