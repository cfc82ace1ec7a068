-- The path back from a net is one, and so is the first offence on clocks.
use Rattle.std.proofs.Common.{◌≡◌, ℕ, zero, suc, ◌<◌, ◌≤◌, true, false, List, [], ◌∷◌, ◌++◌, length, get_or, Some, sym, ap, ◌∙◌, subst, arith, inl, inr, length-append}
use Rattle.std.proofs.lemmas.Bool.{cases_lt}
use Rattle.std.proofs.lemmas.Option.{same_Some}
use Rattle.std.proofs.lemmas.List.Elements.{All-head, All-tail}
use Rattle.std.specs.List.{All}
use Rattle.rsfq_ids.specs.declared.table.CellRow.{CellRow}
use Rattle.rsfq_ids.specs.declared.table.Kind.{Kind}
use Rattle.rsfq_ids.specs.declared.table.Kind.TheVariants as kind
use Rattle.rsfq_ids.specs.declared.circuit.Bench.{Bench}
use Rattle.rsfq_ids.specs.declared.circuit.Pin.{Pin}
use Rattle.rsfq_ids.specs.declared.circuit.Driver.TheVariants as driver
use Rattle.rsfq_ids.specs.declared.circuit.Reader.{Reader}
use Rattle.rsfq_ids.specs.declared.circuit.Reader.TheVariants as reader
use Rattle.rsfq_ids.specs.declared.offence.PathArc.{PathArc}
use Rattle.rsfq_ids.specs.declared.offence.PathArc.TheVariants as arc
use Rattle.rsfq_ids.specs.declared.offence.Offence.{Offence}
use Rattle.rsfq_ids.specs.declared.offence.Offence.TheVariants as offence
use Rattle.rsfq_ids.specs.Design.{Design}
use Rattle.rsfq_ids.specs.Circuit.{IsDrivenBy, IsPin, Reads, IsOf, is_gate, clock_pin}
use Rattle.rsfq_ids.specs.Path.{ArcLeads, IsRoute}
use Rattle.rsfq_ids.specs.Offence.{OffenceExists}
use Rattle.net_graph.specs.Graph.{NetGraph, IsGraph}
use Rattle.clock_tree.specs.Clock.{design_of, back_pin, GoesBack, IsPathBack, IsShownAt, IsFirstClockOffence, ClockOffencesAreOne}
use Rattle.clock_tree.proofs.Routes.{route_last}
use Rattle.clock_tree.proofs.Clocks.{same_row}

all_front : (P : PathArc → Type 0) (before : List PathArc) (end : PathArc) → All P (before ++ end ∷ []) → All P before × P end
all_front P [] end all = (λ k d l. absurd (omega arith), All-head P end [] all)
all_front P (a ∷ before) end all =
    let rest = all_front P before end (All-tail P a (before ++ end ∷ []) all) in
    (λ k d l. front_item k d l rest.0, rest.1)
  where
    front_item : (k : ℕ) (d : PathArc) → k < length (a ∷ before) → All P before → P (get_or (a ∷ before) k d)
    front_item zero d l rest = All-head P a (before ++ end ∷ []) all
    front_item (suc k) d l rest = rest k d (omega arith)

module _ (graph : NetGraph) (g : IsGraph graph) (bench : Bench) where
  abbrev design : Design
  design = design_of graph bench

  -- two arcs that go back from one net are one, and lead from one net
  same_arc : (net mid other : ℕ) (a b : PathArc) → ArcLeads design mid a net → ArcLeads design other b net → GoesBack design a → GoesBack design b → (a ≡ b) × (mid ≡ other)
  same_arc net mid other (arc.Port port) b on on' back back' = absurd on
  same_arc net mid other (arc.Through cell pin out) (arc.Port port) on on' back back' = absurd on'
  same_arc net mid other (arc.Through cell pin out) (arc.Through next at put) (row, of, passed, reads, drives) (row', of', passed', reads', drives') (own, own_of, is) (own', own_of', is') =
      let drivers : driver.Out cell out ≡ driver.Out next put = same_Some (driver.Out cell out) (driver.Out next put) (sym drives ∙ drives') in
      let cells : cell ≡ next = cc in
      let outs : out ≡ put = cc in
      let rows : own ≡ own' = same_row design next own own' (subst (λ (c : ℕ). IsOf design c own) cells own_of) own_of' in
      let pins : pin ≡ at = is ∙ ap back_pin rows ∙ sym is' in
      let here : Reads graph.flat (reader.Pin next at) mid = subst (λ (p : ℕ). Reads graph.flat (reader.Pin next p) mid) pins (subst (λ (c : ℕ). Reads graph.flat (reader.Pin c pin) mid) cells reads) in
      (arcs_are cell next pin at out put cells pins outs, g.numbered.one_read (reader.Pin next at) mid other here reads')
    where
      arcs_are : (a b p q o r : ℕ) → a ≡ b → p ≡ q → o ≡ r → arc.Through a p o ≡ arc.Through b q r
      arcs_are a b p q o r e f h = cc

  port_or_cell : (net port mid : ℕ) (end : PathArc) → IsDrivenBy graph.flat net (driver.Port port) → ArcLeads design mid end net → ⊥
  port_or_cell net port mid (arc.Port p) is on = on
  port_or_cell net port mid (arc.Through cell pin out) is (row, of, passed, reads, drives) = let e : Some (driver.Port port) ≡ Some (driver.Out cell out) = sym is ∙ drives in cc

  front_back : (arcs before : List PathArc) (end : PathArc) → arcs ≡ before ++ end ∷ [] → All (GoesBack design) arcs → All (GoesBack design) before × GoesBack design end
  front_back arcs before end parts all = all_front (GoesBack design) before end (subst (All (GoesBack design)) parts all)

  one_back : (fuel : ℕ) (arcs others : List PathArc) (net : ℕ) → length arcs ≤ fuel → IsPathBack design arcs net → IsPathBack design others net → arcs ≡ others
  one_back zero [] others net l one other = absurd one.route
  one_back zero (a ∷ arcs) others net l one other = absurd (omega arith)
  one_back (suc fuel) arcs others net l one other = elim (route_last design arcs net one.route) [
    | inl (port, is, drives) ↦ elim (route_last design others net other.route) [
      | inl (port', is', drives') ↦
          (let e : driver.Port port ≡ driver.Port port' = same_Some (driver.Port port) (driver.Port port') (sym drives ∙ drives') in
          let same : port ≡ port' = cc in
          is ∙ ap (λ (p : ℕ). arc.Port p ∷ []) same ∙ sym is')
      | inr b ↦ absurd (port_or_cell net port b.mid b.end drives b.on)
    ]
    | inr a ↦ elim (route_last design others net other.route) [
      | inl (port', is', drives') ↦ absurd (port_or_cell net port' a.mid a.end drives' a.on)
      | inr b ↦
          (let back = front_back arcs a.before a.end a.parts one.back in
          let back' = front_back others b.before b.end b.parts other.back in
          let ends = same_arc net a.mid b.mid a.end b.end a.on b.on back.1 back'.1 in
          let n : length arcs ≡ length (a.before ++ a.end ∷ []) = ap (λ (xs : List PathArc). length xs) a.parts in
          let m = length-append a.before (a.end ∷ []) in
          let rest = one_back fuel a.before b.before b.mid (omega arith) (record { route = subst (λ (x : ℕ). IsRoute design a.before x) ends.1 a.route; back = back.0 }) (record { route = b.route; back = back'.0 }) in
          a.parts ∙ ap (λ (xs : List PathArc). xs ++ a.end ∷ []) rest ∙ ap (λ (x : PathArc). b.before ++ x ∷ []) ends.0 ∙ sym b.parts)
    ]
  ]

  -- ---- at one pin there is one kind

  one_pin_end : (pin : ℕ) (by other : Reader) (net m : ℕ) → IsPin graph.flat pin by net → IsPin graph.flat pin other m → (by ≡ other) × (net ≡ m)
  one_pin_end pin by other net m one two =
      let same : record { reader = by; net = net } ≡ record { reader = other; net = m } = same_Some _ _ (sym one ∙ two) in
      (ap (λ (p : Pin). p.reader) same, ap (λ (p : Pin). p.net) same)

  -- the kind of the cell, and the number of its pin
  abbrev IsAt : ℕ → (Kind → Type 0) → (CellRow → ℕ → Type 0) → Type 0
  IsAt pin OfKind OfPin = (cell : ℕ) × (at : ℕ) × (net : ℕ) × (row : CellRow) × IsPin graph.flat pin (reader.Pin cell at) net × IsOf design cell row × OfKind row.kind × OfPin row at

  same_cell : (pin : ℕ) (K L : Kind → Type 0) (P Q : CellRow → ℕ → Type 0) → IsAt pin K P → IsAt pin L Q → (row : CellRow) × (at : ℕ) × K row.kind × P row at × L row.kind × Q row at
  same_cell pin K L P Q (cell, at, net, row, is, of, k, p) (cell', at', net', row', is', of', l, q) =
      let ends = (one_pin_end pin (reader.Pin cell at) (reader.Pin cell' at') net net' is is').0 in
      let cells : cell ≡ cell' = cc in
      let pins : at ≡ at' = cc in
      let rows : row' ≡ row = same_row design cell row' row (subst (λ (c : ℕ). IsOf design c row') (sym cells) of') of in
      (row, at, k, p, subst (λ (r : CellRow). L r.kind) rows l, subst (λ (r : CellRow). Q r at) rows (subst (Q row') (sym pins) q))

  no_port : (pin : ℕ) (K : Kind → Type 0) (P : CellRow → ℕ → Type 0) (port net : ℕ) → IsAt pin K P → IsPin graph.flat pin (reader.Port port) net → ⊥
  no_port pin K P port net (cell, at, m, row, is, of, k, p) port_is = let ends = (one_pin_end pin (reader.Pin cell at) (reader.Port port) m net is port_is).0 in cc

  abbrev Gate : Kind → Type 0
  Gate k = is_gate k ≡ true

  abbrev Merger : Kind → Type 0
  Merger k = k ≡ kind.Merge

  abbrev OnClock : CellRow → ℕ → Type 0
  OnClock row at = at ≡ clock_pin row

  abbrev OnInput : CellRow → ℕ → Type 0
  OnInput row at = at < length row.inputs

  clock_or_data : (pin : ℕ) → IsAt pin Gate OnClock → IsAt pin Gate OnInput → ⊥
  clock_or_data pin one two = let (row, at, k, p, l, q) = same_cell pin Gate Gate OnClock OnInput one two in omega arith

  gate_or_merger : (pin : ℕ) (P Q : CellRow → ℕ → Type 0) → IsAt pin Gate P → IsAt pin Merger Q → ⊥
  gate_or_merger pin P Q one two = let (row, at, k, p, l, q) = same_cell pin Gate Merger P Q one two in let wrong : false ≡ true = sym (ap is_gate l) ∙ k in cc

  abbrev AtPort : ℕ → Type 0
  AtPort pin = (port : ℕ) × (net : ℕ) × IsPin graph.flat pin (reader.Port port) net

  -- which of the four an offence is, and what then stands at its pin
  data Kinds (pin : ℕ) (path : List PathArc) (shown : Offence) : Type 0 where
    on_clock : shown ≡ offence.DataOnClock pin path → IsAt pin Gate OnClock → Kinds pin path shown
    on_data : shown ≡ offence.ClockOnData pin path → IsAt pin Gate OnInput → Kinds pin path shown
    merged : shown ≡ offence.ClockMerged pin path → IsAt pin Merger OnInput → Kinds pin path shown
    out : shown ≡ offence.ClockOut pin path → AtPort pin → Kinds pin path shown

  kinds_of : (pin : ℕ) (path : List PathArc) (shown : Offence) → IsShownAt pin path shown → OffenceExists design shown → Kinds pin path shown
  kinds_of pin path (offence.DataOnClock p xs) (a, b) (cell, at, net, is, on) =
      let (row, of, gate, place) = on.clock_pin in
      let same : offence.DataOnClock p xs ≡ offence.DataOnClock pin path = cc in
      on_clock same (cell, at, net, row, subst (λ (q : ℕ). IsPin graph.flat q (reader.Pin cell at) net) a is, of, gate, place)
  kinds_of pin path (offence.ClockOnData p xs) (a, b) on =
      let (cell, at, net, (row, of, gate, input), is, route) = on.place in
      let same : offence.ClockOnData p xs ≡ offence.ClockOnData pin path = cc in
      on_data same (cell, at, net, row, subst (λ (q : ℕ). IsPin graph.flat q (reader.Pin cell at) net) a is, of, gate, input)
  kinds_of pin path (offence.ClockMerged p xs) (a, b) on =
      let (cell, at, net, (row, of, merge, input), is, route) = on.place in
      let same : offence.ClockMerged p xs ≡ offence.ClockMerged pin path = cc in
      merged same (cell, at, net, row, subst (λ (q : ℕ). IsPin graph.flat q (reader.Pin cell at) net) a is, of, merge, input)
  kinds_of pin path (offence.ClockOut p xs) (a, b) (port, net, is, route) =
      let same : offence.ClockOut p xs ≡ offence.ClockOut pin path = cc in
      out same (port, net, subst (λ (q : ℕ). IsPin graph.flat q (reader.Port port) net) a is)
  kinds_of pin path (offence.Fanout net first second) at on = absurd at
  kinds_of pin path (offence.Loop cells) at on = absurd at
  kinds_of pin path (offence.Dead cell first second) at on = absurd at
  kinds_of pin path (offence.Window p pulse held) at on = absurd at
  kinds_of pin path (offence.Ahead p pulse held) at on = absurd at
  kinds_of pin path (offence.Unequal to first second) at on = absurd at
  kinds_of pin path (offence.Differ output word netlist golden) at on = absurd at

  one_kind : (pin : ℕ) (path : List PathArc) (one other : Offence) → Kinds pin path one → Kinds pin path other → one ≡ other
  one_kind pin path one other (on_clock e a) (on_clock f b) = e ∙ sym f
  one_kind pin path one other (on_clock e a) (on_data f b) = absurd (clock_or_data pin a b)
  one_kind pin path one other (on_clock e a) (merged f b) = absurd (gate_or_merger pin OnClock OnInput a b)
  one_kind pin path one other (on_clock e a) (out f (port, net, is)) = absurd (no_port pin Gate OnClock port net a is)
  one_kind pin path one other (on_data e a) (on_clock f b) = absurd (clock_or_data pin b a)
  one_kind pin path one other (on_data e a) (on_data f b) = e ∙ sym f
  one_kind pin path one other (on_data e a) (merged f b) = absurd (gate_or_merger pin OnInput OnInput a b)
  one_kind pin path one other (on_data e a) (out f (port, net, is)) = absurd (no_port pin Gate OnInput port net a is)
  one_kind pin path one other (merged e a) (on_clock f b) = absurd (gate_or_merger pin OnClock OnInput b a)
  one_kind pin path one other (merged e a) (on_data f b) = absurd (gate_or_merger pin OnInput OnInput b a)
  one_kind pin path one other (merged e a) (merged f b) = e ∙ sym f
  one_kind pin path one other (merged e a) (out f (port, net, is)) = absurd (no_port pin Merger OnInput port net a is)
  one_kind pin path one other (out e (port, net, is)) (on_clock f b) = absurd (no_port pin Gate OnClock port net b is)
  one_kind pin path one other (out e (port, net, is)) (on_data f b) = absurd (no_port pin Gate OnInput port net b is)
  one_kind pin path one other (out e (port, net, is)) (merged f b) = absurd (no_port pin Merger OnInput port net b is)
  one_kind pin path one other (out e a) (out f b) = e ∙ sym f

  -- ---- the first one

  same_pin : (one other : Offence) (a : IsFirstClockOffence design one) (b : IsFirstClockOffence design other) → a.pin ≡ b.pin
  same_pin one other a b = elim (cases_lt a.pin b.pin) [
    | inl less ↦ absurd (b.first a.pin less (one, a.path, a.at, a.exists))
    | inr most ↦ elim (cases_lt b.pin a.pin) [
      | inl more ↦ absurd (a.first b.pin more (other, b.path, b.at, b.exists))
      | inr least ↦ omega arith
    ]
  ]

  same_path : (one other : Offence) (a : IsFirstClockOffence design one) (b : IsFirstClockOffence design other) → a.pin ≡ b.pin → a.path ≡ b.path
  same_path one other a b pins =
      let (by, net, is, back) = a.reads in
      let (by', net', is', back') = b.reads in
      let nets : net ≡ net' = (one_pin_end b.pin by by' net net' (subst (λ (p : ℕ). IsPin graph.flat p by net) pins is) is').1 in
      one_back (length a.path) a.path b.path net' (omega arith) (subst (IsPathBack design a.path) nets back) back'

  pub first_one : (one other : Offence) → IsFirstClockOffence design one → IsFirstClockOffence design other → one ≡ other
  first_one one other a b =
      let pins = same_pin one other a b in
      let paths = same_path one other a b pins in
      one_kind b.pin b.path one other (kinds_of b.pin b.path one (subst (λ (p : ℕ). IsShownAt p b.path one) pins (subst (λ (xs : List PathArc). IsShownAt a.pin xs one) paths a.at)) a.exists) (kinds_of b.pin b.path other b.at b.exists)

pub clock_offences_are_one : ClockOffencesAreOne
clock_offences_are_one graph bench one other g a b = first_one graph g bench one other a b
