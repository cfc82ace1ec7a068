-- The links from cells to those that read from them, pin by pin; and rings of links are loops of cells.
use Rattle.std.proofs.Common.{◌≡◌, ◌∙◌, ◌+◌, inl, inr, ℕ, List, [], ◌∷◌, ◌++◌, length, Option, Some, None, sym, ap, subst, arith}
use Rattle.std.specs.Prelude.{slice_get, IfNone, IfSome}
use Rattle.std.proofs.lemmas.Bool.{cases_eq}
use Rattle.std.proofs.lemmas.Option.{same_Some, slice_get_within}
use Rattle.rsfq_ids.specs.declared.table.CellTable.{CellTable}
use Rattle.rsfq_ids.specs.declared.circuit.Flat.{Flat}
use Rattle.rsfq_ids.specs.declared.circuit.Pin.{Pin}
use Rattle.rsfq_ids.specs.declared.circuit.Reader.{Reader}
use Rattle.rsfq_ids.specs.declared.circuit.Driver.{Driver}
use Rattle.rsfq_ids.specs.declared.circuit.Driver.TheVariants as driver
use Rattle.rsfq_ids.specs.declared.circuit.Reader.TheVariants as reader
use Rattle.rsfq_ids.specs.Circuit.{IsDrivenBy, IsPin}
use Rattle.rsfq_ids.specs.Offence.{ReadsFrom, Closes, IsLoop}
use Rattle.rsfq_ids.specs.WellFormed.{IsFlat}
use Rattle.flat_aliases.specs.declared.link.Link.{Link}
use Rattle.flat_aliases.specs.Drives.{Leads, LeadsOver, IsRing, IsNamedRing, AreLinksInside}
use Rattle.net_graph.specs.Graph.{HasNoLoop, IsNamedLoop, BeginsAtLeast}
use Rattle.net_graph.specs.Wiring.{cell_read, cell_behind}
use Rattle.net_graph.specs.Loops.{IsLinkOf, IsNoLink, AreLinks}
use Rattle.net_graph.proofs.Got.{push_cases, push_before, push_at, one_item}
use Rattle.net_graph.proofs.Circuits.{reader_inside, driver_inside}

pub links_none : (flat : Flat) → AreLinks flat 0 []
links_none flat = record { sound = λ from to l. absurd (nothing l.0 from to l.1); complete = λ place cell at net before out l. absurd (omega arith) } where
  nothing : (k from to : ℕ) → slice_get {X = Link} [] k ≡ Some (record { from = from; to = to }) → ⊥
  nothing k from to e = cc

reads_so : (flat : Flat) (place : ℕ) (pin : Pin) (by : Reader) → slice_get flat.pins place ≡ Some pin → pin.reader ≡ by → IsPin flat place by pin.net
reads_so flat place pin by is same = is ∙ ap (λ (r : Reader). Some (record { reader = r; net = pin.net })) same

driver_out : (d : Driver) (cell : ℕ) → cell_behind d ≡ Some cell → (out : ℕ) × (d ≡ driver.Out cell out)
driver_out (driver.Port port) cell e = cc
driver_out (driver.Out other out) cell e = (out, ap (λ (x : ℕ). driver.Out x out) (same_Some other cell e))

reader_pin : (r : Reader) (cell : ℕ) → cell_read r ≡ Some cell → (at : ℕ) × (r ≡ reader.Pin cell at)
reader_pin (reader.Port port) cell e = cc
reader_pin (reader.Pin other at) cell e = (at, ap (λ (x : ℕ). reader.Pin x at) (same_Some other cell e))

pub links_more : (flat : Flat) (n : ℕ) (links : List Link) (pin : Pin) (link : Link) → AreLinks flat n links → slice_get flat.pins n ≡ Some pin → IsLinkOf flat pin link → AreLinks flat (n + 1) (links ++ link ∷ [])
links_more flat n links pin link a is (source, drives_from, cell_from, cell_to) = record {
  sound = λ from to l. elim (push_cases links link l.0 (record { from = from; to = to }) l.1) [
    | inl (old, _) ↦ a.sound from to (l.0, old)
    | inr (_, same) ↦
        (let out = driver_out source link.from cell_from in
        let by = reader_pin pin.reader link.to cell_to in
        let drives : IsDrivenBy flat pin.net (driver.Out link.from out.0) = subst (IsDrivenBy flat pin.net) out.1 drives_from in
        let reads : ReadsFrom flat link.to link.from = (by.0, out.0, pin.net, drives, (n, reads_so flat n pin (reader.Pin link.to by.0) is by.1)) in
        let f : link.from ≡ from = ap (λ (x : Link). x.from) same in
        let t : link.to ≡ to = ap (λ (x : Link). x.to) same in
        subst (λ (x : ℕ). ReadsFrom flat x from) t (subst (λ (x : ℕ). ReadsFrom flat link.to x) f reads))
  ];
  complete = λ place cell at' net before out' l reads drives'. elim (cases_eq place n) [
    | inl e ↦
        (let here : pin ≡ record { reader = reader.Pin cell at'; net = net } = one_item flat.pins n pin (record { reader = reader.Pin cell at'; net = net }) is (subst (λ (p : ℕ). IsPin flat p (reader.Pin cell at') net) e reads) in
        let nets : pin.net ≡ net = ap (λ (p : Pin). p.net) here in
        let drivers : source ≡ driver.Out before out' = same_Some source (driver.Out before out') (sym drives_from ∙ subst (λ (m : ℕ). IsDrivenBy flat m (driver.Out before out')) (sym nets) drives') in
        let t : link.to ≡ cell = same_Some link.to cell (sym cell_to ∙ ap (λ (p : Pin). cell_read p.reader) here) in
        let f : link.from ≡ before = same_Some link.from before (sym cell_from ∙ ap cell_behind drivers) in
        let made : link ≡ record { from = before; to = cell } = link_is link before cell f t in
        (length links, push_at links link ∙ ap Some made))
    | inr ne ↦ (let old = a.complete place cell at' net before out' (omega arith) reads drives' in (old.0, push_before links link old.0 _ old.1))
  ];
}
  where
    link_is : (l : Link) (from to : ℕ) → l.from ≡ from → l.to ≡ to → l ≡ record { from = from; to = to }
    link_is l from to f t = ap (λ (x : ℕ). record { from = x; to = l.to }) f ∙ ap (λ (x : ℕ). record { from = from; to = x }) t

pub links_same : (flat : Flat) (n : ℕ) (links : List Link) (pin : Pin) → AreLinks flat n links → slice_get flat.pins n ≡ Some pin → IsNoLink flat pin → AreLinks flat (n + 1) links
links_same flat n links pin a is (source, drives_from, none) = record {
  sound = a.sound;
  complete = λ place cell at net before out l reads drives. elim (cases_eq place n) [
    | inl e ↦
        (let here : pin ≡ record { reader = reader.Pin cell at; net = net } = one_item flat.pins n pin (record { reader = reader.Pin cell at; net = net }) is (subst (λ (p : ℕ). IsPin flat p (reader.Pin cell at) net) e reads) in
        let nets : pin.net ≡ net = ap (λ (p : Pin). p.net) here in
        let drivers : source ≡ driver.Out before out = same_Some source (driver.Out before out) (sym drives_from ∙ subst (λ (m : ℕ). IsDrivenBy flat m (driver.Out before out)) (sym nets) drives) in
        elim none [
          | inl no_cell ↦ (let wrong : None ≡ Some before = sym no_cell ∙ ap cell_behind drivers in cc)
          | inr no_pin ↦ (let wrong : None ≡ Some cell = sym no_pin ∙ ap (λ (p : Pin). cell_read p.reader) here in cc)
        ])
    | inr ne ↦ a.complete place cell at net before out (omega arith) reads drives
  ];
}

module _ (table : CellTable) (flat : Flat) (fit : IsFlat table flat) (links : List Link) (a : AreLinks flat (length flat.pins) links) where
  pub links_inside : AreLinksInside links (length flat.cells)
  links_inside from to l = let reads = a.sound from to l in (driver_inside table flat fit reads.2 from reads.1 reads.3, reader_inside table flat fit to reads.0 reads.2 reads.4)

  reads_link : (cell before : ℕ) → ReadsFrom flat cell before → Leads links before cell
  reads_link cell before (at, out, net, drives, (place, reads)) = a.complete place cell at net before out (slice_get_within flat.pins place _ reads) reads drives

  closes : (first before : ℕ) (cells : List ℕ) → LeadsOver links before cells first → Closes flat first before cells
  closes first before [] l = a.sound before first l
  closes first before (cell ∷ cells) l = (a.sound before cell l.0, closes first cell cells l.1)

  opens : (first before : ℕ) (cells : List ℕ) → Closes flat first before cells → LeadsOver links before cells first
  opens first before [] c = reads_link first before c
  opens first before (cell ∷ cells) c = (reads_link cell before c.0, opens first cell cells c.1)

  ring_loop : (cells : List ℕ) → IsRing links cells → IsLoop flat cells
  ring_loop [] r = r
  ring_loop (cell ∷ cells) r = closes cell cell cells r

  loop_ring : (cells : List ℕ) → IsLoop flat cells → IsRing links cells
  loop_ring [] r = r
  loop_ring (cell ∷ cells) r = opens cell cell cells r

  least_first : (cells : List ℕ) → IsNamedRing links cells → BeginsAtLeast cells
  least_first [] r = r.closed
  least_first (cell ∷ cells) r = r.least

  pub named_loop : (cells : List ℕ) → IsNamedRing links cells → IsNamedLoop flat cells
  named_loop cells r = record { closed = ring_loop cells r.closed; once = r.once; least = least_first cells r }

  pub no_loop : ((ring : List ℕ) → ¬ IsRing links ring) → HasNoLoop flat
  no_loop none cells closed = none cells (loop_ring cells closed)

pub where_none : (found : Option (List ℕ)) (P : Type 0) → found ≡ None → IfNone found P → P
where_none None P is holds = holds
where_none (Some ring) P is holds = cc

pub where_some : (found : Option (List ℕ)) (ring : List ℕ) (P : List ℕ → Type 0) → found ≡ Some ring → IfSome found P → P ring
where_some None ring P is holds = cc
where_some (Some own) ring P is holds = subst P (same_Some own ring is) holds
