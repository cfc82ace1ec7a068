-- What drives which place, by numbers and by places.
use Rattle.std.proofs.Common.{◌≡◌, ◌∙◌, ◌+◌, ◌<◌, ℕ, zero, suc, Bool, false, cond, List, [], ◌∷◌, ◌++◌, map, length, Option, Some, None, refl, sym, ap, subst, arith, length-append}
use Rattle.std.specs.Prelude.{slice_get, unwrap_or, option_to_list}
use Rattle.std.specs.Option.{option_map, option_and_then}
use Rattle.std.specs.List.{AllZip, flat_map, enumerate_from, range_with_len}
use Rattle.std.proofs.lemmas.List.{length-map}
use Rattle.std.proofs.lemmas.Option.{same_Some, slice_get_within}
use Rattle.flat_aliases.specs.declared.link.Link.{Link}
use Rattle.flat_aliases.specs.Drives as number
use Rattle.rsfq_ids.specs.declared.table.CellTable.{CellTable}
use Rattle.rsfq_ids.specs.declared.table.CellRow.{CellRow}
use Rattle.rsfq_ids.specs.declared.circuit.Flat.{Flat}
use Rattle.rsfq_ids.specs.declared.circuit.FlatCell.{FlatCell}
use Rattle.rsfq_ids.specs.declared.circuit.PortBit.{PortBit}
use Rattle.rsfq_ids.specs.declared.circuit.Driver.{Driver}
use Rattle.rsfq_ids.specs.declared.circuit.Driver.TheVariants as driver
use Rattle.rsfq_ids.specs.WellFormed.{drivers_of, output_pins}
use Rattle.bind_forms.specs.declared.bound.BoundKind.{BoundKind}
use Rattle.bind_forms.specs.declared.bound.BoundKind.TheVariants.{Module, Cell}
use Rattle.bind_forms.specs.declared.bound.BoundPart.{BoundPart}
use Rattle.bind_forms.specs.declared.bound.BoundPort.{BoundPort}
use Rattle.bind_forms.specs.declared.bound.BoundInstance.{BoundInstance}
use Rattle.bind_forms.specs.declared.bound.BoundModule.{BoundModule}
use Rattle.bind_forms.specs.declared.bound.Bound.{Bound}
use Rattle.bind_forms.specs.WellFormed.{IsBound, IsLink, cell_ports, port_widths}
use Rattle.flat_places.specs.Hierarchy.{instances_of, wires_of, bit_count, IsDeeper}
use Rattle.flat_places.specs.Circuit.{port_bits}
use Rattle.flat_places.specs.Drives.{Follows, StartsAt, Drives, starts, follows, IsPlaceIn, reading_pins_of}
use Rattle.flat_places.specs.Hops.{Hop, hops_in}
use Rattle.flat_places.specs.Names.{cell_name}
use Rattle.flat_places.specs.Places.{Place, CellAt, deeper_place, deeper_cell, cells_by, cells_in, cells_of, places_in}
use Rattle.flat_places.proofs.Counted.{places_length}
use Rattle.flat_places.proofs.Joined.{got_left, got_right, map_got, got_map, flat_got, got_flat, got_range, all_got, mapped_from}
use Rattle.flat_places.proofs.Followed.{hop_follows, follows_hop}
use Rattle.flat_places.proofs.Listed.{place_listed}
use Rattle.flat_places.specs.Bits.{linked_parts}
use Rattle.flat_places.specs.Numbered.{pin_place}
use Rattle.flat_places.specs.Pieces.{reading_of}
use Rattle.flat_places.specs.Whole.{number_of, whole_piece, IsShapeOf, starts_of, IsNumberAt}
use Rattle.flat_places.proofs.Unfolded.{row_there}
use Rattle.flat_places.proofs.Celled.{cells_none, cells_more, cell_there}
use Rattle.flat_places.proofs.Pins.{linked_got, pin_last, pin_deeper, fit_of, pin_complete}
use Rattle.flat_places.proofs.Ends.{place_bit_at, are_starts}
use Rattle.flat_places.proofs.There.{follows_there, drives_there}
use Rattle.flat_places.proofs.Wholes.{whole_links}

-- ---- places and their numbers

pub same_place : (bound : Bound) → (IsDeeper bound 64 bound.top → ⊥) → (one other : Place) → IsPlaceIn bound bound.top one → IsPlaceIn bound bound.top other → number_of bound one ≡ number_of bound other → one ≡ other
same_place bound deep one other p q e =
    same_Some one other (sym (place_listed bound 64 bound.top one deep p) ∙ ap (slice_get (places_in bound 64 bound.top)) e ∙ place_listed bound 64 bound.top other deep q)

pub number_low : (bound : Bound) → (IsDeeper bound 64 bound.top → ⊥) → (place : Place) → IsPlaceIn bound bound.top place → number_of bound place < bit_count bound 64 bound.top
number_low bound deep place p =
    let within = slice_get_within (places_in bound 64 bound.top) (number_of bound place) place (place_listed bound 64 bound.top place deep p) in
    let long = places_length bound 64 bound.top in
    omega (arith, within, long)

pub lead_hop : (table : CellTable) (bound : Bound) → IsBound table bound → (IsDeeper bound 64 bound.top → ⊥) → (from to : ℕ) → number.Leads (whole_piece table bound).links from to →
    (before after : Place) × Follows bound bound.top before after × (from ≡ number_of bound before) × (to ≡ number_of bound after)
lead_hop table bound is deep from to l =
    let f = λ (hop : Hop). let l : Link = record { from = number_of bound hop.from; to = number_of bound hop.to } in l in
    let m = map_got f (hops_in bound 64 bound.top) l.0 (record { from = from; to = to }) (subst (λ (ls : List Link). slice_get ls l.0 ≡ Some (record { from = from; to = to })) (whole_links table bound is deep) l.1) in
    (m.0.from, m.0.to, hop_follows bound 64 bound.top l.0 m.0 m.1, sym (ap (λ (l : Link). l.from) m.2), sym (ap (λ (l : Link). l.to) m.2))

pub hop_lead : (table : CellTable) (bound : Bound) → IsBound table bound → (IsDeeper bound 64 bound.top → ⊥) → (before after : Place) → Follows bound bound.top before after → number.Leads (whole_piece table bound).links (number_of bound before) (number_of bound after)
hop_lead table bound is deep before after f =
    let g = λ (hop : Hop). let l : Link = record { from = number_of bound hop.from; to = number_of bound hop.to } in l in
    let k = follows_hop bound 64 bound.top before after deep f in (
      k.0,
      subst (λ (ls : List Link). slice_get ls k.0 ≡ Some (record { from = number_of bound before; to = number_of bound after })) (sym (whole_links table bound is deep))
          (got_map g (hops_in bound 64 bound.top) k.0 (record { from = before; to = after }) k.1),
    )

-- ---- lists side by side

pub zip_got : {A B : Type 0} (R : A → B → Type 0) (xs : List A) (ys : List B) (k : ℕ) (x : A) → AllZip R xs ys → slice_get xs k ≡ Some x → (y : B) × (slice_get ys k ≡ Some y) × R x y
zip_got R [] ys k x all e = absurd cc
zip_got R (w ∷ xs) [] k x all e = absurd all
zip_got {A} {B} R (w ∷ xs) (y ∷ ys) zero x all e = (y, refl, subst (λ (v : A). R v y) (same_Some w x e) all.0)
zip_got R (w ∷ xs) (y ∷ ys) (suc k) x all e = zip_got R xs ys k x all.1 e

pub got_zip : {A B : Type 0} (R : A → B → Type 0) (xs : List A) (ys : List B) (k : ℕ) (y : B) → AllZip R xs ys → slice_get ys k ≡ Some y → (x : A) × (slice_get xs k ≡ Some x) × R x y
got_zip R [] [] k y all e = absurd cc
got_zip R [] (v ∷ ys) k y all e = absurd all
got_zip R (x ∷ xs) [] k y all e = absurd all
got_zip {A} {B} R (x ∷ xs) (v ∷ ys) zero y all e = (x, refl, subst (λ (w : B). R x w) (same_Some v y e) all.0)
got_zip R (x ∷ xs) (v ∷ ys) (suc k) y all e = got_zip R xs ys k y all.1 e

-- ---- drivers are listed

-- a linked pin is one of the row
pin_row : (table : CellTable) (bound : Bound) → IsBound table bound → (levels at k port : ℕ) (cell : CellAt) (place : Place) → slice_get (cells_in bound levels at) k ≡ Some cell → pin_place bound at cell.path port ≡ Some place →
    (row : CellRow) × (slice_get table.rows cell.row ≡ Some row) × (port < length (cell_ports row))
pin_row table bound is zero at k port cell place e p = absurd (nothing (sym (ap (λ (cs : List CellAt). slice_get cs k) (cells_none bound at)) ∙ e)) where
  nothing : None ≡ Some cell → ⊥
  nothing f = cc
pin_row table bound is (suc levels) at k port cell place e p =
    let r = flat_got (λ ((instance, declared) : ℕ × BoundInstance). cells_by (cells_in bound levels) instance declared.kind) 0 (instances_of bound at) k cell (subst (λ (cs : List CellAt). slice_get cs k ≡ Some cell) (cells_more bound levels at) e) in
    let z : 0 + r.0 ≡ r.0 = omega arith in
    by_kind (pin_row table bound is levels) r.0 r.1 r.2 r.3 r.1.kind refl (subst (λ (n : ℕ). slice_get (cells_by (cells_in bound levels) n r.1.kind) r.2 ≡ Some cell) z r.4)
  where
    of_cell : (instance number : ℕ) (declared : BoundInstance) → slice_get (instances_of bound at) instance ≡ Some declared → declared.kind ≡ Cell number → record { path = instance ∷ []; row = number } ≡ cell →
        (row : CellRow) × (slice_get table.rows cell.row ≡ Some row) × (port < length (cell_ports row))
    of_cell instance number declared there kind same =
        let linked : pin_place bound at (instance ∷ []) port ≡ Some place = ap (λ (c : CellAt). pin_place bound at c.path port) same ∙ p in
        let part = mapped_from (λ (part : BoundPart). record { path = []; wire = part.wire; bit = part.bit }) (slice_get (linked_parts declared.links port) 0) place (sym (pin_last bound at instance port declared there) ∙ linked) in
        let fit = fit_of table bound is at instance declared there in
        let l = linked_got declared.links port 0 part.0 part.1 in
        let width = (all_got (IsLink (wires_of bound at) fit.widths) declared.links l.0 l.1 fit.links l.2).width in
        let of_kind : port_widths table bound (Cell number) ≡ Some fit.widths = subst (λ (kind : BoundKind). port_widths table bound kind ≡ Some fit.widths) kind fit.kind in
        let row = row_there table bound number fit.widths of_kind in
        let widths : map (λ (pin : List ℕ). 1) (cell_ports row.0) ≡ fit.widths = same_Some (map (λ (pin : List ℕ). 1) (cell_ports row.0)) fit.widths
        (sym (ap (option_map (λ (r : CellRow). map (λ (pin : List ℕ). 1) (cell_ports r))) row.1) ∙ of_kind) in
        let within = slice_get_within fit.widths l.1.port _ width in
        let long = length-map {B = ℕ} (cell_ports row.0) (λ (pin : List ℕ). 1) in
        let same_long = ap length widths in
        let same_port = l.3 in
        (row.0, ap (λ (c : CellAt). slice_get table.rows c.row) (sym same) ∙ row.1, omega (arith, within, long, same_long, same_port))

    by_kind : ((inner j port : ℕ) (c : CellAt) (q : Place) → slice_get (cells_in bound levels inner) j ≡ Some c → pin_place bound inner c.path port ≡ Some q → (row : CellRow) × (slice_get table.rows c.row ≡ Some row) × (port < length (cell_ports row))) →
        (instance : ℕ) (declared : BoundInstance) (j : ℕ) → slice_get (instances_of bound at) instance ≡ Some declared → (kind : BoundKind) → declared.kind ≡ kind → slice_get (cells_by (cells_in bound levels) instance kind) j ≡ Some cell →
        (row : CellRow) × (slice_get table.rows cell.row ≡ Some row) × (port < length (cell_ports row))
    by_kind law instance declared j there (Module inner) k got =
        let m = map_got (deeper_cell instance) (cells_in bound levels inner) j cell got in
        let t = cell_there bound levels inner j m.0 m.1 in
        let path : instance ∷ (t.0 ∷ t.2) ≡ cell.path = ap (λ (rest : List ℕ). instance ∷ rest) (sym t.4) ∙ ap (λ (c : CellAt). c.path) m.2 in
        let q = mapped_from (deeper_place instance) (pin_place bound inner (t.0 ∷ t.2) port) place (sym (pin_deeper bound at instance inner t.0 port t.2 declared there k) ∙ ap (λ (rest : List ℕ). pin_place bound at rest port) path ∙ p) in
        let r = law inner j port m.0 q.0 m.1 (ap (λ (rest : List ℕ). pin_place bound inner rest port) t.4 ∙ q.1) in
        (r.0, ap (λ (c : CellAt). slice_get table.rows c.row) (sym m.2) ∙ r.1, r.2)
    by_kind law instance declared zero there (Cell number) k got = of_cell instance number declared there k (same_Some (record { path = instance ∷ []; row = number }) cell got)
    by_kind law instance declared (suc j) there (Cell number) k got = absurd cc

-- a row has its reading pins and its outputs
ports_long : (row : CellRow) → length (cell_ports row) ≡ reading_of row + length row.outputs
ports_long row =
    let all = length-append (row.inputs ++ option_to_list row.clock) row.outputs in
    let some = length-append row.inputs (option_to_list row.clock) in
    omega (arith, all, some)

driver_listed : (table : CellTable) (bound : Bound) → IsBound table bound → (flat : Flat) → IsShapeOf bound flat → (from : Driver) (place : Place) → StartsAt table bound from place → (net : ℕ) × (slice_get (drivers_of table flat) net ≡ Some from)
driver_listed table bound is flat shape (driver.Port port) place s =
    let b = place_bit_at 0 s.top.ports port place s.numbered in
    let wire : b.2 ≡ place.wire = (let w = b.4 in omega (arith, w)) in
    let same : b.1 ≡ s.declared = same_Some b.1 s.declared (sym b.5 ∙ ap (slice_get s.top.ports) wire ∙ s.listed) in
    let output : b.0.output ≡ false = sym b.6 ∙ ap (λ (p : BoundPort). p.output) same ∙ s.direction in
    let there : slice_get flat.ports port ≡ Some b.0 = ap (λ (bs : List PortBit). slice_get bs port) (shape.ports ∙ ap (λ (o : Option BoundModule). unwrap_or (option_map (λ (m : BoundModule). port_bits m.ports) o) []) s.there) ∙ b.3 in
    let z : 0 + port ≡ port = omega arith in
    let item : slice_get (cond b.0.output [] (driver.Port (0 + port) ∷ [])) 0 ≡ Some (driver.Port port) =
    ap (λ (o : Bool). slice_get (cond o [] (driver.Port (0 + port) ∷ [])) 0) output ∙ ap (λ (n : ℕ). Some (driver.Port n)) z in
    let all = got_flat (λ ((n, port) : ℕ × PortBit). cond port.output [] (driver.Port n ∷ [])) 0 flat.ports port b.0 0 (driver.Port port) there item in
    (_, got_left (flat_map (λ ((n, port) : ℕ × PortBit). cond port.output [] (driver.Port n ∷ [])) (enumerate_from 0 flat.ports)) _ _ (driver.Port port) all)
driver_listed table bound is flat shape (driver.Out cell output) place s =
    let linked = pin_complete table bound is cell (reading_pins_of table bound cell + output) s.found place s.numbered s in
    let r = pin_row table bound is 64 bound.top cell (reading_pins_of table bound cell + output) s.found place s.numbered linked in
    let reading : reading_pins_of table bound cell ≡ reading_of r.0 = ap (λ (o : Option CellAt). unwrap_or (option_map (λ (row : CellRow). length row.inputs + length (option_to_list row.clock)) (option_and_then (λ (found : CellAt). slice_get table.rows found.row) o)) 0) s.numbered
    ∙ ap (λ (o : Option CellRow). unwrap_or (option_map (λ (row : CellRow). length row.inputs + length (option_to_list row.clock)) o) 0) r.1 in
    let low : output < length r.0.outputs = (
    let port = r.2 in
    let long = ports_long r.0 in
    omega (arith, port, long, reading)
    ) in
    let printed : FlatCell = record { path = cell_name bound s.found; row = s.found.row } in
    let there : slice_get flat.cells cell ≡ Some printed =
    ap (λ (cs : List FlatCell). slice_get cs cell) shape.cells ∙ got_map (λ (cell : CellAt). let c : FlatCell = record { path = cell_name bound cell; row = cell.row } in c) (cells_of bound) cell s.found s.numbered in
    let z : 0 + cell ≡ cell = omega arith in
    let y : 0 + output ≡ output = omega arith in
    let item : slice_get (map (driver.Out (0 + cell)) (range_with_len 0 (output_pins table printed))) output ≡ Some (driver.Out cell output) =
    ap (λ (o : Option CellRow). slice_get (map (driver.Out (0 + cell)) (range_with_len 0 (unwrap_or (option_map (λ (row : CellRow). length row.outputs) o) 0))) output) r.1
    ∙ got_map (driver.Out (0 + cell)) (range_with_len 0 (length r.0.outputs)) output (0 + output) (got_range 0 (length r.0.outputs) output low)
    ∙ ap (λ (n : ℕ). Some (driver.Out n (0 + output))) z ∙ ap (λ (n : ℕ). Some (driver.Out cell n)) y in
    let all = got_flat (λ ((n, cell) : ℕ × FlatCell). map (driver.Out n) (range_with_len 0 (output_pins table cell))) 0 flat.cells cell printed output (driver.Out cell output) there item in
    (_, got_right (flat_map (λ ((n, port) : ℕ × PortBit). cond port.output [] (driver.Port n ∷ [])) (enumerate_from 0 flat.ports)) (flat_map (λ ((n, cell) : ℕ × FlatCell). map (driver.Out n) (range_with_len 0 (output_pins table cell))) (enumerate_from 0 flat.cells)) _ (driver.Out cell output) all)

-- ---- drives

-- what a net drives by numbers, its driver drives
pub drives_found : (table : CellTable) (bound : Bound) → IsBound table bound → (IsDeeper bound 64 bound.top → ⊥) → (flat : Flat) → IsShapeOf bound flat → (net : ℕ) (from : Driver) → slice_get (drivers_of table flat) net ≡ Some from → (place : ℕ) →
    number.Drives (whole_piece table bound).links (starts_of flat.ports (whole_piece table bound)) net place → (one : Place) × Drives table bound from one × (place ≡ number_of bound one)
drives_found table bound is deep flat shape net from e place (number.start _ s) =
    let z = zip_got (λ (one : Driver) (at : Option ℕ). IsNumberAt bound (StartsAt table bound one) at) (drivers_of table flat) (starts_of flat.ports (whole_piece table bound)) net from (are_starts table bound is deep flat shape) e in
    let f = z.2.found place (same_Some z.0 (Some place) (sym z.1 ∙ s)) in
    (f.0, starts f.0 f.1, f.2)
drives_found table bound is deep flat shape net from e place (number.next before _ d l) =
    let r = drives_found table bound is deep flat shape net from e before d in
    let h = lead_hop table bound is deep before place l in
    let same = same_place bound deep r.0 h.0 (drives_there table bound is from r.0 r.1) (follows_there table bound is bound.top h.0 h.1 h.2).0 (sym r.2 ∙ h.3) in
    (h.1, follows h.0 h.1 (subst (Drives table bound from) same r.1) h.2, h.4)

-- what a driver drives, its net drives by numbers
pub drives_at : (table : CellTable) (bound : Bound) → IsBound table bound → (IsDeeper bound 64 bound.top → ⊥) → (flat : Flat) → IsShapeOf bound flat → (net : ℕ) (from : Driver) → slice_get (drivers_of table flat) net ≡ Some from → (place : Place) → Drives table bound from place →
    number.Drives (whole_piece table bound).links (starts_of flat.ports (whole_piece table bound)) net (number_of bound place)
drives_at table bound is deep flat shape net from e place (starts _ s) =
    let z = zip_got (λ (one : Driver) (at : Option ℕ). IsNumberAt bound (StartsAt table bound one) at) (drivers_of table flat) (starts_of flat.ports (whole_piece table bound)) net from (are_starts table bound is deep flat shape) e in
    number.start (number_of bound place) (z.1 ∙ ap Some (z.2.placed place s))
drives_at table bound is deep flat shape net from e place (follows before _ d f) =
    number.next (number_of bound before) (number_of bound place) (drives_at table bound is deep flat shape net from e before d) (hop_lead table bound is deep before place f)

-- what drives a place is the driver of a net
pub drives_listed : (table : CellTable) (bound : Bound) → IsBound table bound → (IsDeeper bound 64 bound.top → ⊥) → (flat : Flat) → IsShapeOf bound flat → (from : Driver) (place : Place) → Drives table bound from place → (net : ℕ) × (slice_get (drivers_of table flat) net ≡ Some from)
drives_listed table bound is deep flat shape from place (starts _ s) = driver_listed table bound is flat shape from place s
drives_listed table bound is deep flat shape from place (follows before _ d f) = drives_listed table bound is deep flat shape from before d
