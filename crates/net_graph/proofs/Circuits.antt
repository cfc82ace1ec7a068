-- Where the pins and nets of the cells of a well-formed circuit stand.
use Rattle.std.proofs.Common.{◌≡◌, ℕ, zero, suc, ◌+◌, ◌<◌, Bool, true, false, cond, List, [], ◌∷◌, length, map, Option, Some, None, refl, sym, ap, ◌∙◌, subst, arith, inl, inr}
use Rattle.std.proofs.lemmas.Option.{slice_get_within, slice_get_cases, slice_get-map, get_or_from_slice_get, same_Some}
use Rattle.std.specs.Prelude.{slice_get, unwrap_or, option_to_list}
use Rattle.std.specs.Option.{option_map, option_and_then}
use Rattle.std.specs.List.{flat_map, enumerate_from, range_with_len}
use Rattle.rsfq_ids.specs.declared.table.CellTable.{CellTable}
use Rattle.rsfq_ids.specs.declared.table.CellRow.{CellRow}
use Rattle.rsfq_ids.specs.declared.circuit.Flat.{Flat}
use Rattle.rsfq_ids.specs.declared.circuit.FlatCell.{FlatCell}
use Rattle.rsfq_ids.specs.declared.circuit.PortBit.{PortBit}
use Rattle.rsfq_ids.specs.declared.circuit.Pin.{Pin}
use Rattle.rsfq_ids.specs.declared.circuit.Driver.{Driver}
use Rattle.rsfq_ids.specs.declared.circuit.Driver.TheVariants as driver
use Rattle.rsfq_ids.specs.declared.circuit.Reader.{Reader}
use Rattle.rsfq_ids.specs.declared.circuit.Reader.TheVariants as reader
use Rattle.rsfq_ids.specs.Circuit.{IsDrivenBy, IsPin, Reads}
use Rattle.rsfq_ids.specs.Numbering.{IsNumbered}
use Rattle.rsfq_ids.specs.WellFormed.{IsFlat, drivers_of, readers_of, reading_pins, output_pins}
use Rattle.net_graph.specs.Graph.{IsRowIn, HasPinIn, HasOutputIn, IsOutputBit, IsPinOf, IsPinOfPort, IsReadBy}
use Rattle.net_graph.specs.Wiring.{counted, driven_by, pins_of_port, first_output}
use Rattle.net_graph.proofs.Chunks.{At, IsDistinct, at_left, at_right, at_split, distinct_append, chunk_in, chunk_at, chunks_length, chunks_distinct, range_in, range_from, range_distinct, range_length}

one_or_none : {Y : Type 0} (b : Bool) (x : Y) (m : ℕ) (y : Y) → At (cond b [] (x ∷ [])) m y → (b ≡ false) × (y ≡ x) × (m ≡ 0)
one_or_none true x m y is = cc
one_or_none false x zero y is = (refl, (let same : x ≡ y = cc in sym same), refl)
one_or_none false x (suc m) y is = cc

pub none_or_one : {Y : Type 0} (b : Bool) (x : Y) (m : ℕ) (y : Y) → At (cond b (x ∷ []) []) m y → (b ≡ true) × (y ≡ x) × (m ≡ 0)
none_or_one false x m y is = cc
none_or_one true x zero y is = (refl, (let same : x ≡ y = cc in sym same), refl)
none_or_one true x (suc m) y is = cc

one_long : {Y : Type 0} (b : Bool) (x : Y) → length (cond b [] (x ∷ [])) ≡ cond b 0 1
one_long true x = refl
one_long false x = refl

one_pin_long : {Y : Type 0} (b : Bool) (x : Y) → length (cond b (x ∷ []) []) ≡ cond b 1 0
one_pin_long true x = refl
one_pin_long false x = refl

module _ (table : CellTable) (flat : Flat) where
  abbrev pub port_drivers : ℕ × PortBit → List Driver
  port_drivers (n, port) = cond port.output [] (driver.Port n ∷ [])

  abbrev cell_drivers : ℕ × FlatCell → List Driver
  cell_drivers (n, cell) = map (driver.Out n) (range_with_len 0 (output_pins table cell))

  abbrev pub cell_readers : ℕ × FlatCell → List Reader
  cell_readers (n, cell) = map (reader.Pin n) (range_with_len 0 (reading_pins table cell))

  abbrev pub port_readers : ℕ × PortBit → List Reader
  port_readers (n, port) = cond port.output (reader.Port n ∷ []) []

  driver_tag : Driver → ℕ
  driver_tag (driver.Port port) = port
  driver_tag (driver.Out cell out) = cell

  reader_tag : Reader → ℕ
  reader_tag (reader.Port port) = port
  reader_tag (reader.Pin cell pin) = cell

  drivers_distinct : IsDistinct (drivers_of table flat)
  unfolding driver_tag
  drivers_distinct = distinct_append (flat_map port_drivers (enumerate_from 0 flat.ports)) (flat_map cell_drivers (enumerate_from 0 flat.cells))
      (chunks_distinct port_drivers driver_tag (λ n port m d at. ap driver_tag (one_or_none port.output (driver.Port n) m d at).1)
      (λ n port i j d at at'. (one_or_none port.output (driver.Port n) i d at).2 ∙ sym (one_or_none port.output (driver.Port n) j d at').2) 0 flat.ports)
      (chunks_distinct cell_drivers driver_tag (λ n cell m d at. ap driver_tag (range_in (driver.Out n) 0 (output_pins table cell) m d at).1)
      (λ n cell. range_distinct (driver.Out n) (λ m k e. cc) 0 (output_pins table cell)) 0 flat.cells)
      (λ i j d at at'.
      let one = chunk_in port_drivers 0 flat.ports i d at in
      let two = chunk_in cell_drivers 0 flat.cells j d at' in
      let port : d ≡ driver.Port (0 + one.0) = (one_or_none one.1.output (driver.Port (0 + one.0)) one.3 d one.4).1 in
      let out : d ≡ driver.Out (0 + two.0) (0 + two.3) = (range_in (driver.Out (0 + two.0)) 0 (output_pins table two.1) two.3 d two.4).1 in
      let e : driver.Port (0 + one.0) ≡ driver.Out (0 + two.0) (0 + two.3) = sym port ∙ out in cc)

  readers_distinct : IsDistinct (readers_of table flat)
  unfolding reader_tag
  readers_distinct = distinct_append (flat_map cell_readers (enumerate_from 0 flat.cells)) (flat_map port_readers (enumerate_from 0 flat.ports))
      (chunks_distinct cell_readers reader_tag (λ n cell m r at. ap reader_tag (range_in (reader.Pin n) 0 (reading_pins table cell) m r at).1)
      (λ n cell. range_distinct (reader.Pin n) (λ m k e. cc) 0 (reading_pins table cell)) 0 flat.cells)
      (chunks_distinct port_readers reader_tag (λ n port m r at. ap reader_tag (none_or_one port.output (reader.Port n) m r at).1)
      (λ n port i j r at at'. (none_or_one port.output (reader.Port n) i r at).2 ∙ sym (none_or_one port.output (reader.Port n) j r at').2) 0 flat.ports)
      (λ i j r at at'.
      let one = chunk_in cell_readers 0 flat.cells i r at in
      let two = chunk_in port_readers 0 flat.ports j r at' in
      let pin : r ≡ reader.Pin (0 + one.0) (0 + one.3) = (range_in (reader.Pin (0 + one.0)) 0 (reading_pins table one.1) one.3 r one.4).1 in
      let port : r ≡ reader.Port (0 + two.0) = (none_or_one two.1.output (reader.Port (0 + two.0)) two.3 r two.4).1 in
      let e : reader.Pin (0 + one.0) (0 + one.3) ≡ reader.Port (0 + two.0) = sym pin ∙ port in cc)

  module _ (fit : IsFlat table flat) where
    driver_at : (net : ℕ) (d : Driver) → IsDrivenBy flat net d → At (drivers_of table flat) net d
    driver_at net d is = subst (λ (ds : List Driver). At ds net d) fit.nets is

    pub reader_at : (pin : ℕ) (end : Pin) → slice_get flat.pins pin ≡ Some end → At (readers_of table flat) pin end.reader
    reader_at pin end is = subst (λ (rs : List Reader). At rs pin end.reader) fit.pins (slice_get-map (λ (p : Pin). p.reader) flat.pins pin ∙ ap (option_map (λ (p : Pin). p.reader)) is)

    -- a reader in the list reads a net
    read_net : (k : ℕ) (r : Reader) → At (readers_of table flat) k r → (net : ℕ) × IsPin flat k r net
    read_net k r at = elim (slice_get_cases flat.pins k).1 [
      | inl (end, within, is, same) ↦
          (let here : Some end.reader ≡ Some r = sym (reader_at k end is) ∙ at in
          let who : end.reader ≡ r = cc in
          (end.net, subst (λ (x : Reader). IsPin flat k x end.net) who is))
      | inr (past, none) ↦
          (let nothing : slice_get (map (λ (p : Pin). p.reader) flat.pins) k ≡ None = slice_get-map (λ (p : Pin). p.reader) flat.pins k ∙ ap (option_map (λ (p : Pin). p.reader)) none in
          let some : slice_get (map (λ (p : Pin). p.reader) flat.pins) k ≡ Some r = subst (λ (rs : List Reader). At rs k r) (sym fit.pins) at in
          let wrong : None ≡ Some r = sym nothing ∙ some in cc)
    ]

    pub one_pin : (by : Reader) (first second net other : ℕ) → IsPin flat first by net → IsPin flat second by other → first ≡ second
    one_pin by first second net other one two = readers_distinct first second by (reader_at first _ one) (reader_at second _ two)

    pub net_within : (pin net : ℕ) → IsReadBy flat net pin → net < length flat.nets
    net_within pin net (by, is) = subst (λ (p : Pin). p.net < length flat.nets) (get_or_from_slice_get flat.pins pin (record { reader = by; net = net }) (record { reader = by; net = net }) is) (fit.read pin (record { reader = by; net = net }) (slice_get_within flat.pins pin _ is))

    pub numbered : IsNumbered flat
    numbered = record {
      one_net = λ d n m one two. drivers_distinct n m d (driver_at n d one) (driver_at m d two);
      one_read = λ r n m one two. one_end r n m two.0 (subst (λ (p : ℕ). IsPin flat p r n) (one_pin r one.0 two.0 n m one.1 two.1) one.1) two.1;
      has_driver = λ r n reads. driven_at n (net_within reads.0 n (r, reads.1));
    }
      where
        one_end : (r : Reader) (n m p : ℕ) → IsPin flat p r n → IsPin flat p r m → n ≡ m
        one_end r n m p one two = ap (λ (o : Option Pin). unwrap_or (option_map (λ (x : Pin). x.net) o) 0) (sym one ∙ two)

        driven_at : (n : ℕ) → n < length flat.nets → (d : Driver) × IsDrivenBy flat n d
        driven_at n l = elim (slice_get_cases flat.nets n).1 [
          | inl (d, within, is, same) ↦ (d, is)
          | inr (past, none) ↦ absurd (omega arith)
        ]

    -- a cell that reads or drives is there
    pub cell_reader : (place cell pin net : ℕ) → IsPin flat place (reader.Pin cell pin) net → (c : FlatCell) × (slice_get flat.cells cell ≡ Some c) × (pin < reading_pins table c)
    cell_reader place cell pin net is = elim (at_split (flat_map cell_readers (enumerate_from 0 flat.cells)) (flat_map port_readers (enumerate_from 0 flat.ports)) place (reader.Pin cell pin) (reader_at place _ is)) [
      | inl left ↦
          (let found = chunk_in cell_readers 0 flat.cells place (reader.Pin cell pin) left in
          let in_range = range_in (reader.Pin (0 + found.0)) 0 (reading_pins table found.1) found.3 (reader.Pin cell pin) found.4 in
          let what : reader.Pin cell pin ≡ reader.Pin (0 + found.0) (0 + found.3) = in_range.1 in
          let which : cell ≡ found.0 = (let e : cell ≡ 0 + found.0 = cc in omega arith) in
          let number : pin ≡ found.3 = (let e : pin ≡ 0 + found.3 = cc in omega arith) in
          (found.1, subst (λ (x : ℕ). slice_get flat.cells x ≡ Some found.1) (sym which) found.2, omega (arith, in_range.0)))
      | inr (m, right, sum) ↦
          (let found = chunk_in port_readers 0 flat.ports m (reader.Pin cell pin) right in
          let what : reader.Pin cell pin ≡ reader.Port (0 + found.0) = (none_or_one found.1.output (reader.Port (0 + found.0)) found.3 (reader.Pin cell pin) found.4).1 in cc)
    ]

    pub cell_driver : (net cell out : ℕ) → IsDrivenBy flat net (driver.Out cell out) → (c : FlatCell) × (slice_get flat.cells cell ≡ Some c) × (out < output_pins table c)
    cell_driver net cell out is = elim (at_split (flat_map port_drivers (enumerate_from 0 flat.ports)) (flat_map cell_drivers (enumerate_from 0 flat.cells)) net (driver.Out cell out) (driver_at net (driver.Out cell out) is)) [
      | inl left ↦
          (let found = chunk_in port_drivers 0 flat.ports net (driver.Out cell out) left in
          let what : driver.Out cell out ≡ driver.Port (0 + found.0) = (one_or_none found.1.output (driver.Port (0 + found.0)) found.3 (driver.Out cell out) found.4).1 in cc)
      | inr (m, right, sum) ↦
          (let found = chunk_in cell_drivers 0 flat.cells m (driver.Out cell out) right in
          let in_range = range_in (driver.Out (0 + found.0)) 0 (output_pins table found.1) found.3 (driver.Out cell out) found.4 in
          let what : driver.Out cell out ≡ driver.Out (0 + found.0) (0 + found.3) = in_range.1 in
          let which : cell ≡ found.0 = (let e : cell ≡ 0 + found.0 = cc in omega arith) in
          let number : out ≡ found.3 = (let e : out ≡ 0 + found.3 = cc in omega arith) in
          (found.1, subst (λ (x : ℕ). slice_get flat.cells x ≡ Some found.1) (sym which) found.2, omega (arith, in_range.0)))
    ]

    -- a port that drives is an input
    pub port_driver : (net port : ℕ) → IsDrivenBy flat net (driver.Port port) → (bit : PortBit) × (slice_get flat.ports port ≡ Some bit) × (bit.output ≡ false)
    port_driver net port is = elim (at_split (flat_map port_drivers (enumerate_from 0 flat.ports)) (flat_map cell_drivers (enumerate_from 0 flat.cells)) net (driver.Port port) (driver_at net (driver.Port port) is)) [
      | inl left ↦
          (let found = chunk_in port_drivers 0 flat.ports net (driver.Port port) left in
          let what = one_or_none found.1.output (driver.Port (0 + found.0)) found.3 (driver.Port port) found.4 in
          let same : driver.Port port ≡ driver.Port (0 + found.0) = what.1 in
          let which : port ≡ found.0 = (let e : port ≡ 0 + found.0 = cc in omega arith) in
          (found.1, subst (λ (p : ℕ). slice_get flat.ports p ≡ Some found.1) (sym which) found.2, what.0))
      | inr (m, right, sum) ↦
          (let found = chunk_in cell_drivers 0 flat.cells m (driver.Port port) right in
          let what : driver.Port port ≡ driver.Out (0 + found.0) (0 + found.3) = (range_in (driver.Out (0 + found.0)) 0 (output_pins table found.1) found.3 (driver.Port port) found.4).1 in cc)
    ]

    -- where the net of an input bit stands
    pub port_net_at : (port : ℕ) (bit : PortBit) → slice_get flat.ports port ≡ Some bit → bit.output ≡ false → (net : ℕ) × IsDrivenBy flat net (driver.Port port)
    port_net_at port bit is in_bit =
        let at : At (port_drivers (0 + port, bit)) 0 (driver.Port (0 + port)) = subst (λ (b : Bool). At (cond b [] (driver.Port (0 + port) ∷ [])) 0 (driver.Port (0 + port))) (sym in_bit) refl in
        let found = chunk_at port_drivers driven_by (λ n x. one_long x.output (driver.Port n)) 0 flat.ports port bit 0 (driver.Port (0 + port)) is at in
        let same : driver.Port (0 + port) ≡ driver.Port port = (let e : 0 + port ≡ port = omega arith in cc) in
        let whole : ℕ = counted driven_by flat.ports port + 0 in
        let there = at_left (flat_map port_drivers (enumerate_from 0 flat.ports)) (flat_map cell_drivers (enumerate_from 0 flat.cells)) whole (driver.Port (0 + port)) found in
        (whole, subst (λ (ds : List Driver). slice_get ds whole ≡ Some (driver.Port port)) (sym fit.nets) (subst (λ (d : Driver). At (drivers_of table flat) whole d) same there))

    -- a port that reads is an output
    pub port_reader : (place port net : ℕ) → IsPin flat place (reader.Port port) net → IsOutputBit flat port
    port_reader place port net is = elim (at_split (flat_map cell_readers (enumerate_from 0 flat.cells)) (flat_map port_readers (enumerate_from 0 flat.ports)) place (reader.Port port) (reader_at place _ is)) [
      | inl left ↦
          (let found = chunk_in cell_readers 0 flat.cells place (reader.Port port) left in
          let what : reader.Port port ≡ reader.Pin (0 + found.0) (0 + found.3) = (range_in (reader.Pin (0 + found.0)) 0 (reading_pins table found.1) found.3 (reader.Port port) found.4).1 in cc)
      | inr (m, right, sum) ↦
          (let found = chunk_in port_readers 0 flat.ports m (reader.Port port) right in
          let what = none_or_one found.1.output (reader.Port (0 + found.0)) found.3 (reader.Port port) found.4 in
          let same : reader.Port port ≡ reader.Port (0 + found.0) = what.1 in
          let which : port ≡ found.0 = (let e : port ≡ 0 + found.0 = cc in omega arith) in
          (found.1, subst (λ (p : ℕ). slice_get flat.ports p ≡ Some found.1) (sym which) found.2, what.0))
    ]

    -- where the pin of an output bit stands
    pub port_pin_at : (port : ℕ) (bit : PortBit) → slice_get flat.ports port ≡ Some bit → bit.output ≡ true → IsPinOfPort flat (counted (reading_pins table) flat.cells (length flat.cells) + counted pins_of_port flat.ports port) port
    port_pin_at port bit is out =
        let at : At (port_readers (0 + port, bit)) 0 (reader.Port (0 + port)) = subst (λ (b : Bool). At (cond b (reader.Port (0 + port) ∷ []) []) 0 (reader.Port (0 + port))) (sym out) refl in
        let found = chunk_at port_readers pins_of_port (λ n x. one_pin_long x.output (reader.Port n)) 0 flat.ports port bit 0 (reader.Port (0 + port)) is at in
        let same : reader.Port (0 + port) ≡ reader.Port port = (let e : 0 + port ≡ port = omega arith in cc) in
        let first = chunks_length cell_readers (reading_pins table) (λ n x. range_length (reader.Pin n) 0 (reading_pins table x)) 0 flat.cells in
        let place : length (flat_map cell_readers (enumerate_from 0 flat.cells)) + (counted pins_of_port flat.ports port + 0) ≡ counted (reading_pins table) flat.cells (length flat.cells) + counted pins_of_port flat.ports port = omega arith in
        let there = at_right (flat_map cell_readers (enumerate_from 0 flat.cells)) (flat_map port_readers (enumerate_from 0 flat.ports)) (counted pins_of_port flat.ports port + 0) (reader.Port (0 + port)) found in
        let whole : ℕ = counted (reading_pins table) flat.cells (length flat.cells) + counted pins_of_port flat.ports port in
        read_net whole (reader.Port port) (subst (λ (r : Reader). At (readers_of table flat) whole r) same (subst (λ (k : ℕ). At (readers_of table flat) k (reader.Port (0 + port))) place there))

    -- where the pins of a cell stand
    pub pin_at : (cell pin : ℕ) (c : FlatCell) → slice_get flat.cells cell ≡ Some c → pin < reading_pins table c → IsPinOf flat (counted (reading_pins table) flat.cells cell + pin) cell pin
    pin_at cell pin c is l =
        let at : At (cell_readers (0 + cell, c)) pin (reader.Pin (0 + cell) (0 + pin)) = range_from (reader.Pin (0 + cell)) 0 (reading_pins table c) pin l in
        let found = chunk_at cell_readers (reading_pins table) (λ n x. range_length (reader.Pin n) 0 (reading_pins table x)) 0 flat.cells cell c pin (reader.Pin (0 + cell) (0 + pin)) is at in
        let same : reader.Pin (0 + cell) (0 + pin) ≡ reader.Pin cell pin = (let e : 0 + cell ≡ cell = omega arith in let f : 0 + pin ≡ pin = omega arith in cc) in
        let place : ℕ = counted (reading_pins table) flat.cells cell + pin in
        read_net place (reader.Pin cell pin)
        (subst (λ (r : Reader). At (readers_of table flat) place r) same (at_left (flat_map cell_readers (enumerate_from 0 flat.cells)) (flat_map port_readers (enumerate_from 0 flat.ports)) place (reader.Pin (0 + cell) (0 + pin)) found))

    -- where the nets of a cell stand
    pub net_at : (cell out : ℕ) (c : FlatCell) → slice_get flat.cells cell ≡ Some c → out < output_pins table c → IsDrivenBy flat (first_output flat + counted (output_pins table) flat.cells cell + out) (driver.Out cell out)
    net_at cell out c is l =
        let at : At (cell_drivers (0 + cell, c)) out (driver.Out (0 + cell) (0 + out)) = range_from (driver.Out (0 + cell)) 0 (output_pins table c) out l in
        let found = chunk_at cell_drivers (output_pins table) (λ n x. range_length (driver.Out n) 0 (output_pins table x)) 0 flat.cells cell c out (driver.Out (0 + cell) (0 + out)) is at in
        let same : driver.Out (0 + cell) (0 + out) ≡ driver.Out cell out = (let e : 0 + cell ≡ cell = omega arith in let f : 0 + out ≡ out = omega arith in cc) in
        let first = chunks_length port_drivers driven_by (λ n port. one_long port.output (driver.Port n)) 0 flat.ports in
        let place : length (flat_map port_drivers (enumerate_from 0 flat.ports)) + (counted (output_pins table) flat.cells cell + out) ≡ first_output flat + counted (output_pins table) flat.cells cell + out = omega arith in
        let there = at_right (flat_map port_drivers (enumerate_from 0 flat.ports)) (flat_map cell_drivers (enumerate_from 0 flat.cells)) (counted (output_pins table) flat.cells cell + out) (driver.Out (0 + cell) (0 + out)) found in
        subst (λ (ds : List Driver). slice_get ds (first_output flat + counted (output_pins table) flat.cells cell + out) ≡ Some (driver.Out cell out)) (sym fit.nets)
        (subst (λ (d : Driver). At (drivers_of table flat) (first_output flat + counted (output_pins table) flat.cells cell + out) d) same (subst (λ (k : ℕ). At (drivers_of table flat) k (driver.Out (0 + cell) (0 + out))) place there))

-- ---- rows

pub row_read : (table : CellTable) (flat : Flat) (cell : ℕ) (row : CellRow) → IsRowIn table flat cell row → (c : FlatCell) × (slice_get flat.cells cell ≡ Some c) × (slice_get table.rows c.row ≡ Some row)
row_read table flat cell row is = go (slice_get flat.cells cell) refl is where
  go : (o : Option FlatCell) → slice_get flat.cells cell ≡ o → option_and_then (λ (c : FlatCell). slice_get table.rows c.row) o ≡ Some row → (c : FlatCell) × (slice_get flat.cells cell ≡ Some c) × (slice_get table.rows c.row ≡ Some row)
  go None e f = cc
  go (Some c) e f = (c, e, f)

pub row_made : (table : CellTable) (flat : Flat) (cell : ℕ) (c : FlatCell) (row : CellRow) → slice_get flat.cells cell ≡ Some c → slice_get table.rows c.row ≡ Some row → IsRowIn table flat cell row
row_made table flat cell c row is at = ap (option_and_then (λ (x : FlatCell). slice_get table.rows x.row)) is ∙ at

pub pins_are : (table : CellTable) (c : FlatCell) (row : CellRow) → slice_get table.rows c.row ≡ Some row → reading_pins table c ≡ length row.inputs + length (option_to_list row.clock)
pins_are table c row is = ap (λ (o : Option CellRow). unwrap_or (option_map (λ (r : CellRow). length r.inputs + length (option_to_list r.clock)) o) 0) is

pub outputs_are : (table : CellTable) (c : FlatCell) (row : CellRow) → slice_get table.rows c.row ≡ Some row → output_pins table c ≡ length row.outputs
outputs_are table c row is = ap (λ (o : Option CellRow). unwrap_or (option_map (λ (r : CellRow). length r.outputs) o) 0) is

pub pin_stands : (table : CellTable) (flat : Flat) → IsFlat table flat → (cell pin : ℕ) → HasPinIn table flat cell pin → IsPinOf flat (counted (reading_pins table) flat.cells cell + pin) cell pin
pin_stands table flat fit cell pin (row, of, l) =
    let c = row_read table flat cell row of in
    pin_at table flat fit cell pin c.0 c.1 (omega (arith, pins_are table c.0 row c.2))

pub net_stands : (table : CellTable) (flat : Flat) → IsFlat table flat → (cell out : ℕ) → HasOutputIn table flat cell out → IsDrivenBy flat (first_output flat + counted (output_pins table) flat.cells cell + out) (driver.Out cell out)
net_stands table flat fit cell out (row, of, l) =
    let c = row_read table flat cell row of in
    net_at table flat fit cell out c.0 c.1 (omega (arith, outputs_are table c.0 row c.2))

pub reader_inside : (table : CellTable) (flat : Flat) → IsFlat table flat → (cell pin net : ℕ) → Reads flat (reader.Pin cell pin) net → cell < length flat.cells
reader_inside table flat fit cell pin net reads = let c = cell_reader table flat fit reads.0 cell pin net reads.1 in slice_get_within flat.cells cell c.0 c.1

pub driver_inside : (table : CellTable) (flat : Flat) → IsFlat table flat → (net cell out : ℕ) → IsDrivenBy flat net (driver.Out cell out) → cell < length flat.cells
driver_inside table flat fit net cell out is = let c = cell_driver table flat fit net cell out is in slice_get_within flat.cells cell c.0 c.1

-- a cell that is there has a row
pub row_there : (table : CellTable) (flat : Flat) → IsFlat table flat → (cell : ℕ) (c : FlatCell) → slice_get flat.cells cell ≡ Some c → (row : CellRow) × (slice_get table.rows c.row ≡ Some row)
row_there table flat fit cell c is =
    let below : c.row < length table.rows = subst (λ (x : FlatCell). x.row < length table.rows) (get_or_from_slice_get flat.cells cell c c is) (fit.rows cell c (slice_get_within flat.cells cell c is)) in
    elim (slice_get_cases table.rows c.row).1 [
      | inl (row, within, at, same) ↦ (row, at)
      | inr (past, none) ↦ absurd (omega arith)
    ]

pub has_pin : (table : CellTable) (flat : Flat) → IsFlat table flat → (cell pin net : ℕ) → Reads flat (reader.Pin cell pin) net → HasPinIn table flat cell pin
has_pin table flat fit cell pin net reads =
    let c = cell_reader table flat fit reads.0 cell pin net reads.1 in
    let row = row_there table flat fit cell c.0 c.1 in
    (row.0, row_made table flat cell c.0 row.0 c.1 row.1, omega (arith, c.2, pins_are table c.0 row.0 row.1))

pub has_output : (table : CellTable) (flat : Flat) → IsFlat table flat → (net cell out : ℕ) → IsDrivenBy flat net (driver.Out cell out) → HasOutputIn table flat cell out
has_output table flat fit net cell out is =
    let c = cell_driver table flat fit net cell out is in
    let row = row_there table flat fit cell c.0 c.1 in
    (row.0, row_made table flat cell c.0 row.0 c.1 row.1, omega (arith, c.2, outputs_are table c.0 row.0 row.1))

-- a cell has one row
pub one_row : (table : CellTable) (flat : Flat) (cell : ℕ) (row other : CellRow) → IsRowIn table flat cell row → IsRowIn table flat cell other → row ≡ other
one_row table flat cell row other a b = same_Some row other (sym a ∙ b)
