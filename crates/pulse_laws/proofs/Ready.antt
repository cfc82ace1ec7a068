-- A well-formed circuit of good shape, with an order, is ready for the laws of values.
use Rattle.std.proofs.Common.{◌≡◌, ℕ, zero, suc, ◌+◌, ◌<◌, Bool, true, false, cond, List, [], ◌∷◌, length, map, refl, sym, ap, ◌∙◌, subst, arith, inl, inr}
use Rattle.std.proofs.lemmas.Option.{slice_get_within, slice_get_cases, slice_get-map, get_or_from_slice_get}
use Rattle.std.specs.Prelude.{slice_get, Option, Some, None, unwrap_or, option_to_list}
use Rattle.std.specs.Option.{option_map, option_and_then}
use Rattle.std.specs.List.{flat_map, enumerate_from, range_with_len}
use Rattle.rsfq_ids.specs.declared.table.CellRow.{CellRow}
use Rattle.rsfq_ids.specs.declared.table.Kind.{Kind}
use Rattle.rsfq_ids.specs.declared.table.Kind.TheVariants as kind
use Rattle.rsfq_ids.specs.declared.circuit.FlatCell.{FlatCell}
use Rattle.rsfq_ids.specs.declared.circuit.PortBit.{PortBit}
use Rattle.rsfq_ids.specs.declared.circuit.Pin.{Pin}
use Rattle.rsfq_ids.specs.declared.circuit.Strobe.{Strobe}
use Rattle.rsfq_ids.specs.declared.circuit.PortUse.{PortUse}
use Rattle.rsfq_ids.specs.declared.circuit.PortUse.TheVariants as port_use
use Rattle.rsfq_ids.specs.declared.circuit.Driver.{Driver}
use Rattle.rsfq_ids.specs.declared.circuit.Driver.TheVariants as driver
use Rattle.rsfq_ids.specs.declared.circuit.Reader.{Reader}
use Rattle.rsfq_ids.specs.declared.circuit.Reader.TheVariants as reader
use Rattle.rsfq_ids.specs.Circuit.{IsDrivenBy, IsPin, Reads, IsOf, InputNets, is_gate, clock_pin}
use Rattle.rsfq_ids.specs.Bench.{IsUsed}
use Rattle.rsfq_ids.specs.Numbering.{IsNumbered, IsRanked}
use Rattle.rsfq_ids.specs.WellFormed.{FitsKind, FitsUse, IsRow, IsFlat, drivers_of, readers_of, reading_pins, output_pins}
use Rattle.pulse_laws.proofs.Chunks.{At, IsDistinct, at_left, at_split, distinct_append, chunk_in, chunk_from, chunks_distinct, range_in, range_from, range_distinct, zip_range}
use Rattle.rsfq_ids.specs.Design.{Design}
use Rattle.rsfq_ids.specs.Ready.{IsSetUp, HasGoodShape, IsReady, IsComplete}

one_or_none : {Y : Type 0} (b : Bool) (x : Y) (m : ℕ) (y : Y) → At (cond b [] (x ∷ [])) m y → (b ≡ false) × (y ≡ x) × (m ≡ 0)
one_or_none true x m y is = cc
one_or_none false x zero y is = (refl, (let same : x ≡ y = cc in sym same), refl)
one_or_none false x (suc m) y is = cc

none_or_one : {Y : Type 0} (b : Bool) (x : Y) (m : ℕ) (y : Y) → At (cond b (x ∷ []) []) m y → (b ≡ true) × (y ≡ x) × (m ≡ 0)
none_or_one false x m y is = cc
none_or_one true x zero y is = (refl, (let same : x ≡ y = cc in sym same), refl)
none_or_one true x (suc m) y is = cc

-- the clock pin of a gate is among its reading pins
gate_clock : (k : Kind) (row : CellRow) → is_gate k ≡ true → FitsKind k row → length (option_to_list row.clock) ≡ 1
gate_clock kind.Jtl row is fit = cc
gate_clock kind.Split row is fit = cc
gate_clock kind.Merge row is fit = cc
gate_clock kind.Gate row is fit = fit.2

module _ (design : Design) where
  abbrev port_drivers : ℕ × PortBit → List Driver
  port_drivers (n, port) = cond port.output [] (driver.Port n ∷ [])

  abbrev cell_drivers : ℕ × FlatCell → List Driver
  cell_drivers (n, cell) = map (driver.Out n) (range_with_len 0 (output_pins design.table cell))

  abbrev cell_readers : ℕ × FlatCell → List Reader
  cell_readers (n, cell) = map (reader.Pin n) (range_with_len 0 (reading_pins design.table cell))

  abbrev port_readers : ℕ × PortBit → List Reader
  port_readers (n, port) = cond port.output (reader.Port n ∷ []) []

  driver_tag : Driver → ℕ
  driver_tag (driver.Port port) = port
  driver_tag (driver.Out cell out) = cell

  reader_tag : Reader → ℕ
  reader_tag (reader.Port port) = port
  reader_tag (reader.Pin cell pin) = cell

  drivers_distinct : IsDistinct (drivers_of design.table design.flat)
  unfolding driver_tag
  drivers_distinct = distinct_append (flat_map port_drivers (enumerate_from 0 design.flat.ports)) (flat_map cell_drivers (enumerate_from 0 design.flat.cells))
      (chunks_distinct port_drivers driver_tag (λ n port m d at. ap driver_tag (one_or_none port.output (driver.Port n) m d at).1)
      (λ n port i j d at at'. (one_or_none port.output (driver.Port n) i d at).2 ∙ sym (one_or_none port.output (driver.Port n) j d at').2) 0 design.flat.ports)
      (chunks_distinct cell_drivers driver_tag (λ n cell m d at. ap driver_tag (range_in (driver.Out n) 0 (output_pins design.table cell) m d at).1)
      (λ n cell. range_distinct (driver.Out n) (λ m k e. cc) 0 (output_pins design.table cell)) 0 design.flat.cells)
      (λ i j d at at'.
      let one = chunk_in port_drivers 0 design.flat.ports i d at in
      let two = chunk_in cell_drivers 0 design.flat.cells j d at' in
      let port : d ≡ driver.Port (0 + one.0) = (one_or_none one.1.output (driver.Port (0 + one.0)) one.3 d one.4).1 in
      let out : d ≡ driver.Out (0 + two.0) (0 + two.3) = (range_in (driver.Out (0 + two.0)) 0 (output_pins design.table two.1) two.3 d two.4).1 in
      let e : driver.Port (0 + one.0) ≡ driver.Out (0 + two.0) (0 + two.3) = sym port ∙ out in cc)

  readers_distinct : IsDistinct (readers_of design.table design.flat)
  unfolding reader_tag
  readers_distinct = distinct_append (flat_map cell_readers (enumerate_from 0 design.flat.cells)) (flat_map port_readers (enumerate_from 0 design.flat.ports))
      (chunks_distinct cell_readers reader_tag (λ n cell m r at. ap reader_tag (range_in (reader.Pin n) 0 (reading_pins design.table cell) m r at).1)
      (λ n cell. range_distinct (reader.Pin n) (λ m k e. cc) 0 (reading_pins design.table cell)) 0 design.flat.cells)
      (chunks_distinct port_readers reader_tag (λ n port m r at. ap reader_tag (none_or_one port.output (reader.Port n) m r at).1)
      (λ n port i j r at at'. (none_or_one port.output (reader.Port n) i r at).2 ∙ sym (none_or_one port.output (reader.Port n) j r at').2) 0 design.flat.ports)
      (λ i j r at at'.
      let one = chunk_in cell_readers 0 design.flat.cells i r at in
      let two = chunk_in port_readers 0 design.flat.ports j r at' in
      let pin : r ≡ reader.Pin (0 + one.0) (0 + one.3) = (range_in (reader.Pin (0 + one.0)) 0 (reading_pins design.table one.1) one.3 r one.4).1 in
      let port : r ≡ reader.Port (0 + two.0) = (none_or_one two.1.output (reader.Port (0 + two.0)) two.3 r two.4).1 in
      let e : reader.Pin (0 + one.0) (0 + one.3) ≡ reader.Port (0 + two.0) = sym pin ∙ port in cc)

  module _ (fit : IsFlat design.table design.flat) where
    driver_at : (net : ℕ) (d : Driver) → IsDrivenBy design.flat net d → At (drivers_of design.table design.flat) net d
    driver_at net d is = subst (λ (ds : List Driver). At ds net d) fit.nets is

    reader_at : (pin : ℕ) (end : Pin) → slice_get design.flat.pins pin ≡ Some end → At (readers_of design.table design.flat) pin end.reader
    reader_at pin end is = subst (λ (rs : List Reader). At rs pin end.reader) fit.pins (slice_get-map (λ (p : Pin). p.reader) design.flat.pins pin ∙ ap (option_map (λ (p : Pin). p.reader)) is)

    -- a reader in the list reads a net
    read_net : (k : ℕ) (r : Reader) → At (readers_of design.table design.flat) k r → (net : ℕ) × Reads design.flat r net
    read_net k r at = elim (slice_get_cases design.flat.pins k).1 [
      | inl (end, within, is, same) ↦
          (let here : Some end.reader ≡ Some r = sym (reader_at k end is) ∙ at in
          let who : end.reader ≡ r = cc in
          (end.net, (k, subst (λ (x : Reader). IsPin design.flat k x end.net) who is)))
      | inr (past, none) ↦
          (let nothing : slice_get (map (λ (p : Pin). p.reader) design.flat.pins) k ≡ None = slice_get-map (λ (p : Pin). p.reader) design.flat.pins k ∙ ap (option_map (λ (p : Pin). p.reader)) none in
          let some : slice_get (map (λ (p : Pin). p.reader) design.flat.pins) k ≡ Some r = subst (λ (rs : List Reader). At rs k r) (sym fit.pins) at in
          let wrong : None ≡ Some r = sym nothing ∙ some in cc)
    ]

    pub numbered : IsNumbered design.flat
    numbered = record {
      one_net = λ d n m one two. drivers_distinct n m d (driver_at n d one) (driver_at m d two);
      one_read = λ r n m one two.
          (let same : one.0 ≡ two.0 = readers_distinct one.0 two.0 r (reader_at one.0 _ one.1) (reader_at two.0 _ two.1) in
          one_pin r n m two.0 (subst (λ (p : ℕ). IsPin design.flat p r n) same one.1) two.1);
      has_driver = λ r n reads. driven_at n (net_within reads.0 _ reads.1);
    }
      where
        one_pin : (r : Reader) (n m p : ℕ) → IsPin design.flat p r n → IsPin design.flat p r m → n ≡ m
        one_pin r n m p one two = ap (λ (o : Option Pin). unwrap_or (option_map (λ (x : Pin). x.net) o) 0) (sym one ∙ two)

        net_within : (pin : ℕ) (end : Pin) → slice_get design.flat.pins pin ≡ Some end → end.net < length design.flat.nets
        net_within pin end is = subst (λ (p : Pin). p.net < length design.flat.nets) (get_or_from_slice_get design.flat.pins pin end end is) (fit.read pin end (slice_get_within design.flat.pins pin end is))

        driven_at : (n : ℕ) → n < length design.flat.nets → (d : Driver) × IsDrivenBy design.flat n d
        driven_at n l = elim (slice_get_cases design.flat.nets n).1 [
          | inl (d, within, is, same) ↦ (d, is)
          | inr (past, none) ↦ absurd (omega arith)
        ]

    -- where the drivers stand
    pub port_driver : (net port : ℕ) → IsDrivenBy design.flat net (driver.Port port) → (bit : PortBit) × (slice_get design.flat.ports port ≡ Some bit) × (bit.output ≡ false)
    port_driver net port is = elim (at_split (flat_map port_drivers (enumerate_from 0 design.flat.ports)) (flat_map cell_drivers (enumerate_from 0 design.flat.cells)) net (driver.Port port) (driver_at net (driver.Port port) is)) [
      | inl left ↦
          (let found = chunk_in port_drivers 0 design.flat.ports net (driver.Port port) left in
          let what = one_or_none found.1.output (driver.Port (0 + found.0)) found.3 (driver.Port port) found.4 in
          let same : driver.Port port ≡ driver.Port (0 + found.0) = what.1 in
          let which : port ≡ found.0 = (let e : port ≡ 0 + found.0 = cc in omega arith) in
          (found.1, subst (λ (p : ℕ). slice_get design.flat.ports p ≡ Some found.1) (sym which) found.2, what.0))
      | inr (m, right, sum) ↦
          (let found = chunk_in cell_drivers 0 design.flat.cells m (driver.Port port) right in
          let what : driver.Port port ≡ driver.Out (0 + found.0) (0 + found.3) = (range_in (driver.Out (0 + found.0)) 0 (output_pins design.table found.1) found.3 (driver.Port port) found.4).1 in cc)
    ]

    pub cell_driver : (net cell out : ℕ) → IsDrivenBy design.flat net (driver.Out cell out) → (c : FlatCell) × (slice_get design.flat.cells cell ≡ Some c)
    cell_driver net cell out is = elim (at_split (flat_map port_drivers (enumerate_from 0 design.flat.ports)) (flat_map cell_drivers (enumerate_from 0 design.flat.cells)) net (driver.Out cell out) (driver_at net (driver.Out cell out) is)) [
      | inl left ↦
          (let found = chunk_in port_drivers 0 design.flat.ports net (driver.Out cell out) left in
          let what : driver.Out cell out ≡ driver.Port (0 + found.0) = (one_or_none found.1.output (driver.Port (0 + found.0)) found.3 (driver.Out cell out) found.4).1 in cc)
      | inr (m, right, sum) ↦
          (let found = chunk_in cell_drivers 0 design.flat.cells m (driver.Out cell out) right in
          let what : driver.Out cell out ≡ driver.Out (0 + found.0) (0 + found.3) = (range_in (driver.Out (0 + found.0)) 0 (output_pins design.table found.1) found.3 (driver.Out cell out) found.4).1 in
          let which : cell ≡ found.0 = (let e : cell ≡ 0 + found.0 = cc in omega arith) in
          (found.1, subst (λ (c : ℕ). slice_get design.flat.cells c ≡ Some found.1) (sym which) found.2))
    ]

    -- a cell that reads is there
    pub cell_reader : (net cell pin : ℕ) → Reads design.flat (reader.Pin cell pin) net → cell < length design.flat.cells
    cell_reader net cell pin reads = elim (at_split (flat_map cell_readers (enumerate_from 0 design.flat.cells)) (flat_map port_readers (enumerate_from 0 design.flat.ports)) reads.0 (reader.Pin cell pin) (reader_at reads.0 _ reads.1)) [
      | inl left ↦
          (let found = chunk_in cell_readers 0 design.flat.cells reads.0 (reader.Pin cell pin) left in
          let what : reader.Pin cell pin ≡ reader.Pin (0 + found.0) (0 + found.3) = (range_in (reader.Pin (0 + found.0)) 0 (reading_pins design.table found.1) found.3 (reader.Pin cell pin) found.4).1 in
          let which : cell ≡ 0 + found.0 = cc in
          let l = slice_get_within design.flat.cells found.0 found.1 found.2 in tagged cell found.0 (length design.flat.cells) which l)
      | inr (m, right, sum) ↦
          (let found = chunk_in port_readers 0 design.flat.ports m (reader.Pin cell pin) right in
          let what : reader.Pin cell pin ≡ reader.Port (0 + found.0) = (none_or_one found.1.output (reader.Port (0 + found.0)) found.3 (reader.Pin cell pin) found.4).1 in cc)
    ]
      where
        tagged : (cell place n : ℕ) → cell ≡ 0 + place → place < n → cell < n
        tagged cell place n e l = omega arith

    -- each reading pin of a cell reads a net
    pub pin_net : (cell pin : ℕ) (c : FlatCell) → slice_get design.flat.cells cell ≡ Some c → pin < reading_pins design.table c → (net : ℕ) × Reads design.flat (reader.Pin cell pin) net
    pin_net cell pin c is l =
        let at : At (cell_readers (0 + cell, c)) pin (reader.Pin (0 + cell) (0 + pin)) = range_from (reader.Pin (0 + cell)) 0 (reading_pins design.table c) pin l in
        let found = chunk_from cell_readers 0 design.flat.cells cell c pin (reader.Pin (0 + cell) (0 + pin)) is at in
        let same : reader.Pin (0 + cell) (0 + pin) ≡ reader.Pin cell pin = (let e : 0 + cell ≡ cell = omega arith in let f : 0 + pin ≡ pin = omega arith in cc) in
        read_net found.0 (reader.Pin cell pin)
        (subst (λ (r : Reader). At (readers_of design.table design.flat) found.0 r) same (at_left (flat_map cell_readers (enumerate_from 0 design.flat.cells)) (flat_map port_readers (enumerate_from 0 design.flat.ports)) found.0 (reader.Pin (0 + cell) (0 + pin)) found.1))

row_read : (rows : List CellRow) (o : Option FlatCell) (row : CellRow) → option_and_then (λ (c : FlatCell). slice_get rows c.row) o ≡ Some row → (k : ℕ) × (slice_get rows k ≡ Some row)
row_read rows None row is = cc
row_read rows (Some c) row is = (c.row, is)

module _ (design : Design) (set_up : IsSetUp design) where
  pub rows : (cell : ℕ) (row : CellRow) → IsOf design cell row → IsRow row
  rows cell row of =
      let found = row_read design.table.rows (slice_get design.flat.cells cell) row of in
      subst (λ (r : CellRow). IsRow r) (get_or_from_slice_get design.table.rows found.0 row row found.1) (set_up.table_fits.rows found.0 row (slice_get_within design.table.rows found.0 row found.1))

  pub use_fits : (port : ℕ) (used : PortUse) → IsUsed design.bench port used → (bit : PortBit) × FitsUse design.bench port bit used
  use_fits port used is = elim (slice_get_cases design.flat.ports port).1 [
    | inl (bit, within, at, same) ↦ (bit, set_up.bench_fits.uses port bit used at is)
    | inr (past, none) ↦ (let l = slice_get_within design.bench.uses port used is in let e = set_up.bench_fits.ports in absurd (omega arith))
  ]

  pub clock_is : (port : ℕ) → IsUsed design.bench port port_use.Clock → (bit : PortBit) × FitsUse design.bench port bit port_use.Clock → port ≡ design.bench.clock
  clock_is port used fit = fit.1.0

  pub source : (net port : ℕ) (strobe : Strobe) → IsDrivenBy design.flat net (driver.Port port) → IsUsed design.bench port (port_use.Strobed strobe) → (bit : PortBit) × FitsUse design.bench port bit (port_use.Strobed strobe) → ⊥
  source net port strobe is used fit =
      let found = port_driver design set_up.flat_fits net port is in
      let fits = set_up.bench_fits.uses port found.0 (port_use.Strobed strobe) found.1 used in
      let wrong : false ≡ true = sym found.2 ∙ fits.0 in cc

  pub complete : (net : ℕ) (d : Driver) → IsDrivenBy design.flat net d → IsComplete design d
  complete net (driver.Port port) is =
      let found = port_driver design set_up.flat_fits net port is in
      elim (slice_get_cases design.bench.uses port).1 [
        | inl (used, within, at, same) ↦ (used, at)
        | inr (past, none) ↦ (let l = slice_get_within design.flat.ports port found.0 found.1 in let e = set_up.bench_fits.ports in absurd (omega arith))
      ]
  complete net (driver.Out cell out) is =
      let found = cell_driver design set_up.flat_fits net cell out is in
      let c = found.0 in
      let row_below : found.0.row < length design.table.rows =
      subst (λ (x : FlatCell). x.row < length design.table.rows) (get_or_from_slice_get design.flat.cells cell found.0 found.0 found.1) (set_up.flat_fits.rows cell found.0 (slice_get_within design.flat.cells cell found.0 found.1)) in
      elim (slice_get_cases design.table.rows found.0.row).1 [
        | inl (row, within, at, same) ↦ with_row cell found.0 found.1 row at
        | inr (past, none) ↦ absurd (omega arith)
      ]
    where
      with_row : (cell : ℕ) (c : FlatCell) → slice_get design.flat.cells cell ≡ Some c → (row : CellRow) → slice_get design.table.rows c.row ≡ Some row →
          (row : CellRow) × (nets : List ℕ) × IsOf design cell row × InputNets design.flat cell row nets × (is_gate row.kind ≡ true → (clock : ℕ) × Reads design.flat (reader.Pin cell (clock_pin row)) clock)
      with_row cell c is row at =
          let of : IsOf design cell row = ap (option_and_then (λ (x : FlatCell). slice_get design.table.rows x.row)) is ∙ at in
          let pins : reading_pins design.table c ≡ length row.inputs + length (option_to_list row.clock) =
          ap (λ (o : Option CellRow). unwrap_or (option_map (λ (r : CellRow). length r.inputs + length (option_to_list r.clock)) o) 0) at in
          let nets = zip_range (λ p net. Reads design.flat (reader.Pin cell p) net) 0 (length row.inputs) (λ p l. pin_net design set_up.flat_fits cell (0 + p) c is (omega arith)) in (
            row,
            nets.0,
            of,
            nets.1,
            λ gate. let one = gate_clock row.kind row gate (rows cell row of).kind in pin_net design set_up.flat_fits cell (clock_pin row) c is (omega arith),
          )

-- a well-formed circuit of good shape, with an order, is ready
pub ready_from : (design : Design) (rank : ℕ → ℕ) → IsSetUp design → HasGoodShape design → IsRanked design.flat rank → IsReady design rank
ready_from design rank set_up shape ranked = record {
  numbered = numbered design set_up.flat_fits;
  complete = complete design set_up;
  ranked = ranked;
  rows = rows design set_up;
  one_clock = λ port used. clock_is design set_up port used (use_fits design set_up port port_use.Clock used);
  clock_used = set_up.bench_fits.clock;
  sources = λ net port strobe is used. source design set_up net port strobe is used (use_fits design set_up port (port_use.Strobed strobe) used);
  arrivals = λ port low high used. (use_fits design set_up port (port_use.Arrival low high) used).1.4;
  strobes = λ port strobe used. let fit = use_fits design set_up port (port_use.Strobed strobe) used in (fit.1.3, fit.1.4);
  period = set_up.bench_fits.period;
  jitter = set_up.bench_fits.jitter;
  data_on_clock = shape.data_on_clock;
  clock_on_data = shape.clock_on_data;
  clock_merged = shape.clock_merged;
  clock_out = shape.clock_out;
}
