-- Where the nets, pins and rows of a circuit of JTLs stand.
use Rattle.std.proofs.Common.{◌≡◌, ℕ, zero, suc, ◌+◌, ◌-◌, ◌<◌, ◌≤◌, Bool, true, false, cond, ℤ, ◌≤ℤ◌, ◌<ℤ◌, List, [], ◌∷◌, ◌++◌, length, get_or, map, refl, sym, ap, ◌∙◌, subst, ◌⊎◌, arith, inl, inr, length-append}
use Rattle.std.proofs.lemmas.Option.{slice_get_within, slice_get_cases, slice_get-map, get_or_from_slice_get}
use Rattle.std.proofs.lemmas.List.FromFn.{length-map-range_with_len}
use Rattle.std.proofs.lemmas.List.Elements.{All-get_or}
use Rattle.std.specs.Prelude.{slice_get, Option, Some, None, unwrap_or, option_to_list}
use Rattle.std.specs.Option.{option_map, option_and_then}
use Rattle.std.specs.List.{All, flat_map, enumerate_from, range_with_len}
use Rattle.rsfq_ids.specs.declared.table.CellTable.{CellTable}
use Rattle.rsfq_ids.specs.declared.table.CellRow.{CellRow}
use Rattle.rsfq_ids.specs.declared.table.Kind.{Kind}
use Rattle.rsfq_ids.specs.declared.table.Kind.TheVariants as kind
use Rattle.rsfq_ids.specs.declared.circuit.Flat.{Flat}
use Rattle.rsfq_ids.specs.declared.circuit.FlatCell.{FlatCell}
use Rattle.rsfq_ids.specs.declared.circuit.PortBit.{PortBit}
use Rattle.rsfq_ids.specs.declared.circuit.Pin.{Pin}
use Rattle.rsfq_ids.specs.declared.circuit.Strobe.{Strobe}
use Rattle.rsfq_ids.specs.declared.circuit.PortUse.{PortUse}
use Rattle.rsfq_ids.specs.declared.circuit.PortUse.TheVariants as port_use
use Rattle.rsfq_ids.specs.declared.circuit.Driver.{Driver}
use Rattle.rsfq_ids.specs.declared.circuit.Driver.TheVariants as driver
use Rattle.rsfq_ids.specs.declared.circuit.Reader.{Reader}
use Rattle.rsfq_ids.specs.declared.circuit.Reader.TheVariants as reader
use Rattle.rsfq_ids.specs.Design.{Design}
use Rattle.rsfq_ids.specs.Circuit.{IsDrivenBy, IsPin, Reads, IsOf}
use Rattle.rsfq_ids.specs.Bench.{IsUsed}
use Rattle.rsfq_ids.specs.WellFormed.{IsRow, FitsKind, FitsUse, reading_pins, output_pins, IsTime, IsPositiveTime}
use Rattle.rsfq_ids.specs.Ready.{IsSetUp}
use Rattle.wire_timing.specs.Wires.{HasOnlyJtls}
use Rattle.wire_timing.proofs.Chunks.{At, IsDistinct, at_left, at_right, at_split, chunk_in, chunks_distinct, chunks_one, range_in, range_from}

one_or_none : {Y : Type 0} (b : Bool) (x : Y) (m : ℕ) (y : Y) → At (cond b [] (x ∷ [])) m y → (b ≡ false) × (y ≡ x) × (m ≡ 0)
one_or_none true x m y is = cc
one_or_none false x zero y is = (refl, (let same : x ≡ y = cc in sym same), refl)
one_or_none false x (suc m) y is = cc

none_or_one : {Y : Type 0} (b : Bool) (x : Y) (m : ℕ) (y : Y) → At (cond b (x ∷ []) []) m y → (b ≡ true) × (y ≡ x) × (m ≡ 0)
none_or_one false x m y is = cc
none_or_one true x zero y is = (refl, (let same : x ≡ y = cc in sym same), refl)
none_or_one true x (suc m) y is = cc

abbrev port_drivers : ℕ × PortBit → List Driver
port_drivers (n, port) = cond port.output [] (driver.Port n ∷ [])

abbrev port_readers : ℕ × PortBit → List Reader
port_readers (n, port) = cond port.output (reader.Port n ∷ []) []

reader_tag : Reader → ℕ
reader_tag (reader.Port port) = port
reader_tag (reader.Pin cell pin) = cell

readers_distinct : (ports : List PortBit) → IsDistinct (flat_map port_readers (enumerate_from 0 ports))
unfolding reader_tag
readers_distinct ports = chunks_distinct port_readers reader_tag (λ n port m r at. ap reader_tag (none_or_one port.output (reader.Port n) m r at).1)
    (λ n port i j r at at'. (none_or_one port.output (reader.Port n) i r at).2 ∙ sym (none_or_one port.output (reader.Port n) j r at').2) 0 ports

-- a row of a JTL
pub record IsJtl (row : CellRow) : Type 0 where
  pub row_fits : IsRow row
  pub inputs : length row.inputs ≡ 1
  pub clock : row.clock ≡ None
  pub outputs : length row.outputs ≡ 1

jtl_fits : (k : Kind) (row : CellRow) → k ≡ kind.Jtl → FitsKind k row → (length row.inputs ≡ 1) × (row.clock ≡ None) × (length row.outputs ≡ 1)
jtl_fits kind.Jtl row is fit = (fit.0, fit.1, fit.2)
jtl_fits kind.Split row is fit = cc
jtl_fits kind.Merge row is fit = cc
jtl_fits kind.Gate row is fit = cc

reading_one : (row : CellRow) → length row.inputs ≡ 1 → row.clock ≡ None → length row.inputs + length (option_to_list row.clock) ≡ 1
reading_one row one none = let e : length (option_to_list row.clock) ≡ 0 = ap (λ (o : Option (List ℕ)). length (option_to_list o)) none in omega arith

pub all_at : {X : Type 0} (P : X → Type 0) (xs : List X) (i : ℕ) (x : X) → slice_get xs i ≡ Some x → All P xs → P x
all_at P xs i x is all = subst P (get_or_from_slice_get xs i x x is) (All-get_or P xs i x (slice_get_within xs i x is) all)

pub at_below : {X : Type 0} (xs : List X) (i : ℕ) → i < length xs → (x : X) × (slice_get xs i ≡ Some x)
at_below xs i l = elim (slice_get_cases xs i).1 [ inl (x, within, is, same) ↦ (x, is) | inr (past, none) ↦ absurd (omega arith) ]

-- how many input bits there are: their nets come before those of the cells
abbrev pub inputs : Design → ℕ
inputs design = length design.flat.nets - length design.flat.cells

module _ (design : Design) (set_up : IsSetUp design) (jtls : HasOnlyJtls design) where
  abbrev table : CellTable
  table = design.table

  abbrev flat : Flat
  flat = design.flat

  abbrev cells : ℕ
  cells = length flat.cells

  -- each cell has a row of a JTL
  pub cell_row : (cell : ℕ) (c : FlatCell) → slice_get flat.cells cell ≡ Some c → (row : CellRow) × (slice_get table.rows c.row ≡ Some row) × IsOf design cell row × IsJtl row
  cell_row cell c is =
      let within : c.row < length table.rows = all_at (λ (c : FlatCell). c.row < length table.rows) flat.cells cell c is set_up.flat_fits.rows in
      let (row, at) = at_below table.rows c.row within in
      let of : IsOf design cell row = ap (option_and_then (λ (c : FlatCell). slice_get table.rows c.row)) is ∙ at in
      let fits : IsRow row = all_at IsRow table.rows c.row row at set_up.table_fits.rows in
      let jtl = jtl_fits row.kind row (jtls cell row of) fits.kind in
      (row, at, of, record { row_fits = fits; inputs = jtl.0; clock = jtl.1; outputs = jtl.2 })

  pub row_fits : (cell : ℕ) (row : CellRow) → IsOf design cell row → IsJtl row
  row_fits cell row of = elim (slice_get_cases flat.cells cell).1 [
    | inl (c, within, is, same) ↦ (let r = cell_row cell c is in let e : Some r.0 ≡ Some row = sym r.2 ∙ of in let f : r.0 ≡ row = cc in subst IsJtl f r.3)
    | inr (past, none) ↦ (let e : None ≡ Some row = sym (ap (option_and_then (λ (c : FlatCell). slice_get table.rows c.row)) none) ∙ of in cc)
  ]

  reads_one : (cell : ℕ) (c : FlatCell) → slice_get flat.cells cell ≡ Some c → reading_pins table c ≡ 1
  reads_one cell c is =
      let r = cell_row cell c is in
      ap (λ (o : Option CellRow). unwrap_or (option_map (λ row. length row.inputs + length (option_to_list row.clock)) o) 0) r.1 ∙ reading_one r.0 r.3.inputs r.3.clock

  drives_one : (cell : ℕ) (c : FlatCell) → slice_get flat.cells cell ≡ Some c → output_pins table c ≡ 1
  drives_one cell c is = let r = cell_row cell c is in ap (λ (o : Option CellRow). unwrap_or (option_map (λ row. length row.outputs) o) 0) r.1 ∙ r.3.outputs

  abbrev input_drivers : List Driver
  input_drivers = flat_map port_drivers (enumerate_from 0 flat.ports)

  abbrev output_readers : List Reader
  output_readers = flat_map port_readers (enumerate_from 0 flat.ports)

  drivers_are : flat.nets ≡ input_drivers ++ map (λ (n : ℕ). driver.Out n 0) (range_with_len 0 cells)
  drivers_are = set_up.flat_fits.nets ∙ ap (λ (ds : List Driver). input_drivers ++ ds) (chunks_one (λ (n, cell). map (driver.Out n) (range_with_len 0 (output_pins table cell))) (λ n. driver.Out n 0) 0 flat.cells
      (λ i c is. ap (λ (k : ℕ). map (driver.Out (0 + i)) (range_with_len 0 k)) (drives_one i c is)))

  pub readers_are : map (λ (pin : Pin). pin.reader) flat.pins ≡ map (λ (n : ℕ). reader.Pin n 0) (range_with_len 0 cells) ++ output_readers
  readers_are = set_up.flat_fits.pins ∙ ap (λ (rs : List Reader). rs ++ output_readers) (chunks_one (λ (n, cell). map (reader.Pin n) (range_with_len 0 (reading_pins table cell))) (λ n. reader.Pin n 0) 0 flat.cells
      (λ i c is. ap (λ (k : ℕ). map (reader.Pin (0 + i)) (range_with_len 0 k)) (reads_one i c is)))

  input_count : length flat.nets ≡ length input_drivers + cells
  input_count = ap length drivers_are ∙ length-append input_drivers (map (λ (n : ℕ). driver.Out n 0) (range_with_len 0 cells)) ∙ ap (λ (k : ℕ). length input_drivers + k) (length-map-range_with_len (λ (n : ℕ). driver.Out n 0) 0 cells)

  pub cells_below : cells ≤ length flat.nets
  cells_below = let e = input_count in omega arith

  -- ---- nets

  pub net_at : (cell : ℕ) → cell < cells → IsDrivenBy flat (inputs design + cell) (driver.Out cell 0)
  net_at cell l =
      let e = input_count in
      let here : inputs design + cell ≡ length input_drivers + cell = omega arith in
      let at : At (map (λ (n : ℕ). driver.Out n 0) (range_with_len 0 cells)) cell (driver.Out (0 + cell) 0) = range_from (λ (n : ℕ). driver.Out n 0) 0 cells cell l in
      let zero : 0 + cell ≡ cell = omega arith in
      let at' : At (map (λ (n : ℕ). driver.Out n 0) (range_with_len 0 cells)) cell (driver.Out cell 0) = subst (λ (k : ℕ). At (map (λ (n : ℕ). driver.Out n 0) (range_with_len 0 cells)) cell (driver.Out k 0)) zero at in
      subst (λ (k : ℕ). IsDrivenBy flat k (driver.Out cell 0)) (sym here) (subst (λ (ds : List Driver). At ds (length input_drivers + cell) (driver.Out cell 0)) (sym drivers_are) (at_right input_drivers _ cell (driver.Out cell 0) at'))

  driver_split : (net : ℕ) (d : Driver) → IsDrivenBy flat net d → At input_drivers net d ⊎ ((m : ℕ) × At (map (λ (n : ℕ). driver.Out n 0) (range_with_len 0 cells)) m d × (net ≡ length input_drivers + m))
  driver_split net d is = at_split input_drivers _ net d (subst (λ (ds : List Driver). At ds net d) drivers_are is)

  abbrev IsInput : ℕ → Type 0
  IsInput port = (bit : PortBit) × (slice_get flat.ports port ≡ Some bit) × (bit.output ≡ false)

  input_driver : (net : ℕ) (d : Driver) → At input_drivers net d → (port : ℕ) × (d ≡ driver.Port port) × IsInput port
  input_driver net d at =
      let got = chunk_in port_drivers 0 flat.ports net d at in
      let one = one_or_none got.1.output (driver.Port (0 + got.0)) got.3 d got.4 in
      let zero : 0 + got.0 ≡ got.0 = omega arith in
      (got.0, one.1 ∙ ap (λ (k : ℕ). driver.Port k) zero, (got.1, got.2, one.0))

  pub net_is : (net cell out : ℕ) → IsDrivenBy flat net (driver.Out cell out) → (net ≡ inputs design + cell) × (out ≡ 0) × (cell < cells)
  net_is net cell out is = elim (driver_split net (driver.Out cell out) is) [
    | inl left ↦ (let got = input_driver net (driver.Out cell out) left in let e : driver.Out cell out ≡ driver.Port got.0 = got.1 in cc)
    | inr (m, right, sum) ↦
        (let got = range_in (λ (n : ℕ). driver.Out n 0) 0 cells m (driver.Out cell out) right in
        let e : driver.Out cell out ≡ driver.Out (0 + m) 0 = got.1 in
        let c : cell ≡ 0 + m = cc in
        let o : out ≡ 0 = cc in
        let below = got.0 in
        let count = input_count in (omega arith, o, omega arith))
  ]

  pub port_is : (net port : ℕ) → IsDrivenBy flat net (driver.Port port) → IsInput port
  port_is net port is = elim (driver_split net (driver.Port port) is) [
    | inl left ↦ (let got = input_driver net (driver.Port port) left in let e : driver.Port port ≡ driver.Port got.0 = got.1 in let same : got.0 ≡ port = cc in subst IsInput same got.2)
    | inr (m, right, sum) ↦ (let got = range_in (λ (n : ℕ). driver.Out n 0) 0 cells m (driver.Port port) right in let e : driver.Port port ≡ driver.Out (0 + m) 0 = got.1 in cc)
  ]

  -- ---- pins

  reader_at : (pin : ℕ) (end : Pin) → slice_get flat.pins pin ≡ Some end → At (map (λ (p : Pin). p.reader) flat.pins) pin end.reader
  reader_at pin end is = slice_get-map (λ (p : Pin). p.reader) flat.pins pin ∙ ap (option_map (λ (p : Pin). p.reader)) is

  reader_split : (pin : ℕ) (end : Pin) → slice_get flat.pins pin ≡ Some end → At (map (λ (n : ℕ). reader.Pin n 0) (range_with_len 0 cells)) pin end.reader ⊎ ((m : ℕ) × At output_readers m end.reader × (pin ≡ cells + m))
  reader_split pin end is = elim (at_split (map (λ (n : ℕ). reader.Pin n 0) (range_with_len 0 cells)) output_readers pin end.reader (subst (λ (rs : List Reader). At rs pin end.reader) readers_are (reader_at pin end is))) [
    | inl left ↦ inl left
    | inr (m, right, sum) ↦ inr (m, right, sum ∙ ap (λ (k : ℕ). k + m) (length-map-range_with_len (λ (n : ℕ). reader.Pin n 0) 0 cells))
  ]

  pub pin_at : (cell : ℕ) → cell < cells → (end : Pin) × (slice_get flat.pins cell ≡ Some end) × (end.reader ≡ reader.Pin cell 0) × (end.net < length flat.nets)
  pin_at cell l =
      let at : At (map (λ (n : ℕ). reader.Pin n 0) (range_with_len 0 cells)) cell (reader.Pin (0 + cell) 0) = range_from (λ (n : ℕ). reader.Pin n 0) 0 cells cell l in
      let zero : 0 + cell ≡ cell = omega arith in
      let whole : At (map (λ (p : Pin). p.reader) flat.pins) cell (reader.Pin (0 + cell) 0) = subst (λ (rs : List Reader). At rs cell (reader.Pin (0 + cell) 0)) (sym readers_are) (at_left _ output_readers cell (reader.Pin (0 + cell) 0) at) in
      elim (slice_get_cases flat.pins cell).1 [
        | inl (end, within, is, same) ↦
            (let e : Some end.reader ≡ Some (reader.Pin (0 + cell) 0) = sym (reader_at cell end is) ∙ whole in
            let who : end.reader ≡ reader.Pin (0 + cell) 0 = cc in
            (end, is, who ∙ ap (λ (k : ℕ). reader.Pin k 0) zero, all_at (λ (p : Pin). p.net < length flat.nets) flat.pins cell end is set_up.flat_fits.read))
        | inr (past, none) ↦
            (let nothing : slice_get (map (λ (p : Pin). p.reader) flat.pins) cell ≡ None = slice_get-map (λ (p : Pin). p.reader) flat.pins cell ∙ ap (option_map (λ (p : Pin). p.reader)) none in
            let wrong : None ≡ Some (reader.Pin (0 + cell) 0) = sym nothing ∙ whole in cc)
      ]

  pub pin_is : (pin cell at net : ℕ) → IsPin flat pin (reader.Pin cell at) net → (pin ≡ cell) × (at ≡ 0) × (cell < cells)
  pin_is pin cell at net is = elim (reader_split pin (record { reader = reader.Pin cell at; net = net }) is) [
    | inl left ↦
        (let got = range_in (λ (n : ℕ). reader.Pin n 0) 0 cells pin (reader.Pin cell at) left in
        let e : reader.Pin cell at ≡ reader.Pin (0 + pin) 0 = got.1 in
        let c : cell ≡ 0 + pin = cc in
        let o : at ≡ 0 = cc in
        let below = got.0 in (omega arith, o, omega arith))
    | inr (m, right, sum) ↦
        (let got = chunk_in port_readers 0 flat.ports m (reader.Pin cell at) right in
        let one = none_or_one got.1.output (reader.Port (0 + got.0)) got.3 (reader.Pin cell at) got.4 in
        let e : reader.Pin cell at ≡ reader.Port (0 + got.0) = one.1 in cc)
  ]

  -- the same, of the pins as the code reads them
  pub pin_read : (pins : List Pin) (cell i : ℕ) (d : Pin) → pins ≡ flat.pins → i ≡ cell → cell < cells → (i < length pins) × IsPin flat cell (reader.Pin cell 0) (get_or pins i d).net × ((get_or pins i d).net < length flat.nets)
  pin_read pins cell i d all same l =
      let (end, is, who, below) = pin_at cell l in
      let is' : slice_get pins i ≡ Some end = subst (λ (ps : List Pin). slice_get ps i ≡ Some end) (sym all) (subst (λ (k : ℕ). slice_get flat.pins k ≡ Some end) (sym same) is) in
      let e : end ≡ get_or pins i d = sym (get_or_from_slice_get pins i end d is') in
      let at : IsPin flat cell (reader.Pin cell 0) end.net = subst (λ (r : Reader). slice_get flat.pins cell ≡ Some (record { reader = r; net = end.net })) who is in (
        slice_get_within pins i end is',
        subst (λ (p : Pin). IsPin flat cell (reader.Pin cell 0) p.net) e at,
        subst (λ (p : Pin). p.net < length flat.nets) e below,
      )

  pub pin_within : (pins : List Pin) (cell i : ℕ) → pins ≡ flat.pins → i ≡ cell → cell < cells → i < length pins
  pin_within pins cell i all same l = let (end, is, who, below) = pin_at cell l in let w = slice_get_within flat.pins cell end is in let e = ap length all in omega arith

  abbrev IsOutput : ℕ → Type 0
  IsOutput port = (bit : PortBit) × (slice_get flat.ports port ≡ Some bit) × (bit.output ≡ true)

  output_pin : (pin port net : ℕ) → IsPin flat pin (reader.Port port) net → (m : ℕ) × At output_readers m (reader.Port port) × (pin ≡ cells + m) × IsOutput port
  output_pin pin port net is = elim (reader_split pin (record { reader = reader.Port port; net = net }) is) [
    | inl left ↦ (let got = range_in (λ (n : ℕ). reader.Pin n 0) 0 cells pin (reader.Port port) left in let e : reader.Port port ≡ reader.Pin (0 + pin) 0 = got.1 in cc)
    | inr (m, right, sum) ↦
        (let got = chunk_in port_readers 0 flat.ports m (reader.Port port) right in
        let one = none_or_one got.1.output (reader.Port (0 + got.0)) got.3 (reader.Port port) got.4 in
        let e : reader.Port port ≡ reader.Port (0 + got.0) = one.1 in
        let same : got.0 ≡ port = (let c : port ≡ 0 + got.0 = cc in omega arith) in
        (m, right, sum, subst IsOutput same (got.1, got.2, one.0)))
  ]

  pub one_port : (pin other port net next : ℕ) → IsPin flat pin (reader.Port port) net → IsPin flat other (reader.Port port) next → pin ≡ other
  one_port pin other port net next one two =
      let a = output_pin pin port net one in
      let b = output_pin other port next two in
      let e = readers_distinct flat.ports a.0 b.0 (reader.Port port) a.1 b.1 in
      let s = a.2 in
      let t = b.2 in omega arith

  -- ---- uses of ports

  use_of : (port : ℕ) (bit : PortBit) → slice_get flat.ports port ≡ Some bit → (used : PortUse) × IsUsed design.bench port used × FitsUse design.bench port bit used
  use_of port bit is =
      let within = slice_get_within flat.ports port bit is in
      let count = set_up.bench_fits.ports in
      let (used, at) = at_below design.bench.uses port (omega arith) in
      (used, at, set_up.bench_fits.uses port bit used is at)

  pub strobed : (pin port net : ℕ) → IsPin flat pin (reader.Port port) net → (strobe : Strobe) × IsUsed design.bench port (port_use.Strobed strobe) × IsTime strobe.offset × (strobe.offset <ℤ design.bench.period) × IsPositiveTime strobe.setup × IsPositiveTime strobe.hold
  strobed pin port net is =
      let (bit, at, output) = (output_pin pin port net is).3 in
      let (used, in_use, fits) = use_of port bit at in go port bit used in_use output fits
    where
      go : (port : ℕ) (bit : PortBit) (used : PortUse) → IsUsed design.bench port used → bit.output ≡ true → FitsUse design.bench port bit used →
          (strobe : Strobe) × IsUsed design.bench port (port_use.Strobed strobe) × IsTime strobe.offset × (strobe.offset <ℤ design.bench.period) × IsPositiveTime strobe.setup × IsPositiveTime strobe.hold
      go port bit port_use.Clock in_use output fits = let e : true ≡ false = sym output ∙ fits.1 in cc
      go port bit (port_use.Arrival low high) in_use output fits = let e : true ≡ false = sym output ∙ fits.1 in cc
      go port bit (port_use.Strobed strobe) in_use output fits = (strobe, in_use, fits.1, fits.2, fits.3, fits.4)

  -- an input bit that is not the clock is a data input
  pub arrives : (net port : ℕ) → IsDrivenBy flat net (driver.Port port) → (port ≡ design.bench.clock → ⊥) → (low : ℤ) × (high : ℤ) × IsUsed design.bench port (port_use.Arrival low high)
  arrives net port is other =
      let (bit, at, input) = port_is net port is in
      let (used, in_use, fits) = use_of port bit at in go port bit used in_use other input fits
    where
      go : (port : ℕ) (bit : PortBit) (used : PortUse) → IsUsed design.bench port used → (port ≡ design.bench.clock → ⊥) → bit.output ≡ false → FitsUse design.bench port bit used → (low : ℤ) × (high : ℤ) × IsUsed design.bench port (port_use.Arrival low high)
      go port bit port_use.Clock in_use other input fits = absurd (other fits.0)
      go port bit (port_use.Arrival low high) in_use other input fits = (low, high, in_use)
      go port bit (port_use.Strobed strobe) in_use other input fits = let e : true ≡ false = sym fits.0 ∙ input in cc

  pub arrival_fits : (port : ℕ) (low high : ℤ) → IsUsed design.bench port (port_use.Arrival low high) → IsTime low × IsTime high × (low ≤ℤ high)
  arrival_fits port low high is =
      let within = slice_get_within design.bench.uses port (port_use.Arrival low high) is in
      let count = set_up.bench_fits.ports in
      let (bit, at) = at_below flat.ports port (omega arith) in
      let fits = set_up.bench_fits.uses port bit (port_use.Arrival low high) at is in (fits.2, fits.3, fits.4)

  pub strobe_fits : (port : ℕ) (strobe : Strobe) → IsUsed design.bench port (port_use.Strobed strobe) → IsTime strobe.offset × (strobe.offset <ℤ design.bench.period) × IsPositiveTime strobe.setup × IsPositiveTime strobe.hold
  strobe_fits port strobe is =
      let within = slice_get_within design.bench.uses port (port_use.Strobed strobe) is in
      let count = set_up.bench_fits.ports in
      let (bit, at) = at_below flat.ports port (omega arith) in
      let fits = set_up.bench_fits.uses port bit (port_use.Strobed strobe) at is in (fits.1, fits.2, fits.3, fits.4)

  pub driven : (net : ℕ) → net < length flat.nets → (d : Driver) × IsDrivenBy flat net d
  driven net l = at_below flat.nets net l

  pub read_net : (by : Reader) (net : ℕ) → Reads flat by net → net < length flat.nets
  read_net by net (pin, is) = all_at (λ (p : Pin). p.net < length flat.nets) flat.pins pin (record { reader = by; net = net }) is set_up.flat_fits.read
