-- What the fields of a wiring give.
use Rattle.std.proofs.Common.{◌≡◌, ◌<◌, ◌+◌, ◌∙◌, ℕ, List, length, Option, Some, None, sym, ap, subst, arith, get_or}
use Rattle.std.specs.Prelude.{slice_get, IfSome, IfNone}
use Rattle.std.proofs.lemmas.List.{get_or_default}
use Rattle.std.proofs.lemmas.Option.{slice_get_within}
use Rattle.rsfq_ids.specs.declared.table.CellTable.{CellTable}
use Rattle.rsfq_ids.specs.declared.circuit.Flat.{Flat}
use Rattle.rsfq_ids.specs.declared.circuit.Driver.TheVariants as driver
use Rattle.rsfq_ids.specs.Circuit.{IsDrivenBy}
use Rattle.rsfq_ids.specs.WellFormed.{IsTable, IsFlat, reading_pins}
use Rattle.net_graph.specs.Graph.{HasPinIn, HasOutputIn, IsOutputBit, IsPinOf, IsPinOfPort, IsReadBy}
use Rattle.net_graph.specs.Wiring.{Wired, IsWiring, AreStarts, ArePortPins, AreReaders, IsOneReader, counted}
use Rattle.net_graph.proofs.Circuits.{numbered, one_pin, port_driver, port_reader, port_pin_at, has_pin, has_output, net_within, pin_stands, net_stands, row_read}
use Rattle.net_graph.proofs.Got.{within}
use Rattle.net_graph.proofs.ReadPins.{no_fanout}

pub is_wiring : (table : CellTable) (flat : Flat) (readers : List (Option ℕ)) → IsTable table → IsFlat table flat → AreReaders flat (length flat.nets) readers → IsWiring (record { table = table; flat = flat })
is_wiring table flat readers t f r = record {
  table_fits = t;
  flat_fits = f;
  numbered = numbered table flat f;
  one_pin = one_pin table flat f;
  pins = has_pin table flat f;
  outputs = has_output table flat f;
  inputs = port_driver table flat f;
  output_bits = λ net port reads. port_reader table flat f reads.0 port net reads.1;
  fanout = no_fanout flat readers r (net_within table flat f);
}

pub pin_found : (table : CellTable) (flat : Flat) (pins nets : List ℕ) → IsFlat table flat → AreStarts table flat (length flat.cells) pins nets → (cell pin : ℕ) → HasPinIn table flat cell pin →
    (cell < length pins) × (get_or pins cell 0 + pin < length flat.pins) × IsPinOf flat (get_or pins cell 0 + pin) cell pin
pin_found table flat pins nets fit s cell pin has =
    let c = row_read table flat cell has.0 has.1 in
    let inside = slice_get_within flat.cells cell c.0 c.1 in
    let is = s.pin_starts cell inside in
    let at = pin_stands table flat fit cell pin has in
    let there = subst (λ (n : ℕ). IsPinOf flat (n + pin) cell pin) (sym is) at in
    (omega (arith, s.pin_count), slice_get_within flat.pins (get_or pins cell 0 + pin) _ there.1, there)

pub net_found : (table : CellTable) (flat : Flat) (pins nets : List ℕ) → IsFlat table flat → AreStarts table flat (length flat.cells) pins nets → (cell out : ℕ) → HasOutputIn table flat cell out →
    (cell < length nets) × (get_or nets cell 0 + out < length flat.nets) × IsDrivenBy flat (get_or nets cell 0 + out) (driver.Out cell out)
net_found table flat pins nets fit s cell out has =
    let c = row_read table flat cell has.0 has.1 in
    let inside = slice_get_within flat.cells cell c.0 c.1 in
    let is = s.net_starts cell inside in
    let at = net_stands table flat fit cell out has in
    let there = subst (λ (n : ℕ). IsDrivenBy flat (n + out) (driver.Out cell out)) (sym is) at in
    (omega (arith, s.net_count), slice_get_within flat.nets (get_or nets cell 0 + out) _ there, there)

pub reader_some : (flat : Flat) (net : ℕ) (what : Option ℕ) → IsOneReader flat net what → IfSome what (IsReadBy flat net)
reader_some flat net None r = tt
reader_some flat net (Some pin) r = r.0

pub reader_none : (flat : Flat) (net : ℕ) (what : Option ℕ) → IsOneReader flat net what → IfNone what ((pin : ℕ) → ¬ IsReadBy flat net pin)
reader_none flat net None r = r
reader_none flat net (Some pin) r = tt

-- ---- as the calls read them

module _ (w : Wired) (table : CellTable) (flat : Flat) (pins nets : List ℕ) (view : record { table = table; flat = flat } ≡ w) (fit : IsFlat table flat) (s : AreStarts table flat (length flat.cells) pins nets) where
  pub pin_called : (cell pin index start : ℕ) → index ≡ cell → start ≡ get_or pins index start → HasPinIn w.table w.flat cell pin → (start + pin < length flat.pins) × IsPinOf w.flat (start + pin) cell pin
  pin_called cell pin index start same is has =
      let found = pin_found table flat pins nets fit s cell pin (subst (λ (v : Wired). HasPinIn v.table v.flat cell pin) (sym view) has) in
      let from : start ≡ get_or pins cell 0 = is ∙ ap (λ (i : ℕ). get_or pins i start) same ∙ get_or_default pins cell start 0 found.0 in
      (omega (arith, found.1), subst (λ (v : Wired). IsPinOf v.flat (start + pin) cell pin) view (subst (λ (n : ℕ). IsPinOf flat (n + pin) cell pin) (sym from) found.2))

  pub net_called : (cell out index start : ℕ) → index ≡ cell → start ≡ get_or nets index start → HasOutputIn w.table w.flat cell out → (start + out < length flat.nets) × IsDrivenBy w.flat (start + out) (driver.Out cell out)
  net_called cell out index start same is has =
      let found = net_found table flat pins nets fit s cell out (subst (λ (v : Wired). HasOutputIn v.table v.flat cell out) (sym view) has) in
      let from : start ≡ get_or nets cell 0 = is ∙ ap (λ (i : ℕ). get_or nets i start) same ∙ get_or_default nets cell start 0 found.0 in
      (omega (arith, found.1), subst (λ (v : Wired). IsDrivenBy v.flat (start + out) (driver.Out cell out)) view (subst (λ (n : ℕ). IsDrivenBy flat (n + out) (driver.Out cell out)) (sym from) found.2))

pub reader_called : (w : Wired) (table : CellTable) (flat : Flat) (readers : List (Option ℕ)) → record { table = table; flat = flat } ≡ w → AreReaders flat (length flat.nets) readers → (net index : ℕ) (what : Option ℕ) → index ≡ net → slice_get readers index ≡ Some what → IsOneReader w.flat net what
reader_called w table flat readers view r net index what same is =
    subst (λ (v : Wired). IsOneReader v.flat net what) view (r.each net what (subst (λ (n : ℕ). slice_get readers n ≡ Some what) same is))

pub none_called : (w : Wired) (table : CellTable) (flat : Flat) (readers : List (Option ℕ)) → record { table = table; flat = flat } ≡ w → IsFlat table flat → AreReaders flat (length flat.nets) readers → (net index : ℕ) → index ≡ net → slice_get readers index ≡ None → (pin : ℕ) → ¬ IsReadBy w.flat net pin
none_called w table flat readers view fit r net index same is pin reads =
    let l = net_within table flat fit pin net (subst (λ (v : Wired). IsReadBy v.flat net pin) (sym view) reads) in
    let at = within readers net (omega (arith, r.nets)) in
    let none : None ≡ Some at.0 = sym is ∙ ap (slice_get readers) same ∙ at.1 in cc

pub port_pin_found : (table : CellTable) (flat : Flat) (ports : List ℕ) → IsFlat table flat → ArePortPins flat (counted (reading_pins table) flat.cells (length flat.cells)) (length flat.ports) ports → (port : ℕ) → IsOutputBit flat port →
    (port < length ports) × (get_or ports port 0 < length flat.pins) × IsPinOfPort flat (get_or ports port 0) port
port_pin_found table flat ports fit s port (bit, is, out) =
    let inside = slice_get_within flat.ports port bit is in
    let at = port_pin_at table flat fit port bit is out in
    let there = subst (λ (n : ℕ). IsPinOfPort flat n port) (sym (s.port_starts port inside)) at in
    (omega (arith, s.port_count), slice_get_within flat.pins (get_or ports port 0) _ there.1, there)

pub port_pin_called : (w : Wired) (table : CellTable) (flat : Flat) (ports : List ℕ) → record { table = table; flat = flat } ≡ w → IsFlat table flat → ArePortPins flat (counted (reading_pins table) flat.cells (length flat.cells)) (length flat.ports) ports →
    (port index place : ℕ) → index ≡ port → place ≡ get_or ports index place → IsOutputBit w.flat port → (place < length flat.pins) × IsPinOfPort w.flat place port
port_pin_called w table flat ports view fit s port index place same is has =
    let found = port_pin_found table flat ports fit s port (subst (λ (v : Wired). IsOutputBit v.flat port) (sym view) has) in
    let from : place ≡ get_or ports port 0 = is ∙ ap (λ (i : ℕ). get_or ports i place) same ∙ get_or_default ports port place 0 found.0 in
    (omega (arith, found.1), subst (λ (v : Wired). IsPinOfPort v.flat place port) view (subst (λ (n : ℕ). IsPinOfPort flat n port) (sym from) found.2))
