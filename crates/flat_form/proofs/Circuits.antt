-- The nets and pins of a well-formed circuit of JTLs: cell n drives the n-th net behind those of the inputs, and its one pin is pin n.
use Rattle.std.proofs.Common.{◌≡◌, ◌∙◌, ◌<◌, ◌+◌, ◌⊎◌, inl, inr, ℕ, zero, suc, Bool, true, false, cond, List, [], ◌∷◌, ◌++◌, map, length, Some, refl, sym, ap, subst, arith, length-append}
use Rattle.std.specs.Prelude.{slice_get}
use Rattle.std.specs.List.{All, flat_map, enumerate_from, range_with_len}
use Rattle.std.proofs.lemmas.List.Elements.{All-head, All-tail}
use Rattle.std.proofs.lemmas.Option.{slice_get_within, get_or_from_slice_get}
use Rattle.rsfq_ids.specs.declared.circuit.PortBit.{PortBit}
use Rattle.rsfq_ids.specs.declared.circuit.Pin.{Pin}
use Rattle.rsfq_ids.specs.declared.circuit.Flat.{Flat}
use Rattle.rsfq_ids.specs.declared.circuit.FlatCell.{FlatCell}
use Rattle.rsfq_ids.specs.declared.circuit.Driver.{Driver}
use Rattle.rsfq_ids.specs.declared.circuit.Driver.TheVariants as driver
use Rattle.rsfq_ids.specs.declared.circuit.Reader.{Reader}
use Rattle.rsfq_ids.specs.declared.circuit.Reader.TheVariants as reader
use Rattle.rsfq_ids.specs.Circuit.{IsDrivenBy, IsPin}
use Rattle.rsfq_ids.specs.Offence.{ReadsFrom}
use Rattle.rsfq_ids.specs.WellFormed.{IsFlat, output_pins, reading_pins}
use Rattle.flat_form.specs.Table.{jtl_table}
use Rattle.flat_form.specs.Walking.{first_output}
use Rattle.flat_form.proofs.Lists.{some_same, got_none, got_first, got_rest, split_got, get_left, get_right, map_got, got_map, numbered, numbered_length, numbered_get}

-- ---- what a JTL has

one_output : (cell : FlatCell) → cell.row < 1 → output_pins jtl_table cell ≡ 1
one_output cell l = let z : cell.row ≡ 0 = omega arith in rw z refl

one_reader : (cell : FlatCell) → cell.row < 1 → reading_pins jtl_table cell ≡ 1
one_reader cell l = let z : cell.row ≡ 0 = omega arith in rw z refl

ones_are : {X : Type 0} (make : ℕ → ℕ → X) (count : FlatCell → ℕ) (start : ℕ) (cells : List FlatCell) → ((cell : FlatCell) → cell.row < 1 → count cell ≡ 1) → All (λ (cell : FlatCell). cell.row < 1) cells
    → flat_map (λ (n, cell). map (make n) (range_with_len 0 (count cell))) (enumerate_from start cells) ≡ numbered (λ n. make n 0) start (length cells)
ones_are make count start [] one rows = refl
ones_are {X} make count start (cell ∷ cells) one rows =
    let here : count cell ≡ 1 = one cell (All-head (λ (c : FlatCell). c.row < 1) cell cells rows) in
    let first : map (make start) (range_with_len 0 (count cell)) ≡ make start 0 ∷ [] = ap (λ (n : ℕ). map (make start) (range_with_len 0 n)) here in
    ap (λ (xs : List X). xs ++ flat_map (λ (n, cell). map (make n) (range_with_len 0 (count cell))) (enumerate_from (start + 1) cells)) first
    ∙ ap (λ (xs : List X). make start 0 ∷ xs) (ones_are make count (start + 1) cells one (All-tail (λ (c : FlatCell). c.row < 1) cell cells rows))

-- ---- what ports have

abbrev input_drivers : ℕ → List PortBit → List Driver
input_drivers start ports = flat_map (λ (n, port). cond port.output [] (driver.Port n ∷ [])) (enumerate_from start ports)

abbrev output_readers : ℕ → List PortBit → List Reader
output_readers start ports = flat_map (λ (n, port). cond port.output (reader.Port n ∷ []) []) (enumerate_from start ports)

no_output : (start : ℕ) (ports : List PortBit) (k cell out : ℕ) → slice_get (input_drivers start ports) k ≡ Some (driver.Out cell out) → ⊥
no_output start [] k cell out e = got_none k (driver.Out cell out) e
no_output start (p ∷ ports) k cell out e = go p.output (no_output (start + 1) ports) k e where
  go : (b : Bool) → ((i cell out : ℕ) → slice_get (input_drivers (start + 1) ports) i ≡ Some (driver.Out cell out) → ⊥) → (i : ℕ) → slice_get (cond b [] (driver.Port start ∷ []) ++ input_drivers (start + 1) ports) i ≡ Some (driver.Out cell out) → ⊥
  go true deep i f = deep i cell out f
  go false deep zero f = let same : driver.Port start ≡ driver.Out cell out = got_first (driver.Port start) (input_drivers (start + 1) ports) (driver.Out cell out) f in absurd cc
  go false deep (suc i) f = deep i cell out (got_rest (driver.Port start) (input_drivers (start + 1) ports) i (driver.Out cell out) f)

no_pin : (start : ℕ) (ports : List PortBit) (k cell at : ℕ) → slice_get (output_readers start ports) k ≡ Some (reader.Pin cell at) → ⊥
no_pin start [] k cell at e = got_none k (reader.Pin cell at) e
no_pin start (p ∷ ports) k cell at e = go p.output (no_pin (start + 1) ports) k e where
  go : (b : Bool) → ((i cell at : ℕ) → slice_get (output_readers (start + 1) ports) i ≡ Some (reader.Pin cell at) → ⊥) → (i : ℕ) → slice_get (cond b (reader.Port start ∷ []) [] ++ output_readers (start + 1) ports) i ≡ Some (reader.Pin cell at) → ⊥
  go false deep i f = deep i cell at f
  go true deep zero f = let same : reader.Port start ≡ reader.Pin cell at = got_first (reader.Port start) (output_readers (start + 1) ports) (reader.Pin cell at) f in absurd cc
  go true deep (suc i) f = deep i cell at (got_rest (reader.Port start) (output_readers (start + 1) ports) i (reader.Pin cell at) f)

-- ---- the circuit

module _ (flat : Flat) (fits : IsFlat jtl_table flat) where
  nets_are : flat.nets ≡ input_drivers 0 flat.ports ++ numbered (λ n. driver.Out n 0) 0 (length flat.cells)
  nets_are = fits.nets ∙ ap (λ (xs : List Driver). input_drivers 0 flat.ports ++ xs) (ones_are driver.Out (output_pins jtl_table) 0 flat.cells one_output fits.rows)

  pins_are : map (λ (pin : Pin). pin.reader) flat.pins ≡ numbered (λ n. reader.Pin n 0) 0 (length flat.cells) ++ output_readers 0 flat.ports
  pins_are = fits.pins ∙ ap (λ (xs : List Reader). xs ++ output_readers 0 flat.ports) (ones_are reader.Pin (reading_pins jtl_table) 0 flat.cells one_reader fits.rows)

  pub net_count : length flat.nets ≡ length (input_drivers 0 flat.ports) + length flat.cells
  net_count =
      ap length nets_are ∙ length-append (input_drivers 0 flat.ports) (numbered (λ n. driver.Out n 0) 0 (length flat.cells))
      ∙ ap (λ (k : ℕ). length (input_drivers 0 flat.ports) + k) (numbered_length (λ n. driver.Out n 0) 0 (length flat.cells))

  pub first_is : first_output flat ≡ length (input_drivers 0 flat.ports)
  first_is = let n = net_count in omega arith

  pub cells_within : first_output flat + length flat.cells ≡ length flat.nets
  cells_within = let n = net_count in omega arith

  -- the cell of an output drives its net
  pub driven : (cell : ℕ) → cell < length flat.cells → IsDrivenBy flat (first_output flat + cell) (driver.Out cell 0)
  driven cell l =
      let at = get_right (input_drivers 0 flat.ports) (numbered (λ n. driver.Out n 0) 0 (length flat.cells)) cell (driver.Out (0 + cell) 0) (numbered_get (λ n. driver.Out n 0) 0 (length flat.cells) cell l) in
      let there = subst (λ (nets : List Driver). slice_get nets (length (input_drivers 0 flat.ports) + cell) ≡ Some (driver.Out (0 + cell) 0)) (sym nets_are) at in
      let zero' : 0 + cell ≡ cell = omega arith in
      let place : length (input_drivers 0 flat.ports) + cell ≡ first_output flat + cell = let f = first_is in omega arith in
      subst (λ (k : ℕ). slice_get flat.nets k ≡ Some (driver.Out cell 0)) place (there ∙ ap (λ (k : ℕ). Some (driver.Out k 0)) zero')

  -- and no other
  pub driver_is : (net cell out : ℕ) → IsDrivenBy flat net (driver.Out cell out) → (net ≡ first_output flat + cell) × (cell < length flat.cells)
  driver_is net cell out e = go (split_got (input_drivers 0 flat.ports) (numbered (λ n. driver.Out n 0) 0 (length flat.cells)) net (driver.Out cell out) (subst (λ (nets : List Driver). slice_get nets net ≡ Some (driver.Out cell out)) nets_are e)) where
    go : ((slice_get (input_drivers 0 flat.ports) net ≡ Some (driver.Out cell out)) × (net < length (input_drivers 0 flat.ports)))
        ⊎ ((j : ℕ) × (net ≡ length (input_drivers 0 flat.ports) + j) × (slice_get (numbered (λ n. driver.Out n 0) 0 (length flat.cells)) j ≡ Some (driver.Out cell out))) → (net ≡ first_output flat + cell) × (cell < length flat.cells)
    go (inl h) = absurd (no_output 0 flat.ports net cell out h.0)
    go (inr h) =
        let l = slice_get_within (numbered (λ n. driver.Out n 0) 0 (length flat.cells)) h.0 (driver.Out cell out) h.2 in
        let lt : h.0 < length flat.cells = let n = numbered_length (λ n. driver.Out n 0) 0 (length flat.cells) in omega arith in
        let same : driver.Out (0 + h.0) 0 ≡ driver.Out cell out = some_same (driver.Out (0 + h.0) 0) (driver.Out cell out) (sym (numbered_get (λ n. driver.Out n 0) 0 (length flat.cells) h.0 lt) ∙ h.2) in
        let cell_is : 0 + h.0 ≡ cell = cc in
        let f = first_is in
        let at = h.1 in
        (omega arith, omega arith)

  -- a pin reads a net
  pub pin_within : (place : ℕ) (pin : Pin) → slice_get flat.pins place ≡ Some pin → pin.net < length flat.nets
  pin_within place pin at =
      let l = slice_get_within flat.pins place pin at in
      let is = get_or_from_slice_get flat.pins place pin pin at in
      subst (λ (p : Pin). p.net < length flat.nets) is (fits.read place pin l)

  -- the pin of a cell
  pub pin_there : (cell : ℕ) → cell < length flat.cells → (net : ℕ) × IsPin flat cell (reader.Pin cell 0) net × (net < length flat.nets)
  pin_there cell l =
      let at = get_left (numbered (λ n. reader.Pin n 0) 0 (length flat.cells)) (output_readers 0 flat.ports) cell (reader.Pin (0 + cell) 0) (numbered_get (λ n. reader.Pin n 0) 0 (length flat.cells) cell l) in
      let there = subst (λ (readers : List Reader). slice_get readers cell ≡ Some (reader.Pin (0 + cell) 0)) (sym pins_are) at in
      let pin = got_map (λ (pin : Pin). pin.reader) flat.pins cell (reader.Pin (0 + cell) 0) there in
      let zero' : 0 + cell ≡ cell = omega arith in
      let by : pin.0.reader ≡ reader.Pin cell 0 = pin.2 ∙ ap (λ (k : ℕ). reader.Pin k 0) zero' in
      (pin.0.net, pin.1 ∙ ap (λ (r : Reader). Some (record { reader = r; net = pin.0.net })) by, pin_within cell pin.0 pin.1)

  pub pin_is : (pin cell at net : ℕ) → IsPin flat pin (reader.Pin cell at) net → (pin ≡ cell) × (cell < length flat.cells) × (at ≡ 0)
  pin_is pin cell at net e = go (split_got (numbered (λ n. reader.Pin n 0) 0 (length flat.cells)) (output_readers 0 flat.ports) pin (reader.Pin cell at)
      (subst (λ (readers : List Reader). slice_get readers pin ≡ Some (reader.Pin cell at)) pins_are (map_got (λ (pin : Pin). pin.reader) flat.pins pin (record { reader = reader.Pin cell at; net = net }) e))) where
        go : ((slice_get (numbered (λ n. reader.Pin n 0) 0 (length flat.cells)) pin ≡ Some (reader.Pin cell at)) × (pin < length (numbered (λ n. reader.Pin n 0) 0 (length flat.cells))))
            ⊎ ((j : ℕ) × (pin ≡ length (numbered (λ n. reader.Pin n 0) 0 (length flat.cells)) + j) × (slice_get (output_readers 0 flat.ports) j ≡ Some (reader.Pin cell at))) → (pin ≡ cell) × (cell < length flat.cells) × (at ≡ 0)
        go (inr h) = absurd (no_pin 0 flat.ports h.0 cell at h.2)
        go (inl h) =
            let l = h.1 in
            let lt : pin < length flat.cells = let n = numbered_length (λ n. reader.Pin n 0) 0 (length flat.cells) in omega arith in
            let same : reader.Pin (0 + pin) 0 ≡ reader.Pin cell at = some_same (reader.Pin (0 + pin) 0) (reader.Pin cell at) (sym (numbered_get (λ n. reader.Pin n 0) 0 (length flat.cells) pin lt) ∙ h.0) in
            let cell_is : 0 + pin ≡ cell = cc in
            let at_is : 0 ≡ at = cc in
            (omega arith, omega arith, sym at_is)

  -- a cell that reads from another
  pub reader_within : (cell before : ℕ) → ReadsFrom flat cell before → cell < length flat.cells
  reader_within cell before r = (pin_is r.4.0 cell r.0 r.2 r.4.1).1
