-- The numbers at both ends of nets are those of the places of the drivers and of the readers.
use Rattle.std.proofs.Common.{◌≡◌, ◌∙◌, ◌+◌, inl, inr, ℕ, zero, suc, Bool, true, false, cond, List, [], ◌∷◌, ◌++◌, map, length, Option, Some, None, refl, sym, ap, subst, arith}
use Rattle.std.specs.Prelude.{slice_get, unwrap_or, option_to_list}
use Rattle.std.specs.Option.{option_map, option_and_then}
use Rattle.std.specs.List.{AllZip, flat_map, enumerate_from, range_with_len}
use Rattle.std.proofs.lemmas.List.{length-map}
use Rattle.std.proofs.lemmas.List.Folds.{flat_map-map}
use Rattle.std.proofs.lemmas.List.FromFn.{length-map-range_with_len}
use Rattle.std.proofs.lemmas.Option.{same_Some}
use Rattle.rsfq_ids.specs.declared.table.CellTable.{CellTable}
use Rattle.rsfq_ids.specs.declared.table.CellRow.{CellRow}
use Rattle.rsfq_ids.specs.declared.circuit.Flat.{Flat}
use Rattle.rsfq_ids.specs.declared.circuit.FlatCell.{FlatCell}
use Rattle.rsfq_ids.specs.declared.circuit.PortBit.{PortBit}
use Rattle.rsfq_ids.specs.declared.circuit.Driver.{Driver}
use Rattle.rsfq_ids.specs.declared.circuit.Driver.TheVariants as driver
use Rattle.rsfq_ids.specs.declared.circuit.Reader.{Reader}
use Rattle.rsfq_ids.specs.declared.circuit.Reader.TheVariants as reader
use Rattle.rsfq_ids.specs.WellFormed.{output_pins, reading_pins}
use Rattle.bind_forms.specs.declared.bound.BoundPort.{BoundPort}
use Rattle.bind_forms.specs.declared.bound.BoundWire.{BoundWire}
use Rattle.bind_forms.specs.declared.bound.BoundInstance.{BoundInstance}
use Rattle.bind_forms.specs.declared.bound.BoundModule.{BoundModule}
use Rattle.bind_forms.specs.declared.bound.Bound.{Bound}
use Rattle.bind_forms.specs.Bits.{width_of, bit_name, bit_names}
use Rattle.bind_forms.specs.WellFormed.{IsBound, port_wire}
use Rattle.flat_places.specs.Hierarchy.{instances_of, wires_of, IsDeeper}
use Rattle.flat_places.specs.Circuit.{port_bits}
use Rattle.flat_places.specs.Drives.{IsPortAt, IsPinAt, StartsAt, ReadsAt, reading_pins_of}
use Rattle.flat_places.specs.Names.{cell_name}
use Rattle.flat_places.specs.Hops.{ports_of}
use Rattle.flat_places.specs.Places.{Place, CellAt, own_places, places_by, places_in, cells_of, port_places}
use Rattle.flat_places.proofs.Joined.{joined_got, got_left, got_right, map_got, got_map, range_got, mapped_from}
use Rattle.flat_places.proofs.Numbered.{number_is, places_more}
use Rattle.flat_places.specs.Pieces.{Piece, reading_of}
use Rattle.flat_places.specs.Numbered.{number_from, pin_place, pin_numbers, from_none, outputs_of}
use Rattle.flat_places.specs.Whole.{number_of, whole_piece, IsShapeOf, inputs_in, outputs_in, starts_of, reads_of, IsNumberAt, AreStarts, AreReads}
use Rattle.flat_places.proofs.Lists.{numbered_map}
use Rattle.flat_places.proofs.Unfolded.{are_fit}
use Rattle.flat_places.proofs.Pinned.{inside_pins, reads_pinned, outputs_pinned}
use Rattle.flat_places.proofs.Pins.{pin_sound, pin_complete}

-- ---- lists side by side

pub zip_append : {A B : Type 0} (R : A → B → Type 0) (xs us : List A) (ys vs : List B) → AllZip R xs ys → AllZip R us vs → AllZip R (xs ++ us) (ys ++ vs)
zip_append R [] us [] vs a b = b
zip_append R [] us (y ∷ ys) vs a b = absurd a
zip_append R (x ∷ xs) us [] vs a b = absurd a
zip_append R (x ∷ xs) us (y ∷ ys) vs a b = (a.0, zip_append R xs us ys vs a.1 b)

-- items that numbered items and items come to, side by side
pub zip_flat : {A X Y : Type 0} (R : X → Y → Type 0) (f : ℕ × A → List X) (g : A → List Y) (n : ℕ) (xs : List A) → ((i : ℕ) (x : A) → slice_get xs i ≡ Some x → AllZip R (f (n + i, x)) (g x)) →
    AllZip R (flat_map f (enumerate_from n xs)) (flat_map g xs)
zip_flat R f g n [] each = tt
zip_flat {A} {X} {Y} R f g n (x ∷ xs) each =
    let z : n + 0 ≡ n = omega arith in
    zip_append R (f (n, x)) (flat_map f (enumerate_from (n + 1) xs)) (g x) (flat_map g xs)
    (subst (λ (k : ℕ). AllZip R (f (k, x)) (g x)) z (each 0 x refl))
    (zip_flat R f g (n + 1) xs (λ i y e. let k : n + suc i ≡ n + 1 + i = omega arith in subst (λ (m : ℕ). AllZip R (f (m, y)) (g y)) k (each (suc i) y e)))

pub zip_ranges : {X Y : Type 0} (R : X → Y → Type 0) (f : ℕ → X) (g : ℕ → Y) (a b n : ℕ) → ((j : ℕ) → R (f (a + j)) (g (b + j))) → AllZip R (map f (range_with_len a n)) (map g (range_with_len b n))
zip_ranges R f g a b zero each = tt
zip_ranges R f g a b (suc n) each =
    let x : a + 0 ≡ a = omega arith in
    let y : b + 0 ≡ b = omega arith in (
      subst (λ (k : ℕ). R (f k) (g b)) x (subst (λ (k : ℕ). R (f (a + 0)) (g k)) y (each 0)),
      zip_ranges R f g (a + 1) (b + 1) n (λ j.
          let p : a + suc j ≡ a + 1 + j = omega arith in
          let q : b + suc j ≡ b + 1 + j = omega arith in
          subst (λ (k : ℕ). R (f k) (g (b + 1 + j))) p (subst (λ (k : ℕ). R (f (a + suc j)) (g k)) q (each (suc j)))),
    )

-- ---- ports

-- the places of a port's bits
abbrev pub bits_at : ℕ → Option (ℕ × ℕ) → List Place
bits_at wire range = map (λ bit. record { path = []; wire = wire; bit = bit }) (range_with_len 0 (width_of range))

-- the place of a port bit, and its port
pub port_bit_at : (n : ℕ) (ports : List BoundPort) (k : ℕ) (one : PortBit) → slice_get (port_bits ports) k ≡ Some one →
    (place : Place) × (declared : BoundPort) × (i : ℕ) × (slice_get (flat_map (λ ((wire, port) : ℕ × BoundPort). bits_at wire port.range) (enumerate_from n ports)) k ≡ Some place) × (place.wire ≡ n + i) × (slice_get ports i ≡ Some declared) × (declared.output ≡ one.output)
port_bit_at n [] k one e = absurd cc
port_bit_at n (p ∷ ports) k one e = elim (joined_got (map (λ (name : List ℕ). let b : PortBit = record { name = name; output = p.output } in b) (bit_names p.name p.range)) (port_bits ports) k one e) [
  | inl h ↦
      let m = map_got (λ (name : List ℕ). let b : PortBit = record { name = name; output = p.output } in b) (bit_names p.name p.range) k one h.1 in
      let b = map_got (bit_name p.name p.range) (range_with_len 0 (width_of p.range)) k m.0 m.1 in
      let r = range_got 0 (width_of p.range) k b.0 b.1 in (
        record { path = []; wire = n; bit = b.0 },
        p,
        0,
        got_left (bits_at n p.range) _ k (record { path = []; wire = n; bit = b.0 }) (got_map (λ (bit : ℕ). let q : Place = record { path = []; wire = n; bit = bit } in q) (range_with_len 0 (width_of p.range)) k b.0 b.1),
        omega arith,
        refl,
        ap (λ (b : PortBit). b.output) m.2,
      )
  | inr h ↦
      let r = port_bit_at (n + 1) ports h.0 one h.2 in
      let long : length (bits_at n p.range) ≡ width_of p.range = length-map-range_with_len (λ (bit : ℕ). let q : Place = record { path = []; wire = n; bit = bit } in q) 0 (width_of p.range) in
      let names : length (map (λ (name : List ℕ). let b : PortBit = record { name = name; output = p.output } in b) (bit_names p.name p.range)) ≡ width_of p.range =
      length-map (bit_names p.name p.range) (λ (name : List ℕ). let b : PortBit = record { name = name; output = p.output } in b) ∙ length-map-range_with_len (bit_name p.name p.range) 0 (width_of p.range) in
      let k_is : length (bits_at n p.range) + h.0 ≡ k = (let a = h.1 in omega (arith, long, names, a)) in (
        r.0,
        r.1,
        suc r.2,
        subst (λ (j : ℕ). slice_get (bits_at n p.range ++ flat_map (λ ((wire, port) : ℕ × BoundPort). bits_at wire port.range) (enumerate_from (n + 1) ports)) j ≡ Some r.0) k_is (got_right (bits_at n p.range) _ h.0 r.0 r.3),
        (let w = r.4 in omega (arith, w)),
        r.5,
        r.6,
      )
]

-- the port bit of a place of a port, and its port
pub place_bit_at : (n : ℕ) (ports : List BoundPort) (k : ℕ) (place : Place) → slice_get (flat_map (λ ((wire, port) : ℕ × BoundPort). bits_at wire port.range) (enumerate_from n ports)) k ≡ Some place →
    (one : PortBit) × (declared : BoundPort) × (i : ℕ) × (slice_get (port_bits ports) k ≡ Some one) × (place.wire ≡ n + i) × (slice_get ports i ≡ Some declared) × (declared.output ≡ one.output)
place_bit_at n [] k place e = absurd cc
place_bit_at n (p ∷ ports) k place e = elim (joined_got (bits_at n p.range) (flat_map (λ ((wire, port) : ℕ × BoundPort). bits_at wire port.range) (enumerate_from (n + 1) ports)) k place e) [
  | inl h ↦
      let m = map_got (λ (bit : ℕ). let q : Place = record { path = []; wire = n; bit = bit } in q) (range_with_len 0 (width_of p.range)) k place h.1 in
      let named = got_map (λ (name : List ℕ). let b : PortBit = record { name = name; output = p.output } in b) (bit_names p.name p.range) k (bit_name p.name p.range m.0) (got_map (bit_name p.name p.range) (range_with_len 0 (width_of p.range)) k m.0 m.1) in (
        record { name = bit_name p.name p.range m.0; output = p.output },
        p,
        0,
        got_left (map (λ (name : List ℕ). let b : PortBit = record { name = name; output = p.output } in b) (bit_names p.name p.range)) (port_bits ports) k (record { name = bit_name p.name p.range m.0; output = p.output }) named,
        (let w : n ≡ place.wire = ap (λ (q : Place). q.wire) m.2 in omega (arith, w)),
        refl,
        refl,
      )
  | inr h ↦
      let r = place_bit_at (n + 1) ports h.0 place h.2 in
      let long : length (bits_at n p.range) ≡ width_of p.range = length-map-range_with_len (λ (bit : ℕ). let q : Place = record { path = []; wire = n; bit = bit } in q) 0 (width_of p.range) in
      let bits = map (λ (name : List ℕ). let b : PortBit = record { name = name; output = p.output } in b) (bit_names p.name p.range) in
      let names : length bits ≡ width_of p.range = length-map (bit_names p.name p.range) (λ (name : List ℕ). let b : PortBit = record { name = name; output = p.output } in b) ∙ length-map-range_with_len (bit_name p.name p.range) 0 (width_of p.range) in
      let k_is : length bits + h.0 ≡ k = (let a = h.1 in omega (arith, long, names, a)) in
      (r.0, r.1, suc r.2, subst (λ (j : ℕ). slice_get (bits ++ port_bits ports) j ≡ Some r.0) k_is (got_right bits (port_bits ports) h.0 r.0 r.3), (let w = r.4 in omega (arith, w)), r.5, r.6)
]

-- the places of ports come first among those of wires that begin with them
ports_first : (n : ℕ) (ports : List BoundPort) (others : List BoundWire) (k : ℕ) (place : Place) → slice_get (flat_map (λ ((wire, port) : ℕ × BoundPort). bits_at wire port.range) (enumerate_from n ports)) k ≡ Some place →
    slice_get (flat_map (λ ((wire, declared) : ℕ × BoundWire). bits_at wire declared.range) (enumerate_from n (map port_wire ports ++ others))) k ≡ Some place
ports_first n [] others k place e = absurd cc
ports_first n (p ∷ ports) others k place e = elim (joined_got (bits_at n p.range) (flat_map (λ ((wire, port) : ℕ × BoundPort). bits_at wire port.range) (enumerate_from (n + 1) ports)) k place e) [
  | inl h ↦ got_left (bits_at n p.range) (flat_map (λ ((wire, declared) : ℕ × BoundWire). bits_at wire declared.range) (enumerate_from (n + 1) (map port_wire ports ++ others))) k place h.1
  | inr h ↦
      subst (λ (j : ℕ). slice_get (bits_at n p.range ++ flat_map (λ ((wire, declared) : ℕ × BoundWire). bits_at wire declared.range) (enumerate_from (n + 1) (map port_wire ports ++ others))) j ≡ Some place) (sym h.1)
      (got_right (bits_at n p.range) (flat_map (λ ((wire, declared) : ℕ × BoundWire). bits_at wire declared.range) (enumerate_from (n + 1) (map port_wire ports ++ others))) h.0 place (ports_first (n + 1) ports others h.0 place h.2))
]

-- the place of a port's bit is listed at its number in port order
pub port_listed : (table : CellTable) (bound : Bound) → IsBound table bound → (k : ℕ) (place : Place) → slice_get (port_places (ports_of bound bound.top)) k ≡ Some place → slice_get (places_in bound 64 bound.top) k ≡ Some place
port_listed table bound is k place e =
    let fit = are_fit table bound is bound.top in
    let own : slice_get (own_places (wires_of bound bound.top)) k ≡ Some place =
    subst (λ (ws : List BoundWire). slice_get (own_places ws) k ≡ Some place) (sym fit.wires) (ports_first 0 (ports_of bound bound.top) fit.others k place e) in
    subst (λ (ps : List Place). slice_get ps k ≡ Some place) (sym (places_more bound 63 bound.top))
    (got_left (own_places (wires_of bound bound.top)) (flat_map (λ ((instance, declared) : ℕ × BoundInstance). places_by (places_in bound 63) instance declared.kind) (enumerate_from 0 (instances_of bound bound.top))) k place own)

pub ports_at : (bound : Bound) (owner : BoundModule) → slice_get bound.modules bound.top ≡ Some owner → ports_of bound bound.top ≡ owner.ports
ports_at bound owner e = ap (λ (o : Option BoundModule). unwrap_or (option_map (λ (m : BoundModule). m.ports) o) []) e

-- the place of a port bit has the number of the bit
pub port_is_number : (table : CellTable) (bound : Bound) → IsBound table bound → (flat : Flat) → IsShapeOf bound flat → (n : ℕ) (one : PortBit) (output : Bool) → slice_get flat.ports n ≡ Some one → one.output ≡ output → IsNumberAt bound (IsPortAt bound n output) (Some n)
port_is_number table bound is flat shape n one output e d = record { found = found; placed = placed } where
  bits : slice_get (port_bits is.top.ports) n ≡ Some one
  bits = subst (λ (bs : List PortBit). slice_get bs n ≡ Some one) (shape.ports ∙ ap (λ (o : Option BoundModule). unwrap_or (option_map (λ (m : BoundModule). port_bits m.ports) o) []) is.top_there) e

  numbered : (owner : BoundModule) → slice_get bound.modules bound.top ≡ Some owner → (place : Place) → slice_get (port_places owner.ports) n ≡ Some place → n ≡ number_of bound place
  numbered owner there place f = number_is bound 64 bound.top n place (port_listed table bound is n place (subst (λ (ps : List BoundPort). slice_get (port_places ps) n ≡ Some place) (sym (ports_at bound owner there)) f))

  found : (number : ℕ) → Some n ≡ Some number → (place : Place) × IsPortAt bound n output place × (number ≡ number_of bound place)
  found number f =
      let r = port_bit_at 0 is.top.ports n one bits in
      let wire : r.2 ≡ r.0.wire = (let w = r.4 in omega (arith, w)) in (
        r.0,
        record {
          top = is.top;
          there = is.top_there;
          numbered = r.3;
          declared = r.1;
          listed = subst (λ (i : ℕ). slice_get is.top.ports i ≡ Some r.1) wire r.5;
          direction = r.6 ∙ d;
        },
        sym (same_Some n number f) ∙ numbered is.top is.top_there r.0 r.3,
      )

  placed : (place : Place) → IsPortAt bound n output place → Some n ≡ Some (number_of bound place)
  placed place p = ap Some (numbered p.top p.there place p.numbered)

numbered_got : {X : Type 0} (n : ℕ) (xs : List X) (k : ℕ) (p : ℕ × X) → slice_get (enumerate_from n xs) k ≡ Some p → slice_get xs k ≡ Some p.1 × (p.0 ≡ n + k)
numbered_got n [] k p e = absurd cc
numbered_got n (x ∷ xs) zero p e = let s = same_Some (n, x) p e in (ap (λ q. Some q.1) s, (let a : n ≡ p.0 = ap (λ q. q.0) s in omega (arith, a)))
numbered_got n (x ∷ xs) (suc k) p e = let r = numbered_got (n + 1) xs k p e in (r.0, (let a = r.1 in omega (arith, a)))

inputs_zip : (R : Driver → Option ℕ → Type 0) (ps : List (ℕ × PortBit)) → ((k : ℕ) (p : ℕ × PortBit) → slice_get ps k ≡ Some p → p.1.output ≡ false → R (driver.Port p.0) (Some p.0)) →
    AllZip R (flat_map (λ ((n, port) : ℕ × PortBit). cond port.output [] (driver.Port n ∷ [])) ps) (map Some (flat_map (λ ((n, port) : ℕ × PortBit). cond port.output [] (n ∷ [])) ps))
inputs_zip R [] each = tt
inputs_zip R (p ∷ ps) each = go (inputs_zip R ps (λ k q e. each (suc k) q e)) p.1.output refl where
  go : AllZip R (flat_map (λ ((n, port) : ℕ × PortBit). cond port.output [] (driver.Port n ∷ [])) ps) (map Some (flat_map (λ ((n, port) : ℕ × PortBit). cond port.output [] (n ∷ [])) ps)) →
      (b : Bool) → p.1.output ≡ b → AllZip R (cond b [] (driver.Port p.0 ∷ []) ++ flat_map (λ ((n, port) : ℕ × PortBit). cond port.output [] (driver.Port n ∷ [])) ps) (map Some (cond b [] (p.0 ∷ []) ++ flat_map (λ ((n, port) : ℕ × PortBit). cond port.output [] (n ∷ [])) ps))
  go rest true f = rest
  go rest false f = (each 0 p refl f, rest)

outputs_zip : (R : Reader → Option ℕ → Type 0) (ps : List (ℕ × PortBit)) → ((k : ℕ) (p : ℕ × PortBit) → slice_get ps k ≡ Some p → p.1.output ≡ true → R (reader.Port p.0) (Some p.0)) →
    AllZip R (flat_map (λ ((n, port) : ℕ × PortBit). cond port.output (reader.Port n ∷ []) []) ps) (map Some (flat_map (λ ((n, port) : ℕ × PortBit). cond port.output (n ∷ []) []) ps))
outputs_zip R [] each = tt
outputs_zip R (p ∷ ps) each = go (outputs_zip R ps (λ k q e. each (suc k) q e)) p.1.output refl where
  go : AllZip R (flat_map (λ ((n, port) : ℕ × PortBit). cond port.output (reader.Port n ∷ []) []) ps) (map Some (flat_map (λ ((n, port) : ℕ × PortBit). cond port.output (n ∷ []) []) ps)) →
      (b : Bool) → p.1.output ≡ b → AllZip R (cond b (reader.Port p.0 ∷ []) [] ++ flat_map (λ ((n, port) : ℕ × PortBit). cond port.output (reader.Port n ∷ []) []) ps) (map Some (cond b (p.0 ∷ []) [] ++ flat_map (λ ((n, port) : ℕ × PortBit). cond port.output (n ∷ []) []) ps))
  go rest false f = rest
  go rest true f = (each 0 p refl f, rest)

-- ---- cells

pin_is_number : (table : CellTable) (bound : Bound) → IsBound table bound → (cell port : ℕ) (found : CellAt) → slice_get (cells_of bound) cell ≡ Some found →
    IsNumberAt bound (IsPinAt bound cell port) (option_map (number_from bound 64 bound.top 0) (pin_place bound bound.top found.path port))
pin_is_number table bound is cell port one e = record { found = found; placed = placed } where
  found : (number : ℕ) → option_map (number_from bound 64 bound.top 0) (pin_place bound bound.top one.path port) ≡ Some number → (place : Place) × IsPinAt bound cell port place × (number ≡ number_of bound place)
  found number f =
      let r = mapped_from (number_from bound 64 bound.top 0) (pin_place bound bound.top one.path port) number f in
      (r.0, pin_sound table bound is cell port one r.0 e r.1, (let n : number_from bound 64 bound.top 0 r.0 ≡ number = r.2 in omega (arith, n)))

  placed : (place : Place) → IsPinAt bound cell port place → option_map (number_from bound 64 bound.top 0) (pin_place bound bound.top one.path port) ≡ Some (number_of bound place)
  placed place p = ap (option_map (number_from bound 64 bound.top 0)) (pin_complete table bound is cell port one place e p) ∙ ap Some (omega arith)

outputs_zip_cells : (table : CellTable) (bound : Bound) → IsBound table bound →
    AllZip (λ driver at. IsNumberAt bound (StartsAt table bound driver) at)
    (flat_map (λ ((n, cell) : ℕ × CellAt). map (driver.Out n) (range_with_len 0 (unwrap_or (option_map (λ (row : CellRow). length row.outputs) (slice_get table.rows cell.row)) 0))) (enumerate_from 0 (cells_of bound)))
    (flat_map (pin_numbers table bound 64 bound.top 0 reading_of outputs_of) (cells_of bound))
outputs_zip_cells table bound is = zip_flat (λ driver at. IsNumberAt bound (StartsAt table bound driver) at) (λ ((n, cell) : ℕ × CellAt). map (driver.Out n) (range_with_len 0 (unwrap_or (option_map (λ (row : CellRow). length row.outputs) (slice_get table.rows cell.row)) 0)))
    (pin_numbers table bound 64 bound.top 0 reading_of outputs_of) 0 (cells_of bound) (λ i cell e. one i cell e) where
      one : (i : ℕ) (cell : CellAt) → slice_get (cells_of bound) i ≡ Some cell → AllZip (λ driver at. IsNumberAt bound (StartsAt table bound driver) at)
          (map (driver.Out (0 + i)) (range_with_len 0 (unwrap_or (option_map (λ (row : CellRow). length row.outputs) (slice_get table.rows cell.row)) 0))) (pin_numbers table bound 64 bound.top 0 reading_of outputs_of cell)
      one i cell e = by_row (slice_get table.rows cell.row) refl where
        by_row : (o : Option CellRow) → slice_get table.rows cell.row ≡ o → AllZip (λ driver at. IsNumberAt bound (StartsAt table bound driver) at)
            (map (driver.Out (0 + i)) (range_with_len 0 (unwrap_or (option_map (λ (row : CellRow). length row.outputs) o) 0)))
            (unwrap_or (option_map (λ (row : CellRow). map (λ port. option_map (number_from bound 64 bound.top 0) (pin_place bound bound.top cell.path port)) (range_with_len (reading_of row) (outputs_of row))) o) [])
        by_row None f = tt
        by_row (Some row) f =
            let z : 0 + i ≡ i = omega arith in
            let reading : reading_of row ≡ reading_pins_of table bound i = sym (ap (λ (o : Option CellAt). unwrap_or (option_map (λ (row : CellRow). length row.inputs + length (option_to_list row.clock)) (option_and_then (λ (found : CellAt). slice_get table.rows found.row) o)) 0) e
            ∙ ap (λ (o : Option CellRow). unwrap_or (option_map (λ (row : CellRow). length row.inputs + length (option_to_list row.clock)) o) 0) f) in
            zip_ranges (λ driver at. IsNumberAt bound (StartsAt table bound driver) at) (driver.Out (0 + i)) (λ port. option_map (number_from bound 64 bound.top 0) (pin_place bound bound.top cell.path port)) 0 (reading_of row) (length row.outputs)
            (λ j. let k : reading_of row + j ≡ reading_pins_of table bound i + (0 + j) = omega (arith, reading) in
            subst (λ (m : ℕ). IsNumberAt bound (IsPinAt bound m (reading_pins_of table bound m + (0 + j))) (option_map (number_from bound 64 bound.top 0) (pin_place bound bound.top cell.path (reading_of row + j)))) (sym z)
            (subst (λ (p : ℕ). IsNumberAt bound (IsPinAt bound i p) (option_map (number_from bound 64 bound.top 0) (pin_place bound bound.top cell.path (reading_of row + j)))) k (pin_is_number table bound is i (reading_of row + j) cell e)))

reads_zip_cells : (table : CellTable) (bound : Bound) → IsBound table bound →
    AllZip (λ reader at. IsNumberAt bound (ReadsAt bound reader) at)
    (flat_map (λ ((n, cell) : ℕ × CellAt). map (reader.Pin n) (range_with_len 0 (unwrap_or (option_map (λ (row : CellRow). length row.inputs + length (option_to_list row.clock)) (slice_get table.rows cell.row)) 0))) (enumerate_from 0 (cells_of bound)))
    (flat_map (pin_numbers table bound 64 bound.top 0 from_none reading_of) (cells_of bound))
reads_zip_cells table bound is = zip_flat (λ reader at. IsNumberAt bound (ReadsAt bound reader) at) (λ ((n, cell) : ℕ × CellAt). map (reader.Pin n) (range_with_len 0 (unwrap_or (option_map (λ (row : CellRow). length row.inputs + length (option_to_list row.clock)) (slice_get table.rows cell.row)) 0)))
    (pin_numbers table bound 64 bound.top 0 from_none reading_of) 0 (cells_of bound) (λ i cell e. one i cell e) where
      one : (i : ℕ) (cell : CellAt) → slice_get (cells_of bound) i ≡ Some cell → AllZip (λ reader at. IsNumberAt bound (ReadsAt bound reader) at)
          (map (reader.Pin (0 + i)) (range_with_len 0 (unwrap_or (option_map (λ (row : CellRow). length row.inputs + length (option_to_list row.clock)) (slice_get table.rows cell.row)) 0))) (pin_numbers table bound 64 bound.top 0 from_none reading_of cell)
      one i cell e = by_row (slice_get table.rows cell.row) where
        by_row : (o : Option CellRow) → AllZip (λ reader at. IsNumberAt bound (ReadsAt bound reader) at)
            (map (reader.Pin (0 + i)) (range_with_len 0 (unwrap_or (option_map (λ (row : CellRow). length row.inputs + length (option_to_list row.clock)) o) 0)))
            (unwrap_or (option_map (λ (row : CellRow). map (λ port. option_map (number_from bound 64 bound.top 0) (pin_place bound bound.top cell.path port)) (range_with_len (from_none row) (reading_of row))) o) [])
        by_row None = tt
        by_row (Some row) =
            let z : 0 + i ≡ i = omega arith in
            zip_ranges (λ reader at. IsNumberAt bound (ReadsAt bound reader) at) (reader.Pin (0 + i)) (λ port. option_map (number_from bound 64 bound.top 0) (pin_place bound bound.top cell.path port)) 0 0 (reading_of row)
            (λ j. subst (λ (m : ℕ). IsNumberAt bound (IsPinAt bound m (0 + j)) (option_map (number_from bound 64 bound.top 0) (pin_place bound bound.top cell.path (0 + j)))) (sym z) (pin_is_number table bound is i (0 + j) cell e))

-- items of numbered cells, as those that are printed come to them
printed_flat : {X : Type 0} (bound : Bound) (f : ℕ × FlatCell → List X) → flat_map f (enumerate_from 0 (map (λ cell. record { path = cell_name bound cell; row = cell.row }) (cells_of bound)))
    ≡ flat_map (λ (p : ℕ × CellAt). f (p.0, record { path = cell_name bound p.1; row = p.1.row })) (enumerate_from 0 (cells_of bound))
printed_flat bound f =
    ap (flat_map f) (numbered_map (λ (cell : CellAt). let c : FlatCell = record { path = cell_name bound cell; row = cell.row } in c) 0 (cells_of bound))
    ∙ flat_map-map f (λ (p : ℕ × CellAt). let q : ℕ × FlatCell = (p.0, record { path = cell_name bound p.1; row = p.1.row }) in q) (enumerate_from 0 (cells_of bound))

-- ---- both ends

pub are_starts : (table : CellTable) (bound : Bound) → IsBound table bound → (IsDeeper bound 64 bound.top → ⊥) → (flat : Flat) → IsShapeOf bound flat → AreStarts table bound flat (starts_of flat.ports (whole_piece table bound))
are_starts table bound is deep flat shape =
    let R = λ (one : Driver) (at : Option ℕ). IsNumberAt bound (StartsAt table bound one) at in
    let f = λ (p : ℕ × FlatCell). map (driver.Out p.0) (range_with_len 0 (output_pins table p.1)) in
    let cells : flat_map (λ (p : ℕ × CellAt). f (p.0, record { path = cell_name bound p.1; row = p.1.row })) (enumerate_from 0 (cells_of bound)) ≡ flat_map f (enumerate_from 0 flat.cells) =
    sym (ap (λ (cs : List FlatCell). flat_map f (enumerate_from 0 cs)) shape.cells ∙ printed_flat bound f) in
    let pins : flat_map (pin_numbers table bound 64 bound.top 0 reading_of outputs_of) (cells_of bound) ≡ (whole_piece table bound).outputs = sym (inside_pins table bound is (λ (p : Piece). p.outputs) reading_of outputs_of outputs_pinned 64 bound.top deep None 0) in
    zip_append R (flat_map (λ ((n, port) : ℕ × PortBit). cond port.output [] (driver.Port n ∷ [])) (enumerate_from 0 flat.ports)) (flat_map f (enumerate_from 0 flat.cells)) (map Some (inputs_in flat.ports)) (whole_piece table bound).outputs
    (inputs_zip R (enumerate_from 0 flat.ports) (λ k p e d. let n = numbered_got 0 flat.ports k p e in
    let z : k ≡ p.0 = (let a = n.1 in omega (arith, a)) in
    port_is_number table bound is flat shape p.0 p.1 false (subst (λ (m : ℕ). slice_get flat.ports m ≡ Some p.1) z n.0) d))
    (subst (λ (ds : List Driver). AllZip R ds (whole_piece table bound).outputs) cells (subst (λ (ns : List (Option ℕ)). AllZip R (flat_map (λ (p : ℕ × CellAt). f (p.0, record { path = cell_name bound p.1; row = p.1.row })) (enumerate_from 0 (cells_of bound))) ns) pins (outputs_zip_cells table bound is)))

pub are_reads : (table : CellTable) (bound : Bound) → IsBound table bound → (IsDeeper bound 64 bound.top → ⊥) → (flat : Flat) → IsShapeOf bound flat → AreReads table bound flat (reads_of flat.ports (whole_piece table bound))
are_reads table bound is deep flat shape =
    let R = λ (one : Reader) (at : Option ℕ). IsNumberAt bound (ReadsAt bound one) at in
    let f = λ (p : ℕ × FlatCell). map (reader.Pin p.0) (range_with_len 0 (reading_pins table p.1)) in
    let cells : flat_map (λ (p : ℕ × CellAt). f (p.0, record { path = cell_name bound p.1; row = p.1.row })) (enumerate_from 0 (cells_of bound)) ≡ flat_map f (enumerate_from 0 flat.cells) =
    sym (ap (λ (cs : List FlatCell). flat_map f (enumerate_from 0 cs)) shape.cells ∙ printed_flat bound f) in
    let pins : flat_map (pin_numbers table bound 64 bound.top 0 from_none reading_of) (cells_of bound) ≡ (whole_piece table bound).reads = sym (inside_pins table bound is (λ (p : Piece). p.reads) from_none reading_of reads_pinned 64 bound.top deep None 0) in
    zip_append R (flat_map f (enumerate_from 0 flat.cells)) (flat_map (λ ((n, port) : ℕ × PortBit). cond port.output (reader.Port n ∷ []) []) (enumerate_from 0 flat.ports)) (whole_piece table bound).reads (map Some (outputs_in flat.ports))
    (subst (λ (ds : List Reader). AllZip R ds (whole_piece table bound).reads) cells (subst (λ (ns : List (Option ℕ)). AllZip R (flat_map (λ (p : ℕ × CellAt). f (p.0, record { path = cell_name bound p.1; row = p.1.row })) (enumerate_from 0 (cells_of bound))) ns) pins (reads_zip_cells table bound is)))
    (outputs_zip R (enumerate_from 0 flat.ports) (λ k p e d. let n = numbered_got 0 flat.ports k p e in
    let z : k ≡ p.0 = (let a = n.1 in omega (arith, a)) in
    port_is_number table bound is flat shape p.0 p.1 true (subst (λ (m : ℕ). slice_get flat.ports m ≡ Some p.1) z n.0) d))
