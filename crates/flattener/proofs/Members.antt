-- The drivers and readers of a circuit are of its ports and cells.
use Rattle.std.proofs.Common.{◌≡◌, ◌+◌, ◌*◌, ◌<◌, ◌≤◌, ℕ, zero, suc, Bool, true, false, cond, List, [], ◌∷◌, ◌++◌, length, Option, Some, None, inl, inr, ◌⊎◌, refl, ap, subst, arith, length-append}
use Rattle.std.specs.Prelude.{slice_get, unwrap_or, option_to_list}
use Rattle.std.specs.Option.{option_map}
use Rattle.std.specs.List.{flat_map, enumerate_from, range_with_len}
use Rattle.std.proofs.lemmas.List.FromFn.{length-map-range_with_len}
use Rattle.std.proofs.lemmas.Option.{same_Some, slice_get_within}
use Rattle.rsfq_ids.specs.declared.table.CellTable.{CellTable}
use Rattle.rsfq_ids.specs.declared.table.CellRow.{CellRow}
use Rattle.rsfq_ids.specs.declared.table.Kind.{Kind}
use Rattle.rsfq_ids.specs.declared.table.Kind.TheVariants.{Jtl, Split, Merge, Gate}
use Rattle.rsfq_ids.specs.declared.circuit.FlatCell.{FlatCell}
use Rattle.rsfq_ids.specs.declared.circuit.PortBit.{PortBit}
use Rattle.rsfq_ids.specs.declared.circuit.Driver.{Driver}
use Rattle.rsfq_ids.specs.declared.circuit.Driver.TheVariants as driver
use Rattle.rsfq_ids.specs.declared.circuit.Reader.{Reader}
use Rattle.rsfq_ids.specs.declared.circuit.Reader.TheVariants as reader
use Rattle.rsfq_ids.specs.WellFormed.{IsTable, IsRow, FitsKind, output_pins, reading_pins, drivers_of, readers_of}
use Rattle.flattener.specs.Ends.{bare, HasDriver, HasReader, input_driver, output_reader, cell_drivers, cell_readers}
use Rattle.flat_places.proofs.Joined.{all_got, map_got}

-- ---- lists

joined_got : {X : Type 0} (xs ys : List X) (k : ℕ) (x : X) → slice_get (xs ++ ys) k ≡ Some x → (slice_get xs k ≡ Some x) ⊎ ((j : ℕ) × (slice_get ys j ≡ Some x))
joined_got [] ys k x e = inr (k, e)
joined_got (z ∷ xs) ys zero x e = inl e
joined_got (z ∷ xs) ys (suc k) x e = joined_got xs ys k x e

-- an item of the list that numbered items come to, comes from one of them
pub numbered_got : {X Y : Type 0} (f : ℕ × X → List Y) (n : ℕ) (xs : List X) (k : ℕ) (y : Y) → slice_get (flat_map f (enumerate_from n xs)) k ≡ Some y → (i : ℕ) × (x : X) × (j : ℕ) × (slice_get xs i ≡ Some x) × (slice_get (f (n + i, x)) j ≡ Some y)
numbered_got f n [] k y e = absurd cc
numbered_got {X} {Y} f n (x ∷ xs) k y e = elim (joined_got (f (n, x)) (flat_map f (enumerate_from (n + 1) xs)) k y e) [
  | inl h ↦ (let z : n ≡ n + 0 = omega arith in (0, x, k, refl, subst (λ (m : ℕ). slice_get (f (m, x)) k ≡ Some y) z h))
  | inr h ↦
      let r = numbered_got f (n + 1) xs h.0 y h.1 in
      let z : n + 1 + r.0 ≡ n + suc r.0 = omega arith in
      (suc r.0, r.1, r.2, r.3, subst (λ (m : ℕ). slice_get (f (m, r.1)) r.2 ≡ Some y) z r.4)
]

range_got : (a n k x : ℕ) → slice_get (range_with_len a n) k ≡ Some x → x < a + n
range_got a zero k x e = absurd cc
range_got a (suc n) zero x e = let same = same_Some a x e in omega (arith, same)
range_got a (suc n) (suc k) x e = let h = range_got (a + 1) n k x e in omega (arith, h)

-- ---- drivers

input_is_port : (ports : List PortBit) (n : ℕ) (port : PortBit) (j : ℕ) (from : Driver) → slice_get (input_driver (n, port)) j ≡ Some from → n < length ports → (table : CellTable) (cells : List FlatCell) → HasDriver table ports cells from
input_is_port ports n port j from e low table cells = go port.output j e where
  go : (output : Bool) (j : ℕ) → slice_get (cond output [] (driver.Port n ∷ [])) j ≡ Some from → HasDriver table ports cells from
  go true j e = absurd cc
  go false zero e = subst (HasDriver table ports cells) (same_Some (driver.Port n) from e) low
  go false (suc j) e = absurd cc

row_of : (table : CellTable) (row : ℕ) → (slice_get table.rows row ≡ None) ⊎ ((found : CellRow) × (slice_get table.rows row ≡ Some found))
row_of table row = go (slice_get table.rows row) refl where
  go : (o : Option CellRow) → slice_get table.rows row ≡ o → (slice_get table.rows row ≡ None) ⊎ ((found : CellRow) × (slice_get table.rows row ≡ Some found))
  go None e = inl e
  go (Some found) e = inr (found, e)

output_is_pin : (table : CellTable) (ports : List PortBit) (cells : List FlatCell) (n : ℕ) (cell : FlatCell) (j : ℕ) (from : Driver) → slice_get cells n ≡ Some cell → slice_get (cell_drivers table (n, cell)) j ≡ Some from → HasDriver table ports cells from
output_is_pin table ports cells n cell j from there e =
    let m = map_got (driver.Out n) (range_with_len 0 (output_pins table cell)) j from e in
    let low = range_got 0 (output_pins table cell) j m.0 m.1 in
    subst (HasDriver table ports cells) m.2 (elim (row_of table cell.row) [
      | inl none ↦ (let no : output_pins table cell ≡ 0 = ap (λ (o : Option CellRow). unwrap_or (option_map (λ (row : CellRow). length row.outputs) o) 0) none in absurd (omega (arith, low, no)))
      | inr r ↦ (let count : output_pins table cell ≡ length (r.0).outputs = ap (λ (o : Option CellRow). unwrap_or (option_map (λ (row : CellRow). length row.outputs) o) 0) r.1 in (cell, r.0, there, r.1, omega (arith, low, count)))
    ])

pub driver_there : (table : CellTable) (ports : List PortBit) (cells : List FlatCell) (net : ℕ) (from : Driver) → slice_get (drivers_of table (bare ports cells)) net ≡ Some from → HasDriver table ports cells from
driver_there table ports cells net from e = elim (joined_got (flat_map input_driver (enumerate_from 0 ports)) (flat_map (cell_drivers table) (enumerate_from 0 cells)) net from e) [
  | inl h ↦ (let r = numbered_got input_driver 0 ports net from h in let low = slice_get_within ports r.0 r.1 r.3 in input_is_port ports (0 + r.0) r.1 r.2 from r.4 (omega arith) table cells)
  | inr h ↦ (let r = numbered_got (cell_drivers table) 0 cells h.0 from h.1 in let z : r.0 ≡ 0 + r.0 = omega arith in output_is_pin table ports cells (0 + r.0) r.1 r.2 from (subst (λ (n : ℕ). slice_get cells n ≡ Some r.1) z r.3) r.4)
]

-- ---- readers

output_is_port : (ports : List PortBit) (n : ℕ) (port : PortBit) (j : ℕ) (by : Reader) → slice_get (output_reader (n, port)) j ≡ Some by → n < length ports → (table : CellTable) (cells : List FlatCell) → HasReader table ports cells by
output_is_port ports n port j by e low table cells = go port.output j e where
  go : (output : Bool) (j : ℕ) → slice_get (cond output (reader.Port n ∷ []) []) j ≡ Some by → HasReader table ports cells by
  go false j e = absurd cc
  go true zero e = subst (HasReader table ports cells) (same_Some (reader.Port n) by e) low
  go true (suc j) e = absurd cc

reading_is_pin : (table : CellTable) (ports : List PortBit) (cells : List FlatCell) (n : ℕ) (cell : FlatCell) (j : ℕ) (by : Reader) → slice_get cells n ≡ Some cell → slice_get (cell_readers table (n, cell)) j ≡ Some by → HasReader table ports cells by
reading_is_pin table ports cells n cell j by there e =
    let m = map_got (reader.Pin n) (range_with_len 0 (reading_pins table cell)) j by e in
    let low = range_got 0 (reading_pins table cell) j m.0 m.1 in
    subst (HasReader table ports cells) m.2 (elim (row_of table cell.row) [
      | inl none ↦ (let no : reading_pins table cell ≡ 0 = ap (λ (o : Option CellRow). unwrap_or (option_map (λ (row : CellRow). length row.inputs + length (option_to_list row.clock)) o) 0) none in absurd (omega (arith, low, no)))
      | inr r ↦ (
          let count : reading_pins table cell ≡ length (r.0).inputs + length (option_to_list (r.0).clock) = ap (λ (o : Option CellRow). unwrap_or (option_map (λ (row : CellRow). length row.inputs + length (option_to_list row.clock)) o) 0) r.1 in
          let both = length-append (r.0).inputs (option_to_list (r.0).clock) in
          (cell, r.0, there, r.1, omega (arith, low, count, both))
          )
    ])

pub reader_there : (table : CellTable) (ports : List PortBit) (cells : List FlatCell) (pin : ℕ) (by : Reader) → slice_get (readers_of table (bare ports cells)) pin ≡ Some by → HasReader table ports cells by
reader_there table ports cells pin by e = elim (joined_got (flat_map (cell_readers table) (enumerate_from 0 cells)) (flat_map output_reader (enumerate_from 0 ports)) pin by e) [
  | inl h ↦ (let r = numbered_got (cell_readers table) 0 cells pin by h in let z : r.0 ≡ 0 + r.0 = omega arith in reading_is_pin table ports cells (0 + r.0) r.1 r.2 by (subst (λ (n : ℕ). slice_get cells n ≡ Some r.1) z r.3) r.4)
  | inr h ↦ (let r = numbered_got output_reader 0 ports h.0 by h.1 in let low = slice_get_within ports r.0 r.1 r.3 in output_is_port ports (0 + r.0) r.1 r.2 by r.4 (omega arith) table cells)
]

-- ---- few readers

few_of_kind : (kind : Kind) (row : CellRow) → FitsKind kind row → length row.inputs + length (option_to_list row.clock) ≤ 4
few_of_kind Jtl row f = let a = f.0 in let c = ap (λ (o : Option (List ℕ)). length (option_to_list o)) f.1 in omega (arith, a, c)
few_of_kind Split row f = let a = f.0 in let c = ap (λ (o : Option (List ℕ)). length (option_to_list o)) f.1 in omega (arith, a, c)
few_of_kind Merge row f = let a = f.0 in let c = ap (λ (o : Option (List ℕ)). length (option_to_list o)) f.1 in omega (arith, a, c)
few_of_kind Gate row f = let a = f.1 in let c = f.2 in omega (arith, a, c)

few_reading : (table : CellTable) (cell : FlatCell) → IsTable table → reading_pins table cell ≤ 4
few_reading table cell t = elim (row_of table cell.row) [
  | inl none ↦ (let no : reading_pins table cell ≡ 0 = ap (λ (o : Option CellRow). unwrap_or (option_map (λ (row : CellRow). length row.inputs + length (option_to_list row.clock)) o) 0) none in omega (arith, no))
  | inr r ↦ (
      let count : reading_pins table cell ≡ length (r.0).inputs + length (option_to_list (r.0).clock) = ap (λ (o : Option CellRow). unwrap_or (option_map (λ (row : CellRow). length row.inputs + length (option_to_list row.clock)) o) 0) r.1 in
      let few = few_of_kind (r.0).kind r.0 (all_got IsRow table.rows cell.row r.0 t.rows r.1).kind in
      omega (arith, count, few)
      )
]

few_cell_readers : (table : CellTable) (n : ℕ) (cells : List FlatCell) → IsTable table → length (flat_map (cell_readers table) (enumerate_from n cells)) ≤ 4 * length cells
few_cell_readers table n [] t = omega arith
few_cell_readers table n (cell ∷ cells) t =
    let both = length-append (cell_readers table (n, cell)) (flat_map (cell_readers table) (enumerate_from (n + 1) cells)) in
    let here = length-map-range_with_len (reader.Pin n) 0 (reading_pins table cell) in
    let few = few_reading table cell t in
    let rest = few_cell_readers table (n + 1) cells t in
    omega (arith, both, here, few, rest)

few_output_readers : (n : ℕ) (ports : List PortBit) → length (flat_map output_reader (enumerate_from n ports)) ≤ length ports
few_output_readers n [] = omega arith
few_output_readers n (port ∷ ports) = go port.output (few_output_readers (n + 1) ports) where
  go : (output : Bool) → length (flat_map output_reader (enumerate_from (n + 1) ports)) ≤ length ports → length (cond output (reader.Port n ∷ []) [] ++ flat_map output_reader (enumerate_from (n + 1) ports)) ≤ length (port ∷ ports)
  go true rest = omega (arith, rest)
  go false rest = omega (arith, rest)

pub few_readers : (table : CellTable) (ports : List PortBit) (cells : List FlatCell) → IsTable table → length (readers_of table (bare ports cells)) ≤ 4 * length cells + length ports
few_readers table ports cells t =
    let both = length-append (flat_map (cell_readers table) (enumerate_from 0 cells)) (flat_map output_reader (enumerate_from 0 ports)) in
    let one = few_cell_readers table 0 cells t in
    let other = few_output_readers 0 ports in
    omega (arith, both, one, other)
