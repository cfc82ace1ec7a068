-- The pins of a circuit in order.
use Rattle.std.proofs.Common.{◌≡◌, ◌≢◌, inl, inr, ℕ, zero, suc, ◌+◌, ◌<◌, ◌≤◌, ◌↔◌, Bool, true, false, cond, List, [], ◌∷◌, ◌++◌, map, length, get_or, take, drop, refl, sym, ap, ◌∙◌, subst, arith, length-append}
use Rattle.std.proofs.lemmas.List.{append-nil, append_assoc, take_more, take-append-drop, get_or_append_left, length-take-le, length-map, get_or-map, get_or_default}
use Rattle.std.proofs.lemmas.List.Concat.{flat_map-append}
use Rattle.std.proofs.lemmas.List.Elements.{Contains-append_left, Contains-append_right, Contains-append_cases, filter-append}
use Rattle.std.proofs.lemmas.List.FromFn.{length-range_with_len, get_or-range_with_len, map-range_with_len_more}
use Rattle.std.proofs.lemmas.Bool.{cases_lt}
use Rattle.std.proofs.lemmas.Option.{slice_get_within, slice_get-get_or, get_or_from_slice_get, option_and_then_some}
use Rattle.std.specs.Prelude.{Option, Some, None, slice_get, unwrap_or, option_to_list}
use Rattle.std.specs.Option.{option_map, option_and_then}
use Rattle.std.specs.List.{All, AllPairs, AllZip, Contains, filter, flat_map, enumerate_from, range_with_len}
use Rattle.rsfq_ids.specs.declared.table.CellRow.{CellRow}
use Rattle.rsfq_ids.specs.declared.table.CellTable.{CellTable}
use Rattle.rsfq_ids.specs.declared.circuit.FlatCell.{FlatCell}
use Rattle.rsfq_ids.specs.declared.circuit.Pin.{Pin}
use Rattle.rsfq_ids.specs.declared.circuit.PortBit.{PortBit}
use Rattle.rsfq_ids.specs.declared.circuit.Bench.{Bench}
use Rattle.rsfq_ids.specs.declared.circuit.Reader.{Reader}
use Rattle.rsfq_ids.specs.declared.circuit.Reader.TheVariants as reader
use Rattle.rsfq_ids.specs.declared.circuit.Driver.TheVariants as driver
use Rattle.rsfq_ids.specs.Design.{Design}
use Rattle.rsfq_ids.specs.Circuit.{IsDrivenBy, IsPin, IsOf}
use Rattle.rsfq_ids.specs.WellFormed.{reading_pins}
use Rattle.net_graph.specs.Graph.{NetGraph, IsGraph, HasPinIn}
use Rattle.clock_tree.specs.Clock.{design_of}
use Rattle.lane_forest.specs.Paths.{pins_of, readers_along}
use Rattle.lane_forest.specs.Pins.{IsPinFor, readers_to, readers_at, AddsPins, AddsPinsOf, ArePinsOf, is_port, port_pins}
use Rattle.lane_forest.specs.Growth.{IsPinOrder}
use Rattle.lane_forest.proofs.Lists.{zip_append, zip_find, zip_found, zip_length, zip_at, zip_pairs, contains_flat, flat_contains, contains_mapped, map_contains, in_range, front_contains}
use Rattle.lane_forest.proofs.Joined.{pairs_append, pairs_map}

-- how many pins a cell of a row has
pub pins_count : (design : Design) (cell : ℕ) (row : CellRow) → IsOf design cell row → pins_of design cell ≡ length row.inputs + length (option_to_list row.clock)
pins_count design cell row of =
    option_and_then_some (λ (c : FlatCell). slice_get design.table.rows c.row) (slice_get design.flat.cells cell) row of
    (λ c is has. ap (λ (o : Option FlatCell). unwrap_or (option_map (reading_pins design.table) o) 0) is
    ∙ ap (λ (o : Option CellRow). unwrap_or (option_map (λ (r : CellRow). length r.inputs + length (option_to_list r.clock)) o) 0) has)

-- a number of pins of a cell that is right for each row that the cell has, and for none
none_counted : (design : Design) (cell count : ℕ) → ((pin : ℕ) → HasPinIn design.table design.flat cell pin ↔ (pin < count)) → ((row : CellRow) → IsOf design cell row → ⊥) → count ≡ 0
none_counted design cell zero has none = refl
none_counted design cell (suc count) has none = let pin = (has 0).1 (omega arith) in absurd (none pin.0 pin.1)

row_counted : (design : Design) (cell count : ℕ) (c : FlatCell) (o : Option CellRow) → slice_get design.flat.cells cell ≡ Some c → slice_get design.table.rows c.row ≡ o → ((pin : ℕ) → HasPinIn design.table design.flat cell pin ↔ (pin < count)) →
    ((row : CellRow) → IsOf design cell row → count ≡ length row.inputs + length (option_to_list row.clock)) → pins_of design cell ≡ count
row_counted design cell count c None here at has is =
    ap (λ (o : Option FlatCell). unwrap_or (option_map (reading_pins design.table) o) 0) here ∙ ap (λ (o : Option CellRow). unwrap_or (option_map (λ (r : CellRow). length r.inputs + length (option_to_list r.clock)) o) 0) at
    ∙ sym (none_counted design cell count has (λ row of. (let e : ◌≡◌ {A = Option CellRow} None (Some row) = sym (ap (λ (o : Option FlatCell). option_and_then (λ (x : FlatCell). slice_get design.table.rows x.row) o) here ∙ at) ∙ of in cc)))
row_counted design cell count c (Some row) here at has is =
    let of : IsOf design cell row = ap (λ (o : Option FlatCell). option_and_then (λ (x : FlatCell). slice_get design.table.rows x.row) o) here ∙ at in pins_count design cell row of ∙ sym (is row of)

cell_counted : (design : Design) (cell count : ℕ) (o : Option FlatCell) → slice_get design.flat.cells cell ≡ o → ((pin : ℕ) → HasPinIn design.table design.flat cell pin ↔ (pin < count)) →
    ((row : CellRow) → IsOf design cell row → count ≡ length row.inputs + length (option_to_list row.clock)) → pins_of design cell ≡ count
cell_counted design cell count None here has is =
    ap (λ (o : Option FlatCell). unwrap_or (option_map (reading_pins design.table) o) 0) here
    ∙ sym (none_counted design cell count has (λ row of. (let e : ◌≡◌ {A = Option CellRow} None (Some row) = sym (ap (λ (o : Option FlatCell). option_and_then (λ (x : FlatCell). slice_get design.table.rows x.row) o) here) ∙ of in cc)))
cell_counted design cell count (Some c) here has is = row_counted design cell count c (slice_get design.table.rows c.row) here refl has is

pub pins_counted : (design : Design) (cell count : ℕ) → ((pin : ℕ) → HasPinIn design.table design.flat cell pin ↔ (pin < count)) → ((row : CellRow) → IsOf design cell row → count ≡ length row.inputs + length (option_to_list row.clock)) → pins_of design cell ≡ count
pins_counted design cell count has is = cell_counted design cell count (slice_get design.flat.cells cell) refl has is

pub pins_none : (design : Design) (cell : ℕ) (old : List ℕ) → AddsPins design cell 0 old old
pins_none design cell old = record { more = []; added = sym (append-nil old); are = tt }

pub pins_more : (design : Design) (cell count pin net : ℕ) (old mid new : List ℕ) → AddsPins design cell count old mid → new ≡ mid ++ pin ∷ [] → IsPin design.flat pin (reader.Pin cell count) net → AddsPins design cell (count + 1) old new
pins_more design cell count pin net old mid new adds pushed is = record {
  more = adds.more ++ pin ∷ [];
  added = pushed ∙ ap (λ (xs : List ℕ). xs ++ pin ∷ []) adds.added ∙ append_assoc old adds.more (pin ∷ []);
  are = subst (λ (rs : List Reader). AllZip (IsPinFor design) rs (adds.more ++ pin ∷ [])) (sym (map-range_with_len_more (reader.Pin cell) 0 count count (omega arith)))
      (zip_append (IsPinFor design) (readers_to cell count) adds.more (reader.Pin cell count ∷ []) (pin ∷ []) adds.are ((net, is), tt));
}

pub cells_none : (design : Design) → ArePinsOf design [] []
cells_none design = record { are = tt }

pub cells_more : (design : Design) (order old new : List ℕ) (i cell : ℕ) → i < length order → get_or order i cell ≡ cell → ArePinsOf design (take i order) old → AddsPinsOf design cell old new → ArePinsOf design (take (i + 1) order) new
cells_more design order old new i cell l here are adds = record {
  are = subst (λ (cs : List ℕ). AllZip (IsPinFor design) (flat_map (readers_at design) cs) new) (sym (take_more order i cell l ∙ ap (λ (c : ℕ). take i order ++ c ∷ []) here))
      (subst (λ (rs : List Reader). AllZip (IsPinFor design) rs new) (sym (flat_map-append (readers_at design) (take i order) (cell ∷ []) ∙ ap (λ (rs : List Reader). flat_map (readers_at design) (take i order) ++ rs) (append-nil (readers_at design cell))))
      (subst (λ (ps : List ℕ). AllZip (IsPinFor design) (flat_map (readers_at design) (take i order) ++ readers_at design cell) ps) (sym adds.added) (zip_append (IsPinFor design) (flat_map (readers_at design) (take i order)) old (readers_at design cell) adds.more are.are adds.are)));
}

-- ---- output bits

port_step : (b c : Bool) (place at at' : ℕ) (xs ys : List ℕ) → at ≡ at' → xs ≡ ys ++ cond c (at ∷ []) [] → cond b (place ∷ xs) xs ≡ cond b (place ∷ ys) ys ++ cond c (at' ∷ []) []
port_step true c place at at' xs ys same e = ap (λ (zs : List ℕ). place ∷ zs) (e ∙ ap (λ (a : ℕ). ys ++ cond c (a ∷ []) []) same)
port_step false c place at at' xs ys same e = e ∙ ap (λ (a : ℕ). ys ++ cond c (a ∷ []) []) same

port_one : (b : Bool) (place at : ℕ) → place ≡ at → cond b (place ∷ []) [] ≡ cond b (at ∷ []) []
port_one b place at same = ap (λ (p : ℕ). cond b (p ∷ []) []) same

pub port_pins_push : (place : ℕ) (pins : List Pin) (pin : Pin) → port_pins place (pins ++ pin ∷ []) ≡ port_pins place pins ++ cond (is_port pin.reader) ((place + length pins) ∷ []) []
port_pins_push place [] pin = port_one (is_port pin.reader) place (place + 0) (omega arith)
port_pins_push place (first ∷ pins) pin =
    port_step (is_port first.reader) (is_port pin.reader) place (place + 1 + length pins) (place + length (first ∷ pins)) (port_pins (place + 1) (pins ++ pin ∷ [])) (port_pins (place + 1) pins) (omega arith) (port_pins_push (place + 1) pins pin)

-- one more pin that is looked at
pub port_pins_more : (pins : List Pin) (place at : ℕ) (pin : Pin) (old mid new : List ℕ) → place < length pins → get_or pins place pin ≡ pin → at ≡ place → mid ≡ old ++ port_pins 0 (take place pins) → new ≡ mid ++ cond (is_port pin.reader) (at ∷ []) [] → new ≡ old ++ port_pins 0 (take (place + 1) pins)
port_pins_more pins place at pin old mid new l here at_is were more =
    let n = length-take-le place pins (omega arith) in
    let front : take (place + 1) pins ≡ take place pins ++ pin ∷ [] = take_more pins place pin l ∙ ap (λ (p : Pin). take place pins ++ p ∷ []) here in
    more ∙ ap (λ (xs : List ℕ). xs ++ cond (is_port pin.reader) (at ∷ []) []) were ∙ append_assoc old (port_pins 0 (take place pins)) (cond (is_port pin.reader) (at ∷ []) [])
    ∙ ap (λ (a : ℕ). old ++ (port_pins 0 (take place pins) ++ cond (is_port pin.reader) (a ∷ []) [])) (let e : at ≡ 0 + length (take place pins) = omega arith in e)
    ∙ ap (λ (xs : List ℕ). old ++ xs) (sym (port_pins_push 0 (take place pins) pin)) ∙ ap (λ (ps : List Pin). old ++ port_pins 0 ps) (sym front)

port_in : (b : Bool) (place k : ℕ) (xs : List ℕ) → Contains xs k → Contains (cond b (place ∷ xs) xs) k
port_in true place k xs (i, l, e) = (suc i, omega arith, e)
port_in false place k xs has = has

port_first : (b : Bool) (place : ℕ) (xs : List ℕ) → b ≡ true → Contains (cond b (place ∷ xs) xs) place
port_first true place xs is = (0, omega arith, refl)
port_first false place xs is = cc

pub port_has : (place k at : ℕ) (pins : List Pin) (pin : Pin) → slice_get pins k ≡ Some pin → is_port pin.reader ≡ true → place + k ≡ at → Contains (port_pins place pins) at
port_has place k at [] pin has is e = cc
port_has place zero at (first ∷ pins) pin has is e =
    let same : first ≡ pin = cc in
    subst (λ (a : ℕ). Contains (port_pins place (first ∷ pins)) a) (let f : place ≡ at = omega arith in f) (port_first (is_port first.reader) place (port_pins (place + 1) pins) (ap (λ (p : Pin). is_port p.reader) same ∙ is))
port_has place (suc k) at (first ∷ pins) pin has is e = port_in (is_port first.reader) place at (port_pins (place + 1) pins) (port_has (place + 1) k at pins pin has is (omega arith))

above_from : (b : Bool) (place k : ℕ) (xs : List ℕ) → (Contains xs k → place + 1 ≤ k) → Contains (cond b (place ∷ xs) xs) k → place ≤ k
above_from true place k xs rest (zero, l, e) = let f : place ≡ k = e in omega arith
above_from true place k xs rest (suc i, l, e) = let m = rest (i, omega arith, e) in omega arith
above_from false place k xs rest has = let m = rest has in omega arith

port_above : (place : ℕ) (pins : List Pin) (k : ℕ) → Contains (port_pins place pins) k → place ≤ k
port_above place [] k (i, l, e) = absurd (omega arith)
port_above place (first ∷ pins) k has = above_from (is_port first.reader) place k (port_pins (place + 1) pins) (port_above (place + 1) pins k) has

only_one : (place x : ℕ) → Contains (place ∷ []) x → place ≡ x
only_one place x (zero, l, e) = e
only_one place x (suc k, l, e) = absurd (omega arith)

once_from : (b : Bool) (place : ℕ) (xs : List ℕ) → ((k : ℕ) → Contains xs k → place + 1 ≤ k) → AllPairs (λ one other. one ≢ other) xs → AllPairs (λ one other. one ≢ other) (cond b (place ∷ xs) xs)
once_from true place xs above once =
    pairs_append (λ one other. one ≢ other) (place ∷ []) xs (λ i j d l m. absurd (omega arith)) once
    (λ x y here has same. (let a = above y has in let f = only_one place x here in omega arith))
once_from false place xs above once = once

port_once : (place : ℕ) (pins : List Pin) → AllPairs (λ one other. one ≢ other) (port_pins place pins)
port_once place [] = λ i j d l m. absurd (omega arith)
port_once place (first ∷ pins) = once_from (is_port first.reader) place (port_pins (place + 1) pins) (port_above (place + 1) pins) (port_once (place + 1) pins)

none_first : (b : Bool) (r : Reader) (rs : List Reader) → b ≡ false → filter is_port rs ≡ [] → cond b (r ∷ filter is_port rs) (filter is_port rs) ≡ []
none_first true r rs is rest = cc
none_first false r rs is rest = rest

all_first : (b : Bool) (r : Reader) (rs : List Reader) → b ≡ true → filter is_port rs ≡ rs → cond b (r ∷ filter is_port rs) (filter is_port rs) ≡ r ∷ rs
all_first true r rs is rest = ap (λ (xs : List Reader). r ∷ xs) rest
all_first false r rs is rest = cc

filter_none : (rs : List Reader) → ((r : Reader) → Contains rs r → is_port r ≡ false) → filter is_port rs ≡ []
filter_none [] none = refl
filter_none (r ∷ rs) none = none_first (is_port r) r rs (none r (0, omega arith, refl)) (filter_none rs (λ x (k, l, e). none x (suc k, omega arith, e)))

filter_all : (rs : List Reader) → ((r : Reader) → Contains rs r → is_port r ≡ true) → filter is_port rs ≡ rs
filter_all [] all = refl
filter_all (r ∷ rs) all = all_first (is_port r) r rs (all r (0, omega arith, refl)) (filter_all rs (λ x (k, l, e). all x (suc k, omega arith, e)))

in_enumerate : {X : Type 0} (n : ℕ) (xs : List X) (x : ℕ × X) → Contains (enumerate_from n xs) x → (k : ℕ) × (n + k ≡ x.0) × (slice_get xs k ≡ Some x.1)
in_enumerate n [] x (k, l, e) = absurd (omega arith)
in_enumerate n (z ∷ xs) x (zero, l, e) = (0, (let f : n ≡ x.0 = ap (λ p. p.0) e in omega arith), ap (λ p. Some p.1) e)
in_enumerate n (z ∷ xs) x (suc k, l, e) = let r = in_enumerate (n + 1) xs x (k, omega arith, e) in (suc r.0, (let f = r.1 in omega arith), r.2)

port_only : (b : Bool) (n : ℕ) (r : Reader) → Contains (cond b (reader.Port n ∷ []) []) r → is_port r ≡ true
port_only true n r (zero, l, e) = ap is_port (sym e)
port_only true n r (suc k, l, e) = absurd (omega arith)
port_only false n r (k, l, e) = absurd (omega arith)

range_once : (a n : ℕ) → AllPairs (λ one other. one ≢ other) (range_with_len a n)
range_once a n i j d l m same =
    let c = length-range_with_len a n in
    let x = get_or-range_with_len a n i d (omega arith) in
    let y = get_or-range_with_len a n j d (omega arith) in omega arith

-- the readers of output bits, by their ports
abbrev pub port_readers : List PortBit → List Reader
port_readers ports = flat_map (λ (n, port). cond port.output (reader.Port n ∷ []) []) (enumerate_from 0 ports)

-- the readers of cells, by their pins
abbrev pub cell_readers : CellTable → List FlatCell → List Reader
cell_readers table cells = flat_map (λ (n, cell). map (reader.Pin n) (range_with_len 0 (reading_pins table cell))) (enumerate_from 0 cells)

ports_are : (ports : List PortBit) (r : Reader) → Contains (port_readers ports) r → is_port r ≡ true
ports_are ports r has =
    let f = contains_flat (λ (n, port). cond port.output (reader.Port n ∷ []) []) (enumerate_from 0 ports) r has in
    port_only f.0.1.output f.0.0 r f.2

-- a reader of a cell is one of its pins
cells_are : (table : CellTable) (cells : List FlatCell) (r : Reader) → Contains (cell_readers table cells) r → (k : ℕ) × (input : ℕ) × (c : FlatCell) × (r ≡ reader.Pin k input) × (slice_get cells k ≡ Some c) × (input < reading_pins table c)
cells_are table cells r has =
    let f = contains_flat (λ (n, cell). map (reader.Pin n) (range_with_len 0 (reading_pins table cell))) (enumerate_from 0 cells) r has in
    let g = in_enumerate 0 cells f.0 f.1 in
    let h = contains_mapped (reader.Pin f.0.0) (range_with_len 0 (reading_pins table f.0.1)) r f.2 in
    let b = (in_range 0 (reading_pins table f.0.1) h.0 h.1).1 in
    let at : g.0 ≡ f.0.0 = (let e = g.1 in omega arith) in
    (f.0.0, h.0, f.0.1, sym h.2, subst (λ (k : ℕ). slice_get cells k ≡ Some f.0.1) at g.2, omega arith)

same_pin : (a b : Pin) → Some a ≡ Some b → a ≡ b
same_pin a b e = cc

module _ (design : Design) where
  -- a pin is that of one reader
  one_reader : (pin : ℕ) (by other : Reader) → IsPinFor design by pin → IsPinFor design other pin → by ≡ other
  one_reader pin by other (net, is) (net', is') = ap (λ (p : Pin). p.reader) (same_pin (record { reader = by; net = net }) (record { reader = other; net = net' }) (sym is ∙ is'))

  in_cells : (cells : List ℕ) (cell input : ℕ) → Contains cells cell → input < pins_of design cell → Contains (flat_map (readers_at design) cells) (reader.Pin cell input)
  in_cells cells cell input has l =
      flat_contains (readers_at design) cells cell (reader.Pin cell input) has (map_contains (reader.Pin cell) (range_with_len 0 (pins_of design cell)) input (input, (let n = length-range_with_len 0 (pins_of design cell) in omega arith), get_or-range_with_len 0 (pins_of design cell) input input l ∙ (let e : 0 + input ≡ input = omega arith in e)))

  of_cells : (cells : List ℕ) (r : Reader) → Contains (flat_map (readers_at design) cells) r → (cell : ℕ) × (input : ℕ) × Contains cells cell × (r ≡ reader.Pin cell input)
  of_cells cells r has =
      let f = contains_flat (readers_at design) cells r has in
      let h = contains_mapped (reader.Pin f.0) (range_with_len 0 (pins_of design f.0)) r f.2 in (f.0, h.0, f.1, sym h.2)

  cells_once : (cells : List ℕ) → AllPairs (λ one other. one ≢ other) cells → AllPairs (λ one other. one ≢ other) (flat_map (readers_at design) cells)
  cells_once [] once = λ i j d l m. absurd (omega arith)
  cells_once (cell ∷ cells) once =
      pairs_append (λ one other. one ≢ other) (readers_at design cell) (flat_map (readers_at design) cells)
      (pairs_map (λ one other. one ≢ other) (λ one other. one ≢ other) (reader.Pin cell) (λ x y apart same. apart (cc)) 0 (range_with_len 0 (pins_of design cell)) (range_once 0 (pins_of design cell)))
      (cells_once cells (λ i j d l m. once (suc i) (suc j) d (omega arith) (omega arith)))
      (λ x y here later same.
      (let h = contains_mapped (reader.Pin cell) (range_with_len 0 (pins_of design cell)) x here in
      let o = of_cells cells y later in
      let e : reader.Pin cell h.0 ≡ reader.Pin o.0 o.1 = h.2 ∙ same ∙ o.3 in
      let f : cell ≡ o.0 = cc in
      once 0 (suc o.2.0) o.0 (omega arith) (let l = o.2.1 in omega arith) (f ∙ sym o.2.2)))

  zip_one : (b : Bool) (r : Reader) (place : ℕ) (rs : List Reader) (ps : List ℕ) → IsPinFor design r place → AllZip (IsPinFor design) rs ps → AllZip (IsPinFor design) (cond b (r ∷ rs) rs) (cond b (place ∷ ps) ps)
  zip_one true r place rs ps is rest = (is, rest)
  zip_one false r place rs ps is rest = rest

  -- the pins of output bits, each beside its reader
  ports_zip : (place : ℕ) (pins : List Pin) → ((k : ℕ) (p : Pin) → slice_get pins k ≡ Some p → slice_get design.flat.pins (place + k) ≡ Some p) → AllZip (IsPinFor design) (filter is_port (map (λ (p : Pin). p.reader) pins)) (port_pins place pins)
  ports_zip place [] at = tt
  ports_zip place (p ∷ pins) at =
      zip_one (is_port p.reader) p.reader place (filter is_port (map (λ (q : Pin). q.reader) pins)) (port_pins (place + 1) pins) (p.net, subst (λ (k : ℕ). slice_get design.flat.pins k ≡ Some p) (let e : place + 0 ≡ place = omega arith in e) (at 0 p refl))
      (ports_zip (place + 1) pins (λ k q has. subst (λ (j : ℕ). slice_get design.flat.pins j ≡ Some q) (let e : place + suc k ≡ place + 1 + k = omega arith in e) (at (suc k) q has)))

module _ (graph : NetGraph) (bench : Bench) (is : IsGraph graph) where
  readers_split : map (λ (p : Pin). p.reader) graph.flat.pins ≡ cell_readers graph.table graph.flat.cells ++ port_readers graph.flat.ports
  readers_split = is.flat_fits.pins

  reader_in : (at net : ℕ) (by : Reader) → IsPin graph.flat at by net → Contains (cell_readers graph.table graph.flat.cells ++ port_readers graph.flat.ports) by
  reader_in at net by has =
      let l = slice_get_within graph.flat.pins at (record { reader = by; net = net }) has in
      subst (λ (rs : List Reader). Contains rs by) readers_split
      (at, (let n = length-map graph.flat.pins (λ (p : Pin). p.reader) in omega arith), get_or-map (λ (p : Pin). p.reader) graph.flat.pins at (record { reader = by; net = net }) by l ∙ ap (λ (p : Pin). p.reader) (get_or_from_slice_get graph.flat.pins at (record { reader = by; net = net }) (record { reader = by; net = net }) has))

  -- a pin of a cell is one that the cell has
  has_pin : (at net cell input : ℕ) → IsPin graph.flat at (reader.Pin cell input) net → (cell < length graph.flat.cells) × (input < pins_of (design_of graph bench) cell)
  has_pin at net cell input has = elim (Contains-append_cases (cell_readers graph.table graph.flat.cells) (port_readers graph.flat.ports) (reader.Pin cell input) (reader_in at net (reader.Pin cell input) has)) [
    | inl here ↦
        (let c = cells_are graph.table graph.flat.cells (reader.Pin cell input) here in
        let same : cell ≡ c.0 = (let e = c.3 in cc) in
        let inputs : input ≡ c.1 = (let e = c.3 in cc) in
        let there : slice_get graph.flat.cells cell ≡ Some c.2 = subst (λ (k : ℕ). slice_get graph.flat.cells k ≡ Some c.2) (sym same) c.4 in
        let count : pins_of (design_of graph bench) cell ≡ reading_pins graph.table c.2 = ap (λ (o : Option FlatCell). unwrap_or (option_map (reading_pins graph.table) o) 0) there in
        let l = c.5 in
        (slice_get_within graph.flat.cells cell c.2 there, omega arith))
    | inr port ↦ (let e = ports_are graph.flat.ports (reader.Pin cell input) port in cc)
  ]

  -- the readers of output bits, beside their pins
  outputs_zip : AllZip (IsPinFor (design_of graph bench)) (port_readers graph.flat.ports) (port_pins 0 graph.flat.pins)
  outputs_zip =
      subst (λ (rs : List Reader). AllZip (IsPinFor (design_of graph bench)) rs (port_pins 0 graph.flat.pins))
      (ap (λ (rs : List Reader). filter is_port rs) readers_split ∙ filter-append is_port (cell_readers graph.table graph.flat.cells) (port_readers graph.flat.ports)
      ∙ ap (λ (rs : List Reader). rs ++ filter is_port (port_readers graph.flat.ports)) (filter_none (cell_readers graph.table graph.flat.cells) (λ r has. (let c = cells_are graph.table graph.flat.cells r has in ap is_port c.3)))
      ∙ filter_all (port_readers graph.flat.ports) (ports_are graph.flat.ports))
      (ports_zip (design_of graph bench) 0 graph.flat.pins (λ k p has. subst (λ (j : ℕ). slice_get graph.flat.pins j ≡ Some p) (let e : k ≡ 0 + k = omega arith in e) has))

  order_once : AllPairs (λ one other. one ≢ other) graph.order
  order_once i j d l m same =
      (is.least.next j (get_or graph.order j d) (slice_get-get_or graph.order j d m)).fresh
      (front_contains graph.order j i (get_or graph.order j d) l (omega arith) (get_or_default graph.order i (get_or graph.order j d) d (omega arith) ∙ same))

  module _ (cellpins : List ℕ) (are : ArePinsOf (design_of graph bench) graph.order cellpins) where
    abbrev pub pins_all : List ℕ
    pins_all = cellpins ++ port_pins 0 graph.flat.pins

    abbrev pub cells_all : List Reader
    cells_all = flat_map (readers_at (design_of graph bench)) graph.order

    along : AllZip (IsPinFor (design_of graph bench)) (readers_along (design_of graph bench) graph.order) pins_all
    along = zip_append (IsPinFor (design_of graph bench)) cells_all cellpins (port_readers graph.flat.ports) (port_pins 0 graph.flat.pins) are.are outputs_zip

    inside : All (λ pin. pin < length graph.flat.pins) pins_all
    inside k d l =
        let f = zip_found (IsPinFor (design_of graph bench)) (readers_along (design_of graph bench) graph.order) pins_all (get_or pins_all k d) along (k, l, get_or_default pins_all k (get_or pins_all k d) d l) in
        slice_get_within graph.flat.pins (get_or pins_all k d) (record { reader = f.0; net = f.1.0 }) f.1.1

    -- the pin of a reader of a cell stands in the list, where the reader stands
    pin_beside : (cells : List ℕ) (ps : List ℕ) (at net cell input : ℕ) → AllZip (IsPinFor (design_of graph bench)) (flat_map (readers_at (design_of graph bench)) cells) ps → IsPin graph.flat at (reader.Pin cell input) net → Contains cells cell → Contains ps at
    pin_beside cells ps at net cell input zip has inside =
        let f = zip_find (IsPinFor (design_of graph bench)) (flat_map (readers_at (design_of graph bench)) cells) ps (reader.Pin cell input) zip (in_cells (design_of graph bench) cells cell input inside (has_pin at net cell input has).1) in
        let same : f.0 ≡ at = is.one_pin (reader.Pin cell input) f.0 at f.1.0 net f.1.1 has in
        subst (λ (p : ℕ). Contains ps p) same (f.2, f.4, f.5)

    each_by : (pin net : ℕ) (by : Reader) → IsPin graph.flat pin by net → Contains pins_all pin
    each_by pin net (reader.Pin cell input) has = Contains-append_left cellpins (port_pins 0 graph.flat.pins) pin (pin_beside graph.order cellpins pin net cell input are.are has (is.ordered.each cell (has_pin pin net cell input has).0))
    each_by pin net (reader.Port port) has = Contains-append_right cellpins (port_pins 0 graph.flat.pins) pin (port_has 0 pin pin graph.flat.pins (record { reader = reader.Port port; net = net }) has refl (omega arith))

    each : (pin : ℕ) → pin < length graph.flat.pins → Contains pins_all pin
    each pin l =
        let p : Pin = get_or graph.flat.pins pin (record { reader = reader.Port 0; net = 0 }) in
        each_by pin p.net p.reader (slice_get-get_or graph.flat.pins pin (record { reader = reader.Port 0; net = 0 }) l)

    once : AllPairs (λ one other. one ≢ other) pins_all
    once =
        pairs_append (λ one other. one ≢ other) cellpins (port_pins 0 graph.flat.pins)
        (zip_pairs (IsPinFor (design_of graph bench)) (λ one other. one ≢ other) (λ one other. one ≢ other)
        (λ x u y v at at' apart same. apart (one_reader (design_of graph bench) v x u (subst (λ (p : ℕ). IsPinFor (design_of graph bench) x p) same at) at')) cells_all cellpins are.are (cells_once (design_of graph bench) graph.order order_once))
        (port_once 0 graph.flat.pins)
        (λ x y here later same.
        (let f = zip_found (IsPinFor (design_of graph bench)) cells_all cellpins x are.are here in
        let g = zip_found (IsPinFor (design_of graph bench)) (port_readers graph.flat.ports) (port_pins 0 graph.flat.pins) y outputs_zip later in
        let r : f.0 ≡ g.0 = one_reader (design_of graph bench) y f.0 g.0 (subst (λ (p : ℕ). IsPinFor (design_of graph bench) f.0 p) same f.1) g.1 in
        let o = of_cells (design_of graph bench) graph.order f.0 f.2 in
        let p = ports_are graph.flat.ports g.0 g.2 in
        let e : is_port (reader.Pin o.0 o.1) ≡ true = ap is_port (sym o.3 ∙ r) ∙ p in cc))

    -- what stands beside a place of the list
    beside : (place pin : ℕ) (end : Pin) → slice_get pins_all place ≡ Some pin → slice_get graph.flat.pins pin ≡ Some end → get_or (readers_along (design_of graph bench) graph.order) place end.reader ≡ end.reader
    beside place pin end pin_is end_is =
        let n = zip_length (IsPinFor (design_of graph bench)) (readers_along (design_of graph bench) graph.order) pins_all along in
        let l = slice_get_within pins_all place pin pin_is in
        let z = zip_at (IsPinFor (design_of graph bench)) (readers_along (design_of graph bench) graph.order) pins_all place end.reader pin along (omega arith) in
        let same : get_or pins_all place pin ≡ pin = get_or_from_slice_get pins_all place pin pin pin_is in
        one_reader (design_of graph bench) pin (get_or (readers_along (design_of graph bench) graph.order) place end.reader) end.reader (subst (λ (p : ℕ). IsPinFor (design_of graph bench) (get_or (readers_along (design_of graph bench) graph.order) place end.reader) p) same z) (end.net, end_is)

    -- the pins of the cells before one in the order stand before those of this one
    front_pins : (front back : List ℕ) (place at net cell input : ℕ) (by : Reader) → graph.order ≡ front ++ back → get_or (readers_along (design_of graph bench) graph.order) place by ≡ by → (Contains (flat_map (readers_at (design_of graph bench)) front) by → ⊥) → Contains front cell → IsPin graph.flat at (reader.Pin cell input) net →
        Contains (take place pins_all) at
    front_pins front back place at net cell input by parts here apart inside has =
        let D = design_of graph bench in
        let F : List Reader = flat_map (readers_at D) front in
        let G : List Reader = flat_map (readers_at D) back ++ port_readers graph.flat.ports in
        let whole : readers_along D graph.order ≡ F ++ G = ap (λ (cs : List ℕ). flat_map (readers_at D) cs ++ port_readers graph.flat.ports) parts ∙ ap (λ (rs : List Reader). rs ++ port_readers graph.flat.ports) (flat_map-append (readers_at D) front back) ∙ append_assoc F (flat_map (readers_at D) back) (port_readers graph.flat.ports) in
        let found = in_cells D front cell input inside (has_pin at net cell input has).1 in
        let k = found.0 in
        let m = found.1 in
        let n = zip_length (IsPinFor D) (readers_along D graph.order) pins_all along in
        let c : length (readers_along D graph.order) ≡ length F + length G = ap (λ (rs : List Reader). length rs) whole ∙ length-append F G in
        let reader_k : get_or (readers_along D graph.order) k (reader.Pin cell input) ≡ reader.Pin cell input = ap (λ (rs : List Reader). get_or rs k (reader.Pin cell input)) whole ∙ get_or_append_left F G (reader.Pin cell input) k m ∙ found.2 in
        let z = zip_at (IsPinFor D) (readers_along D graph.order) pins_all k (reader.Pin cell input) at along (omega arith) in
        let y = subst (λ (r : Reader). IsPinFor D r (get_or pins_all k at)) reader_k z in
        let same : get_or pins_all k at ≡ at = is.one_pin (reader.Pin cell input) (get_or pins_all k at) at y.0 net y.1 has in
        elim (cases_lt place (length F)) [
          | inl early ↦ absurd (apart (place, early, sym (get_or_append_left F G by place early) ∙ ap (λ (rs : List Reader). get_or rs place by) (sym whole) ∙ here))
          | inr late ↦ front_contains pins_all place k at (omega arith) (omega arith) same
        ]

    served_by : (place pin : ℕ) (end : Pin) (cell out input at net : ℕ) (by : Reader) → end.reader ≡ by → slice_get pins_all place ≡ Some pin → slice_get graph.flat.pins pin ≡ Some end → IsDrivenBy graph.flat end.net (driver.Out cell out) → IsPin graph.flat at (reader.Pin cell input) net → Contains (take place pins_all) at
    served_by place pin end cell out input at net (reader.Port port) by_is pin_is end_is driven has =
        front_pins graph.order [] place at net cell input end.reader (sym (append-nil graph.order)) (beside place pin end pin_is end_is)
        (λ here. (let o = of_cells (design_of graph bench) graph.order end.reader here in let e : reader.Port port ≡ reader.Pin o.0 o.1 = sym by_is ∙ o.3 in cc))
        (is.ordered.each cell (has_pin at net cell input has).0) has
    served_by place pin end cell out input at net (reader.Pin of pin_at) by_is pin_is end_is driven has =
        let end_by : slice_get graph.flat.pins pin ≡ Some (record { reader = reader.Pin of pin_at; net = end.net }) = end_is ∙ ap (λ (r : Reader). Some (record { reader = r; net = end.net })) by_is in
        let found = is.ordered.each of (has_pin pin end.net of pin_at end_by).0 in
        let i = found.0 in
        let l = found.1 in
        let there : slice_get graph.order i ≡ Some of = slice_get-get_or graph.order i of l ∙ ap (λ (c : ℕ). Some c) found.2 in
        let earlier = is.ordered.after i of cell there (pin_at, out, end.net, driven, (pin, end_by)) in
        front_pins (take i graph.order) (drop i graph.order) place at net cell input end.reader (sym (take-append-drop i graph.order)) (beside place pin end pin_is end_is)
        (λ here.
        (let o = of_cells (design_of graph bench) (take i graph.order) end.reader here in
        let e : reader.Pin of pin_at ≡ reader.Pin o.0 o.1 = sym by_is ∙ o.3 in
        let same : o.0 ≡ of = cc in
        (is.least.next i of there).fresh (subst (λ (c : ℕ). Contains (take i graph.order) c) same o.2)))
        earlier has

    pub pin_order : IsPinOrder (design_of graph bench) graph.order pins_all
    pin_order = record {
      along = along;
      inside = inside;
      each = each;
      once = once;
      served = λ place pin end cell out input at net pin_is end_is driven has. served_by place pin end cell out input at net end.reader refl pin_is end_is driven has;
    }
