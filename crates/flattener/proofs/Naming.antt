-- The printed names of drivers and readers, by the names of ports and cells.
use Rattle.std.proofs.Common.{◌≡◌, ◌∙◌, ◌+◌, ℕ, zero, suc, List, [], ◌∷◌, ◌++◌, map, Option, Some, None, refl, sym, ap, subst, arith, append_assoc, get_or}
use Rattle.std.specs.Prelude.{slice_get, unwrap_or, option_to_list}
use Rattle.std.specs.Option.{option_map, option_and_then}
use Rattle.std.specs.List.{flat_map, enumerate_from}
use Rattle.std.proofs.lemmas.Option.{same_Some, slice_get-map, slice_get-get_or}
use Rattle.rsfq_ids.specs.declared.table.CellTable.{CellTable}
use Rattle.rsfq_ids.specs.declared.table.CellRow.{CellRow}
use Rattle.rsfq_ids.specs.declared.circuit.FlatCell.{FlatCell}
use Rattle.rsfq_ids.specs.declared.circuit.PortBit.{PortBit}
use Rattle.rsfq_ids.specs.declared.circuit.Driver.{Driver}
use Rattle.rsfq_ids.specs.declared.circuit.Driver.TheVariants as driver
use Rattle.rsfq_ids.specs.declared.circuit.Reader.{Reader}
use Rattle.rsfq_ids.specs.declared.circuit.Reader.TheVariants as reader
use Rattle.bind_forms.specs.declared.bound.BoundKind.{BoundKind}
use Rattle.bind_forms.specs.declared.bound.BoundKind.TheVariants.{Module, Cell}
use Rattle.bind_forms.specs.declared.bound.BoundInstance.{BoundInstance}
use Rattle.bind_forms.specs.declared.bound.BoundModule.{BoundModule}
use Rattle.bind_forms.specs.declared.bound.BoundPort.{BoundPort}
use Rattle.bind_forms.specs.declared.bound.Bound.{Bound}
use Rattle.bind_forms.specs.Bits.{bit_names, port_bit_names}
use Rattle.flat_places.specs.Hierarchy.{instances_of, module_of}
use Rattle.flat_places.specs.Circuit.{port_bits}
use Rattle.flat_places.specs.Places.{Place, CellAt, deeper_cell, cells_by, cells_in, cells_of, places_of}
use Rattle.flat_places.specs.Names.{names_along, dotted, place_name, cell_name, top_bit_names, driver_name, reader_name}
use Rattle.flat_places.specs.Paths.{longer}
use Rattle.flat_places.specs.Whole.{IsShapeOf}
use Rattle.flattener.specs.Ends.{bare, HasPin, HasDriver, HasReader, reading_names, printed_port, printed_pin, printed_driver, printed_reader}
use Rattle.flattener.specs.Shape.{numbered_name}
use Rattle.flattener.proofs.Members.{numbered_got}
use Rattle.flat_places.proofs.Joined.{map_got}
use Rattle.flat_places.proofs.Celled.{cells_more}

-- ---- ports

pub names_of_bits : (ports : List BoundPort) → map (λ bit. bit.name) (port_bits ports) ≡ port_bit_names ports
names_of_bits [] = refl
names_of_bits (port ∷ ports) =
    map_joined (bit_names port.name port.range) (port_bits ports)
    ∙ ap (λ (names : List (List ℕ)). bit_names port.name port.range ++ names) (names_of_bits ports) where
      map_joined : (names : List (List ℕ)) (bits : List PortBit) → map (λ bit. bit.name) (map (λ (name : List ℕ). let b : PortBit = record { name = name; output = port.output } in b) names ++ bits) ≡ names ++ map (λ bit. bit.name) bits
      map_joined [] bits = refl
      map_joined (name ∷ names) bits = ap (λ (rest : List (List ℕ)). name ∷ rest) (map_joined names bits)

-- the printed name of a port's bit
port_printed : (bound : Bound) (ports : List PortBit) (port : ℕ) → ports ≡ unwrap_or (option_map (λ (top : BoundModule). port_bits top.ports) (slice_get bound.modules bound.top)) [] → printed_port ports port ≡ unwrap_or (slice_get (top_bit_names bound) port) []
port_printed bound ports port is =
    ap (λ (o : Option (List ℕ)). unwrap_or o []) (sym (slice_get-map (λ (bit : PortBit). bit.name) ports port))
    ∙ ap (λ (names : List (List ℕ)). unwrap_or (slice_get names port) []) (ap (map (λ (bit : PortBit). bit.name)) is ∙ go (slice_get bound.modules bound.top)) where
      go : (o : Option BoundModule) → map (λ (bit : PortBit). bit.name) (unwrap_or (option_map (λ (top : BoundModule). port_bits top.ports) o) []) ≡ unwrap_or (option_map (λ (top : BoundModule). port_bit_names top.ports) o) []
      go None = refl
      go (Some top) = names_of_bits top.ports

-- ---- cells

cells_none : (bound : Bound) (at : ℕ) → cells_in bound zero at ≡ []
unfolding cells_in
cells_none bound at = refl

-- the path of a cell begins with an instance that there is
pub record BeginsAt (bound : Bound) (at : ℕ) (path : List ℕ) : Type 0 where
  pub instance : ℕ
  pub rest : List ℕ
  pub declared : BoundInstance
  pub is : path ≡ instance ∷ rest
  pub listed : slice_get (instances_of bound at) instance ≡ Some declared

cell_begins : (bound : Bound) (levels at k : ℕ) (cell : CellAt) → slice_get (cells_in bound levels at) k ≡ Some cell → BeginsAt bound at cell.path
cell_begins bound zero at k cell e = absurd (nothing (sym (ap (λ (cs : List CellAt). slice_get cs k) (cells_none bound at)) ∙ e)) where
  nothing : None ≡ Some cell → ⊥
  nothing f = cc
cell_begins bound (suc levels) at k cell e =
    let r = numbered_got (λ ((instance, declared) : ℕ × BoundInstance). cells_by (cells_in bound levels) instance declared.kind) 0 (instances_of bound at) k cell (subst (λ (cs : List CellAt). slice_get cs k ≡ Some cell) (cells_more bound levels at) e) in
    let z : r.0 ≡ 0 + r.0 = omega arith in
    by_kind (0 + r.0) r.1 r.2 (subst (λ (n : ℕ). slice_get (instances_of bound at) n ≡ Some r.1) z r.3) (r.1).kind r.4 where
      by_kind : (instance : ℕ) (declared : BoundInstance) (j : ℕ) → slice_get (instances_of bound at) instance ≡ Some declared → (kind : BoundKind) → slice_get (cells_by (cells_in bound levels) instance kind) j ≡ Some cell → BeginsAt bound at cell.path
      by_kind instance declared j there (Module inner) g =
          let m = map_got (deeper_cell instance) (cells_in bound levels inner) j cell g in
          record { instance = instance; rest = (m.0).path; declared = declared; is = ap (λ (c : CellAt). c.path) (sym m.2); listed = there }
      by_kind instance declared zero there (Cell row) g =
          let one : CellAt = record { path = instance ∷ []; row = row } in
          record { instance = instance; rest = []; declared = declared; is = ap (λ (c : CellAt). c.path) (sym (same_Some one cell g)); listed = there }
      by_kind instance declared (suc j) there (Cell row) g = absurd cc

-- the names along such a path are some
pub names_begin : (bound : Bound) (at : ℕ) (path : List ℕ) → BeginsAt bound at path → (first : List ℕ) × (rest : List (List ℕ)) × (names_along bound at path ≡ first ∷ rest)
names_begin bound at path b =
    let rest = unwrap_or (option_map (λ (inner : ℕ). names_along bound inner b.rest) (option_and_then (λ (i : BoundInstance). module_of i.kind) (slice_get (instances_of bound at) b.instance))) [] in (
      (b.declared).name,
      rest,
      ap (names_along bound at) b.is ∙ ap (λ (o : Option BoundInstance). option_to_list (option_map (λ (i : BoundInstance). i.name) o) ++ rest) b.listed,
    )

dotted_last : (first : List ℕ) (rest : List (List ℕ)) (last : List ℕ) → dotted ((first ∷ rest) ++ last ∷ []) ≡ dotted (first ∷ rest) ++ 46 ∷ last
dotted_last first [] last = refl
dotted_last first (next ∷ rest) last = ap (λ (names : List ℕ). first ++ 46 ∷ names) (dotted_last next rest last) ∙ sym (append_assoc first (46 ∷ dotted (next ∷ rest)) (46 ∷ last))

-- a pin's name behind the printed name of its cell
pub pin_printed : (table : CellTable) (bound : Bound) (cells : List FlatCell) (pins : CellRow → List (List ℕ)) (cell pin : ℕ) → cells ≡ map (λ (c : CellAt). let f : FlatCell = record { path = cell_name bound c; row = c.row } in f) (cells_of bound) → HasPin table cells pins cell pin →
    printed_pin table cells pins cell pin
    ≡ unwrap_or (option_map (λ (found : CellAt). dotted (names_along bound bound.top found.path ++ option_to_list (option_and_then (λ (row : CellRow). slice_get (pins row) pin) (slice_get table.rows found.row)))) (slice_get (cells_of bound) cell)) []
pin_printed table bound cells pins cell pin is h =
    let print = λ (c : CellAt). let f : FlatCell = record { path = cell_name bound c; row = c.row } in f in
    let m = map_got print (cells_of bound) cell h.0 (subst (λ (cs : List FlatCell). slice_get cs cell ≡ Some h.0) is h.2) in
    let at = m.0 in
    let row_there : slice_get table.rows at.row ≡ Some h.1 = ap (λ (f : FlatCell). slice_get table.rows f.row) m.2 ∙ h.3 in
    let name : slice_get (pins h.1) pin ≡ Some (get_or (pins h.1) pin []) = slice_get-get_or (pins h.1) pin [] h.4 in
    let last = get_or (pins h.1) pin [] in
    let found : option_and_then (λ (row : CellRow). slice_get (pins row) pin) (slice_get table.rows at.row) ≡ Some last = ap (option_and_then (λ (row : CellRow). slice_get (pins row) pin)) row_there ∙ name in
    let b = names_begin bound bound.top at.path (cell_begins bound 64 bound.top cell at m.1) in
    let along = names_along bound bound.top at.path in
    ap (λ (o : Option FlatCell). unwrap_or (option_map (λ (f : FlatCell). longer (Some f.path) (unwrap_or (option_and_then (λ (row : CellRow). slice_get (pins row) pin) (slice_get table.rows f.row)) [])) o) []) (h.2 ∙ ap Some (sym m.2))
    ∙ ap (λ (o : Option (List ℕ)). dotted along ++ 46 ∷ unwrap_or o []) found
    ∙ ap (λ (names : List (List ℕ)). dotted names ++ 46 ∷ last) b.2
    ∙ sym (dotted_last b.0 b.1 last)
    ∙ ap (λ (names : List (List ℕ)). dotted (names ++ last ∷ [])) (sym b.2)
    ∙ ap (λ (o : Option (List ℕ)). dotted (along ++ option_to_list o)) (sym found)
    ∙ ap (λ (o : Option CellAt). unwrap_or (option_map (λ (found : CellAt). dotted (names_along bound bound.top found.path ++ option_to_list (option_and_then (λ (row : CellRow). slice_get (pins row) pin) (slice_get table.rows found.row)))) o) []) (sym m.1)

pub driver_printed : (table : CellTable) (bound : Bound) (ports : List PortBit) (cells : List FlatCell) → IsShapeOf bound (bare ports cells) → (from : Driver) → HasDriver table ports cells from → printed_driver table ports cells from ≡ driver_name table bound from
driver_printed table bound ports cells s (driver.Port port) h = port_printed bound ports port s.ports
driver_printed table bound ports cells s (driver.Out cell out) h = pin_printed table bound cells (λ (row : CellRow). row.outputs) cell out s.cells h

pub reader_printed : (table : CellTable) (bound : Bound) (ports : List PortBit) (cells : List FlatCell) → IsShapeOf bound (bare ports cells) → (by : Reader) → HasReader table ports cells by → printed_reader table ports cells by ≡ reader_name table bound by
reader_printed table bound ports cells s (reader.Pin cell pin) h = pin_printed table bound cells reading_names cell pin s.cells h
reader_printed table bound ports cells s (reader.Port port) h = port_printed bound ports port s.ports

-- ---- places

pub name_listed : (bound : Bound) (number : ℕ) (place : Place) → slice_get (places_of bound) number ≡ Some place → numbered_name bound number ≡ place_name bound place
name_listed bound number place e = ap (λ (o : Option Place). unwrap_or (option_map (place_name bound) o) []) e
