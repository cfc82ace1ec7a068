-- The circuit of what was written out.
use Rattle.std.proofs.Common.{◌≡◌, ◌∙◌, ◌+◌, ◌<◌, ◌≤◌, ℕ, zero, suc, Bool, true, false, cond, List, [], ◌∷◌, ◌++◌, map, length, get_or, Option, Some, None, refl, sym, ap, subst, arith, length-append}
use Rattle.std.specs.Prelude.{slice_get, unwrap_or}
use Rattle.std.specs.Option.{option_map}
use Rattle.std.specs.List.{All, flat_map, enumerate_from}
use Rattle.std.proofs.lemmas.List.{length-map}
use Rattle.std.proofs.lemmas.List.Sums.{sum_by-cons}
use Rattle.std.proofs.lemmas.Option.{slice_get_within}
use Rattle.std.proofs.lemmas.Slice.Zip.{AllZip-long}
use Rattle.rsfq_ids.specs.declared.table.CellTable.{CellTable}
use Rattle.rsfq_ids.specs.declared.table.CellRow.{CellRow}
use Rattle.rsfq_ids.specs.declared.circuit.Flat.{Flat}
use Rattle.rsfq_ids.specs.declared.circuit.FlatCell.{FlatCell}
use Rattle.rsfq_ids.specs.declared.circuit.PortBit.{PortBit}
use Rattle.rsfq_ids.specs.declared.circuit.Driver.{Driver}
use Rattle.rsfq_ids.specs.declared.circuit.Reader.{Reader}
use Rattle.rsfq_ids.specs.declared.circuit.Pin.{Pin}
use Rattle.rsfq_ids.specs.WellFormed.{IsFlat, AreDistinct, drivers_of, readers_of}
use Rattle.bind_forms.specs.declared.bound.BoundInstance.{BoundInstance}
use Rattle.bind_forms.specs.declared.bound.BoundKind.{BoundKind}
use Rattle.bind_forms.specs.declared.bound.BoundKind.TheVariants.{Module, Cell}
use Rattle.bind_forms.specs.declared.bound.BoundLink.{BoundLink}
use Rattle.bind_forms.specs.declared.bound.BoundModule.{BoundModule}
use Rattle.bind_forms.specs.declared.bound.BoundPort.{BoundPort}
use Rattle.bind_forms.specs.declared.bound.BoundWire.{BoundWire}
use Rattle.bind_forms.specs.declared.bound.Bound.{Bound}
use Rattle.bind_forms.specs.Bits.{width_of, port_bit_names}
use Rattle.bind_forms.specs.WellFormed.{IsBound, IsModule, port_wire}
use Rattle.flat_places.specs.Assigns.{different}
use Rattle.flat_places.specs.Hierarchy.{bits_of, wires_of, bit_count, cell_count}
use Rattle.flat_places.specs.Sizes.{IsWithinLimits}
use Rattle.flat_places.specs.Circuit.{IsCircuitOf, port_bits}
use Rattle.flat_places.specs.Drives.{StartsAt, ReadsAt}
use Rattle.flat_places.specs.Names.{cell_name}
use Rattle.flat_places.specs.Places.{CellAt, cells_of}
use Rattle.flat_places.specs.Bits.{offsets_from, assign_links}
use Rattle.flat_places.specs.Paths.{longer}
use Rattle.flat_places.specs.Pieces.{Piece, empty, joined, only_links, cell_piece, module_piece, instance_piece, pieces_from, inside_piece}
use Rattle.flat_places.specs.Whole.{IsNumberAt, whole_piece, IsShapeOf, inputs_in, outputs_in, starts_of, reads_of, AreStarts, AreReads, ReadsNet}
use Rattle.flat_names.specs.Measured.{IsMeasured}
use Rattle.flattener.specs.declared.shape.Shape.{Shape}
use Rattle.flattener.specs.Ends.{bare, input_place, input_places, output_place, output_places, bits_of_port}
use Rattle.flattener.specs.Shape.{IsShaped}
use Rattle.flattener.proofs.Listing.{bits_of_port_length, port_bits_same}
use Rattle.flattener.proofs.Naming.{names_of_bits}
use Rattle.flat_places.proofs.Joined.{all_got}
use Rattle.flat_places.proofs.Modules.{wires_at}

-- ---- cells are of rows

all_joined : {X : Type 0} (P : X → Type 0) (xs ys : List X) → All P xs → All P ys → All P (xs ++ ys)
all_joined P [] ys g h k d low = h k d low
all_joined P (x ∷ xs) ys g h zero d low = g 0 d (omega arith)
all_joined P (x ∷ xs) ys g h (suc k) d low = all_joined P xs ys (λ j e l. g (suc j) e (omega arith)) h k d (omega arith)

abbrev HasRow : CellTable → FlatCell → Type 0
HasRow table cell = cell.row < length table.rows

nothing_has_rows : (table : CellTable) → All (HasRow table) []
nothing_has_rows table k d low = absurd (omega arith)

instance_rows : (table : CellTable) (bound : Bound) (inside : ℕ → Option (List ℕ) → List ℕ → ℕ → Piece) → ((at : ℕ) (path : Option (List ℕ)) (offsets : List ℕ) (base : ℕ) → All (HasRow table) (inside at path offsets base).cells) →
    (path : Option (List ℕ)) (offsets : List ℕ) (base : ℕ) (name : List ℕ) (links : List BoundLink) (kind : BoundKind) → All (HasRow table) (instance_piece table bound inside path offsets base name links kind).cells
instance_rows table bound inside law path offsets base name links (Module at) = go (slice_get bound.modules at) where
  go : (o : Option BoundModule) → All (HasRow table) (unwrap_or (option_map (λ (owner : BoundModule). module_piece (inside at (Some (longer path name))) offsets base owner links) o) empty).cells
  go None = nothing_has_rows table
  go (Some owner) = law at (Some (longer path name)) (offsets_from base owner.wires) (base + bits_of owner.wires)
instance_rows table bound inside law path offsets base name links (Cell number) = go (slice_get table.rows number) refl where
  one : number < length table.rows → All (HasRow table) (record { path = longer path name; row = number } ∷ [])
  one low zero d l = low
  one low (suc k) d l = absurd (omega arith)

  go : (o : Option CellRow) → slice_get table.rows number ≡ o → All (HasRow table) (unwrap_or (option_map (λ (row : CellRow). cell_piece (longer path name) number row links offsets) o) empty).cells
  go None is = nothing_has_rows table
  go (Some row) is = one (slice_get_within table.rows number row is)

pieces_rows : (table : CellTable) (one : ℕ → BoundInstance → Piece) → ((base : ℕ) (instance : BoundInstance) → All (HasRow table) (one base instance).cells) → (base : ℕ) (instances : List BoundInstance) → All (HasRow table) (pieces_from one base instances).cells
pieces_rows table one law base [] = nothing_has_rows table
pieces_rows table one law base (instance ∷ instances) = all_joined (HasRow table) (one base instance).cells (pieces_from one (base + (one base instance).places) instances).cells (law base instance) (pieces_rows table one law (base + (one base instance).places) instances)

inside_rows : (table : CellTable) (bound : Bound) (levels at : ℕ) (path : Option (List ℕ)) (offsets : List ℕ) (base : ℕ) → All (HasRow table) (inside_piece table bound levels at path offsets base).cells
unfolding inside_piece
inside_rows table bound zero at path offsets base = nothing_has_rows table
inside_rows table bound (suc levels) at path offsets base = go (instance_rows table bound (inside_piece table bound levels) (λ inner p os b. inside_rows table bound levels inner p os b)) (slice_get bound.modules at) where
  one : ℕ → BoundInstance → Piece
  one from instance = instance_piece table bound (inside_piece table bound levels) path offsets from instance.name instance.links instance.kind

  go : ((path : Option (List ℕ)) (offsets : List ℕ) (base : ℕ) (name : List ℕ) (links : List BoundLink) (kind : BoundKind) → All (HasRow table) (instance_piece table bound (inside_piece table bound levels) path offsets base name links kind).cells) →
      (o : Option BoundModule) → All (HasRow table) (unwrap_or (option_map (λ (owner : BoundModule). joined (only_links (flat_map (assign_links offsets) (different owner.assigns))) (pieces_from one base owner.instances)) o) empty).cells
  go law None = nothing_has_rows table
  go law (Some owner) = pieces_rows table one (λ from instance. law path offsets from instance.name instance.links instance.kind) base owner.instances

pub whole_rows : (table : CellTable) (bound : Bound) → All (λ (cell : FlatCell). cell.row < length table.rows) (whole_piece table bound).cells
whole_rows table bound = inside_rows table bound 64 bound.top None (offsets_from 0 (wires_of bound bound.top)) (0 + bits_of (wires_of bound bound.top))

-- ---- ports

port_bits_count : (ports : List BoundPort) → length (port_bits ports) ≡ bits_of (map port_wire ports)
port_bits_count ports = sym (ap length (port_bits_same ports)) ∙ go ports where
  go : (ps : List BoundPort) → length (flat_map bits_of_port ps) ≡ bits_of (map port_wire ps)
  go [] = refl
  go (port ∷ ps) =
      let both = length-append (bits_of_port port) (flat_map bits_of_port ps) in
      let here = bits_of_port_length port in
      let rest = go ps in
      let more = sum_by-cons (λ (w : BoundWire). width_of w.range) (port_wire port) (map port_wire ps) in
      omega (arith, both, here, rest, more)

bits_joined : (wires others : List BoundWire) → bits_of (wires ++ others) ≡ bits_of wires + bits_of others
bits_joined [] others = omega arith
bits_joined (wire ∷ wires) others =
    let rest = bits_joined wires others in
    let one = sum_by-cons (λ (w : BoundWire). width_of w.range) wire wires in
    let two = sum_by-cons (λ (w : BoundWire). width_of w.range) wire (wires ++ others) in
    omega (arith, rest, one, two)

-- the top has few port bits
pub few_port_bits : (table : CellTable) (bound : Bound) (top : BoundModule) → IsModule table bound top → slice_get bound.modules bound.top ≡ Some top → IsWithinLimits bound → (whole_piece table bound).places ≡ bit_count bound 64 bound.top → length (port_bits top.ports) ≤ 2000000
few_port_bits table bound top m there within places =
    let count = port_bits_count top.ports in
    let all = ap bits_of m.wires in
    let both = bits_joined (map port_wire top.ports) m.others in
    let own = ap bits_of (wires_at bound bound.top top there) in
    let few = within.wires in
    omega (arith, count, all, both, own, few, places)

inputs_same : (n : ℕ) (ports : List PortBit) → flat_map input_place (enumerate_from n ports) ≡ map Some (flat_map (λ ((m, port) : ℕ × PortBit). cond port.output [] (m ∷ [])) (enumerate_from n ports))
inputs_same n [] = refl
inputs_same n (port ∷ ports) = go port.output (inputs_same (n + 1) ports) where
  rest : List ℕ
  rest = flat_map (λ ((m, port) : ℕ × PortBit). cond port.output [] (m ∷ [])) (enumerate_from (n + 1) ports)

  go : (output : Bool) → flat_map input_place (enumerate_from (n + 1) ports) ≡ map Some rest → cond output [] (Some n ∷ []) ++ flat_map input_place (enumerate_from (n + 1) ports) ≡ map Some (cond output [] (n ∷ []) ++ rest)
  go true e = e
  go false e = ap (λ (os : List (Option ℕ)). Some n ∷ os) e

outputs_same : (n : ℕ) (ports : List PortBit) → flat_map output_place (enumerate_from n ports) ≡ map Some (flat_map (λ ((m, port) : ℕ × PortBit). cond port.output (m ∷ []) []) (enumerate_from n ports))
outputs_same n [] = refl
outputs_same n (port ∷ ports) = go port.output (outputs_same (n + 1) ports) where
  rest : List ℕ
  rest = flat_map (λ ((m, port) : ℕ × PortBit). cond port.output (m ∷ []) []) (enumerate_from (n + 1) ports)

  go : (output : Bool) → flat_map output_place (enumerate_from (n + 1) ports) ≡ map Some rest → cond output (Some n ∷ []) [] ++ flat_map output_place (enumerate_from (n + 1) ports) ≡ map Some (cond output (n ∷ []) [] ++ rest)
  go false e = e
  go true e = ap (λ (os : List (Option ℕ)). Some n ∷ os) e

-- ---- the shape of what was written out

-- the cells of a bound source, by their printed names
abbrev pub cells_by_name : Bound → List FlatCell
cells_by_name bound = map (λ (c : CellAt). let f : FlatCell = record { path = cell_name bound c; row = c.row } in f) (cells_of bound)

pub is_shape_of : (table : CellTable) (bound : Bound) (piece : Piece) (top : BoundModule) (ports : List PortBit) (cells : List FlatCell) → piece ≡ whole_piece table bound → (whole_piece table bound).cells ≡ cells_by_name bound → slice_get bound.modules bound.top ≡ Some top →
    ports ≡ port_bits top.ports → cells ≡ piece.cells → IsShapeOf bound (bare ports cells)
is_shape_of table bound piece top ports cells written named there p c = record {
  ports = p ∙ ap (λ (o : Option BoundModule). unwrap_or (option_map (λ (t : BoundModule). port_bits t.ports) o) []) (sym there);
  cells = c ∙ ap (λ (p : Piece). p.cells) written ∙ named;
}

pub few_cells_of : (table : CellTable) (bound : Bound) (piece : Piece) → piece ≡ whole_piece table bound → (whole_piece table bound).cells ≡ cells_by_name bound → length (cells_of bound) ≡ cell_count bound 64 bound.top → IsWithinLimits bound → length piece.cells ≤ 100000
few_cells_of table bound piece written named count within =
    let all : length piece.cells ≡ length (cells_by_name bound) = ap length (ap (λ (p : Piece). p.cells) written ∙ named) in
    let same : length (cells_by_name bound) ≡ length (cells_of bound) = simp length-map in
    let few = within.cells in
    omega (arith, all, same, count, few)

pub rows_of : (table : CellTable) (bound : Bound) (piece : Piece) (cells : List FlatCell) → piece ≡ whole_piece table bound → cells ≡ piece.cells → All (λ (cell : FlatCell). cell.row < length table.rows) cells
rows_of table bound piece cells written same = subst (All (HasRow table)) (sym (same ∙ ap (λ (p : Piece). p.cells) written)) (whole_rows table bound)

pub shaped : (shape : Shape) (piece : Piece) → IsMeasured shape.source → IsWithinLimits shape.source.bound.now → piece ≡ whole_piece shape.source.cells.now shape.source.bound.now → IsShapeOf shape.source.bound.now (bare shape.ports.now shape.cells.now) → length shape.cells.now ≤ 100000 →
    length shape.ports.now ≤ 2000000 → shape.nets.now ≡ drivers_of shape.source.cells.now (bare shape.ports.now shape.cells.now) → shape.readers.now ≡ readers_of shape.source.cells.now (bare shape.ports.now shape.cells.now) → shape.starts.now ≡ input_places shape.ports.now ++ piece.outputs →
    shape.reads.now ≡ piece.reads ++ output_places shape.ports.now → shape.links.now ≡ piece.links → shape.places ≡ piece.places → length shape.nets.now < 4294967296 →
    (whole_piece shape.source.cells.now shape.source.bound.now).places ≡ bit_count shape.source.bound.now 64 shape.source.bound.now.top →
    ((flat : Flat) → IsShapeOf shape.source.bound.now flat → AreStarts shape.source.cells.now shape.source.bound.now flat (starts_of flat.ports (whole_piece shape.source.cells.now shape.source.bound.now))) →
    ((flat : Flat) → IsShapeOf shape.source.bound.now flat → AreReads shape.source.cells.now shape.source.bound.now flat (reads_of flat.ports (whole_piece shape.source.cells.now shape.source.bound.now))) → IsShaped shape
shaped shape piece source within written is_shape few_cells few_ports nets readers starts_are reads_are links places_are few_nets places starts_law reads_law =
    let table = shape.source.cells.now in
    let bound = shape.source.bound.now in
    let whole = whole_piece table bound in
    let flat = bare shape.ports.now shape.cells.now in
    let starts : shape.starts.now ≡ starts_of shape.ports.now whole =
    starts_are ∙ ap (λ (os : List (Option ℕ)). os ++ piece.outputs) (inputs_same 0 shape.ports.now) ∙ ap (λ (p : Piece). map Some (inputs_in shape.ports.now) ++ p.outputs) written in
    let reads : shape.reads.now ≡ reads_of shape.ports.now whole =
    reads_are ∙ ap (λ (os : List (Option ℕ)). piece.reads ++ os) (outputs_same 0 shape.ports.now) ∙ ap (λ (p : Piece). p.reads ++ map Some (outputs_in shape.ports.now)) written in
    let start_count = AllZip-long (λ (from : Driver) (at : Option ℕ). IsNumberAt bound (StartsAt table bound from) at) (drivers_of table flat) (starts_of shape.ports.now whole) (starts_law flat is_shape) in
    let read_count = AllZip-long (λ (by : Reader) (at : Option ℕ). IsNumberAt bound (ReadsAt bound by) at) (readers_of table flat) (reads_of shape.ports.now whole) (reads_law flat is_shape) in
    let nets_length = ap length nets in
    let readers_length = ap length readers in
    let starts_length = ap length starts in
    let reads_length = ap length reads in
    record {
      source = source;
      within = within;
      has_shape = is_shape;
      few_cells = few_cells;
      few_ports = few_ports;
      nets = nets;
      readers = readers;
      links = links ∙ ap (λ (p : Piece). p.links) written;
      starts = starts;
      reads = reads;
      few_starts = omega (arith, starts_length, start_count, nets_length, few_nets);
      same_reads = omega (arith, reads_length, read_count, readers_length);
      places = places_are ∙ ap (λ (p : Piece). p.places) written ∙ places;
    }

-- ---- the circuit

pub is_circuit : (table : CellTable) (bound : Bound) (flat : Flat) → IsShapeOf bound (bare flat.ports flat.cells) → flat.nets ≡ drivers_of table (bare flat.ports flat.cells) → map (λ (pin : Pin). pin.reader) flat.pins ≡ readers_of table (bare flat.ports flat.cells) →
    All (λ (pin : Pin). ReadsNet table bound flat.nets pin.reader pin.net) flat.pins → IsCircuitOf table bound flat
is_circuit table bound flat s nets pins read = record {
  ports = s.ports;
  cells = s.cells;
  nets = nets;
  pins = pins;
  read = λ at pin e. let r = all_got (λ (pin : Pin). ReadsNet table bound flat.nets pin.reader pin.net) flat.pins at pin read e in (r.from, r.from_is, r.reads);
}

pub is_flat : (table : CellTable) (bound : Bound) (flat : Flat) → IsBound table bound → IsShapeOf bound (bare flat.ports flat.cells) → length flat.cells ≤ 100000 → All (λ (cell : FlatCell). cell.row < length table.rows) flat.cells → flat.nets ≡ drivers_of table (bare flat.ports flat.cells) →
    map (λ (pin : Pin). pin.reader) flat.pins ≡ readers_of table (bare flat.ports flat.cells) → All (λ (pin : Pin). ReadsNet table bound flat.nets pin.reader pin.net) flat.pins → IsFlat table flat
is_flat table bound flat b s few rows nets pins read =
    let ports : flat.ports ≡ port_bits b.top.ports = s.ports ∙ ap (λ (o : Option BoundModule). unwrap_or (option_map (λ (t : BoundModule). port_bits t.ports) o) []) b.top_there in
    let names : map (λ (bit : PortBit). bit.name) flat.ports ≡ port_bit_names b.top.ports = ap (map (λ (bit : PortBit). bit.name)) ports ∙ names_of_bits b.top.ports in
    record {
      cells = few;
      rows = rows;
      names = subst AreDistinct (sym names) b.names;
      nets = nets;
      pins = pins;
      read = λ k d low. let r = read k d low in slice_get_within flat.nets (get_or flat.pins k d).net r.from r.from_is;
    }
