-- The walk at one instance.
use Rattle.std.proofs.Common.{◌≡◌, ◌∙◌, ◌+◌, ◌-◌, ◌<◌, ◌≤◌, ℕ, List, map, length, get_or, false, Option, Some, refl, sym, ap, subst, arith}
use Rattle.std.specs.Prelude.{slice_get, unwrap_or, option_to_list, nat_lt, ◌||◌}
use Rattle.std.specs.Option.{option_map}
use Rattle.std.specs.List.{All, flat_map}
use Rattle.std.proofs.lemmas.Option.{slice_get_within, slice_get-get_or}
use Rattle.std.proofs.lemmas.Bool.Decides.{nat_tests}
use Rattle.rsfq_ids.specs.declared.table.CellTable.{CellTable}
use Rattle.rsfq_ids.specs.declared.table.CellRow.{CellRow}
use Rattle.rsfq_ids.specs.declared.table.Kind.{Kind}
use Rattle.rsfq_ids.specs.declared.table.Kind.TheVariants.{Jtl, Split, Merge, Gate}
use Rattle.rsfq_ids.specs.WellFormed.{IsRow, FitsKind}
use Rattle.bind_forms.specs.declared.bound.BoundWire.{BoundWire}
use Rattle.bind_forms.specs.declared.bound.BoundLink.{BoundLink}
use Rattle.bind_forms.specs.declared.bound.BoundInstance.{BoundInstance}
use Rattle.bind_forms.specs.declared.bound.BoundModule.{BoundModule}
use Rattle.bind_forms.specs.declared.bound.Bound.{Bound}
use Rattle.bind_forms.specs.declared.bound.BoundKind.{BoundKind}
use Rattle.bind_forms.specs.declared.bound.BoundKind.TheVariants.{Module, Cell}
use Rattle.bind_forms.specs.WellFormed.{IsBound, IsModule, IsInstance, cell_ports, port_widths}
use Rattle.flat_places.specs.declared.size.Size.{Size}
use Rattle.flat_places.specs.Hierarchy.{bits_of, bit_count, cell_count}
use Rattle.flat_places.specs.Rounds.{empty_size}
use Rattle.flat_places.specs.Sizes.{AreSizes}
use Rattle.flat_places.specs.Bits.{offsets_from}
use Rattle.flat_places.specs.Paths.{longer}
use Rattle.flat_places.specs.Pieces.{Piece, empty, joined, only_places, only_links, reading_of, cell_piece, links_of_link, module_piece, instance_piece, inside_piece, instance_at}
use Rattle.flat_names.proofs.Modules.{module_there}
use Rattle.flattener.specs.Wiring.{AreNumbered, IsNumberedLink}
use Rattle.flattener.specs.Walk.{IsInstanceOn, AreOffsets, HasRoom}
use Rattle.flattener.specs.Solid.{is_solid}
use Rattle.flattener.proofs.Numbering.{parts_numbered, link_numbered}
use Rattle.flattener.proofs.Hollow.{hollow_kind, hollow_inside}
use Rattle.flattener.proofs.Steps.{module_step}
use Rattle.flat_places.proofs.Joined.{all_got, mapped_from}

-- ---- cells

few_of_kind : (kind : Kind) (row : CellRow) → FitsKind kind row → reading_of row + length row.outputs < 4294967295
few_of_kind Jtl row f = let a = f.0 in let c = ap (λ (o : Option (List ℕ)). length (option_to_list o)) f.1 in let b = f.2 in omega (arith, a, b, c)
few_of_kind Split row f = let a = f.0 in let c = ap (λ (o : Option (List ℕ)). length (option_to_list o)) f.1 in let b = f.2 in omega (arith, a, b, c)
few_of_kind Merge row f = let a = f.0 in let c = ap (λ (o : Option (List ℕ)). length (option_to_list o)) f.1 in let b = f.2 in omega (arith, a, b, c)
few_of_kind Gate row f = let a = f.1 in let c = f.2 in let b = f.3 in omega (arith, a, b, c)

-- a cell has few pins
pub few_pins : (row : CellRow) → IsRow row → reading_of row + length row.outputs < 4294967295
few_pins row r = few_of_kind row.kind row r.kind

pub links_numbered : (table : CellTable) (bound : Bound) (offsets : List ℕ) (instance : BoundInstance) → IsInstanceOn table bound offsets instance → All (λ (link : BoundLink). AreNumbered offsets link.parts) instance.links
links_numbered table bound offsets instance i = λ k d low. parts_numbered offsets i.wires (get_or instance.links k d).parts i.placed (i.is_instance.links k d low).parts

-- the row that an instance of a cell is of
pub row_there : (table : CellTable) (bound : Bound) (wires : List BoundWire) (instance : BoundInstance) (number : ℕ) → IsInstance table bound wires instance → instance.kind ≡ Cell number → (row : CellRow) × (slice_get table.rows number ≡ Some row)
row_there table bound wires instance number i is =
    let found = mapped_from (λ (row : CellRow). map (λ (pin : List ℕ). 1) (cell_ports row)) (slice_get table.rows number) i.widths (sym (ap (port_widths table bound) is) ∙ i.kind) in
    (found.0, found.1)

-- what an instance of a cell comes to
pub cell_at : (table : CellTable) (bound : Bound) (levels : ℕ) (path : Option (List ℕ)) (offsets : List ℕ) (base : ℕ) (instance : BoundInstance) (number : ℕ) (row : CellRow) → instance.kind ≡ Cell number → slice_get table.rows number ≡ Some row →
    instance_at table bound levels path offsets base instance ≡ cell_piece (longer path instance.name) number row instance.links offsets
cell_at table bound levels path offsets base instance number row is there =
    ap (instance_piece table bound (inside_piece table bound (levels - 1)) path offsets base instance.name instance.links) is
    ∙ ap (λ (o : Option CellRow). unwrap_or (option_map (λ (row : CellRow). cell_piece (longer path instance.name) number row instance.links offsets) o) empty) there

-- ---- modules

-- what an instance of a module comes to
pub module_at : (table : CellTable) (bound : Bound) (levels : ℕ) (path : Option (List ℕ)) (offsets : List ℕ) (base : ℕ) (instance : BoundInstance) (at : ℕ) (owner : BoundModule) → instance.kind ≡ Module at → slice_get bound.modules at ≡ Some owner →
    instance_at table bound levels path offsets base instance ≡ module_piece (inside_piece table bound (levels - 1) at (Some (longer path instance.name))) offsets base owner instance.links
module_at table bound levels path offsets base instance at owner is there =
    ap (instance_piece table bound (inside_piece table bound (levels - 1)) path offsets base instance.name instance.links) is
    ∙ ap (λ (o : Option BoundModule). unwrap_or (option_map (λ (owner : BoundModule). module_piece (inside_piece table bound (levels - 1) at (Some (longer path instance.name))) offsets base owner instance.links) o) empty) there

nothing_held : (cells bits : ℕ) → (nat_lt 0 cells || nat_lt 0 bits) ≡ false → (cells ≡ 0) × (bits ≡ 0)
nothing_held cells bits e = (grind (arith, nat_tests), grind (arith, nat_tests))

-- an instance that holds neither a place nor a cell comes to nothing
pub passed_over : (table : CellTable) (bound : Bound) (levels : ℕ) (path : Option (List ℕ)) (offsets : List ℕ) (wires : List BoundWire) (instance : BoundInstance) (sizes : List Size) → IsBound table bound → IsInstance table bound wires instance → AreSizes bound 64 sizes → 1 ≤ levels → levels ≤ 64 →
    is_solid sizes instance.kind ≡ false → (base : ℕ) → instance_at table bound levels path offsets base instance ≡ empty
passed_over table bound levels path offsets wires instance sizes b i s low high hollow base = go instance.kind refl where
  go : (kind : BoundKind) → instance.kind ≡ kind → instance_at table bound levels path offsets base instance ≡ empty
  go (Cell row) is = let solid = sym (ap (is_solid sizes) is) ∙ hollow in absurd cc
  go (Module at) is =
      let found = module_there table bound wires instance at i is in
      let within = slice_get_within bound.modules at found.0 found.1 in
      let count = s.count in
      let inside : at < length sizes = omega (arith, within, count) in
      let size : Size = get_or sizes at empty_size in
      let z = s.each at size (slice_get-get_or sizes at empty_size inside) in
      let held = nothing_held size.cells size.bits (sym (ap (is_solid sizes) is) ∙ hollow) in
      let no_cells = held.0 in
      let no_bits = held.1 in
      let has_cells = z.has_cells in
      let has_bits = z.has_bits in
      let cells : cell_count bound 64 at ≡ 0 = omega (arith, has_cells, no_cells) in
      let bits : bit_count bound 64 at ≡ 0 = omega (arith, has_bits, no_bits) in
      ap (instance_piece table bound (inside_piece table bound (levels - 1)) path offsets base instance.name instance.links) is
      ∙ hollow_kind table bound (inside_piece table bound (levels - 1)) 63 at wires i.widths instance.name instance.links b bits (hollow_inside table bound b (levels - 1) 64 at (omega arith) bits cells) (sym (ap (port_widths table bound) is) ∙ i.kind) i.links path offsets base

-- there is room for a module's own wires
pub wires_room : (table : CellTable) (bound : Bound) (levels : ℕ) (path : Option (List ℕ)) (offsets : List ℕ) (before : Piece) (instance : BoundInstance) (at : ℕ) (owner : BoundModule) → instance.kind ≡ Module at → slice_get bound.modules at ≡ Some owner →
    HasRoom (joined before (instance_at table bound levels path offsets before.places instance)) → before.places + bits_of owner.wires < 4294967296
wires_room table bound levels path offsets before instance at owner is there room =
    let all = (subst HasRoom (ap (joined before) (module_at table bound levels path offsets before.places instance at owner is there)) room).0 in
    omega (arith, all)

-- the links of an instance of a module have numbers
pub module_links : (table : CellTable) (bound : Bound) (offsets inner : List ℕ) (instance : BoundInstance) (at : ℕ) (owner : BoundModule) → IsBound table bound → IsInstanceOn table bound offsets instance → instance.kind ≡ Module at → slice_get bound.modules at ≡ Some owner →
    AreOffsets inner owner.wires → All (IsNumberedLink owner.ports inner offsets) instance.links
module_links table bound offsets inner instance at owner b i is there placed = λ k d low.
    link_numbered table bound at owner i.wires i.is_instance.widths offsets inner (get_or instance.links k d) there (all_got (IsModule table bound) bound.modules at owner b.modules there) (sym (ap (port_widths table bound) is) ∙ i.is_instance.kind) i.placed placed
    (i.is_instance.links k d low)

-- a module's own wires and the links with them were written, and what is inside goes behind them
pub module_goes : (table : CellTable) (bound : Bound) (levels : ℕ) (path : Option (List ℕ)) (offsets : List ℕ) (instance : BoundInstance) (at : ℕ) (owner : BoundModule) (before placed linked : Piece) (inner : List ℕ) (name : List ℕ) → instance.kind ≡ Module at →
    slice_get bound.modules at ≡ Some owner →
    ((os : List ℕ) (base : ℕ) → inside_piece table bound (levels - 1) at (Some name) os base ≡ inside_piece table bound (levels - 1) at (Some (longer path instance.name)) os base) → inner ≡ offsets_from before.places owner.wires → placed ≡ joined before (only_places (bits_of owner.wires)) →
    linked ≡ joined placed (only_links (flat_map (links_of_link owner.ports inner offsets) instance.links)) →
    joined linked (inside_piece table bound (levels - 1) at (Some name) inner linked.places) ≡ joined before (instance_at table bound levels path offsets before.places instance)
module_goes table bound levels path offsets instance at owner before placed linked inner name is there named begins e f =
    let first = offsets_from before.places owner.wires in
    let links = flat_map (links_of_link owner.ports first offsets) instance.links in
    let inside = inside_piece table bound (levels - 1) at in
    ap (joined linked) (named inner linked.places)
    ∙ ap (λ (os : List ℕ). joined linked (inside (Some (longer path instance.name)) os linked.places)) begins
    ∙ module_step before placed linked (bits_of owner.wires) links (inside (Some (longer path instance.name)) first) e (f ∙ ap (λ (os : List ℕ). joined placed (only_links (flat_map (links_of_link owner.ports os offsets) instance.links))) begins)
    ∙ ap (joined before) (sym (module_at table bound levels path offsets before.places instance at owner is there))
