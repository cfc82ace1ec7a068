-- The numbers at the pins of pieces are those of the places at the pins of the cells.
use Rattle.std.proofs.Common.{◌≡◌, ◌∙◌, ◌+◌, ℕ, zero, suc, Bool, true, false, cond, eqb, List, [], ◌∷◌, ◌++◌, map, take, sum_by, Option, Some, None, refl, sym, ap, subst, arith, append-nil}
use Rattle.std.specs.Prelude.{slice_get, slice_index, unwrap_or}
use Rattle.std.specs.Option.{option_map, option_and_then}
use Rattle.std.specs.List.{All, flat_map, enumerate_from, range_with_len}
use Rattle.std.proofs.lemmas.List.Elements.{All-head, All-tail, All-nil}
use Rattle.std.proofs.lemmas.List.Folds.{flat_map-map}
use Rattle.flat_aliases.specs.declared.link.Link.{Link}
use Rattle.rsfq_ids.specs.declared.table.CellTable.{CellTable}
use Rattle.rsfq_ids.specs.declared.table.CellRow.{CellRow}
use Rattle.bind_forms.specs.declared.bound.BoundKind.{BoundKind}
use Rattle.bind_forms.specs.declared.bound.BoundKind.TheVariants.{Module, Cell}
use Rattle.bind_forms.specs.declared.bound.BoundPart.{BoundPart}
use Rattle.bind_forms.specs.declared.bound.BoundLink.{BoundLink}
use Rattle.bind_forms.specs.declared.bound.BoundWire.{BoundWire}
use Rattle.bind_forms.specs.declared.bound.BoundInstance.{BoundInstance}
use Rattle.bind_forms.specs.declared.bound.Bound.{Bound}
use Rattle.bind_forms.specs.WellFormed.{IsBound, IsInstance, IsLink, IsPart, port_widths}
use Rattle.flat_places.specs.Hierarchy.{instances_of, wires_of, module_of, bits_of, bits_by, bit_count, IsDeeper}
use Rattle.flat_places.specs.Places.{Place, CellAt, deeper_place, deeper_cell, cells_by, cells_in}
use Rattle.flat_places.specs.Hops.{assigns_of, ports_of}
use Rattle.flat_places.specs.Numbers.{bits_before}
use Rattle.flat_places.proofs.Followed.{not_deeper}
use Rattle.flat_places.specs.Paths.{longer}
use Rattle.flat_places.specs.Bits.{offsets_from, assign_links, linked_parts, linked_number, linked_numbers}
use Rattle.flat_places.specs.Pieces.{Piece, empty, joined, only_places, only_links, cell_piece, links_of_link, instance_piece, pieces_from, inside_piece, reading_of}
use Rattle.flat_places.specs.Numbered.{number_from, inside_from, pin_place, pin_numbers, from_none, outputs_of}
use Rattle.flat_places.proofs.Lists.{map_same, flat_each, flat_flat, pieces_list}
use Rattle.flat_places.proofs.Unfolded.{instance_with, inside_more, of_module, are_fit, module_there, row_there}
use Rattle.flat_places.proofs.Sizes.{one_size, inside_size}
use Rattle.flat_places.proofs.Linked.{deeper_number, offset_is}
use Rattle.flat_places.proofs.Celled.{cells_more, cell_there}
use Rattle.flat_places.proofs.Joined.{all_got}
use Rattle.flat_places.proofs.Numbered.{number_own}

-- a part of pieces: numbers of places at as many pins of each cell, from one on
pub record IsPinned (get : Piece → List (Option ℕ)) (first count : CellRow → ℕ) : Type 0 where
  pub join : (one other : Piece) → get (joined one other) ≡ get one ++ get other
  pub places : (count : ℕ) → get (only_places count) ≡ []
  pub links : (links : List Link) → get (only_links links) ≡ []
  pub cell : (path : List ℕ) (number : ℕ) (row : CellRow) (links : List BoundLink) (offsets : List ℕ) → get (cell_piece path number row links offsets) ≡ linked_numbers offsets links (first row) (count row)

pub reads_pinned : IsPinned (λ (p : Piece). p.reads) from_none reading_of
reads_pinned = record { join = λ a b. refl; places = λ n. refl; links = λ l. refl; cell = λ path number row links offsets. refl }

pub outputs_pinned : IsPinned (λ (p : Piece). p.outputs) reading_of outputs_of
outputs_pinned = record { join = λ a b. refl; places = λ n. refl; links = λ l. refl; cell = λ path number row links offsets. refl }

-- ---- what a port is linked to

pub linked_fit : (wires : List BoundWire) (widths : List ℕ) (links : List BoundLink) (port : ℕ) → All (IsLink wires widths) links → All (IsPart wires) (linked_parts links port)
linked_fit wires widths [] port all = All-nil (IsPart wires)
linked_fit wires widths (link ∷ links) port all = go (linked_fit wires widths links port (All-tail (IsLink wires widths) link links all)) (eqb link.port port) where
  go : All (IsPart wires) (linked_parts links port) → (b : Bool) → All (IsPart wires) (cond b link.parts (linked_parts links port))
  go rest true = (All-head (IsLink wires widths) link links all).parts
  go rest false = rest

-- the number of the place at a pin of the module's own cell
last_pin : (table : CellTable) (bound : Bound) → IsBound table bound → (levels at start i : ℕ) (x : BoundInstance) → slice_get (instances_of bound at) i ≡ Some x → IsInstance table bound (wires_of bound at) x → (port : ℕ) →
    linked_number (offsets_from start (wires_of bound at)) x.links port ≡ option_map (number_from bound levels at start) (pin_place bound at (i ∷ []) port)
last_pin table bound is levels at start i x e fit port =
    by_part (slice_get (linked_parts x.links port) 0) refl
    ∙ ap (λ (o : Option BoundInstance). option_map (number_from bound levels at start) (option_and_then (λ (declared : BoundInstance). option_map (λ (part : BoundPart). record { path = []; wire = part.wire; bit = part.bit }) (slice_get (linked_parts declared.links port) 0)) o)) (sym e)
  where
    by_part : (o : Option BoundPart) → slice_get (linked_parts x.links port) 0 ≡ o → option_map (λ (part : BoundPart). slice_index (offsets_from start (wires_of bound at)) part.wire + part.bit) o
        ≡ option_map (number_from bound levels at start) (option_map (λ (part : BoundPart). record { path = []; wire = part.wire; bit = part.bit }) o)
    by_part None f = refl
    by_part (Some part) f =
        let p = all_got (IsPart (wires_of bound at)) (linked_parts x.links port) 0 part (linked_fit (wires_of bound at) fit.widths x.links port fit.links) f in
        let off = offset_is start (wires_of bound at) part.wire p.wire p.there in
        let own = number_own bound levels at part.wire part.bit in
        ap Some (omega (arith, off, own))

-- that of a place inside an instance
deeper_pin : (bound : Bound) (levels at start i inner : ℕ) (x : BoundInstance) → slice_get (instances_of bound at) i ≡ Some x → x.kind ≡ Module inner → (next : ℕ) (path : List ℕ) (port : ℕ) →
    option_map (number_from bound levels inner (start + bits_before bound levels at i)) (pin_place bound inner (next ∷ path) port) ≡ option_map (number_from bound (suc levels) at start) (pin_place bound at (i ∷ (next ∷ path)) port)
deeper_pin bound levels at start i inner x e k next path port =
    by_place (pin_place bound inner (next ∷ path) port)
    ∙ ap (λ (o : Option ℕ). option_map (number_from bound (suc levels) at start) (option_and_then (λ inner. option_map (deeper_place i) (pin_place bound inner (next ∷ path) port)) o)) (sym opened)
  where
    opened : option_and_then (λ (declared : BoundInstance). module_of declared.kind) (slice_get (instances_of bound at) i) ≡ Some inner
    opened = ap (option_and_then (λ (declared : BoundInstance). module_of declared.kind)) e ∙ ap module_of k

    by_place : (o : Option Place) → option_map (number_from bound levels inner (start + bits_before bound levels at i)) o ≡ option_map (number_from bound (suc levels) at start) (option_map (deeper_place i) o)
    by_place None = refl
    by_place (Some place) = ap Some (sym (deeper_number bound levels at start i inner x place e k))

deeper_pins : (table : CellTable) (bound : Bound) (first count : CellRow → ℕ) (levels at start i inner : ℕ) (x : BoundInstance) → slice_get (instances_of bound at) i ≡ Some x → x.kind ≡ Module inner → (cell : CellAt) (next : ℕ) (path : List ℕ) → cell.path ≡ next ∷ path →
    pin_numbers table bound levels inner (start + bits_before bound levels at i) first count cell ≡ pin_numbers table bound (suc levels) at start first count (deeper_cell i cell)
deeper_pins table bound first count levels at start i inner x e k cell next path is =
    ap (λ (p : List ℕ). pin_numbers table bound levels inner (start + bits_before bound levels at i) first count (record { path = p; row = cell.row })) is
    ∙ by_row (slice_get table.rows cell.row)
    ∙ ap (λ (p : List ℕ). pin_numbers table bound (suc levels) at start first count (record { path = i ∷ p; row = cell.row })) (sym is)
  where
    by_row : (o : Option CellRow) →
        unwrap_or (option_map (λ (row : CellRow). map (λ port. option_map (number_from bound levels inner (start + bits_before bound levels at i)) (pin_place bound inner (next ∷ path) port)) (range_with_len (first row) (count row))) o) []
        ≡ unwrap_or (option_map (λ (row : CellRow). map (λ port. option_map (number_from bound (suc levels) at start) (pin_place bound at (i ∷ (next ∷ path)) port)) (range_with_len (first row) (count row))) o) []
    by_row None = refl
    by_row (Some row) = map_same (λ (port : ℕ). option_map (number_from bound levels inner (start + bits_before bound levels at i)) (pin_place bound inner (next ∷ path) port)) (λ (port : ℕ). option_map (number_from bound (suc levels) at start) (pin_place bound at (i ∷ (next ∷ path)) port)) (range_with_len (first row) (count row)) (λ port. deeper_pin bound levels at start i inner x e k next path port)

-- ---- pieces

one_pinned : (table : CellTable) (bound : Bound) → IsBound table bound → (get : Piece → List (Option ℕ)) (first count : CellRow → ℕ) → IsPinned get first count → (levels at : ℕ) → (IsDeeper bound (suc levels) at → ⊥) →
    ((inner : ℕ) → (IsDeeper bound levels inner → ⊥) → (path : Option (List ℕ)) (start : ℕ) → get (inside_from table bound levels inner path start) ≡ flat_map (pin_numbers table bound levels inner start first count) (cells_in bound levels inner)) →
    (path : Option (List ℕ)) (start i : ℕ) (x : BoundInstance) → slice_get (instances_of bound at) i ≡ Some x →
    get (instance_with table bound levels path (offsets_from start (wires_of bound at)) (start + bits_before bound levels at i) x) ≡ flat_map (pin_numbers table bound (suc levels) at start first count) (cells_by (cells_in bound levels) i x.kind)
one_pinned table bound is get first count pinned levels at deep law path start i x e = go x.kind refl where
  fit : IsInstance table bound (wires_of bound at) x
  fit = all_got (IsInstance table bound (wires_of bound at)) (instances_of bound at) i x (are_fit table bound is at).instances e

  go : (kind : BoundKind) → x.kind ≡ kind → get (instance_piece table bound (inside_piece table bound levels) path (offsets_from start (wires_of bound at)) (start + bits_before bound levels at i) x.name x.links kind)
      ≡ flat_map (pin_numbers table bound (suc levels) at start first count) (cells_by (cells_in bound levels) i kind)
  go (Cell number) k =
      let offsets = offsets_from start (wires_of bound at) in
      let row = row_there table bound number fit.widths (subst (λ (kind : BoundKind). port_widths table bound kind ≡ Some fit.widths) k fit.kind) in
      ap (λ (o : Option CellRow). get (unwrap_or (option_map (λ (r : CellRow). cell_piece (longer path x.name) number r x.links offsets) o) empty)) row.1
      ∙ pinned.cell (longer path x.name) number row.0 x.links offsets
      ∙ map_same (linked_number offsets x.links) (λ (port : ℕ). option_map (number_from bound (suc levels) at start) (pin_place bound at (i ∷ []) port)) (range_with_len (first row.0) (count row.0))
      (λ port. last_pin table bound is (suc levels) at start i x e fit port)
      ∙ ap (λ (o : Option CellRow). unwrap_or (option_map (λ (row : CellRow). map (λ port. option_map (number_from bound (suc levels) at start) (pin_place bound at (i ∷ []) port)) (range_with_len (first row) (count row))) o) []) (sym row.1)
      ∙ sym (append-nil (pin_numbers table bound (suc levels) at start first count (record { path = i ∷ []; row = number })))
  go (Module inner) k =
      let there = module_there table bound inner fit.widths (subst (λ (kind : BoundKind). port_widths table bound kind ≡ Some fit.widths) k fit.kind) in
      let base = start + bits_before bound levels at i in
      let whole = ap get (of_module table bound levels inner path (offsets_from start (wires_of bound at)) base x.name x.links there) in
      let inside = law inner (not_deeper bound levels at i inner x e k deep) (Some (longer path x.name)) base in
      let rest = inside_from table bound levels inner (Some (longer path x.name)) base in
      let links = flat_map (links_of_link (ports_of bound inner) (offsets_from base (wires_of bound inner)) (offsets_from start (wires_of bound at))) x.links in
      whole
      ∙ pinned.join (only_places (bits_of (wires_of bound inner))) (joined (only_links links) rest)
      ∙ ap (λ (r : List (Option ℕ)). r ++ get (joined (only_links links) rest)) (pinned.places (bits_of (wires_of bound inner)))
      ∙ pinned.join (only_links links) rest
      ∙ ap (λ (r : List (Option ℕ)). r ++ get rest) (pinned.links links)
      ∙ inside
      ∙ flat_each (pin_numbers table bound levels inner base first count) (λ (cell : CellAt). pin_numbers table bound (suc levels) at start first count (deeper_cell i cell)) (cells_in bound levels inner)
      (λ j cell f. let t = cell_there bound levels inner j cell f in deeper_pins table bound first count levels at start i inner x e k cell t.0 t.2 t.4)
      ∙ sym (flat_map-map (pin_numbers table bound (suc levels) at start first count) (deeper_cell i) (cells_in bound levels inner))

pub inside_pins : (table : CellTable) (bound : Bound) → IsBound table bound → (get : Piece → List (Option ℕ)) (first count : CellRow → ℕ) → IsPinned get first count → (levels at : ℕ) → (IsDeeper bound levels at → ⊥) → (path : Option (List ℕ)) (start : ℕ) →
    get (inside_from table bound levels at path start) ≡ flat_map (pin_numbers table bound levels at start first count) (cells_in bound levels at)
inside_pins table bound is get first count pinned zero at deep path start = absurd (deep ([], refl, refl))
inside_pins table bound is get first count pinned (suc levels) at deep path start =
    let offsets = offsets_from start (wires_of bound at) in
    let one = instance_with table bound levels path offsets in
    let size = λ (instance : BoundInstance). bits_by (bit_count bound levels) instance.kind in
    let pins = pin_numbers table bound (suc levels) at start first count in
    let cells = λ (p : ℕ × BoundInstance). cells_by (cells_in bound levels) p.0 p.1.kind in
    let links = flat_map (assign_links offsets) (assigns_of bound at) in
    let rest = pieces_from one (start + bits_of (wires_of bound at)) (instances_of bound at) in
    ap get (inside_more table bound levels at path offsets (start + bits_of (wires_of bound at)))
    ∙ pinned.join (only_links links) rest
    ∙ ap (λ (r : List (Option ℕ)). r ++ get rest) (pinned.links links)
    ∙ pieces_list get pinned.join (pinned.places 0) one size (λ (p : ℕ × BoundInstance). flat_map pins (cells p)) (start + bits_of (wires_of bound at)) 0 (instances_of bound at)
    (λ i x e b. one_size table bound is levels at deep (inside_size table bound is levels) path offsets i x e b)
    (λ i x e.
    let b : start + bits_before bound levels at i ≡ start + bits_of (wires_of bound at) + sum_by size (take i (instances_of bound at)) = omega arith in
    let z : i ≡ 0 + i = omega arith in
    subst (λ (c : ℕ). get (one c x) ≡ flat_map pins (cells (0 + i, x))) b (subst (λ (k : ℕ). get (one (start + bits_before bound levels at i) x) ≡ flat_map pins (cells (k, x))) z
    (one_pinned table bound is get first count pinned levels at deep (inside_pins table bound is get first count pinned levels) path start i x e)))
    ∙ sym (flat_flat pins cells (enumerate_from 0 (instances_of bound at)))
    ∙ ap (flat_map pins) (sym (cells_more bound levels at))
