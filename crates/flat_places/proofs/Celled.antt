-- The cells of pieces are the cells, by their printed paths.
use Rattle.std.proofs.Common.{◌≡◌, ◌∙◌, ◌+◌, ℕ, zero, suc, List, [], ◌∷◌, ◌++◌, map, take, sum_by, Option, Some, None, refl, sym, ap, subst, arith, append_assoc}
use Rattle.std.specs.Prelude.{slice_get, unwrap_or, option_to_list}
use Rattle.std.specs.Option.{option_map, option_and_then}
use Rattle.std.specs.List.{flat_map, enumerate_from}
use Rattle.std.proofs.lemmas.Simd.{map-map}
use Rattle.std.proofs.lemmas.Option.{same_Some}
use Rattle.rsfq_ids.specs.declared.table.CellTable.{CellTable}
use Rattle.rsfq_ids.specs.declared.table.CellRow.{CellRow}
use Rattle.rsfq_ids.specs.declared.circuit.FlatCell.{FlatCell}
use Rattle.bind_forms.specs.declared.bound.BoundKind.{BoundKind}
use Rattle.bind_forms.specs.declared.bound.BoundKind.TheVariants.{Module, Cell}
use Rattle.bind_forms.specs.declared.bound.BoundInstance.{BoundInstance}
use Rattle.bind_forms.specs.declared.bound.Bound.{Bound}
use Rattle.bind_forms.specs.WellFormed.{IsBound, IsInstance, port_widths}
use Rattle.flat_places.specs.Hierarchy.{instances_of, wires_of, module_of, bits_of, bits_by, bit_count, IsDeeper}
use Rattle.flat_places.specs.Places.{CellAt, deeper_cell, cells_by, cells_in}
use Rattle.flat_places.specs.Names.{names_along, dotted}
use Rattle.flat_places.proofs.Joined.{flat_got, map_got, all_got}
use Rattle.flat_places.proofs.Followed.{not_deeper}
use Rattle.flat_places.specs.Paths.{longer}
use Rattle.flat_places.specs.Bits.{offsets_from}
use Rattle.flat_places.specs.Pieces.{Piece, empty, cell_piece, instance_piece, inside_piece}
use Rattle.flat_places.specs.Numbered.{printed_cell}
use Rattle.flat_places.proofs.Lists.{flat_same, map_each, pieces_list}
use Rattle.flat_places.proofs.Unfolded.{instance_with, inside_more, of_module, are_fit, module_there, row_there}
use Rattle.flat_places.proofs.Sizes.{one_size, inside_size}

pub cells_none : (bound : Bound) (at : ℕ) → cells_in bound 0 at ≡ []
unfolding cells_in
cells_none bound at = refl

pub cells_more : (bound : Bound) (levels at : ℕ) → cells_in bound (suc levels) at ≡ flat_map (λ ((instance, declared) : ℕ × BoundInstance). cells_by (cells_in bound levels) instance declared.kind) (enumerate_from 0 (instances_of bound at))
unfolding cells_in
cells_more bound levels at = refl

-- ---- names

pub names_more : (bound : Bound) (at instance inner : ℕ) (declared : BoundInstance) (path : List ℕ) → slice_get (instances_of bound at) instance ≡ Some declared → declared.kind ≡ Module inner →
    names_along bound at (instance ∷ path) ≡ declared.name ∷ names_along bound inner path
names_more bound at instance inner declared path e k =
    ap (λ (o : Option BoundInstance). option_to_list (option_map (λ (i : BoundInstance). i.name) o) ++ unwrap_or (option_map (λ inner. names_along bound inner path) (option_and_then (λ (i : BoundInstance). module_of i.kind) o)) []) e
    ∙ ap (λ (kind : BoundKind). declared.name ∷ unwrap_or (option_map (λ inner. names_along bound inner path) (module_of kind)) []) k

pub names_last : (bound : Bound) (at instance number : ℕ) (declared : BoundInstance) → slice_get (instances_of bound at) instance ≡ Some declared → declared.kind ≡ Cell number →
    names_along bound at (instance ∷ []) ≡ declared.name ∷ []
names_last bound at instance number declared e k =
    ap (λ (o : Option BoundInstance). option_to_list (option_map (λ (i : BoundInstance). i.name) o) ++ unwrap_or (option_map (λ inner. names_along bound inner []) (option_and_then (λ (i : BoundInstance). module_of i.kind) o)) []) e
    ∙ ap (λ (kind : BoundKind). declared.name ∷ unwrap_or (option_map (λ inner. names_along bound inner []) (module_of kind)) []) k

-- the path of a listed cell goes through an instance
pub cell_there : (bound : Bound) (levels at k : ℕ) (cell : CellAt) → slice_get (cells_in bound levels at) k ≡ Some cell →
    (instance : ℕ) × (declared : BoundInstance) × (path : List ℕ) × (slice_get (instances_of bound at) instance ≡ Some declared) × (cell.path ≡ instance ∷ path)
cell_there bound zero at k cell e = absurd (nothing (sym (ap (λ (cs : List CellAt). slice_get cs k) (cells_none bound at)) ∙ e)) where
  nothing : None ≡ Some cell → ⊥
  nothing f = cc
cell_there bound (suc levels) at k cell e =
    let r = flat_got (λ ((instance, declared) : ℕ × BoundInstance). cells_by (cells_in bound levels) instance declared.kind) 0 (instances_of bound at) k cell (subst (λ (cs : List CellAt). slice_get cs k ≡ Some cell) (cells_more bound levels at) e) in
    let z : 0 + r.0 ≡ r.0 = omega arith in
    by_kind r.0 r.1 r.2 r.3 r.1.kind (subst (λ (n : ℕ). slice_get (cells_by (cells_in bound levels) n r.1.kind) r.2 ≡ Some cell) z r.4)
  where
    by_kind : (instance : ℕ) (declared : BoundInstance) (j : ℕ) → slice_get (instances_of bound at) instance ≡ Some declared → (kind : BoundKind) → slice_get (cells_by (cells_in bound levels) instance kind) j ≡ Some cell →
        (instance : ℕ) × (declared : BoundInstance) × (path : List ℕ) × (slice_get (instances_of bound at) instance ≡ Some declared) × (cell.path ≡ instance ∷ path)
    by_kind instance declared j there (Module inner) got = let m = map_got (deeper_cell instance) (cells_in bound levels inner) j cell got in (instance, declared, m.0.path, there, sym (ap (λ (c : CellAt). c.path) m.2))
    by_kind instance declared zero there (Cell row) got = (instance, declared, [], there, sym (ap (λ (c : CellAt). c.path) (same_Some (record { path = instance ∷ []; row = row }) cell got)))
    by_kind instance declared (suc j) there (Cell row) got = absurd cc

-- the names along it begin with that of the instance
pub names_there : (bound : Bound) (levels at k : ℕ) (cell : CellAt) → slice_get (cells_in bound levels at) k ≡ Some cell → (name : List ℕ) × (names : List (List ℕ)) × (names_along bound at cell.path ≡ name ∷ names)
names_there bound levels at k cell e =
    let t = cell_there bound levels at k cell e in (
      t.1.name,
      unwrap_or (option_map (λ inner. names_along bound inner t.2) (option_and_then (λ (i : BoundInstance). module_of i.kind) (Some t.1))) [],
      ap (λ (path : List ℕ). names_along bound at path) t.4
          ∙ ap (λ (o : Option BoundInstance). option_to_list (option_map (λ (i : BoundInstance). i.name) o) ++ unwrap_or (option_map (λ inner. names_along bound inner t.2) (option_and_then (λ (i : BoundInstance). module_of i.kind) o)) []) t.3,
    )

longer_dotted : (path : Option (List ℕ)) (name : List ℕ) (names : List (List ℕ)) (next : List ℕ) (rest : List (List ℕ)) → names ≡ next ∷ rest → longer (Some (longer path name)) (dotted names) ≡ longer path (dotted (name ∷ names))
longer_dotted path name names next rest e =
    ap (λ (ns : List (List ℕ)). longer (Some (longer path name)) (dotted ns)) e ∙ by_path path ∙ ap (λ (ns : List (List ℕ)). longer path (dotted (name ∷ ns))) (sym e)
  where
    by_path : (path : Option (List ℕ)) → longer (Some (longer path name)) (dotted (next ∷ rest)) ≡ longer path (dotted (name ∷ (next ∷ rest)))
    by_path None = refl
    by_path (Some p) = append_assoc p (46 ∷ name) (46 ∷ dotted (next ∷ rest))

-- ---- pieces

one_celled : (table : CellTable) (bound : Bound) → IsBound table bound → (levels at : ℕ) → (IsDeeper bound (suc levels) at → ⊥) →
    ((inner : ℕ) → (IsDeeper bound levels inner → ⊥) → (path : Option (List ℕ)) (offsets : List ℕ) (base : ℕ) → (inside_piece table bound levels inner path offsets base).cells ≡ map (printed_cell bound inner path) (cells_in bound levels inner)) →
    (path : Option (List ℕ)) (offsets : List ℕ) (base i : ℕ) (x : BoundInstance) → slice_get (instances_of bound at) i ≡ Some x →
    (instance_with table bound levels path offsets base x).cells ≡ map (printed_cell bound at path) (cells_by (cells_in bound levels) i x.kind)
one_celled table bound is levels at deep law path offsets base i x e = go x.kind refl where
  fit : IsInstance table bound (wires_of bound at) x
  fit = all_got (IsInstance table bound (wires_of bound at)) (instances_of bound at) i x (are_fit table bound is at).instances e

  go : (kind : BoundKind) → x.kind ≡ kind → (instance_piece table bound (inside_piece table bound levels) path offsets base x.name x.links kind).cells ≡ map (printed_cell bound at path) (cells_by (cells_in bound levels) i kind)
  go (Cell number) k =
      let row = row_there table bound number fit.widths (subst (λ (kind : BoundKind). port_widths table bound kind ≡ Some fit.widths) k fit.kind) in
      ap (λ (o : Option CellRow). (unwrap_or (option_map (λ (r : CellRow). cell_piece (longer path x.name) number r x.links offsets) o) empty).cells) row.1
      ∙ ap (λ (names : List (List ℕ)). let c : FlatCell = record { path = longer path (dotted names); row = number } in c ∷ []) (sym (names_last bound at i number x e k))
  go (Module inner) k =
      let there = module_there table bound inner fit.widths (subst (λ (kind : BoundKind). port_widths table bound kind ≡ Some fit.widths) k fit.kind) in
      let whole = ap (λ (p : Piece). p.cells) (of_module table bound levels inner path offsets base x.name x.links there) in
      let inside = law inner (not_deeper bound levels at i inner x e k deep) (Some (longer path x.name)) (offsets_from base (wires_of bound inner)) (base + bits_of (wires_of bound inner)) in
      whole ∙ inside
      ∙ map_each (printed_cell bound inner (Some (longer path x.name))) (λ (cell : CellAt). printed_cell bound at path (deeper_cell i cell)) (cells_in bound levels inner)
      (λ j cell f. let n = names_there bound levels inner j cell f in
      ap (λ (name : List ℕ). let c : FlatCell = record { path = name; row = cell.row } in c) (longer_dotted path x.name (names_along bound inner cell.path) n.0 n.1 n.2 ∙ ap (λ (ns : List (List ℕ)). longer path (dotted ns)) (sym (names_more bound at i inner x cell.path e k))))
      ∙ sym (map-map (printed_cell bound at path) (deeper_cell i) (cells_in bound levels inner))

pub inside_cells : (table : CellTable) (bound : Bound) → IsBound table bound → (levels at : ℕ) → (IsDeeper bound levels at → ⊥) → (path : Option (List ℕ)) (offsets : List ℕ) (base : ℕ) →
    (inside_piece table bound levels at path offsets base).cells ≡ map (printed_cell bound at path) (cells_in bound levels at)
inside_cells table bound is zero at deep path offsets base = absurd (deep ([], refl, refl))
inside_cells table bound is (suc levels) at deep path offsets base =
    let one = instance_with table bound levels path offsets in
    let size = λ (instance : BoundInstance). bits_by (bit_count bound levels) instance.kind in
    let print = printed_cell bound at path in
    let cells = λ (p : ℕ × BoundInstance). cells_by (cells_in bound levels) p.0 p.1.kind in
    ap (λ (p : Piece). p.cells) (inside_more table bound levels at path offsets base)
    ∙ pieces_list (λ (p : Piece). p.cells) (λ a b. refl) refl one size (λ (p : ℕ × BoundInstance). map print (cells p)) base 0 (instances_of bound at)
    (λ i x e b. one_size table bound is levels at deep (inside_size table bound is levels) path offsets i x e b)
    (λ i x e.
    let z : i ≡ 0 + i = omega arith in
    subst (λ (k : ℕ). (one (base + sum_by size (take i (instances_of bound at))) x).cells ≡ map print (cells (k, x))) z
    (one_celled table bound is levels at deep (inside_cells table bound is levels) path offsets (base + sum_by size (take i (instances_of bound at))) i x e))
    ∙ flat_same print (λ (p : ℕ × BoundInstance). map print (cells p)) cells (enumerate_from 0 (instances_of bound at)) (λ i p e. refl)
    ∙ ap (map print) (sym (cells_more bound levels at))
