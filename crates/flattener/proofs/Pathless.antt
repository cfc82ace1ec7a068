-- What is inside a module without cells does not depend on the path that leads to it.
use Rattle.std.proofs.Common.{◌≡◌, ◌∙◌, ◌+◌, ◌-◌, ◌<◌, ◌≤◌, ℕ, zero, suc, List, [], ◌∷◌, Option, Some, None, refl, ap, arith}
use Rattle.std.specs.Prelude.{slice_get, unwrap_or}
use Rattle.std.specs.Option.{option_map}
use Rattle.std.specs.List.{flat_map}
use Rattle.rsfq_ids.specs.declared.table.CellTable.{CellTable}
use Rattle.bind_forms.specs.declared.bound.BoundLink.{BoundLink}
use Rattle.bind_forms.specs.declared.bound.BoundInstance.{BoundInstance}
use Rattle.bind_forms.specs.declared.bound.BoundModule.{BoundModule}
use Rattle.bind_forms.specs.declared.bound.Bound.{Bound}
use Rattle.bind_forms.specs.declared.bound.BoundKind.{BoundKind}
use Rattle.bind_forms.specs.declared.bound.BoundKind.TheVariants.{Module, Cell}
use Rattle.flat_places.specs.declared.size.Size.{Size}
use Rattle.flat_places.specs.Assigns.{different}
use Rattle.flat_places.specs.Hierarchy.{bits_of, cells_by, cell_count}
use Rattle.flat_places.specs.Sizes.{AreSizes}
use Rattle.flat_places.specs.Bits.{offsets_from, assign_links}
use Rattle.flat_places.specs.Paths.{longer}
use Rattle.flat_places.specs.Pieces.{Piece, empty, joined, only_places, only_links, links_of_link, module_piece, instance_piece, pieces_from, inside_piece}
use Rattle.flattener.proofs.Hollow.{inner_cells}

-- what is inside modules that count no cells is the same behind each path
abbrev IsPathless : (ℕ → ℕ) → (ℕ → Option (List ℕ) → List ℕ → ℕ → Piece) → Type 0
IsPathless count inside = (inner : ℕ) → count inner ≡ 0 → (one other : Option (List ℕ)) (offsets : List ℕ) (base : ℕ) → inside inner one offsets base ≡ inside inner other offsets base

same_kind : (table : CellTable) (bound : Bound) (count : ℕ → ℕ) (inside : ℕ → Option (List ℕ) → List ℕ → ℕ → Piece) → IsPathless count inside → (name : List ℕ) (links : List BoundLink) (kind : BoundKind) → cells_by count kind ≡ 0 →
    (one other : Option (List ℕ)) (offsets : List ℕ) (base : ℕ) → instance_piece table bound inside one offsets base name links kind ≡ instance_piece table bound inside other offsets base name links kind
same_kind table bound count inside law name links (Cell row) none one other offsets base = absurd cc
same_kind table bound count inside law name links (Module at) none one other offsets base = go (slice_get bound.modules at) where
  behind : Option (List ℕ) → BoundModule → Piece
  behind path owner = module_piece (inside at (Some (longer path name))) offsets base owner links

  go : (o : Option BoundModule) → unwrap_or (option_map (behind one) o) empty ≡ unwrap_or (option_map (behind other) o) empty
  go None = refl
  go (Some owner) =
      let inner = offsets_from base owner.wires in
      ap (λ (p : Piece). joined (only_places (bits_of owner.wires)) (joined (only_links (flat_map (links_of_link owner.ports inner offsets) links)) p))
      (law at none (Some (longer one name)) (Some (longer other name)) inner (base + bits_of owner.wires))

same_pieces : (one other : ℕ → BoundInstance → Piece) (instances : List BoundInstance) → ((k : ℕ) (instance : BoundInstance) → slice_get instances k ≡ Some instance → (base : ℕ) → one base instance ≡ other base instance) → (base : ℕ) →
    pieces_from one base instances ≡ pieces_from other base instances
same_pieces one other [] law base = refl
same_pieces one other (instance ∷ instances) law base =
    ap (λ (p : Piece). joined p (pieces_from one (base + p.places) instances)) (law 0 instance refl base)
    ∙ ap (joined (other base instance)) (same_pieces one other instances (λ k i e. law (suc k) i e) (base + (other base instance).places))

same_inside : (table : CellTable) (bound : Bound) (levels counted at : ℕ) → levels ≤ counted → cell_count bound counted at ≡ 0 → (one other : Option (List ℕ)) (offsets : List ℕ) (base : ℕ) →
    inside_piece table bound levels at one offsets base ≡ inside_piece table bound levels at other offsets base
unfolding inside_piece
same_inside table bound zero counted at low none one other offsets base = refl
same_inside table bound (suc levels) zero at low none one other offsets base = absurd (omega arith)
same_inside table bound (suc levels) (suc counted) at low none one other offsets base = go (λ inner. same_inside table bound levels counted inner (omega arith)) (slice_get bound.modules at) refl where
  behind : Option (List ℕ) → ℕ → BoundInstance → Piece
  behind path from instance = instance_piece table bound (inside_piece table bound levels) path offsets from instance.name instance.links instance.kind

  go : IsPathless (cell_count bound counted) (inside_piece table bound levels) → (o : Option BoundModule) → slice_get bound.modules at ≡ o →
      unwrap_or (option_map (λ (owner : BoundModule). joined (only_links (flat_map (assign_links offsets) (different owner.assigns))) (pieces_from (behind one) base owner.instances)) o) empty
      ≡ unwrap_or (option_map (λ (owner : BoundModule). joined (only_links (flat_map (assign_links offsets) (different owner.assigns))) (pieces_from (behind other) base owner.instances)) o) empty
  go law None is = refl
  go law (Some owner) is =
      ap (joined (only_links (flat_map (assign_links offsets) (different owner.assigns))))
      (same_pieces (behind one) (behind other) owner.instances (λ k instance e from. same_kind table bound (cell_count bound counted) (inside_piece table bound levels) law instance.name instance.links instance.kind (inner_cells bound counted at owner is none k instance e) one other offsets from) base)

-- a name that is the path wherever the module has cells is as good as the path
pub path_free : (table : CellTable) (bound : Bound) (levels at : ℕ) (sizes : List Size) (size : Size) (name path : List ℕ) → AreSizes bound 64 sizes → slice_get sizes at ≡ Some size → levels ≤ 64 → (0 < size.cells → name ≡ path) → (offsets : List ℕ) (base : ℕ) →
    inside_piece table bound (levels - 1) at (Some name) offsets base ≡ inside_piece table bound (levels - 1) at (Some path) offsets base
path_free table bound levels at sizes size name path s there low named offsets base = go size.cells refl where
  go : (n : ℕ) → size.cells ≡ n → inside_piece table bound (levels - 1) at (Some name) offsets base ≡ inside_piece table bound (levels - 1) at (Some path) offsets base
  go zero e = let has_cells = (s.each at size there).has_cells in same_inside table bound (levels - 1) 64 at (omega arith) (omega (arith, has_cells, e)) (Some name) (Some path) offsets base
  go (suc n) e = ap (λ (p : List ℕ). inside_piece table bound (levels - 1) at (Some p) offsets base) (named (omega (arith, e)))
