-- What the walk writes out, with modules opened, and what is known of the modules of a well-formed bound source.
use Rattle.std.proofs.Common.{◌≡◌, ◌∙◌, ◌+◌, ℕ, suc, List, [], ◌++◌, map, Option, Some, None, refl, sym, ap, subst, arith}
use Rattle.std.specs.Prelude.{slice_get, unwrap_or, IsSome}
use Rattle.std.specs.Option.{option_map}
use Rattle.std.specs.List.{All, flat_map}
use Rattle.std.proofs.lemmas.Option.{slice_get_within, get_or_from_slice_get}
use Rattle.rsfq_ids.specs.declared.table.CellTable.{CellTable}
use Rattle.rsfq_ids.specs.declared.table.CellRow.{CellRow}
use Rattle.bind_forms.specs.declared.bound.BoundKind.TheVariants.{Module, Cell}
use Rattle.bind_forms.specs.declared.bound.BoundAssign.{BoundAssign}
use Rattle.bind_forms.specs.declared.bound.BoundLink.{BoundLink}
use Rattle.bind_forms.specs.declared.bound.BoundPort.{BoundPort}
use Rattle.bind_forms.specs.declared.bound.BoundWire.{BoundWire}
use Rattle.bind_forms.specs.declared.bound.BoundInstance.{BoundInstance}
use Rattle.bind_forms.specs.declared.bound.BoundModule.{BoundModule}
use Rattle.bind_forms.specs.declared.bound.Bound.{Bound}
use Rattle.bind_forms.specs.WellFormed.{IsBound, IsModule, IsInstance, IsAssign, port_wire, port_widths, cell_ports}
use Rattle.bind_forms.specs.Bits.{width_of}
use Rattle.flat_places.specs.Hierarchy.{instances_of, wires_of, bits_of}
use Rattle.flat_places.specs.Assigns.{different}
use Rattle.flat_places.specs.Hops.{assigns_of, ports_of}
use Rattle.flat_places.proofs.Different.{all_different}
use Rattle.flat_places.specs.Paths.{longer}
use Rattle.flat_places.specs.Bits.{offsets_from, assign_links}
use Rattle.flat_places.specs.Pieces.{Piece, empty, joined, only_places, only_links, links_of_link, module_piece, instance_piece, pieces_from, inside_piece}
use Rattle.flat_places.proofs.Joined.{all_got}

-- ---- pieces

-- what an instance comes to, as deep as so many levels
abbrev pub instance_with : CellTable → Bound → ℕ → Option (List ℕ) → List ℕ → ℕ → BoundInstance → Piece
instance_with table bound levels path offsets from instance = instance_piece table bound (inside_piece table bound levels) path offsets from instance.name instance.links instance.kind

pub inside_more : (table : CellTable) (bound : Bound) (levels at : ℕ) (path : Option (List ℕ)) (offsets : List ℕ) (base : ℕ) → inside_piece table bound (suc levels) at path offsets base ≡
    joined (only_links (flat_map (assign_links offsets) (assigns_of bound at))) (pieces_from (instance_with table bound levels path offsets) base (instances_of bound at))
unfolding inside_piece
inside_more table bound levels at path offsets base = go (slice_get bound.modules at) where
  go : (o : Option BoundModule) → unwrap_or (option_map (λ (owner : BoundModule). joined (only_links (flat_map (assign_links offsets) (different owner.assigns))) (pieces_from (instance_with table bound levels path offsets) base owner.instances)) o) empty ≡
      joined (only_links (flat_map (assign_links offsets) (unwrap_or (option_map (λ (owner : BoundModule). different owner.assigns) o) [])))
      (pieces_from (instance_with table bound levels path offsets) base (unwrap_or (option_map (λ (owner : BoundModule). owner.instances) o) []))
  go None = refl
  go (Some owner) = refl

-- an instance of a module that there is
pub of_module : (table : CellTable) (bound : Bound) (levels inner : ℕ) (path : Option (List ℕ)) (offsets : List ℕ) (base : ℕ) (name : List ℕ) (links : List BoundLink) → IsSome (slice_get bound.modules inner) →
    instance_piece table bound (inside_piece table bound levels) path offsets base name links (Module inner) ≡
    joined (only_places (bits_of (wires_of bound inner)))
    (joined (only_links (flat_map (links_of_link (ports_of bound inner) (offsets_from base (wires_of bound inner)) offsets) links))
    (inside_piece table bound levels inner (Some (longer path name)) (offsets_from base (wires_of bound inner)) (base + bits_of (wires_of bound inner))))
of_module table bound levels inner path offsets base name links is = go (slice_get bound.modules inner) is where
  go : (o : Option BoundModule) → IsSome o →
      unwrap_or (option_map (λ (owner : BoundModule). module_piece (inside_piece table bound levels inner (Some (longer path name))) offsets base owner links) o) empty ≡
      joined (only_places (bits_of (unwrap_or (option_map (λ (owner : BoundModule). owner.wires) o) [])))
      (joined (only_links (flat_map (links_of_link (unwrap_or (option_map (λ (owner : BoundModule). owner.ports) o) []) (offsets_from base (unwrap_or (option_map (λ (owner : BoundModule). owner.wires) o) [])) offsets) links))
      (inside_piece table bound levels inner (Some (longer path name)) (offsets_from base (unwrap_or (option_map (λ (owner : BoundModule). owner.wires) o) [])) (base + bits_of (unwrap_or (option_map (λ (owner : BoundModule). owner.wires) o) []))))
  go None is = absurd cc
  go (Some owner) is = refl

-- ---- modules

pub record AreFit (table : CellTable) (bound : Bound) (at : ℕ) : Type 0 where
  pub assigns : All (IsAssign (wires_of bound at)) (assigns_of bound at)
  pub instances : All (IsInstance table bound (wires_of bound at)) (instances_of bound at)
  pub others : List BoundWire
  pub wires : wires_of bound at ≡ map port_wire (ports_of bound at) ++ others

pub are_fit : (table : CellTable) (bound : Bound) → IsBound table bound → (at : ℕ) → AreFit table bound at
are_fit table bound is at = go (slice_get bound.modules at) refl where
  of_owner : (owner : BoundModule) → IsModule table bound owner → slice_get bound.modules at ≡ Some owner → AreFit table bound at
  of_owner owner fit e =
      let wires : owner.wires ≡ wires_of bound at = sym (ap (λ (o : Option BoundModule). unwrap_or (option_map (λ (m : BoundModule). m.wires) o) []) e) in
      let ports : owner.ports ≡ ports_of bound at = sym (ap (λ (o : Option BoundModule). unwrap_or (option_map (λ (m : BoundModule). m.ports) o) []) e) in
      let assigns : different owner.assigns ≡ assigns_of bound at = sym (ap (λ (o : Option BoundModule). unwrap_or (option_map (λ (m : BoundModule). different m.assigns) o) []) e) in
      let instances : owner.instances ≡ instances_of bound at = sym (ap (λ (o : Option BoundModule). unwrap_or (option_map (λ (m : BoundModule). m.instances) o) []) e) in
      record {
        assigns = subst (λ (xs : List BoundAssign). All (IsAssign (wires_of bound at)) xs) assigns (all_different (IsAssign (wires_of bound at)) owner.assigns (subst (λ (ws : List BoundWire). All (IsAssign ws) owner.assigns) wires fit.assigns));
        instances = subst (λ (xs : List BoundInstance). All (IsInstance table bound (wires_of bound at)) xs) instances (subst (λ (ws : List BoundWire). All (IsInstance table bound ws) owner.instances) wires fit.instances);
        others = fit.others;
        wires = sym wires ∙ fit.wires ∙ ap (λ (ps : List BoundPort). map port_wire ps ++ fit.others) ports;
      }

  of_none : slice_get bound.modules at ≡ None → AreFit table bound at
  of_none e =
      let wires : [] ≡ wires_of bound at = sym (ap (λ (o : Option BoundModule). unwrap_or (option_map (λ (m : BoundModule). m.wires) o) []) e) in
      let ports : [] ≡ ports_of bound at = sym (ap (λ (o : Option BoundModule). unwrap_or (option_map (λ (m : BoundModule). m.ports) o) []) e) in
      let assigns : [] ≡ assigns_of bound at = sym (ap (λ (o : Option BoundModule). unwrap_or (option_map (λ (m : BoundModule). different m.assigns) o) []) e) in
      let instances : [] ≡ instances_of bound at = sym (ap (λ (o : Option BoundModule). unwrap_or (option_map (λ (m : BoundModule). m.instances) o) []) e) in
      record {
        assigns = subst (λ (xs : List BoundAssign). All (IsAssign (wires_of bound at)) xs) assigns (λ k d l. absurd (omega arith));
        instances = subst (λ (xs : List BoundInstance). All (IsInstance table bound (wires_of bound at)) xs) instances (λ k d l. absurd (omega arith));
        others = [];
        wires = sym wires ∙ ap (λ (ps : List BoundPort). map port_wire ps ++ []) ports;
      }

  go : (o : Option BoundModule) → slice_get bound.modules at ≡ o → AreFit table bound at
  go None e = of_none e
  go (Some owner) e = of_owner owner (all_got (IsModule table bound) bound.modules at owner is.modules e) e

-- the module of an instance is there, and so is the row of a cell
pub module_there : (table : CellTable) (bound : Bound) (inner : ℕ) (widths : List ℕ) → port_widths table bound (Module inner) ≡ Some widths → IsSome (slice_get bound.modules inner)
module_there table bound inner widths e = go (slice_get bound.modules inner) e where
  go : (o : Option BoundModule) → option_map (λ (owner : BoundModule). map (λ (port : BoundPort). width_of port.range) owner.ports) o ≡ Some widths → IsSome o
  go None f = absurd cc
  go (Some owner) f = refl

pub row_there : (table : CellTable) (bound : Bound) (number : ℕ) (widths : List ℕ) → port_widths table bound (Cell number) ≡ Some widths → (row : CellRow) × (slice_get table.rows number ≡ Some row)
row_there table bound number widths e = go (slice_get table.rows number) refl e where
  go : (o : Option CellRow) → slice_get table.rows number ≡ o → option_map (λ (row : CellRow). map (λ (pin : List ℕ). 1) (cell_ports row)) o ≡ Some widths → (row : CellRow) × (slice_get table.rows number ≡ Some row)
  go None is f = absurd cc
  go (Some row) is f = (row, is)
