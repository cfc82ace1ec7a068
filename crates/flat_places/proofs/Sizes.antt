-- How many places pieces have.
use Rattle.std.proofs.Common.{◌≡◌, ◌+◌, ℕ, zero, suc, List, [], ◌∷◌, sum_by, Option, Some, refl, ap, subst, arith}
use Rattle.std.specs.Prelude.{slice_get, unwrap_or}
use Rattle.std.specs.Option.{option_map}
use Rattle.std.proofs.lemmas.List.Sums.{sum_by-cons}
use Rattle.rsfq_ids.specs.declared.table.CellTable.{CellTable}
use Rattle.rsfq_ids.specs.declared.table.CellRow.{CellRow}
use Rattle.bind_forms.specs.declared.bound.BoundKind.{BoundKind}
use Rattle.bind_forms.specs.declared.bound.BoundKind.TheVariants.{Module, Cell}
use Rattle.bind_forms.specs.declared.bound.BoundInstance.{BoundInstance}
use Rattle.bind_forms.specs.declared.bound.Bound.{Bound}
use Rattle.bind_forms.specs.WellFormed.{IsBound, IsInstance, port_widths}
use Rattle.flat_places.specs.Hierarchy.{instances_of, wires_of, bits_of, bits_by, bit_count, IsDeeper}
use Rattle.flat_places.proofs.Followed.{not_deeper}
use Rattle.flat_places.specs.Paths.{longer}
use Rattle.flat_places.specs.Bits.{offsets_from}
use Rattle.flat_places.specs.Pieces.{Piece, empty, cell_piece, instance_piece, pieces_from, inside_piece}
use Rattle.flat_places.proofs.Unfolded.{instance_with, inside_more, of_module, are_fit, module_there, row_there}
use Rattle.flat_places.proofs.Joined.{all_got}

-- the places of pieces one after another
pub pieces_sum : (one : ℕ → BoundInstance → Piece) (size : BoundInstance → ℕ) (base : ℕ) (xs : List BoundInstance) → ((i : ℕ) (x : BoundInstance) → slice_get xs i ≡ Some x → (b : ℕ) → (one b x).places ≡ size x) →
    (pieces_from one base xs).places ≡ sum_by size xs
pieces_sum one size base [] same = refl
pieces_sum one size base (x ∷ xs) same =
    let here = same 0 x refl base in
    let rest = pieces_sum one size (base + (one base x).places) xs (λ i y e. same (suc i) y e) in
    let sum = sum_by-cons size x xs in
    omega (arith, here, rest, sum)

bit_more : (bound : Bound) (levels at : ℕ) → bit_count bound (suc levels) at ≡ bits_of (wires_of bound at) + sum_by (λ (instance : BoundInstance). bits_by (bit_count bound levels) instance.kind) (instances_of bound at)
unfolding bit_count
bit_more bound levels at = refl

-- the places of an instance, where those inside modules of one level less are known
pub one_size : (table : CellTable) (bound : Bound) → IsBound table bound → (levels at : ℕ) → (IsDeeper bound (suc levels) at → ⊥) →
    ((inner : ℕ) → (IsDeeper bound levels inner → ⊥) → (path : Option (List ℕ)) (offsets : List ℕ) (base : ℕ) → bits_of (wires_of bound inner) + (inside_piece table bound levels inner path offsets base).places ≡ bit_count bound levels inner) →
    (path : Option (List ℕ)) (offsets : List ℕ) (i : ℕ) (x : BoundInstance) → slice_get (instances_of bound at) i ≡ Some x →
    (base : ℕ) → (instance_with table bound levels path offsets base x).places ≡ bits_by (bit_count bound levels) x.kind
one_size table bound is levels at deep law path offsets i x e base = go x.kind refl where
  fit : IsInstance table bound (wires_of bound at) x
  fit = all_got (IsInstance table bound (wires_of bound at)) (instances_of bound at) i x (are_fit table bound is at).instances e

  go : (kind : BoundKind) → x.kind ≡ kind → (instance_piece table bound (inside_piece table bound levels) path offsets base x.name x.links kind).places ≡ bits_by (bit_count bound levels) kind
  go (Cell number) k =
      let row = row_there table bound number fit.widths (subst (λ (kind : BoundKind). port_widths table bound kind ≡ Some fit.widths) k fit.kind) in
      ap (λ (o : Option CellRow). (unwrap_or (option_map (λ (r : CellRow). cell_piece (longer path x.name) number r x.links offsets) o) empty).places) row.1
  go (Module inner) k =
      let there = module_there table bound inner fit.widths (subst (λ (kind : BoundKind). port_widths table bound kind ≡ Some fit.widths) k fit.kind) in
      let whole = ap (λ (p : Piece). p.places) (of_module table bound levels inner path offsets base x.name x.links there) in
      let inside = law inner (not_deeper bound levels at i inner x e k deep) (Some (longer path x.name)) (offsets_from base (wires_of bound inner)) (base + bits_of (wires_of bound inner)) in
      omega (arith, whole, inside)

pub inside_size : (table : CellTable) (bound : Bound) → IsBound table bound → (levels at : ℕ) → (IsDeeper bound levels at → ⊥) → (path : Option (List ℕ)) (offsets : List ℕ) (base : ℕ) →
    bits_of (wires_of bound at) + (inside_piece table bound levels at path offsets base).places ≡ bit_count bound levels at
inside_size table bound is zero at deep path offsets base = absurd (deep ([], refl, refl))
inside_size table bound is (suc levels) at deep path offsets base =
    let all = inside_more table bound levels at path offsets base in
    let sum = pieces_sum (instance_with table bound levels path offsets) (λ (instance : BoundInstance). bits_by (bit_count bound levels) instance.kind) base (instances_of bound at)
    (λ i x e b. one_size table bound is levels at deep (inside_size table bound is levels) path offsets i x e b) in
    let bits = bit_more bound levels at in
    let places : (inside_piece table bound (suc levels) at path offsets base).places ≡ 0 + (pieces_from (instance_with table bound levels path offsets) base (instances_of bound at)).places = ap (λ (p : Piece). p.places) all in
    omega (arith, sum, bits, places)
