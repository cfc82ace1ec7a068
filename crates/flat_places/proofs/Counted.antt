-- How long the lists of places and cells are.
use Rattle.std.proofs.Common.{◌≡◌, ◌∙◌, ◌+◌, ℕ, zero, suc, List, [], ◌∷◌, map, length, sum_by, refl, arith, length-append}
use Rattle.std.specs.List.{flat_map, enumerate_from, range_with_len}
use Rattle.std.proofs.lemmas.List.{length-map}
use Rattle.std.proofs.lemmas.List.Concat.{length-flat_map}
use Rattle.std.proofs.lemmas.List.FromFn.{length-map-range_with_len}
use Rattle.std.proofs.lemmas.List.Sums.{sum_by-cons}
use Rattle.bind_forms.specs.declared.bound.BoundKind.{BoundKind}
use Rattle.bind_forms.specs.declared.bound.BoundKind.TheVariants.{Module, Cell}
use Rattle.bind_forms.specs.declared.bound.BoundInstance.{BoundInstance}
use Rattle.bind_forms.specs.declared.bound.BoundWire.{BoundWire}
use Rattle.bind_forms.specs.declared.bound.Bound.{Bound}
use Rattle.bind_forms.specs.Bits.{width_of}
use Rattle.flat_places.specs.Hierarchy.{instances_of, wires_of, bits_of, bits_by, cell_count, bit_count}
use Rattle.flat_places.specs.Hierarchy as size
use Rattle.flat_places.specs.Places.{Place, CellAt, own_places, places_by, cells_by, places_in, cells_in}

sum_numbered : {X : Type 0} (f : ℕ × X → ℕ) (g : X → ℕ) → ((n : ℕ) (x : X) → f (n, x) ≡ g x) → (n : ℕ) (xs : List X) → sum_by f (enumerate_from n xs) ≡ sum_by g xs
sum_numbered f g same n [] = refl
sum_numbered f g same n (x ∷ xs) =
    let here = same n x in
    let rest = sum_numbered f g same (n + 1) xs in
    let one = sum_by-cons f (n, x) (enumerate_from (n + 1) xs) in
    let other = sum_by-cons g x xs in
    omega (arith, here, rest, one, other)

-- the length of the lists that numbered items come to
pub length_numbered : {X Y : Type 0} (f : ℕ × X → List Y) (g : X → ℕ) → ((n : ℕ) (x : X) → length (f (n, x)) ≡ g x) → (n : ℕ) (xs : List X) → length (flat_map f (enumerate_from n xs)) ≡ sum_by g xs
length_numbered {X} {Y} f g same n xs = length-flat_map f (enumerate_from n xs) ∙ sum_numbered (λ (p : ℕ × X). length (f p)) g same n xs

pub own_length : (wires : List BoundWire) → length (own_places wires) ≡ bits_of wires
own_length wires = length_numbered (λ ((wire, declared) : ℕ × BoundWire). map (λ bit. record { path = []; wire = wire; bit = bit }) (range_with_len 0 (width_of declared.range))) (λ (declared : BoundWire). width_of declared.range)
    (λ n declared. length-map-range_with_len (λ (bit : ℕ). record { path = []; wire = n; bit = bit }) 0 (width_of declared.range)) 0 wires

pub places_by_length : (inside : ℕ → List Place) (count : ℕ → ℕ) → ((at : ℕ) → length (inside at) ≡ count at) → (instance : ℕ) (kind : BoundKind) → length (places_by inside instance kind) ≡ bits_by count kind
places_by_length inside count same instance (Module at) = simp length-map (same at)
places_by_length inside count same instance (Cell row) = refl

pub cells_by_length : (inside : ℕ → List CellAt) (count : ℕ → ℕ) → ((at : ℕ) → length (inside at) ≡ count at) → (instance : ℕ) (kind : BoundKind) → length (cells_by inside instance kind) ≡ size.cells_by count kind
cells_by_length inside count same instance (Module at) = simp length-map (same at)
cells_by_length inside count same instance (Cell row) = refl

pub places_length : (bound : Bound) (levels at : ℕ) → length (places_in bound levels at) ≡ bit_count bound levels at
unfolding places_in bit_count
places_length bound zero at = refl
places_length bound (suc levels) at =
    length-append (own_places (wires_of bound at)) (flat_map (λ ((instance, declared) : ℕ × BoundInstance). places_by (places_in bound levels) instance declared.kind) (enumerate_from 0 (instances_of bound at)))
    ∙ (let own = own_length (wires_of bound at) in
    let rest = length_numbered (λ ((instance, declared) : ℕ × BoundInstance). places_by (places_in bound levels) instance declared.kind) (λ (declared : BoundInstance). bits_by (bit_count bound levels) declared.kind)
    (λ n declared. places_by_length (places_in bound levels) (bit_count bound levels) (places_length bound levels) n declared.kind) 0 (instances_of bound at) in
    omega (arith, own, rest))

pub cells_length : (bound : Bound) (levels at : ℕ) → length (cells_in bound levels at) ≡ cell_count bound levels at
unfolding cells_in cell_count
cells_length bound zero at = refl
cells_length bound (suc levels) at =
    length_numbered (λ ((instance, declared) : ℕ × BoundInstance). cells_by (cells_in bound levels) instance declared.kind) (λ (declared : BoundInstance). size.cells_by (cell_count bound levels) declared.kind)
    (λ n declared. cells_by_length (cells_in bound levels) (cell_count bound levels) (cells_length bound levels) n declared.kind) 0 (instances_of bound at)
