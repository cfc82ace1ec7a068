-- The numbers of places, module by module, and printed names.
use Rattle.std.proofs.Common.{◌≡◌, ◌∙◌, ◌+◌, ◌-◌, ◌<◌, ◌≤◌, ℕ, zero, suc, List, [], ◌∷◌, ◌++◌, take, length, sum_by, get_or, Option, Some, None, refl, sym, ap, subst, arith, append_assoc}
use Rattle.std.specs.Prelude.{slice_get, unwrap_or, option_to_list}
use Rattle.std.specs.Option.{option_map, option_and_then}
use Rattle.std.proofs.lemmas.Option.{same_Some, slice_get_within, slice_get-get_or}
use Rattle.std.proofs.lemmas.List.Sums.{sum_by-cons}
use Rattle.rsfq_ids.specs.declared.table.CellTable.{CellTable}
use Rattle.bind_forms.specs.declared.bound.BoundKind.{BoundKind}
use Rattle.bind_forms.specs.declared.bound.BoundKind.TheVariants.{Module, Cell}
use Rattle.bind_forms.specs.declared.bound.BoundInstance.{BoundInstance}
use Rattle.bind_forms.specs.declared.bound.BoundModule.{BoundModule}
use Rattle.bind_forms.specs.declared.bound.BoundWire.{BoundWire}
use Rattle.bind_forms.specs.declared.bound.Bound.{Bound}
use Rattle.bind_forms.specs.Bits.{width_of, bit_name}
use Rattle.bind_forms.specs.WellFormed.{IsBound, IsModule, IsInstance}
use Rattle.flat_places.specs.declared.size.Size.{Size}
use Rattle.flat_places.specs.Rounds.{empty_size}
use Rattle.flat_places.specs.Sizes.{AreSizes}
use Rattle.flat_places.specs.Hierarchy.{instances_of, wires_of, module_of, leads_to, bits_of, bits_by, bit_count, IsDeeper}
use Rattle.flat_places.specs.Places.{Place}
use Rattle.flat_places.specs.Numbers.{bits_before, number_in}
use Rattle.flat_places.specs.Names.{names_along, dotted}
use Rattle.flat_places.specs.Paths.{longer}
use Rattle.flat_names.specs.Found.{size_bits, IsPlaceNamed}
use Rattle.flat_names.specs.Measured.{IsWithin}
use Rattle.flat_names.proofs.Modules.{some_level, one_less, module_there}
use Rattle.flat_places.proofs.Joined.{all_got}
use Rattle.flat_places.proofs.Modules.{instances_at, wires_at}
use Rattle.flat_places.proofs.Numbered.{number_own}

-- ---- sums

sums_same : {X : Type 0} (f g : X → ℕ) (xs : List X) → ((k : ℕ) (x : X) → slice_get xs k ≡ Some x → f x ≡ g x) → sum_by f xs ≡ sum_by g xs
sums_same f g [] law = refl
sums_same f g (x ∷ xs) law =
    let here = law 0 x refl in
    let rest = sums_same f g xs (λ k y e. law (suc k) y e) in
    let one = sum_by-cons f x xs in
    let other = sum_by-cons g x xs in
    omega (arith, here, rest, one, other)

taken_sums_same : {X : Type 0} (f g : X → ℕ) (xs : List X) (n : ℕ) → ((k : ℕ) (x : X) → slice_get xs k ≡ Some x → f x ≡ g x) → sum_by f (take n xs) ≡ sum_by g (take n xs)
taken_sums_same f g xs zero law = refl
taken_sums_same f g [] (suc n) law = refl
taken_sums_same f g (x ∷ xs) (suc n) law =
    let here = law 0 x refl in
    let rest = taken_sums_same f g xs n (λ k y e. law (suc k) y e) in
    let one = sum_by-cons f x (take n xs) in
    let other = sum_by-cons g x (take n xs) in
    omega (arith, here, rest, one, other)

within_sum : {X : Type 0} (f : X → ℕ) (xs : List X) (k : ℕ) (x : X) → slice_get xs k ≡ Some x → f x ≤ sum_by f xs
within_sum f [] k x e = absurd cc
within_sum f (y ∷ xs) zero x e = let more = sum_by-cons f y xs in let same = ap f (same_Some y x e) in omega (arith, more, same)
within_sum f (y ∷ xs) (suc k) x e = let more = sum_by-cons f y xs in let rest = within_sum f xs k x e in omega (arith, more, rest)

-- ---- counts of wire bits

bits_more : (bound : Bound) (levels at : ℕ) → 1 ≤ levels → bit_count bound levels at ≡ bits_of (wires_of bound at) + sum_by (λ (instance : BoundInstance). bits_by (bit_count bound (levels - 1)) instance.kind) (instances_of bound at)
unfolding bit_count
bits_more bound zero at low = absurd (omega arith)
bits_more bound (suc levels) at low =
    let same : levels ≡ suc levels - 1 = omega arith in
    ap (λ (n : ℕ). bits_of (wires_of bound at) + sum_by (λ (instance : BoundInstance). bits_by (bit_count bound n) instance.kind) (instances_of bound at)) same

-- a count does not change with levels where there is nothing
pub settled : (bound : Bound) (levels more at : ℕ) → (IsDeeper bound levels at → ⊥) → levels ≤ more → bit_count bound more at ≡ bit_count bound levels at
settled bound zero more at deep low = absurd (deep ([], refl, refl))
settled bound (suc levels) more at deep low =
    let one = bits_more bound more at (omega arith) in
    let other = bits_more bound (suc levels) at (omega arith) in
    let rest = sums_same (λ (instance : BoundInstance). bits_by (bit_count bound (more - 1)) instance.kind) (λ (instance : BoundInstance). bits_by (bit_count bound (suc levels - 1)) instance.kind) (instances_of bound at) (each (λ inner d. settled bound levels (more - 1) inner d (omega arith))) in
    omega (arith, one, other, rest) where
      by_kind : ((inner : ℕ) → (IsDeeper bound levels inner → ⊥) → bit_count bound (more - 1) inner ≡ bit_count bound levels inner) → (kind : BoundKind) → IsWithin bound (suc levels) kind → bits_by (bit_count bound (more - 1)) kind ≡ bits_by (bit_count bound (suc levels - 1)) kind
      by_kind law (Module inner) w =
          let same : suc levels - 1 ≡ levels = omega arith in
          law inner (subst (λ (n : ℕ). IsDeeper bound n inner → ⊥) same (w inner refl).1) ∙ ap (λ (n : ℕ). bit_count bound n inner) (sym same)
      by_kind law (Cell row) w = refl

      each : ((inner : ℕ) → (IsDeeper bound levels inner → ⊥) → bit_count bound (more - 1) inner ≡ bit_count bound levels inner) → (k : ℕ) (instance : BoundInstance) → slice_get (instances_of bound at) k ≡ Some instance →
          bits_by (bit_count bound (more - 1)) instance.kind ≡ bits_by (bit_count bound (suc levels - 1)) instance.kind
      each law k instance e = by_kind law instance.kind (one_less bound (suc levels) at k instance deep e)

-- the sizes of modules inside a module within its limits are their counts
pub size_is_count : (bound : Bound) (levels at : ℕ) (sizes : List Size) → AreSizes bound 64 sizes → levels ≤ 64 → (IsDeeper bound levels at → ⊥) → bit_count bound levels at ≤ 2000000 → (k : ℕ) (instance : BoundInstance) (inner : ℕ) →
    slice_get (instances_of bound at) k ≡ Some instance → instance.kind ≡ Module inner → inner < length bound.modules → (get_or sizes inner empty_size).bits ≡ bit_count bound (levels - 1) inner
size_is_count bound levels at sizes s high deep few k instance inner e is there =
    let count = s.count in
    let got : slice_get sizes inner ≡ Some (get_or sizes inner empty_size) = slice_get-get_or sizes inner empty_size (omega (arith, there, count)) in
    let size = (s.each inner (get_or sizes inner empty_size) got).has_bits in
    let w = one_less bound levels at k instance deep e inner (ap module_of is) in
    let same = settled bound (levels - 1) 64 inner w.1 (omega arith) in
    let all = bits_more bound levels at w.0 in
    let part = within_sum (λ (instance : BoundInstance). bits_by (bit_count bound (levels - 1)) instance.kind) (instances_of bound at) k instance e in
    let kind = ap (bits_by (bit_count bound (levels - 1))) is in
    omega (arith, size, same, all, part, kind, few)

pub instance_size : (table : CellTable) (bound : Bound) (levels at : ℕ) (owner : BoundModule) (sizes : List Size) → IsBound table bound → AreSizes bound 64 sizes → levels ≤ 64 → (IsDeeper bound levels at → ⊥) → bit_count bound levels at ≤ 2000000 → slice_get bound.modules at ≡ Some owner →
    (k : ℕ) (instance : BoundInstance) → slice_get owner.instances k ≡ Some instance → size_bits sizes instance ≡ bits_by (bit_count bound (levels - 1)) instance.kind
instance_size table bound levels at owner sizes b s high deep few there k instance e = go instance.kind refl where
  go : (kind : BoundKind) → instance.kind ≡ kind → bits_by (λ (inner : ℕ). (get_or sizes inner empty_size).bits) kind ≡ bits_by (bit_count bound (levels - 1)) kind
  go (Cell row) is = refl
  go (Module inner) is =
      let m = all_got (IsModule table bound) bound.modules at owner b.modules there in
      let found = module_there table bound owner.wires instance inner (all_got (IsInstance table bound owner.wires) owner.instances k instance m.instances e) is in
      size_is_count bound levels at sizes s high deep few k instance inner (subst (λ (is : List BoundInstance). slice_get is k ≡ Some instance) (sym (instances_at bound at owner there)) e) is (slice_get_within bound.modules inner found.0 found.1)

-- how many wire bits are inside a module, by the sizes of the modules inside it
pub count_by_sizes : (table : CellTable) (bound : Bound) (levels at : ℕ) (owner : BoundModule) (sizes : List Size) → IsBound table bound → AreSizes bound 64 sizes → levels ≤ 64 → (IsDeeper bound levels at → ⊥) → bit_count bound levels at ≤ 2000000 → slice_get bound.modules at ≡ Some owner →
    bit_count bound levels at ≡ bits_of owner.wires + sum_by (size_bits sizes) owner.instances
count_by_sizes table bound levels at owner sizes b s high deep few there =
    let all = bits_more bound levels at (some_level bound levels at deep) in
    let f = λ (instance : BoundInstance). bits_by (bit_count bound (levels - 1)) instance.kind in
    let wires = ap bits_of (wires_at bound at owner there) in
    let instances = ap (sum_by f) (instances_at bound at owner there) in
    let same = sums_same (size_bits sizes) f owner.instances (instance_size table bound levels at owner sizes b s high deep few there) in
    omega (arith, all, wires, instances, same)

pub before_by_sizes : (table : CellTable) (bound : Bound) (levels at : ℕ) (owner : BoundModule) (sizes : List Size) → IsBound table bound → AreSizes bound 64 sizes → levels ≤ 64 → (IsDeeper bound levels at → ⊥) → bit_count bound levels at ≤ 2000000 → slice_get bound.modules at ≡ Some owner →
    (k : ℕ) → bits_before bound (levels - 1) at k ≡ bits_of owner.wires + sum_by (size_bits sizes) (take k owner.instances)
before_by_sizes table bound levels at owner sizes b s high deep few there k =
    let f = λ (instance : BoundInstance). bits_by (bit_count bound (levels - 1)) instance.kind in
    let wires = ap bits_of (wires_at bound at owner there) in
    let instances = ap (λ (is : List BoundInstance). sum_by f (take k is)) (instances_at bound at owner there) in
    let same = taken_sums_same (size_bits sizes) f owner.instances k (instance_size table bound levels at owner sizes b s high deep few there) in
    omega (arith, wires, instances, same)

-- an instance that was found is among those of its owner
pub found_there : (bound : Bound) (at : ℕ) (owner : BoundModule) (instances : List BoundInstance) (k : ℕ) (instance : BoundInstance) → slice_get bound.modules at ≡ Some owner → instances ≡ owner.instances → slice_get (instances_of bound at) k ≡ Some instance → k < length instances
found_there bound at owner instances k instance there same e =
    slice_get_within instances k instance (subst (λ (is : List BoundInstance). slice_get is k ≡ Some instance) (instances_at bound at owner there ∙ sym same) e)

-- what is inside an instance of a module within its limits is within them
pub record FitsInside (bound : Bound) (levels inner : ℕ) (size : Size) : Type 0 where
  pub low : 1 ≤ levels
  pub there : inner < length bound.modules
  pub deep : IsDeeper bound (levels - 1) inner → ⊥
  pub few : bit_count bound (levels - 1) inner ≤ 2000000
  pub same : size.bits ≡ bit_count bound (levels - 1) inner

pub inner_fits : (table : CellTable) (bound : Bound) (levels at : ℕ) (owner : BoundModule) (sizes : List Size) → IsBound table bound → AreSizes bound 64 sizes → levels ≤ 64 → (IsDeeper bound levels at → ⊥) → bit_count bound levels at ≤ 2000000 → slice_get bound.modules at ≡ Some owner →
    (k inner : ℕ) (instance : BoundInstance) → slice_get owner.instances k ≡ Some instance → instance.kind ≡ Module inner → FitsInside bound levels inner (get_or sizes inner empty_size)
inner_fits table bound levels at owner sizes b s high deep few there k inner instance e is =
    let m = all_got (IsModule table bound) bound.modules at owner b.modules there in
    let found = module_there table bound owner.wires instance inner (all_got (IsInstance table bound owner.wires) owner.instances k instance m.instances e) is in
    let inside = slice_get_within bound.modules inner found.0 found.1 in
    let of_bound : slice_get (instances_of bound at) k ≡ Some instance = subst (λ (is : List BoundInstance). slice_get is k ≡ Some instance) (sym (instances_at bound at owner there)) e in
    let w = one_less bound levels at k instance deep of_bound inner (ap module_of is) in
    let all = bits_more bound levels at w.0 in
    let part = within_sum (λ (instance : BoundInstance). bits_by (bit_count bound (levels - 1)) instance.kind) (instances_of bound at) k instance of_bound in
    let kind = ap (bits_by (bit_count bound (levels - 1))) is in
    record {
      low = w.0;
      there = inside;
      deep = w.1;
      few = omega (arith, all, part, kind, few);
      same = size_is_count bound levels at sizes s high deep few k instance inner of_bound is inside;
    }

-- ---- numbers

number_deeper : (bound : Bound) (levels at instance : ℕ) (path : List ℕ) (wire bit : ℕ) → 1 ≤ levels → number_in bound levels at (instance ∷ path) wire bit ≡
    bits_before bound (levels - 1) at instance + unwrap_or (option_map (λ (inner : ℕ). number_in bound (levels - 1) inner path wire bit) (option_and_then (λ (declared : BoundInstance). module_of declared.kind) (slice_get (instances_of bound at) instance))) 0
unfolding number_in
number_deeper bound zero at instance path wire bit low = absurd (omega arith)
number_deeper bound (suc levels) at instance path wire bit low =
    let same : levels ≡ suc levels - 1 = omega arith in
    ap (λ (n : ℕ). bits_before bound n at instance + unwrap_or (option_map (λ (inner : ℕ). number_in bound n inner path wire bit) (option_and_then (λ (declared : BoundInstance). module_of declared.kind) (slice_get (instances_of bound at) instance))) 0) same

-- ---- printed names

dotted_more : (name : List ℕ) (names : List (List ℕ)) (last : List ℕ) → dotted (name ∷ (names ++ last ∷ [])) ≡ name ++ 46 ∷ dotted (names ++ last ∷ [])
dotted_more name [] last = refl
dotted_more name (next ∷ names) last = refl

longer_more : (path : Option (List ℕ)) (name rest : List ℕ) → longer path (name ++ 46 ∷ rest) ≡ longer (Some (longer path name)) rest
longer_more None name rest = refl
longer_more (Some path) name rest = sym (append_assoc path (46 ∷ name) (46 ∷ rest))

-- a place of a module's own wires, by its number and its printed name
pub own_named : (bound : Bound) (levels at : ℕ) (path : Option (List ℕ)) (number : ℕ) (owner : BoundModule) (wires : List BoundWire) (wire bit : ℕ) (declared : BoundWire) (name : List ℕ) → slice_get bound.modules at ≡ Some owner → wires ≡ owner.wires → slice_get wires wire ≡ Some declared →
    number ≡ bits_of (take wire wires) + bit → bit < width_of declared.range → name ≡ longer path (bit_name declared.name declared.range bit) → IsPlaceNamed bound levels at path number name
own_named bound levels at path number owner wires wire bit declared name there same e n low printed =
    let of_owner : slice_get owner.wires wire ≡ Some declared = subst (λ (ws : List BoundWire). slice_get ws wire ≡ Some declared) same e in
    let of_bound : slice_get (wires_of bound at) wire ≡ Some declared = subst (λ (ws : List BoundWire). slice_get ws wire ≡ Some declared) (sym (wires_at bound at owner there)) of_owner in
    let place : Place = record { path = []; wire = wire; bit = bit } in
    record {
      place = place;
      is_in = record { owner = owner; is_at = (at, refl, there); declared = declared; listed = of_owner; within = low };
      numbered = n ∙ ap (λ (ws : List BoundWire). bits_of (take wire ws) + bit) (same ∙ sym (wires_at bound at owner there)) ∙ sym (number_own bound levels at wire bit);
      printed = printed ∙ ap (λ (o : Option BoundWire). longer path (dotted (option_to_list (option_map (λ (w : BoundWire). bit_name w.name w.range bit) o)))) (sym of_bound);
    }

-- a place in an instance of a module, by its number and its printed name
pub inner_named : (table : CellTable) (bound : Bound) (levels at : ℕ) (path : Option (List ℕ)) (number rest : ℕ) (owner : BoundModule) (sizes : List Size) (k inner : ℕ) (instance : BoundInstance) (name : List ℕ) → IsBound table bound → AreSizes bound 64 sizes → levels ≤ 64 → (IsDeeper bound levels at → ⊥) →
    bit_count bound levels at ≤ 2000000 → slice_get bound.modules at ≡ Some owner → slice_get owner.instances k ≡ Some instance → instance.kind ≡ Module inner → number ≡ bits_of owner.wires + (sum_by (size_bits sizes) (take k owner.instances) + rest) →
    IsPlaceNamed bound (levels - 1) inner (Some (longer path instance.name)) rest name → IsPlaceNamed bound levels at path number name
inner_named table bound levels at path number rest owner sizes k inner instance name b s high deep few there e is n named =
    let p = named.place in
    let i = named.is_in in
    let of_bound : slice_get (instances_of bound at) k ≡ Some instance = subst (λ (is : List BoundInstance). slice_get is k ≡ Some instance) (sym (instances_at bound at owner there)) e in
    let kind : option_and_then (λ (i : BoundInstance). module_of i.kind) (slice_get (instances_of bound at) k) ≡ Some inner = ap (option_and_then (λ (i : BoundInstance). module_of i.kind)) of_bound ∙ ap module_of is in
    let place : Place = record { path = k ∷ p.path; wire = p.wire; bit = p.bit } in
    let leads : leads_to bound at (k ∷ p.path) ≡ leads_to bound inner p.path = ap (option_and_then (λ (m : ℕ). leads_to bound m p.path)) kind in
    let before = before_by_sizes table bound levels at owner sizes b s high deep few there k in
    let more = number_deeper bound levels at k p.path p.wire p.bit (some_level bound levels at deep) in
    let inside = ap (λ (o : Option ℕ). unwrap_or (option_map (λ (m : ℕ). number_in bound (levels - 1) m p.path p.wire p.bit) o) 0) kind in
    let numbered = named.numbered in
    let own = names_along bound inner p.path in
    let bit = bit_name i.declared.name i.declared.range p.bit in
    let listed : slice_get (wires_of bound i.is_at.0) p.wire ≡ Some i.declared = subst (λ (ws : List BoundWire). slice_get ws p.wire ≡ Some i.declared) (sym (wires_at bound i.is_at.0 i.owner i.is_at.2)) i.listed in
    let last : option_to_list (option_and_then (λ (m : ℕ). option_map (λ (w : BoundWire). bit_name w.name w.range p.bit) (slice_get (wires_of bound m) p.wire)) (leads_to bound inner p.path)) ≡ bit ∷ [] =
    ap (λ (o : Option ℕ). option_to_list (option_and_then (λ (m : ℕ). option_map (λ (w : BoundWire). bit_name w.name w.range p.bit) (slice_get (wires_of bound m) p.wire)) o)) i.is_at.1
    ∙ ap (λ (o : Option BoundWire). option_to_list (option_map (λ (w : BoundWire). bit_name w.name w.range p.bit) o)) listed in
    let last_here : option_to_list (option_and_then (λ (m : ℕ). option_map (λ (w : BoundWire). bit_name w.name w.range p.bit) (slice_get (wires_of bound m) p.wire)) (leads_to bound at (k ∷ p.path))) ≡ bit ∷ [] =
    ap (λ (o : Option ℕ). option_to_list (option_and_then (λ (m : ℕ). option_map (λ (w : BoundWire). bit_name w.name w.range p.bit) (slice_get (wires_of bound m) p.wire)) o)) leads ∙ last in
    let along : names_along bound at (k ∷ p.path) ≡ instance.name ∷ own =
    ap (λ (o : Option BoundInstance). option_to_list (option_map (λ (i : BoundInstance). i.name) o) ++ unwrap_or (option_map (λ (m : ℕ). names_along bound m p.path) (option_and_then (λ (i : BoundInstance). module_of i.kind) o)) []) of_bound
    ∙ ap (λ (kind : BoundKind). instance.name ∷ unwrap_or (option_map (λ (m : ℕ). names_along bound m p.path) (module_of kind)) []) is in
    record {
      place = place;
      is_in = record { owner = i.owner; is_at = (i.is_at.0, leads ∙ i.is_at.1, i.is_at.2); declared = i.declared; listed = i.listed; within = i.within };
      numbered = omega (arith, n, before, more, inside, numbered);
      printed =
          named.printed
          ∙ ap (λ (names : List (List ℕ)). longer (Some (longer path instance.name)) (dotted (own ++ names))) last
          ∙ sym (longer_more path instance.name (dotted (own ++ bit ∷ [])))
          ∙ ap (longer path) (sym (dotted_more instance.name own bit))
          ∙ ap (λ (names : List (List ℕ)). longer path (dotted (names ++ bit ∷ []))) (sym along)
          ∙ ap (λ (names : List (List ℕ)). longer path (dotted (names_along bound at (k ∷ p.path) ++ names))) (sym last_here);
    }
