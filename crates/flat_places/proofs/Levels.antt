-- The sizes as deep as one level more.
use Rattle.std.proofs.Common.{◌≡◌, ◌∙◌, ◌<◌, ◌≤◌, ◌+◌, ◌||◌, ◌⊎◌, inl, inr, ℕ, zero, suc, Bool, true, false, min, List, [], ◌∷◌, map, fold, length, Option, Some, None, refl, sym, ap, subst, arith, get_or, replicate, sum_by}
use Rattle.std.specs.Prelude.{slice_get, IsSome, unwrap_or}
use Rattle.std.specs.Option.{option_map, option_and_then}
use Rattle.std.proofs.lemmas.Option.{same_Some, slice_get-get_or, slice_get-map}
use Rattle.std.proofs.lemmas.Bool.{false≢true}
use Rattle.std.proofs.lemmas.List.Sums.{sum_by-cons}
use Rattle.std.proofs.lemmas.List.{length-map, length-replicate}
use Rattle.bind_forms.specs.declared.bound.BoundKind.{BoundKind}
use Rattle.bind_forms.specs.declared.bound.BoundKind.TheVariants.{Module, Cell}
use Rattle.bind_forms.specs.declared.bound.BoundInstance.{BoundInstance}
use Rattle.bind_forms.specs.declared.bound.BoundWire.{BoundWire}
use Rattle.bind_forms.specs.declared.bound.BoundModule.{BoundModule}
use Rattle.bind_forms.specs.declared.bound.Bound.{Bound}
use Rattle.flat_places.specs.declared.size.Size.{Size}
use Rattle.flat_places.specs.Hierarchy.{instances_of, wires_of, module_of, leads_to, IsDeeper, cells_by, bits_by, bits_of, cell_count, bit_count, HasModules}
use Rattle.flat_places.specs.Rounds.{empty_size, joined, kind_size, module_size, AreBelow}
use Rattle.flat_places.specs.Sizes.{IsSizeOf, AreSizes}

cell_count_zero : (bound : Bound) (at : ℕ) → cell_count bound 0 at ≡ 0
unfolding cell_count
cell_count_zero bound at = refl

bit_count_zero : (bound : Bound) (at : ℕ) → bit_count bound 0 at ≡ 0
unfolding bit_count
bit_count_zero bound at = refl

cell_count_more : (bound : Bound) (levels at : ℕ) → cell_count bound (suc levels) at ≡ sum_by (λ instance. cells_by (cell_count bound levels) instance.kind) (instances_of bound at)
unfolding cell_count
cell_count_more bound levels at = refl

bit_count_more : (bound : Bound) (levels at : ℕ) → bit_count bound (suc levels) at ≡ bits_of (wires_of bound at) + sum_by (λ instance. bits_by (bit_count bound levels) instance.kind) (instances_of bound at)
unfolding bit_count
bit_count_more bound levels at = refl

copied : {X : Type 0} (n : ℕ) (y : X) (k : ℕ) (x : X) → slice_get (replicate n y) k ≡ Some x → y ≡ x
copied zero y k x e = absurd cc
copied (suc n) y zero x e = same_Some y x e
copied (suc n) y (suc k) x e = copied n y k x e

pub level_none : (bound : Bound) → AreSizes bound 0 (replicate (length bound.modules) (record { deep = true; cells = 0; bits = 0 }))
level_none bound = record {
  count = length-replicate (length bound.modules) (record { deep = true; cells = 0; bits = 0 });
  each = λ at size e. subst (IsSizeOf bound 0 at) (copied (length bound.modules) (record { deep = true; cells = 0; bits = 0 }) at size e) (record {
    is_deep = ((λ t. ([], refl, refl)), (λ d. refl));
    has_cells = (let z = cell_count_zero bound at in omega (arith, z));
    has_bits = (let z = bit_count_zero bound at in omega (arith, z));
  });
}

-- ---- a path of one instance more

path_more : (bound : Bound) (levels at : ℕ) → IsDeeper bound (suc levels) at → (place inner : ℕ) × (instance : BoundInstance) × (slice_get (instances_of bound at) place ≡ Some instance) × (module_of instance.kind ≡ Some inner) × IsDeeper bound levels inner
path_more bound levels at ([], l, s) = absurd (omega (arith, l))
path_more bound levels at (place ∷ path, l, s) = go (slice_get (instances_of bound at) place) refl s where
  deeper : (instance : BoundInstance) → slice_get (instances_of bound at) place ≡ Some instance → (o : Option ℕ) → module_of instance.kind ≡ o → IsSome (option_and_then (λ inner. leads_to bound inner path) o) →
      (place inner : ℕ) × (instance : BoundInstance) × (slice_get (instances_of bound at) place ≡ Some instance) × (module_of instance.kind ≡ Some inner) × IsDeeper bound levels inner
  deeper instance e None f t = absurd (false≢true t)
  deeper instance e (Some inner) f t = (place, inner, instance, e, f, (path, omega (arith, l), t))

  go : (o : Option BoundInstance) → slice_get (instances_of bound at) place ≡ o → IsSome (option_and_then (λ inner. leads_to bound inner path) (option_and_then (λ i. module_of i.kind) o)) →
      (place inner : ℕ) × (instance : BoundInstance) × (slice_get (instances_of bound at) place ≡ Some instance) × (module_of instance.kind ≡ Some inner) × IsDeeper bound levels inner
  go None e t = absurd (false≢true t)
  go (Some instance) e t = deeper instance e (module_of instance.kind) refl t

more_path : (bound : Bound) (levels at place inner : ℕ) (instance : BoundInstance) → slice_get (instances_of bound at) place ≡ Some instance → module_of instance.kind ≡ Some inner → IsDeeper bound levels inner → IsDeeper bound (suc levels) at
more_path bound levels at place inner instance e f d = (
  place ∷ d.0,
  omega (arith, d.1),
  subst (λ (o : Option BoundInstance). IsSome (option_and_then (λ inner. leads_to bound inner d.0) (option_and_then (λ i. module_of i.kind) o))) (sym e)
      (subst (λ (o : Option ℕ). IsSome (option_and_then (λ inner. leads_to bound inner d.0) o)) (sym f) d.2),
)

-- ---- what the instances of a module come to

or_cases : (a b : Bool) → (a || b) ≡ true → (a ≡ true) ⊎ (b ≡ true)
or_cases true b e = inl refl
or_cases false b e = inr e

or_left : (a b : Bool) → a ≡ true → (a || b) ≡ true
or_left true b e = refl
or_left false b e = absurd cc

or_right : (a b : Bool) → b ≡ true → (a || b) ≡ true
or_right true b e = refl
or_right false b e = e

module _ (bound : Bound) (levels : ℕ) (below : List Size) (sizes : AreSizes bound levels below) where
  -- the size of an instance
  kind_at : (at : ℕ) → at < length below → IsSizeOf bound levels at (get_or below at empty_size)
  kind_at at l = sizes.each at (get_or below at empty_size) (slice_get-get_or below at empty_size l)

  kind_cells : (kind : BoundKind) → ((inner : ℕ) → module_of kind ≡ Some inner → inner < length below) → (kind_size below kind).cells ≡ min (cells_by (cell_count bound levels) kind) 100001
  kind_cells (Module at) l = (kind_at at (l at refl)).has_cells
  kind_cells (Cell row) l = omega arith

  kind_bits : (kind : BoundKind) → ((inner : ℕ) → module_of kind ≡ Some inner → inner < length below) → (kind_size below kind).bits ≡ min (bits_by (bit_count bound levels) kind) 2000001
  kind_bits (Module at) l = (kind_at at (l at refl)).has_bits
  kind_bits (Cell row) l = omega arith

  kind_deep : (kind : BoundKind) → ((inner : ℕ) → module_of kind ≡ Some inner → inner < length below) → (kind_size below kind).deep ≡ true → (inner : ℕ) × (module_of kind ≡ Some inner) × IsDeeper bound levels inner
  kind_deep (Module at) l d = (at, refl, (kind_at at (l at refl)).is_deep.0 d)
  kind_deep (Cell row) l d = absurd cc

  deep_kind : (kind : BoundKind) → ((inner : ℕ) → module_of kind ≡ Some inner → inner < length below) → (inner : ℕ) → module_of kind ≡ Some inner → IsDeeper bound levels inner → (kind_size below kind).deep ≡ true
  deep_kind (Module at) l inner e d = (kind_at at (l at refl)).is_deep.1 (subst (IsDeeper bound levels) (sym (same_Some at inner e)) d)
  deep_kind (Cell row) l inner e d = absurd cc

  head_below : (x : BoundInstance) (xs : List BoundInstance) → AreBelow (length below) (x ∷ xs) → (inner : ℕ) → module_of x.kind ≡ Some inner → inner < length below
  head_below x xs b inner e = b 0 inner x refl e

  tail_below : (x : BoundInstance) (xs : List BoundInstance) → AreBelow (length below) (x ∷ xs) → AreBelow (length below) xs
  tail_below x xs b place inner instance e f = b (suc place) inner instance e f

  fold_cells : (xs : List BoundInstance) (start : Size) → AreBelow (length below) xs → start.cells ≤ 100001 →
      (fold (λ size instance. joined size (kind_size below instance.kind)) start xs).cells ≡ min (start.cells + sum_by (λ instance. cells_by (cell_count bound levels) instance.kind) xs) 100001
  fold_cells [] start b l = omega (arith, l)
  fold_cells (x ∷ xs) start b l =
      let one = kind_cells x.kind (head_below x xs b) in
      let now : (joined start (kind_size below x.kind)).cells ≡ min (start.cells + (kind_size below x.kind).cells) 100001 = refl in
      let sums : sum_by (λ instance. cells_by (cell_count bound levels) instance.kind) (x ∷ xs) ≡ cells_by (cell_count bound levels) x.kind + sum_by (λ instance. cells_by (cell_count bound levels) instance.kind) xs = sum_by-cons (λ (instance : BoundInstance). cells_by (cell_count bound levels) instance.kind) x xs in
      let rest : (fold (λ size instance. joined size (kind_size below instance.kind)) start (x ∷ xs)).cells ≡ min ((joined start (kind_size below x.kind)).cells + sum_by (λ instance. cells_by (cell_count bound levels) instance.kind) xs) 100001 =
      fold_cells xs (joined start (kind_size below x.kind)) (tail_below x xs b) (omega arith) in
      omega (arith, one, now, sums, rest, l)

  fold_bits : (xs : List BoundInstance) (start : Size) → AreBelow (length below) xs → start.bits ≤ 2000001 →
      (fold (λ size instance. joined size (kind_size below instance.kind)) start xs).bits ≡ min (start.bits + sum_by (λ instance. bits_by (bit_count bound levels) instance.kind) xs) 2000001
  fold_bits [] start b l = omega (arith, l)
  fold_bits (x ∷ xs) start b l =
      let one = kind_bits x.kind (head_below x xs b) in
      let now : (joined start (kind_size below x.kind)).bits ≡ min (start.bits + (kind_size below x.kind).bits) 2000001 = refl in
      let sums : sum_by (λ instance. bits_by (bit_count bound levels) instance.kind) (x ∷ xs) ≡ bits_by (bit_count bound levels) x.kind + sum_by (λ instance. bits_by (bit_count bound levels) instance.kind) xs = sum_by-cons (λ (instance : BoundInstance). bits_by (bit_count bound levels) instance.kind) x xs in
      let rest : (fold (λ size instance. joined size (kind_size below instance.kind)) start (x ∷ xs)).bits ≡ min ((joined start (kind_size below x.kind)).bits + sum_by (λ instance. bits_by (bit_count bound levels) instance.kind) xs) 2000001 =
      fold_bits xs (joined start (kind_size below x.kind)) (tail_below x xs b) (omega arith) in
      omega (arith, one, now, sums, rest, l)

  fold_deep : (xs : List BoundInstance) (start : Size) → AreBelow (length below) xs → (fold (λ size instance. joined size (kind_size below instance.kind)) start xs).deep ≡ true →
      (start.deep ≡ true) ⊎ ((place inner : ℕ) × (instance : BoundInstance) × (slice_get xs place ≡ Some instance) × (module_of instance.kind ≡ Some inner) × IsDeeper bound levels inner)
  fold_deep [] start b d = inl d
  fold_deep (x ∷ xs) start b d = elim (fold_deep xs (joined start (kind_size below x.kind)) (tail_below x xs b) d) [
    | inl h ↦ elim (or_cases start.deep (kind_size below x.kind).deep h) [
      | inl g ↦ inl g
      | inr g ↦ (let k = kind_deep x.kind (head_below x xs b) g in inr (0, k.0, x, refl, k.1, k.2))
    ]
    | inr h ↦ inr (suc h.0, h.1, h.2, h.3, h.4, h.5)
  ]

  stays_deep : (xs : List BoundInstance) (start : Size) → start.deep ≡ true → (fold (λ size instance. joined size (kind_size below instance.kind)) start xs).deep ≡ true
  stays_deep [] start d = d
  stays_deep (x ∷ xs) start d = stays_deep xs (joined start (kind_size below x.kind)) (or_left start.deep (kind_size below x.kind).deep d)

  deep_fold : (xs : List BoundInstance) (start : Size) → AreBelow (length below) xs → (place inner : ℕ) (instance : BoundInstance) → slice_get xs place ≡ Some instance → module_of instance.kind ≡ Some inner → IsDeeper bound levels inner →
      (fold (λ size instance. joined size (kind_size below instance.kind)) start xs).deep ≡ true
  deep_fold [] start b place inner instance e f d = absurd cc
  deep_fold (x ∷ xs) start b zero inner instance e f d =
      let is = same_Some x instance e in
      stays_deep xs (joined start (kind_size below x.kind)) (or_right start.deep (kind_size below x.kind).deep
      (deep_kind x.kind (head_below x xs b) inner (subst (λ (i : BoundInstance). module_of i.kind ≡ Some inner) (sym is) f) d))
  deep_fold (x ∷ xs) start b (suc place) inner instance e f d = deep_fold xs (joined start (kind_size below x.kind)) (tail_below x xs b) place inner instance e f d

  -- the module at a place
  owner_size : (at : ℕ) (owner : BoundModule) → slice_get bound.modules at ≡ Some owner → AreBelow (length below) owner.instances → IsSizeOf bound (suc levels) at (module_size below owner)
  owner_size at owner e b =
      let start : Size = record { deep = false; cells = 0; bits = min (bits_of owner.wires) 2000001 } in
      let instances : instances_of bound at ≡ owner.instances = ap (λ (o : Option BoundModule). unwrap_or (option_map (λ (m : BoundModule). m.instances) o) []) e in
      let wires : wires_of bound at ≡ owner.wires = ap (λ (o : Option BoundModule). unwrap_or (option_map (λ (m : BoundModule). m.wires) o) []) e in
      let cells = fold_cells owner.instances start b (omega arith) in
      let bits = fold_bits owner.instances start b (omega arith) in
      let cell_sum : cell_count bound (suc levels) at ≡ sum_by (λ instance. cells_by (cell_count bound levels) instance.kind) owner.instances =
      cell_count_more bound levels at ∙ ap (sum_by (λ (instance : BoundInstance). cells_by (cell_count bound levels) instance.kind)) instances in
      let bit_sum : bit_count bound (suc levels) at ≡ bits_of owner.wires + sum_by (λ instance. bits_by (bit_count bound levels) instance.kind) owner.instances =
      bit_count_more bound levels at
      ∙ subst (λ (ws : List BoundWire). bits_of (wires_of bound at) + sum_by (λ (instance : BoundInstance). bits_by (bit_count bound levels) instance.kind) (instances_of bound at) ≡ bits_of ws + sum_by (λ (instance : BoundInstance). bits_by (bit_count bound levels) instance.kind) owner.instances) wires
      (ap (λ (xs : List BoundInstance). bits_of (wires_of bound at) + sum_by (λ (instance : BoundInstance). bits_by (bit_count bound levels) instance.kind) xs) instances) in
      record {
        is_deep = (
          (λ t. elim (fold_deep owner.instances start b t) [
            | inl h ↦ absurd cc
            | inr h ↦ more_path bound levels at h.0 h.1 h.2 (subst (λ (xs : List BoundInstance). slice_get xs h.0 ≡ Some h.2) (sym instances) h.3) h.4 h.5
          ]),
          (λ d. let h = path_more bound levels at d in
              deep_fold owner.instances start b h.0 h.1 h.2 (subst (λ (xs : List BoundInstance). slice_get xs h.0 ≡ Some h.2) instances h.3) h.4 h.5),
        );
        has_cells = omega (arith, cells, cell_sum);
        has_bits = omega (arith, bits, bit_sum);
      }

  pub level_more : ((at : ℕ) (owner : BoundModule) → slice_get bound.modules at ≡ Some owner → AreBelow (length below) owner.instances) → AreSizes bound (suc levels) (map (module_size below) bound.modules)
  level_more b = record {
    count = simp length-map;
    each = λ at size e. go at size (slice_get bound.modules at) refl (sym (slice_get-map (module_size below) bound.modules at) ∙ e);
  } where
    go : (at : ℕ) (size : Size) (o : Option BoundModule) → slice_get bound.modules at ≡ o → option_map (module_size below) o ≡ Some size → IsSizeOf bound (suc levels) at size
    go at size None e f = absurd cc
    go at size (Some owner) e f = subst (IsSizeOf bound (suc levels) at) (same_Some (module_size below owner) size f) (owner_size at owner e (b at owner e))

-- each instance of a module that there is, is of a module that there is
pub below_all : (bound : Bound) (levels : ℕ) (below : List Size) → HasModules bound → AreSizes bound levels below → (at : ℕ) (owner : BoundModule) → slice_get bound.modules at ≡ Some owner → AreBelow (length below) owner.instances
below_all bound levels below has sizes at owner e place inner instance f g =
    let instances : instances_of bound at ≡ owner.instances = ap (λ (o : Option BoundModule). unwrap_or (option_map (λ (m : BoundModule). m.instances) o) []) e in
    let l = has at place inner instance (subst (λ (xs : List BoundInstance). slice_get xs place ≡ Some instance) (sym instances) f) g in
    omega (arith, l, sizes.count)

pub level_step : (bound : Bound) (levels : ℕ) (below seen new : List Size) (modules : List BoundModule) → HasModules bound → AreSizes bound levels below → seen ≡ below → modules ≡ bound.modules → new ≡ map (module_size seen) modules →
    AreSizes bound (levels + 1) new
level_step bound levels below seen new modules has sizes e f g =
    let is : new ≡ map (module_size below) bound.modules = g ∙ ap (λ (xs : List Size). map (module_size xs) modules) e ∙ ap (map (module_size below)) f in
    let n : suc levels ≡ levels + 1 = omega arith in
    subst (AreSizes bound (levels + 1)) (sym is) (subst (λ (k : ℕ). AreSizes bound k (map (module_size below) bound.modules)) n (level_more bound levels below sizes (below_all bound levels below has sizes)))

pub below_seen : (bound : Bound) (levels : ℕ) (below seen : List Size) (modules : List BoundModule) → HasModules bound → AreSizes bound levels below → seen ≡ below → modules ≡ bound.modules →
    (at : ℕ) (owner : BoundModule) → slice_get modules at ≡ Some owner → AreBelow (length seen) owner.instances
below_seen bound levels below seen modules has sizes e f at owner g =
    subst (λ (xs : List Size). AreBelow (length xs) owner.instances) (sym e) (below_all bound levels below has sizes at owner (subst (λ (ms : List BoundModule). slice_get ms at ≡ Some owner) f g))
