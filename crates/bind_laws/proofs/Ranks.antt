-- Ranks of bound modules, from an order.
use Rattle.std.proofs.Common.{◌≡◌, ◌≢◌, ◌∙◌, ◌<◌, ℕ, zero, suc, Bool, true, false, cond, List, [], ◌∷◌, take, length, get_or, Option, Some, None, refl, sym, ap, subst, arith}
use Rattle.std.specs.Prelude.{slice_get, nat_eq}
use Rattle.std.specs.List.{Contains, flat_map}
use Rattle.std.proofs.lemmas.Bool.Decides.{nat_tests}
use Rattle.std.proofs.lemmas.Option.{same_Some, slice_get_within, get_or_from_slice_get}
use Rattle.verilog_tree.specs.Trees as tree
use Rattle.bind_forms.specs.declared.bound.BoundKind.TheVariants as kind
use Rattle.bind_forms.specs.declared.bound.Bound.{Bound}
use Rattle.bind_forms.specs.WellFormed.{Instantiates as BoundInstantiates}
use Rattle.bind_forms.specs.Modules.{Setting, Instantiates, IsTopBy}
use Rattle.bind_forms.specs.Binds.{Binds, BindsKind, BindsInstance, BindsModuleAt, item_instances}
use Rattle.bind_laws.specs.Laws.{OrdersLeaveNoRing}
use Rattle.bind_laws.proofs.Lists.{Pairs, got_contains, contains_got, got_within, got_pairs, flat_got, zip_right, zip_length, distinct_fit}
use Rattle.bind_laws.proofs.Pieces.{instance_item}
use Rattle.bind_laws.proofs.Owners.{source_of}
use Rattle.bind_laws.proofs.Links.{means_one}

-- ---- the place of a number among distinct ones

abbrev place_of : List ℕ → ℕ → ℕ
place_of [] x = 0
place_of (y ∷ ys) x = cond (nat_eq y x) 0 (suc (place_of ys x))

place_is : (xs : List ℕ) → Pairs (λ one other. one ≢ other) xs → (k x : ℕ) → slice_get xs k ≡ Some x → place_of xs x ≡ k
place_is [] once k x e = absurd cc
place_is (y ∷ ys) once zero x e =
    let same = same_Some y x e in
    here (nat_eq y x) refl same where
      here : (b : Bool) → nat_eq y x ≡ b → y ≡ x → cond b 0 (suc (place_of ys x)) ≡ 0
      here true is same = refl
      here false is same = absurd (grind (arith, nat_tests))
place_is (y ∷ ys) once (suc k) x e =
    let apart = once 0 (suc k) y x (omega arith) refl e in
    let deep = place_is ys (λ i j v w l f g. once (suc i) (suc j) v w (omega (arith, l)) f g) k x e in
    there (nat_eq y x) refl apart deep where
      there : (b : Bool) → nat_eq y x ≡ b → y ≢ x → place_of ys x ≡ k → cond b 0 (suc (place_of ys x)) ≡ suc k
      there true is apart deep = absurd (apart (grind (arith, nat_tests)))
      there false is apart deep = ap suc deep

-- an item among the first ones stands before them
taken_got : {X : Type 0} (xs : List X) (n k : ℕ) (x : X) → slice_get (take n xs) k ≡ Some x → (k < n) × (slice_get xs k ≡ Some x)
taken_got xs zero k x e = absurd (none xs e) where
  none : {X : Type 0} {x : X} (xs : List X) → slice_get (take 0 xs) k ≡ Some x → ⊥
  none xs e = cc
taken_got [] (suc n) k x e = absurd cc
taken_got (y ∷ xs) (suc n) zero x e = (omega arith, e)
taken_got (y ∷ xs) (suc n) (suc k) x e = let r = taken_got xs n k x e in let l = r.0 in (omega arith, r.1)

-- ---- what a bound module instantiates

item_listed : (items : List tree.Item) (k : ℕ) (item other : tree.Item) → slice_get items k ≡ Some item → item ≡ other → Contains items other
item_listed items k item other e same = got_contains items k other (e ∙ ap Some same)

-- an instance in the bound source comes from one in the text
instantiates : (setting : Setting) (bound : Bound) (binds : Binds setting bound) (outer inner : ℕ) → BoundInstantiates bound outer inner
    → (at below : ℕ) × (slice_get binds.places outer ≡ Some at) × (slice_get binds.places inner ≡ Some below) × Instantiates setting at below
instantiates setting bound binds outer inner i =
    let s = source_of setting bound binds outer i.holder i.there in
    let r = zip_right (BindsInstance setting binds.places i.holder.wires) (flat_map item_instances s.2.owner.items) i.holder.instances i.at i.instance s.2.binds.instances i.listed in
    let means : BindsKind setting binds.places r.0.0 (kind.Module inner) = subst (BindsKind setting binds.places r.0.0) i.kind r.2.kind in
    let f = flat_got item_instances s.2.owner.items i.at r.0 r.1 in
    let stands = instance_item f.1 f.2 r.0 f.4 in
    let within = slice_get_within stands.0 f.2 r.0.1 stands.2 in (
      s.0,
      means.0,
      s.1,
      means.1,
      record {
        holder = s.2.owner;
        there = s.2.there;
        kind = r.0.0;
        instances = stands.0;
        stands = item_listed s.2.owner.items f.0 f.1 (tree.Instances r.0.0 stands.0) f.3 stands.1;
        some = omega (arith, within);
        means = means.2;
      },
    )

-- ---- ranks

pub orders_leave_no_ring : OrdersLeaveNoRing
orders_leave_no_ring setting bound order binds is = record { rank = λ at. place_of order (get_or binds.places at 0); bounded = bounded; falls = falls } where
  once : Pairs (λ one other. one ≢ other) order
  once = got_pairs (λ one other. one ≢ other) order is.once

  -- the rank of a module is its place in the order
  ranked : (k at : ℕ) → slice_get binds.places k ≡ Some at → (place : ℕ) × (slice_get order place ≡ Some at) × (place_of order (get_or binds.places k 0) ≡ place)
  ranked k at e =
      let there = contains_got order at ((is.each at).1 ((binds.reached at).0 (got_contains binds.places k at e))) in
      let value = get_or_from_slice_get binds.places k at 0 e in
      (there.0, there.1, ap (place_of order) value ∙ place_is order once there.0 at there.1)

  bounded : (at : ℕ) → at < length bound.modules → place_of order (get_or binds.places at 0) < length bound.modules
  bounded at l =
      let len = zip_length (BindsModuleAt setting binds.places) binds.places bound.modules binds.modules in
      let got = got_within binds.places at (omega (arith, len)) in
      let r = ranked at got.0 got.1 in
      let within = slice_get_within order r.0 got.0 r.1 in
      let rank = r.2 in
      let fits = distinct_fit order binds.places once (λ k x e. contains_got binds.places x ((binds.reached x).1 ((is.each x).0 (got_contains order k x e)))) in
      omega (arith, len, within, rank, fits)

  falls : (outer inner : ℕ) → BoundInstantiates bound outer inner → place_of order (get_or binds.places inner 0) < place_of order (get_or binds.places outer 0)
  falls outer inner i =
      let t = instantiates setting bound binds outer inner i in
      let high = ranked outer t.0 t.2 in
      let low = ranked inner t.1 t.3 in
      let within = slice_get_within order high.0 t.0 high.1 in
      let holds = subst (λ (n : ℕ). Instantiates setting n t.1) (sym (get_or_from_slice_get order high.0 t.0 0 high.1)) t.4 in
      let before = contains_got (take high.0 order) t.1 (is.after high.0 t.1 within holds) in
      let stands = taken_got order high.0 before.0 t.1 before.1 in
      let lt = stands.0 in
      let same : place_of order t.1 ≡ before.0 = place_is order once before.0 t.1 stands.1 in
      let value = ap (place_of order) (get_or_from_slice_get binds.places inner t.1 0 t.3) in
      let rank = high.2 in
      omega (arith, lt, same, value, rank)

-- ---- orders

pub top_one : (setting : Setting) (name : Option (List ℕ)) (a b : ℕ) → IsTopBy setting name a → IsTopBy setting name b → a ≡ b
top_one setting (Some name) a b g h = means_one setting name a b g h
top_one setting None a b g h = h.1 a g.0
