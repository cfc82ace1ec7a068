-- A source has one bound source.
use Rattle.std.proofs.Common.{◌≡◌, ◌≢◌, ◌∙◌, ◌<◌, ◌≤◌, ◌+◌, ◌⊎◌, inl, inr, ℕ, zero, suc, Bool, List, [], ◌∷◌, ◌++◌, map, reverse, length, Option, Some, None, refl, sym, ap, subst, arith}
use Rattle.std.specs.Prelude.{slice_get}
use Rattle.std.specs.List.{AllZip, flat_map}
use Rattle.std.proofs.lemmas.Bool.{cases_order}
use Rattle.std.proofs.lemmas.Option.{same_Some}
use Rattle.rsfq_ids.specs.WellFormed.{IsTable, IsRow}
use Rattle.verilog_tree.specs.Trees as tree
use Rattle.bind_sites.specs.declared.sort.Sort.TheVariants as sort
use Rattle.bind_sites.specs.Selects.{Selects}
use Rattle.bind_sites.specs.Sites.{Operand, operands, Site, Listed, Wire, Assigned, Linked, port_names, sites}
use Rattle.bind_sites.specs.Scope.{IsAt, IsPort}
use Rattle.bind_forms.specs.declared.bound.BoundPort.{BoundPort}
use Rattle.bind_forms.specs.declared.bound.BoundWire.{BoundWire}
use Rattle.bind_forms.specs.declared.bound.BoundPart.{BoundPart}
use Rattle.bind_forms.specs.declared.bound.BoundAssign.{BoundAssign}
use Rattle.bind_forms.specs.declared.bound.BoundKind.{BoundKind}
use Rattle.bind_forms.specs.declared.bound.BoundKind.TheVariants as kind
use Rattle.bind_forms.specs.declared.bound.BoundLink.{BoundLink}
use Rattle.bind_forms.specs.declared.bound.BoundInstance.{BoundInstance}
use Rattle.bind_forms.specs.declared.bound.BoundModule.{BoundModule}
use Rattle.bind_forms.specs.declared.bound.Bound.{Bound}
use Rattle.bind_forms.specs.WellFormed.{port_wire, cell_ports}
use Rattle.bind_forms.specs.Modules.{Setting, IsReached, HasPorts, OfModule, OfCell}
use Rattle.bind_forms.specs.Binds.{BindsSelect, BindsOperand, BindsExpr, BindsAssign, BindsNamed, BindsOrdered, BindsLinks, BindsKind, BindsInstance, BindsPort, MakesWire, ByDeclaration, ByUse, IsUsedAt, AreOthers, BindsModule, BindsModuleAt, Binds, named_exprs, ordered_exprs, item_assigns, item_instances}
use Rattle.bind_forms.specs.Faults.{HasReachedSites}
use Rattle.bind_forms.specs.First.{Duplicates, StandsNowhere}
use Rattle.bind_laws.proofs.Single.{HasNoDouble}
use Rattle.bind_laws.specs.Laws.{BoundIsOne}
use Rattle.bind_laws.proofs.Lists.{Pairs, joined_got, map_got, one_got, got_pairs, got_all, got_contains, contains_got, zip_left, zip_right}
use Rattle.bind_laws.proofs.Links.{means_one, cell_one}
use Rattle.bind_laws.proofs.Assigns.{ports_listed}
use Rattle.bind_laws.proofs.Ranks.{top_one}
use Rattle.bind_laws.proofs.Ones.{single, one_port, ports_are_one, selects_same}

-- ---- lists

zip_one : {X Y : Type 0} (R : X → Y → Type 0) (xs : List X) (ys zs : List Y) → ((k : ℕ) (x : X) (y z : Y) → slice_get xs k ≡ Some x → R x y → R x z → y ≡ z) → AllZip R xs ys → AllZip R xs zs → ys ≡ zs
zip_one R [] [] [] one g h = refl
zip_one R [] [] (z ∷ zs) one g h = absurd h
zip_one R [] (y ∷ ys) zs one g h = absurd g
zip_one R (x ∷ xs) [] zs one g h = absurd g
zip_one R (x ∷ xs) (y ∷ ys) [] one g h = absurd h
zip_one {X} {Y} R (x ∷ xs) (y ∷ ys) (z ∷ zs) one g h =
    let first = one 0 x y z refl g.0 h.0 in
    let rest = zip_one R xs ys zs (λ k v w u e. one (suc k) v w u e) g.1 h.1 in
    ap (λ (v : Y). v ∷ ys) first ∙ ap (λ (l : List Y). z ∷ l) rest

-- each number of a list stands in another one
abbrev Among : List ℕ → List ℕ → Type 0
Among xs ys = (k x : ℕ) → slice_get xs k ≡ Some x → (j : ℕ) × (slice_get ys j ≡ Some x)

abbrev Rises : List ℕ → Type 0
Rises xs = Pairs (λ one other. one < other) xs

tail_rises : (x : ℕ) (xs : List ℕ) → Rises (x ∷ xs) → Rises xs
tail_rises x xs h i j v w l e f = h (suc i) (suc j) v w (omega (arith, l)) e f

-- the first number is the least
head_least : (x : ℕ) (xs : List ℕ) → Rises (x ∷ xs) → (k y : ℕ) → slice_get (x ∷ xs) k ≡ Some y → x ≤ y
head_least x xs h zero y e = let same = same_Some x y e in omega (arith, same)
head_least x xs h (suc k) y e = let lt = h 0 (suc k) x y (omega arith) refl e in omega (arith, lt)

tail_among : (x : ℕ) (xs ys : List ℕ) → Rises (x ∷ xs) → Among (x ∷ xs) (x ∷ ys) → Among xs ys
tail_among x xs ys rises among k v e = by (among (suc k) v e) where
  above : x < v
  above = rises 0 (suc k) x v (omega arith) refl e

  by : (j : ℕ) × (slice_get (x ∷ ys) j ≡ Some v) → (j : ℕ) × (slice_get ys j ≡ Some v)
  by r = go r.0 r.1 where
    go : (j : ℕ) → slice_get (x ∷ ys) j ≡ Some v → (i : ℕ) × (slice_get ys i ≡ Some v)
    go zero f = let same = same_Some x v f in let lt = above in absurd (omega (arith, same, lt))
    go (suc j) f = (j, f)

-- rising lists of the same numbers are one
rising_one : (xs ys : List ℕ) → Rises xs → Rises ys → Among xs ys → Among ys xs → xs ≡ ys
rising_one [] [] g h p q = refl
rising_one [] (y ∷ ys) g h p q = absurd (let r = q 0 y refl in none r.0 r.1) where
  none : (j : ℕ) → slice_get [] j ≡ Some y → ⊥
  none j e = cc
rising_one (x ∷ xs) [] g h p q = absurd (let r = p 0 x refl in none r.0 r.1) where
  none : (j : ℕ) → slice_get [] j ≡ Some x → ⊥
  none j e = cc
rising_one (x ∷ xs) (y ∷ ys) g h p q =
    let here = p 0 x refl in
    let there = q 0 y refl in
    let low = head_least y ys h here.0 x here.1 in
    let high = head_least x xs g there.0 y there.1 in
    let same : y ≡ x = omega (arith, low, high) in
    let p' = subst (λ (n : ℕ). Among (x ∷ xs) (n ∷ ys)) same p in
    let q' = subst (λ (n : ℕ). Among (n ∷ ys) (x ∷ xs)) same q in
    let h' = subst (λ (n : ℕ). Rises (n ∷ ys)) same h in
    let rest = rising_one xs ys (tail_rises x xs g) (tail_rises x ys h') (tail_among x xs ys g p') (tail_among x ys xs h' q') in
    ap (λ (l : List ℕ). x ∷ l) rest ∙ ap (λ (n : ℕ). n ∷ ys) (sym same)

-- of distinct items one stands at one place
places_one : {X : Type 0} (xs : List X) → Pairs (λ one other. one ≢ other) xs → (i j : ℕ) (x : X) → slice_get xs i ≡ Some x → slice_get xs j ≡ Some x → i ≡ j
places_one xs once i j x e f = elim (cases_order i j) [
  | inl same ↦ same
  | inr other ↦ elim other [ inl l ↦ absurd (once i j x x l e f refl) | inr l ↦ absurd (once j i x x l f e refl) ]
]

rising_places : (xs : List ℕ) → Rises xs → (i j x : ℕ) → slice_get xs i ≡ Some x → slice_get xs j ≡ Some x → i ≡ j
rising_places xs rises i j x e f = elim (cases_order i j) [
  | inl same ↦ same
  | inr other ↦ elim other [ inl l ↦ (let lt = rises i j x x l e f in absurd (omega (arith, lt))) | inr l ↦ (let lt = rises j i x x l f e in absurd (omega (arith, lt))) ]
]

-- ---- wires

abbrev whole : List ℕ → Operand
whole n = record { name = n; select = None }

-- no operand stands where a wire is declared
not_used : (all : List Site) (at : ℕ) (name declared : List ℕ) (range : Option (ℕ × ℕ)) → IsAt all at (Wire declared range) → ¬ IsUsedAt all at name
not_used all at name declared range there (inl stands) = apart (one_got all at (Wire declared range) (Assigned (whole name)) there stands) where
  apart : Wire declared range ≡ Assigned (whole name) → ⊥
  apart e = cc
not_used all at name declared range there (inr stands) = apart (one_got all at (Wire declared range) (Linked (whole name)) there stands) where
  apart : Wire declared range ≡ Linked (whole name) → ⊥
  apart e = cc

-- one name is used at one place
used_same : (all : List Site) (at : ℕ) (a b : List ℕ) → IsUsedAt all at a → IsUsedAt all at b → a ≡ b
used_same all at a b used used_too = by (name_at used) (name_at used_too) where
  name_of : Site → List ℕ
  name_of (Assigned operand) = operand.name
  name_of (Linked operand) = operand.name
  name_of _ = []

  name_at : {n : List ℕ} → IsUsedAt all at n → (site : Site) × IsAt all at site × (name_of site ≡ n)
  name_at {n} (inl stands) = (Assigned (whole n), stands, refl)
  name_at {n} (inr stands) = (Linked (whole n), stands, refl)

  by : (site : Site) × IsAt all at site × (name_of site ≡ a) → (site : Site) × IsAt all at site × (name_of site ≡ b) → a ≡ b
  by x y = sym x.2 ∙ (ap name_of (one_got all at x.0 y.0 x.1 y.1) ∙ y.2)

wire_is : (a b : BoundWire) → a.name ≡ b.name → a.range ≡ b.range → a ≡ b
wire_is a b n r = ap (λ (x : List ℕ). wire_with x a.range) n ∙ ap (λ (x : Option (ℕ × ℕ)). wire_with b.name x) r where
  wire_with : List ℕ → Option (ℕ × ℕ) → BoundWire
  wire_with name range = record { name = name; range = range }

made_one : (all : List Site) (at : ℕ) (a b : BoundWire) → MakesWire all at a → MakesWire all at b → a ≡ b
made_one all at a b (ByDeclaration there none) (ByDeclaration there_too none_too) = by (one_got all at (Wire a.name a.range) (Wire b.name b.range) there there_too) where
  by : Wire a.name a.range ≡ Wire b.name b.range → a ≡ b
  by e = let name_is : a.name ≡ b.name = cc in let range_is : a.range ≡ b.range = cc in wire_is a b name_is range_is
made_one all at a b (ByDeclaration there none) (ByUse used first link none_too no_wire is) = absurd (not_used all at b.name a.name a.range there used)
made_one all at a b (ByUse used first link none no_wire is) (ByDeclaration there none_too) = absurd (not_used all at a.name b.name b.range there used)
made_one all at a b (ByUse used first link none no_wire is) (ByUse used_too first_too link_too none_too no_wire_too is_too) = wire_is a b (used_same all at a.name b.name used used_too) (is ∙ sym is_too)

made_among : (all : List Site) (a b : List BoundWire) (g : AreOthers all a) (h : AreOthers all b) → Among g.places h.places
made_among all a b g h k x e =
    let r = zip_left (MakesWire all) g.places a k x g.each e in
    contains_got h.places x (h.all x r.0 r.2)

others_one : (all : List Site) (a b : List BoundWire) → AreOthers all a → AreOthers all b → a ≡ b
others_one all a b g h =
    let places_are = rising_one g.places h.places (got_pairs (λ one other. one < other) g.places g.rising) (got_pairs (λ one other. one < other) h.places h.rising) (made_among all a b g h) (made_among all b a h g) in
    zip_one (MakesWire all) h.places a b (λ k at y z e p q. made_one all at y z p q) (subst (λ (l : List ℕ). AllZip (MakesWire all) l a) places_are g.each) h.each

port_one : (all : List Site) → HasNoDouble all → (name : List ℕ) (a b : BoundPort) → BindsPort all name a → BindsPort all name b → a ≡ b
port_one all no_double name a b g h =
    let both = one_port all name a.output b.output a.range b.range no_double g.declared h.declared in
    let name_is : a.name ≡ b.name = g.name_is ∙ sym h.name_is in
    by name_is both.0 both.1 where
      by : a.name ≡ b.name → a.output ≡ b.output → a.range ≡ b.range → a ≡ b
      by n o r = ap (λ (x : List ℕ). port_at x a.output a.range) n ∙ ap (λ (x : Bool). port_at b.name x a.range) o ∙ ap (λ (x : Option (ℕ × ℕ)). port_at b.name b.output x) r where
        port_at : List ℕ → Bool → Option (ℕ × ℕ) → BoundPort
        port_at name output range = record { name = name; output = output; range = range }

-- ---- each name is that of one wire

pairs_joined : {X : Type 0} (R : X → X → Type 0) (xs ys : List X) → Pairs R xs → Pairs R ys → ((i j : ℕ) (x y : X) → slice_get xs i ≡ Some x → slice_get ys j ≡ Some y → R x y) → Pairs R (xs ++ ys)
pairs_joined {X} R xs ys own other across i j x y l e f = by (joined_got xs ys i x e) (joined_got xs ys j y f) where
  by : (((i < length xs) × (slice_get xs i ≡ Some x)) ⊎ ((a : ℕ) × (i ≡ length xs + a) × (slice_get ys a ≡ Some x))) → (((j < length xs) × (slice_get xs j ≡ Some y)) ⊎ ((b : ℕ) × (j ≡ length xs + b) × (slice_get ys b ≡ Some y))) → R x y
  by (inl h) (inl k) = own i j x y l h.1 k.1
  by (inl h) (inr k) = across i k.0 x y h.1 k.2
  by (inr h) (inl k) = let p = h.1 in let q = k.0 in absurd (omega (arith, p, q))
  by (inr h) (inr k) = let p = h.1 in let q = k.1 in other h.0 k.0 x y (omega (arith, p, q)) h.2 k.2

-- the later of two wires that sites make has another name
made_apart : (all : List Site) → HasNoDouble all → (p q : ℕ) → p < q → (a b : BoundWire) → MakesWire all p a → MakesWire all q b → a.name ≢ b.name
made_apart all no_double p q l a b (ByDeclaration there none) (ByDeclaration there_too none_too) same =
    no_double q b.name (sort.Wire, refl, ((Wire b.name b.range, there_too, refl), (p, l, (Wire b.name a.range, subst (λ (n : List ℕ). IsAt all p (Wire n a.range)) same there, refl))))
made_apart all no_double p q l a b (ByDeclaration there none) (ByUse used first link none_too no_wire is) same = no_wire (a.range, (p, subst (λ (n : List ℕ). IsAt all p (Wire n a.range)) same there))
made_apart all no_double p q l a b (ByUse used first link none no_wire is) (ByDeclaration there none_too) same = no_wire (b.range, (q, subst (λ (n : List ℕ). IsAt all q (Wire n b.range)) (sym same) there))
made_apart all no_double p q l a b (ByUse used first link none no_wire is) (ByUse used_too first_too link_too none_too no_wire_too is_too) same = first_too p l (subst (λ (n : List ℕ). IsUsedAt all p n) same used)

made_undirected : (all : List Site) (at : ℕ) (wire : BoundWire) → MakesWire all at wire → (output : Bool) (range : Option (ℕ × ℕ)) → ¬ IsPort all wire.name output range
made_undirected all at wire (ByDeclaration there none) output range port = none (output, range, port)
made_undirected all at wire (ByUse used first link none no_wire is) output range port = none (output, range, port)

abbrev NameApart : BoundWire → BoundWire → Type 0
NameApart one other = one.name ≢ other.name

-- port names are distinct
names_apart : (owner : tree.Module) → HasNoDouble (sites owner) → Pairs (λ one other. one ≢ other) (port_names owner.head)
names_apart owner no_double i j one other l e f same =
    let r = ports_listed owner i j one other l e f in
    no_double r.1 other (sort.Listed, refl, ((Listed other, r.4, refl), (r.0, r.2, (Listed other, subst (λ (n : List ℕ). IsAt (sites owner) r.0 (Listed n)) same r.3, refl))))

wires_apart : (setting : Setting) (places : List ℕ) (owner : tree.Module) (bound : BoundModule) → HasNoDouble (sites owner) → BindsModule setting places owner bound → Pairs NameApart bound.wires
wires_apart setting places owner bound no_double b = subst (Pairs NameApart) (sym b.wires) (pairs_joined NameApart (map port_wire bound.ports) b.others ports others across) where
  ports : Pairs NameApart (map port_wire bound.ports)
  ports i j one other l e f same =
      let m = map_got port_wire bound.ports i one e in
      let n = map_got port_wire bound.ports j other f in
      let r = zip_right (BindsPort (sites owner)) (port_names owner.head) bound.ports i m.0 b.ports m.1 in
      let s = zip_right (BindsPort (sites owner)) (port_names owner.head) bound.ports j n.0 b.ports n.1 in
      let one_is : m.0.name ≡ one.name = ap (λ (w : BoundWire). w.name) m.2 in
      let other_is : n.0.name ≡ other.name = ap (λ (w : BoundWire). w.name) n.2 in
      names_apart owner no_double i j r.0 s.0 l r.1 s.1 (sym r.2.name_is ∙ (one_is ∙ (same ∙ (sym other_is ∙ s.2.name_is))))

  others : Pairs NameApart b.others
  others i j one other l e f =
      let r = zip_right (MakesWire (sites owner)) b.others_are.places b.others i one b.others_are.each e in
      let s = zip_right (MakesWire (sites owner)) b.others_are.places b.others j other b.others_are.each f in
      let lt = got_pairs (λ one other. one < other) b.others_are.places b.others_are.rising i j r.0 s.0 l r.1 s.1 in
      made_apart (sites owner) no_double r.0 s.0 lt one other r.2 s.2

  across : (i j : ℕ) (one other : BoundWire) → slice_get (map port_wire bound.ports) i ≡ Some one → slice_get b.others j ≡ Some other → NameApart one other
  across i j one other e f same =
      let m = map_got port_wire bound.ports i one e in
      let r = zip_right (BindsPort (sites owner)) (port_names owner.head) bound.ports i m.0 b.ports m.1 in
      let s = zip_right (MakesWire (sites owner)) b.others_are.places b.others j other b.others_are.each f in
      let one_is : m.0.name ≡ one.name = ap (λ (w : BoundWire). w.name) m.2 in
      let name_is : r.0 ≡ other.name = sym r.2.name_is ∙ (one_is ∙ same) in
      made_undirected (sites owner) s.0 other s.2 m.0.output m.0.range (subst (λ (n : List ℕ). IsPort (sites owner) n m.0.output m.0.range) name_is r.2.declared)

-- ---- parts

part_is : (a b : BoundPart) → a.wire ≡ b.wire → a.bit ≡ b.bit → a.count ≡ b.count → a ≡ b
part_is a b w i c = ap (λ (x : ℕ). part_at x a.bit a.count) w ∙ ap (λ (x : ℕ). part_at b.wire x a.count) i ∙ ap (λ (x : ℕ). part_at b.wire b.bit x) c where
  part_at : ℕ → ℕ → ℕ → BoundPart
  part_at wire bit count = record { wire = wire; bit = bit; count = count }

bits_one : (wire : BoundWire) (select : Option (ℕ × ℕ)) (a b : BoundPart) → BindsSelect wire select a → BindsSelect wire select b → (a.bit ≡ b.bit) × (a.count ≡ b.count)
bits_one wire None a b g h = (g.0 ∙ sym h.0, g.1 ∙ sym h.1)
bits_one wire (Some select) a b g h =
    let same : g.0 ≡ h.0 = same_Some g.0 h.0 (sym g.1 ∙ h.1) in
    selects_same h.0.0 h.0.1 select a.bit a.count b.bit b.count (subst (λ (r : ℕ × ℕ). Selects r select a.bit a.count) same g.2) h.2

operand_one : (wires : List BoundWire) → Pairs NameApart wires → (operand : Operand) (a b : BoundPart) → BindsOperand wires operand a → BindsOperand wires operand b → a ≡ b
operand_one wires once operand a b g h =
    let place : a.wire ≡ b.wire = by (cases_order a.wire b.wire) in
    let wire_same = one_got wires b.wire g.wire h.wire (subst (λ (n : ℕ). slice_get wires n ≡ Some g.wire) place g.there) h.there in
    let bits = bits_one h.wire operand.select a b (subst (λ (w : BoundWire). BindsSelect w operand.select a) wire_same g.bits) h.bits in
    part_is a b place bits.0 bits.1 where
      name_is : g.wire.name ≡ h.wire.name
      name_is = g.name ∙ sym h.name

      by : (a.wire ≡ b.wire) ⊎ ((a.wire < b.wire) ⊎ (b.wire < a.wire)) → a.wire ≡ b.wire
      by (inl same) = same
      by (inr (inl l)) = absurd (once a.wire b.wire g.wire h.wire l g.there h.there name_is)
      by (inr (inr l)) = absurd (once b.wire a.wire h.wire g.wire l h.there g.there (sym name_is))

expr_one : (wires : List BoundWire) → Pairs NameApart wires → (expr : tree.Expr) (a b : List BoundPart) → BindsExpr wires expr a → BindsExpr wires expr b → a ≡ b
expr_one wires once expr a b g h = zip_one (BindsOperand wires) (reverse (operands expr)) a b (λ k x y z e p q. operand_one wires once x y z p q) g h

assign_one : (wires : List BoundWire) → Pairs NameApart wires → (pair : tree.Expr × tree.Expr) (a b : BoundAssign) → BindsAssign wires pair a → BindsAssign wires pair b → a ≡ b
assign_one wires once pair a b g h =
    by (expr_one wires once pair.0 a.to b.to g.to h.to) (expr_one wires once pair.1 a.from b.from g.from h.from) where
      assign_at : List BoundPart → List BoundPart → BoundAssign
      assign_at to from = record { to = to; from = from }

      by : a.to ≡ b.to → a.from ≡ b.from → a ≡ b
      by t f = ap (λ (x : List BoundPart). assign_at x a.from) t ∙ ap (λ (x : List BoundPart). assign_at b.to x) f

-- ---- instances

link_is : (a b : BoundLink) → a.port ≡ b.port → a.parts ≡ b.parts → a ≡ b
link_is a b p s = ap (λ (x : ℕ). link_at x a.parts) p ∙ ap (λ (x : List BoundPart). link_at b.port x) s where
  link_at : ℕ → List BoundPart → BoundLink
  link_at port parts = record { port = port; parts = parts }

links_one : (names : List (List ℕ)) → Pairs (λ one other. one ≢ other) names → (wires : List BoundWire) → Pairs NameApart wires → (links : tree.Links) (a b : List BoundLink) → BindsLinks names wires links a → BindsLinks names wires links b → a ≡ b
links_one names distinct wires once (tree.Named links) a b g h = zip_one (BindsNamed names wires) (named_exprs links) a b
    (λ k x y z e p q. link_is y z (places_one names distinct y.port z.port x.0 p.port q.port) (expr_one wires once x.1 y.parts z.parts p.parts q.parts)) g h
links_one names distinct wires once (tree.Ordered links) a b g h = zip_one (BindsOrdered wires) (ordered_exprs links) a b
    (λ k x y z e p q. link_is y z (p.port ∙ sym q.port) (expr_one wires once x.1 y.parts z.parts p.parts q.parts)) g h

kind_one : (setting : Setting) (places : List ℕ) → Rises places → (name : List ℕ) (a b : BoundKind) → BindsKind setting places name a → BindsKind setting places name b → a ≡ b
kind_one setting places rises name (kind.Module i) (kind.Module j) g h =
    let same = means_one setting name g.0 h.0 g.2 h.2 in
    ap kind.Module (rising_places places rises i j h.0 (subst (λ (n : ℕ). slice_get places i ≡ Some n) same g.1) h.1)
kind_one setting places rises name (kind.Module i) (kind.Cell row) g h = absurd (h.0 g.0 g.2.0)
kind_one setting places rises name (kind.Cell row) (kind.Module j) g h = absurd (g.0 h.0 h.2.0)
kind_one setting places rises name (kind.Cell i) (kind.Cell j) g h = ap kind.Cell (cell_one setting name i j g h)

-- the ports of a kind that is bound have distinct names
kind_names : (setting : Setting) (places : List ℕ) → IsTable setting.table → StandsNowhere setting Duplicates → ((k at : ℕ) → slice_get places k ≡ Some at → IsReached setting at)
    → (name : List ℕ) (of_kind : BoundKind) → BindsKind setting places name of_kind → (names : List (List ℕ)) → HasPorts setting name names → Pairs (λ one other. one ≢ other) names
kind_names setting places table none reached name (kind.Module number) b names (OfModule at holder means there is) =
    let same : b.0 ≡ at = means_one setting name b.0 at b.2 means in
    let r : HasReachedSites setting at (sites holder) = record { reached = subst (IsReached setting) same (reached number b.0 b.1); has = record { owner = holder; there = there; sites_are = refl } } in
    subst (Pairs (λ one other. one ≢ other)) (sym is) (names_apart holder (single setting none at (sites holder) r))
kind_names setting places table none reached name (kind.Cell row) b names (OfModule at holder means there is) = absurd (b.0 at means.0)
kind_names setting places table none reached name of_kind b names (OfCell row cell means there is) =
    let pins = (got_all IsRow setting.table.rows row cell table.rows there).pins in
    subst (Pairs (λ one other. one ≢ other)) (sym is) (got_pairs (λ one other. one ≢ other) (cell_ports cell) pins)

instance_one : (setting : Setting) (places : List ℕ) → IsTable setting.table → StandsNowhere setting Duplicates → Rises places → ((k at : ℕ) → slice_get places k ≡ Some at → IsReached setting at)
    → (wires : List BoundWire) → Pairs NameApart wires → (of_kind : List ℕ × tree.Instance) (a b : BoundInstance) → BindsInstance setting places wires of_kind a → BindsInstance setting places wires of_kind b → a ≡ b
instance_one setting places table none rises reached wires once of_kind a b g h =
    let names_are = ports_are_one setting of_kind.0 g.names h.names g.ports h.ports in
    let distinct = kind_names setting places table none reached of_kind.0 b.kind h.kind h.names h.ports in
    let links = subst (λ (l : List (List ℕ)). BindsLinks l wires of_kind.1.links a.links) names_are g.links in
    by (g.name ∙ sym h.name) (kind_one setting places rises of_kind.0 a.kind b.kind g.kind h.kind) (links_one h.names distinct wires once of_kind.1.links a.links b.links links h.links) where
      instance_at : List ℕ → BoundKind → List BoundLink → BoundInstance
      instance_at name of_it links = record { name = name; kind = of_it; links = links }

      by : a.name ≡ b.name → a.kind ≡ b.kind → a.links ≡ b.links → a ≡ b
      by n k l = ap (λ (x : List ℕ). instance_at x a.kind a.links) n ∙ ap (λ (x : BoundKind). instance_at b.name x a.links) k ∙ ap (λ (x : List BoundLink). instance_at b.name b.kind x) l

-- ---- modules

module_one : (setting : Setting) (places : List ℕ) → IsTable setting.table → StandsNowhere setting Duplicates → Rises places → ((k at : ℕ) → slice_get places k ≡ Some at → IsReached setting at)
    → (owner : tree.Module) → HasNoDouble (sites owner) → (a b : BoundModule) → BindsModule setting places owner a → BindsModule setting places owner b → a ≡ b
module_one setting places table none rises reached owner no_double a b g h =
    let ports = zip_one (BindsPort (sites owner)) (port_names owner.head) a.ports b.ports (λ k x y z e p q. port_one (sites owner) no_double x y z p q) g.ports h.ports in
    let others = others_one (sites owner) g.others h.others g.others_are h.others_are in
    let wires : a.wires ≡ b.wires = g.wires ∙ (ap (λ (l : List BoundPort). map port_wire l ++ g.others) ports ∙ (ap (λ (l : List BoundWire). map port_wire b.ports ++ l) others ∙ sym h.wires)) in
    let once = wires_apart setting places owner b no_double h in
    let assigns = zip_one (BindsAssign b.wires) (flat_map item_assigns owner.items) a.assigns b.assigns (λ k x y z e p q. assign_one b.wires once x y z p q)
    (subst (λ (w : List BoundWire). AllZip (BindsAssign w) (flat_map item_assigns owner.items) a.assigns) wires g.assigns) h.assigns in
    let instances = zip_one (BindsInstance setting places b.wires) (flat_map item_instances owner.items) a.instances b.instances
    (λ k x y z e p q. instance_one setting places table none rises reached b.wires once x y z p q)
    (subst (λ (w : List BoundWire). AllZip (BindsInstance setting places w) (flat_map item_instances owner.items) a.instances) wires g.instances) h.instances in
    by (g.name ∙ sym h.name) ports wires assigns instances where
      module_at : List ℕ → List BoundPort → List BoundWire → List BoundAssign → List BoundInstance → BoundModule
      module_at name ports wires assigns instances = record { name = name; ports = ports; wires = wires; assigns = assigns; instances = instances }

      by : a.name ≡ b.name → a.ports ≡ b.ports → a.wires ≡ b.wires → a.assigns ≡ b.assigns → a.instances ≡ b.instances → a ≡ b
      by n p w s i =
          ap (λ (x : List ℕ). module_at x a.ports a.wires a.assigns a.instances) n
          ∙ ap (λ (x : List BoundPort). module_at b.name x a.wires a.assigns a.instances) p
          ∙ ap (λ (x : List BoundWire). module_at b.name b.ports x a.assigns a.instances) w
          ∙ ap (λ (x : List BoundAssign). module_at b.name b.ports b.wires x a.instances) s
          ∙ ap (λ (x : List BoundInstance). module_at b.name b.ports b.wires b.assigns x) i

module_at_one : (setting : Setting) (places : List ℕ) → IsTable setting.table → StandsNowhere setting Duplicates → Rises places → ((k at : ℕ) → slice_get places k ≡ Some at → IsReached setting at)
    → (k at : ℕ) → slice_get places k ≡ Some at → (a b : BoundModule) → BindsModuleAt setting places at a → BindsModuleAt setting places at b → a ≡ b
module_at_one setting places table none rises reached k at e a b g h =
    let owner_is = one_got setting.modules at g.owner h.owner g.there h.there in
    let r : HasReachedSites setting at (sites h.owner) = record { reached = reached k at e; has = record { owner = h.owner; there = h.there; sites_are = refl } } in
    module_one setting places table none rises reached h.owner (single setting none at (sites h.owner) r) a b (subst (λ (o : tree.Module). BindsModule setting places o a) owner_is g.binds) h.binds

pub bound_is_one : BoundIsOne
bound_is_one setting bound other table none g h =
    let rises = got_pairs (λ one other. one < other) g.places g.rising in
    let rises_too = got_pairs (λ one other. one < other) h.places h.rising in
    let places_are : g.places ≡ h.places = rising_one g.places h.places rises rises_too (among g h) (among h g) in
    let reached : (k at : ℕ) → slice_get h.places k ≡ Some at → IsReached setting at = λ k at e. (h.reached at).0 (got_contains h.places k at e) in
    let modules = zip_one (BindsModuleAt setting h.places) h.places bound.modules other.modules
    (λ k at y z e p q. module_at_one setting h.places table none rises_too reached k at e y z p q)
    (subst (λ (l : List ℕ). AllZip (BindsModuleAt setting l) l bound.modules) places_are g.modules) h.modules in
    let top_same : g.top ≡ h.top = top_one setting setting.top g.top h.top g.top_is h.top_is in
    let moved = subst (λ (n : ℕ). slice_get h.places bound.top ≡ Some n) top_same (subst (λ (l : List ℕ). slice_get l bound.top ≡ Some g.top) places_are g.top_place) in
    by modules (rising_places h.places rises_too bound.top other.top h.top moved h.top_place) where
      among : {one two : Bound} → (p : Binds setting one) (q : Binds setting two) → Among p.places q.places
      among p q k x e = contains_got q.places x ((q.reached x).1 ((p.reached x).0 (got_contains p.places k x e)))

      bound_at : List BoundModule → ℕ → Bound
      bound_at modules top = record { modules = modules; top = top }

      by : bound.modules ≡ other.modules → bound.top ≡ other.top → bound ≡ other
      by m t = ap (λ (x : List BoundModule). bound_at x bound.top) m ∙ ap (λ (x : ℕ). bound_at other.modules x) t
