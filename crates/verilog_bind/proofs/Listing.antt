-- The things of one sort among the sites of a module.
use Rattle.std.proofs.Common.{◌≡◌, inl, inr, ℕ, zero, suc, Bool, List, [], ◌∷◌, ◌++◌, map, get_or, Option, Some, None, refl, ◌∙◌, ap, subst}
use Rattle.std.specs.List.{All, filter_map, flat_map, enumerate_from}
use Rattle.std.proofs.lemmas.List.Elements.{filter_map-append}
use Rattle.std.proofs.lemmas.Option.{slice_get-get_or}
use Rattle.verilog_tree.specs.Trees as tree
use Rattle.bind_sites.specs.Sites.{Operand, operands, Site, Module, Listed, Port, Wire, Assign, Instance, Named, Ordered, Assigned, Linked, is_output, full_sites, head_sites, assign_sites, linked_sites, named_sites, ordered_sites, link_sites, instance_sites, item_sites, sites, listed_port, port_names}
use Rattle.bind_sites.specs.Again.{listed_name}
use Rattle.bind_sites.specs.Scope.{Stands}
use Rattle.bind_forms.specs.Binds.{item_assigns, item_instances}
use Rattle.verilog_bind.specs.Listed.{assign_of, instance_of, HoldsInstance, ListedAreSites, AssignsAreSites, InstancesAreSites}
use Rattle.verilog_bind.proofs.Found.{Somewhere, never, same_some, contains_found, found_contains, found_left, found_right, found_cases, mapped, found_mapped, taken, given, laid, laid_from}

-- ---- what a filter takes of sites

none_of : {X Y Z : Type 0} (h : Y → Option Z) (g : X → Y) (xs : List X) → ((x : X) → h (g x) ≡ None) → filter_map h (map g xs) ≡ []
none_of h g [] e = refl
none_of h g (x ∷ xs) e = rw (e x) (none_of h g xs e)

each_of : {X Y Z : Type 0} (h : Y → Option Z) (f : X → List Y) (g : X → List Z) (xs : List X) → ((x : X) → filter_map h (f x) ≡ g x) → filter_map h (flat_map f xs) ≡ flat_map g xs
each_of h f g [] e = refl
each_of h f g (x ∷ xs) e =
    filter_map-append h (f x) (flat_map f xs) ∙ ap (λ (l : List _). l ++ filter_map h (flat_map f xs)) (e x) ∙ ap (λ (l : List _). g x ++ l) (each_of h f g xs e)

nothing : {X Z : Type 0} (xs : List X) → flat_map (λ (x : X). let z : List Z = [] in z) xs ≡ []
nothing [] = refl
nothing (x ∷ xs) = nothing xs

none_in : {X Y Z : Type 0} (h : Y → Option Z) (f : X → List Y) (xs : List X) → ((x : X) → filter_map h (f x) ≡ []) → filter_map h (flat_map f xs) ≡ []
none_in {Z = Z} h f xs e = each_of h f (λ _. let z : List Z = [] in z) xs e ∙ nothing xs

single : {X Y : Type 0} (f : X → Y) (xs : List X) → flat_map (λ x. f x ∷ []) xs ≡ map f xs
single f [] = refl
single f (x ∷ xs) = ap (λ (l : List _). f x ∷ l) (single f xs)

same_map : {X : Type 0} (xs : List X) → map (λ (x : X). x) xs ≡ xs
same_map [] = refl
same_map (x ∷ xs) = ap (λ (l : List _). x ∷ l) (same_map xs)

-- ---- sites by a test that takes none of some sorts

module _ {Z : Type 0} (h : Site → Option Z) where
  head_none : ((n : List ℕ) → h (Listed n) ≡ None) → ((n : List ℕ) (o : Bool) (r : Option (ℕ × ℕ)) → h (Port n o r) ≡ None) → (head : tree.Head) → filter_map h (head_sites head) ≡ []
  head_none listed port (tree.Plain names) = none_of h Listed names listed
  head_none listed port (tree.Ports ports) = go None ports where
    go : (said : Option (Bool × Option (ℕ × ℕ))) (ports : List tree.HeadPort) → filter_map h (full_sites said ports) ≡ []
    go said [] = refl
    go said (tree.Full d wire range n ∷ rest) = rw (listed n) (rw (port n (is_output d) range) (go (Some (is_output d, range)) rest))
    go None (tree.Bare n ∷ rest) = rw (listed n) (go None rest)
    go (Some s) (tree.Bare n ∷ rest) = rw (listed n) (rw (port n s.0 s.1) (go (Some s) rest))

  links_none : ((kind n : List ℕ) (e : Option tree.Expr) → h (Named kind n e) ≡ None) → ((kind : List ℕ) (place : ℕ) (e : Option tree.Expr) → h (Ordered kind place e) ≡ None)
      → ((o : Operand) → h (Linked o) ≡ None) → (kind : List ℕ) (links : tree.Links) → filter_map h (link_sites kind links) ≡ []
  links_none named ordered linked kind links = of_links links where
    of_expr : (e : Option tree.Expr) → filter_map h (linked_sites e) ≡ []
    of_expr None = refl
    of_expr (Some e) = none_of h Linked (operands e) linked

    of_links : (links : tree.Links) → filter_map h (link_sites kind links) ≡ []
    of_links (tree.Named ls) = none_in h (named_sites kind) ls (λ l. rw (named kind l.name l.expr) (of_expr l.expr))
    of_links (tree.Ordered ls) = none_in h (ordered_sites kind) (enumerate_from 0 ls) (λ l. rw (ordered kind l.0 l.1) (of_expr l.1))

  assign_none : ((o : Operand) → h (Assigned o) ≡ None) → (to from : tree.Expr) → filter_map h (map Assigned (operands to) ++ map Assigned (operands from)) ≡ []
  assign_none assigned to from =
      filter_map-append h (map Assigned (operands to)) (map Assigned (operands from)) ∙ ap (λ (l : List Z). l ++ filter_map h (map Assigned (operands from))) (none_of h Assigned (operands to) assigned)
      ∙ none_of h Assigned (operands from) assigned

-- ---- listed ports

listed_head : (head : tree.Head) → filter_map listed_name (head_sites head) ≡ port_names head
listed_head (tree.Plain names) = go names where
  go : (names : List (List ℕ)) → filter_map listed_name (map Listed names) ≡ names
  go [] = refl
  go (n ∷ rest) = ap (λ (l : List (List ℕ)). n ∷ l) (go rest)
listed_head (tree.Ports ports) = go None ports where
  go : (said : Option (Bool × Option (ℕ × ℕ))) (ports : List tree.HeadPort) → filter_map listed_name (full_sites said ports) ≡ map listed_port ports
  go said [] = refl
  go said (tree.Full d wire range n ∷ rest) = ap (λ (l : List (List ℕ)). n ∷ l) (go (Some (is_output d, range)) rest)
  go None (tree.Bare n ∷ rest) = ap (λ (l : List (List ℕ)). n ∷ l) (go None rest)
  go (Some s) (tree.Bare n ∷ rest) = ap (λ (l : List (List ℕ)). n ∷ l) (go (Some s) rest)

listed_item : (item : tree.Item) → filter_map listed_name (item_sites item) ≡ []
listed_item (tree.PortItem d wire range names) = none_of listed_name (λ n. Port n (is_output d) range) names (λ n. refl)
listed_item (tree.Wires range names) = none_of listed_name (λ n. Wire n range) names (λ n. refl)
listed_item (tree.Assigns pairs) = none_in listed_name assign_sites pairs (λ p. assign_none listed_name (λ o. refl) p.0 p.1)
listed_item (tree.Instances kind instances) = none_in listed_name (instance_sites kind) instances (λ i. links_none listed_name (λ k n e. refl) (λ k n e. refl) (λ o. refl) kind i.links)

append_none : {X : Type 0} (xs : List X) → xs ++ [] ≡ xs
append_none [] = refl
append_none (x ∷ xs) = ap (λ (l : List _). x ∷ l) (append_none xs)

pub listed_sites : ListedAreSites
listed_sites owner =
    filter_map-append listed_name (head_sites owner.head) (flat_map item_sites owner.items) ∙ ap (λ (l : List (List ℕ)). l ++ filter_map listed_name (flat_map item_sites owner.items)) (listed_head owner.head)
    ∙ ap (λ (l : List (List ℕ)). port_names owner.head ++ l) (none_in listed_name item_sites owner.items listed_item) ∙ append_none (port_names owner.head)

-- ---- assigns

assign_item : (item : tree.Item) → filter_map assign_of (item_sites item) ≡ item_assigns item
assign_item (tree.PortItem d wire range names) = none_of assign_of (λ n. Port n (is_output d) range) names (λ n. refl)
assign_item (tree.Wires range names) = none_of assign_of (λ n. Wire n range) names (λ n. refl)
assign_item (tree.Assigns pairs) =
    each_of assign_of assign_sites (λ p. p ∷ []) pairs (λ p. ap (λ (l : List (tree.Expr × tree.Expr)). p ∷ l) (assign_none assign_of (λ o. refl) p.0 p.1)) ∙ single (λ p. p) pairs ∙ same_map pairs
assign_item (tree.Instances kind instances) = none_in assign_of (instance_sites kind) instances (λ i. links_none assign_of (λ k n e. refl) (λ k n e. refl) (λ o. refl) kind i.links)

assigns_listed : (owner : tree.Module) → filter_map assign_of (sites owner) ≡ flat_map item_assigns owner.items
assigns_listed owner =
    filter_map-append assign_of (head_sites owner.head) (flat_map item_sites owner.items)
    ∙ ap (λ (l : List (tree.Expr × tree.Expr)). l ++ filter_map assign_of (flat_map item_sites owner.items)) (head_none assign_of (λ n. refl) (λ n o r. refl) owner.head)
    ∙ each_of assign_of item_sites item_assigns owner.items assign_item

-- the operands of the sides of each assign stand with it
record HasOperands (all : List Site) : Type 0 where
  to_is : (to from : tree.Expr) (o : Operand) → Somewhere all (Assign to from) → Somewhere (operands to) o → Somewhere all (Assigned o)
  from_is : (to from : tree.Expr) (o : Operand) → Somewhere all (Assign to from) → Somewhere (operands from) o → Somewhere all (Assigned o)

no_assign : (all : List Site) → filter_map assign_of all ≡ [] → HasOperands all
no_assign all none = record {
  to_is = λ to from o there within. absurd (empty (taken assign_of all (Assign to from) (to, from) there refl));
  from_is = λ to from o there within. absurd (empty (taken assign_of all (Assign to from) (to, from) there refl));
} where
  empty : {y : tree.Expr × tree.Expr} → Somewhere (filter_map assign_of all) y → ⊥
  empty {y = y} s = never y (rw none at s).1

joined : (xs ys : List Site) → HasOperands xs → HasOperands ys → HasOperands (xs ++ ys)
joined xs ys h k = record {
  to_is = λ to from o there within. elim (found_cases xs ys (Assign to from) there) [
    | inl at ↦ found_left xs ys (Assigned o) (h.to_is to from o at within)
    | inr at ↦ found_right xs ys (Assigned o) (k.to_is to from o at within)
  ];
  from_is = λ to from o there within. elim (found_cases xs ys (Assign to from) there) [
    | inl at ↦ found_left xs ys (Assigned o) (h.from_is to from o at within)
    | inr at ↦ found_right xs ys (Assigned o) (k.from_is to from o at within)
  ];
}

each_joined : {X : Type 0} (f : X → List Site) (xs : List X) → ((x : X) → HasOperands (f x)) → HasOperands (flat_map f xs)
each_joined f [] h = no_assign [] refl
each_joined f (x ∷ xs) h = joined (f x) (flat_map f xs) (h x) (each_joined f xs h)

sides : (a b c d : tree.Expr) → (let s : Option Site = Some (Assign a b) in s) ≡ Some (Assign c d) → (a ≡ c) × (b ≡ d)
sides a b c d e = (cc, cc)

one_assign : (pair : tree.Expr × tree.Expr) → HasOperands (assign_sites pair)
one_assign pair = record {
  to_is = λ to from o there within. behind o (in_to o (first to from there).0 within);
  from_is = λ to from o there within. behind o (in_from o (first to from there).1 within);
} where
  both : List Site
  both = map Assigned (operands pair.0) ++ map Assigned (operands pair.1)

  behind : (o : Operand) → Somewhere (map Assigned (operands pair.0) ++ map Assigned (operands pair.1)) (Assigned o) → Somewhere (assign_sites pair) (Assigned o)
  behind o s = (suc s.0, s.1)

  none : filter_map assign_of (map Assigned (operands pair.0) ++ map Assigned (operands pair.1)) ≡ []
  none = assign_none assign_of (λ o. refl) pair.0 pair.1

  first : (to from : tree.Expr) → Somewhere (assign_sites pair) (Assign to from) → (pair.0 ≡ to) × (pair.1 ≡ from)
  first to from (zero, e) = sides pair.0 pair.1 to from e
  first to from (suc at, e) = absurd (never (to, from) (rw none at (taken assign_of (map Assigned (operands pair.0) ++ map Assigned (operands pair.1)) (Assign to from) (to, from) (at, e) refl)).1)

  in_to : {to : tree.Expr} (o : Operand) → pair.0 ≡ to → Somewhere (operands to) o → Somewhere (map Assigned (operands pair.0) ++ map Assigned (operands pair.1)) (Assigned o)
  in_to o same within = found_left (map Assigned (operands pair.0)) (map Assigned (operands pair.1)) (Assigned o) (found_mapped Assigned (operands pair.0) o (rw same within))

  in_from : {from : tree.Expr} (o : Operand) → pair.1 ≡ from → Somewhere (operands from) o → Somewhere (map Assigned (operands pair.0) ++ map Assigned (operands pair.1)) (Assigned o)
  in_from o same within = found_right (map Assigned (operands pair.0)) (map Assigned (operands pair.1)) (Assigned o) (found_mapped Assigned (operands pair.1) o (rw same within))

item_operands : (item : tree.Item) → HasOperands (item_sites item)
item_operands (tree.PortItem d wire range names) = no_assign (item_sites (tree.PortItem d wire range names)) (assign_item (tree.PortItem d wire range names))
item_operands (tree.Wires range names) = no_assign (item_sites (tree.Wires range names)) (assign_item (tree.Wires range names))
item_operands (tree.Assigns pairs) = each_joined assign_sites pairs one_assign
item_operands (tree.Instances kind instances) = no_assign (item_sites (tree.Instances kind instances)) (assign_item (tree.Instances kind instances))

module_operands : (owner : tree.Module) → HasOperands (sites owner)
module_operands owner =
    let front : List Site = Module owner.name ∷ head_sites owner.head in
    joined (Module owner.name ∷ head_sites owner.head) (flat_map item_sites owner.items) (no_assign (Module owner.name ∷ head_sites owner.head) (head_none assign_of (λ n. refl) (λ n o r. refl) owner.head))
    (each_joined item_sites owner.items item_operands)

each_operand : (all : List Site) (os : List Operand) → ((o : Operand) → Somewhere os o → Somewhere all (Assigned o)) → All (λ o. Stands all (Assigned o)) os
each_operand all os h = λ k d lt. h (get_or os k d) (k, slice_get-get_or os k d lt)

pub assign_sites_are : AssignsAreSites
assign_sites_are = record {
  listed = assigns_listed;
  to = λ owner to from there. each_operand (sites owner) (operands to) (λ o within. (module_operands owner).to_is to from o there within);
  from = λ owner to from there. each_operand (sites owner) (operands from) (λ o within. (module_operands owner).from_is to from o there within);
}

-- ---- instances

instance_item : (item : tree.Item) → filter_map instance_of (item_sites item) ≡ item_instances item
instance_item (tree.PortItem d wire range names) = none_of instance_of (λ n. Port n (is_output d) range) names (λ n. refl)
instance_item (tree.Wires range names) = none_of instance_of (λ n. Wire n range) names (λ n. refl)
instance_item (tree.Assigns pairs) = none_in instance_of assign_sites pairs (λ p. assign_none instance_of (λ o. refl) p.0 p.1)
instance_item (tree.Instances kind instances) =
    each_of instance_of (instance_sites kind) (λ i. (kind, i) ∷ []) instances
    (λ i. ap (λ (l : List (List ℕ × tree.Instance)). (kind, i) ∷ l) (links_none instance_of (λ k n e. refl) (λ k n e. refl) (λ o. refl) kind i.links))
    ∙ single (λ i. (kind, i)) instances

instances_listed : (owner : tree.Module) → filter_map instance_of (sites owner) ≡ flat_map item_instances owner.items
instances_listed owner =
    filter_map-append instance_of (head_sites owner.head) (flat_map item_sites owner.items)
    ∙ ap (λ (l : List (List ℕ × tree.Instance)). l ++ filter_map instance_of (flat_map item_sites owner.items)) (head_none instance_of (λ n. refl) (λ n o r. refl) owner.head)
    ∙ each_of instance_of item_sites item_instances owner.items instance_item

-- a site that is an instance
instance_is : (s : Site) (kind : List ℕ) (i : tree.Instance) → instance_of s ≡ Some (kind, i) → s ≡ Instance kind i.name i.links
instance_is (Instance k n l) kind i e =
    let same : (k, record { name = n; links = l }) ≡ (kind, i) = same_some (k, record { name = n; links = l }) (kind, i) e in
    ap (λ (p : List ℕ × tree.Instance). Instance p.0 p.1.name p.1.links) same
instance_is (Module n) kind i e = absurd cc
instance_is (Listed n) kind i e = absurd cc
instance_is (Port n o r) kind i e = absurd cc
instance_is (Wire n r) kind i e = absurd cc
instance_is (Assign t f) kind i e = absurd cc
instance_is (Named k n x) kind i e = absurd cc
instance_is (Ordered k p x) kind i e = absurd cc
instance_is (Assigned o) kind i e = absurd cc
instance_is (Linked o) kind i e = absurd cc

to_item : (owner : tree.Module) (kind : List ℕ) (i : tree.Instance) → Stands (sites owner) (Instance kind i.name i.links) → HoldsInstance owner kind i
to_item owner kind i there =
    let listed : Somewhere (flat_map item_instances owner.items) (kind, i) = rw (instances_listed owner) at (taken instance_of (sites owner) (Instance kind i.name i.links) (kind, i) there refl) in
    let found = laid_from item_instances owner.items (kind, i) listed in
    of_item found.0 found.1 found.2 where
      of_item : (item : tree.Item) → Somewhere owner.items item → Somewhere (item_instances item) (kind, i) → HoldsInstance owner kind i
      of_item (tree.PortItem d wire range names) at s = absurd (never (kind, i) s.1)
      of_item (tree.Wires range names) at s = absurd (never (kind, i) s.1)
      of_item (tree.Assigns pairs) at s = absurd (never (kind, i) s.1)
      of_item (tree.Instances k instances) at s =
          let m = mapped (λ (j : tree.Instance). (k, j)) instances s.0 (kind, i) s.1 in
          let same_kind : k ≡ kind = ap (λ (p : List ℕ × tree.Instance). p.0) m.2 in
          let same : m.0 ≡ i = ap (λ (p : List ℕ × tree.Instance). p.1) m.2 in
          let item_at : Somewhere owner.items (tree.Instances kind instances) = subst (λ (n : List ℕ). Somewhere owner.items (tree.Instances n instances)) same_kind at in
          let instance_at : Somewhere instances i = subst (λ (j : tree.Instance). Somewhere instances j) same (s.0, m.1) in
          (instances, contains_found owner.items (tree.Instances kind instances) item_at, contains_found instances i instance_at)

to_site : (owner : tree.Module) (kind : List ℕ) (i : tree.Instance) → HoldsInstance owner kind i → Stands (sites owner) (Instance kind i.name i.links)
to_site owner kind i h =
    let item = found_contains owner.items (tree.Instances kind h.0) h.1 in
    let instance = found_mapped (λ (j : tree.Instance). (kind, j)) h.0 i (found_contains h.0 i h.2) in
    let listed = laid item_instances owner.items (tree.Instances kind h.0) (kind, i) item instance in
    let site = given instance_of (sites owner) (kind, i) (rw (← instances_listed owner) at listed) in
    subst (λ (s : Site). Stands (sites owner) s) (instance_is site.0 kind i site.2) site.1

-- the sites of the links of each instance stand with it
abbrev HasLinks : List Site → Type 0
HasLinks all = (kind name : List ℕ) (links : tree.Links) (s : Site) → Somewhere all (Instance kind name links) → Somewhere (link_sites kind links) s → Somewhere all s

no_instance : (all : List Site) → filter_map instance_of all ≡ [] → HasLinks all
no_instance all none kind name links s there within =
    absurd (never (kind, record { name = name; links = links }) (rw none at (taken instance_of all (Instance kind name links) (kind, record { name = name; links = links }) there refl)).1)

links_joined : (xs ys : List Site) → HasLinks xs → HasLinks ys → HasLinks (xs ++ ys)
links_joined xs ys h k kind name links s there within = elim (found_cases xs ys (Instance kind name links) there) [
  | inl at ↦ found_left xs ys s (h kind name links s at within)
  | inr at ↦ found_right xs ys s (k kind name links s at within)
]

each_links : {X : Type 0} (f : X → List Site) (xs : List X) → ((x : X) → HasLinks (f x)) → HasLinks (flat_map f xs)
each_links f [] h = no_instance [] refl
each_links f (x ∷ xs) h = links_joined (f x) (flat_map f xs) (h x) (each_links f xs h)

same_links : (k n : List ℕ) (l : tree.Links) (kind name : List ℕ) (links : tree.Links) → (let s : Option Site = Some (Instance k n l) in s) ≡ Some (Instance kind name links) → (k ≡ kind) × (l ≡ links)
same_links k n l kind name links e = (cc, cc)

one_instance : (k : List ℕ) (i : tree.Instance) → HasLinks (instance_sites k i)
one_instance k i kind name links s (zero, e) within =
    let same = same_links k i.name i.links kind name links e in
    let here : Somewhere (link_sites k i.links) s = rw (same.0, same.1) within in
    (suc here.0, here.1)
one_instance k i kind name links s (suc at, e) within =
    absurd (never (kind, record { name = name; links = links })
    (rw (links_none instance_of (λ k n e. refl) (λ k n e. refl) (λ o. refl) k i.links) at
    (taken instance_of (link_sites k i.links) (Instance kind name links) (kind, record { name = name; links = links }) (at, e) refl)).1)

item_links : (item : tree.Item) → HasLinks (item_sites item)
item_links (tree.PortItem d wire range names) = no_instance (item_sites (tree.PortItem d wire range names)) (instance_item (tree.PortItem d wire range names))
item_links (tree.Wires range names) = no_instance (item_sites (tree.Wires range names)) (instance_item (tree.Wires range names))
item_links (tree.Assigns pairs) = no_instance (item_sites (tree.Assigns pairs)) (instance_item (tree.Assigns pairs))
item_links (tree.Instances kind instances) = each_links (instance_sites kind) instances (one_instance kind)

module_links : (owner : tree.Module) → HasLinks (sites owner)
module_links owner =
    links_joined (Module owner.name ∷ head_sites owner.head) (flat_map item_sites owner.items) (no_instance (Module owner.name ∷ head_sites owner.head) (head_none instance_of (λ n. refl) (λ n o r. refl) owner.head))
    (each_links item_sites owner.items item_links)

pub instance_sites_are : InstancesAreSites
instance_sites_are = record { listed = instances_listed; stands = λ owner kind i. (to_item owner kind i, to_site owner kind i); links = module_links }
