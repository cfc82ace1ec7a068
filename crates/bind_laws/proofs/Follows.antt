-- What follows a site of a module, and what it belongs to.
use Rattle.std.proofs.Common.{◌≡◌, ◌+◌, ◌-◌, ◌⊎◌, inl, inr, ℕ, zero, suc, Bool, List, [], ◌∷◌, ◌++◌, map, take, length, Option, Some, None, refl, sym, ap, subst, arith}
use Rattle.std.specs.Prelude.{slice_get}
use Rattle.std.specs.List.{flat_map, enumerate_from}
use Rattle.std.proofs.lemmas.List.{map-append}
use Rattle.std.proofs.lemmas.Option.{same_Some, slice_get_within}
use Rattle.verilog_tree.specs.Trees as tree
use Rattle.bind_sites.specs.Sites.{Operand, operands, Site, Module, Listed, Port, Wire, Assign, Instance as InstanceSite, Named, Ordered, Assigned, Linked, is_output, listed_port, port_names, port_sites, full_sites, head_sites, assign_sites, linked_sites, named_sites, ordered_sites, link_sites, instance_sites, item_sites, sites}
use Rattle.bind_sites.specs.Scope.{IsAt}
use Rattle.bind_forms.specs.Binds.{item_assigns, item_instances}
use Rattle.bind_laws.proofs.Standing.{IsPieceAt}
use Rattle.bind_laws.proofs.Homes.{IsFollowed, HasNoInstanceBetween, OfNamedLink, OfOrderedLink, HasHome, SitesHaveHomes, IsListed, SitesAreListed}
use Rattle.bind_laws.proofs.Lists.{joined_got, map_got, got_map, got_within, one_got, got_numbered, flat_placed, piece_self, piece_behind, piece_in, piece_flat}
use Rattle.bind_laws.proofs.Pieces.{item_stands, instances_are_apart}

-- ---- both, for a site

abbrev Both : List Site → ℕ → Site → Type 0
Both all at site = IsFollowed all at site × HasHome all at site

followed_in : (all piece : List Site) (base at : ℕ) (site : Site) → IsPieceAt all base piece → IsFollowed piece at site → IsFollowed all (base + at) site
followed_in all piece base at (Assign to from) p f = piece_in all piece (assign_sites (to, from)) base at p f
followed_in all piece base at (InstanceSite kind name links) p f = piece_in all piece (instance_sites kind (record { name = name; links = links })) base at p f
followed_in all piece base at (Named kind name expr) p f = piece_in all piece (named_sites kind (record { name = name; expr = expr })) base at p f
followed_in all piece base at (Ordered kind place expr) p f = piece_in all piece (ordered_sites kind (place, expr)) base at p f
followed_in all piece base at (Module n) p f = tt
followed_in all piece base at (Listed n) p f = tt
followed_in all piece base at (Port n output range) p f = tt
followed_in all piece base at (Wire n range) p f = tt
followed_in all piece base at (Assigned operand) p f = tt
followed_in all piece base at (Linked operand) p f = tt

alone_in : (all piece : List Site) (base low high : ℕ) (last : Site) → IsPieceAt all base piece → IsAt piece high last → HasNoInstanceBetween piece low high → HasNoInstanceBetween all (base + low) (base + high)
alone_in all piece base low high last p ends alone between kind name links l m there =
    let within = slice_get_within piece high last ends in
    let k = between - base in
    let is : base + k ≡ between = omega arith in
    let inner = got_within piece k (omega (arith, within)) in
    let same = one_got all between inner.0 (InstanceSite kind name links) (subst (λ (n : ℕ). IsAt all n inner.0) is (p k inner.0 inner.1)) there in
    alone k kind name links (omega arith) (omega arith) (subst (λ (s : Site). IsAt piece k s) same inner.1)

home_in : (all piece : List Site) (base at : ℕ) (site : Site) → IsPieceAt all base piece → IsAt piece at site → HasHome piece at site → HasHome all (base + at) site
home_in all piece base at (Named kind name expr) p e h = (let lt = h.earlier in record {
  before = base + h.before;
  own = h.own;
  links = h.links;
  instance = p h.before (InstanceSite kind h.own (tree.Named h.links)) h.instance;
  earlier = omega (arith, lt);
  alone = alone_in all piece base h.before at (Named kind name expr) p e h.alone;
  place = h.place;
  listed = h.listed;
})
home_in all piece base at (Ordered kind place expr) p e h = (let lt = h.earlier in record {
  before = base + h.before;
  own = h.own;
  links = h.links;
  instance = p h.before (InstanceSite kind h.own (tree.Ordered h.links)) h.instance;
  earlier = omega (arith, lt);
  alone = alone_in all piece base h.before at (Ordered kind place expr) p e h.alone;
  listed = h.listed;
})
home_in all piece base at (Assigned operand) p e h = (let is = h.at_is in record {
  before = base + h.before;
  to = h.to;
  from = h.from;
  assign = p h.before (Assign h.to h.from) h.assign;
  place = h.place;
  at_is = omega (arith, is);
  listed = h.listed;
})
home_in all piece base at (Linked operand) p e (OfNamedLink before kind name expr place there is listed) =
    OfNamedLink (base + before) kind name expr place (p before (Named kind name (Some expr)) there) (omega (arith, is)) listed
home_in all piece base at (Linked operand) p e (OfOrderedLink before kind link expr place there is listed) =
    OfOrderedLink (base + before) kind link expr place (p before (Ordered kind link (Some expr)) there) (omega (arith, is)) listed
home_in all piece base at (Module n) p e h = tt
home_in all piece base at (Listed n) p e h = tt
home_in all piece base at (Port n output range) p e h = tt
home_in all piece base at (Wire n range) p e h = tt
home_in all piece base at (Assign to from) p e h = tt
home_in all piece base at (InstanceSite kind name links) p e h = tt

both_in : (all piece : List Site) (base at : ℕ) (site : Site) → IsPieceAt all base piece → IsAt piece at site → Both piece at site → Both all (base + at) site
both_in all piece base at site p e b = (followed_in all piece base at site p b.0, home_in all piece base at site p e b.1)

-- ---- operands

operand_got : (expr : Option tree.Expr) (j : ℕ) (site : Site) → IsAt (linked_sites expr) j site → (e : tree.Expr) × (o : Operand) × (expr ≡ Some e) × (Linked o ≡ site) × (slice_get (operands e) j ≡ Some o)
operand_got None j site e = absurd cc
operand_got (Some expr) j site e = let m = map_got Linked (operands expr) j site e in (expr, m.0, refl, m.2, m.1)

in_named : (kind : List ℕ) (link : tree.NamedLink) (j : ℕ) (site : Site) → IsAt (named_sites kind link) (suc j) site → Both (named_sites kind link) (suc j) site
in_named kind link j site e =
    let r = operand_got link.expr j site e in
    let there : IsAt (named_sites kind link) 0 (Named kind link.name (Some r.0)) = ap (λ (x : Option tree.Expr). Some (Named kind link.name x)) r.2 in
    subst (λ (s : Site). Both (named_sites kind link) (suc j) s) r.3 (tt, OfNamedLink 0 kind link.name r.0 j there (omega arith) r.4)

in_ordered : (kind : List ℕ) (numbered : ℕ × Option tree.Expr) (j : ℕ) (site : Site) → IsAt (ordered_sites kind numbered) (suc j) site → Both (ordered_sites kind numbered) (suc j) site
in_ordered kind numbered j site e =
    let r = operand_got numbered.1 j site e in
    let there : IsAt (ordered_sites kind numbered) 0 (Ordered kind numbered.0 (Some r.0)) = ap (λ (x : Option tree.Expr). Some (Ordered kind numbered.0 x)) r.2 in
    subst (λ (s : Site). Both (ordered_sites kind numbered) (suc j) s) r.3 (tt, OfOrderedLink 0 kind numbered.0 r.0 j there (omega arith) r.4)

in_assign : (pair : tree.Expr × tree.Expr) (j : ℕ) (site : Site) → IsAt (assign_sites pair) j site → Both (assign_sites pair) j site
in_assign pair zero site e = subst (λ (s : Site). Both (assign_sites pair) 0 s) (same_Some (Assign pair.0 pair.1) site e) (piece_self (assign_sites pair), tt)
in_assign pair (suc j) site e =
    let joined = map-append Assigned (operands pair.0) (operands pair.1) in
    let m = map_got Assigned (operands pair.0 ++ operands pair.1) j site (subst (λ (l : List Site). IsAt l j site) (sym joined) e) in
    subst (λ (s : Site). Both (assign_sites pair) (suc j) s) m.2 (tt, record { before = 0; to = pair.0; from = pair.1; assign = refl; place = j; at_is = omega arith; listed = m.1 })

-- ---- links

head_alone : (kind : List ℕ) (instance : tree.Instance) (high : ℕ) → HasNoInstanceBetween (instance_sites kind instance) 0 high
head_alone kind instance high between inner name links l m there =
    let is : between ≡ suc (between - 1) = omega arith in
    instances_are_apart kind instance (between - 1) inner name links (subst (λ (n : ℕ). IsAt (instance_sites kind instance) n (InstanceSite inner name links)) is there)

in_named_links : (kind own : List ℕ) (links : List tree.NamedLink) (k : ℕ) (site : Site) → IsAt (flat_map (named_sites kind) links) k site → Both (instance_sites kind (record { name = own; links = tree.Named links })) (suc k) site
in_named_links kind own links k site e =
    let r = flat_placed (named_sites kind) links k site e in
    let all = instance_sites kind (record { name = own; links = tree.Named links }) in
    let base = length (flat_map (named_sites kind) (take r.0 links)) in
    let piece = piece_behind (InstanceSite kind own (tree.Named links)) (flat_map (named_sites kind) links) (named_sites kind r.1) base (piece_flat (named_sites kind) links r.0 r.1 r.3) in
    let place = r.5 in
    let is : suc base + r.2 ≡ suc k = omega (arith, place) in
    subst (λ (n : ℕ). Both all n site) is (by r.0 r.1 base r.3 piece r.2 r.4) where
      by : (i : ℕ) (link : tree.NamedLink) (base : ℕ) → slice_get links i ≡ Some link → IsPieceAt (instance_sites kind (record { name = own; links = tree.Named links })) (suc base) (named_sites kind link)
          → (j : ℕ) → IsAt (named_sites kind link) j site → Both (instance_sites kind (record { name = own; links = tree.Named links })) (suc base + j) site
      by i link base there piece zero inner = subst (λ (s : Site). Both (instance_sites kind (record { name = own; links = tree.Named links })) (suc base + 0) s) (same_Some (Named kind link.name link.expr) site inner) (
        piece_in (instance_sites kind (record { name = own; links = tree.Named links })) (named_sites kind link) (named_sites kind link) (suc base) 0 piece (piece_self (named_sites kind link)),
        record {
          before = 0;
          own = own;
          links = links;
          instance = refl;
          earlier = omega arith;
          alone = head_alone kind (record { name = own; links = tree.Named links }) (suc base + 0);
          place = i;
          listed = there;
        },
      )
      by i link base there piece (suc j) inner = both_in (instance_sites kind (record { name = own; links = tree.Named links })) (named_sites kind link) (suc base) (suc j) site piece inner (in_named kind link j site inner)

in_ordered_links : (kind own : List ℕ) (links : List (Option tree.Expr)) (k : ℕ) (site : Site) → IsAt (flat_map (ordered_sites kind) (enumerate_from 0 links)) k site
    → Both (instance_sites kind (record { name = own; links = tree.Ordered links })) (suc k) site
in_ordered_links kind own links k site e =
    let numbered = enumerate_from 0 links in
    let r = flat_placed (ordered_sites kind) numbered k site e in
    let all = instance_sites kind (record { name = own; links = tree.Ordered links }) in
    let base = length (flat_map (ordered_sites kind) (take r.0 numbered)) in
    let piece = piece_behind (InstanceSite kind own (tree.Ordered links)) (flat_map (ordered_sites kind) numbered) (ordered_sites kind r.1) base (piece_flat (ordered_sites kind) numbered r.0 r.1 r.3) in
    let place = r.5 in
    let is : suc base + r.2 ≡ suc k = omega (arith, place) in
    let told = got_numbered 0 links r.0 r.1.0 r.1.1 r.3 in
    let number = told.0 in
    let listed = subst (λ (n : ℕ). slice_get links n ≡ Some r.1.1) (let same : r.0 ≡ r.1.0 = omega (arith, number) in same) told.1 in
    subst (λ (n : ℕ). Both all n site) is (by r.1 base listed piece r.2 r.4) where
      by : (link : ℕ × Option tree.Expr) (base : ℕ) → slice_get links link.0 ≡ Some link.1 → IsPieceAt (instance_sites kind (record { name = own; links = tree.Ordered links })) (suc base) (ordered_sites kind link)
          → (j : ℕ) → IsAt (ordered_sites kind link) j site → Both (instance_sites kind (record { name = own; links = tree.Ordered links })) (suc base + j) site
      by link base there piece zero inner = subst (λ (s : Site). Both (instance_sites kind (record { name = own; links = tree.Ordered links })) (suc base + 0) s) (same_Some (Ordered kind link.0 link.1) site inner) (
        piece_in (instance_sites kind (record { name = own; links = tree.Ordered links })) (ordered_sites kind link) (ordered_sites kind link) (suc base) 0 piece (piece_self (ordered_sites kind link)),
        record {
          before = 0;
          own = own;
          links = links;
          instance = refl;
          earlier = omega arith;
          alone = head_alone kind (record { name = own; links = tree.Ordered links }) (suc base + 0);
          listed = there;
        },
      )
      by link base there piece (suc j) inner = both_in (instance_sites kind (record { name = own; links = tree.Ordered links })) (ordered_sites kind link) (suc base) (suc j) site piece inner (in_ordered kind link j site inner)

in_links : (kind own : List ℕ) (links : tree.Links) (k : ℕ) (site : Site) → IsAt (link_sites kind links) k site → Both (instance_sites kind (record { name = own; links = links })) (suc k) site
in_links kind own (tree.Named links) k site e = in_named_links kind own links k site e
in_links kind own (tree.Ordered links) k site e = in_ordered_links kind own links k site e

in_instance : (kind : List ℕ) (instance : tree.Instance) (at : ℕ) (site : Site) → IsAt (instance_sites kind instance) at site → Both (instance_sites kind instance) at site
in_instance kind instance zero site e = subst (λ (s : Site). Both (instance_sites kind instance) 0 s) (same_Some (InstanceSite kind instance.name instance.links) site e) (piece_self (instance_sites kind instance), tt)
in_instance kind instance (suc k) site e = in_links kind instance.name instance.links k site e

-- ---- items and heads

in_item : (item : tree.Item) (at : ℕ) (site : Site) → IsAt (item_sites item) at site → Both (item_sites item) at site
in_item (tree.PortItem d wire range names) at site e =
    let m = map_got (λ (n : List ℕ). Port n (is_output d) range) names at site e in
    subst (λ (s : Site). Both (map (λ (n : List ℕ). Port n (is_output d) range) names) at s) m.2 (tt, tt)
in_item (tree.Wires range names) at site e =
    let m = map_got (λ (n : List ℕ). Wire n range) names at site e in
    subst (λ (s : Site). Both (map (λ (n : List ℕ). Wire n range) names) at s) m.2 (tt, tt)
in_item (tree.Assigns pairs) at site e =
    let r = flat_placed assign_sites pairs at site e in
    let base = length (flat_map assign_sites (take r.0 pairs)) in
    subst (λ (n : ℕ). Both (flat_map assign_sites pairs) n site) (sym r.5)
    (both_in (flat_map assign_sites pairs) (assign_sites r.1) base r.2 site (piece_flat assign_sites pairs r.0 r.1 r.3) r.4 (in_assign r.1 r.2 site r.4))
in_item (tree.Instances kind instances) at site e =
    let r = flat_placed (instance_sites kind) instances at site e in
    let base = length (flat_map (instance_sites kind) (take r.0 instances)) in
    subst (λ (n : ℕ). Both (flat_map (instance_sites kind) instances) n site) (sym r.5)
    (both_in (flat_map (instance_sites kind) instances) (instance_sites kind r.1) base r.2 site (piece_flat (instance_sites kind) instances r.0 r.1 r.3) r.4 (in_instance kind r.1 r.2 site r.4))

-- a site of a head lists a port, or gives a name a direction
abbrev IsPortOf : List (List ℕ) → Site → Type 0
IsPortOf names site = ((k : ℕ) × (name : List ℕ) × (slice_get names k ≡ Some name) × (Listed name ≡ site)) ⊎ ((name : List ℕ) × (output : Bool) × (range : Option (ℕ × ℕ)) × (Port name output range ≡ site))

more_ports : (first : List ℕ) (names : List (List ℕ)) (site : Site) → IsPortOf names site → IsPortOf (first ∷ names) site
more_ports first names site (inl h) = inl (suc h.0, h.1, h.2, h.3)
more_ports first names site (inr h) = inr h

first_port : (first : List ℕ) (names : List (List ℕ)) (site : Site) → (said : Option (Bool × Option (ℕ × ℕ))) (k : ℕ) → IsAt (port_sites said first) k site → IsPortOf (first ∷ names) site
first_port first names site None zero e = inl (0, first, refl, same_Some (Listed first) site e)
first_port first names site None (suc k) e = absurd cc
first_port first names site (Some said) zero e = inl (0, first, refl, same_Some (Listed first) site e)
first_port first names site (Some said) (suc zero) e = inr (first, said.0, said.1, same_Some (Port first said.0 said.1) site e)
first_port first names site (Some said) (suc (suc k)) e = absurd cc

full_ports : (before : Option (Bool × Option (ℕ × ℕ))) (ports : List tree.HeadPort) (k : ℕ) (site : Site) → IsAt (full_sites before ports) k site → IsPortOf (map listed_port ports) site
full_ports before [] k site e = absurd cc
full_ports before (tree.Full d wire range n ∷ ports) k site e = elim (joined_got (port_sites (Some (is_output d, range)) n) (full_sites (Some (is_output d, range)) ports) k site e) [
  | inl h ↦ first_port n (map listed_port ports) site (Some (is_output d, range)) k h.1
  | inr h ↦ more_ports n (map listed_port ports) site (full_ports (Some (is_output d, range)) ports h.0 site h.2)
]
full_ports before (tree.Bare n ∷ ports) k site e = elim (joined_got (port_sites before n) (full_sites before ports) k site e) [
  | inl h ↦ first_port n (map listed_port ports) site before k h.1
  | inr h ↦ more_ports n (map listed_port ports) site (full_ports before ports h.0 site h.2)
]

head_ports : (head : tree.Head) (k : ℕ) (site : Site) → IsAt (head_sites head) k site → IsPortOf (port_names head) site
head_ports (tree.Plain names) k site e = let m = map_got Listed names k site e in inl (k, m.0, m.1, m.2)
head_ports (tree.Ports ports) k site e = full_ports None ports k site e

-- ---- modules

-- a site of a module is its name, of its head or of an item
abbrev Belongs : tree.Module → ℕ → Site → Type 0
Belongs owner at site = (Module owner.name ≡ site) ⊎ (IsPortOf (port_names owner.head) site ⊎ ((i : ℕ) × (item : tree.Item) × (j : ℕ) × (slice_get owner.items i ≡ Some item) × IsAt (item_sites item) j site
    × (base : ℕ) × IsPieceAt (sites owner) base (item_sites item) × (base + j ≡ at)))

belongs : (owner : tree.Module) (at : ℕ) (site : Site) → IsAt (sites owner) at site → Belongs owner at site
belongs owner zero site e = inl (same_Some (Module owner.name) site e)
belongs owner (suc at) site e = elim (joined_got (head_sites owner.head) (flat_map item_sites owner.items) at site e) [
  | inl h ↦ inr (inl (head_ports owner.head at site h.1))
  | inr h ↦
      let r = flat_placed item_sites owner.items h.0 site h.2 in
      let stands = item_stands owner r.0 r.1 r.3 in
      let outer = h.1 in
      let inner = r.5 in
      let is : 1 + length (head_sites owner.head) + length (flat_map item_sites (take r.0 owner.items)) + r.2 ≡ suc at = omega (arith, outer, inner) in
      inr (inr (r.0, r.1, r.2, r.3, r.4, 1 + length (head_sites owner.head) + length (flat_map item_sites (take r.0 owner.items)), stands, is))
]

of_head_both : (names : List (List ℕ)) (all : List Site) (at : ℕ) (site : Site) → IsPortOf names site → Both all at site
of_head_both names all at site (inl h) = subst (λ (s : Site). Both all at s) h.3 (tt, tt)
of_head_both names all at site (inr h) = subst (λ (s : Site). Both all at s) h.3 (tt, tt)

both : (owner : tree.Module) (at : ℕ) (site : Site) → IsAt (sites owner) at site → Both (sites owner) at site
both owner at site e = elim (belongs owner at site e) [
  | inl same ↦ subst (λ (s : Site). Both (sites owner) at s) same (tt, tt)
  | inr rest ↦ elim rest [
    | inl h ↦ of_head_both (port_names owner.head) (sites owner) at site h
    | inr h ↦ subst (λ (n : ℕ). Both (sites owner) n site) h.7 (both_in (sites owner) (item_sites h.1) h.5 h.2 site h.6 h.4 (in_item h.1 h.2 site h.4))
  ]
]

pub sites_have_homes : SitesHaveHomes
sites_have_homes owner at site e = (both owner at site e).1

-- ---- items

-- an instance or an assign of an item
abbrev IsListedIn : tree.Item → Site → Type 0
IsListedIn item (InstanceSite kind name links) = (k : ℕ) × (slice_get (item_instances item) k ≡ Some (kind, record { name = name; links = links }))
IsListedIn item (Assign to from) = (k : ℕ) × (slice_get (item_assigns item) k ≡ Some (to, from))
IsListedIn item (Listed name) = ⊥
IsListedIn item _ = Unit {0}

-- a site behind an instance is a link or an operand
abbrev IsOfLinks : Site → Type 0
IsOfLinks site = ((kind name : List ℕ) × (expr : Option tree.Expr) × (Named kind name expr ≡ site)) ⊎ (((kind : List ℕ) × (place : ℕ) × (expr : Option tree.Expr) × (Ordered kind place expr ≡ site)) ⊎ ((o : Operand) × (Linked o ≡ site)))

of_named : (kind : List ℕ) (link : tree.NamedLink) (j : ℕ) (site : Site) → IsAt (named_sites kind link) j site → IsOfLinks site
of_named kind link zero site e = inl (kind, link.name, link.expr, same_Some (Named kind link.name link.expr) site e)
of_named kind link (suc j) site e = let r = operand_got link.expr j site e in inr (inr (r.1, r.3))

of_ordered : (kind : List ℕ) (link : ℕ × Option tree.Expr) (j : ℕ) (site : Site) → IsAt (ordered_sites kind link) j site → IsOfLinks site
of_ordered kind link zero site e = inr (inl (kind, link.0, link.1, same_Some (Ordered kind link.0 link.1) site e))
of_ordered kind link (suc j) site e = let r = operand_got link.1 j site e in inr (inr (r.1, r.3))

of_links : (kind : List ℕ) (links : tree.Links) (k : ℕ) (site : Site) → IsAt (link_sites kind links) k site → IsOfLinks site
of_links kind (tree.Named links) k site e = let r = flat_placed (named_sites kind) links k site e in of_named kind r.1 r.2 site r.4
of_links kind (tree.Ordered links) k site e = let r = flat_placed (ordered_sites kind) (enumerate_from 0 links) k site e in of_ordered kind r.1 r.2 site r.4

links_listed : (item : tree.Item) (site : Site) → IsOfLinks site → IsListedIn item site
links_listed item site (inl h) = subst (IsListedIn item) h.3 tt
links_listed item site (inr (inl h)) = subst (IsListedIn item) h.3 tt
links_listed item site (inr (inr h)) = subst (IsListedIn item) h.1 tt

assign_listed : (pairs : List (tree.Expr × tree.Expr)) (i : ℕ) (pair : tree.Expr × tree.Expr) → slice_get pairs i ≡ Some pair → (j : ℕ) (site : Site) → IsAt (assign_sites pair) j site → IsListedIn (tree.Assigns pairs) site
assign_listed pairs i pair there zero site e = subst (IsListedIn (tree.Assigns pairs)) (same_Some (Assign pair.0 pair.1) site e) (i, there)
assign_listed pairs i pair there (suc j) site e =
    let joined = map-append Assigned (operands pair.0) (operands pair.1) in
    let m = map_got Assigned (operands pair.0 ++ operands pair.1) j site (subst (λ (l : List Site). IsAt l j site) (sym joined) e) in
    subst (IsListedIn (tree.Assigns pairs)) m.2 tt

instance_listed : (kind : List ℕ) (instances : List tree.Instance) (i : ℕ) (instance : tree.Instance) → slice_get instances i ≡ Some instance → (j : ℕ) (site : Site) → IsAt (instance_sites kind instance) j site
    → IsListedIn (tree.Instances kind instances) site
instance_listed kind instances i instance there zero site e =
    subst (IsListedIn (tree.Instances kind instances)) (same_Some (InstanceSite kind instance.name instance.links) site e) (i, got_map (λ (x : tree.Instance). (kind, x)) instances i instance there)
instance_listed kind instances i instance there (suc j) site e = links_listed (tree.Instances kind instances) site (of_links kind instance.links j site e)

listed_in : (item : tree.Item) (at : ℕ) (site : Site) → IsAt (item_sites item) at site → IsListedIn item site
listed_in (tree.PortItem d wire range names) at site e = let m = map_got (λ (n : List ℕ). Port n (is_output d) range) names at site e in subst (IsListedIn (tree.PortItem d wire range names)) m.2 tt
listed_in (tree.Wires range names) at site e = let m = map_got (λ (n : List ℕ). Wire n range) names at site e in subst (IsListedIn (tree.Wires range names)) m.2 tt
listed_in (tree.Assigns pairs) at site e = let r = flat_placed assign_sites pairs at site e in assign_listed pairs r.0 r.1 r.3 r.2 site r.4
listed_in (tree.Instances kind instances) at site e = let r = flat_placed (instance_sites kind) instances at site e in instance_listed kind instances r.0 r.1 r.3 r.2 site r.4

listed_from : (owner : tree.Module) (i : ℕ) (item : tree.Item) → slice_get owner.items i ≡ Some item → (site : Site) → IsListedIn item site → IsListed owner site
listed_from owner i item there (InstanceSite kind name links) h =
    (length (flat_map item_instances (take i owner.items)) + h.0, piece_flat item_instances owner.items i item there h.0 (kind, record { name = name; links = links }) h.1)
listed_from owner i item there (Assign to from) h = (length (flat_map item_assigns (take i owner.items)) + h.0, piece_flat item_assigns owner.items i item there h.0 (to, from) h.1)
listed_from owner i item there (Module n) h = tt
listed_from owner i item there (Listed n) h = absurd h
listed_from owner i item there (Port n output range) h = tt
listed_from owner i item there (Wire n range) h = tt
listed_from owner i item there (Named kind name expr) h = tt
listed_from owner i item there (Ordered kind place expr) h = tt
listed_from owner i item there (Assigned operand) h = tt
listed_from owner i item there (Linked operand) h = tt

of_head_listed : (owner : tree.Module) (site : Site) → IsPortOf (port_names owner.head) site → IsListed owner site
of_head_listed owner site (inl h) = subst (IsListed owner) h.3 (h.0, h.2)
of_head_listed owner site (inr h) = subst (IsListed owner) h.3 tt

pub sites_are_listed : SitesAreListed
sites_are_listed owner at site e = elim (belongs owner at site e) [
  | inl same ↦ subst (IsListed owner) same tt
  | inr rest ↦ elim rest [
    | inl h ↦ of_head_listed owner site h
    | inr h ↦ listed_from owner h.0 h.1 h.3 site (listed_in h.1 h.2 site h.4)
  ]
]
