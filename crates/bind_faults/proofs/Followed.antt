-- The operands of a site's two sides are sites behind it, so that there are fewer of them than sites.
use Rattle.std.proofs.Common.{◌≡◌, ℕ, ◌<◌, ◌≤◌, Bool, List, [], ◌∷◌, ◌++◌, map, length, Option, Some, None, refl, arith, length-append}
use Rattle.std.specs.List.{flat_map, enumerate_from}
use Rattle.std.proofs.lemmas.List.{length-map}
use Rattle.verilog_tree.specs.Trees as tree
use Rattle.bind_sites.specs.Sites.{operands, Site, Module, Listed, Port, Wire, Assign, Instance, Named, Ordered, Assigned, Linked, is_output, port_sites, full_sites, head_sites, assign_sites, linked_sites, named_sites, ordered_sites, link_sites, instance_sites, item_sites, sites}
use Rattle.bind_faults.specs.Widths.{operand_count, link_count}
use Rattle.bind_kinds.proofs.Every.{Every, every_both, every_weaker, every_map}

-- a site without two sides
abbrev pub IsPlain : Site → Type 0
IsPlain (Assign to from) = ⊥
IsPlain (Named kind name expr) = ⊥
IsPlain (Ordered kind place expr) = ⊥
IsPlain _ = Unit {0}

pub linked_plain : (expr : Option tree.Expr) → Every IsPlain (linked_sites expr)
linked_plain None = tt
linked_plain (Some e) = every_map IsPlain Linked (λ o. tt) (operands e)

port_plain : (said : Option (Bool × Option (ℕ × ℕ))) (name : List ℕ) → Every IsPlain (port_sites said name)
port_plain None name = (tt, tt)
port_plain (Some said) name = (tt, (tt, tt))

full_plain : (said : Option (Bool × Option (ℕ × ℕ))) (ports : List tree.HeadPort) → Every IsPlain (full_sites said ports)
full_plain said [] = tt
full_plain said (tree.Full d wire range n ∷ ports) = every_both IsPlain (port_sites (Some (is_output d, range)) n) (full_sites (Some (is_output d, range)) ports) (port_plain (Some (is_output d, range)) n) (full_plain (Some (is_output d, range)) ports)
full_plain said (tree.Bare n ∷ ports) = every_both IsPlain (port_sites said n) (full_sites said ports) (port_plain said n) (full_plain said ports)

pub head_plain : (head : tree.Head) → Every IsPlain (head_sites head)
head_plain (tree.Plain names) = every_map IsPlain Listed (λ n. tt) names
head_plain (tree.Ports ports) = full_plain None ports

-- ---- fewer operands than sites

abbrev IsFollowed : ℕ → Site → Type 0
IsFollowed limit site = operand_count site < limit

abbrev AreFollowed : List Site → Type 0
AreFollowed all = Every (IsFollowed (length all)) all

more : (low high : ℕ) → low ≤ high → (all : List Site) → Every (IsFollowed low) all → Every (IsFollowed high) all
more low high le all h = every_weaker (IsFollowed low) (IsFollowed high) (λ site lt. omega arith) all h

followed_both : (a b : List Site) → AreFollowed a → AreFollowed b → AreFollowed (a ++ b)
followed_both a b g h =
    every_both (IsFollowed (length (a ++ b))) a b (more (length a) (length (a ++ b)) (omega (arith, length-append a b)) a g) (more (length b) (length (a ++ b)) (omega (arith, length-append a b)) b h)

followed_one : (site : Site) (all : List Site) → operand_count site ≤ length all → AreFollowed all → AreFollowed (site ∷ all)
followed_one site all le h = (omega arith, more (length all) (length (site ∷ all)) (omega arith) all h)

followed_flat : {A : Type 0} (f : A → List Site) → ((a : A) → AreFollowed (f a)) → (items : List A) → AreFollowed (flat_map f items)
followed_flat f h [] = tt
followed_flat f h (a ∷ items) = followed_both (f a) (flat_map f items) (h a) (followed_flat f h items)

plain_count : (site : Site) → IsPlain site → operand_count site ≡ 0
plain_count (Assign to from) h = absurd h
plain_count (Named kind name expr) h = absurd h
plain_count (Ordered kind place expr) h = absurd h
plain_count (Module n) h = refl
plain_count (Listed n) h = refl
plain_count (Port n output range) h = refl
plain_count (Wire n range) h = refl
plain_count (Instance kind n links) h = refl
plain_count (Assigned o) h = refl
plain_count (Linked o) h = refl

followed_plain : (all : List Site) → Every IsPlain all → AreFollowed all
followed_plain [] h = tt
followed_plain (site ∷ all) h = followed_one site all (omega (arith, plain_count site h.0)) (followed_plain all h.1)

assign_followed : (pair : tree.Expr × tree.Expr) → AreFollowed (assign_sites pair)
assign_followed pair =
    let to = map Assigned (operands pair.0) in
    let from = map Assigned (operands pair.1) in
    followed_one (Assign pair.0 pair.1) (to ++ from) (omega (arith, length-append to from, length-map (operands pair.0) Assigned, length-map (operands pair.1) Assigned))
    (followed_plain (to ++ from) (every_both IsPlain to from (every_map IsPlain Assigned (λ o. tt) (operands pair.0)) (every_map IsPlain Assigned (λ o. tt) (operands pair.1))))

linked_count : (expr : Option tree.Expr) → link_count expr ≤ length (linked_sites expr)
linked_count None = omega arith
linked_count (Some e) = omega (arith, length-map (operands e) Linked)

named_followed : (kind : List ℕ) (link : tree.NamedLink) → AreFollowed (named_sites kind link)
named_followed kind link = followed_one (Named kind link.name link.expr) (linked_sites link.expr) (linked_count link.expr) (followed_plain (linked_sites link.expr) (linked_plain link.expr))

ordered_followed : (kind : List ℕ) (link : ℕ × Option tree.Expr) → AreFollowed (ordered_sites kind link)
ordered_followed kind link = followed_one (Ordered kind link.0 link.1) (linked_sites link.1) (linked_count link.1) (followed_plain (linked_sites link.1) (linked_plain link.1))

links_followed : (kind : List ℕ) (links : tree.Links) → AreFollowed (link_sites kind links)
links_followed kind (tree.Named links) = followed_flat (named_sites kind) (named_followed kind) links
links_followed kind (tree.Ordered links) = followed_flat (ordered_sites kind) (ordered_followed kind) (enumerate_from 0 links)

instance_followed : (kind : List ℕ) (instance : tree.Instance) → AreFollowed (instance_sites kind instance)
instance_followed kind instance = followed_one (Instance kind instance.name instance.links) (link_sites kind instance.links) (omega arith) (links_followed kind instance.links)

item_followed : (item : tree.Item) → AreFollowed (item_sites item)
item_followed (tree.PortItem d wire range names) = followed_plain (map (λ n. Port n (is_output d) range) names) (every_map IsPlain (λ n. Port n (is_output d) range) (λ n. tt) names)
item_followed (tree.Wires range names) = followed_plain (map (λ n. Wire n range) names) (every_map IsPlain (λ n. Wire n range) (λ n. tt) names)
item_followed (tree.Assigns pairs) = followed_flat assign_sites assign_followed pairs
item_followed (tree.Instances kind instances) = followed_flat (instance_sites kind) (instance_followed kind) instances

pub followed : (owner : tree.Module) → Every (λ site. operand_count site < length (sites owner)) (sites owner)
followed owner =
    let items = flat_map item_sites owner.items in
    followed_one (Module owner.name) (head_sites owner.head ++ items) (omega arith)
    (followed_both (head_sites owner.head) items (followed_plain (head_sites owner.head) (head_plain owner.head)) (followed_flat item_sites item_followed owner.items))
