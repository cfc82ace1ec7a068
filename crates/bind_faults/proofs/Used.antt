-- The kind of a link is the kind of instances in an item.
use Rattle.std.proofs.Common.{ℕ, ◌<◌, List, [], ◌∷◌, ◌++◌, map, length, arith}
use Rattle.std.specs.List.{flat_map, enumerate_from, Contains}
use Rattle.verilog_tree.specs.Trees as tree
use Rattle.bind_sites.specs.Sites.{Site, Module, Listed, Port, Wire, Assign, Instance, Named, Ordered, Assigned, Linked, operands, is_output, head_sites, assign_sites, linked_sites, named_sites, ordered_sites, link_sites, instance_sites, item_sites, sites}
use Rattle.bind_kinds.proofs.Every.{Every, every_both, every_weaker, every_map, every_flat}
use Rattle.bind_faults.proofs.Followed.{IsPlain, linked_plain, head_plain}

-- an item has instances of a kind
abbrev pub HasInstances : List tree.Item → List ℕ → Type 0
HasInstances items kind = (instances : List tree.Instance) × Contains items (tree.Instances kind instances) × (0 < length instances)

abbrev pub IsUsed : List tree.Item → Site → Type 0
IsUsed items (Named kind name expr) = HasInstances items kind
IsUsed items (Ordered kind place expr) = HasInstances items kind
IsUsed items _ = Unit {0}

plain_used : (items : List tree.Item) (site : Site) → IsPlain site → IsUsed items site
plain_used items (Assign to from) h = absurd h
plain_used items (Named kind name expr) h = absurd h
plain_used items (Ordered kind place expr) h = absurd h
plain_used items (Module n) h = tt
plain_used items (Listed n) h = tt
plain_used items (Port n output range) h = tt
plain_used items (Wire n range) h = tt
plain_used items (Instance kind n links) h = tt
plain_used items (Assigned o) h = tt
plain_used items (Linked o) h = tt

all_plain : (items : List tree.Item) (all : List Site) → Every IsPlain all → Every (IsUsed items) all
all_plain items all h = every_weaker IsPlain (IsUsed items) (plain_used items) all h

links_used : (items : List tree.Item) (kind : List ℕ) (links : tree.Links) → HasInstances items kind → Every (IsUsed items) (link_sites kind links)
links_used items kind (tree.Named links) has = every_flat (IsUsed items) (named_sites kind) links (λ link c. (has, all_plain items (linked_sites link.expr) (linked_plain link.expr)))
links_used items kind (tree.Ordered links) has = every_flat (IsUsed items) (ordered_sites kind) (enumerate_from 0 links) (λ link c. (has, all_plain items (linked_sites link.1) (linked_plain link.1)))

instances_used : (items : List tree.Item) (kind : List ℕ) (instances : List tree.Instance) → Contains items (tree.Instances kind instances) → Every (IsUsed items) (flat_map (instance_sites kind) instances)
instances_used items kind [] c = tt
instances_used items kind (first ∷ rest) c =
    every_flat (IsUsed items) (instance_sites kind) (first ∷ rest) (λ instance i. (tt, links_used items kind instance.links (first ∷ rest, c, omega arith)))

assign_used : (items : List tree.Item) (pair : tree.Expr × tree.Expr) → Every (IsUsed items) (assign_sites pair)
assign_used items pair =
    let to = map Assigned (operands pair.0) in
    let from = map Assigned (operands pair.1) in
    (tt, all_plain items (to ++ from) (every_both IsPlain to from (every_map IsPlain Assigned (λ o. tt) (operands pair.0)) (every_map IsPlain Assigned (λ o. tt) (operands pair.1))))

item_used : (items : List tree.Item) (item : tree.Item) → Contains items item → Every (IsUsed items) (item_sites item)
item_used items (tree.PortItem d wire range names) c = all_plain items (map (λ n. Port n (is_output d) range) names) (every_map IsPlain (λ n. Port n (is_output d) range) (λ n. tt) names)
item_used items (tree.Wires range names) c = all_plain items (map (λ n. Wire n range) names) (every_map IsPlain (λ n. Wire n range) (λ n. tt) names)
item_used items (tree.Assigns pairs) c = every_flat (IsUsed items) assign_sites pairs (λ pair i. assign_used items pair)
item_used items (tree.Instances kind instances) c = instances_used items kind instances c

pub used : (owner : tree.Module) → Every (IsUsed owner.items) (sites owner)
used owner = (
  tt,
  every_both (IsUsed owner.items) (head_sites owner.head) (flat_map item_sites owner.items) (all_plain owner.items (head_sites owner.head) (head_plain owner.head))
      (every_flat (IsUsed owner.items) item_sites owner.items (item_used owner.items)),
)
