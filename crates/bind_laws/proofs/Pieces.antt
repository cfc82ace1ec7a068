-- Where the sites of a module's parts stand among its sites.
use Rattle.std.proofs.Common.{◌≡◌, ◌∙◌, ◌<◌, ◌+◌, ℕ, zero, suc, List, ◌++◌, map, take, length, Option, Some, None, sym, ap, subst, arith}
use Rattle.std.specs.Prelude.{slice_get}
use Rattle.std.specs.List.{flat_map, enumerate_from}
use Rattle.std.proofs.lemmas.Option.{slice_get_within}
use Rattle.verilog_tree.specs.Trees as tree
use Rattle.bind_sites.specs.Sites.{Operand, Module, Instance as InstanceSite, Linked, operands, head_sites, assign_sites, linked_sites, named_sites, ordered_sites, link_sites, instance_sites, item_sites, sites}
use Rattle.bind_sites.specs.Scope.{IsAt}
use Rattle.bind_forms.specs.Binds.{item_assigns, item_instances}
use Rattle.bind_laws.proofs.Standing.{IsPieceAt, AssignsStand, InstancesStand, NamedLinksStand, OrderedLinksStand, InstancesAreApart}
use Rattle.bind_laws.proofs.Lists.{map_got, numbered_got, flat_got, piece_right, piece_tail, piece_behind, piece_in, piece_flat, flat_rises}

-- the sites of an item stand in a module's
pub item_stands : (owner : tree.Module) (j : ℕ) (item : tree.Item) → slice_get owner.items j ≡ Some item
    → IsPieceAt (sites owner) (1 + length (head_sites owner.head) + length (flat_map item_sites (take j owner.items))) (item_sites item)
item_stands owner j item e =
    let all = flat_map item_sites owner.items in
    let outer = piece_in (sites owner) (head_sites owner.head ++ all) all 1 (length (head_sites owner.head)) (piece_tail (Module owner.name) (head_sites owner.head ++ all)) (piece_right (head_sites owner.head) all) in
    piece_in (sites owner) all (item_sites item) (1 + length (head_sites owner.head)) (length (flat_map item_sites (take j owner.items))) outer (piece_flat item_sites owner.items j item e)

abbrev item_place : tree.Module → ℕ → ℕ
item_place owner j = 1 + length (head_sites owner.head) + length (flat_map item_sites (take j owner.items))

-- ---- assigns

assign_in : (item : tree.Item) (k : ℕ) (pair : tree.Expr × tree.Expr) → slice_get (item_assigns item) k ≡ Some pair → (at : ℕ) × IsPieceAt (item_sites item) at (assign_sites pair)
assign_in (tree.PortItem d wire range names) k pair e = absurd cc
assign_in (tree.Wires range names) k pair e = absurd cc
assign_in (tree.Assigns pairs) k pair e = (length (flat_map assign_sites (take k pairs)), piece_flat assign_sites pairs k pair e)
assign_in (tree.Instances name instances) k pair e = absurd cc

pub assigns_stand : AssignsStand
assigns_stand owner k pair e =
    let r = flat_got item_assigns owner.items k pair e in
    let outer = item_stands owner r.0 r.1 r.3 in
    let inner = assign_in r.1 r.2 pair r.4 in
    (item_place owner r.0 + inner.0, piece_in (sites owner) (item_sites r.1) (assign_sites pair) (item_place owner r.0) inner.0 outer inner.1)

-- ---- instances

-- the item that an instance stands in
pub instance_item : (item : tree.Item) (k : ℕ) (of_kind : List ℕ × tree.Instance) → slice_get (item_instances item) k ≡ Some of_kind → (instances : List tree.Instance) × (item ≡ tree.Instances of_kind.0 instances) × (slice_get instances k ≡ Some of_kind.1)
instance_item (tree.PortItem d wire range names) k of_kind e = absurd cc
instance_item (tree.Wires range names) k of_kind e = absurd cc
instance_item (tree.Assigns pairs) k of_kind e = absurd cc
instance_item (tree.Instances name instances) k of_kind e =
    let m = map_got (λ (instance : tree.Instance). (name, instance)) instances k of_kind e in
    let first : name ≡ of_kind.0 = ap (λ (p : List ℕ × tree.Instance). p.0) m.2 in
    let second : m.0 ≡ of_kind.1 = ap (λ (p : List ℕ × tree.Instance). p.1) m.2 in
    (instances, ap (λ (n : List ℕ). tree.Instances n instances) first, m.1 ∙ ap Some second)

instance_in : (item : tree.Item) (k : ℕ) (of_kind : List ℕ × tree.Instance) → slice_get (item_instances item) k ≡ Some of_kind → (at : ℕ) × IsPieceAt (item_sites item) at (instance_sites of_kind.0 of_kind.1)
instance_in item k of_kind e =
    let r = instance_item item k of_kind e in
    subst (λ (i : tree.Item). (at : ℕ) × IsPieceAt (item_sites i) at (instance_sites of_kind.0 of_kind.1)) (sym r.1)
    (length (flat_map (instance_sites of_kind.0) (take k r.0)), piece_flat (instance_sites of_kind.0) r.0 k of_kind.1 r.2)

pub instances_stand : InstancesStand
instances_stand owner k of_kind e =
    let r = flat_got item_instances owner.items k of_kind e in
    let outer = item_stands owner r.0 r.1 r.3 in
    let inner = instance_in r.1 r.2 of_kind r.4 in
    (item_place owner r.0 + inner.0, piece_in (sites owner) (item_sites r.1) (instance_sites of_kind.0 of_kind.1) (item_place owner r.0) inner.0 outer inner.1)

-- ---- links

named_some : (kind : List ℕ) (link : tree.NamedLink) → 0 < length (named_sites kind link)
named_some kind link = omega arith

pub named_links_stand : NamedLinksStand
named_links_stand kind name links = (
  λ k. length (flat_map (named_sites kind) (take k links)),
  λ k link e. piece_behind (InstanceSite kind name (tree.Named links)) (flat_map (named_sites kind) links) (named_sites kind link) (length (flat_map (named_sites kind) (take k links))) (piece_flat (named_sites kind) links k link e),
  λ j k one other l e f. let within = slice_get_within links k other f in flat_rises (named_sites kind) (named_some kind) links j k l (omega (arith, within)),
)

pub ordered_links_stand : OrderedLinksStand
ordered_links_stand kind name links k link e =
    let z : 0 + k ≡ k = omega arith in
    let there : slice_get (enumerate_from 0 links) k ≡ Some (k, link) = numbered_got 0 links k link e ∙ ap (λ (n : ℕ). Some (n, link)) z in
    let head = InstanceSite kind name (tree.Ordered links) in
    let all = flat_map (ordered_sites kind) (enumerate_from 0 links) in (
      length (flat_map (ordered_sites kind) (take k (enumerate_from 0 links))),
      piece_behind head all (ordered_sites kind (k, link)) (length (flat_map (ordered_sites kind) (take k (enumerate_from 0 links)))) (piece_flat (ordered_sites kind) (enumerate_from 0 links) k (k, link) there),
    )

-- ---- instances apart

operands_apart : (ops : List Operand) (k : ℕ) (inner name : List ℕ) (links : tree.Links) → ¬ IsAt (map Linked ops) k (InstanceSite inner name links)
operands_apart ops k inner name links e = let m = map_got Linked ops k (InstanceSite inner name links) e in differ m.0 m.2 where
  differ : (o : Operand) → Linked o ≡ InstanceSite inner name links → ⊥
  differ o f = cc

linked_apart : (expr : Option tree.Expr) (k : ℕ) (inner name : List ℕ) (links : tree.Links) → ¬ IsAt (linked_sites expr) k (InstanceSite inner name links)
linked_apart None k inner name links e = cc
linked_apart (Some expr) k inner name links e = operands_apart (operands expr) k inner name links e

named_apart : (kind : List ℕ) (link : tree.NamedLink) (k : ℕ) (inner name : List ℕ) (links : tree.Links) → ¬ IsAt (named_sites kind link) k (InstanceSite inner name links)
named_apart kind link zero inner name links e = cc
named_apart kind link (suc k) inner name links e = linked_apart link.expr k inner name links e

ordered_apart : (kind : List ℕ) (numbered : ℕ × Option tree.Expr) (k : ℕ) (inner name : List ℕ) (links : tree.Links) → ¬ IsAt (ordered_sites kind numbered) k (InstanceSite inner name links)
ordered_apart kind numbered zero inner name links e = cc
ordered_apart kind numbered (suc k) inner name links e = linked_apart numbered.1 k inner name links e

links_apart : (kind : List ℕ) (all : tree.Links) (k : ℕ) (inner name : List ℕ) (links : tree.Links) → ¬ IsAt (link_sites kind all) k (InstanceSite inner name links)
links_apart kind (tree.Named all) k inner name links e = let r = flat_got (named_sites kind) all k (InstanceSite inner name links) e in named_apart kind r.1 r.2 inner name links r.4
links_apart kind (tree.Ordered all) k inner name links e = let r = flat_got (ordered_sites kind) (enumerate_from 0 all) k (InstanceSite inner name links) e in ordered_apart kind r.1 r.2 inner name links r.4

pub instances_are_apart : InstancesAreApart
instances_are_apart kind instance k inner name links e = links_apart kind instance.links k inner name links e
