-- The links of a module are of the instances that stand last before them.
use Rattle.std.proofs.Common.{◌≡◌, ℕ, Bool, List, [], ◌∷◌, ◌++◌, map, Option, Some, None, refl, sym, subst, append_assoc}
use Rattle.std.specs.List.{AllZip, flat_map, enumerate_from}
use Rattle.verilog_tree.specs.Trees as tree
use Rattle.bind_sites.specs.Sites.{operands, Site, Module, Listed, Port, Wire, Assign, Instance, Named, Ordered, Assigned, Linked, is_output, port_sites, full_sites, head_sites, assign_sites, linked_sites, named_sites, ordered_sites, link_sites, instance_sites, item_sites, sites}
use Rattle.bind_hierarchy.specs.declared.kinds.Meaning.{Meaning}
use Rattle.bind_forms.specs.Modules.{Setting}
use Rattle.bind_kinds.specs.Meanings.{KindMeans, AreLinked, instance_kinds}
use Rattle.bind_kinds.proofs.Every.{Every, every_both, every_map, every_flat}

-- no instance, and no link but of this kind, or none at all
abbrev IsBehind : Option (List ℕ) → Site → Type 0
IsBehind now (Instance kind name links) = ⊥
IsBehind now (Named kind name expr) = now ≡ Some kind
IsBehind now (Ordered kind place expr) = now ≡ Some kind
IsBehind now _ = Unit {0}

-- sites without an instance, and then others
behind_then : (setting : Setting) (now : Option (List ℕ)) (last : Option Meaning) → ((kind : List ℕ) → now ≡ Some kind → KindMeans setting kind last)
    → (some others : List Site) (meanings : List (Option Meaning)) → Every (IsBehind now) some → AreLinked setting last others meanings → AreLinked setting last (some ++ others) meanings
behind_then setting now last means [] others meanings behind linked = linked
behind_then setting now last means (Instance kind name links ∷ some) others meanings behind linked = absurd behind.0
behind_then setting now last means (Named kind name expr ∷ some) others meanings behind linked = (means kind behind.0, behind_then setting now last means some others meanings behind.1 linked)
behind_then setting now last means (Ordered kind place expr ∷ some) others meanings behind linked = (means kind behind.0, behind_then setting now last means some others meanings behind.1 linked)
behind_then setting now last means (Module n ∷ some) others meanings behind linked = behind_then setting now last means some others meanings behind.1 linked
behind_then setting now last means (Listed n ∷ some) others meanings behind linked = behind_then setting now last means some others meanings behind.1 linked
behind_then setting now last means (Port n output range ∷ some) others meanings behind linked = behind_then setting now last means some others meanings behind.1 linked
behind_then setting now last means (Wire n range ∷ some) others meanings behind linked = behind_then setting now last means some others meanings behind.1 linked
behind_then setting now last means (Assign to from ∷ some) others meanings behind linked = behind_then setting now last means some others meanings behind.1 linked
behind_then setting now last means (Assigned o ∷ some) others meanings behind linked = behind_then setting now last means some others meanings behind.1 linked
behind_then setting now last means (Linked o ∷ some) others meanings behind linked = behind_then setting now last means some others meanings behind.1 linked

-- sites without an instance and without a link
none_means : (setting : Setting) (last : Option Meaning) (kind : List ℕ) → None ≡ Some kind → KindMeans setting kind last
none_means setting last kind e = absurd (never e) where
  never : None ≡ Some kind → ⊥
  never e = cc

plain_then : (setting : Setting) (last : Option Meaning) (some others : List Site) (meanings : List (Option Meaning)) → Every (IsBehind None) some → AreLinked setting last others meanings → AreLinked setting last (some ++ others) meanings
plain_then setting last some others meanings behind linked = behind_then setting None last (none_means setting last) some others meanings behind linked

-- ---- what stands behind an instance, and in a head

linked_behind : (now : Option (List ℕ)) (expr : Option tree.Expr) → Every (IsBehind now) (linked_sites expr)
linked_behind now None = tt
linked_behind now (Some e) = every_map (IsBehind now) Linked (λ o. tt) (operands e)

links_behind : (kind : List ℕ) (links : tree.Links) → Every (IsBehind (Some kind)) (link_sites kind links)
links_behind kind (tree.Named links) = every_flat (IsBehind (Some kind)) (named_sites kind) links (λ link c. (refl, linked_behind (Some kind) link.expr))
links_behind kind (tree.Ordered links) = every_flat (IsBehind (Some kind)) (ordered_sites kind) (enumerate_from 0 links) (λ link c. (refl, linked_behind (Some kind) link.1))

port_behind : (said : Option (Bool × Option (ℕ × ℕ))) (name : List ℕ) → Every (IsBehind None) (port_sites said name)
port_behind None name = (tt, tt)
port_behind (Some said) name = (tt, (tt, tt))

full_behind : (said : Option (Bool × Option (ℕ × ℕ))) (ports : List tree.HeadPort) → Every (IsBehind None) (full_sites said ports)
full_behind said [] = tt
full_behind said (tree.Full d wire range n ∷ ports) =
    every_both (IsBehind None) (port_sites (Some (is_output d, range)) n) (full_sites (Some (is_output d, range)) ports) (port_behind (Some (is_output d, range)) n) (full_behind (Some (is_output d, range)) ports)
full_behind said (tree.Bare n ∷ ports) = every_both (IsBehind None) (port_sites said n) (full_sites said ports) (port_behind said n) (full_behind said ports)

head_behind : (head : tree.Head) → Every (IsBehind None) (head_sites head)
head_behind (tree.Plain names) = every_map (IsBehind None) Listed (λ n. tt) names
head_behind (tree.Ports ports) = full_behind None ports

assign_behind : (pair : tree.Expr × tree.Expr) → Every (IsBehind None) (assign_sites pair)
assign_behind pair =
    let to = map Assigned (operands pair.0) in
    let from = map Assigned (operands pair.1) in
    (tt, every_both (IsBehind None) to from (every_map (IsBehind None) Assigned (λ o. tt) (operands pair.0)) (every_map (IsBehind None) Assigned (λ o. tt) (operands pair.1)))

-- ---- items

-- the sites behind are linked, whatever the meaning of the last instance before them
abbrev AreLinkedOn : Setting → List Site → List (List ℕ) → Type 0
AreLinkedOn setting others kinds = (last : Option Meaning) (meanings : List (Option Meaning)) → AllZip (KindMeans setting) kinds meanings → AreLinked setting last others meanings

instances_linked : (setting : Setting) (kind : List ℕ) (instances : List tree.Instance) (others : List Site) (kinds : List (List ℕ)) → AreLinkedOn setting others kinds
    → AreLinkedOn setting (flat_map (instance_sites kind) instances ++ others) (map (λ instance. kind) instances ++ kinds)
instances_linked setting kind [] others kinds rest last meanings zip = rest last meanings zip
instances_linked setting kind (first ∷ more) others kinds rest last [] zip = absurd zip
instances_linked setting kind (first ∷ more) others kinds rest last (meaning ∷ meanings) zip =
    let means = λ (k : List ℕ) (e : Some kind ≡ Some k). subst (λ (n : List ℕ). KindMeans setting n meaning) (same kind k e) zip.0 in
    let after = behind_then setting (Some kind) meaning means (link_sites kind first.links) (flat_map (instance_sites kind) more ++ others) meanings (links_behind kind first.links)
    (instances_linked setting kind more others kinds rest meaning meanings zip.1) in
    (zip.0, subst (λ (l : List Site). AreLinked setting meaning l meanings) (sym (append_assoc (link_sites kind first.links) (flat_map (instance_sites kind) more) others)) after) where
      same : (a b : List ℕ) → Some a ≡ Some b → a ≡ b
      same a b e = cc

item_linked : (setting : Setting) (item : tree.Item) (others : List Site) (kinds : List (List ℕ)) → AreLinkedOn setting others kinds → AreLinkedOn setting (item_sites item ++ others) (instance_kinds item ++ kinds)
item_linked setting (tree.PortItem d wire range names) others kinds rest last meanings zip =
    plain_then setting last (map (λ n. Port n (is_output d) range) names) others meanings (every_map (IsBehind None) (λ n. Port n (is_output d) range) (λ n. tt) names) (rest last meanings zip)
item_linked setting (tree.Wires range names) others kinds rest last meanings zip =
    plain_then setting last (map (λ n. Wire n range) names) others meanings (every_map (IsBehind None) (λ n. Wire n range) (λ n. tt) names) (rest last meanings zip)
item_linked setting (tree.Assigns pairs) others kinds rest last meanings zip = plain_then setting last (flat_map assign_sites pairs) others meanings (every_flat (IsBehind None) assign_sites pairs (λ pair c. assign_behind pair)) (rest last meanings zip)
item_linked setting (tree.Instances kind instances) others kinds rest last meanings zip = instances_linked setting kind instances others kinds rest last meanings zip

items_linked : (setting : Setting) (items : List tree.Item) → AreLinkedOn setting (flat_map item_sites items) (flat_map instance_kinds items)
items_linked setting [] last meanings zip = tt
items_linked setting (item ∷ items) last meanings zip = item_linked setting item (flat_map item_sites items) (flat_map instance_kinds items) (items_linked setting items) last meanings zip

pub module_linked : (setting : Setting) (owner : tree.Module) (meanings : List (Option Meaning)) → AllZip (KindMeans setting) (flat_map instance_kinds owner.items) meanings → AreLinked setting None (sites owner) meanings
module_linked setting owner meanings zip =
    plain_then setting None (head_sites owner.head) (flat_map item_sites owner.items) meanings (head_behind owner.head) (items_linked setting owner.items None meanings zip)
