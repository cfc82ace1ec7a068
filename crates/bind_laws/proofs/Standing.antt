-- Where the sites of a module's parts stand among its sites.
use Rattle.std.specs.Prelude.{◌≡◌, ℕ, suc, ◌+◌, ◌<◌, List, slice_get, Option, Some}
use Rattle.std.specs.List.{flat_map}
use Rattle.verilog_tree.specs.Trees as tree
use Rattle.bind_sites.specs.Sites.{Site, Instance as InstanceSite, assign_sites, named_sites, ordered_sites, instance_sites, sites}
use Rattle.bind_sites.specs.Scope.{IsAt}
use Rattle.bind_forms.specs.Binds.{item_assigns, item_instances}

-- a run of sites stands among others, from a place on
abbrev pub IsPieceAt : List Site → ℕ → List Site → Type 0
IsPieceAt all at piece = (k : ℕ) (site : Site) → IsAt piece k site → IsAt all (at + k) site

-- Each assign of a module stands among its sites, with its operands behind it.
abbrev pub AssignsStand : Type 0
AssignsStand = (owner : tree.Module) (k : ℕ) (pair : tree.Expr × tree.Expr) → slice_get (flat_map item_assigns owner.items) k ≡ Some pair → (at : ℕ) × IsPieceAt (sites owner) at (assign_sites pair)

-- Each instance of a module stands among its sites, with its links behind it.
abbrev pub InstancesStand : Type 0
InstancesStand = (owner : tree.Module) (k : ℕ) (of_kind : List ℕ × tree.Instance) → slice_get (flat_map item_instances owner.items) k ≡ Some of_kind
    → (at : ℕ) × IsPieceAt (sites owner) at (instance_sites of_kind.0 of_kind.1)

-- Each link by name stands among the sites of its instance, with its operands behind it; the later of two links stands at the later place.
abbrev pub NamedLinksStand : Type 0
NamedLinksStand = (kind name : List ℕ) (links : List tree.NamedLink) → (place : ℕ → ℕ)
    × ((k : ℕ) (link : tree.NamedLink) → slice_get links k ≡ Some link → IsPieceAt (instance_sites kind (record { name = name; links = tree.Named links })) (suc (place k)) (named_sites kind link))
    × ((j k : ℕ) (one other : tree.NamedLink) → j < k → slice_get links j ≡ Some one → slice_get links k ≡ Some other → place j < place k)

-- Each link by order stands among the sites of its instance, with its place and with its operands behind it.
abbrev pub OrderedLinksStand : Type 0
OrderedLinksStand = (kind name : List ℕ) (links : List (Option tree.Expr)) (k : ℕ) (link : Option tree.Expr) → slice_get links k ≡ Some link
    → (at : ℕ) × IsPieceAt (instance_sites kind (record { name = name; links = tree.Ordered links })) (suc at) (ordered_sites kind (k, link))

-- Behind an instance no other one stands among its sites.
abbrev pub InstancesAreApart : Type 0
InstancesAreApart = (kind : List ℕ) (instance : tree.Instance) (k : ℕ) (inner name : List ℕ) (links : tree.Links) → ¬ IsAt (instance_sites kind instance) (suc k) (InstanceSite inner name links)
