-- What the sites of a module say of its tree.
use Rattle.std.specs.Prelude.{◌≡◌, ◌↔◌, ℕ, List, Option, Some, None}
use Rattle.std.specs.List.{All, Contains, filter_map, flat_map}
use Rattle.verilog_tree.specs.Trees as tree
use Rattle.bind_sites.specs.Sites.{operands, Site, Assign, Instance, Assigned, link_sites, sites, port_names}
use Rattle.bind_sites.specs.Again.{listed_name}
use Rattle.bind_sites.specs.Scope.{Stands}
use Rattle.bind_forms.specs.Binds.{item_assigns, item_instances}

-- the assign at a site, its sides
abbrev pub assign_of : Site → Option (tree.Expr × tree.Expr)
assign_of (Assign to from) = Some (to, from)
assign_of _ = None

-- the instance at a site, with the name of its kind
abbrev pub instance_of : Site → Option (List ℕ × tree.Instance)
instance_of (Instance kind name links) = Some (kind, record { name = name; links = links })
instance_of _ = None

-- these are the sites of a module
abbrev pub AreSites : List Site → Type 0
AreSites all = (owner : tree.Module) × (all ≡ sites owner)

-- an instance stands in an item of a module
abbrev pub HoldsInstance : tree.Module → List ℕ → tree.Instance → Type 0
HoldsInstance owner kind instance = (instances : List tree.Instance) × Contains owner.items (tree.Instances kind instances) × Contains instances instance

-- The listed ports among the sites of a module are the names of the ports in its head.
abbrev pub ListedAreSites : Type 0
ListedAreSites = (owner : tree.Module) → filter_map listed_name (sites owner) ≡ port_names owner.head

-- The assigns among the sites of a module are those of its items, and the operands of their sides stand among the sites.
pub record AssignsAreSites : Type 0 where
  pub listed : (owner : tree.Module) → filter_map assign_of (sites owner) ≡ flat_map item_assigns owner.items
  pub to : (owner : tree.Module) (to from : tree.Expr) → Stands (sites owner) (Assign to from) → All (λ operand. Stands (sites owner) (Assigned operand)) (operands to)
  pub from : (owner : tree.Module) (to from : tree.Expr) → Stands (sites owner) (Assign to from) → All (λ operand. Stands (sites owner) (Assigned operand)) (operands from)

-- The instances among the sites of a module are those of its items, and the sites of their links stand among the sites.
pub record InstancesAreSites : Type 0 where
  pub listed : (owner : tree.Module) → filter_map instance_of (sites owner) ≡ flat_map item_instances owner.items
  pub stands : (owner : tree.Module) (kind : List ℕ) (instance : tree.Instance) → Stands (sites owner) (Instance kind instance.name instance.links) ↔ HoldsInstance owner kind instance
  pub links : (owner : tree.Module) (kind name : List ℕ) (links : tree.Links) (site : Site) → Stands (sites owner) (Instance kind name links) → Stands (link_sites kind links) site → Stands (sites owner) site
