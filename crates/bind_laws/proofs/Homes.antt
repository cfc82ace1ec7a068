-- What follows a site of a module, and what it belongs to.
use Rattle.std.specs.Prelude.{◌≡◌, ℕ, suc, ◌+◌, ◌<◌, List, ◌++◌, slice_get, Option, Some, ⊤}
use Rattle.std.specs.List.{flat_map}
use Rattle.verilog_tree.specs.Trees as tree
use Rattle.bind_sites.specs.Sites.{Operand, operands, Site, Listed, Assign, Instance as InstanceSite, Named, Ordered, Assigned, Linked, assign_sites, named_sites, ordered_sites, instance_sites, port_names, sites}
use Rattle.bind_sites.specs.Scope.{IsAt}
use Rattle.bind_forms.specs.Binds.{item_assigns, item_instances}
use Rattle.bind_laws.proofs.Standing.{IsPieceAt}

-- what follows a site: the links of an instance, the operands of a link, or those of an assign
abbrev pub IsFollowed : List Site → ℕ → Site → Type 0
IsFollowed all at (Assign to from) = IsPieceAt all at (assign_sites (to, from))
IsFollowed all at (InstanceSite kind name links) = IsPieceAt all at (instance_sites kind (record { name = name; links = links }))
IsFollowed all at (Named kind name expr) = IsPieceAt all at (named_sites kind (record { name = name; expr = expr }))
IsFollowed all at (Ordered kind place expr) = IsPieceAt all at (ordered_sites kind (place, expr))
IsFollowed all at _ = ⊤

-- no instance stands between two places
abbrev pub HasNoInstanceBetween : List Site → ℕ → ℕ → Type 0
HasNoInstanceBetween all low high = (between : ℕ) (kind name : List ℕ) (links : tree.Links) → low < between → between < high → ¬ IsAt all between (InstanceSite kind name links)

-- a link by name is one of the last instance before it
pub record IsNamedLink (all : List Site) (at : ℕ) (kind name : List ℕ) (expr : Option tree.Expr) : Type 0 where
  pub before : ℕ
  pub own : List ℕ
  pub links : List tree.NamedLink
  pub instance : IsAt all before (InstanceSite kind own (tree.Named links))
  pub earlier : before < at
  pub alone : HasNoInstanceBetween all before at
  pub place : ℕ
  pub listed : slice_get links place ≡ Some (record { name = name; expr = expr })

-- a link by order is one of the last instance before it, at its place
pub record IsOrderedLink (all : List Site) (at : ℕ) (kind : List ℕ) (place : ℕ) (expr : Option tree.Expr) : Type 0 where
  pub before : ℕ
  pub own : List ℕ
  pub links : List (Option tree.Expr)
  pub instance : IsAt all before (InstanceSite kind own (tree.Ordered links))
  pub earlier : before < at
  pub alone : HasNoInstanceBetween all before at
  pub listed : slice_get links place ≡ Some expr

-- an operand of an assign stands behind it, where its place among the operands says
pub record IsAssignOperand (all : List Site) (at : ℕ) (operand : Operand) : Type 0 where
  pub before : ℕ
  pub to : tree.Expr
  pub from : tree.Expr
  pub assign : IsAt all before (Assign to from)
  pub place : ℕ
  pub at_is : at ≡ suc (before + place)
  pub listed : slice_get (operands to ++ operands from) place ≡ Some operand

-- an operand of a link stands behind it, where its place among the operands says
pub data IsLinkOperand (all : List Site) (at : ℕ) (operand : Operand) : Type 0 where
  OfNamedLink : (before : ℕ) (kind name : List ℕ) (expr : tree.Expr) (place : ℕ) → IsAt all before (Named kind name (Some expr)) → at ≡ suc (before + place) → slice_get (operands expr) place ≡ Some operand → IsLinkOperand all at operand
  OfOrderedLink : (before : ℕ) (kind : List ℕ) (link : ℕ) (expr : tree.Expr) (place : ℕ) → IsAt all before (Ordered kind link (Some expr)) → at ≡ suc (before + place) → slice_get (operands expr) place ≡ Some operand → IsLinkOperand all at operand

-- what a site belongs to: a link to an instance, an operand to a link or an assign
abbrev pub HasHome : List Site → ℕ → Site → Type 0
HasHome all at (Named kind name expr) = IsNamedLink all at kind name expr
HasHome all at (Ordered kind place expr) = IsOrderedLink all at kind place expr
HasHome all at (Assigned operand) = IsAssignOperand all at operand
HasHome all at (Linked operand) = IsLinkOperand all at operand
HasHome all at _ = ⊤

-- Each link and each operand of a module belongs to something before it.
abbrev pub SitesHaveHomes : Type 0
SitesHaveHomes = (owner : tree.Module) (at : ℕ) (site : Site) → IsAt (sites owner) at site → HasHome (sites owner) at site

-- a listed port among the sites is one of the head, and an instance and an assign are those of an item
abbrev pub IsListed : tree.Module → Site → Type 0
IsListed owner (Listed name) = (k : ℕ) × (slice_get (port_names owner.head) k ≡ Some name)
IsListed owner (InstanceSite kind name links) = (k : ℕ) × (slice_get (flat_map item_instances owner.items) k ≡ Some (kind, record { name = name; links = links }))
IsListed owner (Assign to from) = (k : ℕ) × (slice_get (flat_map item_assigns owner.items) k ≡ Some (to, from))
IsListed owner _ = ⊤

-- Each listed port among the sites of a module is one of its head, and each instance and each assign one of its items.
abbrev pub SitesAreListed : Type 0
SitesAreListed = (owner : tree.Module) (at : ℕ) (site : Site) → IsAt (sites owner) at site → IsListed owner site
