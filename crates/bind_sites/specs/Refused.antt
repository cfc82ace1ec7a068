-- When the names of a module are refused, whatever other modules there are: one predicate for each cause, over the site where it stands.
use Rattle.std.specs.Prelude.{◌≡◌, ◌≢◌, ◌⊎◌, ℕ, ◌<◌, Bool, List, Option, Some, None}
use Rattle.rsfq_ids.specs.declared.limits.TheConstants.{WIDTH_LIMIT}
use Rattle.verilog_tree.specs.Trees.{Expr, Links}
use Rattle.bind_sites.specs.Selects.{width_of, Selects}
use Rattle.bind_sites.specs.Sites.{Operand, Site, Listed, Port, Wire, Instance, Named, Assigned, Linked}
use Rattle.bind_sites.specs.Scope.{IsAt, StandsBefore, IsPort, IsKnown, HasRange}

-- two links by name of one port, with no other instance between them
pub record IsPortTwice (all : List Site) (at : ℕ) (name : List ℕ) : Type 0 where
  pub kind : List ℕ
  pub expr : Option Expr
  pub there : IsAt all at (Named kind name expr)
  pub earlier : ℕ
  pub before : earlier < at
  pub earlier_kind : List ℕ
  pub earlier_expr : Option Expr
  pub there_too : IsAt all earlier (Named earlier_kind name earlier_expr)
  pub together : (between : ℕ) (inner_kind inner_name : List ℕ) (links : Links) → earlier < between → between < at → ¬ IsAt all between (Instance inner_kind inner_name links)

-- An operand of an assign, or a select in a link, of a name that is neither declared nor made by a link.
pub data IsUnknownName (all : List Site) (at : ℕ) (name : List ℕ) : Type 0 where
  InAssign : (select : Option (ℕ × ℕ)) → IsAt all at (Assigned (record { name = name; select = select })) → ¬ IsKnown all name → IsUnknownName all at name
  InLink : (select : ℕ × ℕ) → IsAt all at (Linked (record { name = name; select = Some select })) → ¬ IsKnown all name → IsUnknownName all at name

-- a select that no bits of the range are: outside it, against its direction, or of a scalar
abbrev pub IsOutside : Option (ℕ × ℕ) → ℕ × ℕ → Type 0
IsOutside None select = Unit {0}
IsOutside (Some range) select = (bit count : ℕ) → ¬ Selects range select bit count

-- an operand stands at a place, in an assign or in a link
abbrev pub IsOperandAt : List Site → ℕ → Operand → Type 0
IsOperandAt all at operand = IsAt all at (Assigned operand) ⊎ IsAt all at (Linked operand)

-- A select outside the range of its name, or the later of a port's direction and its declaration as a wire, where the two have different ranges.
pub data IsOutOfRange (all : List Site) (at : ℕ) (name : List ℕ) : Type 0 where
  OfSelect : (select : ℕ × ℕ) (range : Option (ℕ × ℕ)) → IsOperandAt all at (record { name = name; select = Some select }) → HasRange all name range → IsOutside range select → IsOutOfRange all at name
  OfWire : (output : Bool) (range other : Option (ℕ × ℕ)) → IsAt all at (Wire name range) → StandsBefore all at (Port name output other) → range ≢ other → IsOutOfRange all at name
  OfPort : (output : Bool) (range other : Option (ℕ × ℕ)) → IsAt all at (Port name output range) → StandsBefore all at (Wire name other) → range ≢ other → IsOutOfRange all at name

-- a port that is wider than 4,096 bits
pub record IsTooWide (all : List Site) (at width : ℕ) : Type 0 where
  pub name : List ℕ
  pub output : Bool
  pub range : Option (ℕ × ℕ)
  pub there : IsAt all at (Listed name)
  pub port : IsPort all name output range
  pub width_is : width ≡ width_of range
  pub wide : WIDTH_LIMIT < width
