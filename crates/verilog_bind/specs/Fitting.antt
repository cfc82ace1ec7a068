-- Modules whose names are sound, and the operands in them.
use Rattle.std.specs.Prelude.{◌≡◌, ℕ, List, Option, Some, None}
use Rattle.std.specs.List.{All, AllZip}
use Rattle.bind_forms.specs.declared.bound.BoundWire.{BoundWire}
use Rattle.bind_forms.specs.declared.bound.BoundPart.{BoundPart}
use Rattle.bind_forms.specs.Binds.{BindsOperand}
use Rattle.bind_sites.specs.Selects.{width_of, Selects}
use Rattle.bind_sites.specs.Sites.{Operand, Site, Listed}
use Rattle.bind_sites.specs.Scope.{Stands, HasDirection}
use Rattle.bind_sites.specs.Refused.{IsUnknownName, IsOutOfRange, IsOperandAt}
use Rattle.bind_sites.specs.Small.{HasSmall}

-- No name is unknown and none out of range, each listed port has a direction and each direction a listed port, and the numbers are small.
pub record IsSound (all : List Site) : Type 0 where
  pub known : (at : ℕ) (name : List ℕ) → ¬ IsUnknownName all at name
  pub inside : (at : ℕ) (name : List ℕ) → ¬ IsOutOfRange all at name
  pub directed : (name : List ℕ) → Stands all (Listed name) → ¬ (¬ HasDirection all name)
  pub listed : (name : List ℕ) → HasDirection all name → ¬ (¬ Stands all (Listed name))
  pub small : All HasSmall all

-- an operand stands in an assign or in a link
abbrev pub IsUsed : List Site → Operand → Type 0
IsUsed all operand = (at : ℕ) × IsOperandAt all at operand

-- the bits that an operand takes of a wire of a range
abbrev pub AreBits : Option (ℕ × ℕ) → Option (ℕ × ℕ) → ℕ → ℕ → Type 0
AreBits range None bit count = (bit ≡ 0) × (count ≡ width_of range)
AreBits range (Some select) bit count = (ends : ℕ × ℕ) × (range ≡ Some ends) × Selects ends select bit count

-- the parts that operands are, in their order
abbrev pub AreParts : List BoundWire → List Operand → List BoundPart → Type 0
AreParts wires operands parts = AllZip (BindsOperand wires) operands parts
