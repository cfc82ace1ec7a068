-- With which fault a source is refused.
use Rattle.std.specs.Prelude.{◌≡◌, ◌⊎◌, ℕ, List, ◌∷◌}
use Rattle.bind_forms.specs.declared.fault.BindFault.{BindFault}
use Rattle.bind_forms.specs.declared.fault.BindFault.TheVariants as fault
use Rattle.bind_forms.specs.Modules.{Setting}
use Rattle.bind_forms.specs.First.{HasNoFault, IsFirstFault}

-- two rings of modules, by their names, that begin with one module
pub record BeginAlike (why other : BindFault) : Type 0 where
  pub first : List ℕ
  pub names : List (List ℕ)
  pub others : List (List ℕ)
  pub why_is : why ≡ fault.Recursive (first ∷ names)
  pub other_is : other ≡ fault.Recursive (first ∷ others)

-- A source is refused with one fault, but that of several rings with one first module any may be answered; and with none where no cause stands.
abbrev pub FaultIsOne : Type 0
FaultIsOne = ((setting : Setting) (why other : BindFault) → IsFirstFault setting why → IsFirstFault setting other → (why ≡ other) ⊎ BeginAlike why other)
    × ((setting : Setting) (why : BindFault) → HasNoFault setting → ¬ IsFirstFault setting why)
