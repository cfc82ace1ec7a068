-- Why there is no top.
use Rattle.std.specs.Prelude.{ℕ}
use Rattle.bind_forms.specs.declared.fault.BindFault.{BindFault}
use Rattle.bind_forms.specs.Modules.{Setting, IsTop}
use Rattle.bind_forms.specs.First.{Tops}
use Rattle.bind_faults.specs.Order.{IsFirstAt}

-- there is no top, for this cause
pub record IsTopless (setting : Setting) (why : BindFault) : Type 0 where
  pub none : (top : ℕ) → ¬ IsTop setting top
  pub fault : IsFirstAt Tops setting why
