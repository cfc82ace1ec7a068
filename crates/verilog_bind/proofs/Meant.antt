-- What kinds mean, and their ports.
use Rattle.std.proofs.Common.{inl, inr, ℕ, List, None, refl}
use Rattle.bind_forms.specs.declared.bound.BoundKind.{BoundKind}
use Rattle.bind_forms.specs.declared.bound.BoundKind.TheVariants as kind
use Rattle.bind_forms.specs.Modules.{Setting, HasPorts, OfModule, OfCell}
use Rattle.bind_forms.specs.Faults.{IsKind}
use Rattle.bind_forms.specs.Binds.{BindsKind}
use Rattle.bind_hierarchy.specs.Modules.{Means}

pub no_kind : (setting : Setting) (name : List ℕ) → Means setting.modules setting.table name None → ¬ IsKind setting name
no_kind setting name none is = elim is [ inl h ↦ none.0 h.0 h.1 | inr h ↦ none.1 h.0 h.1 ]

pub ports_of : (setting : Setting) (places : List ℕ) (name : List ℕ) (k : BoundKind) → BindsKind setting places name k → (names : List (List ℕ)) × HasPorts setting name names
ports_of setting places name (kind.Module number) h = (_, OfModule h.0 h.2.0.0 h.2 h.2.0.1 refl)
ports_of setting places name (kind.Cell row) h = (_, OfCell row h.1.0 h h.1.1 refl)
