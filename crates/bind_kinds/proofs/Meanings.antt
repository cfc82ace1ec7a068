-- A name has one meaning, and what is meant has one list of ports.
use Rattle.std.proofs.Common.{◌≡◌, ◌⊎◌, inl, inr, ℕ, ◌<◌, List, Option, Some, None, refl, sym, ◌∙◌, ap, subst, arith}
use Rattle.std.specs.Prelude.{slice_get}
use Rattle.rsfq_ids.specs.declared.table.CellTable.{CellTable}
use Rattle.rsfq_ids.specs.declared.table.CellRow.{CellRow}
use Rattle.verilog_tree.specs.Trees.{Module}
use Rattle.bind_sites.specs.Sites.{port_names}
use Rattle.bind_hierarchy.specs.declared.kinds.Meaning.{Meaning}
use Rattle.bind_hierarchy.specs.declared.kinds.Meaning.TheVariants as meaning
use Rattle.bind_hierarchy.specs.Modules.{MeansModule, MeansCell, Means}
use Rattle.bind_forms.specs.WellFormed.{cell_ports}
use Rattle.bind_forms.specs.Modules.{Setting, HasPorts, OfModule, OfCell}
use Rattle.bind_kinds.specs.Ports.{KindsAreOne, PortsAreOne}

order : (a b : ℕ) → (a < b) ⊎ ((b < a) ⊎ (a ≡ b))
order a b = grind arith

pub one_module : (modules : List Module) (name : List ℕ) (a b : ℕ) → MeansModule modules name a → MeansModule modules name b → a ≡ b
one_module modules name a b h k = elim (order a b) [
  | inl lt ↦ absurd (k.1 a lt h.0)
  | inr rest ↦ elim rest [ inl gt ↦ absurd (h.1 b gt k.0) | inr same ↦ same ]
]

pub one_cell : (modules : List Module) (table : CellTable) (name : List ℕ) (a b : ℕ) → MeansCell modules table name a → MeansCell modules table name b → a ≡ b
one_cell modules table name a b h k = elim (order a b) [
  | inl lt ↦ absurd (k.2 a lt h.1)
  | inr rest ↦ elim rest [ inl gt ↦ absurd (h.2 b gt k.1) | inr same ↦ same ]
]

pub one_kind : KindsAreOne
one_kind modules table name None None h k = refl
one_kind modules table name None (Some (meaning.Module b)) h k = absurd (h.0 b k.0)
one_kind modules table name None (Some (meaning.Cell b)) h k = absurd (h.1 b k.1)
one_kind modules table name (Some (meaning.Module a)) None h k = absurd (k.0 a h.0)
one_kind modules table name (Some (meaning.Cell a)) None h k = absurd (k.1 a h.1)
one_kind modules table name (Some (meaning.Module a)) (Some (meaning.Module b)) h k = ap (λ (n : ℕ). Some (meaning.Module n)) (one_module modules name a b h k)
one_kind modules table name (Some (meaning.Module a)) (Some (meaning.Cell b)) h k = absurd (k.0 a h.0)
one_kind modules table name (Some (meaning.Cell a)) (Some (meaning.Module b)) h k = absurd (h.0 b k.0)
one_kind modules table name (Some (meaning.Cell a)) (Some (meaning.Cell b)) h k = ap (λ (n : ℕ). Some (meaning.Cell n)) (one_cell modules table name a b h k)

-- the ports of what is meant
abbrev pub PortsBy : Setting → Option Meaning → List (List ℕ) → Type 0
PortsBy setting None names = ⊥
PortsBy setting (Some (meaning.Module at)) names = (holder : Module) × (slice_get setting.modules at ≡ Some holder) × (names ≡ port_names holder.head)
PortsBy setting (Some (meaning.Cell row)) names = (cell : CellRow) × (slice_get setting.table.rows row ≡ Some cell) × (names ≡ cell_ports cell)

-- the meaning that a name with ports has
meaning_of : (setting : Setting) (kind : List ℕ) (names : List (List ℕ)) → HasPorts setting kind names → (one : Meaning) × Means setting.modules setting.table kind (Some one) × PortsBy setting (Some one) names
meaning_of setting kind names (OfModule at holder means there is) = (meaning.Module at, means, (holder, there, is))
meaning_of setting kind names (OfCell row cell means there is) = (meaning.Cell row, means, (cell, there, is))

pub ports_by : (setting : Setting) (kind : List ℕ) (one : Option Meaning) (names : List (List ℕ)) → Means setting.modules setting.table kind one → HasPorts setting kind names → PortsBy setting one names
ports_by setting kind one names means ports =
    let other = meaning_of setting kind names ports in
    subst (λ (m : Option Meaning). PortsBy setting m names) (one_kind setting.modules setting.table kind (Some other.0) one other.1 means) other.2

pub one_row : {A : Type 0} (rows : List A) (at : ℕ) (a b : A) → slice_get rows at ≡ Some a → slice_get rows at ≡ Some b → a ≡ b
one_row rows at a b h k = some_same (sym h ∙ k) where
  some_same : Some a ≡ Some b → a ≡ b
  some_same e = cc

one_by : (setting : Setting) (one : Option Meaning) (names others : List (List ℕ)) → PortsBy setting one names → PortsBy setting one others → names ≡ others
one_by setting None names others h k = absurd h
one_by setting (Some (meaning.Module at)) names others h k = h.2 ∙ ap (λ (m : Module). port_names m.head) (one_row setting.modules at h.0 k.0 h.1 k.1) ∙ sym k.2
one_by setting (Some (meaning.Cell row)) names others h k = h.2 ∙ ap cell_ports (one_row setting.table.rows row h.0 k.0 h.1 k.1) ∙ sym k.2

pub one_list : PortsAreOne
one_list setting kind names others h k =
    let one = meaning_of setting kind names h in
    one_by setting (Some one.0) names others one.2 (ports_by setting kind (Some one.0) others one.1 k)
