-- The ports of kinds, as callers look them up.
use Rattle.std.specs.Prelude.{◌≡◌, ℕ, Bool, List, length, slice_get, Option, Some, None}
use Rattle.std.specs.Option.{option_map}
use Rattle.rsfq_ids.specs.declared.table.CellTable.{CellTable}
use Rattle.verilog_tree.specs.Trees.{Module}
use Rattle.bind_sites.specs.Sites.{Site, sites}
use Rattle.bind_sites.specs.Selects.{width_of}
use Rattle.bind_sites.specs.Scope.{IsPort}
use Rattle.bind_names.specs.declared.scope.Scope.{Scope}
use Rattle.bind_names.specs.Scoped.{IsFirstDouble}
use Rattle.bind_hierarchy.specs.declared.kinds.Meaning.{Meaning}
use Rattle.bind_hierarchy.specs.Names.{IsFirstPlace}
use Rattle.bind_hierarchy.specs.Modules.{Means}
use Rattle.bind_forms.specs.Modules.{Setting, HasPorts}
use Rattle.bind_forms.specs.Faults.{PortWidth}

-- how many ports a kind has
abbrev pub HasPortCount : Setting → List ℕ → ℕ → Type 0
HasPortCount setting kind count = (names : List (List ℕ)) × HasPorts setting kind names × (count ≡ length names)

-- the first place of a name among the ports of a kind
abbrev pub HasPortPlace : Setting → List ℕ → List ℕ → ℕ → Type 0
HasPortPlace setting kind name place = (names : List (List ℕ)) × HasPorts setting kind names × IsFirstPlace names name (Some place)

-- the name of the port at a place of a kind
abbrev pub HasPortAt : Setting → List ℕ → ℕ → List ℕ → Type 0
HasPortAt setting kind place name = (names : List (List ℕ)) × HasPorts setting kind names × (slice_get names place ≡ Some name)

-- the width of the port at a place of a kind
abbrev pub HasWidthAt : Setting → List ℕ → ℕ → ℕ → Type 0
HasWidthAt setting kind place width = (name : List ℕ) × HasPortAt setting kind place name × PortWidth setting kind name width

-- the width of a name among these sites by a direction of it, or that it has none
abbrev pub IsWidthOf : List Site → List ℕ → Option ℕ → Type 0
IsWidthOf all name None = (output : Bool) (range : Option (ℕ × ℕ)) → ¬ IsPort all name output range
IsWidthOf all name (Some width) = (output : Bool) × (range : Option (ℕ × ℕ)) × IsPort all name output range × (width ≡ width_of range)

-- the names in a module hold the first name that is given twice
abbrev pub HasFirstDouble : Module → Scope → Type 0
HasFirstDouble owner scope = IsFirstDouble (sites owner) (option_map (λ (at, name). (at, name.now)) scope.double)

-- a name has one meaning
abbrev pub KindsAreOne : Type 0
KindsAreOne = (modules : List Module) (table : CellTable) (name : List ℕ) (one other : Option Meaning) → Means modules table name one → Means modules table name other → one ≡ other

-- the ports of a kind are one list
abbrev pub PortsAreOne : Type 0
PortsAreOne = (setting : Setting) (kind : List ℕ) (one other : List (List ℕ)) → HasPorts setting kind one → HasPorts setting kind other → one ≡ other
