-- Which module is the top.
use Rattle.std.specs.Prelude.{◌≡◌, ◌⊎◌, ℕ, ◌<◌, ◌≤◌, List, length, Option, Some, None}
use Rattle.verilog_tree.specs.Trees.{Module}
use Rattle.graph_rings.specs.Graph.{HasEdge}
use Rattle.bind_hierarchy.specs.declared.top.TopFault.{TopFault}
use Rattle.bind_hierarchy.specs.declared.top.TopFault.TheVariants as fault
use Rattle.bind_hierarchy.specs.Modules.{IsModuleNamed, MeansModule, Instantiates}

-- a module that no module instantiates
abbrev pub IsFree : List Module → ℕ → Type 0
IsFree modules at = (at < length modules) × ((outer : ℕ) → Instantiates modules outer at → ⊥)

-- the only one
abbrev pub IsOnlyFree : List Module → ℕ → Type 0
IsOnlyFree modules at = IsFree modules at × ((other : ℕ) → IsFree modules other → other ≡ at)

-- why there is no one module that no module instantiates: there is none, or these are the first two
abbrev pub IsFreeFault : List Module → TopFault → Type 0
IsFreeFault modules fault.NoTop = (at : ℕ) → IsFree modules at → ⊥
IsFreeFault modules (fault.TwoTops first second) = IsFree modules first × IsFree modules second × (first < second) × ((other : ℕ) → IsFree modules other → (other ≡ first) ⊎ (second ≤ other))
IsFreeFault modules fault.Memory = Unit {0}

-- the module that a name means, or that there is none
abbrev pub MeansNamed : List Module → List ℕ → Option ℕ → Type 0
MeansNamed modules name (Some at) = MeansModule modules name at
MeansNamed modules name None = (at : ℕ) → IsModuleNamed modules at name → ⊥

-- ---- the same over graphs, for the proofs

abbrev pub IsRoot : List (List ℕ) → ℕ → Type 0
IsRoot graph at = (at < length graph) × ((outer : ℕ) → HasEdge graph outer at → ⊥)

abbrev pub IsOnlyRoot : List (List ℕ) → ℕ → Type 0
IsOnlyRoot graph at = IsRoot graph at × ((other : ℕ) → IsRoot graph other → other ≡ at)

abbrev pub IsRootFault : List (List ℕ) → TopFault → Type 0
IsRootFault graph fault.NoTop = (at : ℕ) → IsRoot graph at → ⊥
IsRootFault graph (fault.TwoTops first second) = IsRoot graph first × IsRoot graph second × (first < second) × ((other : ℕ) → IsRoot graph other → (other ≡ first) ⊎ (second ≤ other))
IsRootFault graph fault.Memory = Unit {0}
