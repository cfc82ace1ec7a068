-- The numbers of a source: ranges and selects, by the sites where they stand.
use Rattle.std.specs.Prelude.{ℕ, ◌≤◌, List, Option, Some, None, ⊤}
use Rattle.std.specs.List.{All}
use Rattle.verilog_tree.specs.Trees.{Module}
use Rattle.verilog_tree.specs.Text.{IsSpelledTree}
use Rattle.bind_sites.specs.Sites.{Site, Port, Wire, Assigned, Linked, sites}

-- both ends are at most 999,999,999, where there are ends
abbrev pub AreSmall : Option (ℕ × ℕ) → Type 0
AreSmall None = ⊤
AreSmall (Some ends) = (ends.0 ≤ 999999999) × (ends.1 ≤ 999999999)

-- the range or the select at a site
abbrev pub HasSmall : Site → Type 0
HasSmall (Port name output range) = AreSmall range
HasSmall (Wire name range) = AreSmall range
HasSmall (Assigned operand) = AreSmall operand.select
HasSmall (Linked operand) = AreSmall operand.select
HasSmall _ = ⊤

-- The ranges and selects in a tree that some tokens spell are of small numbers.
abbrev pub NumbersAreSmall : Type 0
NumbersAreSmall = (tree : List Module) → IsSpelledTree tree → All (λ owner. All HasSmall (sites owner)) tree
