-- Files of both forms.
use Rattle.std.specs.Prelude.{◌≡◌, ℕ, ◌⊎◌, nat_eq, Bool, true, false, List}
use Rattle.std.specs.List.{starts_with}
use Rattle.golden_aig.specs.declared.graph.Aig.{Aig}
use Rattle.golden_aig.specs.Aig.{IsAig}
use Rattle.aiger_parts.specs.declared.fault.AigerWhy.TheVariants as why
use Rattle.aiger_parts.specs.declared.fault.AigerFault.{AigerFault}
use Rattle.aiger_parts.specs.declared.header.Form.TheVariants as form
use Rattle.aiger_parts.specs.Header.{word_of}
use Rattle.aiger_read.specs.Graph.{ReadsAs, IsBinaryFault}
use Rattle.aiger_read.specs.Text.{ListsAs, IsAsciiFault}
use Rattle.aiger_read.specs.Spelled.{Spelled}

-- the bytes are a file of the graph, read from the left, in the one form or the other
abbrev pub IsFileOf : List ℕ → Aig → Type 0
IsFileOf bytes aig = ListsAs bytes aig ⊎ ReadsAs bytes aig

-- the file begins as the ASCII form does
abbrev pub is_ascii : List ℕ → Bool
is_ascii bytes = starts_with nat_eq bytes (word_of form.Ascii)

-- the fault of the form that the file begins as; one that begins as neither is a binary file with a bad first line
abbrev pub IsFileFault : List ℕ → AigerFault → Type 0
IsFileFault bytes fault = (is_ascii bytes ≡ true → IsAsciiFault bytes fault) × (is_ascii bytes ≡ false → IsBinaryFault bytes fault)

-- memory ran out, or the bytes spell no graph, in neither form
abbrev pub SpellsNone : List ℕ → AigerFault → Type 0
SpellsNone bytes fault = (fault.why ≡ why.Memory) ⊎ ((aig : Aig) → Spelled bytes aig → ⊥)

-- a file read from the left is one that is spelled
abbrev pub FilesAreSpelled : Type 0
FilesAreSpelled = (bytes : List ℕ) (aig : Aig) → IsAig aig → (IsFileOf bytes aig → Spelled bytes aig) × (Spelled bytes aig → IsFileOf bytes aig)
