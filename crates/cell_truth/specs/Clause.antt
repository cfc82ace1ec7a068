-- How a formula holds a clause: no literal twice, and no clause that always holds.
use Rattle.std.specs.Prelude.{ℕ, ◌==◌, Bool, if◌then◌else◌, List, [], ◌∷◌, ◌++◌}
use Rattle.std.specs.List.{fold, list_any}
use Rattle.rsfq_ids.specs.Formula.{opposite}

-- a clause with one more literal, unless it has it already
abbrev pub with_literal : List ℕ → ℕ → List ℕ
with_literal clause literal = if list_any (λ kept. kept == literal) clause then clause else clause ++ literal ∷ []

-- the literals in order, each at its first place alone
abbrev pub once_each : List ℕ → List ℕ
once_each literals = fold with_literal [] literals

-- some literal stands beside its negation
abbrev pub has_both : List ℕ → Bool
has_both literals = list_any (λ literal. list_any (λ other. other == opposite literal) literals) literals

-- The clause of some literals as a formula holds it: none, where a literal stands beside its negation, for such a clause always holds.
abbrev pub written : List ℕ → List (List ℕ)
written literals = if has_both literals then [] else once_each literals ∷ []
