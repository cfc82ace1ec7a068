-- How far the literals of clauses go.
use Rattle.std.specs.Prelude.{ℕ, ◌+◌, ◌/◌, max, [], ◌∷◌}
use Rattle.rsfq_ids.specs.Formula.{Clause}

-- how many variables there are up to the greatest literal, counted from the first variable of all
abbrev pub vars_up_to : Clause → ℕ
vars_up_to [] = 0
vars_up_to (lit ∷ lits) = max (lit / 2 + 1) (vars_up_to lits)
