-- The greatest variable of clauses one by one.
use Rattle.std.proofs.Common.{◌≡◌, ◌∙◌, ◌<◌, ◌+◌, ℕ, max, suc, sym, ap, arith, drop, List, [], ◌∷◌, ◌++◌, length, get_or, add-one, drop-cons, length-append}
use Rattle.std.specs.List.{concat}
use Rattle.rsfq_ids.specs.Formula.{Clause}
use Rattle.lrat_check.specs.Reached.{vars_up_to}

joined : (one other : Clause) → vars_up_to (one ++ other) ≡ max (vars_up_to one) (vars_up_to other)
joined [] other = let none : max 0 (vars_up_to other) ≡ vars_up_to other = omega arith in omega (arith, none)
joined (lit ∷ lits) other = let rest = joined lits other in omega (arith, rest)

-- what the clauses from a place on hold, by the first of them and those behind it
pub record IsSplit (xs : List Clause) (i : ℕ) (first : Clause) : Type 0 where
  pub count : length (concat (drop i xs)) ≡ length first + length (concat (drop (i + 1) xs))
  pub vars : vars_up_to (concat (drop i xs)) ≡ max (vars_up_to first) (vars_up_to (concat (drop (i + 1) xs)))

pub split_first : (xs : List Clause) (i : ℕ) (first : Clause) → i < length xs → first ≡ get_or xs i first → IsSplit xs i first
split_first xs i first lt is =
    let next : drop i xs ≡ first ∷ drop (i + 1) xs = rw (add-one, drop-cons xs i first) (ap (λ (clause : Clause). clause ∷ drop (suc i) xs) (sym is)) in record {
      count = ap (λ (clauses : List Clause). length (concat clauses)) next ∙ length-append first (concat (drop (i + 1) xs));
      vars = ap (λ (clauses : List Clause). vars_up_to (concat clauses)) next ∙ joined first (concat (drop (i + 1) xs));
    }
