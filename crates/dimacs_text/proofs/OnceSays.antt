-- Each literal once, one literal at a time.
use Rattle.std.proofs.Common.{◌≡◌, ◌∙◌, ◌<◌, ◌+◌, ℕ, suc, true, false, refl, sym, ap, drop, List, [], ◌∷◌, ◌++◌, length, get_or, add-one, drop-cons}
use Rattle.std.specs.Prelude.{◌==◌}
use Rattle.std.specs.List.{list_any}
use Rattle.rsfq_ids.specs.Formula.{Clause}
use Rattle.dimacs_text.specs.Reading.{with_literal, with_literals}

pub with_old : (clause : Clause) (lit : ℕ) → list_any (λ other. lit == other) clause ≡ true → with_literal clause lit ≡ clause
with_old clause lit is = rw is refl

pub with_new : (clause : Clause) (lit : ℕ) → list_any (λ other. lit == other) clause ≡ false → with_literal clause lit ≡ clause ++ lit ∷ []
with_new clause lit is = rw is refl

pub one_literal : (clause next lits : Clause) (i lit : ℕ) → i < length lits → lit ≡ get_or lits i lit → with_literal clause lit ≡ next
    → with_literals clause (drop i lits) ≡ with_literals next (drop (i + 1) lits)
one_literal clause next lits i lit lt at is =
    let split : drop i lits ≡ lit ∷ drop (i + 1) lits = rw (add-one, drop-cons lits i lit) (ap (λ (l : ℕ). l ∷ drop (suc i) lits) (sym at)) in
    ap (with_literals clause) split ∙ ap (λ (c : Clause). with_literals c (drop (i + 1) lits)) is
