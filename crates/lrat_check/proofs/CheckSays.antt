-- Additions, hints and deletions, piece by piece.
use Rattle.std.proofs.Common.{◌≡◌, ◌∙◌, ◌<◌, ◌+◌, ℕ, Bool, true, false, refl, sym, ap, ap₂, arith, drop, List, [], ◌∷◌, length, get_or, inl, inr, Option, Some, None, Result, add-one, drop-cons}
use Rattle.std.specs.Prelude.{◌==◌, ◌||◌, is_some, if◌then◌else◌}
use Rattle.std.specs.List.{list_any}
use Rattle.std.proofs.Math.Path.{fun_ext}
use Rattle.std.proofs.Math.Bool.{or-false}
use Rattle.std.proofs.lemmas.Bool.{lt-ltb}
use Rattle.std.proofs.lemmas.Bool.Decides.{eqb_tells}
use Rattle.rsfq_ids.specs.Formula.{Clause, opposite}
use Rattle.rsfq_ids.specs.declared.circuit.Cnf.{Cnf}
use Rattle.proof_arena.specs.Step.{is_among, reading, is_tautology}
use Rattle.dimacs_text.specs.Parts.{is_empty}
use Rattle.dimacs_text.specs.declared.number.Signed.{Signed}
use Rattle.lrat_check.specs.declared.fault.LratWhy.{LratWhy}
use Rattle.lrat_check.specs.declared.fault.LratWhy.TheVariants as why
use Rattle.lrat_table.specs.Found.{Found, given_at, with_clause, without_clause}
use Rattle.lrat_check.specs.Check.{Known, known_at_first, at_reading, at_clause, hints_fault, range_fault, clause_of, or_else, addition_fault, added, deleted, deleted_if}

-- the next of numbers
pub next_number : (xs : List Signed) (i : ℕ) (d : Signed) → i < length xs → drop i xs ≡ get_or xs i d ∷ drop (i + 1) xs
next_number xs i d lt = rw (add-one, drop-cons xs i d) refl

-- ---- additions

judged : ℕ → Known → List Signed → List Signed → Option LratWhy
judged vars known lits hints = or_else (range_fault vars lits) (if is_tautology (clause_of lits) then Some why.Tautology else hints_fault known.found (is_among (clause_of lits)) hints)

pub is_tautologous : (vars : ℕ) (known : Known) (id : ℕ) (lits hints : List Signed) → known.last < id → range_fault vars lits ≡ None → is_tautology (clause_of lits) ≡ true
    → addition_fault vars known id lits hints ≡ Some why.Tautology
is_tautologous vars known id lits hints lt range taut = rw (lt-ltb known.last id lt, range, taut) refl

pub is_judged : (vars : ℕ) (known : Known) (id : ℕ) (lits hints : List Signed) → known.last < id → range_fault vars lits ≡ None → is_tautology (clause_of lits) ≡ false
    → addition_fault vars known id lits hints ≡ hints_fault known.found (is_among (clause_of lits)) hints
is_judged vars known id lits hints lt range taut = rw (lt-ltb known.last id lt, range, taut) refl

-- marks that were cleared and then deny a clause
pub denied : (lits made : Clause) (marked cleared : ℕ → Bool) → made ≡ lits → marked ≡ (λ lit. is_among made lit || cleared lit) → cleared ≡ (λ _. false) → marked ≡ is_among lits
denied lits made marked cleared same is none =
    is ∙ ap (λ (f : ℕ → Bool). λ lit. is_among made lit || f lit) none ∙ fun_ext (λ lit. or-false (is_among made lit)) ∙ ap is_among same

pub told : (lits made : Clause) (marked : ℕ → Bool) (b : Bool) → made ≡ lits → marked ≡ is_among lits → b ≡ list_any (λ lit. marked (opposite lit)) made → is_tautology lits ≡ b
told lits made marked b same is any =
    sym (any ∙ ap (λ (f : ℕ → Bool). list_any (λ lit. f (opposite lit)) made) is ∙ ap (λ (c : Clause). list_any (λ lit. is_among lits (opposite lit)) c) same)

pub added_as : (known : Known) (found : Found) (id last : ℕ) (clause : Clause) (b : Bool) → found ≡ with_clause known.found id clause → last ≡ id → b ≡ (known.refuted || is_empty clause)
    → added known id clause ≡ record { found = found; last = last; refuted = b }
added_as known found id last clause b is same empty =
    ap₂ (λ (f : Found) (e : Bool). record { found = f; last = id; refuted = e }) (sym is) (sym empty) ∙ ap (λ n. record { found = found; last = n; refuted = b }) (sym same)

pub none_of : (lits : List Signed) → (length lits == 0) ≡ is_empty (clause_of lits)
none_of [] = refl
none_of (lit ∷ lits) = elim (eqb_tells (length (lit ∷ lits)) 0) [ inl t ↦ absurd (let e = t.1 in omega arith) | inr t ↦ t.0 ]

-- ---- hints

pub hint_read : (found : Found) (falses : ℕ → Bool) (hint : Signed) (hints : List Signed) (clause : Clause) → hint.negative ≡ false → Some clause ≡ found hint.size
    → hints_fault found falses (hint ∷ hints) ≡ at_reading hint.size falses (λ next. hints_fault found next hints) (reading falses clause)
hint_read found falses hint hints clause positive is =
    rw positive (ap (at_clause hint.size falses (λ next. hints_fault found next hints)) (sym is))

-- ---- deletions

deleted_so : (id : ℕ) (clause : Option Clause) (rest : Result Found LratWhy) → is_some clause ≡ true → deleted_if id clause rest ≡ rest
deleted_so id None rest is = absurd (let e : false ≡ true = is in cc)
deleted_so id (Some clause) rest is = refl

pub one_deleted : (found : Found) (id : Signed) (ids : List Signed) → is_some (found id.size) ≡ true → deleted found (id ∷ ids) ≡ deleted (without_clause found id.size) ids
one_deleted found id ids is = deleted_so id.size (found id.size) (deleted (without_clause found id.size) ids) is

-- ---- the first line

pub first_known : (cnf : Cnf) (found : Found) (count : ℕ) → found ≡ given_at cnf.clauses → count ≡ length cnf.clauses
    → record { found = found; last = count; refuted = false } ≡ known_at_first cnf
first_known cnf found count is size = ap₂ (λ (f : Found) (n : ℕ). record { found = f; last = n; refuted = false }) is size
