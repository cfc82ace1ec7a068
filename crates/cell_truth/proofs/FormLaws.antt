-- The clauses of a table have a formula's form: each literal once, and of the variables of the pins and of the output.
use Rattle.std.proofs.Common.{◌≡◌, ◌∙◌, ◌≢◌, ℕ, suc, ◌+◌, ◌-◌, ◌*◌, ◌<◌, ◌%◌, ◌^◌, ◌==◌, ◌||◌, Bool, true, false, not, cond, sym, refl, ap, subst, arith, eqb-true, List, [], ◌∷◌, ◌++◌, map, length, get_or, length-append, ⊎_elim}
use Rattle.std.specs.Int.{bit_at}
use Rattle.std.specs.List.{All, AllPairs, enumerate_from, flat_map, fold, list_any, range_with_len}
use Rattle.std.proofs.Math.Seq.{get_or-append_seam}
use Rattle.std.proofs.lemmas.Bool.{eqb-false}
use Rattle.std.proofs.lemmas.Bool.Decides.{leb_tells}
use Rattle.std.proofs.lemmas.List.{get_or_append_left}
use Rattle.std.proofs.lemmas.List.Elements.{All-append, All-cons, All-nil}
use Rattle.rsfq_ids.specs.Formula.{IsOver}
use Rattle.cell_truth.specs.Clause.{has_both, once_each, with_literal, written}
use Rattle.cell_truth.specs.Truth.{digit, pin_literals, row_clause, signed, truth_clauses}

-- no literal stands twice
abbrev pub HasOnce : List ℕ → Type 0
HasOnce clause = AllPairs (λ one other. one ≢ other) clause

or_first : (a b : Bool) → (a || b) ≡ false → a ≡ false
or_first true b e = cc
or_first false b e = refl

or_second : (a b : Bool) → (a || b) ≡ false → b ≡ false
or_second true b e = cc
or_second false b e = e

none_there : (xs : List ℕ) (x : ℕ) → list_any (λ y. y == x) xs ≡ false → All (λ y. y ≢ x) xs
none_there [] x e = All-nil (λ y. y ≢ x)
none_there (y ∷ ys) x e =
    All-cons (λ y. y ≢ x) y ys (eqb-false y x (or_first (y == x) (list_any (λ z. z == x) ys) e)) (none_there ys x (or_second (y == x) (list_any (λ z. z == x) ys) e))

push_once : (xs : List ℕ) (x : ℕ) → HasOnce xs → All (λ y. y ≢ x) xs → HasOnce (xs ++ x ∷ [])
push_once xs x once other i j d before there same =
    ⊎_elim
    (λ (_, late).
    let at : j ≡ length xs = omega (arith, length-append xs (x ∷ [])) in
    let last : get_or (xs ++ x ∷ []) j d ≡ x = ap (λ n. get_or (xs ++ x ∷ []) n d) at ∙ get_or-append_seam xs x [] d in
    other i d (omega arith) (sym (get_or_append_left xs (x ∷ []) d i (omega arith)) ∙ (same ∙ last)))
    (λ (_, early). once i j d before early (sym (get_or_append_left xs (x ∷ []) d i (omega arith)) ∙ (same ∙ get_or_append_left xs (x ∷ []) d j early)))
    (leb_tells (length xs) j)

step_once : (clause : List ℕ) (literal : ℕ) → HasOnce clause → HasOnce (with_literal clause literal)
step_once clause literal once = go (list_any (λ kept. kept == literal) clause) refl
  where
    go : (b : Bool) → list_any (λ kept. kept == literal) clause ≡ b → HasOnce (cond b clause (clause ++ literal ∷ []))
    go true is = once
    go false is = push_once clause literal once (none_there clause literal is)

fold_once : (literals clause : List ℕ) → HasOnce clause → HasOnce (fold with_literal clause literals)
fold_once [] clause once = once
fold_once (literal ∷ literals) clause once = fold_once literals (with_literal clause literal) (step_once clause literal once)

written_once : (literals : List ℕ) → All HasOnce (written literals)
written_once literals = go (has_both literals)
  where
    go : (b : Bool) → All HasOnce (cond b [] (once_each literals ∷ []))
    go true = All-nil HasOnce
    go false = All-cons HasOnce (once_each literals) [] (fold_once literals [] (λ i j d before there. absurd (omega arith))) (All-nil HasOnce)

fold_over : (vars : ℕ) (literals clause : List ℕ) → IsOver vars clause → IsOver vars literals → IsOver vars (fold with_literal clause literals)
fold_over vars [] clause kept over = kept
fold_over vars (literal ∷ literals) clause kept over =
    fold_over vars literals (with_literal clause literal) (go (list_any (λ kept. kept == literal) clause)) (λ k d less. over (suc k) d (omega arith))
  where
    go : (b : Bool) → IsOver vars (cond b clause (clause ++ literal ∷ []))
    go true = kept
    go false = All-append (λ lit. lit < 2 * vars) clause (literal ∷ []) kept (All-cons (λ lit. lit < 2 * vars) literal [] (over 0 literal (omega arith)) (All-nil (λ lit. lit < 2 * vars)))

written_over : (vars : ℕ) (literals : List ℕ) → IsOver vars literals → All (IsOver vars) (written literals)
written_over vars literals over = go (has_both literals)
  where
    go : (b : Bool) → All (IsOver vars) (cond b [] (once_each literals ∷ []))
    go true = All-nil (IsOver vars)
    go false = All-cons (IsOver vars) (once_each literals) [] (fold_over vars literals [] (All-nil (λ lit. lit < 2 * vars)) over) (All-nil (IsOver vars))

signed_over : (vars : ℕ) (negative : Bool) (literal : ℕ) → literal < 2 * vars → signed negative literal < 2 * vars
signed_over vars false literal less = less
signed_over vars true literal less = go (literal % 2 == 0) refl
  where
    go : (even : Bool) → (literal % 2 == 0) ≡ even → cond even (literal + 1) (literal - 1) < 2 * vars
    go true is = let half : literal % 2 ≡ 0 = eqb-true (literal % 2) 0 is in omega arith
    go false is = omega arith

pins_over : (vars row from : ℕ) (inputs : List ℕ) → IsOver vars inputs → IsOver vars (map (λ (pin, literal). signed (bit_at row pin == 1) literal) (enumerate_from from inputs))
pins_over vars row from [] over = All-nil (λ lit. lit < 2 * vars)
pins_over vars row from (literal ∷ literals) over =
    All-cons (λ lit. lit < 2 * vars) (signed (bit_at row from == 1) literal) (map (λ (pin, literal). signed (bit_at row pin == 1) literal) (enumerate_from (from + 1) literals))
    (signed_over vars (bit_at row from == 1) literal (over 0 literal (omega arith))) (pins_over vars row (from + 1) literals (λ k d less. over (suc k) d (omega arith)))

row_over : (vars rows row output : ℕ) (inputs : List ℕ) → IsOver vars inputs → output < 2 * vars → IsOver vars (row_clause rows inputs output row)
row_over vars rows row output inputs over less =
    All-append (λ lit. lit < 2 * vars) (pin_literals row inputs) (signed (not (digit rows row)) output ∷ []) (pins_over vars row 0 inputs over)
    (All-cons (λ lit. lit < 2 * vars) (signed (not (digit rows row)) output) [] (signed_over vars (not (digit rows row)) output less) (All-nil (λ lit. lit < 2 * vars)))

all_flat : {X Y : Type 0} (P : Y → Type 0) (f : X → List Y) (xs : List X) → ((x : X) → All P (f x)) → All P (flat_map f xs)
all_flat P f [] each = All-nil P
all_flat P f (x ∷ xs) each = All-append P (f x) (flat_map f xs) (each x) (all_flat P f xs each)

-- clauses to which those of a table are added
pub added_once : (rows output pins : ℕ) (inputs : List ℕ) (old new : List (List ℕ)) → new ≡ old ++ truth_clauses rows pins inputs output → All HasOnce old → All HasOnce new
added_once rows output pins inputs old new is once =
    subst (λ (clauses : List (List ℕ)). All HasOnce clauses) (sym is)
    (All-append HasOnce old (truth_clauses rows pins inputs output) once (all_flat HasOnce (λ row. written (row_clause rows inputs output row)) (range_with_len 0 (2 ^ pins)) (λ row. written_once (row_clause rows inputs output row))))

pub added_over : (vars rows output pins : ℕ) (inputs : List ℕ) (old new : List (List ℕ)) → new ≡ old ++ truth_clauses rows pins inputs output
    → IsOver vars inputs → output < 2 * vars → All (IsOver vars) old → All (IsOver vars) new
added_over vars rows output pins inputs old new is over less kept =
    subst (λ (clauses : List (List ℕ)). All (IsOver vars) clauses) (sym is)
    (All-append (IsOver vars) old (truth_clauses rows pins inputs output) kept
    (all_flat (IsOver vars) (λ row. written (row_clause rows inputs output row)) (range_with_len 0 (2 ^ pins)) (λ row. written_over vars (row_clause rows inputs output row) (row_over vars rows row output inputs over less))))
