-- The clauses of a truth table hold together exactly where the output has the table's value.
use Rattle.std.proofs.Common.{◌≡◌, ◌∙◌, ℕ, zero, suc, ◌+◌, ◌*◌, ◌<◌, ◌≤◌, ◌/◌, ◌%◌, ◌^◌, ◌==◌, ◌||◌, ◌&&◌, Bool, true, false, not, cond, sym, refl, ap, arith, eqb-true, eq-eqb, add-zero, zero-add, append-nil, append_assoc, Result, Ok, Err, OnOk, subst, ◌↔◌, List, [], ◌∷◌, ◌++◌, map, length, take, get_or}
use Rattle.std.specs.Int.{bit_at}
use Rattle.std.specs.List.{All, enumerate_from, flat_map, list_all, range_with_len}
use Rattle.std.proofs.Math.Nat.{div-one, pow-suc}
use Rattle.std.proofs.lemmas.Bool.{eqb-false, ne_eqb}
use Rattle.std.proofs.lemmas.List.Folds.{list_all-append, list_any-append}
use Rattle.std.proofs.lemmas.List.Sums.{AllPass-from_list_all, list_all-from_AllPass}
use Rattle.std.proofs.lemmas.Nat.{shr-shr}
use Rattle.std.proofs.lemmas.List.{length-map, take_all}
use Rattle.rsfq_ids.specs.Run.{row_number}
use Rattle.rsfq_ids.specs.Formula.{Satisfies, value_of}
use Rattle.cell_truth.specs.Clause.{written}
use Rattle.cell_truth.specs.Truth.{digit, pin_literals, row_clause, signed, truth_clauses, truth_value}
use Rattle.cell_truth.proofs.ClauseLaws.{all_hold, holds, opposite_value, written_holds}

signed_true : (values : ℕ → Bool) (negative : Bool) (literal : ℕ) → value_of values (signed negative literal) ≡ cond negative (not (value_of values literal)) (value_of values literal)
signed_true values true literal = opposite_value values literal
signed_true values false literal = refl

-- a number and its half, against a bit and a number
halves : (x z : ℕ) (b : Bool) → (x == cond b 1 0 + 2 * z) ≡ (cond (x % 2 == 1) b (not b) && (x / 2 == z))
halves x z b = go (x % 2 == 1) refl (x / 2 == z) refl b
  where
    go : (odd : Bool) → (x % 2 == 1) ≡ odd → (half : Bool) → (x / 2 == z) ≡ half → (b : Bool) → (x == cond b 1 0 + 2 * z) ≡ (cond odd b (not b) && half)
    go true is true at true = let one = eqb-true (x % 2) 1 is in let two = eqb-true (x / 2) z at in eq-eqb _ _ (omega arith)
    go true is true at false = let one = eqb-true (x % 2) 1 is in ne_eqb _ _ (omega arith)
    go true is false at true = let other = eqb-false (x / 2) z at in ne_eqb _ _ (omega arith)
    go true is false at false = let other = eqb-false (x / 2) z at in ne_eqb _ _ (omega arith)
    go false is true at true = let one = eqb-false (x % 2) 1 is in ne_eqb _ _ (omega arith)
    go false is true at false = let one = eqb-false (x % 2) 1 is in let two = eqb-true (x / 2) z at in eq-eqb _ _ (omega arith)
    go false is false at true = let other = eqb-false (x / 2) z at in ne_eqb _ _ (omega arith)
    go false is false at false = let other = eqb-false (x / 2) z at in ne_eqb _ _ (omega arith)

pin_or_more : (odd here more : Bool) → (cond odd (not here) here || not more) ≡ not (cond odd here (not here) && more)
pin_or_more true true more = refl
pin_or_more true false more = refl
pin_or_more false true more = refl
pin_or_more false false more = refl

-- the literals of the pins are all false exactly at the row of the pins' values
pins_hold : (values : ℕ → Bool) (inputs : List ℕ) (from row : ℕ) → row / 2 ^ from < 2 ^ length inputs
    → holds values (map (λ (pin, literal). signed (bit_at row pin == 1) literal) (enumerate_from from inputs)) ≡ not (row / 2 ^ from == row_number (map (value_of values) inputs))
pins_hold values [] from row small = let none : row / 2 ^ from ≡ 0 = omega arith in rw none refl
pins_hold values (literal ∷ literals) from row small =
    let x : ℕ = row / 2 ^ from in
    let half : row / 2 ^ (from + 1) ≡ x / 2 = sym (shr-shr row from 1) in
    let double : 2 ^ suc (length literals) ≡ 2 ^ length literals * 2 = pow-suc 2 (length literals) in
    let less : row / 2 ^ (from + 1) < 2 ^ length literals = omega (arith, half, double, small) in
    let number : ℕ = row_number (map (value_of values) literals) in
    let odd : Bool = x % 2 == 1 in
    let here : Bool = value_of values literal in
    let rest : Bool = holds values (map (λ (pin, literal). signed (bit_at row pin == 1) literal) (enumerate_from (from + 1) literals)) in
    let later : rest ≡ not (x / 2 == number) = pins_hold values literals (from + 1) row less ∙ ap (λ y. not (y == number)) half in
    ap (λ b. b || rest) (signed_true values odd literal)
    ∙ (ap (λ b. cond odd (not here) here || b) later
    ∙ (pin_or_more odd here (x / 2 == number)
    ∙ ap not (sym (halves x number here))))

output_holds : (said here : Bool) → (cond (not said) (not here) here || false) ≡ cond said here (not here)
output_holds true true = refl
output_holds true false = refl
output_holds false true = refl
output_holds false false = refl

-- the clause of a row fails exactly where the pins have the row's bits and the output is not the row's digit
row_holds : (values : ℕ → Bool) (rows row output : ℕ) (inputs : List ℕ) → row < 2 ^ length inputs
    → holds values (row_clause rows inputs output row) ≡ (not (row == row_number (map (value_of values) inputs)) || cond (digit rows row) (value_of values output) (not (value_of values output)))
row_holds values rows row output inputs small =
    let number : ℕ = row_number (map (value_of values) inputs) in
    let pins : List ℕ = map (λ (pin, literal). signed (bit_at row pin == 1) literal) (enumerate_from 0 inputs) in
    let last : Bool = value_of values (signed (not (digit rows row)) output) in
    let whole : row / 1 ≡ row = div-one row in
    let less : row / 2 ^ 0 < 2 ^ length inputs = omega (arith, whole, small) in
    let first : holds values pins ≡ not (row == number) = pins_hold values inputs 0 row less ∙ ap (λ y. not (y == number)) whole in
    list_any-append (value_of values) pins (signed (not (digit rows row)) output ∷ [])
    ∙ (ap (λ b. b || (last || false)) first
    ∙ ap (λ b. not (row == number) || b)
    (ap (λ b. b || false) (signed_true values (not (digit rows row)) output) ∙ output_holds (digit rows row) (value_of values output)))

no_row : (wanted : ℕ) (asked : ℕ → Bool) (from count : ℕ) → wanted < from → list_all (λ row. not (row == wanted) || asked row) (range_with_len from count) ≡ true
no_row wanted asked from zero low = refl
no_row wanted asked from (suc count) low =
    let other : (from == wanted) ≡ false = ne_eqb from wanted (omega arith) in
    rw other (no_row wanted asked (from + 1) count (omega arith))

and_true : (b : Bool) → (b && true) ≡ b
and_true true = refl
and_true false = refl

-- of all rows but one nothing is asked
one_row : (wanted : ℕ) (asked : ℕ → Bool) (from count : ℕ) → from ≤ wanted → wanted < from + count
    → list_all (λ row. not (row == wanted) || asked row) (range_with_len from count) ≡ asked wanted
one_row wanted asked from zero low high = absurd (omega arith)
one_row wanted asked from (suc count) low high = go (from == wanted) refl (λ above. one_row wanted asked (from + 1) count above (omega arith))
  where
    rest : Bool
    rest = list_all (λ row. not (row == wanted) || asked row) (range_with_len (from + 1) count)

    go : (b : Bool) → (from == wanted) ≡ b → (from + 1 ≤ wanted → rest ≡ asked wanted) → ((not (from == wanted) || asked from) && rest) ≡ asked wanted
    go true is later =
        let here : from ≡ wanted = eqb-true from wanted is in
        let none : rest ≡ true = no_row wanted asked (from + 1) count (omega arith) in
        rw (is, none) (and_true (asked from) ∙ ap asked here)
    go false is later =
        let other = eqb-false from wanted is in
        rw is (later (omega arith))

-- the clauses of a list of rows, as they are written
rows_written : (values : ℕ → Bool) (clause : ℕ → List ℕ) (asked : ℕ → Bool) (from count : ℕ)
    → ((row : ℕ) → row < from + count → holds values (clause row) ≡ asked row)
    → all_hold values (flat_map (λ row. written (clause row)) (range_with_len from count)) ≡ list_all asked (range_with_len from count)
rows_written values clause asked from zero each = refl
rows_written values clause asked from (suc count) each =
    let here : all_hold values (written (clause from)) ≡ asked from = written_holds values (clause from) ∙ each from (omega arith) in
    let later = rows_written values clause asked (from + 1) count (λ row less. each row (omega arith)) in
    list_all-append (holds values) (written (clause from)) (flat_map (λ row. written (clause row)) (range_with_len (from + 1) count))
    ∙ (ap (λ b. b && all_hold values (flat_map (λ row. written (clause row)) (range_with_len (from + 1) count))) here ∙ ap (λ b. asked from && b) later)

number_small : (bits : List Bool) → row_number bits < 2 ^ length bits
number_small [] = omega arith
number_small (bit ∷ bits) =
    let double : 2 ^ suc (length bits) ≡ 2 ^ length bits * 2 = pow-suc 2 (length bits) in
    let less = number_small bits in
    let small : cond bit 1 0 ≤ 1 = elim bit as (λ b. cond b 1 0 ≤ 1) [ true ↦ omega arith | false ↦ omega arith ] in
    omega (arith, double, less, small)

-- all clauses of a table hold together exactly where the output has the table's value
pub truth_clauses_hold : (values : ℕ → Bool) (rows output : ℕ) (inputs : List ℕ)
    → all_hold values (truth_clauses rows (length inputs) inputs output)
    ≡ cond (truth_value values rows inputs) (value_of values output) (not (value_of values output))
truth_clauses_hold values rows output inputs =
    let bits : List Bool = map (value_of values) inputs in
    let same : length bits ≡ length inputs = length-map inputs (value_of values) in
    let small : row_number bits < 2 ^ length inputs = subst (λ n. row_number bits < 2 ^ n) same (number_small bits) in
    let asked : ℕ → Bool = λ row. cond (digit rows row) (value_of values output) (not (value_of values output)) in
    rows_written values (row_clause rows inputs output) (λ row. not (row == row_number bits) || asked row) 0 (2 ^ length inputs)
    (λ row less. row_holds values rows row output inputs (omega arith))
    ∙ one_row (row_number bits) asked 0 (2 ^ length inputs) (omega arith) (omega arith)

same_as : (said here : Bool) → cond said here (not here) ≡ true → here ≡ said
same_as true true e = refl
same_as true false e = cc
same_as false true e = cc
same_as false false e = refl

same_from : (said here : Bool) → here ≡ said → cond said here (not here) ≡ true
same_from true true e = refl
same_from true false e = cc
same_from false true e = cc
same_from false false e = refl

and_left : (a b : Bool) → (a && b) ≡ true → a ≡ true
and_left true b e = refl
and_left false b e = cc

and_right : (a b : Bool) → (a && b) ≡ true → b ≡ true
and_right true b e = e
and_right false b e = cc

-- the same of clauses to which those of a table are added
added_hold : (values : ℕ → Bool) (rows output pins : ℕ) (inputs : List ℕ) (old new : List (List ℕ)) → pins ≡ length inputs
    → new ≡ old ++ truth_clauses rows pins inputs output
    → (all_hold values new ≡ true) ↔ ((all_hold values old ≡ true) × (value_of values output ≡ truth_value values rows inputs))
added_hold values rows output pins inputs old new many is =
    let said : Bool = truth_value values rows inputs in
    let here : Bool = value_of values output in
    let split : all_hold values new ≡ (all_hold values old && cond said here (not here)) =
    ap (all_hold values) (is ∙ ap (λ n. old ++ truth_clauses rows n inputs output) many)
    ∙ (list_all-append (holds values) old (truth_clauses rows (length inputs) inputs output)
    ∙ ap (λ b. all_hold values old && b) (truth_clauses_hold values rows output inputs)) in (
      λ all. let both = sym split ∙ all in (and_left _ _ both, same_as said here (and_right (all_hold values old) (cond said here (not here)) both)),
      λ (first, same). split ∙ (ap (λ b. b && cond said here (not here)) first ∙ same_from said here same),
    )

-- the same of what satisfies each clause
pub added_satisfied : (values : ℕ → Bool) (rows output pins : ℕ) (inputs : List ℕ) (old new : List (List ℕ)) → pins ≡ length inputs
    → new ≡ old ++ truth_clauses rows pins inputs output
    → All (Satisfies values) new ↔ (All (Satisfies values) old × (value_of values output ≡ truth_value values rows inputs))
added_satisfied values rows output pins inputs old new many is =
    let both = added_hold values rows output pins inputs old new many is in (
      λ all. let (first, same) = both.0 (list_all-from_AllPass (holds values) new all) in (AllPass-from_list_all (holds values) old first, same),
      λ (first, same). AllPass-from_list_all (holds values) new (both.1 (list_all-from_AllPass (holds values) old first, same)),
    )

-- one more row of a list of rows
pub row_more : {X : Type 0} (f : ℕ → List X) (from count : ℕ) → flat_map f (range_with_len from (count + 1)) ≡ flat_map f (range_with_len from count) ++ f (from + count)
row_more f from zero = rw add-zero (append-nil (f from))
row_more f from (suc count) =
    let more : suc count + 1 ≡ suc (count + 1) = omega arith in
    let place : from + 1 + count ≡ from + suc count = omega arith in
    ap (λ n. flat_map f (range_with_len from n)) more
    ∙ (ap (λ rest. f from ++ rest) (row_more f (from + 1) count ∙ ap (λ n. flat_map f (range_with_len (from + 1) count) ++ f n) place)
    ∙ sym (append_assoc (f from) (flat_map f (range_with_len (from + 1) count)) (f (from + suc count))))

-- one more pin of a row's clause
pub pin_more : (row : ℕ) (inputs : List ℕ) (from pin d : ℕ) → pin < length inputs
    → map (λ (pin, literal). signed (bit_at row pin == 1) literal) (enumerate_from from (take (pin + 1) inputs))
    ≡ map (λ (pin, literal). signed (bit_at row pin == 1) literal) (enumerate_from from (take pin inputs)) ++ signed (bit_at row (from + pin) == 1) (get_or inputs pin d) ∷ []
pin_more row [] from pin d less = absurd (omega arith)
pin_more row (literal ∷ literals) from zero d less = rw add-zero refl
pin_more row (literal ∷ literals) from (suc pin) d less =
    let clause : List (ℕ × ℕ) → List ℕ = map (λ (pin, literal). signed (bit_at row pin == 1) literal) in
    let more : suc pin + 1 ≡ suc (pin + 1) = omega arith in
    let place : from + 1 + pin ≡ from + suc pin = omega arith in
    ap (λ n. clause (enumerate_from from (take n (literal ∷ literals)))) more
    ∙ ap (λ rest. signed (bit_at row from == 1) literal ∷ rest)
    (pin_more row literals (from + 1) pin d (omega arith)
    ∙ ap (λ n. clause (enumerate_from (from + 1) (take pin literals)) ++ signed (bit_at row n == 1) (get_or literals pin d) ∷ []) place)

-- a fact that follows of an answer that is good
pub on_ok : {T E : Type 0} {P Q : Type 0} → (r : Result T E) → (P → Q) → OnOk r P → OnOk r Q
on_ok (Ok x) f p = f p
on_ok (Err e) f p = p

-- the steps of the loop over the pins, and its end
pub pin_step : (row : ℕ) (inputs clause new : List ℕ) (pin d literal : ℕ) (set : Bool) → pin < length inputs
    → clause ≡ pin_literals row (take pin inputs) → set ≡ (bit_at row pin == 1) → literal ≡ signed set (get_or inputs pin d) → new ≡ clause ++ literal ∷ []
    → new ≡ pin_literals row (take (pin + 1) inputs)
pin_step row inputs clause new pin d literal set less so_far is_set is_literal is_new =
    let more = rw zero-add at (pin_more row inputs 0 pin d less) in
    is_new
    ∙ (ap (λ xs. xs ++ literal ∷ []) so_far
    ∙ (ap (λ l. pin_literals row (take pin inputs) ++ l ∷ []) (is_literal ∙ ap (λ b. signed b (get_or inputs pin d)) is_set) ∙ sym more))

pub whole_row : (rows row output pin last : ℕ) (inputs clause new : List ℕ) (said : Bool) → length inputs ≤ pin
    → clause ≡ pin_literals row (take pin inputs) → said ≡ digit rows row → last ≡ signed (not said) output → new ≡ clause ++ last ∷ []
    → new ≡ row_clause rows inputs output row
whole_row rows row output pin last inputs clause new said all so_far is_said is_last is_new =
    is_new
    ∙ (ap (λ xs. xs ++ last ∷ []) (so_far ∙ ap (pin_literals row) (take_all pin inputs all))
    ∙ ap (λ l. pin_literals row inputs ++ l ∷ []) (is_last ∙ ap (λ b. signed (not b) output) is_said))
