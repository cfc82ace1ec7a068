-- Marks of literals, and one literal more.
use Rattle.std.proofs.Common.{◌≡◌, ◌≢◌, ◌∙◌, ◌≤◌, ◌+◌, ◌*◌, ◌/◌, ◌%◌, ◌==◌, ℕ, Bool, true, false, zero, suc, refl, ap, sym, arith, List, [], ◌∷◌, ◌++◌, length-set, Some, Ok}
use Rattle.std.specs.Prelude.{slice_get, slice_set, replicate, ◌||◌}
use Rattle.std.proofs.lemmas.Bool.{eqb-true, eqb-false, eq-eqb, ne_eqb, le-ltb}
use Rattle.std.proofs.lemmas.List.{length-replicate}
use Rattle.std.proofs.lemmas.Option.{same_Some}
use Rattle.aiger_parts.specs.Reading.{number_at}
use Rattle.aiger_read.specs.Lines.{is_in, is_out, definition_at, AreMarks}

in_more : (xs : List ℕ) (y z : ℕ) → is_in (xs ++ y ∷ []) z ≡ (is_in xs z || (y == z))
in_more [] y z = go (y == z) where
  go : (b : Bool) → (b || false) ≡ (false || b)
  go true = refl
  go false = refl
in_more (x ∷ xs) y z = go (x == z) (in_more xs y z) where
  go : (b : Bool) → is_in (xs ++ y ∷ []) z ≡ (is_in xs z || (y == z)) → (b || is_in (xs ++ y ∷ []) z) ≡ ((b || is_in xs z) || (y == z))
  go true e = refl
  go false e = e

set_same : {A : Type 0} (xs : List A) (i : ℕ) (y x : A) → slice_get (slice_set xs i y) i ≡ Some x → y ≡ x
set_same [] i y x e = absurd cc
set_same (z ∷ xs) zero y x e = same_Some y x e
set_same (z ∷ xs) (suc i) y x e = set_same xs i y x e

set_other : {A : Type 0} (xs : List A) (i j : ℕ) (y : A) → i ≢ j → slice_get (slice_set xs i y) j ≡ slice_get xs j
set_other [] i j y ne = refl
set_other (x ∷ xs) zero zero y ne = absurd (ne refl)
set_other (x ∷ xs) zero (suc j) y ne = refl
set_other (x ∷ xs) (suc i) zero y ne = refl
set_other (x ∷ xs) (suc i) (suc j) y ne = set_other xs i j y (λ e. ne (ap suc e))

or_right : (a : Bool) → (a || true) ≡ true
or_right true = refl
or_right false = refl

or_none : (a : Bool) → (a || false) ≡ a
or_none true = refl
or_none false = refl

pub marks_put : (top literal : ℕ) (literals : List ℕ) (marks : List Bool) → AreMarks top literals marks → literal / 2 ≤ top → literal % 2 ≡ 0 → AreMarks top (literals ++ literal ∷ []) (slice_set marks (literal / 2) true)
marks_put top literal literals marks m le even = record {
  size = length-set marks (literal / 2) true ∙ m.size;
  each = λ variable mark is. each variable mark is (variable == literal / 2) refl;
} where
  each : (variable : ℕ) (mark : Bool) → slice_get (slice_set marks (literal / 2) true) variable ≡ Some mark → (t : Bool) → (variable == literal / 2) ≡ t → mark ≡ is_in (literals ++ literal ∷ []) (2 * variable)
  each variable mark is true e =
      let same : variable ≡ literal / 2 = eqb-true variable (literal / 2) e in
      let on : true ≡ mark = set_same marks (literal / 2) true mark (ap (slice_get (slice_set marks (literal / 2) true)) (sym same) ∙ is) in
      let here : (literal == 2 * variable) ≡ true = eq-eqb literal (2 * variable) (omega arith) in
      sym on ∙ sym (in_more literals literal (2 * variable) ∙ rw here (or_right (is_in literals (2 * variable))))
  each variable mark is false e =
      let ne : variable ≢ literal / 2 = eqb-false variable (literal / 2) e in
      let old = m.each variable mark (sym (set_other marks (literal / 2) variable true (λ s. ne (sym s))) ∙ is) in
      let apart : literal ≢ 2 * variable = λ s. ne (omega arith) in
      let there : (literal == 2 * variable) ≡ false = ne_eqb literal (2 * variable) apart in
      old ∙ sym (in_more literals literal (2 * variable) ∙ rw there (or_none (is_in literals (2 * variable))))

get_replicate : {A : Type 0} (n : ℕ) (x : A) (i : ℕ) (y : A) → slice_get (replicate n x) i ≡ Some y → x ≡ y
get_replicate zero x i y e = absurd cc
get_replicate (suc n) x zero y e = same_Some x y e
get_replicate (suc n) x (suc i) y e = get_replicate n x i y e

pub no_marks : (top : ℕ) → AreMarks top [] (replicate (top + 1) false)
no_marks top = record { size = length-replicate (top + 1) false; each = λ variable mark is. sym (get_replicate (top + 1) false variable mark is) }

pub not_out : (top literal : ℕ) → literal ≤ 2 * top + 1 → literal % 2 ≢ 1 → 2 ≤ literal → is_out top literal ≡ false
not_out top literal le even low = rw (le-ltb (2 * top + 1) literal le, ne_eqb (literal % 2) 1 even, le-ltb literal 2 low) refl

pub definition_ok : (top literal : ℕ) (defined bytes rest : List ℕ) → number_at bytes ≡ Ok (literal, rest) → is_out top literal ≡ false → is_in defined literal ≡ false → definition_at top defined bytes ≡ Ok (literal, rest)
unfolding definition_at
definition_ok top literal defined bytes rest read inside new = rw (read, inside, new) refl
