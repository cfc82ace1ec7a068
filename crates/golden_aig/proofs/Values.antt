-- The value of a variable does not depend on how deep the recursion may go.
use Rattle.std.proofs.Common.{◌≡◌, ℕ, zero, suc, ◌+◌, ◌-◌, ◌*◌, ◌/◌, ◌%◌, ◌<◌, ◌≤◌, ◌==◌, ◌≢◌, subst, length, Bool, true, false, cond, refl, sym, ◌∙◌, ap, ap₂, arith, add-one, List, [], ◌∷◌, Option, None, Some}
use Rattle.std.specs.Prelude.{nat_lt, not, ◌&&◌, slice_get, slice_index_or}
use Rattle.std.proofs.lemmas.Bool.{ltb-true, ltb-false, lt-ltb, le-ltb, eq-eqb, eqb-true, eqb-false}
use Rattle.golden_aig.specs.declared.graph.Aig.{Aig}
use Rattle.golden_aig.specs.declared.graph.And.{And}
use Rattle.golden_aig.specs.Aig.{IsAig, IsAndAt, variables_of}
use Rattle.golden_aig.specs.Golden.{literal_value, and_value, variable_value, value_within, value_of, golden, AreValues, AreGoldenValues, DetermineValues}

-- a literal's value goes by that of its variable
pub same_literal : (f g : ℕ → Bool) (l : ℕ) → f (l / 2) ≡ g (l / 2) → literal_value f l ≡ literal_value g l
same_literal f g l e = ap (λ (b : Bool). cond (l % 2 == 0) b (not b)) e

same_and : (f g : ℕ → Bool) (top : ℕ) (one : And) → one.rhs0 < top → one.rhs1 < top → ((v : ℕ) → 2 * v < top → f v ≡ g v)
    → and_value f (Some one) ≡ and_value g (Some one)
same_and f g top one lt0 lt1 e =
    ap₂ (λ (a b : Bool). a && b) (same_literal f g one.rhs0 (e (one.rhs0 / 2) (omega arith))) (same_literal f g one.rhs1 (e (one.rhs1 / 2) (omega arith)))

-- a variable's value goes by those of lower ones
pub same_variable : (aig : Aig) (word : List Bool) (f g : ℕ → Bool) (v : ℕ) → IsAig aig → ((w : ℕ) → w < v → f w ≡ g w) → variable_value aig word f v ≡ variable_value aig word g v
same_variable aig word f g zero ok e = refl
same_variable aig word f g (suc place) ok e = go (nat_lt place aig.inputs) refl where
  at : (o : Option And) → slice_get aig.ands (place - aig.inputs) ≡ o → aig.inputs ≤ place → and_value f o ≡ and_value g o
  at None is le = refl
  at (Some one) is le =
      let here : IsAndAt aig.inputs (place - aig.inputs) one = ok.ands (place - aig.inputs) one is in
      let top : one.lhs ≡ 2 * suc place = here.lhs ∙ omega arith in
      let lt0 = here.rhs0 in
      let lt1 = here.rhs1 in
      same_and f g one.lhs one lt0 lt1 (λ v lt. e v (omega arith))

  go : (b : Bool) → nat_lt place aig.inputs ≡ b → variable_value aig word f (suc place) ≡ variable_value aig word g (suc place)
  go true is = rw is refl
  go false is = rw is (at (slice_get aig.ands (place - aig.inputs)) refl (ltb-false place aig.inputs is))

-- deep enough is deep enough
pub same_depth : (n m : ℕ) (aig : Aig) (word : List Bool) (v : ℕ) → IsAig aig → v < n → v < m → value_within n aig word v ≡ value_within m aig word v
unfolding value_within
same_depth zero m aig word v ok n_ok m_ok = absurd (omega arith)
same_depth (suc n) zero aig word v ok n_ok m_ok = absurd (omega arith)
same_depth (suc n) (suc m) aig word v ok n_ok m_ok =
    same_variable aig word (value_within n aig word) (value_within m aig word) v ok (λ w lt. same_depth n m aig word w ok (omega arith) (omega arith))

-- a variable's value is what the values of lower ones make it
pub value_is : (aig : Aig) (word : List Bool) (v : ℕ) → IsAig aig → value_of aig word v ≡ variable_value aig word (value_of aig word) v
unfolding value_within value_of
value_is aig word v ok =
    same_variable aig word (value_within v aig word) (value_of aig word) v ok (λ w lt. same_depth v (suc w) aig word w ok lt (omega arith))

pub value_of_input : (aig : Aig) (word : List Bool) (place : ℕ) → IsAig aig → place < aig.inputs → value_of aig word (suc place) ≡ slice_index_or word place false
value_of_input aig word place ok lt = value_is aig word (suc place) ok ∙ rw (lt-ltb place aig.inputs lt) refl

pub value_of_and : (aig : Aig) (word : List Bool) (place : ℕ) (one : And) → IsAig aig → slice_get aig.ands place ≡ Some one
    → value_of aig word (suc (aig.inputs + place)) ≡ (literal_value (value_of aig word) one.rhs0 && literal_value (value_of aig word) one.rhs1)
value_of_and aig word place one ok is =
    let at : (aig.inputs + place) - aig.inputs ≡ place = omega arith in
    value_is aig word (suc (aig.inputs + place)) ok ∙ rw (le-ltb (aig.inputs + place) aig.inputs (omega arith), at, is) refl

even_half : (v : ℕ) → 2 * v / 2 ≡ v
even_half v = omega arith

even : (v : ℕ) → (2 * v % 2 == 0) ≡ true
even v = eq-eqb (2 * v % 2) 0 (omega arith)

odd_half : (v : ℕ) → (2 * v + 1) / 2 ≡ v
odd_half v = omega arith

odd : (v : ℕ) → ((2 * v + 1) % 2 == 0) ≡ false
odd v = rw one refl where
  one : (2 * v + 1) % 2 ≡ 1
  one = omega arith

-- an even literal has the value of its variable
pub even_value : (f : ℕ → Bool) (v : ℕ) → literal_value f (2 * v) ≡ f v
even_value f v = rw (even v, even_half v) refl

pub odd_value : (f : ℕ → Bool) (v : ℕ) → literal_value f (2 * v + 1) ≡ not (f v)
odd_value f v = rw (odd v, odd_half v) refl

pub are_values : (aig : Aig) (word : List Bool) → IsAig aig → AreGoldenValues aig word
unfolding golden
are_values aig word ok = record {
  constant = value_is aig word 0 ok;
  negation = λ v. odd_value (value_of aig word) v ∙ ap not (sym (even_value (value_of aig word) v));
  input = λ place lt. rw (add-one place) (even_value (value_of aig word) (suc place) ∙ value_of_input aig word place ok lt);
  both = λ place one is. ap (literal_value (value_of aig word)) (top place one is) ∙ (even_value (value_of aig word) (suc (aig.inputs + place)) ∙ value_of_and aig word place one ok is);
} where
  top : (place : ℕ) (one : And) → slice_get aig.ands place ≡ Some one → one.lhs ≡ 2 * suc (aig.inputs + place)
  top place one is =
      let here : IsAndAt aig.inputs place one = ok.ands place one is in
      here.lhs ∙ omega arith

-- ---- the equations determine the values

half_cases : (P : ℕ → Type 0) (l : ℕ) → (l % 2 ≡ 0 → P (2 * (l / 2))) → (l % 2 ≡ 1 → P (2 * (l / 2) + 1)) → P l
half_cases P l even_is odd_is = go (l % 2 == 0) refl where
  go : (b : Bool) → (l % 2 == 0) ≡ b → P l
  go true is =
      let rest : l % 2 ≡ 0 = eqb-true (l % 2) 0 is in
      let at : 2 * (l / 2) ≡ l = omega arith in
      subst P at (even_is rest)
  go false is =
      let ne : l % 2 ≢ 0 = eqb-false (l % 2) 0 is in
      let rest : l % 2 ≡ 1 = omega arith in
      let at : 2 * (l / 2) + 1 ≡ l = omega arith in
      subst P at (odd_is rest)

-- a literal of a variable whose even literals agree
same_at : (aig : Aig) (word : List Bool) (value : ℕ → Bool) (l : ℕ) → AreValues aig word value → AreGoldenValues aig word → value (2 * (l / 2)) ≡ golden aig word (2 * (l / 2)) → value l ≡ golden aig word l
same_at aig word value l one other e =
    half_cases (λ k. value k ≡ golden aig word k) l (λ _. e) (λ _. one.negation (l / 2) ∙ (ap not e ∙ sym (other.negation (l / 2))))

none_past : {X : Type 0} (xs : List X) (i : ℕ) → slice_get xs i ≡ None → length xs ≤ i
none_past [] i e = omega arith
none_past (x ∷ xs) zero e = absurd cc
none_past (x ∷ xs) (suc i) e = let le = none_past xs i e in omega arith

-- a variable agrees where the lower ones do
same_step : (aig : Aig) (word : List Bool) (value : ℕ → Bool) (place : ℕ) → IsAig aig → AreValues aig word value → AreGoldenValues aig word → ((v : ℕ) → v < suc place → value (2 * v) ≡ golden aig word (2 * v)) → suc place ≤ variables_of aig
    → value (2 * suc place) ≡ golden aig word (2 * suc place)
same_step aig word value place ok one other lower le = go (nat_lt place aig.inputs) refl where
  operand : (l : ℕ) → l / 2 < suc place → value l ≡ golden aig word l
  operand l lt = same_at aig word value l one other (lower (l / 2) lt)

  at : (o : Option And) → slice_get aig.ands (place - aig.inputs) ≡ o → aig.inputs ≤ place → value (2 * suc place) ≡ golden aig word (2 * suc place)
  at None is high =
      let past : length aig.ands ≤ place - aig.inputs = none_past aig.ands (place - aig.inputs) is in
      absurd (omega arith)
  at (Some gate) is high =
      let here : IsAndAt aig.inputs (place - aig.inputs) gate = ok.ands (place - aig.inputs) gate is in
      let top : gate.lhs ≡ 2 * suc place = here.lhs ∙ omega arith in
      let lt0 = here.rhs0 in
      let lt1 = here.rhs1 in
      let both : value gate.lhs ≡ golden aig word gate.lhs =
      one.both (place - aig.inputs) gate is ∙ (ap₂ (λ (a b : Bool). a && b) (operand gate.rhs0 (omega arith)) (operand gate.rhs1 (omega arith)) ∙ sym (other.both (place - aig.inputs) gate is)) in
      subst (λ (l : ℕ). value l ≡ golden aig word l) top both

  go : (b : Bool) → nat_lt place aig.inputs ≡ b → value (2 * suc place) ≡ golden aig word (2 * suc place)
  go true is =
      let inside : place < aig.inputs = ltb-true place aig.inputs is in
      subst (λ (p : ℕ). value (2 * p) ≡ golden aig word (2 * p)) (add-one place) (one.input place inside ∙ sym (other.input place inside))
  go false is = at (slice_get aig.ands (place - aig.inputs)) refl (ltb-false place aig.inputs is)

-- up to a variable, even literals agree
same_up_to : (n : ℕ) (aig : Aig) (word : List Bool) (value : ℕ → Bool) → IsAig aig → AreValues aig word value → AreGoldenValues aig word → (v : ℕ) → v < n → v ≤ variables_of aig → value (2 * v) ≡ golden aig word (2 * v)
same_up_to zero aig word value ok one other v lt le = absurd (omega arith)
same_up_to (suc n) aig word value ok one other zero lt le = one.constant ∙ sym other.constant
same_up_to (suc n) aig word value ok one other (suc place) lt le =
    same_step aig word value place ok one other (λ v below_top. same_up_to n aig word value ok one other v (omega arith) (omega arith)) le

pub determined : (aig : Aig) (word : List Bool) → IsAig aig → DetermineValues aig word
determined aig word ok value l one lt =
    same_at aig word value l one (are_values aig word ok) (same_up_to (suc (l / 2)) aig word value ok one (are_values aig word ok) (l / 2) (omega arith) (omega arith))
