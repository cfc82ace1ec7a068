-- The clauses of the golden circuit and of the differences, as equations of the values.
use Rattle.std.proofs.Common.{◌≡◌, ◌∙◌, ◌<◌, ◌≤◌, ◌+◌, ◌*◌, ◌/◌, ◌%◌, ℕ, zero, suc, Bool, true, false, not, refl, sym, ap, subst, arith, List, [], ◌∷◌, length, map, get_or, Some, inl, inr}
use Rattle.std.specs.Prelude.{◌&&◌, nat_lt, slice_get, slice_index_or}
use Rattle.std.specs.List.{All, list_any, flat_map, range_with_len}
use Rattle.std.proofs.lemmas.Bool.{cases_Bool, lt-ltb, le-ltb}
use Rattle.std.proofs.lemmas.List.Elements.{All-nil, All-append}
use Rattle.std.proofs.lemmas.Option.{slice_get_within, get_or_from_slice_get}
use Rattle.rsfq_ids.specs.Formula.{Clause, value_of, Satisfies}
use Rattle.golden_aig.specs.declared.graph.Aig.{Aig}
use Rattle.golden_aig.specs.declared.graph.And.{And}
use Rattle.golden_aig.specs.Aig.{IsAig, IsAndAt, variables_of}
use Rattle.golden_aig.specs.Golden.{golden, AreValues}
use Rattle.miter_cnf.specs.declared.made.Sorts.{Sorts}
use Rattle.miter_cnf.specs.Miter.{constant_of, golden_variable, golden_literal, and_clauses, differ_clauses, differ_clauses_of}
use Rattle.miter_cnf.proofs.Literals.{no_true, even_value, odd_value, and_means, means_and, or_right, all_first, all_second}
use Rattle.miter_cnf.proofs.Along.{flat_at, all_flat}

-- ---- the numbers of golden variables

pub input_number : (sorts : Sorts) (place : ℕ) → place < sorts.inputs → golden_variable sorts (suc place) ≡ place
input_number sorts place lt = let is : nat_lt place sorts.inputs ≡ true = lt-ltb place sorts.inputs lt in rw is refl

pub and_number : (sorts : Sorts) (place : ℕ) → sorts.inputs ≤ place → golden_variable sorts (suc place) ≡ place + sorts.cells
and_number sorts place le = let is : nat_lt place sorts.inputs ≡ false = le-ltb place sorts.inputs le in rw is refl

pub golden_even : (sorts : Sorts) (var : ℕ) → golden_literal sorts (2 * var) ≡ 2 * golden_variable sorts var
golden_even sorts var =
    let half : (2 * var) / 2 ≡ var = omega arith in
    let rest : (2 * var) % 2 ≡ 0 = omega arith in
    let none : 2 * golden_variable sorts var + 0 ≡ 2 * golden_variable sorts var = omega arith in
    rw (half, rest) none

pub golden_odd : (sorts : Sorts) (var : ℕ) → golden_literal sorts (2 * var + 1) ≡ 2 * golden_variable sorts var + 1
golden_odd sorts var =
    let half : (2 * var + 1) / 2 ≡ var = omega arith in
    let rest : (2 * var + 1) % 2 ≡ 1 = omega arith in
    rw (half, rest) refl

pub golden_even_value : (sorts : Sorts) (values : ℕ → Bool) (var : ℕ) → value_of values (golden_literal sorts (2 * var)) ≡ values (golden_variable sorts var)
golden_even_value sorts values var = ap (value_of values) (golden_even sorts var) ∙ even_value values (golden_variable sorts var)

pub golden_odd_value : (sorts : Sorts) (values : ℕ → Bool) (var : ℕ) → value_of values (golden_literal sorts (2 * var + 1)) ≡ not (values (golden_variable sorts var))
golden_odd_value sorts values var = ap (value_of values) (golden_odd sorts var) ∙ odd_value values (golden_variable sorts var)

-- the literal that an AND makes is positive
pub made_literal : (sorts : Sorts) (inputs place : ℕ) (one : And) → IsAndAt inputs place one → golden_literal sorts one.lhs ≡ 2 * golden_variable sorts (one.lhs / 2)
made_literal sorts inputs place one at =
    let lhs = at.lhs in
    let rest : one.lhs % 2 ≡ 0 = omega (arith, lhs) in
    let none : 2 * golden_variable sorts (one.lhs / 2) + 0 ≡ 2 * golden_variable sorts (one.lhs / 2) = omega arith in
    rw rest none

pub made_variable : (inputs place : ℕ) (one : And) → IsAndAt inputs place one → one.lhs / 2 ≡ suc (inputs + place)
made_variable inputs place one at = let lhs = at.lhs in omega (arith, lhs)

-- ---- the equations

pub equations : (sorts : Sorts) (aig : Aig) (values : ℕ → Bool) (word : List Bool) → IsAig aig → sorts.inputs ≡ aig.inputs
    → ((place : ℕ) → place < aig.inputs → values place ≡ slice_index_or word place false) → values (constant_of sorts) ≡ false
    → All (Satisfies values) (flat_map (and_clauses sorts) aig.ands) → AreValues aig word (λ lit. value_of values (golden_literal sorts lit))
equations sorts aig values word fits many inputs constant ands = record {
  constant = golden_even_value sorts values 0 ∙ constant;
  negation = λ var. golden_odd_value sorts values var ∙ ap not (sym (golden_even_value sorts values var));
  input = λ place lt.
      let next : place + 1 ≡ suc place = omega arith in
      golden_even_value sorts values (place + 1)
      ∙ (ap (λ v. values (golden_variable sorts v)) next
      ∙ (ap values (input_number sorts place (omega (arith, lt, many))) ∙ inputs place lt));
  both = λ place one at.
      let lt = slice_get_within aig.ands place one at in
      let here : get_or aig.ands place one ≡ one = get_or_from_slice_get aig.ands place one one at in
      let held = subst (λ (a : And). All (Satisfies values) (and_clauses sorts a)) here (flat_at (and_clauses sorts) (Satisfies values) aig.ands place one lt ands) in
      ap (value_of values) (made_literal sorts aig.inputs place one (fits.ands place one at))
      ∙ and_means values (2 * golden_variable sorts (one.lhs / 2)) (golden_literal sorts one.rhs0) (golden_literal sorts one.rhs1) held;
}

-- values of the golden variables satisfy the clauses of the ANDs
pub ands_satisfied : (sorts : Sorts) (aig : Aig) (values : ℕ → Bool) (word : List Bool) → IsAig aig → AreValues aig word (golden aig word)
    → ((lit : ℕ) → lit < 2 * (variables_of aig + 1) → value_of values (golden_literal sorts lit) ≡ golden aig word lit) → All (Satisfies values) (flat_map (and_clauses sorts) aig.ands)
ands_satisfied sorts aig values word fits are same =
    all_flat (and_clauses sorts) (Satisfies values) aig.ands (λ place d lt.
    let one = get_or aig.ands place d in
    let at : slice_get aig.ands place ≡ Some one = there aig.ands place d lt in
    let is = fits.ands place one at in
    let lhs = is.lhs in
    let first = is.rhs0 in
    let second = is.rhs1 in
    means_and values (2 * golden_variable sorts (one.lhs / 2)) (golden_literal sorts one.rhs0) (golden_literal sorts one.rhs1)
    (ap (value_of values) (sym (made_literal sorts aig.inputs place one is)) ∙ same one.lhs (omega (arith, lhs, lt)) ∙ are.both place one at
    ∙ both (value_of values (golden_literal sorts one.rhs0)) (golden aig word one.rhs0) (value_of values (golden_literal sorts one.rhs1)) (golden aig word one.rhs1)
    (same one.rhs0 (omega (arith, lhs, lt, first))) (same one.rhs1 (omega (arith, lhs, lt, second)))))
  where
    there : (ands : List And) (k : ℕ) (d : And) → k < length ands → slice_get ands k ≡ Some (get_or ands k d)
    there [] k d lt = absurd (omega arith)
    there (a ∷ ands) zero d lt = refl
    there (a ∷ ands) (suc k) d lt = there ands k d (omega arith)

    both : (a b c e : Bool) → a ≡ b → c ≡ e → (b && e) ≡ (a && c)
    both a b c e one two = rw (one, two) refl

-- ---- differences, output by output

pub differ_at : (P : Clause → Type 0) (first : ℕ) (nets golden : List ℕ) (k n g : ℕ) → slice_get nets k ≡ Some n → slice_get golden k ≡ Some g → All P (differ_clauses first nets golden)
    → All P (differ_clauses_of (2 * (first + k)) n g)
differ_at P first [] golden k n g net lit all = cc
differ_at P first (x ∷ nets) [] k n g net lit all = cc
differ_at P first (x ∷ nets) (y ∷ golden) zero n g net lit all =
    let one : x ≡ n = cc in
    let two : y ≡ g = cc in
    let place : first ≡ first + 0 = omega arith in
    subst (λ f. All P (differ_clauses_of (2 * f) n g)) place
    (subst (λ a. All P (differ_clauses_of (2 * first) a g)) one (subst (λ b. All P (differ_clauses_of (2 * first) x b)) two (all_first P (differ_clauses_of (2 * first) x y) (differ_clauses (first + 1) nets golden) all)))
differ_at P first (x ∷ nets) (y ∷ golden) (suc k) n g net lit all =
    let place : first + 1 + k ≡ first + suc k = omega arith in
    subst (λ f. All P (differ_clauses_of (2 * f) n g)) place (differ_at P (first + 1) nets golden k n g net lit (all_second P (differ_clauses_of (2 * first) x y) (differ_clauses (first + 1) nets golden) all))

pub all_differ : (P : Clause → Type 0) (first : ℕ) (nets golden : List ℕ)
    → ((k n g : ℕ) → slice_get nets k ≡ Some n → slice_get golden k ≡ Some g → All P (differ_clauses_of (2 * (first + k)) n g)) → All P (differ_clauses first nets golden)
all_differ P first [] golden each = All-nil P
all_differ P first (x ∷ nets) [] each = All-nil P
all_differ P first (x ∷ nets) (y ∷ golden) each =
    let place : first + 0 ≡ first = omega arith in
    All-append P (differ_clauses_of (2 * first) x y) (differ_clauses (first + 1) nets golden)
    (subst (λ f. All P (differ_clauses_of (2 * f) x y)) place (each 0 x y refl refl))
    (all_differ P (first + 1) nets golden (λ k n g net lit.
    let more : first + suc k ≡ first + 1 + k = omega arith in
    subst (λ f. All P (differ_clauses_of (2 * f) n g)) more (each (suc k) n g net lit)))

-- ---- some difference is 1

pub some_one : (values : ℕ → Bool) (first count : ℕ) → list_any (value_of values) (map (λ v. 2 * v) (range_with_len first count)) ≡ true → (k : ℕ) × (k < count) × (values (first + k) ≡ true)
some_one values first zero is = no_true is
some_one values first (suc count) is = elim (cases_Bool (value_of values (2 * first))) [
  | inl so ↦ (let here : first + 0 ≡ first = omega arith in (0, omega arith, ap values here ∙ sym (even_value values first) ∙ so))
  | inr not_so ↦
      (let rest = some_one values (first + 1) count (or_right _ _ not_so is) in
      let here : first + suc rest.0 ≡ first + 1 + rest.0 = omega arith in
      (suc rest.0, (let lt = rest.1 in omega arith), ap values here ∙ rest.2))
]

pub one_some : (values : ℕ → Bool) (first count k : ℕ) → k < count → values (first + k) ≡ true → list_any (value_of values) (map (λ v. 2 * v) (range_with_len first count)) ≡ true
one_some values first zero k lt is = absurd (omega arith)
one_some values first (suc count) zero lt is =
    let here : first ≡ first + 0 = omega arith in
    let so : value_of values (2 * first) ≡ true = even_value values first ∙ ap values here ∙ is in
    rw so refl
one_some values first (suc count) (suc k) lt is =
    let here : first + 1 + k ≡ first + suc k = omega arith in
    let rest = one_some values (first + 1) count k (omega arith) (ap values here ∙ is) in
    elim (cases_Bool (value_of values (2 * first))) [ inl e ↦ rw e refl | inr e ↦ rw e rest ]
