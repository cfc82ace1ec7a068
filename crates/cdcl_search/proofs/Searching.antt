-- What the turns of a search do.
use Rattle.std.proofs.Common.{◌≡◌, ◌∙◌, ◌<◌, ◌≤◌, ◌+◌, ◌*◌, ◌-◌, ◌/◌, ◌%◌, ◌⊎◌, inl, inr, zero, suc, ℕ, Bool, true, false, refl, sym, ap, subst, arith, List, [], ◌∷◌, ◌++◌, length, append_assoc, append-nil, length-append, not}
use Rattle.std.specs.Prelude.{◌≢◌, ◌==◌, Option, Some, None, is_some, MatchOption, slice_get}
use Rattle.std.specs.List.{All, list_any, slice_index_or}
use Rattle.std.proofs.Math.Nat.{suc-mul, zero-mul}
use Rattle.std.proofs.lemmas.Bool.{cases_lt, cases_eq, eqb-true, eq-eqb, ne_eqb, or_cases, or_left, or_right}
use Rattle.std.proofs.lemmas.Option.{MatchOption-at_some, MatchOption-at_none, slice_get-get_or}
use Rattle.std.proofs.lemmas.List.{length_push, length-map, get_or_append_left, get_or_push}
use Rattle.std.proofs.lemmas.List.Elements.{All-head, All-tail}
use Rattle.rsfq_ids.specs.Formula.{Clause, opposite, value_of, Satisfies, IsOver}
use Rattle.proof_arena.specs.Log.{Log, LogStep, HasEnded, clauses_of, lits_of}
use Rattle.proof_arena.specs.Step.{is_among}
use Rattle.cdcl_core.specs.declared.trail.TrueLit.{TrueLit}
use Rattle.cdcl_core.specs.Trail.{level_in, is_true, level_of, IsFree, IsQuiet}
use Rattle.cdcl_core.specs.Search.{Search, IsNew, HasLearnt}
use Rattle.cdcl_search.specs.Learnt.{AreNew, IsSolution}
use Rattle.cdcl_search.specs.declared.search.Turn.{Turn}
use Rattle.cdcl_search.specs.declared.search.Turn.TheVariants.{Goes, Solved, Closes, Spent}
use Rattle.cdcl_search.specs.Turns.{work_of, HasValue, HasValues, IsRead, IsTurned}

-- one more new step
pub new_pushed : (before : List Clause) (steps : List LogStep) (s : LogStep) → AreNew before steps → s.lits ≢ [] → IsNew (before ++ lits_of steps) s.lits → AreNew before (steps ++ s ∷ [])
new_pushed before [] s all some new = (some, (subst (λ (b : List Clause). IsNew b s.lits) (append-nil before) new, tt))
new_pushed before (x ∷ xs) s all some new = (
  all.0,
  (
    all.1.0,
    new_pushed (before ++ x.lits ∷ []) xs s all.1.1 some (subst (λ (b : List Clause). IsNew b s.lits) (sym (append_assoc before (x.lits ∷ []) (lits_of xs))) new),
  ),
)

pub learnt_some : (trail : List TrueLit) (learnt : Clause) (back : ℕ) → HasLearnt trail learnt back → learnt ≢ []
learnt_some trail [] back l e = l
learnt_some trail (first ∷ others) back l e = cc

pub learnt_lower : (trail : List TrueLit) (learnt : Clause) (back : ℕ) → HasLearnt trail learnt back → back < level_of trail
learnt_lower trail [] back l = absurd l
learnt_lower trail (first ∷ others) back l = l.lower

less : (a b m x y : ℕ) → a < b → x < m → a * m + x < b * m + y
less zero (suc b) m x y l h =
    let big = suc-mul b m in
    let none = zero-mul m in
    omega (arith, big, none)
less (suc a) (suc b) m x y l h =
    let rest : a * m + x < b * m + y = less a b m x y (omega arith) h in
    let one = suc-mul a m in
    let two = suc-mul b m in
    omega (arith, one, two)
less zero zero m x y l h = absurd (omega arith)
less (suc a) zero m x y l h = absurd (omega arith)

-- a clause more is less work
pub work_learnt : (budget : ℕ) (old new : Search) → new.log.vars ≡ old.log.vars → length new.log.steps ≡ length old.log.steps + 1 → length old.log.steps < budget → work_of budget new < work_of budget old
work_learnt budget old new vars steps low =
    let V = old.log.vars in
    let first : budget - length new.log.steps < budget - length old.log.steps = omega arith in
    let l : (budget - length new.log.steps) * (V + 1) + (V - length new.trail) < (budget - length old.log.steps) * (V + 1) + (V - length old.trail) =
    less (budget - length new.log.steps) (budget - length old.log.steps) (V + 1) (V - length new.trail) (V - length old.trail) first (omega arith) in
    subst (λ v. (budget - length new.log.steps) * (v + 1) + (v - length new.trail) < work_of budget old) (sym vars) l

-- and so is a true literal more
pub work_decided : (budget : ℕ) (old new : Search) → new.log ≡ old.log → length old.trail < length new.trail → length old.trail < old.log.vars → work_of budget new < work_of budget old
work_decided budget old new log more room =
    subst (λ (l : Log). (budget - length l.steps) * (l.vars + 1) + (l.vars - length new.trail) < work_of budget old) (sym log)
    (let p = (budget - length old.log.steps) * (old.log.vars + 1) in let q : old.log.vars - length new.trail < old.log.vars - length old.trail = omega arith in omega arith)

-- a true literal is true by the values
any_among : (f : ℕ → Bool) (xs : List ℕ) (x : ℕ) → is_among xs x ≡ true → f x ≡ true → list_any f xs ≡ true
any_among f [] x h t = let bad : false ≡ true = h in absurd (cc)
any_among f (y ∷ ys) x h t = elim (or_cases (x == y) (is_among ys x) h) [
  | inl e ↦ or_left (f y) (list_any f ys) (ap f (sym (eqb-true x y e)) ∙ t)
  | inr r ↦ or_right (f y) (list_any f ys) (any_among f ys x r t)
]

lit_value : (vars : ℕ) (trail : List TrueLit) (values : List Bool) (lit : ℕ) → IsRead vars trail values → lit < 2 * vars → is_true trail lit ≡ true → value_of (λ var. slice_index_or values var false) lit ≡ true
lit_value vars trail values lit r small t = elim (cases_eq (lit % 2) 0) [
  | inl even ↦
      let twice : lit ≡ 2 * (lit / 2) = omega arith in
      let v = r.positive (lit / 2) (omega arith) (subst (λ l. is_true trail l ≡ true) twice t) in
      rw (eq-eqb (lit % 2) 0 even) v
  | inr odd ↦
      let twice : lit ≡ 2 * (lit / 2) + 1 = omega arith in
      let v = r.negative (lit / 2) (omega arith) (subst (λ l. is_true trail l ≡ true) twice t) in
      rw (ne_eqb (lit % 2) 0 odd) (ap not v)
]

none_true : (trail : List TrueLit) (lit : ℕ) → level_in trail lit ≡ None → is_true trail lit ≡ true → ⊥
none_true trail lit e t = let bad : false ≡ true = ap (λ (o : Option ℕ). is_some o) (sym e) ∙ t in cc

some_free : (vars : ℕ) (trail : List TrueLit) (lit : ℕ) → HasValues vars trail → lit < 2 * vars → level_in trail lit ≡ None → level_in trail (opposite lit) ≡ None → ⊥
some_free vars trail lit has small one other = elim (cases_eq (lit % 2) 0) [
  | inl even ↦
      let twice : 2 * (lit / 2) ≡ lit = omega arith in
      let opp : opposite lit ≡ lit + 1 = rw (eq-eqb (lit % 2) 0 even) refl in
      elim (has (lit / 2) (omega arith)) [
        | inl t ↦ none_true trail lit one (subst (λ l. is_true trail l ≡ true) twice t)
        | inr t ↦ none_true trail (opposite lit) other (subst (λ l. is_true trail l ≡ true) (ap (λ n. n + 1) twice ∙ sym opp) t)
      ]
  | inr odd ↦
      let twice : 2 * (lit / 2) + 1 ≡ lit = omega arith in
      let opp : opposite lit ≡ lit - 1 = rw (ne_eqb (lit % 2) 0 odd) refl in
      let down : 2 * (lit / 2) ≡ lit - 1 = omega arith in
      elim (has (lit / 2) (omega arith)) [
        | inl t ↦ none_true trail (opposite lit) other (subst (λ l. is_true trail l ≡ true) (down ∙ sym opp) t)
        | inr t ↦ none_true trail lit one (subst (λ l. is_true trail l ≡ true) twice t)
      ]
]

among_over : (vars : ℕ) (clause : Clause) (lit : ℕ) → IsOver vars clause → is_among clause lit ≡ true → lit < 2 * vars
among_over vars [] lit over h = let bad : false ≡ true = h in absurd (cc)
among_over vars (x ∷ xs) lit over h = elim (or_cases (lit == x) (is_among xs lit) h) [
  | inl e ↦ subst (λ l. l < 2 * vars) (sym (eqb-true lit x e)) (All-head (λ l. l < 2 * vars) x xs over)
  | inr r ↦ among_over vars xs lit (All-tail (λ l. l < 2 * vars) x xs over) r
]

-- a clause that is neither false nor unit is satisfied where each variable has a value
pub quiet_satisfied : (vars : ℕ) (trail : List TrueLit) (values : List Bool) (clause : Clause) → IsRead vars trail values → HasValues vars trail → IsOver vars clause → IsQuiet trail clause → Satisfies (λ var. slice_index_or values var false) clause
quiet_satisfied vars trail values clause r has over quiet = elim quiet [
  | inl a ↦ any_among (value_of (λ var. slice_index_or values var false)) clause a.0 a.1.0 (lit_value vars trail values a.0 r (among_over vars clause a.0 over a.1.0) a.1.1)
  | inr b ↦ absurd (some_free vars trail b.0 has (among_over vars clause b.0 over b.1.1.has_one) b.1.1.free_one.one b.1.1.free_one.other)
]

-- values of one variable more
pub read_more : (count : ℕ) (trail : List TrueLit) (values : List Bool) (b : Bool) → length values ≡ count → (is_true trail (2 * count) ≡ true → b ≡ true) → (is_true trail (2 * count + 1) ≡ true → b ≡ false)
    → IsRead count trail values → IsRead (count + 1) trail (values ++ b ∷ [])
read_more count trail values b size yes_true yes_false r = record {
  positive = λ var l t. elim (cases_lt var count) [
    | inl old ↦ get_or_append_left values (b ∷ []) false var (omega arith) ∙ r.positive var old t
    | inr new ↦
        let same : var ≡ count = omega arith in
        get_or_push values b false var (omega arith) ∙ yes_true (subst (λ v. is_true trail (2 * v) ≡ true) same t)
  ];
  negative = λ var l t. elim (cases_lt var count) [
    | inl old ↦ get_or_append_left values (b ∷ []) false var (omega arith) ∙ r.negative var old t
    | inr new ↦
        let same : var ≡ count = omega arith in
        get_or_push values b false var (omega arith) ∙ yes_false (subst (λ v. is_true trail (2 * v + 1) ≡ true) same t)
  ];
}

pub values_more : (count : ℕ) (trail : List TrueLit) → HasValues count trail → HasValue trail count → HasValues (count + 1) trail
values_more count trail has here = λ var l. elim (cases_lt var count) [
  | inl old ↦ has var old
  | inr new ↦ let same : count ≡ var = omega arith in subst (HasValue trail) same here
]

-- the best so far after one more variable
pub best_more : (count vars : ℕ) (trail : List TrueLit) (best result : Option ℕ) → count < vars → MatchOption best (HasValues count trail) (λ var. (var < vars) × IsFree trail (2 * var + 1))
    → MatchOption result ((best ≡ None) × HasValue trail count) (λ found. (best ≡ Some found) ⊎ ((found ≡ count) × IsFree trail (2 * count + 1)))
    → MatchOption result (HasValues (count + 1) trail) (λ var. (var < vars) × IsFree trail (2 * var + 1))
best_more count vars trail best None l was now = values_more count trail (MatchOption-at_none (HasValues count trail) (λ var. (var < vars) × IsFree trail (2 * var + 1)) now.0 was) now.1
best_more count vars trail best (Some found) l was now = elim now [
  | inl old ↦ MatchOption-at_some (HasValues count trail) (λ var. (var < vars) × IsFree trail (2 * var + 1)) found old was
  | inr new ↦ (subst (λ v. v < vars) (sym new.0) l, subst (λ v. IsFree trail (2 * v + 1)) (sym new.0) new.1)
]

-- a log with the empty clause at its end
pub ended_by : (steps : List LogStep) (hints : List ℕ) → HasEnded (steps ++ record { lits = []; hints = hints } ∷ [])
ended_by steps hints =
    let s : LogStep = record { lits = []; hints = hints } in
    let size : length (steps ++ s ∷ []) - 1 ≡ length steps = omega (arith, length_push steps s) in
    let found : slice_get (steps ++ s ∷ []) (length (steps ++ s ∷ []) - 1) ≡ Some s =
    slice_get-get_or (steps ++ s ∷ []) (length (steps ++ s ∷ []) - 1) s (omega (arith, length_push steps s)) ∙ (ap (λ n. Some (slice_index_or (steps ++ s ∷ []) n s)) size ∙ ap Some (get_or_push steps s s (length steps) refl)) in
    rw found refl

-- how many clauses a log has
pub clauses_count : (log : Log) → length (clauses_of log) ≡ length log.given + length log.steps
clauses_count log = length-append log.given (lits_of log.steps) ∙ ap (λ n. length log.given + n) (length-map log.steps (λ (s : LogStep). s.lits))

-- a turn begins with propagation, which is no more work
pub turned_after : (budget : ℕ) (old mid new : Search) (t : Turn) → mid.log ≡ old.log → length old.trail ≤ length mid.trail → IsTurned budget mid new t → IsTurned budget old new t
turned_after budget old mid new Goes log more t =
    let p = (budget - length old.log.steps) * (old.log.vars + 1) in
    let is : work_of budget mid ≡ p + (old.log.vars - length mid.trail) = ap (λ (l : Log). (budget - length l.steps) * (l.vars + 1) + (l.vars - length mid.trail)) log in
    let l : work_of budget new < work_of budget mid = t.1 in
    (t.0, omega (arith, is, l))
turned_after budget old mid new Solved log more t = (t.0 ∙ log, t.1)
turned_after budget old mid new (Closes id) log more t = (t.0 ∙ log, t.1)
turned_after budget old mid new Spent log more t = (t.0 ∙ log, t.1)

-- all clauses of the formula are satisfied
pub all_satisfied : (log : Log) (trail : List TrueLit) (values : List Bool) (count : ℕ) → count ≡ log.vars → length values ≡ count → IsRead count trail values → HasValues log.vars trail → All (IsOver log.vars) log.given
    → All (IsQuiet trail) (clauses_of log) → IsSolution log.vars log.given values
all_satisfied log trail values count same size r has over quiet = record {
  size = size ∙ same;
  satisfies = λ k d l.
      let is : slice_index_or (clauses_of log) k d ≡ slice_index_or log.given k d = get_or_append_left log.given (lits_of log.steps) d k l in
      let here : IsQuiet trail (slice_index_or log.given k d) = subst (IsQuiet trail) is (quiet k d (omega (arith, clauses_count log))) in
      quiet_satisfied log.vars trail values (slice_index_or log.given k d) (subst (λ n. IsRead n trail values) same r) has (over k d l) here;
}
