-- What stays of the watch over clauses when literals become false and when they leave the stack.
use Rattle.std.proofs.Common.{◌≡◌, ◌∙◌, ◌<◌, ◌≤◌, ◌+◌, ◌-◌, ℕ, Bool, true, false, zero, suc, refl, sym, ap, subst, arith, List, [], ◌∷◌, ◌++◌, length, Some, ◌⊎◌, inl, inr, append_assoc}
use Rattle.std.specs.Prelude.{◌==◌, ◌||◌, not, slice_get}
use Rattle.std.proofs.lemmas.Bool.{cases_Bool, eq-eqb}
use Rattle.std.proofs.lemmas.Bool.Decides.{eqb_tells}
use Rattle.std.proofs.lemmas.List.Folds.{list_any-append}
use Rattle.rsfq_ids.specs.Formula.{Clause, opposite}
use Rattle.proof_arena.specs.Step.{reading, is_among, makes_false}
use Rattle.proof_arena.specs.declared.hint.HintReading.{HintReading}
use Rattle.proof_arena.specs.declared.hint.HintReading.TheVariants.{Conflict, Passed, Unit as UnitLit, NotUnit}
use Rattle.proof_arena.proofs.Marked.{eqb-false}
use Rattle.cube_proof.specs.Search.{Point, waits, count_of, IsWatched, IsVisit, IsTrace, open_literals}
use Rattle.cube_proof.proofs.Traces.{trace_push}
use Rattle.cube_proof.proofs.Clauses.{no_true, not_both, not_true, IsOnce, by_unit, unit_made, by_not_unit, two_open, by_passed, passed_by, is_true_lit, any_more, count_more, count_all, count_free, count_but_one, opposite-opposite, opposite-differs, and_left, and_right}

-- ---- waiting

or_of_left : (b c : Bool) → b ≡ true → (b || c) ≡ true
or_of_left b c e = rw e refl

or_of_right : (b c : Bool) → c ≡ true → (b || c) ≡ true
or_of_right true c e = refl
or_of_right false c e = e

waits_open : (falses : ℕ → Bool) (stack : List ℕ) (lit : ℕ) → not (falses lit) ≡ true → waits falses stack lit ≡ true
waits_open falses stack lit e = or_of_left _ _ e

among_push : (stack : List ℕ) (m lit : ℕ) → is_among stack lit ≡ true → is_among (stack ++ m ∷ []) lit ≡ true
among_push stack m lit e = list_any-append (λ x. lit == x) stack (m ∷ []) ∙ or_of_left _ _ e

among_last : (stack : List ℕ) (m : ℕ) → is_among (stack ++ m ∷ []) m ≡ true
among_last stack m =
    let here : is_among (m ∷ []) m ≡ true = rw (eq-eqb m m refl) refl in
    list_any-append (λ x. m == x) stack (m ∷ []) ∙ or_of_right _ _ here

-- one more literal is false and stacked
waits_made : (falses : ℕ → Bool) (stack : List ℕ) (m lit : ℕ) → waits falses stack lit ≡ true → waits (makes_false falses m) (stack ++ m ∷ []) lit ≡ true
waits_made falses stack m lit is = elim (eqb_tells lit m) [
  | inl t ↦ or_of_right _ _ (ap (is_among (stack ++ m ∷ [])) t.1 ∙ among_last stack m)
  | inr t ↦ elim (cases_Bool (falses lit)) [
    | inl so ↦ or_of_right _ _ (among_push stack m lit (rw so at is))
    | inr not_so ↦ rw (t.0, not_so) refl
  ]
]

true_made : (falses : ℕ → Bool) (m : ℕ) → falses (opposite m) ≡ false → (lit : ℕ) → is_true_lit falses lit ≡ true → is_true_lit (makes_false falses m) lit ≡ true
true_made falses m apart lit is =
    let open_lit : falses lit ≡ false = not_true (falses lit) (and_left _ _ is) in
    let taken : falses (opposite lit) ≡ true = and_right _ _ is in
    elim (eqb_tells lit m) [
      | inl t ↦ not_both (falses (opposite lit)) taken (ap (λ l. falses (opposite l)) t.1 ∙ apart)
      | inr t ↦ elim (cases_Bool (opposite lit == m)) [ inl e ↦ rw (t.0, open_lit, e) refl | inr e ↦ rw (t.0, open_lit, e, taken) refl ]
    ]

passed_made : (falses : ℕ → Bool) (m : ℕ) (clause : Clause) → falses (opposite m) ≡ false → reading falses clause ≡ Passed → reading (makes_false falses m) clause ≡ Passed
passed_made falses m clause apart is =
    passed_by (makes_false falses m) clause (any_more (is_true_lit falses) (is_true_lit (makes_false falses m)) (true_made falses m apart) clause (by_passed falses clause is))

-- a watched clause stays watched when a literal is made false and stacked
watched_made : (falses : ℕ → Bool) (stack : List ℕ) (m : ℕ) (clause : Clause) (left : ℕ) → falses (opposite m) ≡ false
    → IsWatched falses stack clause left → IsWatched (makes_false falses m) (stack ++ m ∷ []) clause left
watched_made falses stack m clause left apart w =
    let more = count_more (waits falses stack) (waits (makes_false falses m) (stack ++ m ∷ [])) (waits_made falses stack m) clause in
    let bound = w.bound in
    record {
      bound = omega (arith, more, bound);
      settled = elim w.settled [ inl passed ↦ inl (passed_made falses m clause apart passed) | inr two ↦ inr (omega (arith, two, more)) ];
    }

-- and when a clause is visited, with literals that were taken from the stack before it
pub watched_on : (said : HintReading) (id : ℕ) (before after : Point) (conflict : Bool) (visited clause : Clause) (front : List ℕ) (left : ℕ)
    → said ≡ reading before.falses visited → IsVisit said id before conflict after
    → IsWatched before.falses (front ++ before.stack) clause left → IsWatched after.falses (front ++ after.stack) clause left
watched_on Conflict id before after conflict visited clause front left is visit w = rw visit.1 w
watched_on Passed id before after conflict visited clause front left is visit w = rw visit.1 w
watched_on NotUnit id before after conflict visited clause front left is visit w = rw visit.1 w
watched_on (UnitLit lit) id before after conflict visited clause front left is visit w =
    let unit = by_unit before.falses visited lit (sym is) in
    let same : (front ++ before.stack) ++ opposite lit ∷ [] ≡ front ++ (before.stack ++ opposite lit ∷ []) = append_assoc front before.stack (opposite lit ∷ []) in
    rw visit.1 (subst (λ (s : List ℕ). IsWatched (makes_false before.falses (opposite lit)) s clause left) same
    (watched_made before.falses (front ++ before.stack) (opposite lit) clause left (ap before.falses (opposite-opposite lit) ∙ unit.not_false) w))

-- the bound alone
pub bound_on : (said : HintReading) (id : ℕ) (before after : Point) (conflict : Bool) (clause : Clause) (left : ℕ)
    → IsVisit said id before conflict after
    → left ≤ count_of (waits before.falses before.stack) clause → left ≤ count_of (waits after.falses after.stack) clause
bound_on Conflict id before after conflict clause left visit bound = rw visit.1 bound
bound_on Passed id before after conflict clause left visit bound = rw visit.1 bound
bound_on NotUnit id before after conflict clause left visit bound = rw visit.1 bound
bound_on (UnitLit lit) id before after conflict clause left visit bound =
    let more = count_more (waits before.falses before.stack) (waits (makes_false before.falses (opposite lit)) (before.stack ++ opposite lit ∷ [])) (waits_made before.falses before.stack (opposite lit)) clause in
    rw visit.1 (omega (arith, bound, more))

-- the visited clause itself, whatever its number counts
pub watched_now : (said : HintReading) (id : ℕ) (before after : Point) (conflict : Bool) (visited : Clause) (left : ℕ)
    → said ≡ reading before.falses visited → IsVisit said id before conflict after → conflict ≡ false
    → left ≤ count_of (waits before.falses before.stack) visited → IsWatched after.falses after.stack visited left
watched_now Conflict id before after conflict visited left is visit none bound = not_both conflict visit.0 none
watched_now Passed id before after conflict visited left is visit none bound = rw visit.1 (record { bound = bound; settled = inl (sym is) })
watched_now NotUnit id before after conflict visited left is visit none bound =
    let two = by_not_unit before.falses visited (sym is) in
    let more = count_more (λ l. not (before.falses l)) (waits before.falses before.stack) (waits_open before.falses before.stack) visited in
    rw visit.1 (record { bound = bound; settled = inr (omega (arith, two, more)) })
watched_now (UnitLit lit) id before after conflict visited left is visit none bound =
    let unit = by_unit before.falses visited lit (sym is) in
    let more = count_more (waits before.falses before.stack) (waits (makes_false before.falses (opposite lit)) (before.stack ++ opposite lit ∷ [])) (waits_made before.falses before.stack (opposite lit)) visited in
    rw visit.1 (record { bound = omega (arith, bound, more); settled = inl (unit_made before.falses visited lit unit) })

-- ---- a literal leaves the stack

waits_left : (falses : ℕ → Bool) (stack : List ℕ) (lit other : ℕ) → (other == lit) ≡ false → waits falses (lit ∷ stack) other ≡ true → waits falses stack other ≡ true
waits_left falses stack lit other differ is = rw differ at is

not_last : (a b : Bool) → (a || (b || false)) ≡ true → b ≡ false → a ≡ true
not_last true b e f = refl
not_last false true e f = sym f
not_last false false e f = e

waits_first : (falses : ℕ → Bool) (stack : List ℕ) (lit other : ℕ) → waits falses (stack ++ lit ∷ []) other ≡ true → waits falses (lit ∷ stack) other ≡ true
waits_first falses stack lit other is = elim (cases_Bool (falses other)) [
  | inl so ↦
      let among : is_among (stack ++ lit ∷ []) other ≡ true = rw so at is in
      or_of_right (not (falses other)) (is_among (lit ∷ stack) other) (elim (eqb_tells other lit) [
        | inl t ↦ rw t.0 refl
        | inr t ↦
            let parts : (is_among stack other || is_among (lit ∷ []) other) ≡ true = sym (list_any-append (λ x. other == x) stack (lit ∷ [])) ∙ among in
            rw t.0 (not_last (is_among stack other) (other == lit) parts t.0)
      ])
  | inr not_so ↦ rw not_so refl
]

-- taken from the end of the stack, and still counting
pub watched_first : (falses : ℕ → Bool) (stack : List ℕ) (lit : ℕ) (clause : Clause) (left : ℕ) → IsWatched falses (stack ++ lit ∷ []) clause left
    → IsWatched falses (lit ∷ stack) clause left
watched_first falses stack lit clause left w =
    let more = count_more (waits falses (stack ++ lit ∷ [])) (waits falses (lit ∷ stack)) (waits_first falses stack lit) clause in
    let bound = w.bound in
    record { bound = omega (arith, more, bound); settled = elim w.settled [ inl passed ↦ inl passed | inr two ↦ inr (omega (arith, two, more)) ] }

-- a clause without the literal
pub watched_free : (falses : ℕ → Bool) (stack : List ℕ) (lit : ℕ) (clause : Clause) (left : ℕ) → is_among clause lit ≡ false
    → IsWatched falses (lit ∷ stack) clause left → IsWatched falses stack clause left
watched_free falses stack lit clause left free w =
    let more = count_free (waits falses (lit ∷ stack)) (waits falses stack) lit (waits_left falses stack lit) clause free in
    let bound = w.bound in
    record { bound = omega (arith, more, bound); settled = elim w.settled [ inl passed ↦ inl passed | inr two ↦ inr (omega (arith, two, more)) ] }

-- a clause whose number was counted down
pub counted_down : (falses : ℕ → Bool) (stack : List ℕ) (lit : ℕ) (clause : Clause) (left : ℕ) → IsOnce clause
    → IsWatched falses (lit ∷ stack) clause left → left - 1 ≤ count_of (waits falses stack) clause
counted_down falses stack lit clause left once w =
    let more = count_but_one (waits falses (lit ∷ stack)) (waits falses stack) lit (waits_left falses stack lit) clause once in
    let bound = w.bound in
    omega (arith, more, bound)

pub watched_fewer : (falses : ℕ → Bool) (stack : List ℕ) (clause : Clause) (left fewer : ℕ) → fewer ≤ left → IsWatched falses stack clause left → IsWatched falses stack clause fewer
watched_fewer falses stack clause left fewer le w = let bound = w.bound in record { bound = omega (arith, le, bound); settled = w.settled }

pub watched_two : (falses : ℕ → Bool) (stack : List ℕ) (clause : Clause) (left : ℕ) → left ≤ count_of (waits falses stack) clause → 1 < left → IsWatched falses stack clause left
watched_two falses stack clause left bound two = record { bound = bound; settled = inr (omega (arith, bound, two)) }

-- with an empty stack, a watched clause is neither false nor unit
waits_none : (falses : ℕ → Bool) (lit : ℕ) → waits falses [] lit ≡ true → not (falses lit) ≡ true
waits_none falses lit is = elim (cases_Bool (falses lit)) [ inl so ↦ no_true (rw so at is) | inr not_so ↦ rw not_so refl ]

pub watched_none : (falses : ℕ → Bool) (clause : Clause) (left : ℕ) → IsOnce clause → IsWatched falses [] clause left
    → (reading falses clause ≡ Passed) ⊎ (reading falses clause ≡ NotUnit)
watched_none falses clause left once w = elim w.settled [
  | inl passed ↦ inl passed
  | inr two ↦
      let more = count_more (waits falses []) (λ l. not (falses l)) (waits_none falses) clause in
      two_open falses clause once (omega (arith, two, more))
]

-- at the begin all literals count
waits_all : (word : List ℕ) (lit : ℕ) → waits (is_among word) word lit ≡ true
waits_all word lit = elim (cases_Bool (is_among word lit)) [ inl so ↦ rw so refl | inr not_so ↦ rw not_so refl ]

pub counted_all : (word : List ℕ) (clause : Clause) → count_of (waits (is_among word) word) clause ≡ length clause
counted_all word clause = count_all (waits (is_among word) word) (waits_all word) clause

-- ---- reasons

pub traced_on : (said : HintReading) (clauses : List Clause) (word : List ℕ) (id : ℕ) (before after : Point) (conflict : Bool) (visited : Clause)
    → said ≡ reading before.falses visited → slice_get clauses id ≡ Some visited → IsVisit said id before conflict after → conflict ≡ false
    → IsTrace clauses (is_among word) before.reasons before.falses → IsTrace clauses (is_among word) after.reasons after.falses
traced_on Conflict clauses word id before after conflict visited is there visit none traced = not_both conflict visit.0 none
traced_on Passed clauses word id before after conflict visited is there visit none traced = rw visit.1 traced
traced_on NotUnit clauses word id before after conflict visited is there visit none traced = rw visit.1 traced
traced_on (UnitLit lit) clauses word id before after conflict visited is there visit none traced =
    rw visit.1 (trace_push clauses (is_among word) before.falses before.reasons (record { clause = id; lit = opposite lit }) traced
    (record { said = visited; there = there; literal = lit; unit = sym is; made = refl }))

-- ---- what is left to do

same_above : (falses : ℕ → Bool) (m n : ℕ) → n ≤ m → open_literals (makes_false falses m) n ≡ open_literals falses n
same_above falses m zero le = refl
same_above falses m (suc n) le =
    let differ : (n == m) ≡ false = eqb-false n m (λ e. omega arith) in
    rw (differ, same_above falses m n (omega arith)) refl

pub one_fewer : (falses : ℕ → Bool) (m n : ℕ) → m < n → falses m ≡ false → open_literals (makes_false falses m) n + 1 ≡ open_literals falses n
one_fewer falses m zero lt is = absurd (omega arith)
one_fewer falses m (suc n) lt is = elim (eqb_tells n m) [
  | inl t ↦
      let same = same_above falses m n (let e = t.1 in omega arith) in
      let here : falses n ≡ false = ap falses t.1 ∙ is in
      rw (t.0, here, same) (omega arith)
  | inr t ↦
      let rest = one_fewer falses m n (let ne = t.1 in omega arith) is in
      elim (cases_Bool (falses n)) [
        | inl so ↦ rw (t.0, so) (omega arith)
        | inr not_so ↦ rw (t.0, not_so) (omega arith)
      ]
]

-- ---- literals apart

apart_made : (falses : ℕ → Bool) (lit : ℕ) → ((l : ℕ) → falses l ≡ true → falses (opposite l) ≡ false) → falses lit ≡ false
    → (l : ℕ) → makes_false falses (opposite lit) l ≡ true → makes_false falses (opposite lit) (opposite l) ≡ false
apart_made falses lit apart open_lit l is = elim (eqb_tells l (opposite lit)) [
  | inl t ↦
      let back : opposite l ≡ lit = ap opposite t.1 ∙ opposite-opposite lit in
      let differ : (lit == opposite lit) ≡ false = opposite-differs lit in
      rw (back, differ) open_lit
  | inr t ↦
      let taken : falses l ≡ true = rw t.0 at is in
      let differ : (opposite l == opposite lit) ≡ false = eqb-false _ _ (λ e.
      not_both (falses l) taken (ap falses (sym (opposite-opposite l) ∙ (ap opposite e ∙ opposite-opposite lit)) ∙ open_lit)) in
      rw differ (apart l taken)
]

pub apart_on : (said : HintReading) (id : ℕ) (before after : Point) (conflict : Bool) (visited : Clause)
    → said ≡ reading before.falses visited → IsVisit said id before conflict after
    → ((l : ℕ) → before.falses l ≡ true → before.falses (opposite l) ≡ false) → (l : ℕ) → after.falses l ≡ true → after.falses (opposite l) ≡ false
apart_on Conflict id before after conflict visited is visit apart = rw visit.1 apart
apart_on Passed id before after conflict visited is visit apart = rw visit.1 apart
apart_on NotUnit id before after conflict visited is visit apart = rw visit.1 apart
apart_on (UnitLit lit) id before after conflict visited is visit apart =
    let unit = by_unit before.falses visited lit (sym is) in
    rw visit.1 (apart_made before.falses lit apart unit.not_false)
