-- What an analysis that has ended says.
use Rattle.std.proofs.Common.{◌≡◌, ◌∙◌, ◌<◌, ◌≤◌, ◌*◌, ◌-◌, ◌⊎◌, inl, inr, ℕ, Bool, true, false, refl, sym, ap, subst, arith, List, [], ◌∷◌, reverse}
use Rattle.std.specs.Prelude.{Some, None, IsTrue, slice_get}
use Rattle.std.specs.List.{All, list_any}
use Rattle.std.proofs.lemmas.Bool.{or_cases, false_from_ne_true}
use Rattle.std.proofs.lemmas.Option.{none-some, same_Some}
use Rattle.std.proofs.lemmas.List.Elements.{All-get_or, All-from_get_or, All-append, All-head, All-tail, All-cons, All-nil}
use Rattle.std.proofs.lemmas.List.{reverse-append}
use Rattle.rsfq_ids.specs.Formula.{Clause, opposite, IsOver}
use Rattle.proof_arena.specs.Step.{is_among, is_tautology, ends_in_conflict, StepHolds}
use Rattle.cdcl_core.specs.declared.trail.TrueLit.{TrueLit}
use Rattle.cdcl_core.specs.Trail.{level_in, is_true, level_of, up_to, IsFree, IsFalse, IsQuiet, IsTrail, clause_at}
use Rattle.cdcl_core.specs.Search.{IsWithin, IsNew, IsLearnt, HasLearnt, IsSecond, IsAsserting}
use Rattle.cdcl_core.specs.Analysis.{Leads, IsShape, IsBack, AreFalse}
use Rattle.cdcl_core.proofs.Opposites.{opp_opp, opp_lt}
use Rattle.cdcl_core.proofs.Chains.{differ_bools, among_cases, has_head, has_tail}
use Rattle.cdcl_core.proofs.Members.{all_among, among_all}
use Rattle.cdcl_core.proofs.Trails.{some_level, is_true_at, true_over, not_both, lower_quiet, up_true, true_up, up_free, up_level}

pub learnt_is : (trail : List TrueLit) (count : ℕ) (learnt : Clause) (back : ℕ) → IsShape trail [] (level_of trail) count learnt → count ≡ 0 → 0 < level_of trail → IsBack trail learnt back → HasLearnt trail learnt back
learnt_is trail count [] back s none up b = absurd (let some : 1 ≤ count = s up in omega arith)
learnt_is trail count (first ∷ []) back s none up b = record {
  first_at = s.1.first_at;
  below = λ lit h. absurd (differ_bools (sym h));
  greatest = inl (refl, b);
  lower = omega (arith, b);
}
learnt_is trail count (first ∷ (second ∷ rest)) back s none up b =
    let behind = s.1.behind in
    let same : behind.0 ≡ back = same_Some behind.0 back (sym behind.1.0 ∙ b) in
    let low : behind.0 < level_of trail = behind.1.1.0 in
    record {
      first_at = s.1.first_at;
      below = λ lit h. elim (among_cases second lit rest h) [
        | inl e ↦ (back, (ap (λ l. level_in trail (opposite l)) e ∙ b, omega arith))
        | inr r ↦ let at = behind.1.1.1.1 lit r in (at.0, (at.1.0, let l : at.0 ≤ behind.0 = at.1.1 in omega arith))
      ];
      greatest = inr (second, (has_head second rest, b));
      lower = omega arith;
    }

-- the level of each literal that was learnt
learnt_at : (trail : List TrueLit) (first : ℕ) (others : Clause) (back lit : ℕ) → IsLearnt trail first others back → is_among (first ∷ others) lit ≡ true → (k : ℕ) × (level_in trail (opposite lit) ≡ Some k)
learnt_at trail first others back lit l h = elim (among_cases first lit others h) [
  | inl e ↦ (level_of trail, ap (λ x. level_in trail (opposite x)) e ∙ l.first_at)
  | inr r ↦ let at = l.below lit r in (at.0, at.1.0)
]

pub learnt_false : (trail : List TrueLit) (learnt : Clause) (back : ℕ) → HasLearnt trail learnt back → AreFalse trail learnt
learnt_false trail [] back l = absurd l
learnt_false trail (first ∷ others) back l = λ lit h. learnt_at trail first others back lit l h

pub all_false : (trail : List TrueLit) (learnt : Clause) → AreFalse trail learnt → IsFalse trail learnt
all_false trail learnt f = among_all (λ lit. IsTrue (is_true trail (opposite lit))) learnt (λ lit h. let at = f lit h in is_true_at trail (opposite lit) at.0 at.1)

any_exists : (f : ℕ → Bool) (xs : List ℕ) → list_any f xs ≡ true → (x : ℕ) × ((is_among xs x ≡ true) × (f x ≡ true))
any_exists f [] h = absurd (differ_bools (sym h))
any_exists f (x ∷ xs) h = elim (or_cases (f x) (list_any f xs) h) [
  | inl here ↦ (x, (has_head x xs, here))
  | inr rest ↦ let r = any_exists f xs rest in (r.0, (has_tail x r.0 xs r.1.0, r.1.1))
]

pub step_holds_of : (vars : ℕ) (clauses : List Clause) (trail : List TrueLit) (learnt : Clause) (hints : List ℕ) → IsTrail vars clauses trail → AreFalse trail learnt → ends_in_conflict clauses (is_among learnt) hints ≡ true → StepHolds vars clauses learnt hints
unfolding StepHolds
step_holds_of vars clauses trail learnt hints t f ends =
    let over : IsOver vars learnt = among_all (λ lit. lit < 2 * vars) learnt (λ lit h.
    let at = f lit h in
    let small : opposite lit < 2 * vars = true_over vars clauses trail (opposite lit) at.0 t at.1 in
    subst (λ l. l < 2 * vars) (opp_opp lit) (opp_lt (opposite lit) vars small)) in
    let plain : is_tautology learnt ≡ false = false_from_ne_true (is_tautology learnt) (λ h.
    let e = any_exists (λ lit. is_among learnt (opposite lit)) learnt h in
    let one = f e.0 e.1.0 in
    let other = f (opposite e.0) e.1.1 in
    not_both vars clauses trail (opposite e.0) t (is_true_at trail (opposite e.0) one.0 one.1) (is_true_at trail (opposite (opposite e.0)) other.0 other.1)) in
    (over, plain, ends)

-- the hints that an analysis has found, in the other order
pub ends_found : (clauses : List Clause) (marked : ℕ → Bool) (learnt : Clause) (hints : List ℕ) → Leads clauses [] marked learnt hints → ends_in_conflict clauses (is_among learnt) (reverse hints) ≡ true
ends_found clauses marked learnt hints leads = leads (is_among learnt) (λ lit t m. absurd (differ_bools (sym t))) (λ lit h. h)

-- a literal of the clause that has no value below is the first
only_first : (vars : ℕ) (clauses : List Clause) (trail : List TrueLit) (first : ℕ) (others : Clause) (back k lit : ℕ) → IsTrail vars clauses trail → IsLearnt trail first others back → back ≤ k
    → is_among (first ∷ others) lit ≡ true → IsFree (up_to k trail) lit → lit ≡ first
only_first vars clauses trail first others back k lit t l le h free = elim (among_cases first lit others h) [
  | inl e ↦ e
  | inr r ↦
      let at = l.below lit r in
      let low : at.0 ≤ back = at.1.1 in
      let there : level_in (up_to k trail) (opposite lit) ≡ Some at.0 = up_true vars clauses trail k (opposite lit) at.0 t at.1.0 (omega arith) in
      absurd (none-some at.0 (sym free.other ∙ there))
]

pub is_new : (vars : ℕ) (clauses : List Clause) (trail : List TrueLit) (learnt : Clause) (back : ℕ) → IsTrail vars clauses trail → HasLearnt trail learnt back → IsNew clauses learnt
is_new vars clauses trail [] back t l = absurd l
is_new vars clauses trail (first ∷ others) back t l = All-from_get_or (λ clause. IsWithin clause (first ∷ others) → ⊥) clauses [] (λ id known within.
    let k = level_of trail - 1 in
    let lower : back < level_of trail = l.lower in
    let quiet : IsQuiet (up_to k trail) (clause_at clauses id) = All-get_or (IsQuiet (up_to k trail)) clauses id [] known (lower_quiet vars clauses trail k t (omega arith)) in
    let in_learnt : (lit : ℕ) → is_among (clause_at clauses id) lit ≡ true → is_among (first ∷ others) lit ≡ true = λ lit h. all_among (λ x. IsTrue (is_among (first ∷ others) x)) (clause_at clauses id) lit within h in
    elim quiet [
      | inl a ↦
          let below = some_level (up_to k trail) a.0 a.1.1 in
          let now = true_up vars clauses trail k a.0 below.0 t below.1 in
          let other = learnt_at trail first others back a.0 l (in_learnt a.0 a.1.0) in
          not_both vars clauses trail a.0 t (is_true_at trail a.0 below.0 now.0) (is_true_at trail (opposite a.0) other.0 other.1)
      | inr b ↦
          let one = only_first vars clauses trail first others back k b.0 t l (omega arith) (in_learnt b.0 b.1.1.has_one) b.1.1.free_one in
          let other = only_first vars clauses trail first others back k b.1.0 t l (omega arith) (in_learnt b.1.0 b.1.1.has_other) b.1.1.free_other in
          b.1.1.differ (one ∙ sym other)
    ])

second_is : (vars : ℕ) (clauses : List Clause) (trail : List TrueLit) (first : ℕ) (others : Clause) (back : ℕ) → IsTrail vars clauses trail → IsLearnt trail first others back → IsBack trail (first ∷ others) back → IsSecond (up_to back trail) others
second_is vars clauses trail first [] back t l b = let lower : back < level_of trail = l.lower in up_level vars clauses trail back t (omega arith) ∙ b
second_is vars clauses trail first (second ∷ rest) back t l b =
    let lower : back < level_of trail = l.lower in
    up_true vars clauses trail back (opposite second) back t b (omega arith) ∙ ap Some (sym (up_level vars clauses trail back t (omega arith)))

-- after going back the clause makes its first literal true
pub asserts_then : (vars : ℕ) (clauses : List Clause) (trail : List TrueLit) (learnt : Clause) (back : ℕ) → IsTrail vars clauses trail → HasLearnt trail learnt back → IsBack trail learnt back → IsAsserting (up_to back trail) learnt
asserts_then vars clauses trail [] back t l b = absurd l
asserts_then vars clauses trail (first ∷ others) back t l b =
    let lower : back < level_of trail = l.lower in
    let free = up_free vars clauses trail back (opposite first) (level_of trail) t l.first_at lower in
    record {
      free = record { one = ap (level_in (up_to back trail)) (sym (opp_opp first)) ∙ free.other; other = free.one };
      false = among_all (λ lit. IsTrue (is_true (up_to back trail) (opposite lit))) others (λ lit h.
          let at = l.below lit h in
          is_true_at (up_to back trail) (opposite lit) at.0 (up_true vars clauses trail back (opposite lit) at.0 t at.1.0 at.1.1));
      second = second_is vars clauses trail first others back t l b;
    }

-- a fact of all hints holds of them in the other order
pub all_reversed : (P : ℕ → Type 0) (xs : List ℕ) → All P xs → All P (reverse xs)
all_reversed P [] all = all
all_reversed P (x ∷ xs) all =
    subst (All P) (sym (reverse-append (x ∷ []) xs))
    (All-append P (reverse xs) (x ∷ []) (all_reversed P xs (All-tail P x xs all)) (All-cons P x [] (All-head P x xs all) (All-nil P)))

-- all literals that were taken are false
pub shape_false : (trail : List TrueLit) (level count : ℕ) (learnt : Clause) → IsShape trail [] level count learnt → AreFalse trail learnt
shape_false trail level count [] s = λ lit h. absurd (differ_bools (sym h))
shape_false trail level count (first ∷ []) s = λ lit h. elim (among_cases first lit [] h) [
  | inl e ↦ (level, ap (λ l. level_in trail (opposite l)) e ∙ s.1.first_at)
  | inr none ↦ absurd (differ_bools (sym none))
]
shape_false trail level count (first ∷ (second ∷ rest)) s = λ lit h. elim (among_cases first lit (second ∷ rest) h) [
  | inl e ↦ (level, ap (λ l. level_in trail (opposite l)) e ∙ s.1.first_at)
  | inr more ↦ elim (among_cases second lit rest more) [
    | inl e ↦ let b = s.1.behind in (b.0, ap (λ l. level_in trail (opposite l)) e ∙ b.1.0)
    | inr r ↦ let at = s.1.behind.1.1.1.1 lit r in (at.0, at.1.0)
  ]
]

pub false_over : (vars : ℕ) (clauses : List Clause) (trail : List TrueLit) (learnt : Clause) → IsTrail vars clauses trail → AreFalse trail learnt → IsOver vars learnt
false_over vars clauses trail learnt t f = among_all (λ lit. lit < 2 * vars) learnt (λ lit h.
    let at = f lit h in
    let small : opposite lit < 2 * vars = true_over vars clauses trail (opposite lit) at.0 t at.1 in
    subst (λ l. l < 2 * vars) (opp_opp lit) (opp_lt (opposite lit) vars small))

-- at level 0 nothing is taken
pub none_taken : (trail : List TrueLit) (count : ℕ) (learnt : Clause) → IsShape trail [] 0 count learnt → learnt ≡ []
none_taken trail count [] s = refl
none_taken trail count (first ∷ others) s = absurd (let up : 0 < 0 = s.0 in omega arith)

-- what `get` of the second literal says
pub back_from : (trail : List TrueLit) (learnt : Clause) (back : ℕ) → ((learnt ≡ []) ⊎ ((first : ℕ) × (learnt ≡ first ∷ []))) → back ≡ 0 → IsBack trail learnt back
back_from trail learnt back short zero_back = elim short [
  | inl none ↦ subst (λ (l : Clause). IsBack trail l back) (sym none) tt
  | inr one ↦ subst (λ (l : Clause). IsBack trail l back) (sym one.1) zero_back
]

pub back_none : (trail : List TrueLit) (learnt : Clause) (back : ℕ) → slice_get learnt 1 ≡ None → back ≡ 0 → IsBack trail learnt back
back_none trail [] back e z = tt
back_none trail (first ∷ []) back e z = z
back_none trail (first ∷ (second ∷ rest)) back e z = absurd (none-some second (sym e))

pub back_some : (trail : List TrueLit) (learnt : Clause) (back second : ℕ) → slice_get learnt 1 ≡ Some second → level_in trail (opposite second) ≡ Some back → IsBack trail learnt back
back_some trail [] back second e at = absurd (none-some second e)
back_some trail (first ∷ []) back second e at = absurd (none-some second e)
back_some trail (first ∷ (other ∷ rest)) back second e at = ap (λ l. level_in trail (opposite l)) (same_Some other second e) ∙ at

pub second_among : (learnt : Clause) (second : ℕ) → slice_get learnt 1 ≡ Some second → is_among learnt second ≡ true
second_among [] second e = absurd (none-some second e)
second_among (first ∷ []) second e = absurd (none-some second e)
second_among (first ∷ (other ∷ rest)) second e = has_tail first second (other ∷ rest) (subst (λ l. is_among (other ∷ rest) l ≡ true) (same_Some other second e) (has_head other rest))
