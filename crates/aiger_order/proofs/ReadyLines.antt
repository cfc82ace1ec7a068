-- Lines that are ready before and after one more variable has a number.
use Rattle.std.proofs.Common.{◌≡◌, ◌≢◌, ◌⊎◌, inl, inr, ◌∙◌, ◌/◌, ◌≤◌, ◌==◌, ℕ, Bool, true, false, cond, refl, ap, sym, subst, arith, List, [], ◌∷◌, ◌++◌, Some}
use Rattle.std.specs.Prelude.{slice_get, map}
use Rattle.std.specs.Ordering.{nat_cmp, is_eq, is_gt}
use Rattle.std.specs.Prelude.{nat_lt}
use Rattle.std.specs.declared.cmp.Ordering.TheVariants.{Less, Equal, Greater}
use Rattle.std.proofs.lemmas.Bool.{eqb-true, le-ltb, eq-eqb}
use Rattle.std.specs.BTreeMap.{is_at}
use Rattle.std.specs.BTreeSet.{BTreeSet, contains, Updates, IsLowerBound}
use Rattle.std.proofs.lemmas.Bool.Decides.{nat_tests}
use Rattle.std.proofs.lemmas.Option.{slice_get-map}
use Rattle.golden_aig.specs.declared.graph.And.{And}
use Rattle.aiger_order.specs.Numbers.{Known}
use Rattle.aiger_order.specs.Listing.{AreLines}
use Rattle.aiger_order.specs.Ready.{IsReadyLine, Has}
use Rattle.aiger_order.proofs.Lists.{get_more, get_cases}

pub known_more : (names : List ℕ) (w v : ℕ) → Known names v → Known (names ++ w ∷ []) v
known_more names w v k = (k.0, get_more names (w ∷ []) k.0 v k.1)

pub known_cases : (names : List ℕ) (w v : ℕ) → Known (names ++ w ∷ []) v → Known names v ⊎ (w ≡ v)
known_cases names w v k = elim (get_cases names w k.0 v k.1) [ inl old ↦ inl (k.0, old) | inr new ↦ inr new.1 ]

-- two lines of one variable are one line
pub one_line : (top : ℕ) (lines : List And) (p q : ℕ) (one other : And) → AreLines top lines → slice_get lines p ≡ Some one → slice_get lines q ≡ Some other → one.lhs / 2 ≡ other.lhs / 2 → p ≡ q
one_line top lines p q one other ok at_p at_q same =
    let d = ok.definitions p one at_p in
    let e = ok.definitions q other at_q in
    let d_is = d.1 in
    let e_is = e.1 in
    let lhs : one.lhs ≡ other.lhs = omega arith in
    let here : slice_get (map (λ (l : And). l.lhs) lines) p ≡ Some one.lhs = slice_get-map (λ (l : And). l.lhs) lines p ∙ rw at_p refl in
    let there : slice_get (map (λ (l : And). l.lhs) lines) q ≡ Some one.lhs = slice_get-map (λ (l : And). l.lhs) lines q ∙ rw at_q (ap Some (sym lhs)) in
    ok.once p q one.lhs here there

-- another line that was ready is ready still
pub ready_stays : (top : ℕ) (lines : List And) (names : List ℕ) (p q : ℕ) (one : And) → AreLines top lines → slice_get lines p ≡ Some one → q ≢ p → IsReadyLine names lines q → IsReadyLine (names ++ one.lhs / 2 ∷ []) lines q
ready_stays top lines names p q one ok at_p ne r = record {
  one = r.one;
  is = r.is;
  fresh = λ k. elim (known_cases names (one.lhs / 2) (r.one.lhs / 2) k) [ inl old ↦ r.fresh old | inr same ↦ ne (sym (one_line top lines p q one r.one ok at_p r.is same)) ];
  first = known_more names (one.lhs / 2) (r.one.rhs0 / 2) r.first;
  second = known_more names (one.lhs / 2) (r.one.rhs1 / 2) r.second;
}

-- a line that is ready was so, or uses the new variable
pub ready_cases : (lines : List And) (names : List ℕ) (v q : ℕ) → IsReadyLine (names ++ v ∷ []) lines q
    → IsReadyLine names lines q ⊎ ((one : And) × (slice_get lines q ≡ Some one) × ((v ≡ one.rhs0 / 2) ⊎ (v ≡ one.rhs1 / 2)))
ready_cases lines names v q r = elim (known_cases names v (r.one.rhs0 / 2) r.first) [
  | inr same ↦ inr (r.one, r.is, inl same)
  | inl first ↦ elim (known_cases names v (r.one.rhs1 / 2) r.second) [
    | inr same ↦ inr (r.one, r.is, inr same)
    | inl second ↦ inl (record { one = r.one; is = r.is; fresh = λ k. r.fresh (known_more names v (r.one.lhs / 2) k); first = first; second = second })
  ]
]

at_same : (k q : ℕ) → is_at (nat_cmp k) q ≡ true → k ≡ q
at_same k q e = go (nat_lt k q) (k == q) refl e where
  go : (a b : Bool) → (k == q) ≡ b → is_eq (cond a Less (cond b Equal Greater)) ≡ true → k ≡ q
  go true b is h = absurd cc
  go false true is h = eqb-true k q is
  go false false is h = absurd cc

at_self : (k : ℕ) → is_at (nat_cmp k) k ≡ true
at_self k = rw (le-ltb k k (omega arith), eq-eqb k k refl) refl

pub popped : (old new : BTreeSet ℕ) (k q : ℕ) → Updates nat_cmp old new k false → Has new q → (q ≢ k) × Has old q
popped old new k q u has = go (is_at (nat_cmp k) q) refl (u.0 q) where
  go : (t : Bool) → is_at (nat_cmp k) q ≡ t → contains nat_cmp new q ≡ cond (is_at (nat_cmp k) q) false (contains nat_cmp old q) → (q ≢ k) × Has old q
  go true e at =
      let gone : contains nat_cmp new q ≡ false = at ∙ rw e refl in
      absurd cc
  go false e at =
      let kept : contains nat_cmp new q ≡ contains nat_cmp old q = at ∙ rw e refl in
      let apart : q ≢ k = λ same. (let here : is_at (nat_cmp k) q ≡ true = subst (λ (x : ℕ). is_at (nat_cmp k) x ≡ true) (sym same) (at_self k) in absurd cc) in
      (apart, sym kept ∙ has)

pub left : (old new : BTreeSet ℕ) (k q : ℕ) → Updates nat_cmp old new k false → Has old q → (q ≡ k) ⊎ Has new q
left old new k q u has = go (is_at (nat_cmp k) q) refl (u.0 q) where
  go : (t : Bool) → is_at (nat_cmp k) q ≡ t → contains nat_cmp new q ≡ cond (is_at (nat_cmp k) q) false (contains nat_cmp old q) → (q ≡ k) ⊎ Has new q
  go true e at = inl (sym (at_same k q e))
  go false e at = inr (at ∙ (rw e refl ∙ has))

not_above : (k q : ℕ) → is_gt (nat_cmp k q) ≡ false → k ≤ q
not_above k q e = grind (arith, nat_tests)

-- the least line of a set
pub least_line : (set : BTreeSet ℕ) (k q : ℕ) → IsLowerBound nat_cmp set k → Has set q → k ≤ q
least_line set k q least has = not_above k q (least q has)
