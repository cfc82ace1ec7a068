-- One true literal of an analysis.
use Rattle.std.proofs.Common.{◌≡◌, ◌∙◌, ◌<◌, ◌≤◌, ◌+◌, ◌-◌, ◌⊎◌, inl, inr, ℕ, Bool, true, false, refl, sym, ap, subst, arith, List, [], ◌∷◌, ◌++◌, length, reverse, not}
use Rattle.std.specs.Prelude.{◌==◌, ◌≢◌, ◌||◌, Option, Some, None, IsTrue}
use Rattle.std.specs.List.{filter, list_any, list_all}
use Rattle.std.proofs.lemmas.Bool.{cases_Bool, cases_eq, cases_lt, eq-eqb, or_left, or_right, or_cases, and_from}
use Rattle.std.proofs.lemmas.Option.{none-some, same_Some, slice_get-get_or}
use Rattle.std.proofs.lemmas.List.{reverse-append}
use Rattle.std.proofs.lemmas.List.Elements.{All-push, All-cons, All-nil, All-get_or}
use Rattle.rsfq_ids.specs.Formula.{Clause, opposite}
use Rattle.proof_arena.specs.Step.{is_among, makes_false, reading, reading_of_rest, ends_in_conflict, after_clause, after_hint}
use Rattle.proof_arena.specs.declared.hint.HintReading.{HintReading}
use Rattle.proof_arena.specs.declared.hint.HintReading.TheVariants.{Conflict, Passed, Unit as UnitLit}
use Rattle.cdcl_core.specs.declared.trail.TrueLit.{TrueLit}
use Rattle.cdcl_core.specs.Trail.{level_in, is_true, level_of, up_to, IsFalse, IsQuiet, IsMade, IsForced, IsTrail, clause_at}
use Rattle.cdcl_core.specs.Search.{IsConflict}
use Rattle.cdcl_core.specs.Analysis.{open_in, Leads, AreBehind, IsShape, IsAnalysis, IsNext}
use Rattle.cdcl_core.proofs.Opposites.{opp_opp, opp_turn}
use Rattle.cdcl_core.proofs.Chains.{differ_bools, among_cases, has_head, has_tail}
use Rattle.cdcl_core.proofs.Members.{all_among, among_all, among_push, push_old, push_new}
use Rattle.cdcl_core.proofs.Trails.{true_cases, consistent, stays, at_newest, some_level, is_true_at, made_level, level_below, lower_quiet, up_true, up_trail}
use Rattle.cdcl_core.specs.Oldest.{oldest}
use Rattle.cdcl_core.proofs.Growing.{oldest_true, oldest_trail}
use Rattle.cdcl_core.proofs.Shorts.{quiet_false}
use Rattle.cdcl_core.proofs.Marking.{counts, counts_not_marked, counts_not_level, count_below, open_none}

-- what a filter keeps
kept_among : (p : ℕ → Bool) (xs : List ℕ) (x : ℕ) → is_among (filter p xs) x ≡ true → (is_among xs x ≡ true) × (p x ≡ true)
kept_among p [] x h = absurd (differ_bools (sym h))
kept_among p (y ∷ ys) x h = elim (cases_Bool (p y)) [
  | inl keep ↦ elim (among_cases y x (filter p ys) (rw keep at h)) [
    | inl e ↦ (subst (λ z. is_among (y ∷ ys) z ≡ true) (sym e) (has_head y ys), ap p e ∙ keep)
    | inr r ↦ let rest = kept_among p ys x r in (has_tail y x ys rest.0, rest.1)
  ]
  | inr drop ↦ let rest = kept_among p ys x (rw drop at h) in (has_tail y x ys rest.0, rest.1)
]

not_open : (b : Bool) → not b ≡ true → b ≡ true → ⊥
not_open b e f = cc

any_one : (f : ℕ → Bool) (lit : ℕ) (xs : List ℕ) → ((x : ℕ) → is_among xs x ≡ true → x ≡ lit) → list_any f xs ≡ true → f lit ≡ true
any_one f lit [] all h = absurd (differ_bools (sym h))
any_one f lit (x ∷ xs) all h = elim (or_cases (f x) (list_any f xs) h) [
  | inl here ↦ ap f (sym (all x (has_head x xs))) ∙ here
  | inr rest ↦ any_one f lit xs (λ y m. all y (has_tail x y xs m)) rest
]

all_one : (lit x : ℕ) (xs : List ℕ) → x ≡ lit → ((y : ℕ) → is_among xs y ≡ true → y ≡ lit) → list_all (λ other. x == other) xs ≡ true
all_one lit x [] e all = refl
all_one lit x (y ∷ ys) e all = and_from (x == y) (list_all (λ other. x == other) ys) (eq-eqb x y (e ∙ sym (all y (has_head y ys)))) (all_one lit x ys e (λ z m. all z (has_tail y z ys m)))

-- what a clause says where all its literals but one are false
abbrev Says : (ℕ → Bool) → ℕ → HintReading → Type 0
Says falses lit said = (said ≡ Conflict) ⊎ (((said ≡ Passed) × (falses (opposite lit) ≡ true)) ⊎ (said ≡ UnitLit lit))

rest_says : (falses : ℕ → Bool) (lit : ℕ) (left : List ℕ) → ((x : ℕ) → is_among left x ≡ true → x ≡ lit) → Says falses lit (reading_of_rest falses left)
rest_says falses lit [] all = inl refl
rest_says falses lit (x ∷ rest) all = elim (cases_Bool (list_any (λ l. falses (opposite l)) (x ∷ rest))) [
  | inl passed ↦ inr (inl (rw passed refl, any_one (λ l. falses (opposite l)) lit (x ∷ rest) all passed))
  | inr none ↦
      let same : list_all (λ other. x == other) rest ≡ true = all_one lit x rest (all x (has_head x rest)) (λ y m. all y (has_tail x y rest m)) in
      let unit : reading_of_rest falses (x ∷ rest) ≡ UnitLit x = rw (none, same) refl in
      inr (inr (unit ∙ ap UnitLit (all x (has_head x rest))))
]

pub clause_says : (falses : ℕ → Bool) (lit : ℕ) (clause : Clause) → ((other : ℕ) → is_among clause other ≡ true → other ≢ lit → falses other ≡ true) → Says falses lit (reading falses clause)
clause_says falses lit clause others = rest_says falses lit (filter (λ l. not (falses l)) clause) (λ x h.
    let kept = kept_among (λ l. not (falses l)) clause x h in
    elim (cases_eq x lit) [ inl e ↦ e | inr d ↦ absurd (not_open (falses x) kept.1 (others x kept.0 d)) ])

none_kept : (p : ℕ → Bool) (xs : List ℕ) → ((x : ℕ) → is_among xs x ≡ true → p x ≡ false) → filter p xs ≡ []
none_kept p [] all = refl
none_kept p (x ∷ xs) all = rw (all x (has_head x xs)) (none_kept p xs (λ y m. all y (has_tail x y xs m)))

not_true : (b : Bool) → b ≡ true → not b ≡ false
not_true b e = rw e refl

pub clause_conflicts : (falses : ℕ → Bool) (clause : Clause) → ((lit : ℕ) → is_among clause lit ≡ true → falses lit ≡ true) → reading falses clause ≡ Conflict
clause_conflicts falses clause all = ap (reading_of_rest falses) (none_kept (λ l. not (falses l)) clause (λ x h. not_true (falses x) (all x h)))

-- the first hint
first_hint : (clauses : List Clause) (falses : ℕ → Bool) (id : ℕ) (hints : List ℕ) → id < length clauses
    → ends_in_conflict clauses falses (id ∷ hints) ≡ after_hint falses (λ known. ends_in_conflict clauses known hints) (reading falses (clause_at clauses id))
first_hint clauses falses id hints known = ap (after_clause falses (λ known. ends_in_conflict clauses known hints)) (slice_get-get_or clauses id [] known)

said_ends : (falses : ℕ → Bool) (rest : (ℕ → Bool) → Bool) (lit : ℕ) (said : HintReading) → Says falses lit said → (falses (opposite lit) ≡ true → rest falses ≡ true) → rest (makes_false falses (opposite lit)) ≡ true → after_hint falses rest said ≡ true
said_ends falses rest lit said says passed unit = elim says [
  | inl e ↦ ap (after_hint falses rest) e
  | inr more ↦ elim more [ inl p ↦ ap (after_hint falses rest) p.0 ∙ passed p.1 | inr u ↦ ap (after_hint falses rest) u ∙ unit ]
]

-- the hints read with one more in front
turned : (hints : List ℕ) (id : ℕ) → reverse (hints ++ id ∷ []) ≡ id ∷ reverse hints
turned hints id = reverse-append hints (id ∷ [])

-- a marked literal of the newest true one, or of an older one
marked_cases : (entry : TrueLit) (older : List TrueLit) (lit : ℕ) → IsTrue (is_true (entry ∷ older) (opposite lit)) → (lit ≡ opposite entry.lit) ⊎ IsTrue (is_true older (opposite lit))
marked_cases entry older lit t =
    let at = some_level (entry ∷ older) (opposite lit) t in
    elim (true_cases entry older (opposite lit) at.0 at.1) [
      | inl a ↦ inl (opp_turn lit entry.lit a.0)
      | inr b ↦ inr (is_true_at older (opposite lit) at.0 b.1)
    ]

pub leads_resolved : (clauses : List Clause) (entry : TrueLit) (older : List TrueLit) (id : ℕ) (marked new : ℕ → Bool) (learnt : Clause) (hints : List ℕ)
    → IsForced clauses older id entry.lit → Leads clauses (entry ∷ older) marked learnt hints → ((lit : ℕ) → new lit ≡ (is_among (clause_at clauses id) lit || marked lit))
    → Leads clauses older new learnt (hints ++ id ∷ [])
leads_resolved clauses entry older id marked new learnt hints forced leads marks = λ falses olds learnts.
    let others : (other : ℕ) → is_among (clause_at clauses id) other ≡ true → other ≢ entry.lit → falses other ≡ true =
    λ other h d. olds other (forced.others other h d) (marks other ∙ or_left (is_among (clause_at clauses id) other) (marked other) h) in
    let on : (known : ℕ → Bool) → ((lit : ℕ) → falses lit ≡ true → known lit ≡ true) → known (opposite entry.lit) ≡ true → ends_in_conflict clauses known (reverse hints) ≡ true =
    λ known more here. leads known
    (λ lit t m. elim (marked_cases entry older lit t) [
      | inl e ↦ ap known e ∙ here
      | inr old ↦ more lit (olds lit old (marks lit ∙ or_right (is_among (clause_at clauses id) lit) (marked lit) m))
    ])
    (λ lit h. more lit (learnts lit h)) in
    ap (ends_in_conflict clauses falses) (turned hints id)
    ∙ (first_hint clauses falses id (reverse hints) forced.known
    ∙ said_ends falses (λ known. ends_in_conflict clauses known (reverse hints)) entry.lit (reading falses (clause_at clauses id)) (clause_says falses entry.lit (clause_at clauses id) others)
    (λ here. on falses (λ lit t. t) here)
    (on (makes_false falses (opposite entry.lit)) (λ lit t. or_right (lit == opposite entry.lit) (falses lit) t) (or_left (opposite entry.lit == opposite entry.lit) (falses (opposite entry.lit)) (eq-eqb (opposite entry.lit) (opposite entry.lit) refl))))

pub leads_taken : (clauses : List Clause) (entry : TrueLit) (older : List TrueLit) (marked : ℕ → Bool) (learnt : Clause) (hints : List ℕ)
    → Leads clauses (entry ∷ older) marked learnt hints → Leads clauses older marked (learnt ++ opposite entry.lit ∷ []) hints
leads_taken clauses entry older marked learnt hints leads = λ falses olds learnts. leads falses
    (λ lit t m. elim (marked_cases entry older lit t) [
      | inl e ↦ ap falses e ∙ learnts (opposite entry.lit) (push_new learnt (opposite entry.lit))
      | inr old ↦ olds lit old m
    ])
    (λ lit h. learnts lit (push_old learnt (opposite entry.lit) lit h))

pub leads_skipped : (clauses : List Clause) (entry : TrueLit) (older : List TrueLit) (marked : ℕ → Bool) (learnt : Clause) (hints : List ℕ)
    → marked (opposite entry.lit) ≡ false → Leads clauses (entry ∷ older) marked learnt hints → Leads clauses older marked learnt hints
leads_skipped clauses entry older marked learnt hints off leads = λ falses olds learnts. leads falses
    (λ lit t m. elim (marked_cases entry older lit t) [
      | inl e ↦ absurd (differ_bools (sym m ∙ (ap marked e ∙ off)))
      | inr old ↦ olds lit old m
    ])
    learnts

-- the levels behind stay above those to come
behind_on : (trail : List TrueLit) (entry : TrueLit) (older : List TrueLit) (level : ℕ) (others : Clause) → level_of older ≤ entry.level → AreBehind trail (entry ∷ older) level others → AreBehind trail older level others
behind_on trail entry older level [] l b = b
behind_on trail entry older level (second ∷ rest) l b = (b.0, (b.1.0, (b.1.1.0, (let up : entry.level ≤ b.0 = b.1.1.1.0 in omega arith, b.1.1.1.1))))

shape_on : (trail : List TrueLit) (entry : TrueLit) (older : List TrueLit) (level count : ℕ) (learnt : Clause) → level_of older ≤ entry.level → IsShape trail (entry ∷ older) level count learnt → IsShape trail older level count learnt
shape_on trail entry older level count [] l s = s
shape_on trail entry older level count (first ∷ others) l s = (
  s.0,
  record {
    none_open = s.1.none_open;
    first_at = s.1.first_at;
    behind = behind_on trail entry older level others l s.1.behind;
    lower = let up : entry.level ≤ level = s.1.lower in omega arith;
  },
)

-- the newest true literal is not marked
pub skipped : (vars : ℕ) (clauses : List Clause) (trail : List TrueLit) (entry : TrueLit) (older : List TrueLit) (level : ℕ) (marked : ℕ → Bool) (count : ℕ) (learnt : Clause) (hints : List ℕ)
    → IsTrail vars clauses (entry ∷ older) → IsAnalysis clauses trail (entry ∷ older) level marked count learnt hints → marked (opposite entry.lit) ≡ false → IsAnalysis clauses trail older level marked count learnt hints
skipped vars clauses trail entry older level marked count learnt hints t a off = record {
  leads = leads_skipped clauses entry older marked learnt hints off a.leads;
  counted = a.counted ∙ counts_not_marked marked level entry older off;
  shape = shape_on trail entry older level count learnt (made_level clauses older entry.lit entry.level entry.reason t.0.made) a.shape;
  printed = a.printed;
}

-- it is replaced by the clause that made it true
shape_resolved : (vars : ℕ) (clauses : List Clause) (trail : List TrueLit) (entry : TrueLit) (older : List TrueLit) (level : ℕ) (marked new : ℕ → Bool) (count opened after : ℕ) (learnt : Clause)
    → IsTrail vars clauses (entry ∷ older) → marked (opposite entry.lit) ≡ true → count ≡ open_in marked level (entry ∷ older) → after ≡ open_in new level older → after ≡ opened + open_in marked level older
    → (entry.level ≡ 0) ⊎ ((entry.level < level) ⊎ ((entry.level ≡ level) × (1 < count)))
    → IsShape trail (entry ∷ older) level count learnt → IsShape trail older level after learnt
shape_resolved vars clauses trail entry older level marked new count opened after [] t here counted now more why s = λ up. elim (cases_eq entry.level level) [
  | inl e ↦
      let one = counts marked level entry older here e in
      elim why [
        | inl z ↦ let at : entry.level ≡ 0 = z in absurd (omega arith)
        | inr rest ↦ elim rest [
          | inl low ↦ let below : entry.level < level = low in absurd (omega arith)
          | inr l ↦ let big : 1 < count = l.1 in omega (arith, one)
        ]
      ]
  | inr d ↦ let same = counts_not_level marked level entry older d in let some : 1 ≤ count = s up in omega (arith, same)
]
shape_resolved vars clauses trail entry older level marked new count opened after (first ∷ others) t here counted now more why s =
    let step : level_of older ≤ entry.level = made_level clauses older entry.lit entry.level entry.reason t.0.made in
    let none : count ≡ 0 = s.1.none_open in
    let up : 0 < level = s.0 in
    let other : entry.level ≡ level → ⊥ = λ e. let one = counts marked level entry older here e in omega (arith, one) in
    let low : entry.level < level = elim why [ inl z ↦ omega arith | inr rest ↦ elim rest [ inl l ↦ l | inr l ↦ absurd (other l.0) ] ] in
    let none_now : open_in new level older ≡ 0 = count_below new level vars clauses older t.1 (omega arith) in (
      up,
      record {
        none_open = now ∙ none_now;
        first_at = s.1.first_at;
        behind = behind_on trail entry older level others step s.1.behind;
        lower = let top : entry.level ≤ level = s.1.lower in omega arith;
      },
    )

pub resolved : (vars : ℕ) (clauses : List Clause) (trail : List TrueLit) (entry : TrueLit) (older : List TrueLit) (level id : ℕ) (marked new : ℕ → Bool) (count opened after : ℕ) (learnt : Clause) (hints : List ℕ)
    → IsTrail vars clauses (entry ∷ older) → IsForced clauses older id entry.lit → marked (opposite entry.lit) ≡ true
    → ((lit : ℕ) → new lit ≡ (is_among (clause_at clauses id) lit || marked lit)) → open_in new level older ≡ opened + open_in marked level older → after ≡ opened + open_in marked level older
    → (entry.level ≡ 0) ⊎ ((entry.level < level) ⊎ ((entry.level ≡ level) × (1 < count)))
    → IsAnalysis clauses trail (entry ∷ older) level marked count learnt hints → IsAnalysis clauses trail older level new after learnt (hints ++ id ∷ [])
resolved vars clauses trail entry older level id marked new count opened after learnt hints t forced here marks opens is why a = record {
  leads = leads_resolved clauses entry older id marked new learnt hints forced a.leads marks;
  counted = is ∙ sym opens;
  shape = shape_resolved vars clauses trail entry older level marked new count opened after learnt t here a.counted (is ∙ sym opens) is why a.shape;
  printed = All-push (λ hint. hint < length clauses) hints id a.printed forced.known;
}

-- it is taken into the clause that is learnt
behind_push : (trail : List TrueLit) (entry : TrueLit) (older : List TrueLit) (level : ℕ) (others : Clause) → level_in trail entry.lit ≡ Some entry.level → entry.level < level → level_of older ≤ entry.level
    → AreBehind trail (entry ∷ older) level others → AreBehind trail older level (others ++ opposite entry.lit ∷ [])
behind_push trail entry older level [] at low step b =
    (entry.level, (ap (level_in trail) (opp_opp entry.lit) ∙ at, (low, (step, λ lit h. absurd (differ_bools (sym h))))))
behind_push trail entry older level (second ∷ rest) at low step b =
    let top : entry.level ≤ b.0 = b.1.1.1.0 in (
      b.0,
      (
        b.1.0,
        (
          b.1.1.0,
          (
            omega arith,
            λ lit h. elim (among_push rest (opposite entry.lit) lit h) [
              | inl old ↦ b.1.1.1.1 lit old
              | inr e ↦ (entry.level, (ap (λ l. level_in trail (opposite l)) e ∙ (ap (level_in trail) (opp_opp entry.lit) ∙ at), top))
            ],
          ),
        ),
      ),
    )

made_zero : (clauses : List Clause) (older : List TrueLit) (lit level : ℕ) → IsMade clauses older lit level None → level ≡ level_of older + 1
made_zero clauses older lit level m = m.0

shape_taken : (vars : ℕ) (clauses : List Clause) (trail : List TrueLit) (entry : TrueLit) (older : List TrueLit) (level : ℕ) (marked : ℕ → Bool) (count after : ℕ) (learnt : Clause)
    → IsTrail vars clauses (entry ∷ older) → marked (opposite entry.lit) ≡ true → level_in trail entry.lit ≡ Some entry.level → entry.level ≤ level
    → count ≡ open_in marked level (entry ∷ older) → after ≡ open_in marked level older
    → 0 < entry.level → (entry.level ≡ level → after ≡ 0)
    → IsShape trail (entry ∷ older) level count learnt → IsShape trail older level after (learnt ++ opposite entry.lit ∷ [])
shape_taken vars clauses trail entry older level marked count after [] t here at top counted now up last s =
    let step : level_of older ≤ entry.level = made_level clauses older entry.lit entry.level entry.reason t.0.made in
    let some : 1 ≤ count = s (omega arith) in
    let same : entry.level ≡ level = elim (cases_lt entry.level level) [
      | inl low ↦ let none = count_below marked level vars clauses (entry ∷ older) t low in absurd (omega (arith, none))
      | inr high ↦ omega arith
    ] in (
      omega arith,
      record {
        none_open = last same;
        first_at = ap (level_in trail) (opp_opp entry.lit) ∙ (at ∙ ap Some same);
        behind = omega arith;
        lower = omega arith;
      },
    )
shape_taken vars clauses trail entry older level marked count after (first ∷ others) t here at top counted now up last s =
    let step : level_of older ≤ entry.level = made_level clauses older entry.lit entry.level entry.reason t.0.made in
    let none : count ≡ 0 = s.1.none_open in
    let other : entry.level ≡ level → ⊥ = λ e. let one = counts marked level entry older here e in omega (arith, one) in
    let low : entry.level < level = elim (cases_lt entry.level level) [ inl l ↦ l | inr g ↦ absurd (other (omega arith)) ] in (
      s.0,
      record {
        none_open = let same = counts_not_level marked level entry older other in omega (arith, same);
        first_at = s.1.first_at;
        behind = behind_push trail entry older level others at low step s.1.behind;
        lower = omega arith;
      },
    )

pub taken : (vars : ℕ) (clauses : List Clause) (trail : List TrueLit) (entry : TrueLit) (older : List TrueLit) (level : ℕ) (marked : ℕ → Bool) (count after : ℕ) (learnt : Clause) (hints : List ℕ)
    → IsTrail vars clauses (entry ∷ older) → marked (opposite entry.lit) ≡ true → level_in trail entry.lit ≡ Some entry.level → entry.level ≤ level
    → after ≡ open_in marked level older → 0 < entry.level → (entry.level ≡ level → after ≡ 0)
    → IsAnalysis clauses trail (entry ∷ older) level marked count learnt hints → IsAnalysis clauses trail older level marked after (learnt ++ opposite entry.lit ∷ []) hints
taken vars clauses trail entry older level marked count after learnt hints t here at top now up last a = record {
  leads = leads_taken clauses entry older marked learnt hints a.leads;
  counted = now;
  shape = shape_taken vars clauses trail entry older level marked count after learnt t here at top a.counted now up last a.shape;
  printed = a.printed;
}

-- the clause that is false begins an analysis
pub begun : (vars : ℕ) (clauses : List Clause) (trail : List TrueLit) (id : ℕ) (marked : ℕ → Bool) (count : ℕ)
    → IsTrail vars clauses trail → IsConflict clauses trail id → ((lit : ℕ) → is_among (clause_at clauses id) lit ≡ true → marked lit ≡ true) → count ≡ open_in marked (level_of trail) trail
    → IsAnalysis clauses trail trail (level_of trail) marked count [] (id ∷ [])
begun vars clauses trail id marked count t conflict marks counted = record {
  leads = λ falses olds learnts.
      first_hint clauses falses id [] conflict.known
      ∙ ap (after_hint falses (λ known. ends_in_conflict clauses known []))
      (clause_conflicts falses (clause_at clauses id) (λ lit h. olds lit (all_among (λ l. IsTrue (is_true trail (opposite l))) (clause_at clauses id) lit conflict.false h) (marks lit h)));
  counted = counted;
  shape = λ up. elim (cases_lt 0 count) [
    | inl some ↦ some
    | inr none ↦
        let zero_open : open_in marked (level_of trail) trail ≡ 0 = omega arith in
        let k = level_of trail - 1 in
        let each : (lit : ℕ) → is_among (clause_at clauses id) lit ≡ true → IsTrue (is_true (up_to k trail) (opposite lit)) = λ lit h.
        let at = some_level trail (opposite lit) (all_among (λ l. IsTrue (is_true trail (opposite l))) (clause_at clauses id) lit conflict.false h) in
        let low : at.0 ≤ level_of trail = level_below vars clauses trail (opposite lit) at.0 t at.1 in
        let differ : at.0 ≡ level_of trail → ⊥ = λ e. open_none marked (level_of trail) lit vars clauses trail t zero_open (marks lit h) (at.1 ∙ ap Some e) in
        let below : at.0 ≤ k = elim (cases_eq at.0 (level_of trail)) [ inl e ↦ absurd (differ e) | inr d ↦ omega arith ] in
        is_true_at (up_to k trail) (opposite lit) at.0 (up_true vars clauses trail k (opposite lit) at.0 t at.1 below) in
        let false_below : IsFalse (up_to k trail) (clause_at clauses id) = among_all (λ l. IsTrue (is_true (up_to k trail) (opposite l))) (clause_at clauses id) each in
        let quiet : IsQuiet (up_to k trail) (clause_at clauses id) = All-get_or (IsQuiet (up_to k trail)) clauses id [] conflict.known (lower_quiet vars clauses trail k t (omega arith)) in
        absurd (quiet_false vars clauses (up_to k trail) (clause_at clauses id) (up_trail vars clauses trail k t) quiet false_below)
  ];
  printed = All-cons (λ hint. hint < length clauses) id [] conflict.known (All-nil (λ hint. hint < length clauses));
}

-- the newest true literal counts where its level is the one that counts
pub counts_closed : (marked : ℕ → Bool) (level : ℕ) (entry : TrueLit) (older : List TrueLit) (closed : ℕ) → marked (opposite entry.lit) ≡ true → (entry.level ≡ level → closed ≡ 1) → ((entry.level ≡ level → ⊥) → closed ≡ 0)
    → open_in marked level (entry ∷ older) ≡ closed + open_in marked level older
counts_closed marked level entry older closed here same differ = elim (cases_eq entry.level level) [
  | inl e ↦ let one = counts marked level entry older here e in let c = same e in omega (arith, one, c)
  | inr d ↦ let none = counts_not_level marked level entry older d in let c = differ d in omega (arith, none, c)
]

-- the literals of the clause that made the newest literal true are false before it
pub agree : (vars : ℕ) (clauses : List Clause) (trail : List TrueLit) (entry : TrueLit) (older : List TrueLit) (id lit : ℕ) → IsTrail vars clauses trail → IsNext vars clauses trail entry older → IsForced clauses older id entry.lit
    → is_among (clause_at clauses id) lit ≡ true → level_in older (opposite lit) ≡ level_in trail (opposite lit)
agree vars clauses trail entry older id lit t next forced h = elim (cases_eq lit entry.lit) [
  | inl e ↦
      let now : level_in trail entry.lit ≡ Some entry.level = next.part entry.lit entry.level (at_newest entry older entry.lit refl) in
      let off : level_in trail (opposite entry.lit) ≡ None = consistent vars clauses trail entry.lit entry.level t now in
      ap (λ l. level_in older (opposite l)) e ∙ (next.tail.0.free.other ∙ (sym off ∙ ap (λ l. level_in trail (opposite l)) (sym e)))
  | inr d ↦
      let at = some_level older (opposite lit) (forced.others lit h d) in
      at.1 ∙ sym (next.part (opposite lit) at.0 (stays entry older (opposite lit) at.0 next.tail.0.free at.1))
]

forced_by : (clauses : List Clause) (older : List TrueLit) (lit level id : ℕ) (reason : Option ℕ) → IsMade clauses older lit level reason → reason ≡ Some id → IsForced clauses older id lit
forced_by clauses older lit level id None m e = absurd (none-some id e)
forced_by clauses older lit level id (Some k) m e = subst (λ i. IsForced clauses older i lit) (same_Some k id e) m.1

pub reason_forced : (vars : ℕ) (clauses : List Clause) (trail : List TrueLit) (entry : TrueLit) (older : List TrueLit) (id : ℕ) → IsNext vars clauses trail entry older → entry.reason ≡ Some id → IsForced clauses older id entry.lit
reason_forced vars clauses trail entry older id next e = forced_by clauses older entry.lit entry.level id entry.reason next.tail.0.made e

decided_by : (clauses : List Clause) (older : List TrueLit) (lit level : ℕ) (reason : Option ℕ) → IsMade clauses older lit level reason → reason ≡ None → level ≡ level_of older + 1
decided_by clauses older lit level None m e = m.0
decided_by clauses older lit level (Some k) m e = absurd (none-some k (sym e))

-- where a literal may be taken
pub may_take : (vars : ℕ) (clauses : List Clause) (trail : List TrueLit) (entry : TrueLit) (older : List TrueLit) (level : ℕ) (marked : ℕ → Bool) (count closed : ℕ) → IsNext vars clauses trail entry older
    → marked (opposite entry.lit) ≡ true → count ≡ open_in marked level (entry ∷ older) → (entry.reason ≡ None) ⊎ ((0 < entry.level) × (entry.level ≡ level → count ≤ 1))
    → (0 < entry.level) × (entry.level ≡ level → open_in marked level older ≡ 0)
may_take vars clauses trail entry older level marked count closed next here counted why = elim why [
  | inl e ↦
      let up : entry.level ≡ level_of older + 1 = decided_by clauses older entry.lit entry.level entry.reason next.tail.0.made e in
      (omega arith, λ same. count_below marked level vars clauses older next.tail.1 (omega arith))
  | inr b ↦ (b.0, λ same. let few : count ≤ 1 = b.1 same in let one = counts marked level entry older here same in omega (arith, one))
]

-- the state of an analysis after the newest literal was replaced, as the fields have it
pub resolved_by : (vars : ℕ) (clauses : List Clause) (trail : List TrueLit) (entry : TrueLit) (older : List TrueLit) (level id : ℕ) (marked new : ℕ → Bool) (clause : Clause) (count closed opened : ℕ) (learnt : Clause) (hints : List ℕ)
    → IsTrail vars clauses trail → IsNext vars clauses trail entry older → entry.reason ≡ Some id → clause_at clauses id ≡ clause → marked (opposite entry.lit) ≡ true
    → ((lit : ℕ) → new lit ≡ (is_among clause lit || marked lit))
    → ((cs : List Clause) (ts : List TrueLit) → IsTrail vars cs ts → ((lit : ℕ) → is_among clause lit ≡ true → level_in ts (opposite lit) ≡ level_in trail (opposite lit)) → open_in new level ts ≡ opened + open_in marked level ts)
    → (entry.level ≡ level → closed ≡ 1) → ((entry.level ≡ level → ⊥) → closed ≡ 0)
    → (entry.level ≡ 0) ⊎ ((entry.level < level) ⊎ ((entry.level ≡ level) × (1 < count)))
    → IsAnalysis clauses trail (entry ∷ older) level marked count learnt hints
    → (closed ≤ count) × ((count - closed + opened ≡ open_in new level older) × IsAnalysis clauses trail older level new (count - closed + opened) learnt (hints ++ id ∷ []))
resolved_by vars clauses trail entry older level id marked new clause count closed opened learnt hints t next reason is here marks opens same differ why a =
    let forced = reason_forced vars clauses trail entry older id next reason in
    let with_clause : (lit : ℕ) → new lit ≡ (is_among (clause_at clauses id) lit || marked lit) = λ lit. marks lit ∙ ap (λ (c : Clause). is_among c lit || marked lit) (sym is) in
    let opened_is : open_in new level older ≡ opened + open_in marked level older =
    opens clauses older next.tail.1 (λ lit h. agree vars clauses trail entry older id lit t next forced (subst (λ (c : Clause). is_among c lit ≡ true) (sym is) h)) in
    let one : open_in marked level (entry ∷ older) ≡ closed + open_in marked level older = counts_closed marked level entry older closed here same differ in
    let counted : count ≡ open_in marked level (entry ∷ older) = a.counted in
    let after : count - closed + opened ≡ opened + open_in marked level older = omega arith in
    (omega arith, (after ∙ sym opened_is, resolved vars clauses trail entry older level id marked new count opened (count - closed + opened) learnt hints next.tail forced here with_clause opened_is after why a))

pub taken_by : (vars : ℕ) (clauses : List Clause) (trail : List TrueLit) (entry : TrueLit) (older : List TrueLit) (level : ℕ) (marked : ℕ → Bool) (count closed : ℕ) (learnt : Clause) (hints : List ℕ)
    → IsTrail vars clauses trail → IsNext vars clauses trail entry older → level ≡ level_of trail → marked (opposite entry.lit) ≡ true
    → (entry.level ≡ level → closed ≡ 1) → ((entry.level ≡ level → ⊥) → closed ≡ 0)
    → (entry.reason ≡ None) ⊎ ((0 < entry.level) × (entry.level ≡ level → count ≤ 1))
    → IsAnalysis clauses trail (entry ∷ older) level marked count learnt hints
    → (closed ≤ count) × IsAnalysis clauses trail older level marked (count - closed) (learnt ++ opposite entry.lit ∷ []) hints
taken_by vars clauses trail entry older level marked count closed learnt hints t next level_is here same differ why a =
    let at : level_in trail entry.lit ≡ Some entry.level = next.part entry.lit entry.level (at_newest entry older entry.lit refl) in
    let top : entry.level ≤ level_of trail = level_below vars clauses trail entry.lit entry.level t at in
    let one : open_in marked level (entry ∷ older) ≡ closed + open_in marked level older = counts_closed marked level entry older closed here same differ in
    let counted : count ≡ open_in marked level (entry ∷ older) = a.counted in
    let may = may_take vars clauses trail entry older level marked count closed next here counted why in
    let now : count - closed ≡ open_in marked level older = omega arith in
    (omega arith, taken vars clauses trail entry older level marked count (count - closed) learnt hints next.tail here at (omega arith) now may.0 (λ e. now ∙ may.1 e) a)

-- what comes next at a place
pub next_at : (vars : ℕ) (clauses : List Clause) (trail : List TrueLit) (entry : TrueLit) (place : ℕ) → IsTrail vars clauses trail → oldest (place + 1) trail ≡ entry ∷ oldest place trail → IsNext vars clauses trail entry (oldest place trail)
next_at vars clauses trail entry place t at = record {
  tail = subst (IsTrail vars clauses) at (oldest_trail vars clauses trail (place + 1) t);
  part = λ lit k h. oldest_true vars clauses trail (place + 1) lit k t (ap (λ (xs : List TrueLit). level_in xs lit) at ∙ h);
}
