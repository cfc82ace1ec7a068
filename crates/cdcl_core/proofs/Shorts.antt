-- Clauses of at most one literal, and what holds where all was looked at.
use Rattle.std.proofs.Common.{◌≡◌, ◌∙◌, ◌<◌, ◌≤◌, ◌+◌, ◌*◌, ◌-◌, ◌/◌, inl, inr, ℕ, true, refl, sym, ap, subst, arith, List, [], ◌∷◌, length, drop}
use Rattle.std.specs.Prelude.{◌≢◌, Option, Some, None, IsTrue, MatchOption}
use Rattle.std.specs.List.{All}
use Rattle.std.proofs.lemmas.Bool.{cases_lt, cases_eq}
use Rattle.std.proofs.lemmas.Option.{none-some, same_Some}
use Rattle.std.proofs.lemmas.List.Elements.{All-get_or, All-from_get_or}
use Rattle.rsfq_ids.specs.Formula.{Clause, opposite, IsOver}
use Rattle.proof_arena.specs.Log.{Log, clauses_of}
use Rattle.proof_arena.specs.Step.{is_among}
use Rattle.cdcl_core.specs.declared.trail.TrueLit.{TrueLit}
use Rattle.cdcl_core.specs.declared.watches.Node.{Node}
use Rattle.cdcl_core.specs.Trail.{level_in, is_true, level_of, up_to, IsFalse, IsQuiet, IsForced, IsTrail, clause_at}
use Rattle.cdcl_core.specs.Oldest.{oldest}
use Rattle.cdcl_core.specs.Search.{IsGrown, IsConflict}
use Rattle.cdcl_core.specs.Watch.{node_at, IsCore, IsShort, IsUsed, IsWatched, IsMadeTrue}
use Rattle.cdcl_core.proofs.Opposites.{opp_half, opp_opp}
use Rattle.cdcl_core.proofs.Chains.{differ_bools, among_cases, has_head}
use Rattle.cdcl_core.proofs.Members.{all_among, over_at}
use Rattle.cdcl_core.proofs.Trails.{at_newest, not_both, some_level, is_true_at, option_cases, level_below, true_up, lower_quiet, stays}
use Rattle.cdcl_core.proofs.Growing.{oldest_grown}
use Rattle.cdcl_core.proofs.Visiting.{Keeps, guard_kept, partner_used, grown_one, grown_same}
use Rattle.cdcl_core.proofs.Passing.{core_grown}

only : (lit other : ℕ) → is_among (lit ∷ []) other ≡ true → other ≡ lit
only lit other h = elim (among_cases lit other [] h) [ inl e ↦ e | inr none ↦ absurd (differ_bools (sym none)) ]

-- a lone literal of a clause that is neither false nor unit is true
pub quiet_lone : (trail : List TrueLit) (lit : ℕ) → IsQuiet trail (lit ∷ []) → IsTrue (is_true trail lit)
quiet_lone trail lit quiet = elim quiet [
  | inl a ↦ subst (λ l. IsTrue (is_true trail l)) (only lit a.0 a.1.0) a.1.1
  | inr b ↦ absurd (b.1.1.differ (only lit b.0 b.1.1.has_one ∙ sym (only lit b.1.0 b.1.1.has_other)))
]

pub quiet_empty : (trail : List TrueLit) → IsQuiet trail [] → ⊥
quiet_empty trail quiet = elim quiet [ inl a ↦ differ_bools (sym a.1.0) | inr b ↦ differ_bools (sym b.1.1.has_one) ]

-- above level 0 a lone literal is true since level 0
lone_below : (vars : ℕ) (clauses : List Clause) (trail : List TrueLit) (id lit : ℕ) → IsTrail vars clauses trail → id < length clauses → clause_at clauses id ≡ lit ∷ [] → 0 < level_of trail → level_in trail lit ≡ Some 0
lone_below vars clauses trail id lit t known is up =
    let quiet : IsQuiet (up_to 0 trail) (lit ∷ []) = subst (IsQuiet (up_to 0 trail)) is (All-get_or (IsQuiet (up_to 0 trail)) clauses id [] known (lower_quiet vars clauses trail 0 t up)) in
    let at = some_level (up_to 0 trail) lit (quiet_lone (up_to 0 trail) lit quiet) in
    let there = true_up vars clauses trail 0 lit at.0 t at.1 in
    let zero_is : at.0 ≡ 0 = let l : at.0 ≤ 0 = there.1 in omega arith in
    there.0 ∙ ap Some zero_is

pub lone_level : (vars : ℕ) (clauses : List Clause) (trail : List TrueLit) (id lit k : ℕ) → IsTrail vars clauses trail → id < length clauses → clause_at clauses id ≡ lit ∷ [] → level_in trail lit ≡ Some k → level_in trail lit ≡ Some 0
lone_level vars clauses trail id lit k t known is at = elim (cases_lt 0 (level_of trail)) [
  | inl up ↦ lone_below vars clauses trail id lit t known is up
  | inr down ↦
      let low : k ≤ level_of trail = level_below vars clauses trail lit k t at in
      let zero_is : k ≡ 0 = omega arith in
      at ∙ ap Some zero_is
]

pub lone_open : (vars : ℕ) (clauses : List Clause) (trail : List TrueLit) (id lit : ℕ) → IsTrail vars clauses trail → id < length clauses → clause_at clauses id ≡ lit ∷ [] → level_in trail lit ≡ None → level_of trail ≡ 0
lone_open vars clauses trail id lit t known is open_lit = elim (cases_lt 0 (level_of trail)) [
  | inl up ↦ absurd (none-some 0 (sym open_lit ∙ lone_below vars clauses trail id lit t known is up))
  | inr down ↦ omega arith
]

-- a core whose trail grew by clauses
pub core_kept : (vars : ℕ) (clauses : List Clause) (given : ℕ) (trail new : List TrueLit) (done fresh : ℕ) (heads : List (Option ℕ)) (nodes : List Node)
    → IsCore vars clauses given trail done fresh heads nodes → IsGrown trail new → IsTrail vars clauses new → Keeps trail new → length trail ≤ length new → IsCore vars clauses given new done fresh heads nodes
core_kept vars clauses given trail new done fresh heads nodes core grown t keeps longer =
    let w = core.watched.1 in
    let looked : oldest done new ≡ oldest done trail = oldest_grown trail new done grown core.done_in in
    let in_trail : done ≤ length trail = core.done_in in
    let watched : IsWatched clauses new (oldest done trail) heads nodes core.watched.0 [] = record {
      linked = w.linked;
      watches = w.watches;
      guarded = λ n u h. guard_kept trail new (oldest done trail) _ _ keeps (w.guarded n u h);
    } in
    core_grown vars clauses given trail new done done fresh heads heads nodes nodes core.watched.0 core grown t (omega arith) (omega arith) core.heads_len core.nodes_len core.over
    (subst (λ (xs : List TrueLit). IsWatched clauses new xs heads nodes core.watched.0 []) (sym looked) watched)

-- one more clause of the formula was looked at
pub core_fresh : (vars : ℕ) (clauses : List Clause) (given : ℕ) (trail : List TrueLit) (done fresh : ℕ) (heads : List (Option ℕ)) (nodes : List Node)
    → IsCore vars clauses given trail done fresh heads nodes → fresh < given → (length (clause_at clauses fresh) < 2 → IsShort trail (clause_at clauses fresh)) → IsCore vars clauses given trail done (fresh + 1) heads nodes
core_fresh vars clauses given trail done fresh heads nodes core more here = record {
  few = core.few;
  trail_is = core.trail_is;
  given_in = core.given_in;
  fresh_in = omega arith;
  done_in = core.done_in;
  behind = core.behind;
  heads_len = core.heads_len;
  nodes_len = core.nodes_len;
  over = core.over;
  shorts = λ id known which short. elim (cases_eq id fresh) [
    | inl e ↦ subst (λ i. IsShort trail (clause_at clauses i)) (sym e) (here (subst (λ i. length (clause_at clauses i) < 2) e short))
    | inr d ↦ core.shorts id known (elim which [ inl l ↦ inl (omega arith) | inr g ↦ inr g ]) short
  ];
  watched = core.watched;
}

-- the lone literal of a clause was made true
pub lone_made : (vars : ℕ) (clauses : List Clause) (given : ℕ) (trail new : List TrueLit) (done fresh lit : ℕ) (heads : List (Option ℕ)) (nodes : List Node)
    → IsCore vars clauses given trail done fresh heads nodes → fresh < given → clause_at clauses fresh ≡ lit ∷ [] → lit < 2 * vars → IsMadeTrue trail new lit fresh
    → IsCore vars clauses given new done (fresh + 1) heads nodes × IsGrown trail new
lone_made vars clauses given trail new done fresh lit heads nodes core more is small made =
    let known : fresh < length clauses = omega (arith, core.given_in) in
    elim made [
      | inl old ↦
          let core_new : IsCore vars clauses given trail done (fresh + 1) heads nodes = core_fresh vars clauses given trail done fresh heads nodes core more
          (λ short. (lit, (is, lone_level vars clauses trail fresh lit old.0.0 core.trail_is known is old.0.1))) in
          subst (λ (xs : List TrueLit). IsCore vars clauses given xs done (fresh + 1) heads nodes × IsGrown trail xs) (sym old.1) (core_new, grown_same trail)
      | inr pushed ↦
          let e : TrueLit = record { lit = lit; level = level_of trail; reason = Some fresh } in
          let grown : IsGrown trail (e ∷ trail) = grown_one trail lit (Some fresh) in
          let forced : IsForced clauses trail fresh lit = record {
            known = known;
            has = subst (λ (k : Clause). is_among k lit ≡ true) (sym is) (has_head lit []);
            others = λ other h d. absurd (d (only lit other (subst (λ (k : Clause). is_among k other ≡ true) is h)));
          } in
          let t : IsTrail vars clauses (e ∷ trail) = (record { within = small; free = pushed.0; made = (refl, forced) }, core.trail_is) in
          let keeps : Keeps trail (e ∷ trail) = λ l k h. stays e trail l k pushed.0 h in
          let kept : IsCore vars clauses given (e ∷ trail) done fresh heads nodes = core_kept vars clauses given trail (e ∷ trail) done fresh heads nodes core grown t keeps (omega arith) in
          let level : level_of trail ≡ 0 = lone_open vars clauses trail fresh lit core.trail_is known is pushed.0.one in
          let at : level_in (e ∷ trail) lit ≡ Some 0 = at_newest e trail lit refl ∙ ap Some level in
          let core_new : IsCore vars clauses given (e ∷ trail) done (fresh + 1) heads nodes = core_fresh vars clauses given (e ∷ trail) done fresh heads nodes kept more (λ short. (lit, (is, at))) in
          subst (λ (xs : List TrueLit). IsCore vars clauses given xs done (fresh + 1) heads nodes × IsGrown trail xs) (sym pushed.1) (core_new, grown)
    ]

long_quiet : (trail : List TrueLit) (clause : Clause) (a b : ℕ) → is_among clause a ≡ true → is_among clause b ≡ true → a ≢ b
    → ((k : ℕ) → level_in trail (opposite a) ≡ Some k → (j : ℕ) × (level_in trail b ≡ Some j)) → ((k : ℕ) → level_in trail (opposite b) ≡ Some k → (j : ℕ) × (level_in trail a ≡ Some j))
    → IsQuiet trail clause
long_quiet trail clause a b has_a has_b differ guard_a guard_b = elim (option_cases (level_in trail a)) [
  | inr t ↦ inl (a, (has_a, is_true_at trail a t.0 t.1))
  | inl open_a ↦ elim (option_cases (level_in trail b)) [
    | inr t ↦ inl (b, (has_b, is_true_at trail b t.0 t.1))
    | inl open_b ↦
        let not_a : level_in trail (opposite a) ≡ None = elim (option_cases (level_in trail (opposite a))) [
          | inl none ↦ none
          | inr some ↦ let g = guard_a some.0 some.1 in absurd (none-some g.0 (sym open_b ∙ g.1))
        ] in
        let not_b : level_in trail (opposite b) ≡ None = elim (option_cases (level_in trail (opposite b))) [
          | inl none ↦ none
          | inr some ↦ let g = guard_b some.0 some.1 in absurd (none-some g.0 (sym open_a ∙ g.1))
        ] in
        inr (a, (b, record { has_one = has_a; has_other = has_b; differ = differ; free_one = record { one = open_a; other = not_a }; free_other = record { one = open_b; other = not_b } }))
  ]
]

-- where all was looked at, no clause is false or unit
pub all_quiet : (vars : ℕ) (clauses : List Clause) (given : ℕ) (trail : List TrueLit) (done fresh : ℕ) (heads : List (Option ℕ)) (nodes : List Node)
    → IsCore vars clauses given trail done fresh heads nodes → fresh ≡ given → done ≡ length trail → All (IsQuiet trail) clauses
all_quiet vars clauses given trail done fresh heads nodes core all_fresh all_done =
    let none_left : length trail - done ≡ 0 = omega arith in
    let looked : oldest done trail ≡ trail = ap (λ n. drop n trail) none_left in
    let w = core.watched.1 in
    All-from_get_or (IsQuiet trail) clauses [] (λ id known. elim (cases_lt (length (clause_at clauses id)) 2) [
      | inl short ↦
          let s = core.shorts id known (elim (cases_lt id fresh) [ inl l ↦ inl l | inr g ↦ inr (omega arith) ]) short in
          subst (IsQuiet trail) (sym s.1.0) (inl (s.0, (has_head s.0 [], is_true_at trail s.0 0 s.1.1)))
      | inr long ↦
          let n = 2 * id in
          let half : n / 2 ≡ id = omega arith in
          let used : IsUsed clauses (2 * length clauses) n = record { below = omega arith; long = subst (λ i. 2 ≤ length (clause_at clauses i)) (sym half) long } in
          let used_other = partner_used clauses n used in
          let a = (node_at nodes n).lit in
          let b = (node_at nodes (opposite n)).lit in
          let has_a : is_among (clause_at clauses id) a ≡ true = subst (λ i. is_among (clause_at clauses i) a ≡ true) half (w.watches.has n used) in
          let has_b : is_among (clause_at clauses id) b ≡ true = subst (λ i. is_among (clause_at clauses i) b ≡ true) (opp_half n ∙ half) (w.watches.has (opposite n) used_other) in
          let g = w.guarded n used refl in
          let h = w.guarded (opposite n) used_other refl in
          let back : (node_at nodes (opposite (opposite n))).lit ≡ a = ap (λ k. (node_at nodes k).lit) (opp_opp n) in
          long_quiet trail (clause_at clauses id) a b has_a has_b (w.watches.differ n used)
          (λ k e. let r = g k (ap (λ (xs : List TrueLit). level_in xs (opposite a)) looked ∙ e) in (r.0, r.1.0))
          (λ k e. let r = h k (ap (λ (xs : List TrueLit). level_in xs (opposite b)) looked ∙ e) in (r.0, ap (level_in trail) (sym back) ∙ r.1.0))
    ])

-- a clause that is neither false nor unit is not false
pub quiet_false : (vars : ℕ) (clauses : List Clause) (trail : List TrueLit) (clause : Clause) → IsTrail vars clauses trail → IsQuiet trail clause → IsFalse trail clause → ⊥
quiet_false vars clauses trail clause t quiet all = elim quiet [
  | inl a ↦ not_both vars clauses trail a.0 t a.1.1 (all_among (λ lit. IsTrue (is_true trail (opposite lit))) clause a.0 all a.1.0)
  | inr b ↦
      let at = some_level trail (opposite b.0) (all_among (λ lit. IsTrue (is_true trail (opposite lit))) clause b.0 all b.1.1.has_one) in
      none-some at.0 (sym b.1.1.free_one.other ∙ at.1)
]

-- what follows where a clause of at most one literal was looked at
pub record IsLoneDone (vars : ℕ) (clauses : List Clause) (given : ℕ) (trail new : List TrueLit) (done fresh : ℕ) (heads : List (Option ℕ)) (nodes : List Node) (result : Option ℕ) : Type 0 where
  pub core : result ≡ None → IsCore vars clauses given new done (fresh + 1) heads nodes
  pub grown : IsGrown trail new
  pub still : All (IsQuiet trail) clauses → (new ≡ trail) × (result ≡ None)
  pub broken : (k : ℕ) → result ≡ Some k → IsConflict clauses new k

pub lone_done : (vars : ℕ) (clauses : List Clause) (given : ℕ) (trail new : List TrueLit) (done fresh id : ℕ) (heads : List (Option ℕ)) (nodes : List Node) (clause : Clause) (result : Option ℕ)
    → IsCore vars clauses given trail done fresh heads nodes → fresh < given → id ≡ fresh → clause_at clauses fresh ≡ clause → IsOver vars clause
    → MatchOption result ((lit : ℕ) × ((clause ≡ lit ∷ []) × IsMadeTrue trail new lit id)) (λ found. (found ≡ id) × ((new ≡ trail) × IsFalse trail clause))
    → IsLoneDone vars clauses given trail new done fresh heads nodes result
lone_done vars clauses given trail new done fresh id heads nodes clause None core more at is over m =
    let small : m.0 < 2 * vars = over_at vars clause m.0 over (subst (λ (k : Clause). is_among k m.0 ≡ true) (sym m.1.0) (has_head m.0 [])) in
    let known : fresh < length clauses = omega (arith, core.given_in) in
    let both = lone_made vars clauses given trail new done fresh m.0 heads nodes core more (is ∙ m.1.0) small (subst (IsMadeTrue trail new m.0) at m.1.1) in
    record {
      core = λ none. both.0;
      grown = both.1;
      still = λ quiet.
          let here : IsQuiet trail (m.0 ∷ []) = subst (IsQuiet trail) (is ∙ m.1.0) (All-get_or (IsQuiet trail) clauses fresh [] known quiet) in
          elim m.1.1 [
            | inl old ↦ (old.1, refl)
            | inr pushed ↦ let t = some_level trail m.0 (quiet_lone trail m.0 here) in absurd (none-some t.0 (sym pushed.0.one ∙ t.1))
          ];
      broken = λ k e. absurd (none-some k e);
    }
lone_done vars clauses given trail new done fresh id heads nodes clause (Some found) core more at is over m =
    let known : fresh < length clauses = omega (arith, core.given_in) in
    let false_here : IsFalse trail (clause_at clauses fresh) = subst (IsFalse trail) (sym is) m.1.1 in
    record {
      core = λ e. absurd (none-some found (sym e));
      grown = subst (IsGrown trail) (sym m.1.0) (grown_same trail);
      still = λ quiet. absurd (quiet_false vars clauses trail (clause_at clauses fresh) core.trail_is (All-get_or (IsQuiet trail) clauses fresh [] known quiet) false_here);
      broken = λ k e.
          let same : fresh ≡ k = sym at ∙ (sym m.0 ∙ same_Some found k e) in
          let whole : IsConflict clauses trail fresh = record { known = known; false = false_here } in
          subst (λ (xs : List TrueLit). IsConflict clauses xs k) (sym m.1.0) (subst (IsConflict clauses trail) same whole);
    }

-- where nothing was false or unit, nothing changes, step by step
pub still_on : (one two : Log) (old mid new : List TrueLit) (r : Option ℕ) → two ≡ one → (All (IsQuiet old) (clauses_of one) → mid ≡ old) → (All (IsQuiet mid) (clauses_of two) → (new ≡ mid) × (r ≡ None))
    → All (IsQuiet old) (clauses_of one) → (new ≡ old) × (r ≡ None)
still_on one two old mid new r same first second quiet =
    let is = first quiet in
    let there : All (IsQuiet mid) (clauses_of two) = subst (λ (log : Log). All (IsQuiet mid) (clauses_of log)) (sym same) (subst (λ (xs : List TrueLit). All (IsQuiet xs) (clauses_of one)) (sym is) quiet) in
    let next = second there in
    (next.0 ∙ is, next.1)
