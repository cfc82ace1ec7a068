-- A clause that was learnt is added.
use Rattle.std.proofs.Common.{◌≡◌, ◌∙◌, ◌<◌, ◌≤◌, ◌+◌, ◌*◌, ◌-◌, ◌/◌, ◌⊎◌, inl, inr, ℕ, refl, sym, ap, subst, arith, List, [], ◌∷◌, ◌++◌, length, length-append, get_or, append_assoc}
use Rattle.std.specs.Prelude.{◌≢◌, Option, Some, None, IsTrue}
use Rattle.std.proofs.lemmas.Bool.{cases_lt, cases_eq}
use Rattle.std.proofs.lemmas.Option.{none-some, same_Some}
use Rattle.std.proofs.lemmas.List.{get_or_append_left, get_or-append_right, get_or_push, length_push, map-append}
use Rattle.std.proofs.lemmas.List.Elements.{All-push}
use Rattle.rsfq_ids.specs.declared.limits.TheConstants.{FORMULA_LIMIT}
use Rattle.rsfq_ids.specs.Formula.{Clause, opposite, IsOver}
use Rattle.proof_arena.specs.Log.{Log, LogStep, clauses_of, lits_of}
use Rattle.proof_arena.specs.Step.{is_among, StepHolds}
use Rattle.cdcl_core.specs.declared.trail.TrueLit.{TrueLit}
use Rattle.cdcl_core.specs.declared.watches.Node.{Node}
use Rattle.cdcl_core.specs.Trail.{level_in, is_true, level_of, up_to, IsFree, IsQuiet, IsMade, IsForced, IsTrail, clause_at}
use Rattle.cdcl_core.specs.Oldest.{oldest}
use Rattle.cdcl_core.specs.Search.{IsUnit, IsAsserting, first_of}
use Rattle.cdcl_core.specs.Watch.{node_at, IsCore, IsShort, IsUsed, IsGuarded, IsWatched, IsWired, IsLinked, AreWatches, AreGuarded}
use Rattle.cdcl_core.proofs.Opposites.{opp_opp, opp_lt, opp_even, opp_odd}
use Rattle.cdcl_core.proofs.Chains.{among_cases, has_head, has_tail}
use Rattle.cdcl_core.proofs.Members.{all_among, over_at}
use Rattle.cdcl_core.proofs.Trails.{at_newest, option_cases, stays, up_above, up_whole, true_up, up_free, made_level}
use Rattle.cdcl_core.proofs.Growing.{oldest_true, oldest_grown}
use Rattle.cdcl_core.proofs.Visiting.{Keeps, guard_kept, grown_one}
use Rattle.cdcl_core.proofs.Linking.{IsSame, linked_same, watches_same, wired_same}

-- nodes with more behind them
pub same_more : (clauses : List Clause) (used : ℕ) (nodes more : List Node) → used ≤ length nodes → IsSame clauses clauses used nodes (nodes ++ more)
same_more clauses used nodes more l = record { clause = λ n b. refl; node = λ n b. get_or_append_left nodes more _ n (omega arith) }

guarded_same : (clauses : List Clause) (count : ℕ) (trail looked : List TrueLit) (nodes nodes_new : List Node) → ((n : ℕ) → n < 2 * count → node_at nodes_new n ≡ node_at nodes n) → (n : ℕ) → n < 2 * count
    → IsGuarded trail looked (node_at nodes n).lit (node_at nodes (opposite n)).lit → IsGuarded trail looked (node_at nodes_new n).lit (node_at nodes_new (opposite n)).lit
guarded_same clauses count trail looked nodes nodes_new same n b g =
    let here : (node_at nodes_new n).lit ≡ (node_at nodes n).lit = ap (λ (x : Node). x.lit) (same n b) in
    let there : (node_at nodes_new (opposite n)).lit ≡ (node_at nodes (opposite n)).lit = ap (λ (x : Node). x.lit) (same (opposite n) (opp_lt n count b)) in
    subst (λ l. IsGuarded trail looked l (node_at nodes_new (opposite n)).lit) (sym here) (subst (λ l. IsGuarded trail looked (node_at nodes n).lit l) (sym there) g)

pub core_roomy : (vars : ℕ) (clauses : List Clause) (given : ℕ) (trail : List TrueLit) (done fresh : ℕ) (heads : List (Option ℕ)) (nodes more : List Node)
    → IsCore vars clauses given trail done fresh heads nodes → ((k : ℕ) → (node_at more k).lit ≡ 0) → IsCore vars clauses given trail done fresh heads (nodes ++ more)
core_roomy vars clauses given trail done fresh heads nodes more core none =
    let s = same_more clauses (2 * length clauses) nodes more core.nodes_len in
    let w = core.watched.1 in
    let size : length (nodes ++ more) ≡ length nodes + length more = length-append nodes more in
    record {
      few = core.few;
      trail_is = core.trail_is;
      given_in = core.given_in;
      fresh_in = core.fresh_in;
      done_in = core.done_in;
      behind = core.behind;
      heads_len = core.heads_len;
      nodes_len = omega (arith, core.nodes_len);
      over = λ n l some. elim (cases_lt n (length nodes)) [
        | inl old ↦
            let at : (node_at (nodes ++ more) n).lit ≡ (node_at nodes n).lit = ap (λ (x : Node). x.lit) (get_or_append_left nodes more _ n old) in
            let b : (node_at nodes n).lit < 2 * vars = core.over n old some in
            omega arith
        | inr new ↦
            let at : (node_at (nodes ++ more) n).lit ≡ (node_at more (n - length nodes)).lit = ap (λ (x : Node). x.lit) (get_or-append_right nodes more (length nodes) n _ refl new) in
            let z = none (n - length nodes) in
            omega arith
      ];
      shorts = core.shorts;
      watched = (
        core.watched.0,
        record {
          linked = linked_same clauses clauses (2 * length clauses) heads nodes (nodes ++ more) core.watched.0 s w.linked;
          watches = watches_same clauses clauses (length clauses) nodes (nodes ++ more) s w.watches;
          guarded = λ n u h. guarded_same clauses (length clauses) trail (oldest done trail) nodes (nodes ++ more) s.node n u.below (w.guarded n u h);
        },
      );
    }

-- the clauses with one more
pub clause_old : (clauses : List Clause) (c : Clause) (id : ℕ) → id < length clauses → clause_at (clauses ++ c ∷ []) id ≡ clause_at clauses id
clause_old clauses c id l = get_or_append_left clauses (c ∷ []) [] id l

pub clause_new : (clauses : List Clause) (c : Clause) → clause_at (clauses ++ c ∷ []) (length clauses) ≡ c
clause_new clauses c = get_or_push clauses c [] (length clauses) refl

pub same_clauses : (clauses : List Clause) (c : Clause) (nodes : List Node) → IsSame clauses (clauses ++ c ∷ []) (2 * length clauses) nodes nodes
same_clauses clauses c nodes = record { clause = λ n b. clause_old clauses c (n / 2) (omega arith); node = λ n b. refl }

made_more : (clauses : List Clause) (c : Clause) (older : List TrueLit) (lit level : ℕ) (reason : Option ℕ) → (level ≡ level_of older + 1 → IsQuiet older c) → IsMade clauses older lit level reason → IsMade (clauses ++ c ∷ []) older lit level reason
made_more clauses c older lit level None quiet m = (m.0, All-push (IsQuiet older) clauses c m.1 (quiet m.0))
made_more clauses c older lit level (Some id) quiet m =
    let f = m.1 in
    let is = clause_old clauses c id f.known in (
      m.0,
      record {
        known = let k : id < length clauses = f.known in omega (arith, length_push clauses c);
        has = subst (λ (x : Clause). IsTrue (is_among x lit)) (sym is) f.has;
        others = λ other h d. f.others other (subst (λ (x : Clause). IsTrue (is_among x other)) is h) d;
      },
    )

-- a trail among more clauses, where the new one is neither false nor unit at lower levels
pub trail_more : (vars : ℕ) (clauses : List Clause) (c : Clause) (trail : List TrueLit) → ((k : ℕ) → k < level_of trail → IsQuiet (up_to k trail) c) → IsTrail vars clauses trail → IsTrail vars (clauses ++ c ∷ []) trail
trail_more vars clauses c [] quiet t = tt
trail_more vars clauses c (entry ∷ older) quiet t =
    let step : level_of older ≤ entry.level = made_level clauses older entry.lit entry.level entry.reason t.0.made in
    let here : entry.level ≡ level_of older + 1 → IsQuiet older c = λ e.
    subst (λ (xs : List TrueLit). IsQuiet xs c) (up_above (level_of older) entry older (omega arith) ∙ up_whole vars clauses older (level_of older) t.1 (omega arith)) (quiet (level_of older) (omega arith)) in (
      record { within = t.0.within; free = t.0.free; made = made_more clauses c older entry.lit entry.level entry.reason here t.0.made },
      trail_more vars clauses c older (λ k l. subst (λ (xs : List TrueLit). IsQuiet xs c) (up_above k entry older (omega arith)) (quiet k (omega arith))) t.1,
    )

none_below : (vars : ℕ) (clauses : List Clause) (trail : List TrueLit) (k lit : ℕ) → IsTrail vars clauses trail → level_in trail lit ≡ None → level_in (up_to k trail) lit ≡ None
none_below vars clauses trail k lit t none = elim (option_cases (level_in (up_to k trail) lit)) [
  | inl e ↦ e
  | inr some ↦ absurd (none-some some.0 (sym none ∙ (true_up vars clauses trail k lit some.0 t some.1).0))
]

free_below : (vars : ℕ) (clauses : List Clause) (trail : List TrueLit) (k lit : ℕ) → IsTrail vars clauses trail → IsFree trail lit → IsFree (up_to k trail) lit
free_below vars clauses trail k lit t free = record {
  one = none_below vars clauses trail k lit t free.one;
  other = none_below vars clauses trail k (opposite lit) t free.other;
}

-- below the open level a clause that asserts is neither false nor unit
asserting_quiet : (vars : ℕ) (clauses : List Clause) (trail : List TrueLit) (first : ℕ) (others : Clause) → IsTrail vars clauses trail → IsUnit trail first others → (k : ℕ) → k < level_of trail → IsQuiet (up_to k trail) (first ∷ others)
asserting_quiet vars clauses trail first [] t unit k l = absurd (let z : level_of trail ≡ 0 = unit.second in omega arith)
asserting_quiet vars clauses trail first (second ∷ rest) t unit k l =
    let at : level_in trail (opposite second) ≡ Some (level_of trail) = unit.second in
    let free = up_free vars clauses trail k (opposite second) (level_of trail) t at l in
    let free_second : IsFree (up_to k trail) second = record { one = ap (level_in (up_to k trail)) (sym (opp_opp second)) ∙ free.other; other = free.one } in
    inr (
      first,
      (
        second,
        record {
          has_one = has_head first (second ∷ rest);
          has_other = has_tail first second (second ∷ rest) (has_head second rest);
          differ = λ e. none-some (level_of trail) (sym unit.free.other ∙ (ap (λ x. level_in trail (opposite x)) e ∙ at));
          free_one = free_below vars clauses trail k first t unit.free;
          free_other = free_second;
        },
      ),
    )

-- what the watches are after the clause was put into the lists
pub record IsAdded (clauses : List Clause) (c : Clause) (heads : List (Option ℕ)) (nodes nodes_new : List Node) : Type 0 where
  pub wired : IsWired (clauses ++ c ∷ []) (length clauses + 1) heads nodes_new
  pub kept : (n : ℕ) → n < 2 * length clauses → node_at nodes_new n ≡ node_at nodes n
  pub first : 2 ≤ length c → (node_at nodes_new (2 * length clauses)).lit ≡ get_or c 0 0
  pub second : 2 ≤ length c → (node_at nodes_new (2 * length clauses + 1)).lit ≡ get_or c 1 0

-- the two nodes of the new clause are guarded
new_guarded : (vars : ℕ) (clauses : List Clause) (trail looked : List TrueLit) (entry : TrueLit) (first : ℕ) (others : Clause) (heads : List (Option ℕ)) (nodes nodes_new : List Node)
    → IsTrail vars clauses trail → IsUnit trail first others → entry.lit ≡ first → entry.level ≡ level_of trail → ((lit k : ℕ) → level_in looked lit ≡ Some k → level_in trail lit ≡ Some k)
    → IsAdded clauses (first ∷ others) heads nodes nodes_new → 2 ≤ length (first ∷ others) → (n : ℕ) → (n ≡ 2 * length clauses) ⊎ (n ≡ 2 * length clauses + 1)
    → IsGuarded (entry ∷ trail) looked (node_at nodes_new n).lit (node_at nodes_new (opposite n)).lit
new_guarded vars clauses trail looked entry first [] heads nodes nodes_new t unit lit level part added long n which = absurd (omega arith)
new_guarded vars clauses trail looked entry first (second ∷ rest) heads nodes nodes_new t unit lit level part added long n which =
    let i = length clauses in
    let up : opposite (2 * i) ≡ 2 * i + 1 = opp_even (2 * i) (omega arith) in
    let down : opposite (2 * i + 1) ≡ 2 * i = opp_odd (2 * i + 1) (λ e. omega arith) ∙ omega arith in
    let one = added.first long in
    let two = added.second long in
    elim which [
      | inl e ↦
          let here : (node_at nodes_new n).lit ≡ first = ap (λ k. (node_at nodes_new k).lit) e ∙ one in
          λ k h. absurd (none-some k (sym unit.free.other ∙ part (opposite first) k (ap (λ l. level_in looked (opposite l)) (sym here) ∙ h)))
      | inr e ↦
          let here : (node_at nodes_new n).lit ≡ second = ap (λ k. (node_at nodes_new k).lit) e ∙ two in
          let there : (node_at nodes_new (opposite n)).lit ≡ first = ap (λ k. (node_at nodes_new k).lit) (ap opposite e ∙ down) ∙ one in
          λ k h.
          let at : level_in trail (opposite second) ≡ Some k = part (opposite second) k (ap (λ l. level_in looked (opposite l)) (sym here) ∙ h) in
          let same : level_of trail ≡ k = same_Some (level_of trail) k (sym unit.second ∙ at) in
          (entry.level, (at_newest entry trail (node_at nodes_new (opposite n)).lit (there ∙ sym lit), omega arith))
    ]

lone_learnt : (trail : List TrueLit) (entry : TrueLit) (first : ℕ) (others : Clause) → IsUnit trail first others → entry.lit ≡ first → entry.level ≡ level_of trail → (clause : Clause) → clause ≡ first ∷ others → length clause < 2
    → IsShort (entry ∷ trail) clause
lone_learnt trail entry first [] unit lit level clause is short = (first, (is, at_newest entry trail first (sym lit) ∙ ap Some (level ∙ unit.second)))
lone_learnt trail entry first (second ∷ rest) unit lit level clause is short = let size = ap (λ (c : Clause). length c) is in absurd (omega (arith, size))

-- a core with the clause that was learnt
pub learnt_core : (vars : ℕ) (clauses : List Clause) (given : ℕ) (trail : List TrueLit) (done fresh first : ℕ) (others : Clause) (heads heads_new : List (Option ℕ)) (nodes nodes_new : List Node)
    → IsCore vars clauses given trail done fresh heads nodes → IsUnit trail first others → IsOver vars (first ∷ others) → IsAdded clauses (first ∷ others) heads_new nodes nodes_new
    → length heads_new ≡ 2 * vars → 2 * length clauses + 2 ≤ length nodes_new → ((n : ℕ) → n < length nodes_new → 0 < vars → (node_at nodes_new n).lit < 2 * vars)
    → IsCore vars (clauses ++ (first ∷ others) ∷ []) given (record { lit = first; level = level_of trail; reason = Some (length clauses) } ∷ trail) done fresh heads_new nodes_new
learnt_core vars clauses given trail done fresh first others heads heads_new nodes nodes_new core unit over_all added heads_len nodes_len over =
    let c = first ∷ others in
    let new = clauses ++ c ∷ [] in
    let e : TrueLit = record { lit = first; level = level_of trail; reason = Some (length clauses) } in
    let size : length new ≡ length clauses + 1 = length_push clauses c in
    let keeps : Keeps trail (e ∷ trail) = λ l k h. stays e trail l k unit.free h in
    let small : first < 2 * vars = over_at vars c first over_all (has_head first others) in
    let is = clause_new clauses c in
    let forced : IsForced new trail (length clauses) first = record {
      known = omega arith;
      has = subst (λ (x : Clause). IsTrue (is_among x first)) (sym is) (has_head first others);
      others = λ other h d. elim (among_cases first other others (subst (λ (x : Clause). IsTrue (is_among x other)) is h)) [
        | inl same ↦ absurd (d same)
        | inr r ↦ all_among (λ lit. IsTrue (is_true trail (opposite lit))) others other unit.false r
      ];
    } in
    let t = trail_more vars clauses c trail (asserting_quiet vars clauses trail first others core.trail_is unit) core.trail_is in
    let grown = grown_one trail first (Some (length clauses)) in
    let looked : oldest done (e ∷ trail) ≡ oldest done trail = oldest_grown trail (e ∷ trail) done grown core.done_in in
    let part : (lit k : ℕ) → level_in (oldest done trail) lit ≡ Some k → level_in trail lit ≡ Some k = λ lit k h. oldest_true vars clauses trail done lit k core.trail_is h in
    let w = core.watched.1 in
    let i = length clauses in
    let guards : AreGuarded new (2 * (i + 1)) (e ∷ trail) (oldest done trail) nodes_new [] = λ n u h. elim (cases_lt n (2 * i)) [
      | inl low ↦
          let old : IsUsed clauses (2 * i) n = record { below = low; long = subst (λ (x : Clause). 2 ≤ length x) (clause_old clauses c (n / 2) (omega arith)) u.long } in
          guarded_same clauses i (e ∷ trail) (oldest done trail) nodes nodes_new added.kept n low (guard_kept trail (e ∷ trail) (oldest done trail) _ _ keeps (w.guarded n old refl))
      | inr high ↦
          let b : n < 2 * (i + 1) = u.below in
          let which : (n ≡ 2 * i) ⊎ (n ≡ 2 * i + 1) = elim (cases_eq n (2 * i)) [ inl q ↦ inl q | inr d ↦ inr (omega arith) ] in
          let half : n / 2 ≡ i = omega arith in
          let long : 2 ≤ length c = subst (λ (x : Clause). 2 ≤ length x) (ap (clause_at new) half ∙ is) u.long in
          new_guarded vars clauses trail (oldest done trail) e first others heads_new nodes nodes_new core.trail_is unit refl refl part added long n which
    ] in
    let watched : IsWatched new (e ∷ trail) (oldest done trail) heads_new nodes_new added.wired.0 [] = record {
      linked = subst (λ m. IsLinked new (2 * m) heads_new nodes_new added.wired.0 []) (sym size) added.wired.1.0;
      watches = subst (λ m. AreWatches new (2 * m) nodes_new) (sym size) added.wired.1.1;
      guarded = subst (λ m. AreGuarded new (2 * m) (e ∷ trail) (oldest done trail) nodes_new []) (sym size) guards;
    } in
    record {
      few = core.few;
      trail_is = (record { within = small; free = unit.free; made = (refl, forced) }, t);
      given_in = let g : given ≤ length clauses = core.given_in in omega arith;
      fresh_in = core.fresh_in;
      done_in = let d : done ≤ length trail = core.done_in in omega arith;
      behind = λ k l.
          let len = ap (λ (xs : List TrueLit). length xs) (up_above k e trail l) in
          let old = core.behind k l in
          omega (arith, len, old);
      heads_len = heads_len;
      nodes_len = omega arith;
      over = over;
      shorts = λ id known which short. elim (cases_lt id i) [
        | inl old ↦
            let same = clause_old clauses c id old in
            let s = core.shorts id old which (subst (λ (x : Clause). length x < 2) same short) in
            (s.0, (same ∙ s.1.0, keeps s.0 0 s.1.1))
        | inr now ↦
            let at : id ≡ i = omega arith in
            let here : clause_at new id ≡ c = ap (clause_at new) at ∙ is in
            lone_learnt trail e first others unit refl refl (clause_at new id) here short
      ];
      watched = (added.wired.0, subst (λ (xs : List TrueLit). IsWatched new (e ∷ trail) xs heads_new nodes_new added.wired.0 []) (sym looked) watched);
    }

-- the clauses of a log with one more step
pub clauses_pushed : (log new : Log) (s : LogStep) → new ≡ record log { steps = log.steps ++ s ∷ [] } → clauses_of new ≡ clauses_of log ++ s.lits ∷ []
clauses_pushed log new s e =
    ap (λ (l : Log). clauses_of l) e ∙ (ap (λ (xs : List Clause). log.given ++ xs) (map-append (λ (t : LogStep). t.lits) log.steps (s ∷ [])) ∙ sym (append_assoc log.given (lits_of log.steps) (s.lits ∷ [])))

pub step_over : (vars : ℕ) (clauses : List Clause) (lits : Clause) (hints : List ℕ) → StepHolds vars clauses lits hints → IsOver vars lits
unfolding StepHolds
step_over vars clauses lits hints holds = holds.0

pub first_two : (trail : List TrueLit) (lits : Clause) → IsAsserting trail lits → 2 ≤ length lits → get_or lits 0 0 ≢ get_or lits 1 0
first_two trail [] a l = absurd a
first_two trail (first ∷ []) a l = absurd (omega arith)
first_two trail (first ∷ (second ∷ rest)) a l = λ e. none-some (level_of trail) (sym a.free.other ∙ (ap (λ x. level_in trail (opposite x)) e ∙ a.second))

pub first_free : (trail : List TrueLit) (lits : Clause) → IsAsserting trail lits → (0 < length lits) × IsFree trail (get_or lits 0 0)
first_free trail [] a = absurd a
first_free trail (first ∷ others) a = (omega arith, a.free)

pub first_is : (lits : Clause) → get_or lits 0 0 ≡ first_of lits
first_is [] = refl
first_is (first ∷ others) = refl

-- a core as the fields have it after a clause was learnt
pub learnt_by : (vars : ℕ) (clauses : List Clause) (given : ℕ) (trail : List TrueLit) (done fresh lit : ℕ) (lits : Clause) (heads heads_new : List (Option ℕ)) (nodes nodes_new : List Node)
    → IsCore vars clauses given trail done fresh heads nodes → IsAsserting trail lits → IsOver vars lits → lit ≡ get_or lits 0 0 → IsAdded clauses lits heads_new nodes nodes_new
    → length heads_new ≡ 2 * vars → 2 * length clauses + 2 ≤ length nodes_new → ((n : ℕ) → n < length nodes_new → 0 < vars → (node_at nodes_new n).lit < 2 * vars)
    → IsCore vars (clauses ++ lits ∷ []) given (record { lit = lit; level = level_of trail; reason = Some (length clauses) } ∷ trail) done fresh heads_new nodes_new
learnt_by vars clauses given trail done fresh lit [] heads heads_new nodes nodes_new core a over_all is added heads_len nodes_len over = absurd a
learnt_by vars clauses given trail done fresh lit (first ∷ others) heads heads_new nodes nodes_new core a over_all is added heads_len nodes_len over =
    subst (λ l. IsCore vars (clauses ++ (first ∷ others) ∷ []) given (record { lit = l; level = level_of trail; reason = Some (length clauses) } ∷ trail) done fresh heads_new nodes_new) (sym is)
    (learnt_core vars clauses given trail done fresh first others heads heads_new nodes nodes_new core a over_all added heads_len nodes_len over)

-- the watches of a core, among one clause more
pub wired_core : (vars : ℕ) (clauses : List Clause) (given : ℕ) (trail : List TrueLit) (done fresh : ℕ) (lits : Clause) (heads : List (Option ℕ)) (nodes : List Node)
    → IsCore vars clauses given trail done fresh heads nodes → IsWired (clauses ++ lits ∷ []) (length clauses) heads nodes
wired_core vars clauses given trail done fresh lits heads nodes core =
    wired_same clauses (clauses ++ lits ∷ []) (length clauses) heads nodes nodes (same_clauses clauses lits nodes) (core.watched.0, (core.watched.1.linked, core.watched.1.watches))

-- the fields of a core with more nodes
pub roomy_by : (vars : ℕ) (clauses : List Clause) (given : ℕ) (trail : List TrueLit) (done fresh : ℕ) (heads heads_new : List (Option ℕ)) (nodes nodes_new : List Node)
    → IsCore vars clauses given trail done fresh heads nodes → heads_new ≡ heads → (more : List Node) × ((nodes_new ≡ nodes ++ more) × ((k : ℕ) → (node_at more k).lit ≡ 0)) → IsCore vars clauses given trail done fresh heads_new nodes_new
roomy_by vars clauses given trail done fresh heads heads_new nodes nodes_new core same m =
    subst (λ (hs : List (Option ℕ)). IsCore vars clauses given trail done fresh hs nodes_new) (sym same)
    (subst (IsCore vars clauses given trail done fresh heads) (sym m.1.0) (core_roomy vars clauses given trail done fresh heads nodes m.0 core m.1.1))

-- a core at the beginning
pub started : (vars : ℕ) (clauses : List Clause) (heads : List (Option ℕ)) (nodes : List Node) → vars ≤ FORMULA_LIMIT → length heads ≡ 2 * vars → 2 * length clauses ≤ length nodes
    → ((n : ℕ) → n < length nodes → 0 < vars → (node_at nodes n).lit < 2 * vars) → IsWired clauses (length clauses) heads nodes → IsCore vars clauses (length clauses) [] 0 0 heads nodes
started vars clauses heads nodes few heads_len nodes_len over wired = record {
  few = few;
  trail_is = tt;
  given_in = omega arith;
  fresh_in = omega arith;
  done_in = omega arith;
  behind = λ k l. omega arith;
  heads_len = heads_len;
  nodes_len = nodes_len;
  over = over;
  shorts = λ id known which short. absurd (elim which [ inl l ↦ omega arith | inr g ↦ omega arith ]);
  watched = (wired.0, record { linked = wired.1.0; watches = wired.1.1; guarded = λ n u h. λ k e. absurd (none-some k e) });
}
