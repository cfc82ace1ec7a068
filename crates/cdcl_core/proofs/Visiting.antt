-- One node of a literal that became false is looked at.
use Rattle.std.proofs.Common.{◌≡◌, ◌∙◌, ◌<◌, ◌≤◌, ◌-◌, ◌*◌, ◌/◌, inl, inr, suc, ℕ, true, false, refl, sym, ap, subst, arith, List, [], ◌∷◌, length, set}
use Rattle.std.specs.Prelude.{◌≢◌, Option, Some, None, IsTrue}
use Rattle.std.proofs.Math.ListN.{length-set}
use Rattle.std.proofs.lemmas.Bool.{cases_eq, false_from_ne_true}
use Rattle.std.proofs.lemmas.Option.{none-some, same_Some}
use Rattle.std.proofs.lemmas.List.{get_or-set_same, get_or-set_other}
use Rattle.std.proofs.lemmas.List.Elements.{All-nil, All-cons}
use Rattle.rsfq_ids.specs.Formula.{Clause, opposite}
use Rattle.proof_arena.specs.Step.{is_among}
use Rattle.cdcl_core.specs.declared.trail.TrueLit.{TrueLit}
use Rattle.cdcl_core.specs.declared.watches.Node.{Node}
use Rattle.cdcl_core.specs.Trail.{level_in, is_true, level_of, IsFree, IsQuiet, IsTrail, clause_at}
use Rattle.cdcl_core.specs.Search.{IsConflict, IsGrown}
use Rattle.cdcl_core.specs.Watch.{node_at, head_at, IsChain, IsUsed, IsGuarded, AreWatches, AreGuarded, IsVisit, Visits, CanVisit}
use Rattle.cdcl_core.proofs.Opposites.{opp_opp, opp_ne, opp_lt, opp_half}
use Rattle.cdcl_core.proofs.Chains.{not_among, has_head, chain_lit, chain_kept, with_first, attached}
use Rattle.cdcl_core.proofs.Members.{among_all}
use Rattle.cdcl_core.proofs.Trails.{at_newest, some_level, consistent, not_both, level_below, true_over, stays}

-- what was true stays so
abbrev pub Keeps : List TrueLit → List TrueLit → Type 0
Keeps trail new = (lit k : ℕ) → level_in trail lit ≡ Some k → level_in new lit ≡ Some k

-- a list that begins at a node
pub opened : (nodes : List Node) (gone n : ℕ) (loose : List ℕ) → IsChain nodes gone (Some n) loose → (rest : List ℕ) × (loose ≡ n ∷ rest)
opened nodes gone n [] row = absurd (none-some n (sym row))
opened nodes gone n (m ∷ rest) row = (rest, ap (λ k. k ∷ rest) (sym (same_Some n m row.0)))

pub ended : (nodes : List Node) (gone : ℕ) (loose : List ℕ) → IsChain nodes gone None loose → loose ≡ []
ended nodes gone [] row = refl
ended nodes gone (m ∷ rest) row = absurd (none-some m row.0)

guard_as : (trail looked : List TrueLit) (a b x y : ℕ) → x ≡ a → y ≡ b → IsGuarded trail looked a b → IsGuarded trail looked x y
guard_as trail looked a b x y e f g = λ k h.
    let old = g k (ap (λ l. level_in looked (opposite l)) (sym e) ∙ h) in
    (old.0, (ap (level_in trail) f ∙ old.1.0, old.1.1))

pub guard_kept : (trail new looked : List TrueLit) (a b : ℕ) → Keeps trail new → IsGuarded trail looked a b → IsGuarded new looked a b
guard_kept trail new looked a b keeps g = λ k h. let old = g k h in (old.0, (keeps b old.0 old.1.0, old.1.1))

pub partner_used : (clauses : List Clause) (n : ℕ) → IsUsed clauses (2 * length clauses) n → IsUsed clauses (2 * length clauses) (opposite n)
partner_used clauses n u = record {
  below = opp_lt n (length clauses) u.below;
  long = subst (λ i. 2 ≤ length (clause_at clauses i)) (sym (opp_half n)) u.long;
}

-- the two literals that node and partner watch, after one node changed
guarded_set : (clauses : List Clause) (used : ℕ) (trail new looked : List TrueLit) (nodes : List Node) (n : ℕ) (rest : List ℕ) (v : Node)
    → AreGuarded clauses used trail looked nodes (n ∷ rest) → Keeps trail new → n < length nodes
    → IsGuarded new looked v.lit (node_at nodes (opposite n)).lit → IsGuarded new looked (node_at nodes (opposite n)).lit v.lit
    → AreGuarded clauses used new looked (set nodes n v) rest
guarded_set clauses used trail new looked nodes n rest v old keeps within one other = λ m u h. elim (cases_eq m n) [
  | inl e ↦
      let here : (node_at (set nodes n v) m).lit ≡ v.lit = ap (λ k. (node_at (set nodes n v) k).lit) e ∙ ap (λ (x : Node). x.lit) (get_or-set_same nodes n v _ within) in
      let there : (node_at (set nodes n v) (opposite m)).lit ≡ (node_at nodes (opposite n)).lit =
      ap (λ k. (node_at (set nodes n v) (opposite k)).lit) e ∙ ap (λ (x : Node). x.lit) (get_or-set_other nodes n (opposite n) v _ (opp_ne n)) in
      guard_as new looked v.lit (node_at nodes (opposite n)).lit _ _ here there one
  | inr d ↦
      let here : (node_at (set nodes n v) m).lit ≡ (node_at nodes m).lit = ap (λ (x : Node). x.lit) (get_or-set_other nodes n m v _ d) in
      elim (cases_eq (opposite m) n) [
        | inl p ↦
            let back : m ≡ opposite n = sym (opp_opp m) ∙ ap opposite p in
            let this : (node_at (set nodes n v) m).lit ≡ (node_at nodes (opposite n)).lit = here ∙ ap (λ k. (node_at nodes k).lit) back in
            let there : (node_at (set nodes n v) (opposite m)).lit ≡ v.lit = ap (λ k. (node_at (set nodes n v) k).lit) p ∙ ap (λ (x : Node). x.lit) (get_or-set_same nodes n v _ within) in
            guard_as new looked (node_at nodes (opposite n)).lit v.lit _ _ this there other
        | inr q ↦
            let there : (node_at (set nodes n v) (opposite m)).lit ≡ (node_at nodes (opposite m)).lit = ap (λ (x : Node). x.lit) (get_or-set_other nodes n (opposite m) v _ q) in
            guard_as new looked (node_at nodes m).lit (node_at nodes (opposite m)).lit _ _ here there
            (guard_kept trail new looked _ _ keeps (old m u (not_among n m rest d h)))
      ]
]

watches_set : (clauses : List Clause) (nodes : List Node) (n : ℕ) (v : Node) → AreWatches clauses (2 * length clauses) nodes → n < length nodes
    → is_among (clause_at clauses (n / 2)) v.lit ≡ true → v.lit ≢ (node_at nodes (opposite n)).lit → AreWatches clauses (2 * length clauses) (set nodes n v)
watches_set clauses nodes n v old within has differ = record {
  has = λ m u. elim (cases_eq m n) [
    | inl e ↦
        let here : (node_at (set nodes n v) n).lit ≡ v.lit = ap (λ (x : Node). x.lit) (get_or-set_same nodes n v _ within) in
        subst (λ k. is_among (clause_at clauses (k / 2)) (node_at (set nodes n v) k).lit ≡ true) (sym e)
        (subst (λ l. is_among (clause_at clauses (n / 2)) l ≡ true) (sym here) has)
    | inr d ↦
        let here : (node_at (set nodes n v) m).lit ≡ (node_at nodes m).lit = ap (λ (x : Node). x.lit) (get_or-set_other nodes n m v _ d) in
        subst (λ l. is_among (clause_at clauses (m / 2)) l ≡ true) (sym here) (old.has m u)
  ];
  differ = λ m u same. elim (cases_eq m n) [
    | inl e ↦
        let here : (node_at (set nodes n v) m).lit ≡ v.lit = ap (λ k. (node_at (set nodes n v) k).lit) e ∙ ap (λ (x : Node). x.lit) (get_or-set_same nodes n v _ within) in
        let there : (node_at (set nodes n v) (opposite m)).lit ≡ (node_at nodes (opposite n)).lit =
        ap (λ k. (node_at (set nodes n v) (opposite k)).lit) e ∙ ap (λ (x : Node). x.lit) (get_or-set_other nodes n (opposite n) v _ (opp_ne n)) in
        differ (sym here ∙ (same ∙ there))
    | inr d ↦
        let here : (node_at (set nodes n v) m).lit ≡ (node_at nodes m).lit = ap (λ (x : Node). x.lit) (get_or-set_other nodes n m v _ d) in
        elim (cases_eq (opposite m) n) [
          | inl p ↦
              let back : m ≡ opposite n = sym (opp_opp m) ∙ ap opposite p in
              let there : (node_at (set nodes n v) (opposite m)).lit ≡ v.lit = ap (λ k. (node_at (set nodes n v) k).lit) p ∙ ap (λ (x : Node). x.lit) (get_or-set_same nodes n v _ within) in
              differ (sym there ∙ (sym same ∙ (here ∙ ap (λ k. (node_at nodes k).lit) back)))
          | inr q ↦
              let there : (node_at (set nodes n v) (opposite m)).lit ≡ (node_at nodes (opposite m)).lit = ap (λ (x : Node). x.lit) (get_or-set_other nodes n (opposite m) v _ q) in
              old.differ m u (sym here ∙ (same ∙ there))
        ]
  ];
}

over_set : (nodes : List Node) (vars n : ℕ) (v : Node) → ((m : ℕ) → m < length nodes → 0 < vars → (node_at nodes m).lit < 2 * vars) → v.lit < 2 * vars
    → (m : ℕ) → m < length (set nodes n v) → 0 < vars → (node_at (set nodes n v) m).lit < 2 * vars
over_set nodes vars n v old small m h some =
    let size : length (set nodes n v) ≡ length nodes = length-set nodes n v in
    elim (cases_eq m n) [
      | inl e ↦
          let here : node_at (set nodes n v) n ≡ v = get_or-set_same nodes n v _ (omega arith) in
          let at : (node_at (set nodes n v) m).lit ≡ v.lit = ap (λ k. (node_at (set nodes n v) k).lit) e ∙ ap (λ (x : Node). x.lit) here in
          omega arith
      | inr d ↦
          let at : (node_at (set nodes n v) m).lit ≡ (node_at nodes m).lit = ap (λ (x : Node). x.lit) (get_or-set_other nodes n m v _ d) in
          let b : (node_at nodes m).lit < 2 * vars = old m (omega arith) some in
          omega arith
    ]

pub visited : (vars : ℕ) (clauses : List Clause) (trail new older : List TrueLit) (entry : TrueLit) (heads : List (Option ℕ)) (nodes : List Node) (gone n to left : ℕ) (was found : Option ℕ) (chains : ℕ → List ℕ) (rest : List ℕ)
    → IsVisit vars clauses trail older entry heads nodes gone (Some n) (suc left) was chains (n ∷ rest) → (found ≡ None → was ≡ None)
    → is_among (clause_at clauses (n / 2)) to ≡ true → to ≢ (node_at nodes (opposite n)).lit → to < 2 * vars
    → IsTrail vars clauses new → level_of new ≡ level_of trail → Keeps trail new
    → IsGuarded new older to (node_at nodes (opposite n)).lit → IsGuarded new older (node_at nodes (opposite n)).lit to
    → (found ≡ None → IsGuarded new (entry ∷ older) to (node_at nodes (opposite n)).lit × IsGuarded new (entry ∷ older) (node_at nodes (opposite n)).lit to)
    → ((id : ℕ) → found ≡ Some id → IsConflict clauses new id)
    → IsVisit vars clauses new older entry (set heads to (Some n)) (set nodes n (record { lit = to; next = head_at heads to })) gone (node_at nodes n).next left found (with_first chains to n) rest
visited vars clauses trail new older entry heads nodes gone n to left was found chains rest visit only has differ small trail_new level keeps one other both conflict =
    let v : Node = record { lit = to; next = head_at heads to } in
    let used = visit.watched.linked.loose_member n (has_head n rest) in
    let within : n < length nodes = omega (arith, used.below, visit.nodes_len) in
    let below : to < length heads = omega (arith, visit.heads_len) in
    let nodes_size : length (set nodes n v) ≡ length nodes = length-set nodes n v in
    let heads_size : length (set heads to (Some n)) ≡ length heads = length-set heads to (Some n) in
    record {
      trail_is = trail_new;
      heads_len = heads_size ∙ visit.heads_len;
      nodes_len = omega (arith, visit.nodes_len);
      over = over_set nodes vars n v visit.over small;
      turned = visit.turned;
      open_level = visit.open_level ∙ sym level;
      part = λ lit k h. keeps lit k (visit.part lit k h);
      not_before = visit.not_before;
      row = chain_kept nodes gone (node_at nodes n).next rest n v visit.row.1.1 visit.watched.linked.loose_once.0;
      few = omega (arith, visit.few);
      watched = record {
        linked = attached clauses (2 * length clauses) heads nodes chains n rest to visit.watched.linked below within;
        watches = watches_set clauses nodes n v visit.watched.watches within has differ;
        guarded = guarded_set clauses (2 * length clauses) trail new older nodes n rest v visit.watched.guarded keeps within one other;
      };
      ahead = λ none. guarded_set clauses (2 * length clauses) trail new (entry ∷ older) nodes n rest v (visit.ahead (only none)) keeps within (both none).0 (both none).1;
      conflict = conflict;
    }

-- what is known of the node that is looked at
pub record IsLooked (vars : ℕ) (clauses : List Clause) (trail older : List TrueLit) (entry : TrueLit) (nodes : List Node) (gone n : ℕ) (was : Option ℕ) : Type 0 where
  pub used : IsUsed clauses (2 * length clauses) n
  pub within : n < length nodes
  pub partner_in : opposite n < length nodes
  pub here : (node_at nodes n).lit ≡ gone
  pub has : is_among (clause_at clauses (n / 2)) gone ≡ true
  pub has_other : is_among (clause_at clauses (n / 2)) (node_at nodes (opposite n)).lit ≡ true
  pub differ : gone ≢ (node_at nodes (opposite n)).lit
  pub gone_small : gone < 2 * vars
  pub other_small : (node_at nodes (opposite n)).lit < 2 * vars
  pub gone_false : level_in trail (opposite gone) ≡ Some entry.level
  pub gone_not : level_in trail gone ≡ None
  pub guard_old : IsGuarded trail older (node_at nodes (opposite n)).lit gone
  pub guard_ahead : was ≡ None → IsGuarded trail (entry ∷ older) (node_at nodes (opposite n)).lit gone

pub looked : (vars : ℕ) (clauses : List Clause) (trail older : List TrueLit) (entry : TrueLit) (heads : List (Option ℕ)) (nodes : List Node) (gone n left : ℕ) (was : Option ℕ) (chains : ℕ → List ℕ) (rest : List ℕ)
    → IsVisit vars clauses trail older entry heads nodes gone (Some n) left was chains (n ∷ rest) → IsLooked vars clauses trail older entry nodes gone n was
looked vars clauses trail older entry heads nodes gone n left was chains rest visit =
    let used = visit.watched.linked.loose_member n (has_head n rest) in
    let used_other = partner_used clauses n used in
    let within : n < length nodes = omega (arith, used.below, visit.nodes_len) in
    let partner_in : opposite n < length nodes = let b : opposite n < 2 * length clauses = used_other.below in omega (arith, visit.nodes_len) in
    let here : (node_at nodes n).lit ≡ gone = chain_lit nodes gone (Some n) (n ∷ rest) n visit.row (has_head n rest) in
    let differ : gone ≢ (node_at nodes (opposite n)).lit = λ e. visit.watched.watches.differ n used (here ∙ e) in
    let at : level_in trail entry.lit ≡ Some entry.level = visit.part entry.lit entry.level (at_newest entry older entry.lit refl) in
    let some : 0 < vars = let b : entry.lit < 2 * vars = true_over vars clauses trail entry.lit entry.level visit.trail_is at in omega arith in
    let gone_false : level_in trail (opposite gone) ≡ Some entry.level = ap (level_in trail) (sym visit.turned) ∙ at in
    let not_loose : is_among (n ∷ rest) (opposite n) ≡ false = false_from_ne_true (is_among (n ∷ rest) (opposite n)) (λ h. differ (sym (chain_lit nodes gone (Some n) (n ∷ rest) (opposite n) visit.row h))) in
    let back : (node_at nodes (opposite (opposite n))).lit ≡ gone = ap (λ k. (node_at nodes k).lit) (opp_opp n) ∙ here in
    let gone_not : level_in trail gone ≡ None = ap (level_in trail) (sym (opp_opp gone)) ∙ consistent vars clauses trail (opposite gone) entry.level visit.trail_is gone_false in
    record {
      used = used;
      within = within;
      partner_in = partner_in;
      here = here;
      has = subst (λ l. is_among (clause_at clauses (n / 2)) l ≡ true) here (visit.watched.watches.has n used);
      has_other = subst (λ i. is_among (clause_at clauses i) (node_at nodes (opposite n)).lit ≡ true) (opp_half n) (visit.watched.watches.has (opposite n) used_other);
      differ = differ;
      gone_small = subst (λ l. l < 2 * vars) here (visit.over n within some);
      other_small = visit.over (opposite n) partner_in some;
      gone_false = gone_false;
      gone_not = gone_not;
      guard_old = guard_as trail older _ _ _ _ refl (sym back) (visit.watched.guarded (opposite n) used_other not_loose);
      guard_ahead = λ none. guard_as trail (entry ∷ older) _ _ _ _ refl (sym back) (visit.ahead none (opposite n) used_other not_loose);
    }

-- the literal that became false was not false before
not_guarded : (trail older : List TrueLit) (entry : TrueLit) (gone other : ℕ) → entry.lit ≡ opposite gone → level_in older entry.lit ≡ None → IsGuarded trail older gone other
not_guarded trail older entry gone other turned not_before = λ k h. absurd (none-some k (sym (ap (level_in older) (sym turned) ∙ not_before) ∙ h))

-- and where the other literal is true, no clause is missed
ahead_guarded : (trail older : List TrueLit) (entry : TrueLit) (gone other j : ℕ) → entry.lit ≡ opposite gone → level_in trail other ≡ Some j → j ≤ entry.level → IsGuarded trail (entry ∷ older) gone other
ahead_guarded trail older entry gone other j turned true_at low = λ k h.
    let is : entry.level ≡ k = same_Some entry.level k (sym (at_newest entry older (opposite gone) (sym turned)) ∙ h) in
    (j, (true_at, omega (arith, is)))

keeps_same : (trail : List TrueLit) → Keeps trail trail
keeps_same trail lit k h = h

not_found : (clauses : List Clause) (trail : List TrueLit) (id : ℕ) → None ≡ Some id → IsConflict clauses trail id
not_found clauses trail id e = absurd (none-some id e)

abbrev pub Next : ℕ → List Clause → List TrueLit → List TrueLit → TrueLit → List (Option ℕ) → List Node → ℕ → ℕ → ℕ → ℕ → Option ℕ → Type 0
Next vars clauses new older entry heads nodes gone n to left found =
    Visits vars clauses new older entry (set heads to (Some n)) (set nodes n (record { lit = to; next = head_at heads to })) gone (node_at nodes n).next left found

-- the other literal is true
pub passed : (vars : ℕ) (clauses : List Clause) (trail older : List TrueLit) (entry : TrueLit) (heads : List (Option ℕ)) (nodes : List Node) (gone n left j : ℕ) (chains : ℕ → List ℕ) (rest : List ℕ)
    → IsVisit vars clauses trail older entry heads nodes gone (Some n) (suc left) None chains (n ∷ rest) → level_in trail (node_at nodes (opposite n)).lit ≡ Some j
    → Next vars clauses trail older entry heads nodes gone n gone left None
passed vars clauses trail older entry heads nodes gone n left j chains rest visit true_at =
    let l = looked vars clauses trail older entry heads nodes gone n (suc left) None chains rest visit in
    let low : j ≤ entry.level = let b : j ≤ level_of trail = level_below vars clauses trail _ j visit.trail_is true_at in omega (arith, visit.open_level) in (
      with_first chains gone n,
      (
        rest,
        visited vars clauses trail trail older entry heads nodes gone n gone left None None chains rest visit (λ e. e) l.has l.differ l.gone_small visit.trail_is refl (keeps_same trail)
            (not_guarded trail older entry gone _ visit.turned visit.not_before.one) l.guard_old
            (λ none. (ahead_guarded trail older entry gone _ j visit.turned true_at low, l.guard_ahead refl)) (not_found clauses trail),
      ),
    )

-- another literal that is not false is watched
pub moved : (vars : ℕ) (clauses : List Clause) (trail older : List TrueLit) (entry : TrueLit) (heads : List (Option ℕ)) (nodes : List Node) (gone n to left : ℕ) (chains : ℕ → List ℕ) (rest : List ℕ)
    → IsVisit vars clauses trail older entry heads nodes gone (Some n) (suc left) None chains (n ∷ rest)
    → is_among (clause_at clauses (n / 2)) to ≡ true → to ≢ (node_at nodes (opposite n)).lit → to < 2 * vars → level_in trail (opposite to) ≡ None
    → Next vars clauses trail older entry heads nodes gone n to left None
moved vars clauses trail older entry heads nodes gone n to left chains rest visit has differ small not_false =
    let l = looked vars clauses trail older entry heads nodes gone n (suc left) None chains rest visit in
    let ahead_to : IsGuarded trail (entry ∷ older) to (node_at nodes (opposite n)).lit = λ k h. absurd (none-some k (sym not_false ∙ visit.part (opposite to) k h)) in
    let old_in : (lit k : ℕ) → level_in older lit ≡ Some k → level_in trail lit ≡ Some k = λ lit k h. visit.part lit k (stays entry older lit k (visit.not_before) h) in
    let old_to : IsGuarded trail older to (node_at nodes (opposite n)).lit = λ k h. absurd (none-some k (sym not_false ∙ old_in (opposite to) k h)) in
    let ahead_other : IsGuarded trail (entry ∷ older) (node_at nodes (opposite n)).lit to = λ k h. let g = l.guard_ahead refl k h in absurd (none-some g.0 (sym l.gone_not ∙ g.1.0)) in
    let old_other : IsGuarded trail older (node_at nodes (opposite n)).lit to = λ k h. let g = l.guard_old k h in absurd (none-some g.0 (sym l.gone_not ∙ g.1.0)) in (
      with_first chains to n,
      (
        rest,
        visited vars clauses trail trail older entry heads nodes gone n to left None None chains rest visit (λ e. e) has differ small visit.trail_is refl (keeps_same trail)
            old_to old_other (λ none. (ahead_to, ahead_other)) (not_found clauses trail),
      ),
    )

-- no literal but the other one is open: it is made true
pub forced_on : (vars : ℕ) (clauses : List Clause) (trail older : List TrueLit) (entry : TrueLit) (heads : List (Option ℕ)) (nodes : List Node) (gone n left : ℕ) (chains : ℕ → List ℕ) (rest : List ℕ)
    → IsVisit vars clauses trail older entry heads nodes gone (Some n) (suc left) None chains (n ∷ rest) → n / 2 < length clauses
    → ((lit : ℕ) → is_among (clause_at clauses (n / 2)) lit ≡ true → lit ≢ (node_at nodes (opposite n)).lit → IsTrue (is_true trail (opposite lit)))
    → IsFree trail (node_at nodes (opposite n)).lit
    → Next vars clauses (record { lit = (node_at nodes (opposite n)).lit; level = level_of trail; reason = Some (n / 2) } ∷ trail) older entry heads nodes gone n gone left None
forced_on vars clauses trail older entry heads nodes gone n left chains rest visit known others free =
    let l = looked vars clauses trail older entry heads nodes gone n (suc left) None chains rest visit in
    let other = (node_at nodes (opposite n)).lit in
    let e : TrueLit = record { lit = other; level = level_of trail; reason = Some (n / 2) } in
    let keeps : Keeps trail (e ∷ trail) = λ lit k h. stays e trail lit k free h in
    let trail_new : IsTrail vars clauses (e ∷ trail) = (
      record {
        within = l.other_small;
        free = free;
        made = (refl, record { known = known; has = l.has_other; others = others });
      },
      visit.trail_is,
    ) in
    let now : level_in (e ∷ trail) other ≡ Some (level_of trail) = at_newest e trail other refl in (
      with_first chains gone n,
      (
        rest,
        visited vars clauses trail (e ∷ trail) older entry heads nodes gone n gone left None None chains rest visit (λ e. e) l.has l.differ l.gone_small trail_new refl keeps
            (not_guarded (e ∷ trail) older entry gone other visit.turned visit.not_before.one) (guard_kept trail (e ∷ trail) older other gone keeps l.guard_old)
            (λ none. (
              ahead_guarded (e ∷ trail) older entry gone other (level_of trail) visit.turned now (omega (arith, visit.open_level)),
              guard_kept trail (e ∷ trail) (entry ∷ older) other gone keeps (l.guard_ahead refl),
            )) (not_found clauses (e ∷ trail)),
      ),
    )

-- all literals are false
pub clashed : (vars : ℕ) (clauses : List Clause) (trail older : List TrueLit) (entry : TrueLit) (heads : List (Option ℕ)) (nodes : List Node) (gone n left : ℕ) (chains : ℕ → List ℕ) (rest : List ℕ)
    → IsVisit vars clauses trail older entry heads nodes gone (Some n) (suc left) None chains (n ∷ rest) → n / 2 < length clauses
    → ((lit : ℕ) → is_among (clause_at clauses (n / 2)) lit ≡ true → lit ≢ (node_at nodes (opposite n)).lit → IsTrue (is_true trail (opposite lit)))
    → IsTrue (is_true trail (opposite (node_at nodes (opposite n)).lit))
    → Next vars clauses trail older entry heads nodes gone n gone left (Some (n / 2))
clashed vars clauses trail older entry heads nodes gone n left chains rest visit known others false_other =
    let l = looked vars clauses trail older entry heads nodes gone n (suc left) None chains rest visit in
    let other = (node_at nodes (opposite n)).lit in
    let each : (lit : ℕ) → is_among (clause_at clauses (n / 2)) lit ≡ true → IsTrue (is_true trail (opposite lit)) = λ lit h. elim (cases_eq lit other) [
      | inl e ↦ subst (λ w. IsTrue (is_true trail (opposite w))) (sym e) false_other
      | inr d ↦ others lit h d
    ] in
    let whole : IsConflict clauses trail (n / 2) = record { known = known; false = among_all (λ lit. IsTrue (is_true trail (opposite lit))) (clause_at clauses (n / 2)) each } in (
      with_first chains gone n,
      (
        rest,
        visited vars clauses trail trail older entry heads nodes gone n gone left None (Some (n / 2)) chains rest visit (λ e. refl) l.has l.differ l.gone_small visit.trail_is refl (keeps_same trail)
            (not_guarded trail older entry gone other visit.turned visit.not_before.one) l.guard_old
            (λ none. absurd (none-some (n / 2) (sym none)))
            (λ id is. subst (IsConflict clauses trail) (same_Some (n / 2) id is) whole),
      ),
    )

-- a clause that is neither false nor unit has no single open literal
pub not_quiet : (vars : ℕ) (clauses : List Clause) (trail : List TrueLit) (clause : Clause) (other : ℕ) → IsTrail vars clauses trail → IsQuiet trail clause
    → ((lit : ℕ) → is_among clause lit ≡ true → lit ≢ other → IsTrue (is_true trail (opposite lit))) → level_in trail other ≡ None → ⊥
not_quiet vars clauses trail clause other t quiet others open_other = elim quiet [
  | inl a ↦
      let at = some_level trail a.0 a.1.1 in
      let differ : a.0 ≢ other = λ e. none-some at.0 (sym open_other ∙ (ap (level_in trail) (sym e) ∙ at.1)) in
      not_both vars clauses trail a.0 t a.1.1 (others a.0 a.1.0 differ)
  | inr b ↦
      let free = b.1.1 in
      elim (cases_eq b.0 other) [
        | inl e ↦
            let differ : b.1.0 ≢ other = λ f. free.differ (e ∙ sym f) in
            let at = some_level trail (opposite b.1.0) (others b.1.0 free.has_other differ) in
            none-some at.0 (sym free.free_other.other ∙ at.1)
        | inr d ↦
            let at = some_level trail (opposite b.0) (others b.0 free.has_one d) in
            none-some at.0 (sym free.free_one.other ∙ at.1)
      ]
]

pub grown_same : (trail : List TrueLit) → IsGrown trail trail
grown_same trail = ([], (refl, All-nil (λ (entry : TrueLit). entry.level ≡ level_of trail)))

pub grown_one : (trail : List TrueLit) (lit : ℕ) (reason : Option ℕ) → IsGrown trail (record { lit = lit; level = level_of trail; reason = reason } ∷ trail)
grown_one trail lit reason =
    let e : TrueLit = record { lit = lit; level = level_of trail; reason = reason } in
    (e ∷ [], (refl, All-cons (λ (entry : TrueLit). entry.level ≡ level_of trail) e [] refl (All-nil (λ (entry : TrueLit). entry.level ≡ level_of trail))))

-- the nodes that are left, with the one that is looked at in front
pub in_front : (vars : ℕ) (clauses : List Clause) (trail older : List TrueLit) (entry : TrueLit) (heads : List (Option ℕ)) (nodes : List Node) (gone n left : ℕ) (was : Option ℕ) (v : Visits vars clauses trail older entry heads nodes gone (Some n) left was)
    → (rest : List ℕ) × IsVisit vars clauses trail older entry heads nodes gone (Some n) left was v.0 (n ∷ rest)
in_front vars clauses trail older entry heads nodes gone n left was v =
    let o = opened nodes gone n v.1.0 v.1.1.row in
    (o.0, subst (λ (loose : List ℕ). IsVisit vars clauses trail older entry heads nodes gone (Some n) left was v.0 loose) o.1 v.1.1)

-- a clause was found to be false: the node is put back
pub put_back : (vars : ℕ) (clauses : List Clause) (trail older : List TrueLit) (entry : TrueLit) (heads : List (Option ℕ)) (nodes : List Node) (gone n left : ℕ) (was : Option ℕ) (chains : ℕ → List ℕ) (rest : List ℕ)
    → IsVisit vars clauses trail older entry heads nodes gone (Some n) (suc left) was chains (n ∷ rest) → (was ≡ None → ⊥) → Next vars clauses trail older entry heads nodes gone n gone left was
put_back vars clauses trail older entry heads nodes gone n left was chains rest visit some =
    let l = looked vars clauses trail older entry heads nodes gone n (suc left) was chains rest visit in (
      with_first chains gone n,
      (
        rest,
        visited vars clauses trail trail older entry heads nodes gone n gone left was was chains rest visit (λ e. e) l.has l.differ l.gone_small visit.trail_is refl (keeps_same trail)
            (not_guarded trail older entry gone _ visit.turned visit.not_before.one) l.guard_old
            (λ none. absurd (some none)) visit.conflict,
      ),
    )

pub from_cursor : (vars : ℕ) (clauses : List Clause) (trail older : List TrueLit) (entry : TrueLit) (heads : List (Option ℕ)) (nodes : List Node) (gone left : ℕ) (cursor next was : Option ℕ) → Visits vars clauses trail older entry heads nodes gone cursor left was
    → cursor ≡ next → Visits vars clauses trail older entry heads nodes gone next left was
from_cursor vars clauses trail older entry heads nodes gone left cursor next was v e = subst (λ (k : Option ℕ). Visits vars clauses trail older entry heads nodes gone k left was) e v

-- what it says
pub record IsSeen (vars : ℕ) (clauses : List Clause) (trail : List TrueLit) (heads : List (Option ℕ)) (nodes : List Node) (gone n : ℕ) : Type 0 where
  pub trail_is : IsTrail vars clauses trail
  pub within : n < length nodes
  pub partner_in : opposite n < length nodes
  pub known : n / 2 < length clauses
  pub heads_len : length heads ≡ 2 * vars
  pub gone_small : gone < 2 * vars
  pub other_small : (node_at nodes (opposite n)).lit < 2 * vars

pub seen : (vars : ℕ) (clauses : List Clause) (trail : List TrueLit) (heads : List (Option ℕ)) (nodes : List Node) (gone n : ℕ) (was : Option ℕ) → CanVisit vars clauses trail heads nodes gone n was → IsSeen vars clauses trail heads nodes gone n
seen vars clauses trail heads nodes gone n was c =
    let v = c.1.1.1 in
    let f = in_front vars clauses trail c.0 c.1.0 heads nodes gone n c.1.1.0 was v in
    let l = looked vars clauses trail c.0 c.1.0 heads nodes gone n c.1.1.0 was v.0 f.0 f.1 in
    let below : n < 2 * length clauses = l.used.below in
    record {
      trail_is = v.1.1.trail_is;
      within = l.within;
      partner_in = l.partner_in;
      known = omega arith;
      heads_len = v.1.1.heads_len;
      gone_small = l.gone_small;
      other_small = l.other_small;
    }

-- one of the nodes that are left is taken
pub some_left : (vars : ℕ) (clauses : List Clause) (trail older : List TrueLit) (entry : TrueLit) (heads : List (Option ℕ)) (nodes : List Node) (gone n left : ℕ) (was : Option ℕ) → Visits vars clauses trail older entry heads nodes gone (Some n) left was
    → left ≡ suc (left - 1)
some_left vars clauses trail older entry heads nodes gone n left was v =
    let f = in_front vars clauses trail older entry heads nodes gone n left was v in
    let b : length (n ∷ f.0) ≤ left = f.1.few in
    omega arith
