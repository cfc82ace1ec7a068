-- From a core to a visit and back.
use Rattle.std.proofs.Common.{◌≡◌, ◌∙◌, ◌<◌, ◌≤◌, ◌+◌, ◌*◌, ◌-◌, inl, inr, ℕ, true, false, refl, sym, ap, subst, arith, List, [], ◌∷◌, length, set, length-drop}
use Rattle.std.specs.Prelude.{Option, Some, None}
use Rattle.std.proofs.Math.ListN.{length-set}
use Rattle.std.proofs.lemmas.Bool.{cases_lt}
use Rattle.std.proofs.lemmas.Option.{none-some}
use Rattle.rsfq_ids.specs.Formula.{Clause, opposite}
use Rattle.proof_arena.specs.Step.{is_among}
use Rattle.cdcl_core.specs.declared.trail.TrueLit.{TrueLit}
use Rattle.cdcl_core.specs.declared.watches.Node.{Node}
use Rattle.cdcl_core.specs.Trail.{level_in, level_of, up_to, IsTrail}
use Rattle.cdcl_core.specs.Oldest.{oldest}
use Rattle.cdcl_core.specs.Search.{IsGrown, IsConflict}
use Rattle.cdcl_core.specs.Watch.{node_at, head_at, IsCore, IsUsed, IsLinked, IsGuarded, AreGuarded, IsWatched, Visits}
use Rattle.cdcl_core.specs.Cores.{Begins}
use Rattle.cdcl_core.proofs.Opposites.{opp_opp, opp_lt, opp_same}
use Rattle.cdcl_core.proofs.Chains.{without, detached, chain_few, differ_bools, not_in}
use Rattle.cdcl_core.proofs.Trails.{true_cases, at_newest, level_below}
use Rattle.cdcl_core.proofs.Growing.{oldest_true, oldest_trail, oldest_grown, up_oldest, up_grown, level_grown, longer, grown_true}
use Rattle.cdcl_core.proofs.Visiting.{ended}

oldest_length : (n : ℕ) (trail : List TrueLit) → n ≤ length trail → length (oldest n trail) ≡ n
oldest_length n trail l = omega (arith, length-drop (length trail - n) trail)

-- the literal at the first place that was not looked at
pub begins : (vars : ℕ) (clauses : List Clause) (given : ℕ) (trail : List TrueLit) (done fresh : ℕ) (heads : List (Option ℕ)) (nodes : List Node) (entry : TrueLit) (gone : ℕ)
    → IsCore vars clauses given trail done fresh heads nodes → done < length trail → oldest (done + 1) trail ≡ entry ∷ oldest done trail → gone ≡ opposite entry.lit
    → Begins vars clauses trail (oldest done trail) entry heads nodes gone
begins vars clauses given trail done fresh heads nodes entry gone core more at turned =
    let older = oldest done trail in
    let part : (lit k : ℕ) → level_in (entry ∷ older) lit ≡ Some k → level_in trail lit ≡ Some k =
    λ lit k h. oldest_true vars clauses trail (done + 1) lit k core.trail_is (ap (λ (xs : List TrueLit). level_in xs lit) at ∙ h) in
    let tail : IsTrail vars clauses (entry ∷ older) = subst (IsTrail vars clauses) at (oldest_trail vars clauses trail (done + 1) core.trail_is) in
    let low : entry.level ≤ level_of trail = level_below vars clauses trail entry.lit entry.level core.trail_is (part entry.lit entry.level (at_newest entry older entry.lit refl)) in
    let small : entry.lit < 2 * vars = tail.0.within in
    let open_level : entry.level ≡ level_of trail = elim (cases_lt entry.level (level_of trail)) [
      | inl below ↦
          let few : length (up_to entry.level trail) ≤ done = core.behind entry.level below in
          let many : length (entry ∷ older) ≤ length (up_to entry.level trail) = up_oldest vars clauses trail older (done + 1) entry core.trail_is at in
          let size : length older ≡ done = oldest_length done trail core.done_in in
          absurd (omega arith)
      | inr above ↦ omega arith
    ] in (
      core.watched.0,
      record {
        trail_is = core.trail_is;
        heads_len = core.heads_len;
        nodes_len = core.nodes_len;
        over = core.over;
        turned = sym (opp_opp entry.lit) ∙ ap opposite (sym turned);
        open_level = open_level;
        part = part;
        not_before = tail.0.free;
        small = subst (λ l. l < 2 * vars) (sym turned) (opp_lt entry.lit vars small);
        watched = core.watched.1;
      },
    )

-- a node that is not of the literal is guarded as before
guarded_on : (clauses : List Clause) (trail older : List TrueLit) (entry : TrueLit) (heads : List (Option ℕ)) (nodes : List Node) (gone : ℕ) (chains : ℕ → List ℕ) (n : ℕ)
    → IsWatched clauses trail older heads nodes chains [] → entry.lit ≡ opposite gone → IsUsed clauses (2 * length clauses) n → is_among (chains gone) n ≡ false
    → IsGuarded trail (entry ∷ older) (node_at nodes n).lit (node_at nodes (opposite n)).lit
guarded_on clauses trail older entry heads nodes gone chains n w turned u h = λ k at. elim (true_cases entry older (opposite (node_at nodes n).lit) k at) [
  | inl a ↦
      let same : (node_at nodes n).lit ≡ gone = opp_same (node_at nodes n).lit gone (a.0 ∙ turned) in
      elim (w.linked.every n u) [
        | inl none ↦ absurd (differ_bools (sym none))
        | inr there ↦ absurd (not_in (chains gone) n h (subst (λ l. is_among (chains l) n ≡ true) same there))
      ]
  | inr b ↦ w.guarded n u refl k b.1
]

-- its nodes are taken out
pub taken_out : (vars : ℕ) (clauses : List Clause) (trail older : List TrueLit) (entry : TrueLit) (heads : List (Option ℕ)) (nodes : List Node) (gone left : ℕ)
    → Begins vars clauses trail older entry heads nodes gone → length nodes ≤ left → Visits vars clauses trail older entry (set heads gone None) nodes gone (head_at heads gone) left None
taken_out vars clauses trail older entry heads nodes gone left b room =
    let chains = b.0 in
    let s = b.1 in
    let below : gone < length heads = omega (arith, s.small, s.heads_len) in
    let size : length (set heads gone None) ≡ length heads = length-set {A = Option ℕ} heads gone None in
    let few : length (chains gone) ≤ 2 * length clauses = chain_few clauses (2 * length clauses) heads nodes chains gone s.watched.linked in (
      without chains gone,
      (
        chains gone,
        record {
          trail_is = s.trail_is;
          heads_len = size ∙ s.heads_len;
          nodes_len = s.nodes_len;
          over = s.over;
          turned = s.turned;
          open_level = s.open_level;
          part = s.part;
          not_before = s.not_before;
          row = s.watched.linked.chain gone;
          few = omega (arith, s.nodes_len);
          watched = record {
            linked = detached clauses (2 * length clauses) heads nodes chains gone s.watched.linked below;
            watches = s.watched.watches;
            guarded = λ n u h. s.watched.guarded n u refl;
          };
          ahead = λ none. λ n u h. guarded_on clauses trail older entry heads nodes gone chains n s.watched s.turned u h;
          conflict = λ id e. absurd (none-some id e);
        },
      ),
    )

-- a core whose trail grew
pub core_grown : (vars : ℕ) (clauses : List Clause) (given : ℕ) (trail new : List TrueLit) (done after fresh : ℕ) (heads heads_new : List (Option ℕ)) (nodes nodes_new : List Node) (chains : ℕ → List ℕ)
    → IsCore vars clauses given trail done fresh heads nodes → IsGrown trail new → IsTrail vars clauses new → done ≤ after → after ≤ length new
    → length heads_new ≡ 2 * vars → 2 * length clauses ≤ length nodes_new → ((n : ℕ) → n < length nodes_new → 0 < vars → (node_at nodes_new n).lit < 2 * vars)
    → IsWatched clauses new (oldest after new) heads_new nodes_new chains [] → IsCore vars clauses given new after fresh heads_new nodes_new
core_grown vars clauses given trail new done after fresh heads heads_new nodes nodes_new chains core grown t low high heads_len nodes_len over watched = record {
  few = core.few;
  trail_is = t;
  given_in = core.given_in;
  fresh_in = core.fresh_in;
  done_in = high;
  behind = λ k l.
      let below : k < level_of trail = subst (λ n. k < n) (level_grown trail new grown) l in
      let old : length (up_to k trail) ≤ done = core.behind k below in
      let size = ap (λ (xs : List TrueLit). length xs) (up_grown trail new k grown below) in
      omega (arith, size);
  heads_len = heads_len;
  nodes_len = nodes_len;
  over = over;
  shorts = λ id l which short.
      let old = core.shorts id l which short in
      (old.0, (old.1.0, grown_true vars clauses trail new old.0 0 grown t old.1.1));
  watched = (chains, watched);
}

-- no node is left, and no clause was found to be false
pub ends : (vars : ℕ) (clauses : List Clause) (given : ℕ) (trail new : List TrueLit) (done fresh : ℕ) (heads heads_new : List (Option ℕ)) (nodes nodes_new : List Node) (entry : TrueLit) (gone left : ℕ)
    → IsCore vars clauses given trail done fresh heads nodes → done < length trail → oldest (done + 1) trail ≡ entry ∷ oldest done trail → IsGrown trail new
    → Visits vars clauses new (oldest done trail) entry heads_new nodes_new gone None left None → IsCore vars clauses given new (done + 1) fresh heads_new nodes_new
ends vars clauses given trail new done fresh heads heads_new nodes nodes_new entry gone left core more at grown v =
    let s = v.1.1 in
    let none : v.1.0 ≡ [] = ended nodes_new gone v.1.0 s.row in
    let looked : oldest (done + 1) new ≡ entry ∷ oldest done trail = oldest_grown trail new (done + 1) grown (omega arith) ∙ at in
    let size : length trail ≤ length new = longer trail new grown in
    let linked = subst (λ (loose : List ℕ). IsLinked clauses (2 * length clauses) heads_new nodes_new v.0 loose) none s.watched.linked in
    let ahead = subst (λ (loose : List ℕ). AreGuarded clauses (2 * length clauses) new (entry ∷ oldest done trail) nodes_new loose) none (s.ahead refl) in
    let watched : IsWatched clauses new (entry ∷ oldest done trail) heads_new nodes_new v.0 [] = record { linked = linked; watches = s.watched.watches; guarded = ahead } in
    core_grown vars clauses given trail new done (done + 1) fresh heads heads_new nodes nodes_new v.0 core grown s.trail_is (omega arith) (omega arith) s.heads_len s.nodes_len s.over
    (subst (λ (xs : List TrueLit). IsWatched clauses new xs heads_new nodes_new v.0 []) (sym looked) watched)

-- no node is left, and a clause was found to be false
pub breaks : (vars : ℕ) (clauses : List Clause) (given : ℕ) (trail new : List TrueLit) (done fresh : ℕ) (heads heads_new : List (Option ℕ)) (nodes nodes_new : List Node) (entry : TrueLit) (gone left id : ℕ)
    → IsCore vars clauses given trail done fresh heads nodes → IsGrown trail new
    → Visits vars clauses new (oldest done trail) entry heads_new nodes_new gone None left (Some id) → IsCore vars clauses given new done fresh heads_new nodes_new × IsConflict clauses new id
breaks vars clauses given trail new done fresh heads heads_new nodes nodes_new entry gone left id core grown v =
    let s = v.1.1 in
    let none : v.1.0 ≡ [] = ended nodes_new gone v.1.0 s.row in
    let looked : oldest done new ≡ oldest done trail = oldest_grown trail new done grown core.done_in in
    let size : length trail ≤ length new = longer trail new grown in
    let in_trail : done ≤ length trail = core.done_in in
    let watched : IsWatched clauses new (oldest done trail) heads_new nodes_new v.0 [] = subst (λ (loose : List ℕ). IsWatched clauses new (oldest done trail) heads_new nodes_new v.0 loose) none s.watched in (
      core_grown vars clauses given trail new done done fresh heads heads_new nodes nodes_new v.0 core grown s.trail_is (omega arith) (omega arith) s.heads_len s.nodes_len s.over
          (subst (λ (xs : List TrueLit). IsWatched clauses new xs heads_new nodes_new v.0 []) (sym looked) watched),
      s.conflict id refl,
    )
