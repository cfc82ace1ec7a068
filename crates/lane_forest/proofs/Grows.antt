-- A forest with one more lane.
use Rattle.std.proofs.Common.{◌≡◌, ◌⊎◌, inl, inr, ℕ, zero, suc, ◌+◌, ◌<◌, ℤ, pos, ◌≤ℤ◌, List, [], ◌∷◌, ◌++◌, length, take, refl, sym, ap, ◌∙◌, subst, arith}
use Rattle.std.proofs.lemmas.List.{length_push, take-append-le, get_or_append_left, get_or_push}
use Rattle.std.proofs.lemmas.Option.{slice_get_within}
use Rattle.std.specs.Prelude.{Option, Some, None, slice_get}
use Rattle.rsfq_ids.specs.declared.offence.PathArc.{PathArc}
use Rattle.lane_forest.specs.declared.node.LaneNode.{LaneNode}
use Rattle.lane_forest.specs.declared.forest.Stored.{Stored}
use Rattle.lane_forest.specs.Forest.{arcs_at, arcs_before, IsStoredLane, IsSummed, IsFirstPart, IsAncestor, with_lane, rooted, extended}
use Rattle.lane_forest.proofs.Parts.{part_short, part_itself}
use Rattle.lane_forest.specs.Held.{arcs_behind, AreStored}

abbrev pub arcs_of : List (List PathArc) → Stored → List PathArc
arcs_of arcs s = arcs_before arcs s.node.parent ++ s.node.last ∷ []

pub arcs_behind_push : (arcs : List (List PathArc)) (ss : List Stored) (s : Stored) → arcs_behind arcs (ss ++ s ∷ []) ≡ arcs_behind arcs ss ++ arcs_of (arcs_behind arcs ss) s ∷ []
arcs_behind_push arcs [] s = refl
arcs_behind_push arcs (t ∷ ss) s = arcs_behind_push (arcs ++ arcs_of arcs t ∷ []) ss s

pub length-arcs_behind : (arcs : List (List PathArc)) (ss : List Stored) → length (arcs_behind arcs ss) ≡ length arcs + length ss
length-arcs_behind arcs [] = omega arith
length-arcs_behind arcs (t ∷ ss) = let more = length-arcs_behind (arcs ++ arcs_of arcs t ∷ []) ss in omega (arith, length_push arcs (arcs_of arcs t))

-- what is known of lanes stays true as more come
module _ (arcs more : List (List PathArc)) where
  pub at_kept : (lane : ℕ) → lane < length arcs → arcs_at (arcs ++ more) lane ≡ arcs_at arcs lane
  at_kept lane l = get_or_append_left arcs more [] lane l

  pub before_kept : (lane : ℕ) (parent : Option ℕ) → lane < length arcs → ((p : ℕ) → parent ≡ Some p → p < lane) → arcs_before (arcs ++ more) parent ≡ arcs_before arcs parent
  before_kept lane None l below = refl
  before_kept lane (Some p) l below = let b : p < lane = below p refl in at_kept p (omega arith)

  pub lane_kept : (lane : ℕ) (node : LaneNode) → lane < length arcs → IsStoredLane arcs lane node → IsStoredLane (arcs ++ more) lane node
  lane_kept lane node l is = record {
    arcs_are = at_kept lane l ∙ is.arcs_are ∙ ap (λ (xs : List PathArc). xs ++ node.last ∷ []) (sym (before_kept lane node.parent l is.parent_in));
    length_is = ap (λ (xs : List PathArc). length xs) (at_kept lane l) ∙ is.length_is;
    short = is.short;
    parent_in = is.parent_in;
    parent_some = λ p has. (let b = is.parent_in p has in subst (λ (xs : List PathArc). 0 < length xs) (sym (at_kept p (omega arith))) (is.parent_some p has));
    summed = is.summed;
  }

  pub part_kept : (lane other : ℕ) → lane < length arcs → IsFirstPart arcs lane other → IsFirstPart (arcs ++ more) lane other
  part_kept lane other l part =
      let i = part.inside in
      let a = at_kept lane l in
      let b = at_kept other (omega arith) in
      record {
        inside = i;
        some = subst (λ (xs : List PathArc). 0 < length xs) (sym b) part.some;
        first = subst (λ (xs : List PathArc). xs ≡ take (length xs) (arcs_at (arcs ++ more) lane)) (sym b) (subst (λ (ys : List PathArc). arcs_at arcs other ≡ take (length (arcs_at arcs other)) ys) (sym a) part.first);
      }

  pub ancestor_kept : (lane other : ℕ) → lane < length arcs → IsAncestor arcs lane other → IsAncestor (arcs ++ more) lane other
  ancestor_kept lane other l is =
      let part = is.part in
      let i = part.inside in
      let a = at_kept lane l in
      let b = at_kept other (omega arith) in
      record {
        part = part_kept lane other l part;
        back = subst (λ (xs : List PathArc). 1 < length (arcs_at (arcs ++ more) lane) → length xs < length (arcs_at (arcs ++ more) lane)) (sym b) (subst (λ (ys : List PathArc). 1 < length ys → length (arcs_at arcs other) < length ys) (sym a) is.back);
      }

pub at_push : (arcs : List (List PathArc)) (new : List PathArc) (lane : ℕ) → length arcs ≡ lane → arcs_at (arcs ++ new ∷ []) lane ≡ new
at_push arcs new lane l = get_or_push arcs new [] lane l

pub slice_get_push : {X : Type 0} (xs : List X) (y x : X) (i : ℕ) → slice_get (xs ++ y ∷ []) i ≡ Some x → (slice_get xs i ≡ Some x) ⊎ ((i ≡ length xs) × (y ≡ x))
slice_get_push [] y x zero e = inr (refl, cc)
slice_get_push [] y x (suc i) e = cc
slice_get_push (z ∷ xs) y x zero e = inl e
slice_get_push (z ∷ xs) y x (suc i) e = elim (slice_get_push xs y x i e) [
  | inl old ↦ inl old
  | inr new ↦ inr (ap suc new.0, new.1)
]

-- the lanes with one more
pub stored_push : (stored : List Stored) (s : Stored) → AreStored (arcs_behind [] stored) stored → IsStoredLane (arcs_behind [] (stored ++ s ∷ [])) (length stored) s.node → IsAncestor (arcs_behind [] (stored ++ s ∷ [])) (length stored) s.jump →
    AreStored (arcs_behind [] (stored ++ s ∷ [])) (stored ++ s ∷ [])
stored_push stored s are lane jump =
    let arcs = arcs_behind [] stored in
    let new = arcs_of arcs s ∷ [] in
    let count = length-arcs_behind [] stored in
    let whole = arcs_behind_push [] stored s in
    record {
      lanes = λ at t has. elim (slice_get_push stored s t at has) [
        | inl old ↦ (let l = slice_get_within stored at t old in subst (λ (all : List (List PathArc)). IsStoredLane all at t.node) (sym whole) (lane_kept arcs new at t.node (omega arith) (are.lanes at t old)))
        | inr last ↦ subst (λ (k : ℕ). IsStoredLane (arcs_behind [] (stored ++ s ∷ [])) k t.node) (sym last.0) (subst (λ (u : Stored). IsStoredLane (arcs_behind [] (stored ++ s ∷ [])) (length stored) u.node) last.1 lane)
      ];
      jumps = λ at t has. elim (slice_get_push stored s t at has) [
        | inl old ↦ (let l = slice_get_within stored at t old in subst (λ (all : List (List PathArc)). IsAncestor all at t.jump) (sym whole) (ancestor_kept arcs new at t.jump (omega arith) (are.jumps at t old)))
        | inr last ↦ subst (λ (k : ℕ). IsAncestor (arcs_behind [] (stored ++ s ∷ [])) k t.jump) (sym last.0) (subst (λ (u : Stored). IsAncestor (arcs_behind [] (stored ++ s ∷ [])) (length stored) u.jump) last.1 jump)
      ];
    }

-- a new lane of one arc
pub rooted_is : (arcs : List (List PathArc)) (last : PathArc) (low high : ℤ) (lane : ℕ) → length arcs ≡ lane → pos 0 ≤ℤ low → low ≤ℤ high → high ≤ℤ pos 1000000000 →
    IsStoredLane (with_lane arcs (rooted last low high)) lane (rooted last low high) × IsAncestor (with_lane arcs (rooted last low high)) lane lane
rooted_is arcs last low high lane at natural order small =
    let here : arcs_at (with_lane arcs (rooted last low high)) lane ≡ last ∷ [] = at_push arcs (last ∷ []) lane at in
    let one : length (arcs_at (with_lane arcs (rooted last low high)) lane) ≡ 1 = ap (λ (xs : List PathArc). length xs) here in (
      record {
        arcs_are = here;
        length_is = one;
        short = omega arith;
        parent_in = λ p has. cc;
        parent_some = λ p has. cc;
        summed = record { natural = natural; order = order; small = small; few = omega arith };
      },
      record { part = part_itself (with_lane arcs (rooted last low high)) lane (omega arith); back = λ more. absurd (omega arith) },
    )

-- a new lane behind a parent
module _ (arcs : List (List PathArc)) (parent jump : ℕ) (before : LaneNode) (last : PathArc) (low high : ℤ) (lane : ℕ) (at : length arcs ≡ lane) (inside : parent < length arcs) (is : IsStoredLane arcs parent before) where
  here_is : arcs_at (with_lane arcs (extended before parent last low high)) lane ≡ arcs_at arcs parent ++ last ∷ []
  here_is = at_push arcs (arcs_at arcs parent ++ last ∷ []) lane at

  parent_is : arcs_at (with_lane arcs (extended before parent last low high)) parent ≡ arcs_at arcs parent
  parent_is = at_kept arcs ((arcs_at arcs parent ++ last ∷ []) ∷ []) parent inside

  some_parent : 0 < length (arcs_at arcs parent)
  some_parent =
      let e : length (arcs_at arcs parent) ≡ length (arcs_before arcs before.parent) + 1 = ap (λ (xs : List PathArc). length xs) is.arcs_are ∙ length_push (arcs_before arcs before.parent) before.last in omega arith

  pub extended_is : IsSummed (extended before parent last low high) → IsStoredLane (with_lane arcs (extended before parent last low high)) lane (extended before parent last low high)
  extended_is summed = record {
    arcs_are = here_is ∙ ap (λ (xs : List PathArc). xs ++ last ∷ []) (sym parent_is);
    length_is = ap (λ (xs : List PathArc). length xs) here_is ∙ length_push (arcs_at arcs parent) last ∙ ap (λ (n : ℕ). n + 1) is.length_is;
    short = (let s = is.short in omega arith);
    parent_in = λ p has. (let e : parent ≡ p = cc in omega arith);
    parent_some = λ p has. (let e : parent ≡ p = cc in subst (λ (k : ℕ). 0 < length (arcs_at (with_lane arcs (extended before parent last low high)) k)) e (subst (λ (xs : List PathArc). 0 < length xs) (sym parent_is) some_parent));
    summed = summed;
  }

  pub extended_jump : IsFirstPart arcs parent jump → IsAncestor (with_lane arcs (extended before parent last low high)) lane jump
  extended_jump part =
      let i = part.inside in
      let short = part_short arcs parent jump part in
      let jump_at : arcs_at (with_lane arcs (extended before parent last low high)) jump ≡ arcs_at arcs jump = at_kept arcs ((arcs_at arcs parent ++ last ∷ []) ∷ []) jump (omega arith) in
      let longer : length (arcs_at (with_lane arcs (extended before parent last low high)) lane) ≡ length (arcs_at arcs parent) + 1 = ap (λ (xs : List PathArc). length xs) here_is ∙ length_push (arcs_at arcs parent) last in
      let same : length (arcs_at (with_lane arcs (extended before parent last low high)) jump) ≡ length (arcs_at arcs jump) = ap (λ (xs : List PathArc). length xs) jump_at in
      record {
        part = record {
          inside = omega arith;
          some = (let s = part.some in omega arith);
          first = jump_at ∙ part.first ∙ sym (take-append-le (length (arcs_at arcs jump)) (arcs_at arcs parent) (last ∷ []) short) ∙ ap (λ (xs : List PathArc). take (length (arcs_at arcs jump)) xs) (sym here_is)
              ∙ ap (λ (n : ℕ). take n (arcs_at (with_lane arcs (extended before parent last low high)) lane)) (sym same);
        };
        back = λ more. omega arith;
      }
