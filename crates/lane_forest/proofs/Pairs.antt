-- First parts of two lanes.
use Rattle.std.proofs.Common.{true, false, not, eqb, eq-eqb, ◌≡◌, ◌≢◌, inl, inr, ℕ, ◌+◌, ◌<◌, ◌≤◌, List, length, take, sym, ap, ◌∙◌, subst, arith}
use Rattle.std.proofs.lemmas.List.{take-take, take_all}
use Rattle.std.proofs.lemmas.Bool.{cases_lt}
use Rattle.std.specs.Prelude.{Some}
use Rattle.rsfq_ids.specs.declared.offence.PathArc.{PathArc}
use Rattle.lane_forest.specs.declared.node.LaneNode.{LaneNode}
use Rattle.lane_forest.specs.Forest.{arcs_at, IsStoredLane, IsFirstPart, IsAncestor, DifferInArcs, AreAlikeUpTo, IsPairOf, IsShorterPair, IsMeeting, HasNoMeeting}
use Rattle.lane_forest.proofs.Parts.{part_further, part_parent}

-- lists that begin alike begin alike with fewer too
pub alike_less : {X : Type 0} (one other : List X) (k j : ℕ) → j ≤ k → take k one ≡ take k other → take j one ≡ take j other
alike_less one other k j l e = sym (take-take j k one l) ∙ ap (λ xs. take j xs) e ∙ take-take j k other l

module _ (arcs : List (List PathArc)) (a b : ℕ) (first : a < length arcs) (second : b < length arcs) (same : length (arcs_at arcs a) ≡ length (arcs_at arcs b)) (differ : a ≢ b) where
  -- where two first parts as long as each other are not one, the lanes are alike up to fewer arcs
  apart_more : DifferInArcs arcs → (one other : ℕ) → IsFirstPart arcs a one → IsFirstPart arcs b other → one ≢ other → length (arcs_at arcs one) ≡ length (arcs_at arcs other) → AreAlikeUpTo (arcs_at arcs a) (arcs_at arcs b) (length (arcs_at arcs one))
  apart_more distinct one other part part' apart even k l m alike = elim (cases_lt (length (arcs_at arcs one)) k) [
    | inr few ↦ few
    | inl more ↦
        (let i = part.inside in
        let j = part'.inside in
        let e : arcs_at arcs one ≡ arcs_at arcs other = part.first ∙ alike_less (arcs_at arcs a) (arcs_at arcs b) k (length (arcs_at arcs one)) (omega arith) alike ∙ ap (λ (n : ℕ). take n (arcs_at arcs b)) even ∙ sym part'.first in
        absurd (apart (distinct one other (omega arith) (omega arith) e)))
  ]

  pub jump_pair : (one other : ℕ) → IsAncestor arcs a one → IsAncestor arcs b other → one ≢ other → length (arcs_at arcs one) ≡ length (arcs_at arcs other) → length (arcs_at arcs one) < length (arcs_at arcs a) → IsShorterPair arcs a b one other
  jump_pair one other is is' apart even shorter = record {
    pair = record { first = is.part; second = is'.part; same = even; most = λ distinct. apart_more distinct one other is.part is'.part apart even };
    shorter = shorter;
  }

  -- two lanes that are not one are not alike to their end
  not_whole : DifferInArcs arcs → (count : ℕ) → length (arcs_at arcs a) ≡ count + 1 → AreAlikeUpTo (arcs_at arcs a) (arcs_at arcs b) count
  not_whole distinct count long k l m alike = elim (cases_lt count k) [
    | inr few ↦ few
    | inl more ↦
        (let e : arcs_at arcs a ≡ arcs_at arcs b = sym (take_all k (arcs_at arcs a) (omega arith)) ∙ alike ∙ take_all k (arcs_at arcs b) (omega arith) in
        absurd (differ (distinct a b first second e)))
  ]

  pub parent_pair : (one other : ℕ) (node beside : LaneNode) → IsStoredLane arcs a node → node.parent ≡ Some one → IsStoredLane arcs b beside → beside.parent ≡ Some other → IsShorterPair arcs a b one other
  parent_pair one other node beside is has is' has' =
      let p = part_parent arcs a one node is has in
      let q = part_parent arcs b other beside is' has' in
      let l = p.1 in
      let m = q.1 in
      record {
        pair = record { first = p.0; second = q.0; same = omega arith; most = λ distinct. not_whole distinct (length (arcs_at arcs one)) p.1 };
        shorter = omega arith;
      }

  pub none_pair : length (arcs_at arcs a) ≡ 1 → HasNoMeeting arcs a b
  none_pair one distinct = not_whole distinct 0 one

-- two lanes and first parts of them, further back
module _ (arcs : List (List PathArc)) (a b : ℕ) where
  pub further_pair : (one other x y : ℕ) → IsPairOf arcs a b one other → IsShorterPair arcs one other x y → IsPairOf arcs a b x y
  further_pair one other x y pair shorter =
      let next = shorter.pair in
      record {
        first = part_further arcs a one x pair.first next.first;
        second = part_further arcs b other y pair.second next.second;
        same = next.same;
        most = λ distinct k l m alike.
            (let few = pair.most distinct k l m alike in
            let even = pair.same in
            let e : take k (arcs_at arcs one) ≡ take k (arcs_at arcs other) =
            ap (λ (xs : List PathArc). take k xs) pair.first.first ∙ take-take k (length (arcs_at arcs one)) (arcs_at arcs a) few ∙ alike ∙ sym (take-take k (length (arcs_at arcs other)) (arcs_at arcs b) (omega arith)) ∙ ap (λ (xs : List PathArc). take k xs) (sym pair.second.first) in
            next.most distinct k few (omega arith) e);
      }

  -- where the parts have no first parts of their own, the lanes do not begin alike
  pub no_pair : (one other : ℕ) → IsPairOf arcs a b one other → HasNoMeeting arcs one other → HasNoMeeting arcs a b
  no_pair one other pair none distinct k l m alike =
      let few = pair.most distinct k l m alike in
      let even = pair.same in
      let e : take k (arcs_at arcs one) ≡ take k (arcs_at arcs other) =
      ap (λ (xs : List PathArc). take k xs) pair.first.first ∙ take-take k (length (arcs_at arcs one)) (arcs_at arcs a) few ∙ alike ∙ sym (take-take k (length (arcs_at arcs other)) (arcs_at arcs b) (omega arith)) ∙ ap (λ (xs : List PathArc). take k xs) (sym pair.second.first) in
      none distinct k few (omega arith) e

  -- the first parts of the length of the shorter
  pub begin_pair : (one other count : ℕ) → IsFirstPart arcs a one → IsFirstPart arcs b other → length (arcs_at arcs one) ≡ count → length (arcs_at arcs other) ≡ count → ((k : ℕ) → k ≤ length (arcs_at arcs a) → k ≤ length (arcs_at arcs b) → k ≤ count) → IsPairOf arcs a b one other
  begin_pair one other count part part' l l' least = record { first = part; second = part'; same = l ∙ sym l'; most = λ distinct k m n alike. (let o = least k m n in omega arith) }

  -- the parts are one
  pub is_meeting : (one other : ℕ) → IsPairOf arcs a b one other → one ≡ other → IsMeeting arcs a b one
  is_meeting one other pair e = record { first = pair.first; second = subst (λ (x : ℕ). IsFirstPart arcs b x) (sym e) pair.second; most = pair.most }

pub differs : (a b : ℕ) → true ≡ not (eqb a b) → a ≢ b
differs a b h e = let r : eqb a b ≡ true = eq-eqb a b e in let s : true ≡ false = h ∙ ap not r in cc
