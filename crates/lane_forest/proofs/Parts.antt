-- First parts of lanes.
use Rattle.std.proofs.Common.{◌≡◌, ℕ, ◌+◌, ◌<◌, ◌≤◌, List, [], ◌∷◌, ◌++◌, length, take, refl, sym, ap, ◌∙◌, arith, length-take}
use Rattle.std.proofs.lemmas.List.{take-take, take_all, take_at, length_push}
use Rattle.std.specs.Prelude.{Option, Some, None}
use Rattle.rsfq_ids.specs.declared.offence.PathArc.{PathArc}
use Rattle.lane_forest.specs.declared.node.LaneNode.{LaneNode}
use Rattle.lane_forest.specs.Forest.{arcs_at, arcs_before, IsStoredLane, IsFirstPart}

module _ (arcs : List (List PathArc)) where
  -- a first part is not longer
  pub part_short : (lane other : ℕ) → IsFirstPart arcs lane other → length (arcs_at arcs other) ≤ length (arcs_at arcs lane)
  part_short lane other part =
      let e : length (arcs_at arcs other) ≡ length (take (length (arcs_at arcs other)) (arcs_at arcs lane)) = ap (λ (xs : List PathArc). length xs) part.first in
      let l = length-take (length (arcs_at arcs other)) (arcs_at arcs lane) in omega arith

  pub part_itself : (lane : ℕ) → 0 < length (arcs_at arcs lane) → IsFirstPart arcs lane lane
  part_itself lane some = record { inside = omega arith; some = some; first = sym (take_all (length (arcs_at arcs lane)) (arcs_at arcs lane) (omega arith)) }

  pub part_further : (lane mid other : ℕ) → IsFirstPart arcs lane mid → IsFirstPart arcs mid other → IsFirstPart arcs lane other
  part_further lane mid other one two =
      let short = part_short mid other two in
      let a = one.inside in
      let b = two.inside in
      record {
        inside = omega arith;
        some = two.some;
        first = two.first ∙ ap (λ (xs : List PathArc). take (length (arcs_at arcs other)) xs) one.first ∙ take-take (length (arcs_at arcs other)) (length (arcs_at arcs mid)) (arcs_at arcs lane) short;
      }

  -- the parent of a lane is its first part, of one arc less
  pub part_parent : (lane parent : ℕ) (node : LaneNode) → IsStoredLane arcs lane node → node.parent ≡ Some parent → IsFirstPart arcs lane parent × (length (arcs_at arcs lane) ≡ length (arcs_at arcs parent) + 1)
  part_parent lane parent node is has =
      let whole : arcs_at arcs lane ≡ arcs_at arcs parent ++ node.last ∷ [] = is.arcs_are ∙ ap (λ (o : Option ℕ). arcs_before arcs o ++ node.last ∷ []) has in
      let below = is.parent_in parent has in (
        record {
          inside = omega arith;
          some = is.parent_some parent has;
          first = sym (ap (λ (xs : List PathArc). take (length (arcs_at arcs parent)) xs) whole ∙ take_at (arcs_at arcs parent) (node.last ∷ []) (length (arcs_at arcs parent)) refl);
        },
        ap (λ (xs : List PathArc). length xs) whole ∙ length_push (arcs_at arcs parent) node.last,
      )

  -- a lane without a parent has one arc
  pub root_one : (lane : ℕ) (node : LaneNode) → IsStoredLane arcs lane node → node.parent ≡ None → length (arcs_at arcs lane) ≡ 1
  root_one lane node is none = ap (λ (xs : List PathArc). length xs) (is.arcs_are ∙ ap (λ (o : Option ℕ). arcs_before arcs o ++ node.last ∷ []) none)
