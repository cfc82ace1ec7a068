-- The sums of the arcs with which two lanes begin alike.
use Rattle.std.proofs.Common.{◌≡◌, inl, inr, ℕ, Bool, true, ℤ, pos, length, refl, sym, ◌∙◌, arith}
use Rattle.std.specs.Prelude.{Option, Some, None, IfNone, slice_get}
use Rattle.lane_forest.specs.declared.node.LaneNode.{LaneNode}
use Rattle.lane_forest.specs.Forest.{Grove, arcs_at, IsMeeting, HasNoMeeting, IsShare, AreDifferenceEnds, IsSpreadOf}
use Rattle.lane_forest.proofs.Parts.{part_short}

pub if_none : {X : Type 0} (o : Option X) (Q : Type 0) → Q → IfNone o Q
if_none None Q q = q
if_none (Some x) Q q = tt

module _ (g : Grove) (a b : ℕ) where
  pub share_meeting : (lane : ℕ) (node : LaneNode) (low high : ℤ) → IsMeeting g.arcs a b lane → slice_get g.nodes lane ≡ Some node → low ≡ node.low → high ≡ node.high → IsShare g a b low high
  share_meeting lane node low high met has l h = record {
    count = length (arcs_at g.arcs lane);
    in_first = part_short g.arcs a lane met.first;
    in_second = part_short g.arcs b lane met.second;
    alike = sym met.first.first ∙ met.second.first;
    most = met.most;
    sums = inr (lane, node, has, met.first.first, l, h);
  }

  pub share_none : HasNoMeeting g.arcs a b → IsShare g a b (pos 0) (pos 0)
  share_none none = record { count = 0; in_first = omega arith; in_second = omega arith; alike = refl; most = none; sums = inl (refl, refl, refl) }

  pub spread_of : (same : Bool) (one other : LaneNode) (low high least most : ℤ) → slice_get g.nodes a ≡ Some one → slice_get g.nodes b ≡ Some other → (same ≡ true → IsShare g a b low high) → ((same ≡ true → ⊥) → (low ≡ pos 0) × (high ≡ pos 0)) → AreDifferenceEnds one other low high least most → IsSpreadOf g same a b least most
  spread_of same one other low high least most has has' shared none difference = record { one = one; other = other; one_is = has; other_is = has'; low = low; high = high; shared = (shared, none); difference = difference }
