-- The forest that the fields hold.
use Rattle.std.specs.Prelude.{◌≡◌, ℕ, ◌<◌, ◌^◌, List, [], ◌∷◌, ◌++◌, map, length, slice_get, Some}
use Rattle.rsfq_ids.specs.declared.offence.PathArc.{PathArc}
use Rattle.lane_forest.specs.declared.forest.Stored.{Stored}
use Rattle.lane_forest.specs.declared.forest.Forest.TheInside.{Inside}
use Rattle.lane_forest.specs.Forest.{Grove, arcs_before, IsStoredLane, IsAncestor}

-- the arcs of these lanes behind those of earlier ones
abbrev pub arcs_behind : List (List PathArc) → List Stored → List (List PathArc)
arcs_behind arcs [] = arcs
arcs_behind arcs (s ∷ rest) = arcs_behind (arcs ++ (arcs_before arcs s.node.parent ++ s.node.last ∷ []) ∷ []) rest

abbrev pub grove_of : Inside → Grove
grove_of a = record { nodes = map (λ s. s.node) a.stored.items; arcs = arcs_behind [] a.stored.items; gates = map (λ s. s.gate) a.stored.items }

-- what is stored of each lane
pub record AreStored (arcs : List (List PathArc)) (stored : List Stored) : Type 0 where
  pub lanes : (lane : ℕ) (s : Stored) → slice_get stored lane ≡ Some s → IsStoredLane arcs lane s.node
  pub jumps : (lane : ℕ) (s : Stored) → slice_get stored lane ≡ Some s → IsAncestor arcs lane s.jump

pub record IsForest (a : Inside) : Type 0 where
  pub few : length a.stored.items < 2 ^ 32
  pub stored_are : AreStored (arcs_behind [] a.stored.items) a.stored.items
