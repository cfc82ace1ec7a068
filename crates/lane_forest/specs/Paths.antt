-- The timing paths to a net, as a list in order; and which pin is the first with too many.
use Rattle.std.specs.Prelude.{◌≡◌, ℕ, ◌+◌, ◌<◌, ◌≤◌, cond, List, [], ◌∷◌, ◌++◌, map, length, slice_get, unwrap_or}
use Rattle.std.specs.List.{All, AllPairs, AllZip, Contains, flat_map, enumerate_from, range_with_len, sum}
use Rattle.std.specs.Option.{option_map}
use Rattle.rsfq_ids.specs.declared.limits.TheConstants.{PIN_LANE_LIMIT, LANE_LIMIT}
use Rattle.rsfq_ids.specs.declared.id.NetId.{NetId}
use Rattle.rsfq_ids.specs.declared.id.CellId.{CellId}
use Rattle.rsfq_ids.specs.declared.id.PinId.{PinId}
use Rattle.rsfq_ids.specs.declared.circuit.Reader.{Reader}
use Rattle.rsfq_ids.specs.declared.circuit.Reader.TheVariants as reader
use Rattle.rsfq_ids.specs.declared.offence.PathArc.{PathArc}
use Rattle.rsfq_ids.specs.declared.offence.PathArc.TheVariants as arc
use Rattle.rsfq_ids.specs.Design.{Design}
use Rattle.rsfq_ids.specs.Circuit.{IsPin, Reads}
use Rattle.rsfq_ids.specs.Path.{IsPath}
use Rattle.rsfq_ids.specs.WellFormed.{reading_pins}

-- Of two paths to one net the one comes before the other: they come together in one cell, the one at an earlier pin, and go on alike.
pub record ComesBefore (one other : List PathArc) : Type 0 where
  pub cell : CellId
  pub pin : ℕ
  pub later : ℕ
  pub out : ℕ
  pub before : List PathArc
  pub behind : List PathArc
  pub rest : List PathArc
  pub one_is : one ≡ before ++ arc.Through cell pin out ∷ rest
  pub other_is : other ≡ behind ++ arc.Through cell later out ∷ rest
  pub earlier : pin < later

-- exactly the timing paths to a net, each once, in order
pub record ArePathsTo (design : Design) (net : NetId) (paths : List (List PathArc)) : Type 0 where
  pub each : All (λ arcs. IsPath design arcs net) paths
  pub every : (arcs : List PathArc) → IsPath design arcs net → Contains paths arcs
  pub ordered : AllPairs ComesBefore paths

-- the number of timing paths to a reader
pub record HasPaths (design : Design) (at : Reader) (count : ℕ) : Type 0 where
  pub net : NetId
  pub paths : List (List PathArc)
  pub reads : Reads design.flat at net
  pub are : ArePathsTo design net paths
  pub many : length paths ≡ count

-- how many pins of a cell read a net
abbrev pub pins_of : Design → CellId → ℕ
pins_of design cell = unwrap_or (option_map (reading_pins design.table) (slice_get design.flat.cells cell)) 0

-- the readers in the order in which they are looked at: the pins of the cells, which come in the order that is given, and then the output bits in port order
abbrev pub readers_along : Design → List CellId → List Reader
readers_along design order =
    flat_map (λ cell. map (reader.Pin cell) (range_with_len 0 (pins_of design cell))) order
    ++ flat_map (λ (n, port). cond port.output (reader.Port n ∷ []) []) (enumerate_from 0 design.flat.ports)

-- A reader of these with so many timing paths, where none before it has more than one pin may have, and those before it have so many in all, not more than a circuit may have.
pub record IsCountedUpTo (design : Design) (order : List CellId) (at : Reader) (earlier count : ℕ) : Type 0 where
  pub before : List Reader
  pub behind : List Reader
  pub parts : readers_along design order ≡ before ++ at ∷ behind
  pub counts : List ℕ
  pub counted : AllZip (HasPaths design) before counts
  pub few : All (λ n. n ≤ PIN_LANE_LIMIT) counts
  pub earlier_is : earlier ≡ sum counts
  pub small : earlier ≤ LANE_LIMIT
  pub here : HasPaths design at count

-- the first pin with more timing paths than a pin may have, where no earlier running sum is above what a circuit may have
pub record IsCrowdedPin (design : Design) (order : List CellId) (pin : PinId) (count : ℕ) : Type 0 where
  pub at : Reader
  pub net : NetId
  pub earlier : ℕ
  pub pin_is : IsPin design.flat pin at net
  pub reached : IsCountedUpTo design order at earlier count
  pub many : PIN_LANE_LIMIT < count

-- the first running sum above what a circuit may have, where no pin up to there has more than a pin may have
pub record IsCrowdedTotal (design : Design) (order : List CellId) (total : ℕ) : Type 0 where
  pub at : Reader
  pub earlier : ℕ
  pub count : ℕ
  pub reached : IsCountedUpTo design order at earlier count
  pub few : count ≤ PIN_LANE_LIMIT
  pub total_is : total ≡ earlier + count
  pub many : LANE_LIMIT < total
