-- What the definitions of lanes say together.
use Rattle.std.specs.Prelude.{◌≡◌, ◌≢◌, ℕ, ◌+◌, ◌≤◌, ℤ, List, length}
use Rattle.std.specs.List.{AllZip, Contains}
use Rattle.rsfq_ids.specs.declared.id.CellId.{CellId}
use Rattle.rsfq_ids.specs.declared.id.PinId.{PinId}
use Rattle.rsfq_ids.specs.declared.id.LaneId.{LaneId}
use Rattle.rsfq_ids.specs.declared.id.NetId.{NetId}
use Rattle.rsfq_ids.specs.declared.offence.PathArc.{PathArc}
use Rattle.rsfq_ids.specs.Design.{Design}
use Rattle.rsfq_ids.specs.Time.{IsWithin, total}
use Rattle.rsfq_ids.specs.Path.{IsRoute, IsPath, IsPathTo, IsDelay}
use Rattle.rsfq_ids.specs.Ready.{IsReady}
use Rattle.rsfq_ids.specs.Order.{IsOrder}
use Rattle.rsfq_ids.specs.WellFormed.{IsFlat}
use Rattle.lane_forest.specs.declared.fault.LaneFault.{LaneFault}
use Rattle.lane_forest.specs.declared.fault.LaneFault.TheVariants as fault
use Rattle.lane_forest.specs.Faults.{IsLaneFault}
use Rattle.lane_forest.specs.Forest.{arcs_at}
use Rattle.lane_forest.specs.Lanes.{HasSums}
use Rattle.lane_forest.specs.Paths.{ComesBefore, ArePathsTo}
use Rattle.lane_forest.specs.Table.{LaneTable, AreLanes, lanes_of}

-- There is only one list of the timing paths to a net.
abbrev pub PathsAreOne : Type 0
PathsAreOne = (design : Design) (net : NetId) (paths others : List (List PathArc)) → ArePathsTo design net paths → ArePathsTo design net others → paths ≡ others

-- And no path stands in it twice: a path does not come before itself, nor does one of two come before the other and behind it.
abbrev pub OrderIsStrict : Type 0
OrderIsStrict = ((arcs : List PathArc) → ¬ ComesBefore arcs arcs) × ((one other : List PathArc) → ComesBefore one other → ¬ ComesBefore other one)

-- In a design that is ready each route is a timing path.
abbrev pub RoutesArePaths : Type 0
RoutesArePaths = (design : Design) (rank : CellId → ℕ) → IsReady design rank → (arcs : List PathArc) (net : NetId) → IsRoute design arcs net → IsPath design arcs net

-- Where the cells have an order, a route has at most one arc more than there are cells.
abbrev pub RoutesAreShort : Type 0
RoutesAreShort = (design : Design) (order : List CellId) → IsOrder design.flat order → (arcs : List PathArc) (net : NetId) → IsRoute design arcs net → length arcs ≤ length design.flat.cells + 1

-- The sums of the least and of the greatest delays of arcs are the ends of the sums of all delays that the arcs may take, and such sums themselves.
abbrev pub SumsAreEnds : Type 0
SumsAreEnds =
    (design : Design) (arcs : List PathArc) (low high : ℤ) → HasSums design arcs low high → ((delays : List ℤ) → AllZip (IsDelay design) arcs delays → IsWithin low high (total delays))
    × ((delays : List ℤ) × AllZip (IsDelay design) arcs delays × (total delays ≡ low))
    × ((delays : List ℤ) × AllZip (IsDelay design) arcs delays × (total delays ≡ high))

-- The lanes of a pin are the timing paths to it: each lane is one, and each of them is a lane.
abbrev pub LanesArePaths : Type 0
LanesArePaths =
    (design : Design) (lanes : LaneTable) → AreLanes design lanes →
    ((pin : PinId) (lane : LaneId) → Contains (lanes_of lanes pin) lane → IsPathTo design (arcs_at lanes.arcs lane) pin)
    × ((pin : PinId) (arcs : List PathArc) → IsPathTo design arcs pin → (lane : LaneId) × Contains (lanes_of lanes pin) lane × (arcs_at lanes.arcs lane ≡ arcs))

-- A well-formed circuit passes one limit first at most: two faults that are not want of memory are one, with all that they hold.
abbrev pub LaneFaultsAreOne : Type 0
LaneFaultsAreOne =
    (design : Design) (order : List CellId) → IsFlat design.table design.flat → (one other : LaneFault) → IsLaneFault design order one → IsLaneFault design order other → one ≢ fault.Memory → other ≢ fault.Memory → one ≡ other
