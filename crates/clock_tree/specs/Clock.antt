-- Which nets carry the clock, and which offence against the rules on clocks is named.
use Rattle.std.specs.Prelude.{◌≡◌, ◌⊎◌, ◌↔◌, ℕ, ◌<◌, Bool, true, false, cond, List, length, slice_get, slice_index_or, Some}
use Rattle.std.specs.List.{All}
use Rattle.rsfq_ids.specs.declared.id.NetId.{NetId}
use Rattle.rsfq_ids.specs.declared.id.CellId.{CellId}
use Rattle.rsfq_ids.specs.declared.id.PinId.{PinId}
use Rattle.rsfq_ids.specs.declared.table.CellRow.{CellRow}
use Rattle.rsfq_ids.specs.declared.circuit.Bench.{Bench}
use Rattle.rsfq_ids.specs.declared.circuit.Reader.{Reader}
use Rattle.rsfq_ids.specs.declared.circuit.Reader.TheVariants as reader
use Rattle.rsfq_ids.specs.declared.offence.PathArc.{PathArc}
use Rattle.rsfq_ids.specs.declared.offence.PathArc.TheVariants as arc
use Rattle.rsfq_ids.specs.declared.offence.Offence.{Offence}
use Rattle.rsfq_ids.specs.declared.offence.Offence.TheVariants as offence
use Rattle.rsfq_ids.specs.declared.offence.RuleFault.{RuleFault}
use Rattle.rsfq_ids.specs.declared.offence.RuleFault.TheVariants as fault
use Rattle.rsfq_ids.specs.Design.{Design}
use Rattle.rsfq_ids.specs.Design as design
use Rattle.rsfq_ids.specs.Circuit.{IsPin, Reads, IsOf, is_gate, is_copying, clock_pin}
use Rattle.rsfq_ids.specs.Path.{IsRoute, IsPathTo, IsClockRoute, IsClockPath}
use Rattle.rsfq_ids.specs.Offence.{OffenceExists}
use Rattle.rsfq_ids.specs.Numbering.{IsRanked}
use Rattle.rsfq_ids.specs.Ready.{IsSetUp, HasGoodShape, IsReady}
use Rattle.net_graph.specs.Graph.{NetGraph, IsGraph}

-- the circuit of a graph on a bench
abbrev pub design_of : NetGraph → Bench → Design
design_of graph bench = design.design_of graph.table graph.flat bench

-- ---- the nets of the clock

-- a net of the clock: a route leads to it from the clock port through JTLs and splitters alone
abbrev pub IsClockNet : Design → NetId → Type 0
IsClockNet design net = (arcs : List PathArc) × IsClockRoute design arcs net

-- the marks tell the nets of the clock
abbrev pub AreClockNets : Design → List Bool → Type 0
AreClockNets design marks = (net : NetId) → (slice_index_or marks net false ≡ true) ↔ IsClockNet design net

-- ---- the path that is printed

-- the pin from which a path goes back: the clock pin of a gate, the first input of any other cell
abbrev pub back_pin : CellRow → ℕ
back_pin row = cond (is_gate row.kind) (clock_pin row) 0

-- the arc goes through a cell from that pin
abbrev pub GoesBack : Design → PathArc → Type 0
GoesBack design (arc.Port port) = Unit {0}
GoesBack design (arc.Through cell pin out) = (row : CellRow) × IsOf design cell row × (pin ≡ back_pin row)

-- The path back from a net: each merger is passed from its first input, and each gate from its clock pin, to an input port or the clock port.
pub record IsPathBack (design : Design) (arcs : List PathArc) (net : NetId) : Type 0 where
  pub route : IsRoute design arcs net
  pub back : All (GoesBack design) arcs

-- ---- the offence that is named

-- the offence is one of the four on clocks, at this pin, with this path
abbrev pub IsShownAt : PinId → List PathArc → Offence → Type 0
IsShownAt pin path (offence.DataOnClock at arcs) = (at ≡ pin) × (arcs ≡ path)
IsShownAt pin path (offence.ClockOnData at arcs) = (at ≡ pin) × (arcs ≡ path)
IsShownAt pin path (offence.ClockMerged at arcs) = (at ≡ pin) × (arcs ≡ path)
IsShownAt pin path (offence.ClockOut at arcs) = (at ≡ pin) × (arcs ≡ path)
IsShownAt pin path (offence.Fanout net first second) = ⊥
IsShownAt pin path (offence.Loop cells) = ⊥
IsShownAt pin path (offence.Dead cell first second) = ⊥
IsShownAt pin path (offence.Window at pulse held) = ⊥
IsShownAt pin path (offence.Ahead at pulse held) = ⊥
IsShownAt pin path (offence.Unequal to first second) = ⊥
IsShownAt pin path (offence.Differ output word netlist golden) = ⊥

-- an offence on clocks exists at the pin
abbrev pub OffendsAt : Design → PinId → Type 0
OffendsAt design pin = (shown : Offence) × (path : List PathArc) × IsShownAt pin path shown × OffenceExists design shown

-- The first offence on clocks in pin order, with the path back from the net that its pin reads.
pub record IsFirstClockOffence (design : Design) (shown : Offence) : Type 0 where
  pub pin : PinId
  pub path : List PathArc
  pub at : IsShownAt pin path shown
  pub exists : OffenceExists design shown
  pub reads : (by : Reader) × (net : NetId) × IsPin design.flat pin by net × IsPathBack design path net
  pub first : (earlier : PinId) → earlier < pin → ¬ OffendsAt design earlier

-- why there is no clock tree: such an offence; want of memory is free
abbrev pub IsClockFault : Design → RuleFault → Type 0
IsClockFault design (fault.Offends shown) = IsFirstClockOffence design shown
IsClockFault design fault.Memory = Unit {0}

-- ---- a circuit without such an offence

-- what may read a net of the clock: a JTL or a splitter, or a gate at its clock pin
abbrev pub MayReadClock : Design → Reader → Type 0
MayReadClock design (reader.Port port) = ⊥
MayReadClock design (reader.Pin cell at) = (row : CellRow) × IsOf design cell row × ((is_copying row.kind ≡ true) ⊎ ((is_gate row.kind ≡ true) × (at ≡ clock_pin row)))

-- All that is known where there is no such offence: the marks are those of the nets of the clock, the design is well formed and has good shape, each gate has a net of the clock on its clock pin, and nothing else but JTLs and splitters reads one.
pub record IsClocked (design : Design) (marks : List Bool) : Type 0 where
  pub nets : length marks ≡ length design.flat.nets
  pub clocks : AreClockNets design marks
  pub set_up : IsSetUp design
  pub shape : HasGoodShape design
  pub clock_pins : (cell : CellId) (row : CellRow) (net : NetId) → IsOf design cell row → is_gate row.kind ≡ true → Reads design.flat (reader.Pin cell (clock_pin row)) net → IsClockNet design net
  pub readers : (net : NetId) (by : Reader) → IsClockNet design net → Reads design.flat by net → MayReadClock design by

-- the clock of a design goes where it belongs, and nowhere else
abbrev pub HasClock : Design → Type 0
HasClock design = (marks : List Bool) × IsClocked design marks

-- ---- what it gives

-- A design that is ready for the laws of pulses by the rank that is the place of each of its cells in an order.
pub record IsReadyInOrder (design : Design) (order : List CellId) (rank : CellId → ℕ) : Type 0 where
  pub ranked : IsRanked design.flat rank
  pub at_rank : (cell : CellId) → cell < length design.flat.cells → slice_get order (rank cell) ≡ Some cell
  pub place : (place : ℕ) (cell : CellId) → slice_get order place ≡ Some cell → rank cell ≡ place
  pub ready : IsReady design rank

-- A circuit that has a graph and whose clock goes where it belongs is ready for the laws of pulses, by the order of the graph.
abbrev pub GraphsAreReady : Type 0
GraphsAreReady = (graph : NetGraph) (bench : Bench) → IsGraph graph → HasClock (design_of graph bench) → (rank : CellId → ℕ) × IsReadyInOrder (design_of graph bench) graph.order rank

-- A route to a net to which a clock route leads is that route.
abbrev pub ClockRoutesAreOne : Type 0
ClockRoutesAreOne = (graph : NetGraph) (bench : Bench) (clock other : List PathArc) (net : NetId) → IsGraph graph → IsClockRoute (design_of graph bench) clock net → IsRoute (design_of graph bench) other net → other ≡ clock

-- The one path to a pin, which is the clock path of a gate.
pub record IsOnlyClockPath (design : Design) (pin : PinId) (gate : CellId) (path : List PathArc) : Type 0 where
  pub is_path : IsPathTo design path pin
  pub is_clock : IsClockPath design gate path
  pub only : (other : List PathArc) → IsPathTo design other pin → other ≡ path

-- Where the clock goes where it belongs, the clock pin of a gate has exactly one path, the gate's clock path.
abbrev pub ClockPinsHaveOnePath : Type 0
ClockPinsHaveOnePath =
    (graph : NetGraph) (bench : Bench) (gate : CellId) (row : CellRow) (pin : PinId) (net : NetId) → IsGraph graph → HasClock (design_of graph bench) → IsOf (design_of graph bench) gate row → is_gate row.kind ≡ true →
    IsPin graph.flat pin (reader.Pin gate (clock_pin row)) net → (path : List PathArc) × IsOnlyClockPath (design_of graph bench) pin gate path

-- A circuit with a graph has one first offence on clocks, and one path that is printed with it.
abbrev pub ClockOffencesAreOne : Type 0
ClockOffencesAreOne = (graph : NetGraph) (bench : Bench) (one other : Offence) → IsGraph graph → IsFirstClockOffence (design_of graph bench) one → IsFirstClockOffence (design_of graph bench) other → one ≡ other
