-- Timing paths, pulses on them, their steps, and depths.
use Rattle.std.specs.Prelude.{◌≡◌, ℕ, ◌<◌, ◌≤◌, ◌↔◌, Bool, true, false, not, ℤ, pos, ◌+ℤ◌, ◌<ℤ◌, List, [], ◌∷◌, length, slice_get, Option, Some, None}
use Rattle.std.specs.Option.{option_map_or}
use Rattle.std.specs.List.{AllZip, Contains, count_by}
use Rattle.rsfq_ids.specs.declared.id.NetId.{NetId}
use Rattle.rsfq_ids.specs.declared.id.CellId.{CellId}
use Rattle.rsfq_ids.specs.declared.id.PinId.{PinId}
use Rattle.rsfq_ids.specs.declared.id.PortId.{PortId}
use Rattle.rsfq_ids.specs.declared.table.CellRow.{CellRow}
use Rattle.rsfq_ids.specs.declared.table.Kind.{Kind}
use Rattle.rsfq_ids.specs.declared.circuit.Pin.{Pin}
use Rattle.rsfq_ids.specs.declared.circuit.Bench.{Bench}
use Rattle.rsfq_ids.specs.declared.circuit.Strobe.{Strobe}
use Rattle.rsfq_ids.specs.declared.circuit.PortUse.{PortUse}
use Rattle.rsfq_ids.specs.declared.circuit.PortUse.TheVariants as port_use
use Rattle.rsfq_ids.specs.declared.circuit.Driver.TheVariants as driver
use Rattle.rsfq_ids.specs.declared.circuit.Reader.{Reader}
use Rattle.rsfq_ids.specs.declared.circuit.Reader.TheVariants as reader
use Rattle.rsfq_ids.specs.declared.offence.PathArc.{PathArc}
use Rattle.rsfq_ids.specs.declared.offence.PathArc.TheVariants as arc
use Rattle.rsfq_ids.specs.declared.offence.PathPick.{PathPick}
use Rattle.rsfq_ids.specs.declared.offence.TrailHop.{TrailHop}
use Rattle.rsfq_ids.specs.Time.{IsWithin, total}
use Rattle.rsfq_ids.specs.Circuit.{IsDrivenBy, IsPin, Reads, row_of, IsOf, is_gate, is_copying, clock_pin}
use Rattle.rsfq_ids.specs.Bench.{IsUsed, is_data, tick_at, strobe_time}
use Rattle.rsfq_ids.specs.Run.{IsPortDelay}
use Rattle.rsfq_ids.specs.Design.{Design}

-- ---- paths

-- the pins from which pulses pass to the outputs: the clock pin of a gate, each input of any other cell
abbrev pub IsPassedFrom : Bool → CellRow → ℕ → Type 0
IsPassedFrom true row pin = pin ≡ clock_pin row
IsPassedFrom false row pin = pin < length row.inputs

-- The arc leads from one net through a cell, which reads it, to another net, which the cell drives.
abbrev pub ArcLeads : Design → NetId → PathArc → NetId → Type 0
ArcLeads design net (arc.Port port) next = ⊥
ArcLeads design net (arc.Through cell pin out) next =
    (row : CellRow) × IsOf design cell row × IsPassedFrom (is_gate row.kind) row pin × Reads design.flat (reader.Pin cell pin) net × IsDrivenBy design.flat next (driver.Out cell out)

-- the arcs lead from one net to another
abbrev pub ArcsLead : Design → NetId → List PathArc → NetId → Type 0
ArcsLead design net [] last = net ≡ last
ArcsLead design net (first ∷ arcs) last = (next : NetId) × ArcLeads design net first next × ArcsLead design next arcs last

-- A route to a net: from an input bit or the clock port through any number of cells, each gate from its clock pin on.
abbrev pub IsRoute : Design → List PathArc → NetId → Type 0
IsRoute design [] net = ⊥
IsRoute design (arc.Port port ∷ arcs) net = (first : NetId) × IsDrivenBy design.flat first (driver.Port port) × ArcsLead design first arcs net
IsRoute design (arc.Through cell pin out ∷ arcs) net = ⊥

-- the arc goes through a cell of a kind that the test tells
abbrev pub passes : (Kind → Bool) → Design → PathArc → Bool
passes test design (arc.Port port) = false
passes test design (arc.Through cell pin out) = option_map_or (λ row. test row.kind) (row_of design cell) false

-- the arcs begin at this port
abbrev pub BeginsAtPort : List PathArc → PortId → Type 0
BeginsAtPort [] port = ⊥
BeginsAtPort (first ∷ arcs) port = first ≡ arc.Port port

-- A path to a net: a route that passes at most one gate, and a gate only from the clock port.
pub record IsPath (design : Design) (arcs : List PathArc) (net : NetId) : Type 0 where
  pub route : IsRoute design arcs net
  pub one_gate : count_by (passes is_gate design) arcs ≤ 1
  pub clocked : 0 < count_by (passes is_gate design) arcs → BeginsAtPort arcs design.bench.clock

-- a path that ends at a pin
abbrev pub IsPathTo : Design → List PathArc → PinId → Type 0
IsPathTo design arcs pin = (end : Pin) × (slice_get design.flat.pins pin ≡ Some end) × IsPath design arcs end.net

-- a route from the clock port through JTLs and splitters alone
pub record IsClockRoute (design : Design) (arcs : List PathArc) (net : NetId) : Type 0 where
  pub route : IsRoute design arcs net
  pub clock : BeginsAtPort arcs design.bench.clock
  pub alone : count_by (passes (λ k. not (is_copying k)) design) arcs ≡ 0

-- the clock path of a gate
abbrev pub IsClockPath : Design → CellId → List PathArc → Type 0
IsClockPath design gate arcs =
    (row : CellRow) × (net : NetId) × IsOf design gate row × Reads design.flat (reader.Pin gate (clock_pin row)) net × IsClockRoute design arcs net

-- a route that begins at a data input
abbrev pub IsFromData : Bench → List PathArc → Type 0
IsFromData bench arcs = (port : PortId) × (used : PortUse) × IsUsed bench port used × (is_data used ≡ true) × BeginsAtPort arcs port

-- ---- picks

-- a delay that an arc may take
abbrev pub IsDelay : Design → PathArc → ℤ → Type 0
IsDelay design (arc.Port port) delay = (used : PortUse) × IsUsed design.bench port used × IsPortDelay design.bench used delay
IsDelay design (arc.Through cell pin out) delay = (row : CellRow) × IsOf design cell row × IsWithin row.low row.high delay

-- A pick: a path to its end pin, with a delay for each arc.
pub record IsPick (design : Design) (pick : PathPick) : Type 0 where
  pub path : IsPathTo design pick.arcs pick.ends
  pub delays : AllZip (IsDelay design) pick.arcs pick.delays

-- the time of a pick: all its delays behind the tick of its number
abbrev pub pick_time : Bench → PathPick → ℤ
pick_time bench pick = tick_at bench pick.number +ℤ total pick.delays

-- equal delays as far as the arcs are equal
abbrev pub SameDelays : List PathArc → List ℤ → List PathArc → List ℤ → Type 0
SameDelays (a ∷ arcs) (d ∷ delays) (b ∷ others) (e ∷ ends) = a ≡ b → (d ≡ e) × SameDelays arcs delays others ends
SameDelays arcs delays others ends = Unit {0}

-- Two picks agree: where they have one number they are one pulse as far as their paths are one, and so have equal delays there.
abbrev pub Agree : PathPick → PathPick → Type 0
Agree x y = x.number ≡ y.number → SameDelays x.arcs x.delays y.arcs y.delays

-- the time of strobe n on the bench
abbrev pub strobe_at : Bench → Strobe → ℕ → ℤ
strobe_at bench strobe n = strobe_time strobe (tick_at bench) n

-- ---- steps

-- a pulse of number p is later than one of number n exactly where n < p + steps
abbrev pub IsStepsApart : ℤ → ℕ → ℤ → ℕ → ℤ → Type 0
IsStepsApart steps p pulse n against = (against <ℤ pulse) ↔ (pos n <ℤ (pos p +ℤ steps))

-- The steps of a path to a pin: pulse p of the path is later than clock pulse or strobe n exactly where n < p + steps, whatever the delays. So the one of number p + steps is the first that reads it.
abbrev pub HasStepsAt : Design → List PathArc → PinId → Reader → ℤ → Type 0
HasStepsAt design arcs pin (reader.Pin gate at) steps = (clock_path : List PathArc) × IsClockPath design gate clock_path × ((pulse clock : PathPick) →
    IsPick design pulse → pulse.arcs ≡ arcs → pulse.ends ≡ pin → IsPick design clock → clock.arcs ≡ clock_path → Agree pulse clock →
    IsStepsApart steps pulse.number (pick_time design.bench pulse) clock.number (pick_time design.bench clock))
HasStepsAt design arcs pin (reader.Port port) steps = (strobe : Strobe) × IsUsed design.bench port (port_use.Strobed strobe) × ((pulse : PathPick) (n : ℕ) →
    IsPick design pulse → pulse.arcs ≡ arcs → pulse.ends ≡ pin →
    IsStepsApart steps pulse.number (pick_time design.bench pulse) n (strobe_at design.bench strobe n))

-- the same, whatever reads at the pin
abbrev pub HasSteps : Design → List PathArc → PinId → ℤ → Type 0
HasSteps design arcs pin steps = (end : Pin) × (slice_get design.flat.pins pin ≡ Some end) × HasStepsAt design arcs pin end.reader steps

-- ---- trails and depths

-- A pin stands for its gate, as pin 0, or for its output.
abbrev pub EndsAt : Design → PinId → Reader → Type 0
EndsAt design pin (reader.Pin gate at) =
    (at ≡ 0) × (row : CellRow) × (input : ℕ) × (net : NetId) × IsOf design gate row × (is_gate row.kind ≡ true) × (input < length row.inputs) × IsPin design.flat pin (reader.Pin gate input) net
EndsAt design pin (reader.Port port) = (net : NetId) × IsPin design.flat pin (reader.Port port) net

-- where a hop begins: at a data input, or behind the gate at which the hop before ended
abbrev pub BeginsAt : Bench → Option CellId → List PathArc → Type 0
BeginsAt bench None arcs = IsFromData bench arcs
BeginsAt bench (Some gate) arcs = (pin out : ℕ) × Contains arcs (arc.Through gate pin out)

-- a hop of a trail: a path from such a beginning to its pin, with its steps
pub record IsHop (design : Design) (start : Option CellId) (hop : TrailHop) : Type 0 where
  pub begins : BeginsAt design.bench start hop.arcs
  pub path : IsPathTo design hop.arcs hop.pin
  pub steps : HasSteps design hop.arcs hop.pin hop.steps

-- Hops from a start to a gate, as pin 0, or to an output: each further hop passes the gate at which the one before ended.
abbrev pub AreHops : Design → Option CellId → List TrailHop → Reader → Type 0
AreHops design start [] to = ⊥
AreHops design start (hop ∷ []) to = IsHop design start hop × EndsAt design hop.pin to
AreHops design start (hop ∷ next ∷ hops) to =
    IsHop design start hop × (gate : CellId) × EndsAt design hop.pin (reader.Pin gate 0) × AreHops design (Some gate) (next ∷ hops) to

-- A trail begins at a data input.
abbrev pub IsTrail : Design → List TrailHop → Reader → Type 0
IsTrail design hops to = AreHops design None hops to

-- the sum of a trail's steps
abbrev pub steps_of : List TrailHop → ℤ
steps_of [] = pos 0
steps_of (hop ∷ hops) = hop.steps +ℤ steps_of hops

-- The depth of a gate, as pin 0, or of an output: some trail leads to it, and each has this sum.
pub record HasDepth (design : Design) (to : Reader) (depth : ℤ) : Type 0 where
  pub some : (hops : List TrailHop) × IsTrail design hops to
  pub every : (hops : List TrailHop) → IsTrail design hops to → steps_of hops ≡ depth
