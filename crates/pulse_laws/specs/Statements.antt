-- What the laws say, from the paths of a design to the pulses of its runs.
use Rattle.std.specs.Prelude.{◌≡◌, ◌↔◌, ℕ, nat_lt, ◌<◌, Bool, true, false, ℤ, pos, ◌<ℤ◌, List, [], length, slice_index_or, nat_eq, slice_get, Some, ◌-ℤ◌, ◌*ℤ◌, ◌≤ℤ◌, ◌+ℤ◌}
use Rattle.rsfq_ids.specs.declared.table.CellRow.{CellRow}
use Rattle.rsfq_ids.specs.declared.circuit.Strobe.{Strobe}
use Rattle.rsfq_ids.specs.declared.circuit.PortUse.TheVariants as port_use
use Rattle.rsfq_ids.specs.declared.circuit.Driver.{Driver}
use Rattle.rsfq_ids.specs.declared.circuit.Driver.TheVariants as driver
use Rattle.rsfq_ids.specs.declared.circuit.Reader.TheVariants as reader
use Rattle.rsfq_ids.specs.declared.offence.PathPick.{PathPick}
use Rattle.rsfq_ids.specs.declared.offence.PathArc.{PathArc}
use Rattle.rsfq_ids.specs.declared.circuit.Pin.{Pin}
use Rattle.rsfq_ids.specs.Time.{IsWithin, total}
use Rattle.rsfq_ids.specs.declared.offence.Against.{Against}
use Rattle.pulse_laws.specs.Spread.{IsReached, IsSpread}
use Rattle.rsfq_ids.specs.declared.offence.Offence.TheVariants as offence
use Rattle.rsfq_ids.specs.Circuit.{IsDrivenBy, IsPin, Reads, IsOf, is_gate, clock_pin}
use Rattle.rsfq_ids.specs.Bench.{IsUsed, IsWord, tick_at, AreTicks}
use Rattle.rsfq_ids.specs.Signed.{StreamsAreWanted, HasAllDepths, IsSigned}
use Rattle.std.specs.List.{All, Contains}
use Rattle.rsfq_ids.specs.Run.{Run, IsRun, IsRunInAnyOrder, IsClean, times_of, stream_bit}
use Rattle.rsfq_ids.specs.Path.{IsPick, IsClockRoute, HasSteps, HasDepth}
use Rattle.rsfq_ids.specs.Value.{AreValues, HasValue, value_of}
use Rattle.rsfq_ids.specs.Numbering.{IsNumbered, IsRanked}
use Rattle.rsfq_ids.specs.WellFormed.{IsPositiveTime}
use Rattle.pulse_laws.specs.Tags.{AreTags, AreInOrder, CleanLaw}
use Rattle.pulse_laws.specs.Flows.{TellOrigins}
use Rattle.pulse_laws.specs.Values.{GateFindsValues, OutputShowsValues, GateFindsFilling, OutputShowsFilling, GateFindsFillBits, IsFillBelow}
use Rattle.rsfq_ids.specs.declared.id.NetId.{NetId}
use Rattle.rsfq_ids.specs.declared.id.CellId.{CellId}
use Rattle.rsfq_ids.specs.declared.id.PinId.{PinId}
use Rattle.rsfq_ids.specs.declared.id.PortId.{PortId}
use Rattle.pulse_laws.specs.Premises.{IsTimed, IsTimedAt, IsTimedBelow, IsBefore}
use Rattle.rsfq_ids.specs.Filling.{AreFilling, IsFill}
use Rattle.rsfq_ids.specs.Design.{Design}
use Rattle.rsfq_ids.specs.Offence.{OffenceExists, HasNoDead, HasNoWindow}
use Rattle.rsfq_ids.specs.Ready.{IsSetUp, HasGoodShape, IsReady}

-- no pulse comes in a zone at this pin
abbrev pub HasNoWindowAt : Design → PinId → Type 0
HasNoWindowAt design pin = (pulse : PathPick) (held : Against) → ¬ OffenceExists design (offence.Window pin pulse held)

-- no pulse of number 1 comes at this pin as early as clock pulse or strobe 0
abbrev pub HasNoAheadAt : Design → PinId → Type 0
HasNoAheadAt design pin = (pulse : PathPick) (held : Against) → ¬ OffenceExists design (offence.Ahead pin pulse held)

-- Where no window is broken and no pulse runs ahead, a path to a data pin of a gate with a clock route, on which there are pulses, has a natural number of steps.
abbrev pub PinsHaveSteps : Design → Type 0
PinsHaveSteps design =
    (cell at net pin clock clock_at : ℕ) (row : CellRow) (pulse clocked : PathPick) → IsOf design cell row → is_gate row.kind ≡ true → at < length row.inputs → IsPin design.flat pin (reader.Pin cell at) net → IsPin design.flat clock_at (reader.Pin cell (clock_pin row)) clock →
    IsPositiveTime row.setup → IsPositiveTime row.hold → IsPick design pulse → pulse.ends ≡ pin → IsPick design clocked → clocked.ends ≡ clock_at → IsClockRoute design clocked.arcs clock →
    HasNoWindowAt design pin → HasNoAheadAt design pin → (steps : ℕ) × HasSteps design pulse.arcs pin (pos steps)

-- The same of a path to an output.
abbrev pub OutputsHaveSteps : Design → Type 0
OutputsHaveSteps design =
    (port net pin : ℕ) (strobe : Strobe) (pulse : PathPick) → IsPin design.flat pin (reader.Port port) net → IsUsed design.bench port (port_use.Strobed strobe) → IsPositiveTime strobe.setup → IsPositiveTime strobe.hold → IsPick design pulse → pulse.ends ≡ pin →
    HasNoWindowAt design pin → HasNoAheadAt design pin → (steps : ℕ) × HasSteps design pulse.arcs pin (pos steps)

abbrev pub StepsExist : Type 0
StepsExist =
    (design : Design) → IsPositiveTime design.bench.period → PinsHaveSteps design × OutputsHaveSteps design

-- The pulses at a gate's clock pin are as many as the clock's, and each is later than those before it, where none come too near.
abbrev pub ClocksRise : Type 0
ClocksRise =
    (design : Design) (rank : CellId → ℕ) (run : Run) → IsReady design rank → IsRun design run →
    (cell clock : ℕ) (row : CellRow) → IsOf design cell row → is_gate row.kind ≡ true → ((first second : PathPick) → ¬ OffenceExists design (offence.Dead cell first second)) → Reads design.flat (reader.Pin cell (clock_pin row)) clock →
    (length (times_of run.pulses clock) ≡ run.clocks)
    × ((i k : ℕ) → i < k → k < run.clocks → slice_index_or (times_of run.pulses clock) i (pos 0) <ℤ slice_index_or (times_of run.pulses clock) k (pos 0))

-- A gate before the place that drives a net has a depth, which is a natural number, and so has an output behind such gates alone.
abbrev pub DepthsExist : Type 0
DepthsExist =
    (design : Design) (rank : CellId → ℕ) (top : ℕ) → IsReady design rank → IsTimedBelow design rank top →
    ((cell out net : ℕ) (row : CellRow) → rank cell < top → IsOf design cell row → is_gate row.kind ≡ true → IsDrivenBy design.flat net (driver.Out cell out) → (depth : ℕ) × HasDepth design (reader.Pin cell 0) (pos depth))
    × ((port net : ℕ) (strobe : Strobe) → IsBefore design.flat rank top net → IsTimedAt design (reader.Port port) → IsUsed design.bench port (port_use.Strobed strobe) → Reads design.flat (reader.Port port) net →
    (depth : ℕ) × HasDepth design (reader.Port port) (pos depth))

-- Where the rules hold at the gates before a place in the order, each of these finds the values of the words, and each output behind them at which the rules hold shows them.
abbrev pub ValuesBelow : Type 0
ValuesBelow =
    (design : Design) (rank : CellId → ℕ) (top : ℕ) (run : Run) → IsReady design rank → IsTimedBelow design rank top → IsRun design run →
    ((cell : CellId) → rank cell < top → GateFindsValues design run cell)
    × ((port : PortId) (net : NetId) → Reads design.flat (reader.Port port) net → IsBefore design.flat rank top net → IsTimedAt design (reader.Port port) → OutputShowsValues design run port)

-- Where they hold everywhere, all gates find the values of the words, and all outputs show them.
abbrev pub RunsHaveValues : Type 0
RunsHaveValues =
    (design : Design) (rank : CellId → ℕ) (run : Run) → IsReady design rank → IsTimed design → IsRun design run → ((cell : CellId) → GateFindsValues design run cell) × ((port : PortId) → OutputShowsValues design run port)

-- Under each word a circuit has values, and the driven nets have just one each.
abbrev pub ValuesExist : Type 0
ValuesExist =
    (design : Design) (rank : CellId → ℕ) (word : List Bool) → IsReady design rank →
    ((values : List Bool) × AreValues design word values)
    × ((values others : List Bool) (net : ℕ) (driver : Driver) → AreValues design word values → AreValues design word others → IsDrivenBy design.flat net driver → value_of values net ≡ value_of others net)

-- The same of filling values, which cover the gates before the place.
abbrev pub FillingsExist : Type 0
FillingsExist =
    (design : Design) (rank : CellId → ℕ) (top early : ℕ) → IsReady design rank → IsTimedBelow design rank top →
    ((values : List Bool) × AreFilling design (λ cell. nat_lt (rank cell) top) early values)
    × ((values others : List Bool) (net : ℕ) (driver : Driver) → AreFilling design (λ cell. nat_lt (rank cell) top) early values → AreFilling design (λ cell. nat_lt (rank cell) top) early others → IsDrivenBy design.flat net driver → value_of values net ≡ value_of others net)

-- Before word 0 has come to a gate before the place, or to an output behind such gates, it shows the filling values.
abbrev pub RunsHaveFillings : Type 0
RunsHaveFillings =
    (design : Design) (rank : CellId → ℕ) (top : ℕ) (run : Run) → IsReady design rank → IsTimedBelow design rank top → IsRun design run →
    ((cell : CellId) → rank cell < top → GateFindsFilling design run (λ before. nat_lt (rank before) top) cell)
    × ((port : PortId) (net : NetId) → Reads design.flat (reader.Port port) net → IsBefore design.flat rank top net → IsTimedAt design (reader.Port port) → OutputShowsFilling design run (λ before. nat_lt (rank before) top) port)

-- A well-formed circuit of good shape, with an order, meets all that the laws of values ask.
abbrev pub CircuitsAreReady : Type 0
CircuitsAreReady =
    (design : Design) (rank : CellId → ℕ) → IsSetUp design → HasGoodShape design → IsRanked design.flat rank → IsReady design rank

-- A ready design has a run for all words and every number of clock pulses.
abbrev pub RunsExist : Type 0
RunsExist = (design : Design) (rank : CellId → ℕ) (words : List (List Bool)) (clocks : ℕ) → IsReady design rank → (run : Run) × IsRun design run × (run.words ≡ words) × (run.clocks ≡ clocks)

-- The pulses of each run of a ready design have tags, which tell how each pulse came, in order at clock pins. No rule of timing is asked.
abbrev pub RunsHaveTags : Type 0
RunsHaveTags =
    (design : Design) (rank : CellId → ℕ) (run : Run) → IsReady design rank → IsRun design run → (tags : List (List PathPick)) × AreTags design run tags × AreInOrder design run tags × TellOrigins design run tags

-- Tagged pulses break no dead time and no zone, where no such offence exists and no net has two readers.
abbrev pub TagsMakeClean : Type 0
TagsMakeClean =
    (design : Design) (run : Run) (tags : List (List PathPick)) → IsNumbered design.flat → ((net : NetId) (first second : PinId) → ¬ OffenceExists design (offence.Fanout net first second)) →
    AreTicks design.bench run.tick → AreTags design run tags → CleanLaw design run

-- So each run of a well-formed design of good shape, with an order of its cells, is clean where no offence of dead times and windows exists.
abbrev pub RunsAreClean : Type 0
RunsAreClean =
    (design : Design) (rank : CellId → ℕ) (run : Run) → IsSetUp design → HasGoodShape design → IsRanked design.flat rank → IsRun design run → HasNoDead false design → HasNoDead true design → HasNoWindow design → IsClean design run

-- For the gates before a place in the order there is a filling, and for each filling such a gate finds its bits at the clock entries before its depth; where the rules hold everywhere there is a filling of all gates.
abbrev pub RunsHaveFillBits : Type 0
RunsHaveFillBits =
    (design : Design) (rank : CellId → ℕ) → IsReady design rank →
    (IsTimed design → (fill : CellId → ℕ → ℕ → Bool) × IsFill design fill)
    × ((top : ℕ) → IsTimedBelow design rank top → (fill : CellId → ℕ → ℕ → Bool) × IsFillBelow design rank top fill)
    × ((top : ℕ) (fill : CellId → ℕ → ℕ → Bool) (run : Run) (cell : CellId) → IsTimedBelow design rank top → IsFillBelow design rank top fill → IsRun design run → rank cell < top → GateFindsFillBits design run fill cell)

-- Each whole number from the least difference to the greatest is a difference.
abbrev pub SpreadsFill : Type 0
SpreadsFill =
    (design : Design) (same : Bool) (arcs others : List PathArc) (low high difference : ℤ) → IsSpread design same arcs others low high → IsWithin low high difference → IsReached design same arcs others difference

-- Two pulses of a run differ by the periods between their numbers and an amount from the spread of their paths.
abbrev pub RunsKeepSpreads : Type 0
RunsKeepSpreads =
    (design : Design) (run : Run) (tags : List (List PathPick)) → AreTicks design.bench run.tick → AreTags design run tags →
    (pin other : ℕ) (end stop : Pin) (i k : ℕ) (x y : PathPick) (low high : ℤ) → slice_get design.flat.pins pin ≡ Some end → slice_get design.flat.pins other ≡ Some stop → i < length (times_of run.pulses end.net) → k < length (times_of run.pulses stop.net) →
    x ≡ slice_index_or (slice_index_or tags pin []) i x → y ≡ slice_index_or (slice_index_or tags other []) k y → IsSpread design (nat_eq x.number y.number) x.arcs y.arcs low high →
    IsWithin low high ((slice_index_or (times_of run.pulses end.net) i (pos 0) -ℤ slice_index_or (times_of run.pulses stop.net) k (pos 0)) -ℤ (tick_at design.bench x.number -ℤ tick_at design.bench y.number))

-- The steps of a path to a data pin are the least number of periods that the least difference, of pulses of one number, does not pass.
abbrev pub StepsBySpread : Type 0
StepsBySpread =
    (design : Design) → IsPositiveTime design.bench.period →
    (cell at net pin clock clock_at : ℕ) (row : CellRow) (pulse clocked : PathPick) (low high : ℤ) (steps : ℕ) → HasNoWindowAt design pin → IsOf design cell row → is_gate row.kind ≡ true → at < length row.inputs → IsPin design.flat pin (reader.Pin cell at) net →
    IsPin design.flat clock_at (reader.Pin cell (clock_pin row)) clock → IsPositiveTime row.setup → IsPositiveTime row.hold → IsPick design pulse → pulse.ends ≡ pin → IsPick design clocked → clocked.ends ≡ clock_at → IsClockRoute design clocked.arcs clock →
    IsSpread design true pulse.arcs clocked.arcs low high → low ≤ℤ (pos steps *ℤ design.bench.period) → (pos steps *ℤ design.bench.period) <ℤ (low +ℤ design.bench.period) → HasSteps design pulse.arcs pin (pos steps)

-- The same at an output: one pulse on the path decides, by all its delays less the offset of the strobe.
abbrev pub OutputStepsBySum : Type 0
OutputStepsBySum =
    (design : Design) → IsPositiveTime design.bench.period →
    (port net pin : ℕ) (strobe : Strobe) (pulse : PathPick) (steps : ℕ) → HasNoWindowAt design pin → IsPin design.flat pin (reader.Port port) net → IsUsed design.bench port (port_use.Strobed strobe) →
    IsPositiveTime strobe.setup → IsPositiveTime strobe.hold → IsPick design pulse → pulse.ends ≡ pin →
    (total pulse.delays -ℤ strobe.offset) ≤ℤ (pos steps *ℤ design.bench.period) → (pos steps *ℤ design.bench.period) <ℤ ((total pulse.delays -ℤ strobe.offset) +ℤ design.bench.period) → HasSteps design pulse.arcs pin (pos steps)

-- The order within the lists of a run has no meaning: the same pulses in any order are clean where the run is, and give the same bits at each strobe.
abbrev pub OrderIsFree : Type 0
OrderIsFree =
    (design : Design) (run : Run) (any : IsRunInAnyOrder design run) →
    (IsClean design (record run { pulses = any.ordered }) ↔ IsClean design run) × ((strobe : Strobe) (k : ℕ) (net : NetId) → stream_bit strobe run.tick k (times_of any.ordered net) ≡ stream_bit strobe run.tick k (times_of run.pulses net))

-- These are the depths of the outputs.
abbrev pub AreDepths : Design → List (PortId × ℕ) → Type 0
AreDepths design depths = (port : PortId) (depth : ℕ) → Contains depths (port, depth) → HasDepth design (reader.Port port) (pos depth)

-- the value that an output has under a word: that of the net that it reads
abbrev pub HasOutputValue : Design → List Bool → PortId → Bool → Type 0
HasOutputValue design word port bit = (net : NetId) × Reads design.flat (reader.Port port) net × HasValue design word net bit

-- A well-formed design of good shape, with an order of its cells, in which no offence of dead times, windows, pulses ahead and unequal sums exists, is signed off with its depths: each run is clean, and from its depth on each output shows its values under the words.
abbrev pub DesignsAreSigned : Type 0
DesignsAreSigned =
    (design : Design) (rank : CellId → ℕ) (depths : List (PortId × ℕ)) → IsSetUp design → HasGoodShape design → IsRanked design.flat rank → HasNoDead false design → IsTimed design → HasAllDepths design.bench depths → AreDepths design depths →
    IsSigned design (HasOutputValue design) depths

-- So it is for whatever else is wanted of the outputs under each word, as by another circuit, where their values are this.
abbrev pub SignedAsWanted : Type 0
SignedAsWanted =
    (design : Design) (wanted : List Bool → PortId → Bool) (depths : List (PortId × ℕ)) → IsSigned design (HasOutputValue design) depths →
    ((word : List Bool) (port : PortId) (bit : Bool) → IsWord design.bench word → HasOutputValue design word port bit → bit ≡ wanted word port) → IsSigned design (λ word port bit. bit ≡ wanted word port) depths

-- What is signed off of runs in their one order holds of the same pulses in any order, whether the values are wanted or something else. (A law is over data, so not over any relation; the lemma `in_any_order` is.)
abbrev pub SignedInAnyOrder : Type 0
SignedInAnyOrder =
    (design : Design) (depths : List (PortId × ℕ)) (run : Run) → All (IsWord design.bench) run.words → IsRunInAnyOrder design run →
    (IsSigned design (HasOutputValue design) depths → IsClean design run × StreamsAreWanted design (HasOutputValue design) depths run)
    × ((wanted : List Bool → PortId → Bool) → IsSigned design (λ word port bit. bit ≡ wanted word port) depths → IsClean design run × StreamsAreWanted design (λ word port bit. bit ≡ wanted word port) depths run)
