-- What is found of a netlist, and the answer that is due to it.
use Rattle.std.specs.Prelude.{◌≡◌, ◌≢◌, ◌⊎◌, ℕ, ◌<◌, ◌≤◌, pos, List, map, slice_get, Some, None}
use Rattle.std.specs.List.{All}
use Rattle.rsfq_ids.specs.declared.id.PinId.{PinId}
use Rattle.rsfq_ids.specs.declared.id.PortId.{PortId}
use Rattle.rsfq_ids.specs.declared.circuit.Flat.{Flat}
use Rattle.rsfq_ids.specs.declared.circuit.Reader.TheVariants as reader
use Rattle.rsfq_ids.specs.declared.circuit.Strobe.{Strobe}
use Rattle.rsfq_ids.specs.declared.circuit.PortUse.TheVariants as port_use
use Rattle.rsfq_ids.specs.Bench.{IsUsed}
use Rattle.rsfq_ids.specs.declared.offence.PathPick.{PathPick}
use Rattle.rsfq_ids.specs.declared.offence.Against.{Against}
use Rattle.rsfq_ids.specs.declared.offence.Offence.TheVariants as offence
use Rattle.rsfq_ids.specs.Design.{Design}
use Rattle.rsfq_ids.specs.Path.{HasDepth}
use Rattle.rsfq_ids.specs.Offence.{HasNoWindow, OffenceExists}
use Rattle.rsfq_outside.specs.declared.status.Status.{Status}
use Rattle.rsfq_outside.specs.declared.status.Status.TheVariants.{Accepted, Rejected, Refused}
use Rattle.loading.specs.declared.refusal.Refusal.{Refusal}
use Rattle.loading.specs.declared.refusal.Refusal.TheVariants as refusal
use Rattle.loading.specs.Stages as loading
use Rattle.report.specs.Refused.{refusal_line}
use Rattle.flat_form.specs.Table.{jtl_table}
use Rattle.flat_form.specs.Form.{IsOfForm, IsClockPort}
use Rattle.flat_form.specs.Bench.{wire_bench_of, design_on}
use Rattle.wire_timing.specs.declared.WireDepth.{WireDepth}
use Rattle.wire_timing.specs.Wires.{outputs_of, IsWireDepth}
use Rattle.wire_timing.specs.Window.{IsFirstWindow}
use Rattle.signoff.specs.declared.words.Times.{Times}
use Rattle.signoff.specs.Headline.{EveryRunShows}
use Rattle.signoff.specs.Text.{accepted_text, window_text, form_text, stages_text}

-- the netlist has this circuit, over the table of the one cell JTL, with the one module as top that no module instantiates
abbrev pub HasCircuit : List ℕ → Flat → Type 0
HasCircuit netlist flat = loading.HasCircuit jtl_table None netlist flat

-- The netlist has this circuit, which is of the form of JTL wires, with this clock.
pub record IsWireCircuit (netlist : List ℕ) (flat : Flat) (clock : PortId) : Type 0 where
  pub has : HasCircuit netlist flat
  pub form : IsOfForm flat
  pub clock_is : IsClockPort flat clock

-- the netlist has no circuit of the form
abbrev pub IsOfNoForm : List ℕ → Type 0
IsOfNoForm netlist = (flat : Flat) (clock : PortId) → ¬ IsWireCircuit netlist flat clock

-- What is signed off: the circuit of JTLs, driven with the period and with data pulses in the arrival interval, and read at a
-- strobe with each clock pulse.
abbrev pub timed_design : Times → Flat → PortId → Design
timed_design times flat clock = design_on flat (wire_bench_of flat clock (pos times.period) (pos times.low) (pos times.high))

-- some pulse may come in the zone around a strobe
abbrev pub HasWindow : Design → Type 0
HasWindow design = (pin : PinId) × (pulse : PathPick) × (held : Against) × OffenceExists design (offence.Window pin pulse held)

-- the greatest depth that an output may have
abbrev pub most_depth : ℕ
most_depth = 1000000

-- an output bit, which is read at a strobe, has this depth
abbrev pub IsOutputDepth : Design → PortId → ℕ → Type 0
IsOutputDepth design output depth = ((strobe : Strobe) × IsUsed design.bench output (port_use.Strobed strobe)) × HasDepth design (reader.Port output) (pos depth)

-- no output is deeper than the limit
abbrev pub IsShallow : Design → Type 0
IsShallow design = (output : PortId) (depth : ℕ) → IsOutputDepth design output depth → depth ≤ most_depth

-- some output is
abbrev pub IsDeep : Design → Type 0
IsDeep design = (output : PortId) × (depth : ℕ) × IsOutputDepth design output depth × (most_depth < depth)

-- The depth of each output bit, in port order.
pub record AreDepths (design : Design) (depths : List WireDepth) : Type 0 where
  pub outputs : map (λ found. found.output) depths ≡ outputs_of design.flat
  pub each : All (IsWireDepth design) depths

-- Accepted: no pulse can come in the zone around a strobe, and no output is too deep. The text has each output in port order, with its
-- depth and the input at the other end of its wire, and every run is clean and shows at each output the words of that input, from the
-- depth on.
pub record IsAccepted (design : Design) (status : Status) (text : List ℕ) : Type 0 where
  pub answer : status ≡ Accepted
  pub no_window : HasNoWindow design
  pub shallow : IsShallow design
  pub depths : List WireDepth
  pub depths_are : AreDepths design depths
  pub runs : EveryRunShows design depths
  pub printed : text ≡ accepted_text design.flat depths

-- Rejected: a pulse can come in the zone around a strobe. The text shows the first such pulse.
pub record IsRejected (design : Design) (status : Status) (text : List ℕ) : Type 0 where
  pub answer : status ≡ Rejected
  pub pin : PinId
  pub pulse : PathPick
  pub number : ℕ
  pub first : IsFirstWindow design pin pulse number
  pub printed : text ≡ window_text design first.here.output first.here.strobe pulse number

-- no depth before a place is above the limit
abbrev pub AreShallowBefore : ℕ → List WireDepth → Type 0
AreShallowBefore place depths = (earlier : ℕ) (one : WireDepth) → earlier < place → slice_get depths earlier ≡ Some one → one.depth ≤ most_depth

-- the first depth above the limit stands at a place
pub record IsFirstDeep (depths : List WireDepth) (place : ℕ) : Type 0 where
  pub found : WireDepth
  pub there : slice_get depths place ≡ Some found
  pub deep : most_depth < found.depth
  pub before : AreShallowBefore place depths

-- Refused: no pulse can come in the zone around a strobe, but an output is too deep. The text names the first such output in port order.
pub record IsTooDeep (design : Design) (status : Status) (text : List ℕ) : Type 0 where
  pub answer : status ≡ Refused
  pub no_window : HasNoWindow design
  pub depths : List WireDepth
  pub depths_are : AreDepths design depths
  pub place : ℕ
  pub first : IsFirstDeep depths place
  pub used : (strobe : Strobe) × IsUsed design.bench first.found.output (port_use.Strobed strobe)
  pub printed : text ≡ stages_text design.flat first.found

abbrev pub IsJudged : Design → Status → List ℕ → Type 0
IsJudged design status text = IsAccepted design status text ⊎ (IsRejected design status text ⊎ IsTooDeep design status text)

-- The netlist has one circuit, which is of the form and has one clock, and its design is judged.
pub record IsSignedOff (times : Times) (netlist : List ℕ) (status : Status) (text : List ℕ) : Type 0 where
  pub flat : Flat
  pub clock : PortId
  pub circuit : IsWireCircuit netlist flat clock
  pub only : (other : Flat) → HasCircuit netlist other → other ≡ flat
  pub one_clock : (port : PortId) → IsClockPort flat port → port ≡ clock
  pub judged : IsJudged (timed_design times flat clock) status text

-- The netlist has no circuit: the first stage that refuses it is named, with its fault.
pub record IsUnloaded (netlist : List ℕ) (status : Status) (text : List ℕ) : Type 0 where
  pub answer : status ≡ Refused
  pub why : Refusal
  pub named : why ≢ refusal.Memory
  pub refused : loading.IsRefused jtl_table None netlist why
  pub none : (flat : Flat) → ¬ HasCircuit netlist flat
  pub printed : text ≡ refusal_line why

-- The netlist has one circuit, which is not of the form.
pub record IsRefusedForm (netlist : List ℕ) (status : Status) (text : List ℕ) : Type 0 where
  pub answer : status ≡ Refused
  pub flat : Flat
  pub has : HasCircuit netlist flat
  pub only : (other : Flat) → HasCircuit netlist other → other ≡ flat
  pub none : ¬ IsOfForm flat
  pub printed : text ≡ form_text

-- the answer to a netlist: its status, and its whole text
abbrev pub IsVerdict : Times → List ℕ → Status → List ℕ → Type 0
IsVerdict times netlist status text = IsUnloaded netlist status text ⊎ (IsRefusedForm netlist status text ⊎ IsSignedOff times netlist status text)
