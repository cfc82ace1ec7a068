-- What the timing of wires rests on and says, at the design that was asked for.
use Rattle.std.proofs.Common.{◌≡◌, ◌∙◌, ap, sym, subst, ◌<◌, ◌≤◌, ◌⊎◌, ℕ, List, ◌∷◌, length, get_or, arith, refl, inl, inr}
use Rattle.std.specs.Prelude.{ℤ, Some, None, slice_get, map, Result, Ok, Err, IfOk}
use Rattle.std.specs.List.{All, Contains}
use Rattle.std.specs.Option.{option_map}
use Rattle.std.proofs.lemmas.Option.{slice_get_within, slice_get_cases, slice_get-map, get_or_from_slice_get}
use Rattle.std.proofs.lemmas.Bool.{cases_lt}
use Rattle.rsfq_ids.specs.declared.table.CellTable.{CellTable}
use Rattle.rsfq_ids.specs.declared.circuit.Flat.{Flat}
use Rattle.rsfq_ids.specs.declared.circuit.Bench.{Bench}
use Rattle.rsfq_ids.specs.declared.circuit.Pin.{Pin}
use Rattle.rsfq_ids.specs.declared.circuit.Strobe.{Strobe}
use Rattle.rsfq_ids.specs.declared.circuit.PortUse.TheVariants as port_use
use Rattle.rsfq_ids.specs.declared.circuit.Reader.TheVariants as reader
use Rattle.rsfq_ids.specs.declared.offence.PathPick.{PathPick}
use Rattle.rsfq_ids.specs.Design.{Design}
use Rattle.rsfq_ids.specs.Circuit.{IsPin}
use Rattle.rsfq_ids.specs.Bench.{IsUsed}
use Rattle.rsfq_ids.specs.WellFormed.{IsTime, IsBench}
use Rattle.rsfq_ids.specs.declared.circuit.Reader.{Reader}
use Rattle.rsfq_ids.specs.declared.circuit.PortBit.{PortBit}
use Rattle.rsfq_ids.specs.WellFormed.{IsFlat, AreDistinct}
use Rattle.rsfq_ids.specs.Path.{HasDepth}
use Rattle.rsfq_ids.specs.Ready.{IsSetUp}
use Rattle.flat_form.specs.Table.{jtl_table}
use Rattle.flat_form.specs.Form.{IsClockPort, clock_name}
use Rattle.flat_form.specs.Bench.{IsTimeable}
use Rattle.signoff.specs.declared.words.Times.{Times}
use Rattle.rsfq_ids.specs.Offence.{HasNoWindow}
use Rattle.wire_timing.specs.declared.WireDepth.{WireDepth}
use Rattle.wire_timing.specs.Wires as timing
use Rattle.wire_timing.specs.Window.{IsFirstWindow}
use Rattle.signoff.specs.Headline.{EveryRunShows}
use Rattle.signoff.specs.Text.{accepted_text, window_text}
use Rattle.signoff.specs.Answers.{AreShallow, IsReplied, IsAnswer}
use Rattle.rsfq_outside.specs.declared.status.Status.{Status}
use Rattle.rsfq_outside.specs.declared.status.Status.TheVariants.{Accepted, Rejected}
use Rattle.signoff.specs.Verdict.{HasCircuit, IsShallow, AreDepths, IsRejected, IsJudged, IsVerdict}

-- where two lists are of one length, one has an item where the other has
pub item_beside : {X Y : Type 0} (xs : List X) (ys : List Y) (i : ℕ) (y : Y) → length ys ≡ length xs → slice_get ys i ≡ Some y → (x : X) × (slice_get xs i ≡ Some x)
item_beside {X = X} xs ys i y same is = go (slice_get_cases xs i).1 where
  go : ((x : X) × (i < length xs) × (slice_get xs i ≡ Some x) × (get_or xs i x ≡ x)) ⊎ ((length xs ≤ i) × (slice_get xs i ≡ None)) → (x : X) × (slice_get xs i ≡ Some x)
  go (inl (x, below, at, value)) = (x, at)
  go (inr (past, none)) = absurd (let below = slice_get_within ys i y is in omega arith)

-- the offset of a strobe of a well-formed bench
pub strobe_offset : (flat : Flat) (bench : Bench) (output : ℕ) (strobe : Strobe) → IsBench flat bench → IsUsed bench output (port_use.Strobed strobe) → IsTime strobe.offset
strobe_offset flat bench output strobe fits used =
    let beside = item_beside flat.ports bench.uses output (port_use.Strobed strobe) fits.ports used in
    (fits.uses output beside.0 (port_use.Strobed strobe) beside.1 used).1

-- what may be timed are wires of the timing
pub timeable : (design : Design) (order : List ℕ) → IsTimeable design order → timing.AreWires design order
timeable design order t = record { set_up = t.set_up; jtls = t.jtls; clock = t.clock_unread; ordered = t.ordered }

-- a design of the table of JTLs and this bench
pub same_parts : (table t : CellTable) (flat : Flat) (bench b : Bench) → table ≡ t → bench ≡ b → timing.design_of table flat bench ≡ timing.design_of t flat b
same_parts table t flat bench b is_t is_b = rw (is_t, is_b) refl

-- a pin is one output
one_output : (flat : Flat) (pin output other net beside : ℕ) → IsPin flat pin (reader.Port output) net → IsPin flat pin (reader.Port other) beside → output ≡ other
one_output flat pin output other net beside is also =
    let same : ◌≡◌ {A = Pin} (record { reader = reader.Port output; net = net }) (record { reader = reader.Port other; net = beside }) = cc in
    let readers : reader.Port output ≡ reader.Port other = ap (λ (p : Pin). p.reader) same in
    cc

-- an output has one strobe
one_strobe : (bench : Bench) (output other : ℕ) (strobe at : Strobe) → output ≡ other → IsUsed bench output (port_use.Strobed strobe) → IsUsed bench other (port_use.Strobed at) → strobe ≡ at
one_strobe bench output other strobe at same is also = cc

-- the pin and the strobe of the first window offence are those that were looked up
pub shown : (design : Design) (pin : ℕ) (pulse : PathPick) (number output net : ℕ) (strobe : Strobe) (text : List ℕ) → (first : IsFirstWindow design pin pulse number) →
    IsPin design.flat pin (reader.Port output) net → IsUsed design.bench output (port_use.Strobed strobe) → text ≡ window_text design output strobe pulse number →
    IsRejected design Rejected text
shown design pin pulse number output net strobe text first place used is =
    let same_output = one_output design.flat pin output first.here.output net first.here.net place first.here.place in
    let same_strobe = one_strobe design.bench output first.here.output strobe first.here.strobe same_output used first.here.used in
    record { answer = refl; pin = pin; pulse = pulse; number = number; first = first; printed = is ∙ ap (λ o. window_text design o strobe pulse number) same_output ∙ ap (λ s. window_text design first.here.output s pulse number) same_strobe }

-- ---- verdicts

-- what stands at a place is in the list
pub contained_at : {X : Type 0} (xs : List X) (i : ℕ) (x : X) → slice_get xs i ≡ Some x → Contains xs x
contained_at xs i x at = (i, slice_get_within xs i x at, get_or_from_slice_get xs i x x at)

-- the reply to the depths of a design in which no pulse can break a window is the judgement on it
pub judged : (design asked : Design) (depths : List WireDepth) (status : Status) (text : List ℕ) → design ≡ asked → HasNoWindow design → map (λ found. found.output) depths ≡ timing.outputs_of design.flat →
    All (timing.IsWireDepth design) depths → ((line : WireDepth) → AreDepths asked depths → Contains depths line → (strobe : Strobe) × IsUsed asked.bench line.output (port_use.Strobed strobe)) →
    (AreDepths asked depths → AreShallow depths → IsShallow asked) → (AreDepths asked depths → HasNoWindow asked → EveryRunShows asked depths) →
    IsReplied design.flat depths status text → IsJudged asked status text
judged design asked depths status text same none outputs are used deep shows replied =
    let are_so : AreDepths asked depths = rw (← same) (record { outputs = outputs; each = are }) in
    let none_so : HasNoWindow asked = rw (← same) none in
    elim replied [
      | inl p ↦ inl (record { answer = p.answer; no_window = none_so; shallow = deep are_so p.shallow; depths = depths; depths_are = are_so; runs = shows are_so none_so; printed = rw (← same) p.printed })
      | inr t ↦ inr (inr (record {
        answer = t.answer;
        no_window = none_so;
        depths = depths;
        depths_are = are_so;
        place = t.place;
        first = t.first;
        used = used t.first.found are_so (contained_at depths t.place t.first.found t.first.there);
        printed = rw (← same) t.printed;
      }))
    ]

-- a fact of what was answered, from another
pub IfOk-map : {X Y : Type 0} {P Q : X → Type 0} (r : Result X Y) → ((x : X) → P x → Q x) → IfOk r P → IfOk r Q
IfOk-map (Ok x) from has = from x has
IfOk-map (Err e) from has = has

one_name : (xs : List (List ℕ)) (i j : ℕ) (x : List ℕ) → AreDistinct xs → slice_get xs i ≡ Some x → slice_get xs j ≡ Some x → i ≡ j
one_name xs i j x distinct at also =
    elim (cases_lt i j) [ inl l ↦ absurd (apart i j l at also) | inr g ↦ elim (cases_lt j i) [ inl l ↦ absurd (apart j i l also at) | inr e ↦ omega arith ] ] where
      apart : (a b : ℕ) → a < b → slice_get xs a ≡ Some x → slice_get xs b ≡ Some x → ⊥
      apart a b less one other = distinct a b x less (slice_get_within xs b x other) (get_or_from_slice_get xs a x x one ∙ sym (get_or_from_slice_get xs b x x other))

-- two clocks of one circuit are one, since no two ports have one name
pub same_clock : (flat : Flat) (port clock : ℕ) → AreDistinct (map (λ (bit : PortBit). bit.name) flat.ports) → IsClockPort flat port → IsClockPort flat clock → port ≡ clock
same_clock flat port clock distinct is also =
    one_name (map (λ (bit : PortBit). bit.name) flat.ports) port clock clock_name distinct
    (slice_get-map (λ (bit : PortBit). bit.name) flat.ports port ∙ ap (option_map (λ (bit : PortBit). bit.name)) is.at ∙ ap Some is.named)
    (slice_get-map (λ (bit : PortBit). bit.name) flat.ports clock ∙ ap (option_map (λ (bit : PortBit). bit.name)) also.at ∙ ap Some also.named)

-- the answer to the one circuit of a netlist is the verdict on it
pub verdict_of : (times : Times) (netlist : List ℕ) (flat : Flat) (status : Status) (text : List ℕ) → HasCircuit netlist flat → ((other : Flat) → HasCircuit netlist other → other ≡ flat) → IsFlat jtl_table flat →
    IsAnswer times flat status text → IsVerdict times netlist status text
verdict_of times netlist flat status text has only fits (inl f) = inr (inl (record { answer = f.answer; flat = flat; has = has; only = only; none = f.none; printed = f.printed }))
verdict_of times netlist flat status text has only fits (inr f) = inr (inr (record {
  flat = flat;
  clock = f.clock;
  circuit = record { has = has; form = f.form; clock_is = f.clock_is };
  only = only;
  one_clock = λ port is. same_clock flat port f.clock fits.names is f.clock_is;
  judged = f.judged;
}))
