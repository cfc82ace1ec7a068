-- What the whole run answers to its words and the netlist, and what it leaves on the sink.
use Rattle.std.specs.Prelude.{◌≡◌, ◌⊎◌, ℕ, ◌<◌, ◌≤◌, List, length, map, Option, Some}
use Rattle.std.specs.List.{All}
use Rattle.rsfq_ids.specs.Design.{Design}
use Rattle.rsfq_ids.specs.Offence.{HasNoWindow}
use Rattle.rsfq_ids.specs.declared.id.PortId.{PortId}
use Rattle.rsfq_ids.specs.declared.circuit.Flat.{Flat}
use Rattle.wire_timing.specs.declared.WireDepth.{WireDepth}
use Rattle.rsfq_outside.specs.declared.fault.CallKind.TheVariants.{Read}
use Rattle.rsfq_outside.specs.declared.status.Status.{Status}
use Rattle.rsfq_outside.specs.declared.status.Status.TheVariants.{Words, Refused, Fault, Memory}
use Rattle.rsfq_outside.specs.Causes.{Call, Rose}
use Rattle.rsfq_outside.specs.Told.{Files, told_content, Grows}
use Rattle.rsfq_outside.specs.Answers.{FaultDue, Delivers}
use Rattle.rsfq_outside.specs.Reads.{long_line, IsWholeFile, IsTooLong}
use Rattle.signoff.specs.declared.words.Times.{Times}
use Rattle.signoff.specs.Words.{Asks, AsksNothing}
use Rattle.signoff.specs.Text.{usage_text, accepted_text}
use Rattle.signoff.specs.Headline.{EveryRunShows}
use Rattle.flat_form.specs.Form.{IsClockPort}
use Rattle.signoff.specs.Verdict.{IsVerdict, HasCircuit, IsWireCircuit, IsOfNoForm, IsSignedOff, IsDeep, AreDepths, timed_design}

-- the most bytes of a netlist: 16 MiB
abbrev pub most_bytes : ℕ
most_bytes = 16777216

-- a folder before and after the run: the count of faults, and the call to blame
pub record FolderRun : Type 0 where
  pub told : Option Files
  pub before : ℕ
  pub now : ℕ
  pub blamed : Option Call

abbrev pub folder_run : Option Files → ℕ → ℕ → Option Call → FolderRun
folder_run told before now blamed = record { told = told; before = before; now = now; blamed = blamed }

-- the words ask for nothing, and nothing is read
pub record IsUsage (folder : FolderRun) (words : List (List ℕ)) (status : Status) (text : List ℕ) : Type 0 where
  pub answer : status ≡ Words
  pub sound : folder.now ≡ folder.before
  pub nothing : AsksNothing words
  pub printed : text ≡ usage_text

-- the netlist can't be read: the folder failed in this call at this very read, and the line names it
pub record IsUnread (folder : FolderRun) (name : List ℕ) (status : Status) (text : List ℕ) : Type 0 where
  pub answer : status ≡ Fault
  pub due : FaultDue folder.before folder.now folder.blamed (λ call. call ≡ (Read, name)) text

-- the read did not fail, and the netlist has too many bytes
pub record IsLong (folder : FolderRun) (name : List ℕ) (status : Status) (text : List ℕ) : Type 0 where
  pub answer : status ≡ Refused
  pub sound : folder.now ≡ folder.before
  pub long : IsTooLong folder.told name most_bytes
  pub printed : text ≡ long_line name

-- the read did not fail, the netlist was read whole, and this is the answer to it
pub record IsAnswered (folder : FolderRun) (name : List ℕ) (times : Times) (status : Status) (text : List ℕ) : Type 0 where
  pub netlist : List ℕ
  pub sound : folder.now ≡ folder.before
  pub whole : IsWholeFile folder.told name most_bytes netlist
  pub verdict : IsVerdict times netlist status text

-- what stops a sign-off that is asked for, or the answer to its netlist
abbrev pub IsReplied : FolderRun → List ℕ → Times → Status → List ℕ → Type 0
IsReplied folder name times status text = IsUnread folder name status text ⊎ (IsLong folder name status text ⊎ IsAnswered folder name times status text)

-- the status that is due before anything is written, and its whole text
abbrev pub IsDue : FolderRun → List (List ℕ) → Status → List ℕ → Type 0
IsDue folder words status text = IsUsage folder words status text ⊎ ((name : List ℕ) × (times : Times) × Asks words name times × IsReplied folder name times status text)

-- a sink before and after the run: the bytes written, where it tells them, and its count of faults
pub record SinkRun : Type 0 where
  pub before : Option (List ℕ)
  pub now : Option (List ℕ)
  pub faults_before : ℕ
  pub faults_now : ℕ

abbrev pub sink_run : Option (List ℕ) → Option (List ℕ) → ℕ → ℕ → SinkRun
sink_run before now faults_before faults_now = record { before = before; now = now; faults_before = faults_before; faults_now = faults_now }

-- The whole run. Memory was wanting before anything was written; or a text was due with its status, and it stands whole,
-- or the sink failed in this call and a prefix of it stands.
abbrev pub Runs : FolderRun → List (List ℕ) → Status → SinkRun → Type 0
Runs folder words status sink =
    ((status ≡ Memory) × (sink.now ≡ sink.before))
    ⊎ ((due : Status) × (text : List ℕ) × IsDue folder words due text × Delivers due text status sink.before sink.now sink.faults_before sink.faults_now)

-- ---- what follows of it, clause by clause

-- a fact of the netlist's name, the times and the netlist, where the words ask for them and the folder tells the netlist
abbrev pub IfTold : Option Files → List (List ℕ) → (List ℕ → Times → List ℕ → Type 0) → Type 0
IfTold told words Says = (name : List ℕ) (times : Times) (netlist : List ℕ) → Asks words name times → told_content told name ≡ Some netlist → Says name times netlist

-- the netlist has more bytes than a file may have
abbrev pub IsTooLarge : List ℕ → Type 0
IsTooLarge netlist = most_bytes < length netlist

-- the netlist has a circuit of the form, and what is said holds of its design
abbrev pub HasDesign : Times → List ℕ → (Design → Type 0) → Type 0
HasDesign times netlist Says = (length netlist ≤ most_bytes) × ((flat : Flat) × (clock : PortId) × IsWireCircuit netlist flat clock × Says (timed_design times flat clock))

-- the netlist is refused: it is too large, has no circuit of the form, or its circuit has no window offence and is too deep
abbrev pub IsRefusable : Times → List ℕ → Type 0
IsRefusable times netlist = IsTooLarge netlist ⊎ (IsOfNoForm netlist ⊎ HasDesign times netlist (λ design. HasNoWindow design × IsDeep design))

-- a read of the netlist that the words name
abbrev pub IsOwnRead : List (List ℕ) → Call → Type 0
IsOwnRead words call = (name : List ℕ) × (times : Times) × Asks words name times × (call ≡ (Read, name))

-- the cause of a fault: the sink failed in this call, or the folder did at a read of the netlist, and the line that names it stands whole
abbrev pub HasFaultCause : FolderRun → List (List ℕ) → SinkRun → Type 0
HasFaultCause folder words sink =
    Rose sink.faults_before sink.faults_now
    ⊎ ((line : List ℕ) × FaultDue folder.before folder.now folder.blamed (IsOwnRead words) line × Grows sink.before sink.now line)

-- the report of a netlist that was accepted or rejected stands whole
abbrev pub HasReport : Times → List ℕ → Status → SinkRun → Type 0
HasReport times netlist status sink = (text : List ℕ) × IsSignedOff times netlist status text × Grows sink.before sink.now text

-- the line of a netlist that is refused stands whole, and what it says is so
abbrev pub HasRefusal : Times → List ℕ → SinkRun → Type 0
HasRefusal times netlist sink = (text : List ℕ) × IsVerdict times netlist Refused text × Grows sink.before sink.now text

-- The headline. The netlist has one circuit, which is of the form, and one clock. The report has a line for each output bit, in port
-- order, with its depth and the data input at the other end of its wire. And every run of the circuit, at the times that were asked
-- for, is clean, and each line of the report tells the truth of it.
pub record HasHeadline (times : Times) (netlist : List ℕ) (sink : SinkRun) : Type 0 where
  pub flat : Flat
  pub clock : PortId
  pub circuit : IsWireCircuit netlist flat clock
  pub only : (other : Flat) → HasCircuit netlist other → other ≡ flat
  pub one_clock : (port : PortId) → IsClockPort flat port → port ≡ clock
  pub lines : List WireDepth
  pub depths : AreDepths (timed_design times flat clock) lines
  pub runs : EveryRunShows (timed_design times flat clock) lines
  pub printed : Grows sink.before sink.now (accepted_text flat lines)
