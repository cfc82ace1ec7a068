-- What the whole run answers to its words and the two files, and what it leaves on the sink.
use Rattle.std.specs.Prelude.{◌≡◌, ◌⊎◌, ℕ, ◌≤◌, List, [], ◌∷◌, length, map, Option, Some, None, Ok, String, string_bytes, codes, nat_lt, if◌then◌else◌}
use Rattle.rsfq_ids.specs.Formula.{HasSolution}
use Rattle.rsfq_ids.specs.declared.circuit.Cnf.{Cnf}
use Rattle.rsfq_outside.specs.declared.fault.CallKind.TheVariants.{Read}
use Rattle.rsfq_outside.specs.declared.status.Status.{Status}
use Rattle.rsfq_outside.specs.declared.status.Status.TheVariants.{Words, Refused, Fault, Memory}
use Rattle.rsfq_outside.specs.Causes.{Call, Rose}
use Rattle.rsfq_outside.specs.Told.{Files, told_content, Grows}
use Rattle.rsfq_outside.specs.Answers.{FaultDue, Delivers}
use Rattle.rsfq_outside.specs.Reads.{long_line, IsWholeFile, IsTooLong}
use Rattle.dimacs_text.specs.Reading.{reading}
use Rattle.lrat_check.specs.Grammar.{values_in}
use Rattle.lrat_check.specs.Check.{text_fault}
use Rattle.lrat_check.specs.Report.{Verdict, verdict_of}

-- the most bytes of a file: 256 MiB
abbrev pub most_bytes : ℕ
most_bytes = 268435456

-- the words as bytes
abbrev pub texts : {Z : Type 0} → List (String Z) → List (List ℕ)
texts words = map string_bytes words

-- The words ask for the check of this file against that one: they are these two values, where a first `--` does not count. A word that
-- begins with a hyphen is a value only behind it, or where it is the hyphen alone.
abbrev pub Asks : List (List ℕ) → List ℕ → List ℕ → Type 0
Asks words cnf proof = values_in words ≡ Some (cnf ∷ proof ∷ [])

-- the words ask for nothing
abbrev pub AsksNothing : List (List ℕ) → Type 0
AsksNothing words = (cnf proof : List ℕ) → ¬ Asks words cnf proof

abbrev pub usage_text : List ℕ
usage_text = codes "usage: rsfq_lrat CNF PROOF\n"

-- a folder before and after the run: the count of faults, and the call to blame
pub record FolderRun : Type 0 where
  pub told : Option Files
  pub before : ℕ
  pub now : ℕ
  pub blamed : Option Call

abbrev pub folder_run : Option Files → ℕ → ℕ → Option Call → FolderRun
folder_run told before now blamed = record { told = told; before = before; now = now; blamed = blamed }

-- the words ask for nothing, and nothing is read
pub record IsUsage (folder : FolderRun) (words : List (List ℕ)) (status : Status) (text : List ℕ) : Type 0 where
  pub answer : status ≡ Words
  pub sound : folder.now ≡ folder.before
  pub nothing : AsksNothing words
  pub printed : text ≡ usage_text

-- a file can't be read: the folder failed in this call at this very read, and the line names it
pub record IsUnread (folder : FolderRun) (name : List ℕ) (status : Status) (text : List ℕ) : Type 0 where
  pub answer : status ≡ Fault
  pub due : FaultDue folder.before folder.now folder.blamed (λ call. call ≡ (Read, name)) text

-- no read failed, and this file has too many bytes
pub record IsLong (folder : FolderRun) (name : List ℕ) (status : Status) (text : List ℕ) : Type 0 where
  pub answer : status ≡ Refused
  pub sound : folder.now ≡ folder.before
  pub long : IsTooLong folder.told name most_bytes
  pub printed : text ≡ long_line name

-- no read failed, the proof was read whole, and this is the verdict on it
pub record IsAnswered (folder : FolderRun) (name cnf : List ℕ) (status : Status) (text : List ℕ) : Type 0 where
  pub proof : List ℕ
  pub sound : folder.now ≡ folder.before
  pub whole : IsWholeFile folder.told name most_bytes proof
  pub verdict : verdict_of cnf proof ≡ record { status = status; text = text }

-- what follows of the text of the formula: what stops the run at the proof, or the verdict
abbrev pub IsReplied : FolderRun → List ℕ → List ℕ → Status → List ℕ → Type 0
IsReplied folder name cnf status text = IsUnread folder name status text ⊎ (IsLong folder name status text ⊎ IsAnswered folder name cnf status text)

-- the formula was read whole, and this follows of it
pub record IsOnward (folder : FolderRun) (name proof : List ℕ) (status : Status) (text : List ℕ) : Type 0 where
  pub cnf : List ℕ
  pub whole : IsWholeFile folder.told name most_bytes cnf
  pub reply : IsReplied folder proof cnf status text

-- what stops the run at the formula, or what follows
abbrev pub IsFirst : FolderRun → List ℕ → List ℕ → Status → List ℕ → Type 0
IsFirst folder cnf proof status text = IsUnread folder cnf status text ⊎ (IsLong folder cnf status text ⊎ IsOnward folder cnf proof status text)

-- the status that is due before anything is written, and its whole text
abbrev pub IsDue : FolderRun → List (List ℕ) → Status → List ℕ → Type 0
IsDue folder words status text = IsUsage folder words status text ⊎ ((cnf : List ℕ) × (proof : List ℕ) × Asks words cnf proof × IsFirst folder cnf proof status text)

-- a sink before and after the run: the bytes written, where it tells them, and its count of faults
pub record SinkRun : Type 0 where
  pub before : Option (List ℕ)
  pub now : Option (List ℕ)
  pub faults_before : ℕ
  pub faults_now : ℕ

abbrev pub sink_run : Option (List ℕ) → Option (List ℕ) → ℕ → ℕ → SinkRun
sink_run before now faults_before faults_now = record { before = before; now = now; faults_before = faults_before; faults_now = faults_now }

-- The whole run. Memory was wanting before anything was written; or a text was due with its status, and it stands whole,
-- or the sink failed in this call and a prefix of it stands.
abbrev pub Runs : FolderRun → List (List ℕ) → Status → SinkRun → Type 0
Runs folder words status sink =
    ((status ≡ Memory) × (sink.now ≡ sink.before))
    ⊎ ((due : Status) × (text : List ℕ) × IsDue folder words due text × Delivers due text status sink.before sink.now sink.faults_before sink.faults_now)

-- ---- what follows of it, clause by clause

-- a fact of the two names and the two files, where the words ask for them and the folder tells both
abbrev pub IfTold : Option Files → List (List ℕ) → (List ℕ → List ℕ → List ℕ → List ℕ → Type 0) → Type 0
IfTold told words Says = (cnf proof formula_text proof_text : List ℕ) → Asks words cnf proof → told_content told cnf ≡ Some formula_text → told_content told proof ≡ Some proof_text
    → Says cnf proof formula_text proof_text

-- the one answer to two files: the first of them that is too long is refused, and else it is the verdict
abbrev pub reply_of : List ℕ → List ℕ → List ℕ → List ℕ → Verdict
reply_of cnf proof formula_text proof_text =
    if nat_lt most_bytes (length formula_text) then record { status = Refused; text = long_line cnf }
    else if nat_lt most_bytes (length proof_text) then record { status = Refused; text = long_line proof }
    else verdict_of formula_text proof_text

-- that answer came, and its text stands whole
abbrev pub IsTheReply : Verdict → Status → SinkRun → Type 0
IsTheReply verdict status sink = (status ≡ verdict.status) × Grows sink.before sink.now verdict.text

-- the texts are within the limit, the first is a formula, and every line of the proof holds and an empty clause is added
pub record IsVerified (formula_text proof_text : List ℕ) : Type 0 where
  pub formula_fits : length formula_text ≤ most_bytes
  pub proof_fits : length proof_text ≤ most_bytes
  pub formula : Cnf
  pub reads : reading formula_text ≡ Ok formula
  pub holds : text_fault formula proof_text ≡ None

-- the text is a formula that no assignment satisfies
abbrev pub IsRefuted : List ℕ → Type 0
IsRefuted formula_text = (formula : Cnf) × (reading formula_text ≡ Ok formula) × ¬ (HasSolution formula.clauses)

-- a read of one of the two files that the words name
abbrev pub IsOwnRead : List (List ℕ) → Call → Type 0
IsOwnRead words call = (cnf : List ℕ) × (proof : List ℕ) × Asks words cnf proof × ((call ≡ (Read, cnf)) ⊎ (call ≡ (Read, proof)))

-- the cause of a fault: the sink failed in this call, or the folder did at a read of one of the files, and the line that names it stands whole
abbrev pub HasFaultCause : FolderRun → List (List ℕ) → SinkRun → Type 0
HasFaultCause folder words sink =
    Rose sink.faults_before sink.faults_now
    ⊎ ((line : List ℕ) × FaultDue folder.before folder.now folder.blamed (IsOwnRead words) line × Grows sink.before sink.now line)
