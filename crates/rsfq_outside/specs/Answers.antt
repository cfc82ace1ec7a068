-- What the top call of every program says of its answer: when an answer comes, what a fault has as its cause and which
-- line it makes due, and what stands on the sink.
use Rattle.std.specs.Prelude.{◌≡◌, ◌≢◌, ◌⊎◌, ℕ, List, ◌++◌, take, codes, Some}
use Rattle.std.specs.declared.option.Option.{Option}
use Rattle.rsfq_outside.specs.declared.fault.CallKind.{CallKind}
use Rattle.rsfq_outside.specs.declared.fault.CallKind.TheVariants.{Read, Write}
use Rattle.rsfq_outside.specs.declared.status.Status.{Status}
use Rattle.rsfq_outside.specs.declared.status.Status.TheVariants.{Fault, Memory}
use Rattle.rsfq_outside.specs.Causes.{Call, Rose}
use Rattle.rsfq_outside.specs.Told.{Grows}

-- the answer comes exactly where the fact holds, but for want of memory and a fault
pub record ExactlyWhere (fact : Type 0) (answer status : Status) : Type 0 where
  pub only : status ≡ answer → fact
  pub comes : fact → status ≢ Memory → status ≢ Fault → status ≡ answer

-- the word of a call's kind
abbrev pub kind_word : CallKind → List ℕ
kind_word Read = codes "read"
kind_word Write = codes "write"

-- the line that says which call of the folder failed: `fault read NAME` or `fault write NAME`
abbrev pub fault_line : Call → List ℕ
fault_line call = codes "fault " ++ kind_word call.0 ++ codes " " ++ call.1 ++ codes "\n"

-- a fault of the folder in this call: its count rose, one of these calls is to blame, and the line that is due names it
pub record FaultDue (before now : ℕ) (blamed : Option Call) (IsOwn : Call → Type 0) (line : List ℕ) : Type 0 where
  pub rose : Rose before now
  pub blame : (call : Call) × (blamed ≡ Some call) × IsOwn call × (line ≡ fault_line call)

-- The text that was due was written whole, and the status is the one that was due with it; or the sink failed in this
-- call, the status is `Fault`, and a prefix of the text stands.
abbrev pub Delivers : (due : Status) (text : List ℕ) (status : Status) (written_before written_now : Option (List ℕ)) (faults_before faults_now : ℕ) → Type 0
Delivers due text status written_before written_now faults_before faults_now =
    ((status ≡ due) × Grows written_before written_now text)
    ⊎ ((status ≡ Fault) × Rose faults_before faults_now × ((n : ℕ) × Grows written_before written_now (take n text)))
