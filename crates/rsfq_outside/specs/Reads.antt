-- What a program's read of one of its files gives: the whole file, or what stops the run.
use Rattle.std.specs.Prelude.{◌≡◌, ◌⊎◌, ◌<◌, ◌≤◌, ℕ, List, ◌++◌, length, codes, IfSome}
use Rattle.std.specs.declared.option.Option.{Option}
use Rattle.rsfq_outside.specs.declared.status.Status.TheVariants.{Refused, Fault}
use Rattle.rsfq_outside.specs.declared.answer.Stop.{Stop}
use Rattle.rsfq_outside.specs.declared.answer.Stop.TheVariants.{Due, Memory}
use Rattle.rsfq_outside.specs.Told.{Files, told_content}

-- the line that says that a file is too long: `refused long NAME`
abbrev pub long_line : List ℕ → List ℕ
long_line name = codes "refused long " ++ name ++ codes "\n"

-- a file was read: the bytes are all of its content, where the folder tells it, and at most so many
abbrev pub IsWholeFile : Option Files → List ℕ → ℕ → List ℕ → Type 0
IsWholeFile told name most bytes = IfSome (told_content told name) (λ content. bytes ≡ content) × (length bytes ≤ most)

-- a file has more than so many bytes, where the folder tells its content
abbrev pub IsTooLong : Option Files → List ℕ → ℕ → Type 0
IsTooLong told name most = IfSome (told_content told name) (λ content. most < length content)

-- what stops a run at the read of a file of at most so many bytes: the file is too long, which is refused; or the read
-- failed; or memory was wanting
abbrev pub IsReadStop : Option Files → List ℕ → ℕ → Stop → Type 0
IsReadStop told name most (Due reply) =
    ((reply.status ≡ Refused) × (reply.text.items ≡ long_line name) × IsTooLong told name most) ⊎ (reply.status ≡ Fault)
IsReadStop told name most Memory = Unit {0}

-- a fact of the line that is due, where a fault stops the run
abbrev pub IfFaultStops : Stop → (List ℕ → Type 0) → Type 0
IfFaultStops (Due reply) Says = reply.status ≡ Fault → Says reply.text.items
IfFaultStops Memory Says = Unit {0}

-- a fact where a refusal stops the run
abbrev pub IfRefusalStops : Stop → Type 0 → Type 0
IfRefusalStops (Due reply) Fact = reply.status ≡ Refused → Fact
IfRefusalStops Memory Fact = Unit {0}
