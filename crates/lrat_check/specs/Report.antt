-- What the program prints of two files. Each line ends with a newline byte, and numbers are decimal.
use Rattle.std.specs.Prelude.{ℕ, List, [], ◌++◌, codes, decimal, Option, Some, None, Result, Ok, Err}
use Rattle.std.specs.Fmt.{signed_decimal}
use Rattle.rsfq_ids.specs.declared.circuit.Cnf.{Cnf}
use Rattle.rsfq_outside.specs.declared.status.Status.{Status}
use Rattle.rsfq_outside.specs.declared.status.Status.TheVariants.{Accepted, Refused}
use Rattle.dimacs_text.specs.Reading.{reading}
use Rattle.dimacs_text.specs.declared.fault.TextFault.{TextFault}
use Rattle.dimacs_text.specs.declared.fault.TextWhy.{TextWhy}
use Rattle.dimacs_text.specs.declared.fault.TextWhy.TheVariants as text
use Rattle.lrat_check.specs.Check.{text_fault}
use Rattle.lrat_check.specs.declared.fault.LratFault.{LratFault}
use Rattle.lrat_check.specs.declared.fault.LratWhy.{LratWhy}
use Rattle.lrat_check.specs.declared.fault.LratWhy.TheVariants as why

-- why a text is no formula; no memory is no cause that is printed
abbrev pub cnf_why : TextWhy → List ℕ
cnf_why text.Header = codes "header"
cnf_why text.Number = codes "number"
cnf_why (text.Range lit) = codes "range " ++ signed_decimal lit
cnf_why text.Unended = codes "unended"
cnf_why (text.Count have want) = codes "count " ++ decimal have ++ codes " " ++ decimal want
cnf_why text.Memory = []

-- `refused cnf OFFSET WHY`
abbrev pub cnf_line : TextFault → List ℕ
cnf_line fault = codes "refused cnf " ++ decimal fault.offset ++ codes " " ++ cnf_why fault.why ++ codes "\n"

-- why a proof fails
abbrev pub proof_why : LratWhy → List ℕ
proof_why why.Syntax = codes "syntax"
proof_why why.Id = codes "id"
proof_why (why.Range lit) = codes "range " ++ signed_decimal lit
proof_why (why.NoClause id) = codes "no clause " ++ decimal id
proof_why why.Rat = codes "rat"
proof_why why.Tautology = codes "tautology"
proof_why (why.NotUnit hint) = codes "not unit " ++ decimal hint
proof_why why.NoConflict = codes "no conflict"
proof_why why.NoEmpty = codes "no empty"
proof_why why.Memory = []

-- `refused proof LINE WHY`
abbrev pub proof_line : LratFault → List ℕ
proof_line fault = codes "refused proof " ++ decimal fault.line ++ codes " " ++ proof_why fault.why ++ codes "\n"

-- a status with its whole text
pub record Verdict : Type 0 where
  pub status : Status
  pub text : List ℕ

abbrev pub verified_text : List ℕ
verified_text = codes "verified\n"

abbrev pub verdict_on_proof : Option LratFault → Verdict
verdict_on_proof None = record { status = Accepted; text = verified_text }
verdict_on_proof (Some fault) = record { status = Refused; text = proof_line fault }

abbrev pub verdict_on_cnf : List ℕ → Result Cnf TextFault → Verdict
verdict_on_cnf proof (Ok cnf) = verdict_on_proof (text_fault cnf proof)
verdict_on_cnf proof (Err fault) = record { status = Refused; text = cnf_line fault }

-- the verdict on the text of a formula and the text of a proof
abbrev pub verdict_of : List ℕ → List ℕ → Verdict
verdict_of cnf proof = verdict_on_cnf proof (reading cnf)
