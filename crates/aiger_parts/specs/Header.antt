-- The first line of a file.
use Rattle.std.specs.Prelude.{ℕ, zero, suc, ◌+◌, ◌-◌, ◌==◌, ◌&&◌, nat_eq, nat_lt, nat_le, Bool, cond, List, [], ◌∷◌, drop, Result, Ok, Err, if◌then◌else◌}
use Rattle.rsfq_ids.specs.declared.limits.TheConstants.{AIG_LIMIT}
use Rattle.std.specs.List.{starts_with}
use Rattle.aiger_parts.specs.declared.fault.AigerWhy.TheVariants as why
use Rattle.aiger_parts.specs.declared.fault.Stop.{Stop}
use Rattle.aiger_parts.specs.declared.header.Header.{Header}
use Rattle.aiger_parts.specs.declared.header.Form.{Form}
use Rattle.aiger_parts.specs.declared.header.Form.TheVariants as form
use Rattle.aiger_parts.specs.Reading.{◌>>=◌, fault, field_at}

-- how many spaces the first line has
abbrev pub spaces_in : List ℕ → ℕ
spaces_in [] = 0
spaces_in (byte ∷ bytes) = cond (byte == 10) 0 (cond (byte == 32) 1 0 + spaces_in bytes)

-- the word of a form, `aag` or `aig`, and a space
abbrev pub word_of : Form → List ℕ
word_of form.Ascii = 97 ∷ 97 ∷ 103 ∷ 32 ∷ []
word_of form.Binary = 97 ∷ 105 ∷ 103 ∷ 32 ∷ []

-- the first line begins with the word and a space, and has five to nine fields behind them
abbrev pub has_head : Form → List ℕ → Bool
has_head form bytes = starts_with nat_eq bytes (word_of form) && nat_le 5 (spaces_in bytes) && nat_le (spaces_in bytes) 9

-- M ≥ I + A in digits, M = I + A in bytes
abbrev pub fits_form : Form → Header → Bool
fits_form form.Ascii header = nat_le (header.inputs + header.ands) header.variables
fits_form form.Binary header = header.variables == header.inputs + header.ands

-- so many fields that are 0
abbrev pub zeros_at : ℕ → List ℕ → Result (List ℕ) Stop
zeros_at zero bytes = Ok bytes
zeros_at (suc count) bytes = do
  x ← field_at bytes
  rest ← (if x.0 == 0 then Ok x.1 else Err (fault why.Extended bytes))
  zeros_at count rest

-- M, the number of variables
abbrev pub variables_at : List ℕ → Result (ℕ × List ℕ) Stop
variables_at bytes = do
  x ← field_at bytes
  if nat_lt AIG_LIMIT x.0 then Err (fault (why.Limit x.0) bytes) else Ok (x.0, x.1)

-- L, the number of latches, which is 0
abbrev pub latches_at : List ℕ → Result (List ℕ) Stop
latches_at bytes = do
  x ← field_at bytes
  if x.0 == 0 then Ok x.1 else Err (fault why.Latches bytes)

-- I, L, O and A in turn
unfoldable pub counts_at : ℕ → List ℕ → Result (Header × List ℕ) Stop
counts_at variables bytes = do
  inputs ← field_at bytes
  rest ← latches_at inputs.1
  outputs ← field_at rest
  ands ← field_at outputs.1
  Ok (record { variables = variables; inputs = inputs.0; outputs = outputs.0; ands = ands.0 }, ands.1)

-- M, the counts, the further numbers, and last the rule on M
unfoldable pub header_at : Form → List ℕ → Result (Header × List ℕ) Stop
header_at form bytes = do
  variables ← (if has_head form bytes then variables_at (drop 4 bytes) else Err (fault why.Header bytes))
  counts ← counts_at variables.0 variables.1
  behind ← zeros_at (spaces_in bytes - 5) counts.1
  if fits_form form counts.0 then Ok (counts.0, behind) else Err (fault why.Header bytes)
