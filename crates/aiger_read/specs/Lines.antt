-- The lines of an ASCII file.
use Rattle.std.specs.Prelude.{◌≡◌, ℕ, zero, suc, ◌+◌, ◌*◌, ◌%◌, ◌==◌, ◌||◌, nat_lt, Bool, List, [], ◌∷◌, ◌++◌, length, map, slice_get, Some, Result, Ok, Err, if◌then◌else◌}
use Rattle.std.specs.List.{list_any}
use Rattle.aiger_parts.specs.declared.fault.AigerWhy.TheVariants as why
use Rattle.aiger_parts.specs.declared.fault.Stop.{Stop}
use Rattle.aiger_read.specs.declared.lines.Used.{Used}
use Rattle.aiger_read.specs.declared.lines.Line.{Line}
use Rattle.aiger_parts.specs.Reading.{◌>>=◌, fault, number_at, line_end_at}

-- so many of one kind, where each may depend on those before it
abbrev pub more_at : {A : Type 0} → (List A → List ℕ → Result (A × List ℕ) Stop) → ℕ → List A → List ℕ → Result (List A × List ℕ) Stop
more_at one zero front bytes = Ok (front, bytes)
more_at one (suc count) front bytes = one front bytes >>= λ x. more_at one count (front ++ x.0 ∷ []) x.1

-- a literal was defined before
abbrev pub is_in : List ℕ → ℕ → Bool
is_in defined literal = list_any (λ other. other == literal) defined

-- no even literal of a variable from 1 to the highest
abbrev pub is_out : ℕ → ℕ → Bool
is_out top literal = nat_lt (2 * top + 1) literal || literal % 2 == 1 || nat_lt literal 2

-- there is a line
abbrev pub start_at : List ℕ → Result (List ℕ) Stop
start_at bytes = if length bytes == 0 then Err (fault why.Truncated []) else Ok bytes

-- a literal that is defined here: even, in range, and not defined before
unfoldable pub definition_at : ℕ → List ℕ → List ℕ → Result (ℕ × List ℕ) Stop
definition_at top defined bytes = do
  x ← number_at bytes
  y ← (if is_out top x.0 then Err (fault (why.Range x.0) bytes) else Ok x)
  if is_in defined y.0 then Err (fault (why.Defined y.0) bytes) else Ok (y.0, y.1)

-- a literal that is used here, with its place
unfoldable pub use_at : ℕ → List ℕ → Result (Used × List ℕ) Stop
use_at top bytes = do
  x ← number_at bytes
  if nat_lt (2 * top + 1) x.0 then Err (fault (why.Range x.0) bytes) else Ok (record { literal = x.0; left = length bytes }, x.1)

-- the one space between two fields
abbrev pub gap_at : List ℕ → Result (List ℕ) Stop
gap_at [] = Err (fault why.Number [])
gap_at (byte ∷ bytes) = if byte == 32 then Ok bytes else Err (fault why.Number (byte ∷ bytes))

-- the line of an input
unfoldable pub input_at : ℕ → List ℕ → List ℕ → Result (ℕ × List ℕ) Stop
input_at top defined bytes = do
  line ← start_at bytes
  x ← definition_at top defined line
  behind ← line_end_at x.1
  Ok (x.0, behind)

-- the line of an output
unfoldable pub output_at : ℕ → List ℕ → Result (Used × List ℕ) Stop
output_at top bytes = do
  line ← start_at bytes
  x ← use_at top line
  behind ← line_end_at x.1
  Ok (x.0, behind)

-- the line of an AND
unfoldable pub and_line_at : ℕ → List ℕ → List ℕ → Result (Line × List ℕ) Stop
and_line_at top defined bytes = do
  line ← start_at bytes
  lhs ← definition_at top defined line
  one ← gap_at lhs.1
  rhs0 ← use_at top one
  two ← gap_at rhs0.1
  rhs1 ← use_at top two
  behind ← line_end_at rhs1.1
  Ok (record { lhs = lhs.0; rhs0 = rhs0.0; rhs1 = rhs1.0 }, behind)

-- the literals that lines define
abbrev pub lhs_of : List Line → List ℕ
lhs_of lines = map (λ line. line.lhs) lines

-- Marks of the variables of literals, up to the highest.
pub record AreMarks (top : ℕ) (literals : List ℕ) (marks : List Bool) : Type 0 where
  pub size : length marks ≡ top + 1
  pub each : (variable : ℕ) (mark : Bool) → slice_get marks variable ≡ Some mark → mark ≡ is_in literals (2 * variable)
