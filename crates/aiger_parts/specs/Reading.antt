-- Reading from the left: a value and the bytes behind it, or the first fault.
use Rattle.std.specs.Prelude.{◌≡◌, ℕ, zero, suc, ◌+◌, ◌-◌, ◌*◌, ◌^◌, ◌==◌, ◌||◌, ◌&&◌, nat_lt, Bool, true, false, cond, List, [], ◌∷◌, length, take, drop, Option, Some, None, Result, Ok, Err, if◌then◌else◌}
use Rattle.std.specs.Char.{is_ascii_digit}
use Rattle.aiger_parts.specs.declared.fault.AigerWhy.{AigerWhy}
use Rattle.aiger_parts.specs.declared.fault.AigerWhy.TheVariants as why
use Rattle.aiger_parts.specs.declared.fault.AigerFault.{AigerFault}
use Rattle.aiger_parts.specs.declared.fault.Stop.{Stop}
use Rattle.aiger_parts.specs.declared.fault.ReadStop.{ReadStop}
use Rattle.aiger_parts.specs.declared.fault.ReadStop.TheVariants as stop
use Rattle.golden_aig.specs.declared.graph.And.{And}

infixl 10 ◌>>=◌
abbrev pub ◌>>=◌ : {A B : Type 0} → Result A Stop → (A → Result B Stop) → Result B Stop
(Ok x) >>= f = f x
(Err e) >>= f = Err e

-- What a reader returned, seen by view, is what reading gives, unless memory ran out.
abbrev pub Fails : {Y : Type 0} → ReadStop → Result Y Stop → Type 0
Fails stop.Memory read = Unit {0}
Fails (stop.At fault) read = read ≡ Err fault

abbrev pub Gives : {X Y : Type 0} → (X → Y) → Result X ReadStop → Result Y Stop → Type 0
Gives view (Ok x) read = read ≡ Ok (view x)
Gives view (Err e) read = Fails e read

-- the fault of a file of so many bytes in which a reader stopped, by the bytes that are left there
abbrev pub IsFaultOf : ℕ → ReadStop → AigerFault → Type 0
IsFaultOf count stop.Memory fault = fault.why ≡ why.Memory
IsFaultOf count (stop.At at) fault = (fault.why ≡ at.why) × (fault.offset ≡ count - at.left)

-- a fault where these bytes are left
abbrev pub fault : AigerWhy → List ℕ → Stop
fault why bytes = record { left = length bytes; why = why }

-- ---- numbers in digits

-- one more digit behind a number, where that stays below 2^32
abbrev pub with_digit : ℕ → ℕ → Option ℕ
with_digit value byte = if is_ascii_digit byte && nat_lt (value * 10 + (byte - 48)) (2 ^ 32) then Some (value * 10 + (byte - 48)) else None

abbrev pub number_from : Option ℕ → List ℕ → Option ℕ
number_from None bytes = None
number_from (Some value) [] = Some value
number_from (Some value) (byte ∷ bytes) = number_from (with_digit value byte) bytes

-- the number that a field writes
unfoldable pub number_of : List ℕ → Option ℕ
number_of [] = None
number_of (byte ∷ bytes) = number_from (Some 0) (byte ∷ bytes)

-- a field ends before a space or a newline
abbrev pub ends_field : ℕ → Bool
ends_field byte = byte == 32 || byte == 10

-- how long a field is, up to a space, a newline or the end
abbrev pub field_length : List ℕ → ℕ
field_length [] = 0
field_length (byte ∷ bytes) = cond (ends_field byte) 0 (1 + field_length bytes)

abbrev pub number_or : List ℕ → ℕ → Option ℕ → Result (ℕ × List ℕ) Stop
number_or bytes end None = Err (fault why.Number bytes)
number_or bytes end (Some value) = Ok (value, drop end bytes)

-- the number that stands at the front, and the bytes behind its field
abbrev pub number_at : List ℕ → Result (ℕ × List ℕ) Stop
number_at bytes = number_or bytes (field_length bytes) (number_of (take (field_length bytes) bytes))

-- the same, and the bytes behind the space or newline
abbrev pub field_at : List ℕ → Result (ℕ × List ℕ) Stop
field_at bytes = number_at bytes >>= λ x. Ok (x.0, drop 1 x.1)

-- ---- lines of one literal

-- the bytes behind the end of a line
abbrev pub line_end_at : List ℕ → Result (List ℕ) Stop
line_end_at [] = Ok []
line_end_at (byte ∷ bytes) = if byte == 10 then Ok bytes else Err (fault why.Number (byte ∷ bytes))

unfoldable pub literal_at : ℕ → List ℕ → Result (ℕ × List ℕ) Stop
literal_at top bytes = if length bytes == 0 then Err (fault why.Truncated []) else do
  x ← number_at bytes
  behind ← (if nat_lt top x.0 then Err (fault (why.Range x.0) bytes) else line_end_at x.1)
  Ok (x.0, behind)

-- ---- differences of literals

abbrev pub with_low : ℕ → Option (ℕ × List ℕ) → Option (ℕ × List ℕ)
with_low byte None = None
with_low byte (Some x) = if nat_lt (byte - 128 + 128 * x.0) (2 ^ 32) then Some (byte - 128 + 128 * x.0, x.1) else None

-- The number in at most so many groups: each byte from 128 on has seven bits of it and is followed by the higher ones, a byte below 128 has the highest.
abbrev pub groups_at : ℕ → List ℕ → Option (ℕ × List ℕ)
groups_at zero bytes = None
groups_at (suc most) [] = None
groups_at (suc most) (byte ∷ bytes) = cond (nat_lt byte 128) (Some (byte, bytes)) (with_low byte (groups_at most bytes))

-- the bytes end before the last of at most so many groups
abbrev pub is_cut : ℕ → List ℕ → Bool
is_cut zero bytes = false
is_cut (suc most) [] = true
is_cut (suc most) (byte ∷ bytes) = cond (nat_lt byte 128) false (is_cut most bytes)

abbrev pub difference_or : List ℕ → Option (ℕ × List ℕ) → Result (ℕ × List ℕ) Stop
difference_or bytes None = Err (fault why.Number bytes)
difference_or bytes (Some x) = Ok x

unfoldable pub difference_at : List ℕ → Result (ℕ × List ℕ) Stop
difference_at bytes = if is_cut 5 bytes then Err (fault why.Truncated []) else difference_or bytes (groups_at 5 bytes)

-- an AND of a literal: the difference from it to the one operand, at least 1, and from there to the other
unfoldable pub and_at : ℕ → List ℕ → Result (And × List ℕ) Stop
and_at lhs bytes = do
  first ← difference_at bytes
  second ← (if first.0 == 0 || nat_lt lhs first.0 then Err (fault why.Order bytes) else difference_at first.1)
  if nat_lt (lhs - first.0) second.0 then Err (fault why.Order first.1) else Ok (record { lhs = lhs; rhs0 = lhs - first.0; rhs1 = lhs - first.0 - second.0 }, second.1)

-- ---- many of one kind

-- so many of one kind, where each may depend on its place
unfoldable pub many_at : {A : Type 0} → (ℕ → List ℕ → Result (A × List ℕ) Stop) → ℕ → ℕ → List ℕ → Result (List A × List ℕ) Stop
many_at one place zero bytes = Ok ([], bytes)
many_at one place (suc count) bytes = do
  first ← one place bytes
  others ← many_at one (place + 1) count first.1
  Ok (first.0 ∷ others.0, others.1)
