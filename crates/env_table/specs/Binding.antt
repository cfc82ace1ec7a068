-- The bench that the lines of a timing table make of a circuit, and the first fault of lines that make none.
use Rattle.std.specs.Prelude.{◌≡◌, ◌≢◌, ℕ, ◌==◌, Bool, true, false, not, if◌then◌else◌, int_lt, ℤ, List, [], ◌∷◌, ◌++◌, length, map, slice_get, Option, Some, None, is_some, find}
use Rattle.std.specs.Option.{option_map, option_map_or}
use Rattle.std.specs.List.{flat_map, list_all, list_any, range_with_len, zip}
use Rattle.rsfq_ids.specs.declared.id.PortId.{PortId}
use Rattle.rsfq_ids.specs.declared.circuit.Bench.{Bench}
use Rattle.rsfq_ids.specs.declared.circuit.PortBit.{PortBit}
use Rattle.rsfq_ids.specs.declared.circuit.PortUse.{PortUse}
use Rattle.rsfq_ids.specs.declared.circuit.PortUse.TheVariants as port_use
use Rattle.env_table.specs.declared.env.Env.{Env}
use Rattle.env_table.specs.declared.env.EnvLine.{EnvLine}
use Rattle.env_table.specs.declared.fault.EnvFault.{EnvFault}
use Rattle.env_table.specs.declared.fault.EnvFault.TheVariants.{Direction, Memory, Missing, NoClock, Repeated, StrobeOutside, TwoClocks, Unknown}
use Rattle.env_table.specs.declared.uses.ClockBit.{ClockBit}
use Rattle.env_table.specs.Names.{bits_of}

-- the name of a line stands for a bit
abbrev pub names_bit : List PortBit → PortId → EnvLine → Bool
names_bit ports bit line = list_any (λ other. other == bit) (bits_of ports line.port)

-- the use of a bit: that of the first line that names it
abbrev pub use_of : List PortBit → List EnvLine → PortId → Option PortUse
use_of ports lines bit = option_map (λ line. line.used) (find (names_bit ports bit) lines)

-- the use of each port bit, in port order
abbrev pub uses_of : List PortBit → List EnvLine → List (Option PortUse)
uses_of ports lines = map (use_of ports lines) (range_with_len 0 (length ports))

-- the bits that a line names as clocks, with its jitter
abbrev pub clocks_as : PortUse → ℤ → List PortId → List ClockBit
clocks_as port_use.Clock jitter bits = map (λ bit. record { port = bit; jitter = jitter }) bits
clocks_as (port_use.Arrival low high) jitter bits = []
clocks_as (port_use.Strobed strobe) jitter bits = []

-- the bits that the lines name as clocks, in line order and in port order
abbrev pub clocks_of : List PortBit → List EnvLine → List ClockBit
clocks_of ports lines = flat_map (λ line. clocks_as line.used line.jitter (bits_of ports line.port)) lines

-- ---- the causes

-- a cause that stands unless a check passes
abbrev pub unless : Bool → EnvFault → Option EnvFault
unless passes why = if passes then None else Some why

-- the first cause that stands, if one does
unfoldable pub first_of : List (Option EnvFault) → Option EnvFault
first_of [] = None
first_of (None ∷ more) = first_of more
first_of (Some why ∷ more) = Some why

-- what is answered is the cause that stands, or want of memory
abbrev pub IsCause : Option EnvFault → EnvFault → Type 0
IsCause stands why = why ≢ Memory → stands ≡ Some why

-- the name stands for no bit
abbrev pub unknown_fault : List PortBit → EnvLine → Option EnvFault
unknown_fault ports line = unless (not (length (bits_of ports line.port) == 0)) (Unknown line.port)

-- a port of this direction may be used so
abbrev pub fits_direction : PortUse → Bool → Bool
fits_direction port_use.Clock output = not output
fits_direction (port_use.Arrival low high) output = not output
fits_direction (port_use.Strobed strobe) output = output

abbrev pub is_output : List PortBit → PortId → Bool
is_output ports bit = option_map_or (λ port. port.output) (slice_get ports bit) false

-- one of the bits has the other direction
abbrev pub direction_fault : List PortBit → EnvLine → Option EnvFault
direction_fault ports line = unless (list_all (λ bit. fits_direction line.used (is_output ports bit)) (bits_of ports line.port)) (Direction line.port)

-- an earlier line names one of the bits
abbrev pub repeated_fault : List PortBit → List EnvLine → EnvLine → Option EnvFault
repeated_fault ports earlier line = unless (not (list_any (λ bit. is_some (use_of ports earlier bit)) (bits_of ports line.port))) (Repeated line.port)

-- The first cause for which a line does not bind, where these are the lines before it.
abbrev pub bind_fault : List PortBit → List EnvLine → EnvLine → Option EnvFault
bind_fault ports earlier line = first_of (unknown_fault ports line ∷ direction_fault ports line ∷ repeated_fault ports earlier line ∷ [])

-- that of the first line that does not bind, behind lines that do
unfoldable pub lines_fault : List PortBit → List EnvLine → List EnvLine → Option EnvFault
lines_fault ports earlier [] = None
lines_fault ports earlier (line ∷ more) = first_of (bind_fault ports earlier line ∷ lines_fault ports (earlier ++ line ∷ []) more ∷ [])

-- the printed name of a bit
abbrev pub name_of : List PortBit → PortId → List ℕ
name_of ports bit = option_map_or (λ port. port.name) (slice_get ports bit) []

-- the lines name no clock, or several bits as clocks
abbrev pub clock_fault : List PortBit → List ClockBit → Option EnvFault
clock_fault ports [] = Some NoClock
clock_fault ports (clock ∷ []) = None
clock_fault ports (first ∷ second ∷ more) = Some (TwoClocks (name_of ports first.port) (name_of ports second.port))

-- the first port bit without a use
abbrev pub missing_fault : List PortBit → List (Option PortUse) → Option EnvFault
missing_fault ports uses = first_of (map (λ (port, used). unless (is_some used) (Missing port.name)) (zip ports uses))

-- a strobe lies within the period
abbrev pub is_within : ℤ → Option PortUse → Bool
is_within period None = true
is_within period (Some port_use.Clock) = true
is_within period (Some (port_use.Arrival low high)) = true
is_within period (Some (port_use.Strobed strobe)) = int_lt strobe.offset period

-- the first port bit whose strobe is not below the period
abbrev pub strobe_fault : ℤ → List PortBit → List (Option PortUse) → Option EnvFault
strobe_fault period ports uses = first_of (map (λ (port, used). unless (is_within period used) (StrobeOutside port.name)) (zip ports uses))

-- The first cause for which a timing table does not bind to port bits: line by line, and then over all bits.
abbrev pub env_fault : Env → List PortBit → Option EnvFault
env_fault env ports = first_of (
    lines_fault ports [] env.lines
    ∷ clock_fault ports (clocks_of ports env.lines)
    ∷ missing_fault ports (uses_of ports env.lines)
    ∷ strobe_fault env.period ports (uses_of ports env.lines)
    ∷ [])

-- ---- the bench

-- The bench of lines that bind: each port bit has the use that a line gives it, the one clock has the jitter of its line, and the period is the table's.
pub record IsBoundTo (env : Env) (ports : List PortBit) (bench : Bench) : Type 0 where
  pub uses : map Some bench.uses ≡ uses_of ports env.lines
  pub clock : clocks_of ports env.lines ≡ record { port = bench.clock; jitter = bench.jitter } ∷ []
  pub period : bench.period ≡ env.period
