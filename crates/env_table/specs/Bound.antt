-- What the lines that are bound say of the port bits.
use Rattle.std.specs.Prelude.{◌≡◌, ℕ, ◌<◌, ◌==◌, not, true, ◌≤ℤ◌, List, ◌∷◌, [], length, slice_index_or, Option, Some, None, is_some, ⊤}
use Rattle.std.specs.List.{All, list_any}
use Rattle.rsfq_ids.specs.declared.circuit.PortBit.{PortBit}
use Rattle.rsfq_ids.specs.declared.circuit.PortUse.{PortUse}
use Rattle.rsfq_ids.specs.declared.circuit.PortUse.TheVariants as port_use
use Rattle.rsfq_ids.specs.WellFormed.{IsPositiveTime, IsTime}
use Rattle.env_table.specs.declared.env.EnvLine.{EnvLine}
use Rattle.env_table.specs.declared.fault.EnvFault.{EnvFault}
use Rattle.env_table.specs.declared.fault.EnvFault.TheVariants.{Repeated}
use Rattle.env_table.specs.declared.uses.ClockBit.{ClockBit}
use Rattle.env_table.specs.Names.{bits_of}
use Rattle.env_table.specs.Binding.{direction_fault, first_of, fits_direction, is_output, unknown_fault, unless}

-- one of the bits has a use
abbrev pub used_fault : List PortBit → List (Option PortUse) → EnvLine → Option EnvFault
used_fault ports uses line = unless (not (list_any (λ bit. is_some (slice_index_or uses bit None)) (bits_of ports line.port))) (Repeated line.port)

-- the first cause for which a line does not bind beside bits that have uses
abbrev pub line_fault_in : List PortBit → List (Option PortUse) → EnvLine → Option EnvFault
line_fault_in ports uses line = first_of (unknown_fault ports line ∷ direction_fault ports line ∷ used_fault ports uses line ∷ [])

-- the times of a use lie within their limits
abbrev pub HasTimes : PortUse → Type 0
HasTimes port_use.Clock = ⊤
HasTimes (port_use.Arrival low high) = IsTime low × IsTime high × (low ≤ℤ high)
HasTimes (port_use.Strobed strobe) = IsTime strobe.offset × IsPositiveTime strobe.setup × IsPositiveTime strobe.hold

-- Each use fits the direction of its bit and its times fit; the clocks are the bits that are used so.
pub record AreSound (ports : List PortBit) (uses : List (Option PortUse)) (clocks : List ClockBit) : Type 0 where
  pub count : length uses ≡ length ports
  pub directions : (bit : ℕ) (used : PortUse) → bit < length uses → slice_index_or uses bit None ≡ Some used → fits_direction used (is_output ports bit) ≡ true
  pub times : (bit : ℕ) (used : PortUse) → bit < length uses → slice_index_or uses bit None ≡ Some used → HasTimes used
  pub there : All (λ clock. clock.port < length uses) clocks
  pub clock_used : All (λ clock. slice_index_or uses clock.port None ≡ Some port_use.Clock) clocks
  pub jitter : All (λ clock. IsTime clock.jitter) clocks
  pub clock_named : (bit : ℕ) → bit < length uses → slice_index_or uses bit None ≡ Some port_use.Clock → list_any (λ clock. clock.port == bit) clocks ≡ true
