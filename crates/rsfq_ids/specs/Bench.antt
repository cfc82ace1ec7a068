-- How a circuit is driven and read: words, ticks and strobes.
use Rattle.std.specs.Prelude.{◌≡◌, ℕ, Bool, true, false, ℤ, pos, ◌+ℤ◌, ◌*ℤ◌, List, [], take, length, slice_get, slice_index_or, Some}
use Rattle.std.specs.List.{count_by, filter, range_with_len}
use Rattle.rsfq_ids.specs.declared.id.PortId.{PortId}
use Rattle.rsfq_ids.specs.declared.circuit.Bench.{Bench}
use Rattle.rsfq_ids.specs.declared.circuit.Strobe.{Strobe}
use Rattle.rsfq_ids.specs.declared.circuit.PortUse.{PortUse}
use Rattle.rsfq_ids.specs.declared.circuit.PortUse.TheVariants as port_use

-- a port bit is used so
abbrev pub IsUsed : Bench → PortId → PortUse → Type 0
IsUsed bench port used = slice_get bench.uses port ≡ Some used

-- a data input
abbrev pub is_data : PortUse → Bool
is_data port_use.Clock = false
is_data (port_use.Arrival low high) = true
is_data (port_use.Strobed strobe) = false

-- A word has one bit for each data input, in port order.
abbrev pub IsWord : Bench → List Bool → Type 0
IsWord bench word = length word ≡ count_by is_data bench.uses

-- the bit of a word at a data input
abbrev pub bit_of : Bench → PortId → List Bool → Bool
bit_of bench port word = slice_index_or word (count_by is_data (take port bench.uses)) false

-- the numbers of the words that have a 1 at a data input
abbrev pub ones : Bench → PortId → List (List Bool) → List ℕ
ones bench port words = filter (λ j. bit_of bench port (slice_index_or words j [])) (range_with_len 0 (length words))

-- the time of tick k of the source clock: k periods after tick 0, which is at time 0
abbrev pub tick_at : Bench → ℕ → ℤ
tick_at bench k = pos k *ℤ bench.period

-- The ticks of a run are those of the source clock.
abbrev pub AreTicks : Bench → (ℕ → ℤ) → Type 0
AreTicks bench tick = (k : ℕ) → tick k ≡ tick_at bench k

-- the time of strobe k: its offset behind tick k
abbrev pub strobe_time : Strobe → (ℕ → ℤ) → ℕ → ℤ
strobe_time strobe tick k = strobe.offset +ℤ tick k
