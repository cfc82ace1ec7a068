-- Runs of a circuit as lists of pulse times, one list for each net; when a run is clean, and what an output reads.
--
-- The lists of `IsRun` stand in one order: a data input's in word order, a clock net's in the order of the clock's pulses, and
-- every other in the order of the lists that its pulses come from, so that a place in a list tells the cause of its pulse.
-- That order has no meaning of its own: `IsRunInAnyOrder` drops it, and neither `IsClean` nor `stream_bit` asks for it.
use Rattle.std.specs.Prelude.{◌≡◌, ℕ, zero, suc, ◌+◌, ◌*◌, ◌<◌, Bool, true, false, ◌&&◌, not, cond, ℤ, pos, ◌-ℤ◌, int_le, int_lt, List, [], ◌∷◌, map, length, slice_index_or, nat_eq, IsPermutation}
use Rattle.std.specs.Int.{bit_at}
use Rattle.std.specs.List.{All, AllPairs, AllZip, list_any, filter, flat_map, range_with_len}
use Rattle.rsfq_ids.specs.declared.id.NetId.{NetId}
use Rattle.rsfq_ids.specs.declared.id.CellId.{CellId}
use Rattle.rsfq_ids.specs.declared.id.PortId.{PortId}
use Rattle.rsfq_ids.specs.declared.table.CellRow.{CellRow}
use Rattle.rsfq_ids.specs.declared.table.Kind.{Kind}
use Rattle.rsfq_ids.specs.declared.table.Kind.TheVariants as kind
use Rattle.rsfq_ids.specs.declared.circuit.Flat.{Flat}
use Rattle.rsfq_ids.specs.declared.circuit.Bench.{Bench}
use Rattle.rsfq_ids.specs.declared.circuit.Strobe.{Strobe}
use Rattle.rsfq_ids.specs.declared.circuit.PortUse.{PortUse}
use Rattle.rsfq_ids.specs.declared.circuit.PortUse.TheVariants as port_use
use Rattle.rsfq_ids.specs.declared.circuit.Driver.{Driver}
use Rattle.rsfq_ids.specs.declared.circuit.Driver.TheVariants as driver
use Rattle.rsfq_ids.specs.declared.circuit.Reader.TheVariants as reader
use Rattle.rsfq_ids.specs.Time.{IsWithin, Follow, IsNear, IsInZone}
use Rattle.rsfq_ids.specs.Circuit.{IsDrivenBy, Reads, IsOf, InputNets, is_gate, clock_pin}
use Rattle.rsfq_ids.specs.Bench.{IsUsed, ones, AreTicks, strobe_time}
use Rattle.rsfq_ids.specs.Design.{Design}

-- What a run is about: its words, one bit for each data input; the number of its clock pulses; the times of the ticks of the source clock; and for each net the times of its pulses, all in femtoseconds.
pub record Run : Type 0 where
  pub words : List (List Bool)
  pub clocks : ℕ
  pub tick : ℕ → ℤ
  pub pulses : List (List ℤ)

-- the times of the pulses on a net
abbrev pub times_of : List (List ℤ) → NetId → List ℤ
times_of pulses net = slice_index_or pulses net []

-- A data pin is present at a clock entry where a pulse came not later than it, and no clock entry came from that pulse on and before it.
abbrev pub is_present : List ℤ → List ℤ → ℤ → Bool
is_present arrived clock at = list_any (λ t. int_le t at && not (list_any (λ b. int_le t b && int_lt b at) clock)) arrived

-- the number of a row of a truth table, the first input being bit 0
abbrev pub row_number : List Bool → ℕ
row_number [] = 0
row_number (bit ∷ bits) = cond bit 1 0 + 2 * row_number bits

-- what an output of a gate is at these bits
abbrev pub truth_at : CellRow → ℕ → List Bool → Bool
truth_at row out bits = nat_eq (bit_at row.truth (row_number bits)) 1

-- the bits that a gate with these data nets has at a clock entry
abbrev pub bits_at : List (List ℤ) → List NetId → NetId → ℤ → List Bool
bits_at pulses nets clock at = map (λ net. is_present (times_of pulses net) (times_of pulses clock) at) nets

-- the clock entries at which the output of a gate is 1
abbrev pub firings : CellRow → ℕ → List (List ℤ) → List NetId → NetId → List ℤ
firings row out pulses nets clock = filter (λ at. truth_at row out (bits_at pulses nets clock at)) (times_of pulses clock)

-- What comes out of a cell: at a gate a pulse for each clock entry at which its output is 1, at any other cell one for each pulse on its inputs.
abbrev pub ComesOut : Kind → CellRow → Flat → CellId → ℕ → List (List ℤ) → List NetId → List ℤ → Type 0
ComesOut kind.Gate row flat cell out pulses nets times = (clock : NetId) × Reads flat (reader.Pin cell (clock_pin row)) clock × Follow row.low row.high (firings row out pulses nets clock) times
ComesOut kind.Jtl row flat cell out pulses nets times = Follow row.low row.high (flat_map (times_of pulses) nets) times
ComesOut kind.Split row flat cell out pulses nets times = Follow row.low row.high (flat_map (times_of pulses) nets) times
ComesOut kind.Merge row flat cell out pulses nets times = Follow row.low row.high (flat_map (times_of pulses) nets) times

-- the numbers of the pulses at a port bit: at the clock all below the number of clock pulses, at a data input those of the words with a 1
abbrev pub numbers_of : PortUse → Bench → PortId → Run → List ℕ
numbers_of port_use.Clock bench port run = range_with_len 0 run.clocks
numbers_of (port_use.Arrival low high) bench port run = ones bench port run.words
numbers_of (port_use.Strobed strobe) bench port run = []

-- a delay behind its tick that the bench allows at a port bit
abbrev pub IsPortDelay : Bench → PortUse → ℤ → Type 0
IsPortDelay bench port_use.Clock delay = IsWithin (pos 0) bench.jitter delay
IsPortDelay bench (port_use.Arrival low high) delay = IsWithin low high delay
IsPortDelay bench (port_use.Strobed strobe) delay = ⊥

-- What comes in at a port bit: one pulse for each number, behind its tick.
abbrev pub ComesIn : PortUse → Bench → PortId → Run → List ℤ → Type 0
ComesIn used bench port run times = AllZip (λ number pulse. IsPortDelay bench used (pulse -ℤ run.tick number)) (numbers_of used bench port run) times

-- what the driver of a net sends
abbrev pub Sends : Design → Run → Driver → List ℤ → Type 0
Sends design run (driver.Port port) times = (used : PortUse) × IsUsed design.bench port used × ComesIn used design.bench port run times
Sends design run (driver.Out cell out) times = (row : CellRow) × (nets : List NetId) × IsOf design cell row × InputNets design.flat cell row nets × ComesOut row.kind row design.flat cell out run.pulses nets times

-- A run of a design: the ticks are those of the source clock, and each net has the pulses that its driver sends.
pub record IsRun (design : Design) (run : Run) : Type 0 where
  pub ticks : AreTicks design.bench run.tick
  pub nets : length run.pulses ≡ length design.flat.nets
  pub sent : (net : NetId) (driver : Driver) → IsDrivenBy design.flat net driver → Sends design run driver (times_of run.pulses net)

-- The same pulses, net by net, as those of a run in its one order. On a clock net too only the pulses count: one that starts late may be overtaken by the next on its way to a cell that is no gate.
pub record IsRunInAnyOrder (design : Design) (run : Run) : Type 0 where
  pub ordered : List (List ℤ)
  pub is_run : IsRun design (record { words = run.words; clocks = run.clocks; tick = run.tick; pulses = ordered })
  pub same : (net : NetId) → IsPermutation (times_of ordered net) (times_of run.pulses net)
  pub nets : length run.pulses ≡ length ordered

-- two pulses of a list are at least so far apart, whichever two
abbrev pub AreApart : ℤ → List ℤ → Type 0
AreApart dead times = AllPairs (λ first second. ¬ IsNear dead first second) times

-- no pulse is in the zone
abbrev pub AvoidZone : ℤ → ℤ → ℤ → List ℤ → Type 0
AvoidZone setup hold at times = All (λ time. ¬ IsInZone setup hold at time) times

-- no two pulses at the inputs of a cell that is no gate are too near
abbrev pub ArePassivesClean : Design → Run → Type 0
ArePassivesClean design run = (cell : CellId) (row : CellRow) (nets : List NetId) → IsOf design cell row → is_gate row.kind ≡ false → InputNets design.flat cell row nets →
    AreApart row.dead (flat_map (times_of run.pulses) nets)

-- no two clock pulses of a gate are too near
abbrev pub AreClocksClean : Design → Run → Type 0
AreClocksClean design run = (cell : CellId) (row : CellRow) (clock : NetId) → IsOf design cell row → is_gate row.kind ≡ true → Reads design.flat (reader.Pin cell (clock_pin row)) clock →
    AreApart row.dead (times_of run.pulses clock)

-- no data pulse of a gate is in the zone around a clock pulse
abbrev pub AreWindowsClean : Design → Run → Type 0
AreWindowsClean design run = (cell : CellId) (row : CellRow) (pin : ℕ) (net clock : NetId) → IsOf design cell row → is_gate row.kind ≡ true → pin < length row.inputs →
    Reads design.flat (reader.Pin cell pin) net → Reads design.flat (reader.Pin cell (clock_pin row)) clock →
    All (λ at. AvoidZone row.setup row.hold at (times_of run.pulses net)) (times_of run.pulses clock)

-- no pulse at an output is in the zone around a strobe, of any number from 0 on
abbrev pub AreStrobesClean : Design → Run → Type 0
AreStrobesClean design run = (port : PortId) (strobe : Strobe) (net : NetId) → IsUsed design.bench port (port_use.Strobed strobe) → Reads design.flat (reader.Port port) net →
    (k : ℕ) → AvoidZone strobe.setup strobe.hold (strobe_time strobe run.tick k) (times_of run.pulses net)

-- A clean run: no two pulses are too near at a passive cell or at a gate's clock pin, and none is in a zone at a gate's data pin or at an output.
pub record IsClean (design : Design) (run : Run) : Type 0 where
  pub passives : ArePassivesClean design run
  pub clocks : AreClocksClean design run
  pub windows : AreWindowsClean design run
  pub strobes : AreStrobesClean design run

-- whether a time is later than the strobe before strobe k, if there is one
abbrev pub is_after_last : Strobe → (ℕ → ℤ) → ℕ → ℤ → Bool
is_after_last strobe tick zero time = true
is_after_last strobe tick (suc k) time = int_lt (strobe_time strobe tick k) time

-- Bit k of an output's stream: a pulse came after the strobe before, and not after strobe k.
abbrev pub stream_bit : Strobe → (ℕ → ℤ) → ℕ → List ℤ → Bool
stream_bit strobe tick k times = list_any (λ time. is_after_last strobe tick k time && int_le time (strobe_time strobe tick k)) times
