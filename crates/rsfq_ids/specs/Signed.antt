-- What a signed-off circuit promises of every run.
use Rattle.std.specs.Prelude.{ℕ, ◌+◌, ◌<◌, Bool, List, [], length, slice_index_or}
use Rattle.std.specs.List.{All, Contains}
use Rattle.rsfq_ids.specs.declared.id.NetId.{NetId}
use Rattle.rsfq_ids.specs.declared.id.PortId.{PortId}
use Rattle.rsfq_ids.specs.declared.circuit.Bench.{Bench}
use Rattle.rsfq_ids.specs.declared.circuit.Strobe.{Strobe}
use Rattle.rsfq_ids.specs.declared.circuit.PortUse.TheVariants as port_use
use Rattle.rsfq_ids.specs.declared.circuit.Reader.TheVariants as reader
use Rattle.rsfq_ids.specs.Circuit.{Reads}
use Rattle.rsfq_ids.specs.Bench.{IsUsed, IsWord}
use Rattle.rsfq_ids.specs.Run.{Run, IsRun, IsClean, times_of, stream_bit}
use Rattle.rsfq_ids.specs.Design.{Design}

-- From its depth on, the stream of each output is what is wanted of the words: bit j + depth is that of word j.
abbrev pub StreamsAreWanted : Design → (List Bool → PortId → Bool → Type 0) → List (PortId × ℕ) → Run → Type 0
StreamsAreWanted design Wanted depths run =
    (port : PortId) (depth : ℕ) (strobe : Strobe) (net : NetId) (j : ℕ) → Contains depths (port, depth) → IsUsed design.bench port (port_use.Strobed strobe) → Reads design.flat (reader.Port port) net →
    j < length run.words → j + depth < run.clocks →
    Wanted (slice_index_or run.words j []) port (stream_bit strobe run.tick (j + depth) (times_of run.pulses net))

-- each output has a depth in the list
abbrev pub HasAllDepths : Bench → List (PortId × ℕ) → Type 0
HasAllDepths bench depths = (port : PortId) (strobe : Strobe) → IsUsed bench port (port_use.Strobed strobe) → (depth : ℕ) × Contains depths (port, depth)

-- A design is signed off with these depths where, for every list of words, every number of clock pulses and every run, the run is clean and the streams are as wanted. The run chooses every delay of every pulse.
pub record IsSigned (design : Design) (Wanted : List Bool → PortId → Bool → Type 0) (depths : List (PortId × ℕ)) : Type 0 where
  pub all : HasAllDepths design.bench depths
  pub runs : (run : Run) → All (IsWord design.bench) run.words → IsRun design run →
      IsClean design run × StreamsAreWanted design Wanted depths run
