-- What Accepted means for the pulses of every run.
use Rattle.std.specs.Prelude.{◌≡◌, ℕ, ◌+◌, ◌<◌, List, [], length, slice_index_or}
use Rattle.std.specs.List.{All}
use Rattle.rsfq_ids.specs.declared.id.NetId.{NetId}
use Rattle.rsfq_ids.specs.declared.circuit.Strobe.{Strobe}
use Rattle.rsfq_ids.specs.declared.circuit.PortUse.TheVariants as port_use
use Rattle.rsfq_ids.specs.declared.circuit.Reader.TheVariants as reader
use Rattle.rsfq_ids.specs.Design.{Design}
use Rattle.rsfq_ids.specs.Circuit.{Reads}
use Rattle.rsfq_ids.specs.Bench.{IsUsed, IsWord, bit_of}
use Rattle.rsfq_ids.specs.Run.{Run, IsRunInAnyOrder, IsClean, times_of, stream_bit}
use Rattle.wire_timing.specs.declared.WireDepth.{WireDepth}

-- The line `depth OUTPUT D from INPUT` tells the truth of a run: for each word number j of the run, as far as clock pulse j + D
-- is one of the run, bit j + D of the stream of OUTPUT is the bit of word j at INPUT.
abbrev pub ShowsInput : Design → Run → WireDepth → Type 0
ShowsInput design run line =
    (strobe : Strobe) (net : NetId) → IsUsed design.bench line.output (port_use.Strobed strobe) → Reads design.flat (reader.Port line.output) net →
    (j : ℕ) → j < length run.words → j + line.depth < run.clocks →
    stream_bit strobe run.tick (j + line.depth) (times_of run.pulses net) ≡ bit_of design.bench line.source (slice_index_or run.words j [])

-- Every run, whatever its words, the number of its clock pulses, the delay of each of its pulses and the order in which the
-- pulses of a net are listed, is clean, and each line tells the truth of it.
abbrev pub EveryRunShows : Design → List WireDepth → Type 0
EveryRunShows design lines =
    (run : Run) → All (IsWord design.bench) run.words → IsRunInAnyOrder design run → IsClean design run × All (ShowsInput design run) lines
