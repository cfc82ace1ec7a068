-- A gate's clock pin has as many pulses as the clock.
use Rattle.std.proofs.Common.{◌≡◌, ℕ, true, ◌∷◌, length}
use Rattle.rsfq_ids.specs.declared.table.CellRow.{CellRow}
use Rattle.rsfq_ids.specs.declared.circuit.Reader.TheVariants as reader
use Rattle.rsfq_ids.specs.declared.offence.PathArc.TheVariants as arc
use Rattle.rsfq_ids.specs.Circuit.{Reads, IsOf, is_gate, clock_pin}
use Rattle.rsfq_ids.specs.Run.{Run, IsRun, times_of}
use Rattle.pulse_laws.proofs.ClockLength.{clock_length}
use Rattle.pulse_laws.proofs.Lanes.{on_clock_pin, is_clock_route}
use Rattle.pulse_laws.proofs.Bits.{fits}
use Rattle.pulse_laws.proofs.Depths.{lane_at}
use Rattle.rsfq_ids.specs.Design.{Design}
use Rattle.rsfq_ids.specs.Ready.{IsReady}

module _ (design : Design) (run : Run) (rank : ℕ → ℕ) (ready : IsReady design rank) (is_run : IsRun design run) where
  -- a gate's clock pin has as many pulses as the clock
  pub clock_entries : (cell clock : ℕ) (row : CellRow) → IsOf design cell row → is_gate row.kind ≡ true → Reads design.flat (reader.Pin cell (clock_pin row)) clock → length (times_of run.pulses clock) ≡ run.clocks
  clock_entries cell clock row of gate reads =
      let c = lane_at design rank ready (reader.Pin cell (clock_pin row)) clock reads in
      let clean = on_clock_pin design ready.one_clock ready.data_on_clock cell row clock of gate reads c in
      clock_length design run ready.numbered (fits design run rank ready is_run) ready.clock_used is_run (arc.Port c.port ∷ c.arcs) clock (is_clock_route design clock c clean.0 clean.2)
