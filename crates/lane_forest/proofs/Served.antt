-- What growing finds in a design that is ready.
use Rattle.std.proofs.Common.{◌≡◌, ℕ, zero, suc, ◌<◌, ℤ, pos, List, [], ◌∷◌, length, refl, sym, ◌∙◌, arith}
use Rattle.std.proofs.lemmas.Option.{slice_get_within, option_and_then_some}
use Rattle.std.specs.Prelude.{Option, Some, None, slice_get}
use Rattle.rsfq_ids.specs.declared.circuit.FlatCell.{FlatCell}
use Rattle.rsfq_ids.specs.declared.circuit.PortUse.TheVariants as port_use
use Rattle.rsfq_ids.specs.declared.circuit.PortBit.{PortBit}
use Rattle.rsfq_ids.specs.declared.circuit.Driver.TheVariants as driver
use Rattle.rsfq_ids.specs.declared.offence.PathArc.TheVariants as arc
use Rattle.rsfq_ids.specs.Design.{Design}
use Rattle.rsfq_ids.specs.Bench.{IsUsed}
use Rattle.rsfq_ids.specs.Circuit.{IsDrivenBy}
use Rattle.rsfq_ids.specs.WellFormed.{IsBench}
use Rattle.lane_forest.specs.Growth.{HasDelayRange, HasReadyRank}
use Rattle.lane_forest.proofs.Casts.{kept}
use Rattle.lane_forest.proofs.Nodes.{clock_interval, arrival_interval, interval_kept}

past : {X : Type 0} (xs : List X) (i : ℕ) → slice_get xs i ≡ None → i < length xs → ⊥
past [] i e l = omega arith
past (x ∷ xs) zero e l = cc
past (x ∷ xs) (suc i) e l = past xs i e (omega arith)

module _ (design : Design) (ordered : HasReadyRank design) where
  -- a port that drives a net has a use
  pub port_used : (net port : ℕ) → IsDrivenBy design.flat net (driver.Port port) → slice_get design.bench.uses port ≡ None → ⊥
  port_used net port driven none = let used = ordered.1.complete net (driver.Port port) driven in let e : Some used.0 ≡ None = sym used.1 ∙ none in cc

  -- the cell of an output is there
  pub cell_there : (net cell out : ℕ) → IsDrivenBy design.flat net (driver.Out cell out) → cell < length design.flat.cells
  cell_there net cell out driven =
      let has = ordered.1.complete net (driver.Out cell out) driven in
      option_and_then_some (λ (c : FlatCell). slice_get design.table.rows c.row) (slice_get design.flat.cells cell) has.0 has.2 (λ c is row. slice_get_within design.flat.cells cell c is)

  from_bit : IsBench design.flat design.bench → (port : ℕ) (low high : ℤ) → IsUsed design.bench port (port_use.Arrival low high) → (o : Option PortBit) → slice_get design.flat.ports port ≡ o → HasDelayRange design (arc.Port port) (record { low = kept low; high = kept high })
  from_bit bench port low high is None e = let l = slice_get_within design.bench.uses port (port_use.Arrival low high) is in let n = bench.ports in absurd (past design.flat.ports port e (omega arith))
  from_bit bench port low high is (Some bit) e = let fits = bench.uses port bit (port_use.Arrival low high) e is in interval_kept design (arc.Port port) low high (arrival_interval design port low high is fits.2 fits.3 fits.4)

  pub used_interval : IsBench design.flat design.bench → (port : ℕ) (low high : ℤ) → IsUsed design.bench port (port_use.Arrival low high) → HasDelayRange design (arc.Port port) (record { low = kept low; high = kept high })
  used_interval bench port low high is = from_bit bench port low high is (slice_get design.flat.ports port) refl

  pub clock_used : (port : ℕ) → IsUsed design.bench port port_use.Clock → HasDelayRange design (arc.Port port) (record { low = kept (pos 0); high = kept design.bench.jitter })
  clock_used port is = interval_kept design (arc.Port port) (pos 0) design.bench.jitter (clock_interval design port is ordered.1.jitter)
