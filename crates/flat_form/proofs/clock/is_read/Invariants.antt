use Rattle.std.proofs.Common.{ℕ, ◌<◌}
use Rattle.rsfq_ids.specs.declared.circuit.Reader.{Reader}
use Rattle.rsfq_ids.specs.declared.circuit.Driver.TheVariants as driver
use Rattle.rsfq_ids.specs.Circuit.{IsPin, IsDrivenBy}
use Rattle.flat_form.proofs.clock.is_read.Given as goal

abbrev pub invariant-loop-pin : goal.invariant-loop-pin
invariant-loop-pin l = (pin : ℕ) → pin < l.pin-index → (net : ℕ) (by : Reader) → IsPin l.flat pin by net → ¬ IsDrivenBy l.flat net (driver.Port l.port)
