use Rattle.std.proofs.Common.{ℕ, ◌<◌}
use Rattle.rsfq_ids.specs.declared.circuit.Driver.{Driver}
use Rattle.rsfq_ids.specs.Circuit.{IsDrivenBy}
use Rattle.rsfq_ids.specs.Value.{Gives, value_of}
use Rattle.rsfq_ids.specs.Ready.{IsSetUp}
use Rattle.pulse_laws.proofs.plain.are_values.Given as goal

-- each net so far has the value that its driver gives
abbrev pub invariant-loop-i : goal.invariant-loop-i
invariant-loop-i l = IsSetUp (record { table = l.table; flat = l.flat; bench = l.bench }) → (net : ℕ) (driver : Driver) → net < l.i → IsDrivenBy l.flat net driver → Gives (record { table = l.table; flat = l.flat; bench = l.bench }) l.word l.values driver (value_of l.values net)
