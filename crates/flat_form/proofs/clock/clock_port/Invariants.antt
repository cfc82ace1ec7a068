use Rattle.std.proofs.Common.{ℕ, ◌<◌}
use Rattle.flat_form.specs.Form.{IsClockPort}
use Rattle.flat_form.proofs.clock.clock_port.Given as goal

abbrev pub invariant-loop-place : goal.invariant-loop-place
invariant-loop-place l = (port : ℕ) → port < l.place → ¬ IsClockPort l.flat port
