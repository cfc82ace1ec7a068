use Rattle.std.proofs.Common.{◌≡◌, ◌*◌, ◌^◌, drop}
use Rattle.std.specs.Prelude.{pos, ◌+ℤ◌, ◌-ℤ◌, ◌≤ℤ◌}
use Rattle.rsfq_ids.specs.Time.{total}
use Rattle.signoff.proofs.text.total_delay.Given as goal

abbrev pub invariant-loop-delay : goal.invariant-loop-delay
invariant-loop-delay l = record {
  sum : (l.sum +ℤ total (drop l.delay-index l.delays)) ≡ total l.delays;
  from : (pos 0 -ℤ pos (2 ^ 63 * l.delay-index)) ≤ℤ l.sum;
  to : l.sum ≤ℤ pos (2 ^ 63 * l.delay-index);
}
