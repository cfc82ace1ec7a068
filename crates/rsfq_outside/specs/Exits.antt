-- The numbers that a process ends with, one for each status.
use Rattle.std.specs.Prelude.{ℕ}
use Rattle.rsfq_outside.specs.declared.status.Status.{Status}
use Rattle.rsfq_outside.specs.declared.status.Status.TheVariants.{Accepted, Rejected, Words, Undecided, Refused, Fault, Memory}

-- 0 to 6, in the order of the statuses
abbrev pub exit_number : Status → ℕ
exit_number Accepted = 0
exit_number Rejected = 1
exit_number Words = 2
exit_number Undecided = 3
exit_number Refused = 4
exit_number Fault = 5
exit_number Memory = 6
