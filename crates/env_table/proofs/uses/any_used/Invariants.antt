use Rattle.std.proofs.Common.{◌≡◌, take, false, is_some, get_or, None}
use Rattle.std.specs.List.{list_any}
use Rattle.env_table.proofs.uses.any_used.Given as goal

abbrev pub invariant-loop-bit : goal.invariant-loop-bit
invariant-loop-bit l = list_any (λ bit. is_some (get_or l.uses bit None)) (take l.bit-index l.bits) ≡ false
