use Rattle.std.proofs.Common.{◌≡◌, take, true}
use Rattle.std.specs.List.{list_all}
use Rattle.env_table.specs.Binding.{fits_direction, is_output}
use Rattle.env_table.proofs.uses.all_fit.Given as goal

abbrev pub invariant-loop-bit : goal.invariant-loop-bit
invariant-loop-bit l = list_all (λ bit. fits_direction l.used (is_output l.ports bit)) (take l.bit-index l.bits) ≡ true
