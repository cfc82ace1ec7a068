use Rattle.std.proofs.Common.{◌≡◌, ◌<◌, ◌==◌, ℕ, if◌then◌else◌, take, length, get_or, None, Some}
use Rattle.std.specs.List.{list_any}
use Rattle.env_table.proofs.uses.set_uses.Given as goal

abbrev pub invariant-loop-bit : goal.invariant-loop-bit
invariant-loop-bit l = (place : ℕ) → place < length l.initial.uses → get_or l.uses place None ≡ (if list_any (λ bit. bit == place) (take l.bit-index l.bits) then Some l.used else get_or l.initial.uses place None)
