use Rattle.std.proofs.Common.{◌≡◌, ◌-◌, ◌++◌, map}
use Rattle.std.specs.List.{range_with_len}
use Rattle.flattener.specs.Ends.{port_bit}
use Rattle.flattener.proofs.ends.push_port_bits.Given as goal

abbrev pub invariant-loop-place : goal.invariant-loop-place
invariant-loop-place l = l.bits ≡ l.initial.bits ++ map (port_bit l.port) (range_with_len 0 (l.place - 0))
