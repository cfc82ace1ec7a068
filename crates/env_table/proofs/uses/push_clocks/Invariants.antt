use Rattle.std.proofs.Common.{◌≡◌, ◌++◌, take}
use Rattle.env_table.specs.Binding.{clocks_as}
use Rattle.rsfq_ids.specs.declared.circuit.PortUse.TheVariants as port_use
use Rattle.env_table.proofs.uses.push_clocks.Given as goal

abbrev pub invariant-loop-bit : goal.invariant-loop-bit
invariant-loop-bit l = l.clocks.items ≡ l.initial.clocks.items ++ clocks_as port_use.Clock l.jitter (take l.bit-index l.bits)
