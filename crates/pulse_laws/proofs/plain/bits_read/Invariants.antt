use Rattle.std.proofs.Common.{◌≡◌, ℕ, List, map, length}
use Rattle.rsfq_ids.specs.Circuit.{PinsRead}
use Rattle.rsfq_ids.specs.Value.{value_of}
use Rattle.pulse_laws.proofs.plain.bits_read.Given as goal

-- the bits so far are those of the nets that the pins so far read
abbrev pub invariant-loop-pin : goal.invariant-loop-pin
invariant-loop-pin l = record {
  count : length l.bits ≡ l.pin;
  read : (read : List ℕ) → PinsRead l.flat l.cell l.count read → (nets : List ℕ) × PinsRead l.flat l.cell l.pin nets × (l.bits ≡ map (value_of l.values) nets);
}
