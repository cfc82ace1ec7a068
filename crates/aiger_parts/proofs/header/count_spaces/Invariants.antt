use Rattle.std.proofs.Common.{◌≡◌, ◌+◌, ◌≤◌, drop}
use Rattle.aiger_parts.specs.Header.{spaces_in}
use Rattle.aiger_parts.proofs.header.count_spaces.Given as goal

abbrev pub invariant-loop-byte : goal.invariant-loop-byte
invariant-loop-byte l = record {
  small : l.count ≤ l.byte-index;
  so_far : spaces_in l.bytes ≡ l.count + spaces_in (drop l.byte-index l.bytes);
}
