use Rattle.std.proofs.Common.{map}
use Rattle.csv.specs.Records.{fields_of}
use Rattle.env_table.specs.Said.{IsReadUpTo}
use Rattle.env_table.proofs.read.read_lines.Given as goal

abbrev pub invariant-loop-place : goal.invariant-loop-place
invariant-loop-place l = IsReadUpTo (map fields_of l.records) l.place l.so_far
