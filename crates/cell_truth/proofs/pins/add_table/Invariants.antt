use Rattle.std.proofs.Common.{◌≡◌, length, take}
use Rattle.cell_truth.proofs.pins.add_table.Given as goal

abbrev pub invariant-loop-place : goal.invariant-loop-place
invariant-loop-place g l = record {
  many : length l.literals ≡ length l.inputs;
  copied : take l.place l.literals ≡ take l.place l.inputs;
}
