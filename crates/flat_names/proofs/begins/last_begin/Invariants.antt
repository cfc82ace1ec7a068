use Rattle.std.proofs.Common.{◌-◌, ◌<◌, ◌≤◌, length, get_or}
use Rattle.flat_names.proofs.begins.last_begin.Given as goal

abbrev pub invariant-loop-high : goal.invariant-loop-high
invariant-loop-high l = record {
  order : l.low < l.high;
  there : l.high ≤ length l.begins;
  not_above : get_or l.begins l.low 0 ≤ l.number;
  next_above : l.high < length l.begins → l.number < get_or l.begins l.high 0;
}

abbrev pub decreases-loop-high : goal.decreases-loop-high
decreases-loop-high l = l.high - l.low
