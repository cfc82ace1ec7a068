use Rattle.std.proofs.Common.{◌≡◌, ◌++◌, replicate}
use Rattle.bind_kinds.proofs.sited.add_times.Given as goal

abbrev pub invariant-loop-place : goal.invariant-loop-place
invariant-loop-place l = l.meanings ≡ l.initial.meanings ++ replicate l._place l.meaning
