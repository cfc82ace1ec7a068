use Rattle.std.proofs.Common.{◌≡◌, take, map}
use Rattle.flat_form.specs.Bench.{use_of}
use Rattle.flat_form.proofs.bench.uses_of.Given as goal

abbrev pub invariant-loop-port : goal.invariant-loop-port
invariant-loop-port l = l.uses ≡ map (use_of l.low l.high) (take l.port-index l.ports)
