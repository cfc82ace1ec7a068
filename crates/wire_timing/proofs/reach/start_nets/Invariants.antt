use Rattle.std.proofs.Common.{◌≡◌, take}
use Rattle.std.specs.List.{AllZip}
use Rattle.wire_timing.specs.Reach.{StartsAt}
use Rattle.wire_timing.proofs.reach.start_nets.Given as goal

abbrev pub invariant-loop-driver : goal.invariant-loop-driver
invariant-loop-driver l = (l.driver-items ≡ l.flat.nets) × AllZip (StartsAt l.bench) (take l.driver-index l.driver-items) l.reached.items
