use Rattle.std.proofs.Common.{◌≡◌, min, take, fold, false}
use Rattle.flat_places.specs.Hierarchy.{bits_of}
use Rattle.flat_places.specs.Rounds.{joined, kind_size}
use Rattle.flat_places.proofs.size.size_of_module.Given as goal

abbrev pub invariant-loop-instance : goal.invariant-loop-instance
invariant-loop-instance l =
    l.size ≡ fold (λ size instance. joined size (kind_size l.below instance.kind)) (record { deep = false; cells = 0; bits = min (bits_of l.owner.wires) 2000001 }) (take l.instance-index l.instance-items)
