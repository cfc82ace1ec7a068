-- The places that a queue holds.
use Rattle.std.specs.Prelude.{ℕ, List}
use Rattle.std.specs.Ordering.{nat_cmp}
use Rattle.std.specs.BinaryHeap.{IsHeap, heap_items}
use Rattle.cdcl_core.specs.declared.queue.Queue.TheInside.{Inside}

abbrev pub places_of : Inside → List ℕ
places_of a = heap_items a.places

abbrev pub IsHeapOf : Inside → Type 0
IsHeapOf a = IsHeap nat_cmp (heap_items a.places)
