-- What the fields of a wiring and of a graph hold.
use Rattle.std.specs.Prelude.{length}
use Rattle.net_graph.specs.declared.wiring.Wiring.TheInside.{Inside}
use Rattle.rsfq_ids.specs.WellFormed.{reading_pins}
use Rattle.net_graph.specs.Wiring.{Wired, IsWiring, AreStarts, ArePortPins, AreReaders, counted}

abbrev pub wired_of : Inside → Wired
wired_of a = record { table = a.table.now; flat = a.flat.now }

-- the circuit has a wiring, and the tables are its own
pub record IsWiredBy (a : Inside) : Type 0 where
  pub wiring : IsWiring (wired_of a)
  pub starts : AreStarts a.table.now a.flat.now (length a.flat.now.cells) a.pins.items a.nets.items
  pub ports : ArePortPins a.flat.now (counted (reading_pins a.table.now) a.flat.now.cells (length a.flat.now.cells)) (length a.flat.now.ports) a.ports.items
  pub readers : AreReaders a.flat.now (length a.flat.now.nets) a.readers
