use Rattle.std.proofs.Common.{◌≡◌, ◌≤◌, ◌+◌}
use Rattle.net_graph.specs.Wiring.{counted, pins_of_port, ArePortPins}
use Rattle.net_graph.proofs.starts.find_port_pins.Given as goal

abbrev pub invariant-loop-port : goal.invariant-loop-port
invariant-loop-port l = record {
  places : ArePortPins l.flat l.first l.port-index l.places.items;
  pin : l.pin ≡ l.first + counted pins_of_port l.flat.ports l.port-index;
  few : l.pin ≤ l.first + l.port-index;
}
