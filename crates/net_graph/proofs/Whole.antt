-- What stands in a well-formed circuit.
use Rattle.std.proofs.Common.{◌+◌, length}
use Rattle.rsfq_ids.specs.WellFormed.{reading_pins, output_pins}
use Rattle.net_graph.specs.Graph.{CircuitsAreWired}
use Rattle.net_graph.specs.Wiring.{counted, first_output, pins_of_port}
use Rattle.net_graph.proofs.Circuits.{numbered, one_pin, has_pin, pin_stands, has_output, net_stands, port_driver, port_net_at, port_reader, port_pin_at}
use Rattle.net_graph.proofs.InOrder.{in_order}

pub circuits_are_wired : CircuitsAreWired
circuits_are_wired table flat fit = record {
  numbered = numbered table flat fit;
  one_pin = one_pin table flat fit;
  pins = λ cell pin. (
    λ has. (let at = pin_stands table flat fit cell pin has in (at.0, (counted (reading_pins table) flat.cells cell + pin, at.1))),
    λ reads. has_pin table flat fit cell pin reads.0 reads.1,
  );
  outputs = λ cell out. (λ has. (first_output flat + counted (output_pins table) flat.cells cell + out, net_stands table flat fit cell out has), λ drives. has_output table flat fit drives.0 cell out drives.1);
  input_bits = λ port. (λ bit. port_net_at table flat fit port bit.0 bit.1 bit.2, λ drives. port_driver table flat fit drives.0 port drives.1);
  output_bits = λ port. (
    λ bit. (let at = port_pin_at table flat fit port bit.0 bit.1 bit.2 in (at.0, (counted (reading_pins table) flat.cells (length flat.cells) + counted pins_of_port flat.ports port, at.1))),
    λ reads. port_reader table flat fit reads.1.0 port reads.0 reads.1.1,
  );
  in_order = in_order table flat fit;
}
