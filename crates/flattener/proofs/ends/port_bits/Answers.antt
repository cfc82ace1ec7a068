use Rattle.std.proofs.Common.{◌∙◌, length, ap, arith}
use Rattle.flattener.specs.Ends.{bits_of_port}
use Rattle.flattener.proofs.Lists.{flat_end}
use Rattle.flattener.proofs.Listing.{bits_of_port_length, port_bits_same, room_of_next}
use Rattle.flattener.proofs.ends.port_bits.Goals as goal

pub push_port_bits-requires-clause-room : goal.push_port_bits-requires-clause-room
push_port_bits-requires-clause-room c =
    let port = c.port-item.result in
    let next = room_of_next bits_of_port c.args.ports.now c.loop-port.port-index port c.loop-port.bits _ c.loop-port-test.true c.loop-port.invariant in
    let is = ap (λ p. length (bits_of_port p)) c.port-item.is in
    let width = bits_of_port_length port in
    let whole = ap length (port_bits_same c.args.ports.now) in
    omega (arith, next, is, width, whole)

pub returns : goal.returns
returns c = flat_end bits_of_port c.args.ports.now c.loop-port.port-index c.loop-port.bits _ (omega arith) c.loop-port.invariant ∙ port_bits_same c.args.ports.now
