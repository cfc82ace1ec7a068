use Rattle.std.proofs.Common.{◌≡◌, Bool, cond, List, Some, ap, subst, arith}
use Rattle.std.specs.Prelude.{slice_get}
use Rattle.rsfq_ids.specs.declared.circuit.PortBit.{PortBit}
use Rattle.net_graph.specs.Wiring.{pins_of_port}
use Rattle.net_graph.proofs.Got.{read_at}
use Rattle.net_graph.proofs.Chunks.{counted_more}
use Rattle.net_graph.proofs.FirstPins.{port_pins_more}
use Rattle.net_graph.proofs.starts.find_port_pins.Goals as goal
use Rattle.net_graph.proofs.starts.find_port_pins.Goals.{then-port, else-port}

pub loop-port-preserved : goal.loop-port-preserved
loop-port-preserved c =
    let ports = c.as_slice-port-items.result.now in
    let n = c.loop-port.port-index in
    let is : slice_get ports n ≡ Some c.port-item.result = read_at ports n c.port-item.result c.loop-port-test.true c.port-item.is in
    let here : slice_get c.args.flat.now.ports n ≡ Some c.port-item.result = subst (λ (ps : List PortBit). slice_get ps n ≡ Some c.port-item.result) c.as_slice-port-items.ensures.value is in
    let more = counted_more pins_of_port c.args.flat.now.ports n c.port-item.result here in
    let places = port_pins_more c.args.flat.now c.args.first n c.loop-port.places.items c.push.new.self.items c.loop-port.pin c.loop-port.invariant.places c.in_ok-push.ensures.items c.loop-port.invariant.pin in
    elim c.if-port.branch [
      | then-port w ↦
          let b : pins_of_port c.port-item.result ≡ 1 = ap (λ (b : Bool). cond b 1 0) w.if-port.true in
          record { places = places; pin = omega (arith, w.pin-is, c.loop-port.invariant.pin, more, b); few = omega (arith, w.pin-is, c.loop-port.invariant.few) }
      | else-port w ↦
          let b : pins_of_port c.port-item.result ≡ 0 = ap (λ (b : Bool). cond b 1 0) w.if-port.false in
          record { places = places; pin = omega (arith, w.pin-is, c.loop-port.invariant.pin, more, b); few = omega (arith, w.pin-is, c.loop-port.invariant.few) }
    ]
