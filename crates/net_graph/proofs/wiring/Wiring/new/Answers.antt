use Rattle.std.proofs.Common.{ℕ, length, subst}
use Rattle.net_graph.specs.Wiring.{ArePortPins}
use Rattle.net_graph.proofs.Wired.{is_wiring}
use Rattle.net_graph.proofs.wiring.Wiring.new.Goals as goal

pub invariant_of-result : goal.invariant_of-result
invariant_of-result c = record {
  wiring = is_wiring c.args.table.now c.args.flat.now c.in_ok-readers.readers c.requires.table c.requires.flat c.in_ok-readers.ensures.ok;
  starts = c.in_ok-pins.ensures.starts;
  ports = subst (λ (n : ℕ). ArePortPins c.args.flat.now n (length c.args.flat.now.ports) c.in_ok-ports.ports.items) c.in_ok-pins.ensures.all_pins c.in_ok-ports.ensures;
  readers = c.in_ok-readers.ensures.ok;
}
