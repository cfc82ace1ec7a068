use Rattle.std.proofs.Common.{ℕ, sym, subst, arith}
use Rattle.net_graph.specs.Graph.{IsPinOfPort}
use Rattle.net_graph.proofs.Wired.{port_pin_called}
use Rattle.net_graph.proofs.wiring.Wiring.port_pin.Goals as goal

pub overflow_cast-index : goal.overflow_cast-index
overflow_cast-index c =
    let found = port_pin_called c.args.self.now c.self.inside.table.now c.self.inside.flat.now c.self.inside.ports.items c.self.view_is c.self.invariant.wiring.flat_fits c.self.invariant.ports c.args.port c.index.result c.index-2.result.now c.index.ensures.number c.index-2.ensures c.requires in
    omega (arith, found.0, c.len-ends.ensures.len, c.len-ends.ensures.small)

pub returns : goal.returns
returns c =
    let found = port_pin_called c.args.self.now c.self.inside.table.now c.self.inside.flat.now c.self.inside.ports.items c.self.view_is c.self.invariant.wiring.flat_fits c.self.invariant.ports c.args.port c.index.result c.index-2.result.now c.index.ensures.number c.index-2.ensures c.requires in
    subst (λ (n : ℕ). IsPinOfPort c.args.self.now.flat n c.args.port) (sym c.of.ensures) found.1
