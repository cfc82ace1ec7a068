use Rattle.std.proofs.Common.{◌≡◌, ◌∙◌, ◌<◌, List, length, sym, subst, arith, None, Some}
use Rattle.std.proofs.lemmas.List.{get_or_read}
use Rattle.variable_order.specs.declared.order.Seat.{Seat}
use Rattle.variable_order.specs.Seats.{IsBest, IsGreatest}
use Rattle.variable_order.specs.Tree.{node_at}
use Rattle.variable_order.proofs.Tournament.{root_some, root_none}
use Rattle.variable_order.proofs.order.VariableOrder.greatest.Goals as goal

pub returns-in-Some : goal.returns-in-Some
returns-in-Some c =
    let some : 0 < length c.self.inside.seats.items = omega (arith, c.if-len-eq0.false, c.len.ensures) in
    let size = c.self.invariant.size in
    let root : node_at c.self.inside.tree.items 1 ≡ Some c.in-Some.best = sym (get_or_read c.self.inside.tree.items 1 c.index.result.now (omega (arith, size)) c.index.ensures None) ∙ c.in-Some.is in
    let best : IsBest c.self.inside.seats.items c.in-Some.best.var = root_some c.self.inside.seats.items c.self.inside.tree.items c.in-Some.best some c.self.invariant.right c.self.invariant.leaves root in
    subst (λ (seats : List Seat). IsBest seats c.of.result) c.self.view_is (subst (IsBest c.self.inside.seats.items) (sym c.of.ensures) best)

pub returns-in-None : goal.returns-in-None
returns-in-None c =
    let some : 0 < length c.self.inside.seats.items = omega (arith, c.if-len-eq0.false, c.len.ensures) in
    let size = c.self.invariant.size in
    let root : node_at c.self.inside.tree.items 1 ≡ None = sym (get_or_read c.self.inside.tree.items 1 c.index.result.now (omega (arith, size)) c.index.ensures None) ∙ c.in-None.is in
    subst (λ (seats : List Seat). IsGreatest seats None) c.self.view_is (root_none c.self.inside.seats.items c.self.inside.tree.items c.self.invariant.right c.self.invariant.leaves root)
