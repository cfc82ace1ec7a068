use Rattle.std.proofs.Common.{◌∙◌, ℕ, Option, ◌++◌, ◌∷◌, [], ap}
use Rattle.flat_places.specs.Bits.{linked_number}
use Rattle.flattener.proofs.Lists.{number_step}
use Rattle.flattener.proofs.offsets.push_linked.Goals as goal

pub loop-port-preserved : goal.loop-port-preserved
loop-port-preserved c =
    c.in_ok-push.ensures.items
    ∙ ap (λ (o : Option ℕ). c.loop-port.places.items ++ o ∷ []) c.linked_place.ensures
    ∙ number_step (linked_number c.args.offsets.now c.args.links.now) c.args.first c.loop-port.port c.loop-port.places.items c.args.places.now.items c.loop-port.auto.port c.loop-port.invariant
