use Rattle.std.proofs.Common.{◌≡◌, ◌∙◌, ◌<◌, ◌-◌, length, suc, ap, arith}
use Rattle.std.proofs.lemmas.List.{get_or_read}
use Rattle.cdcl_core.specs.declared.trail.TrueLit.{TrueLit}
use Rattle.cdcl_core.specs.Oldest.{Truths}
use Rattle.cdcl_core.specs.Kept.{entry_at}
use Rattle.cdcl_core.proofs.Newest.{length_newest}
use Rattle.cdcl_core.proofs.Pushing.{popped_held}
use Rattle.cdcl_core.proofs.trail.Trail.pop.Goals as goal

pub invariant_of-self : goal.invariant_of-self
invariant_of-self c =
    let entries = c.self.inside.entries.items in
    let trail = ap (λ (t : Truths). length t.trail) c.self.view_is in
    let some : 0 < c.self.inside.count = omega (arith, c.requires, trail, length_newest entries c.self.inside.count) in
    let few = c.self.invariant.count in
    let here : c.index.result.now ≡ entry_at entries (c.self.inside.count - 1) = get_or_read entries (c.self.inside.count - 1) c.index.result.now (omega arith) c.index.ensures _ in
    let is : c.index-2.result ≡ (entry_at entries (c.self.inside.count - 1)).lit = c.index-2.ensures.number ∙ ap (λ (x : TrueLit). x.lit) here in
    let held = popped_held c.self.inside (c.self.inside.count - 1) c.self.invariant (omega arith) in
    rw is (record { count = held.count_in; few = held.few; size = held.size; plain = held.plain; places_size = held.places_size; places = held.places; table = held.table })
