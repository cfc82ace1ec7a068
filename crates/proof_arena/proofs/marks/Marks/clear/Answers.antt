use Rattle.std.proofs.Common.{◌∙◌, ap, length, replicate}
use Rattle.std.specs.Vec.{with_items}
use Rattle.std.proofs.lemmas.List.{with_items_is}
use Rattle.proof_arena.specs.Table.{Marked}
use Rattle.proof_arena.proofs.Marked.{counted_on, written_anew, nothing_false}
use Rattle.proof_arena.proofs.marks.Marks.clear.Goals as goal

pub returns-then-self-clause-falses : goal.returns-then-self-clause-falses
returns-then-self-clause-falses c =
    nothing_false _ (length c.args.self.now.table)
    (written_anew c.self.inside.count c.self.inside.stamps.items (with_items c.self.inside.stamps c.fill.new.self).items c.args.self.now.table (ap (λ (m : Marked). m.table) c.self.view_is)
    (with_items_is c.self.inside.stamps c.fill.new.self (c.fill.ensures.len ∙ c.as_mut_slice.ensures.len)
    ∙ (c.fill.ensures.after (λ y e. e) ∙ ap (λ n. replicate n 0) (ap length c.as_mut_slice.ensures.value))))
    c.clear.ensures.empty

pub returns-else-self-clause-falses : goal.returns-else-self-clause-falses
returns-else-self-clause-falses c =
    nothing_false _ (length c.args.self.now.table)
    (counted_on c.self.inside.count c.self.inside.stamps.items c.args.self.now.table (ap (λ (m : Marked). m.table) c.self.view_is) c.self.invariant.past)
    c.clear.ensures.empty
