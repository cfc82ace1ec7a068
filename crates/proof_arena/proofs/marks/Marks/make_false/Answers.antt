use Rattle.std.proofs.Common.{◌∙◌, ◌<◌, ap, subst, sym, length}
use Rattle.proof_arena.specs.Step.{makes_false}
use Rattle.proof_arena.specs.Table.{Marked, falses_of}
use Rattle.proof_arena.specs.Stamps.{marked_of}
use Rattle.proof_arena.proofs.Marked.{stamped}
use Rattle.proof_arena.proofs.marks.Marks.make_false.Goals as goal

pub returns-clause-falses : goal.returns-clause-falses
returns-clause-falses c =
    let lt : c.args.lit < length (marked_of c.self.inside).table = subst (λ (m : Marked). c.args.lit < length m.table) (sym c.self.view_is) c.requires in
    rw c.index.ensures.number (stamped c.self.inside.count c.self.inside.stamps.items c.self.inside.beyond.keys c.args.lit lt
    ∙ ap (λ (m : Marked). makes_false (falses_of m) c.args.lit) c.self.view_is)
