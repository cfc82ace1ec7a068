use Rattle.std.proofs.Common.{◌*◌}
use Rattle.proof_arena.proofs.Marked.{just_made, nothing_false}
use Rattle.proof_arena.proofs.marks.Marks.new.Goals as goal

pub returns-clause-falses : goal.returns-clause-falses
returns-clause-falses c =
    nothing_false _ (2 * c.args.vars) (just_made _ _ _ c.resize.new.self.items c.new-stamps.ensures.items c.new-stamps.ensures.len c.in_ok-resize.ensures.items) c.new.ensures.empty
