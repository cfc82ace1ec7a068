use Rattle.std.proofs.Common.{subst, map}
use Rattle.proof_arena.specs.Log.{ClausesFollow}
use Rattle.proof_arena.specs.Held.{step_of}
use Rattle.proof_arena.proofs.Sound.{steps_sound}
use Rattle.proof_arena.proofs.log.ProofLog.clauses_follow.Goals as goal

pub returns : goal.returns
returns c =
    subst ClausesFollow c.self.view_is
    (λ values all. steps_sound values c.self.inside.cnf.now.vars c.self.inside.cnf.now.clauses (map step_of c.self.inside.steps.items) c.self.invariant.holds all)
