use Rattle.std.proofs.Common.{subst}
use Rattle.std.specs.Prelude.{◌↔◌, IsTrue}
use Rattle.proof_arena.specs.Log.{Log, HasEnded}
use Rattle.std.proofs.Common.{map}
use Rattle.rsfq_ids.specs.Formula.{HasSolution}
use Rattle.proof_arena.specs.Held.{step_of}
use Rattle.proof_arena.proofs.Steps.{ended_by}
use Rattle.proof_arena.proofs.Sound.{ended_refutes}
use Rattle.proof_arena.proofs.log.ProofLog.ends.Goals as goal

pub returns-in-Some-clause-ended : goal.returns-in-Some-clause-ended
returns-in-Some-clause-ended c =
    subst (λ (log : Log). IsTrue c.is_empty.result ↔ HasEnded log.steps) c.self.view_is
    (ended_by c.self.inside.steps.items c.in-Some.step.now c.is_empty.result (rw c.deref.ensures.value at c.in-Some.ensures.value) c.is_empty.ensures)

pub returns-in-Some-clause-refutes : goal.returns-in-Some-clause-refutes
returns-in-Some-clause-refutes c so =
    subst (λ (log : Log). HasSolution log.given → ⊥) c.self.view_is
    (ended_refutes c.self.inside.cnf.now.vars c.self.inside.cnf.now.clauses (map step_of c.self.inside.steps.items) c.self.invariant.holds
    ((ended_by c.self.inside.steps.items c.in-Some.step.now c.is_empty.result (rw c.deref.ensures.value at c.in-Some.ensures.value) c.is_empty.ensures).0 so))
