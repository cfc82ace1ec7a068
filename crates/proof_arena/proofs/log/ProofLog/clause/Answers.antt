use Rattle.std.proofs.Common.{◌≡◌, ◌-◌, ◌<◌, length, arith, subst, sym, Some, slice_get}
use Rattle.proof_arena.specs.Log.{Log, clauses_of}
use Rattle.proof_arena.proofs.Steps.{clauses_count, step_clause, clause_over}
use Rattle.proof_arena.specs.Held.{log_of}
use Rattle.proof_arena.proofs.log.ProofLog.clause.Goals as goal

pub returns-else-place-len : goal.returns-else-place-len
returns-else-place-len c =
    let room : c.args.id < length (clauses_of (log_of c.self.inside)) =
    subst (λ (log : Log). c.args.id < length (clauses_of log)) (sym c.self.view_is) c.requires in
    let place : c.args.id - length c.self.inside.cnf.now.clauses < length c.self.inside.steps.items =
    omega (arith, clauses_count c.self.inside) in
    let found : slice_get (clauses_of c.args.self.now) c.args.id ≡ Some c.index.result.now.lits.now =
    subst (λ (log : Log). slice_get (clauses_of log) c.args.id ≡ Some c.index.result.now.lits.now) c.self.view_is
    (step_clause c.self.inside c.args.id c.index.result.now (omega arith) place (rw (← c.len-else-place-len.ensures) (rw c.index-place.ensures.number at c.index.ensures))) in
    record { clause = found; over = clause_over c.self.inside c.self.invariant c.args.self.now c.self.view_is c.args.id _ found }
