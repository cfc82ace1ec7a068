use Rattle.std.proofs.Common.{◌-◌, ◌^◌, ◌<◌, length, subst, sym}
use Rattle.std.specs.Prelude.{is_ok}
use Rattle.std.specs.List.{All}
use Rattle.proof_arena.specs.Step.{StepHolds}
use Rattle.proof_arena.specs.Log.{Log, clauses_of}
use Rattle.proof_arena.specs.Held.{log_of}
use Rattle.proof_arena.proofs.Steps.{pushed_fits, pushed_holds}
use Rattle.proof_arena.proofs.log.ProofLog.add.Goals as goal

pub invariant_of-self-2 : goal.invariant_of-self-2
invariant_of-self-2 c =
    let holds : StepHolds c.self.inside.cnf.now.vars (clauses_of (log_of c.self.inside)) c.in_ok-lits.lits.now c.in_ok-hints.hints.now =
    rw (c.in_ok-lits.ensures, c.in_ok-hints.ensures)
    (subst (λ (log : Log). StepHolds log.vars (clauses_of log) c.args.lits.now c.args.hints.now) (sym c.self.view_is) c.requires.holds) in
    let printed : All (λ hint. hint < 2 ^ 32 - 1) c.in_ok-hints.hints.now = rw c.in_ok-hints.ensures c.requires.printed in
    let room = subst (λ (log : Log). length (clauses_of log) < 2 ^ 32 - 1) (sym c.self.view_is) c.requires.room in
    record {
      holds = pushed_holds c.self.inside.cnf.now.vars c.self.inside.cnf.now.clauses c.self.inside.steps.items _ (is_ok c.push.result) _ c.push.ensures.items c.self.invariant.holds (record { holds = holds; printed = printed });
      fits = pushed_fits c.self.inside.cnf.now.clauses c.self.inside.steps.items _ (is_ok c.push.result) _ (2 ^ 32 - 1) c.push.ensures.items room;
      formula = c.self.invariant.formula;
    }
