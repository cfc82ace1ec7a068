use Rattle.std.proofs.Common.{◌≡◌, ◌+◌, ◌++◌, length, arith, length-append}
use Rattle.std.proofs.lemmas.List.{length-map}
use Rattle.proof_arena.specs.Log.{LogStep, lits_of}
use Rattle.lrat_check.proofs.Accepted.{log_accepted}
use Rattle.lrat_check.proofs.laws.ended_log_is_accepted.Goals as goal

pub returns : goal.returns
returns c =
    let log = c.args.log.now in
    let one : length (log.given ++ lits_of log.steps) ≡ length log.given + length (lits_of log.steps) = length-append log.given (lits_of log.steps) in
    let two : length (lits_of log.steps) ≡ length log.steps = length-map log.steps (λ (s : LogStep). s.lits) in
    record { accepted = log_accepted c.args.cnf.now c.args.log.now c.requires.stands (omega arith) (omega arith) c.ends-ended.ensures.held }
