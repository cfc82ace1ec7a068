use Rattle.lrat_check.proofs.StepLaw.{additions_are_steps, hints_name_clauses}
use Rattle.lrat_check.proofs.laws.additions_are_steps.Goals as goal

pub returns : goal.returns
returns c = record { accepted = additions_are_steps; listed = hints_name_clauses }
