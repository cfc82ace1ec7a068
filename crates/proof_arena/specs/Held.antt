-- The log that the fields hold.
use Rattle.std.specs.Prelude.{◌<◌, ◌^◌, map, length}
use Rattle.rsfq_ids.specs.Formula.{IsFormula}
use Rattle.proof_arena.specs.Log.{Log, LogStep, StepsHold, clauses_of}
use Rattle.proof_arena.specs.declared.log.Step.{Step}
use Rattle.proof_arena.specs.declared.log.ProofLog.TheInside.{Inside}

abbrev pub step_of : Step → LogStep
step_of s = record { lits = s.lits.now; hints = s.hints.now }

abbrev pub log_of : Inside → Log
log_of a = record { vars = a.cnf.now.vars; given = a.cnf.now.clauses; steps = map step_of a.steps.items }

-- each step holds, and the numbers of the clauses fit
pub record IsArena (a : Inside) : Type 0 where
  pub holds : StepsHold a.cnf.now.vars a.cnf.now.clauses (map step_of a.steps.items)
  pub fits : length (clauses_of (log_of a)) < 2 ^ 32
  pub formula : IsFormula a.cnf.now
