use Rattle.std.proofs.Common.{inl, inr, arith}
use Rattle.signoff.proofs.steady.sign_off_status.Goals as goal

pub returns-clause-no_fault : goal.returns-clause-no_fault
returns-clause-no_fault c is = elim (c.sign_off_run.ensures.fault is) [ inl rose ↦ omega arith | inr cause ↦ let rose = cause.1.rose in omega arith ]
