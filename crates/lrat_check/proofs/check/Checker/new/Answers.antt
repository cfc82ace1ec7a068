use Rattle.std.proofs.Common.{refl}
use Rattle.lrat_table.specs.Entries.{found_of, last_of}
use Rattle.lrat_check.proofs.CheckSays.{first_known}
use Rattle.lrat_check.proofs.check.Checker.new.Goals as goal

pub returns-clause-known : goal.returns-clause-known
returns-clause-known c = (refl, first_known c.args.cnf.now (found_of c.in_ok-new.field-0) (last_of 0 c.in_ok-new.field-0) c.in_ok-new.ensures.found c.in_ok-new.ensures.last)
