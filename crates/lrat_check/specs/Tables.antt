-- What a checker knows, and how large its table of marks is.
use Rattle.std.specs.Prelude.{◌≤◌, ◌+◌, ◌*◌, min, max, length}
use Rattle.rsfq_ids.specs.Formula.{Clause}
use Rattle.lrat_check.specs.Check.{Known}
use Rattle.lrat_check.specs.Reached.{vars_up_to}
use Rattle.lrat_table.specs.Entries.{found_of, last_of}
use Rattle.lrat_check.specs.declared.check.Checker.{Checker}

abbrev pub known_of : Checker → Known
known_of checker = record { found = found_of checker.table; last = last_of 0 checker.table; refuted = checker.refuted }

-- the table of marks is for no more variables than there are up to the greatest literal that was met, and above 65,536 for no more than
-- there were literals
abbrev pub HasNearTable : Checker → Type 0
HasNearTable checker = length checker.marks.table ≤ 2 * min checker.reach.vars (max 65536 checker.reach.met)

-- of a line the checker has met no more literals than those of a clause, and none further out
abbrev pub MeetsAtMost : Checker → Checker → Clause → Type 0
MeetsAtMost old new clause = (new.reach.met ≤ old.reach.met + length clause) × (new.reach.vars ≤ max old.reach.vars (vars_up_to clause))
