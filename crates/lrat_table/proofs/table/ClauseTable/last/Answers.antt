use Rattle.std.proofs.Common.{◌∙◌, ap}
use Rattle.lrat_table.specs.Entries.{last_of}
use Rattle.lrat_table.proofs.EntrySays.{last_stored, none_stored}
use Rattle.lrat_table.proofs.table.ClauseTable.last.Goals as goal

pub returns-in-Some : goal.returns-in-Some
returns-in-Some c = last_stored 0 c.self.inside.entries.items c.in-Some.entry.now (rw c.deref.ensures.value at c.in-Some.ensures.value) ∙ ap (last_of 0) c.self.view_is

pub returns-in-None : goal.returns-in-None
returns-in-None c = none_stored c.self.inside.entries.items (rw c.deref.ensures.value at c.in-None.ensures.value) ∙ ap (last_of 0) c.self.view_is
