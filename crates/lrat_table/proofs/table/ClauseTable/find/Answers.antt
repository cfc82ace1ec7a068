use Rattle.std.proofs.Common.{◌≡◌, List, sym, subst}
use Rattle.lrat_table.specs.Entries.{TableEntry, found_of, IsAt}
use Rattle.lrat_table.specs.Held.{entry_of}
use Rattle.lrat_table.proofs.EntrySays.{stored, found_nowhere}
use Rattle.lrat_table.proofs.table.ClauseTable.find.Goals as goal

pub returns-in-Some : goal.returns-in-Some
returns-in-Some c =
    sym (subst (λ (l : List TableEntry). found_of l c.args.id ≡ (entry_of c.index.result.now).clause) c.self.view_is
    (stored c.self.inside.entries.items c.self.invariant c.args.id c.in-Some.place c.index.result.now
    (subst (λ (l : List TableEntry). IsAt l c.args.id c.in-Some.place) (sym c.self.view_is) c.in-Some.ensures) c.index.ensures))

pub returns-in-None : goal.returns-in-None
returns-in-None c = sym (found_nowhere c.args.self.now c.args.id c.in-None.ensures)
