use Rattle.std.proofs.Common.{◌∙◌, List, ap, sym, subst}
use Rattle.std.specs.Prelude.{is_some}
use Rattle.std.proofs.lemmas.List.{map-set}
use Rattle.lrat_table.specs.Found.{without_clause}
use Rattle.lrat_table.specs.Entries.{TableEntry, found_of, last_of, AreRising, IsAt}
use Rattle.lrat_table.specs.Held.{entry_of}
use Rattle.lrat_table.proofs.EntrySays.{emptied_rising, emptied_last, emptied_found, stored, found_nowhere, still_some, without_none}
use Rattle.lrat_table.proofs.table.ClauseTable.remove.Goals as goal

pub invariant_of-self : goal.invariant_of-self
invariant_of-self c =
    let at = subst (λ (l : List TableEntry). IsAt l c.args.id c.in-Some.place) (sym c.self.view_is) c.in-Some.ensures in
    subst (AreRising 0) (sym (map-set entry_of c.self.inside.entries.items c.in-Some.place _)) (emptied_rising 0 _ c.args.id c.in-Some.place c.self.invariant at)

pub returns-in-Some-clause-found : goal.returns-in-Some-clause-found
returns-in-Some-clause-found c =
    let at = subst (λ (l : List TableEntry). IsAt l c.args.id c.in-Some.place) (sym c.self.view_is) c.in-Some.ensures in
    c.is_some-stood.ensures ∙ (still_some _ _ ∙ ap is_some (sym (stored c.self.inside.entries.items c.self.invariant c.args.id c.in-Some.place c.index.result.now at c.index.ensures)
    ∙ ap (λ (l : List TableEntry). found_of l c.args.id) c.self.view_is))

pub returns-in-Some-clause-without : goal.returns-in-Some-clause-without
returns-in-Some-clause-without c =
    let at = subst (λ (l : List TableEntry). IsAt l c.args.id c.in-Some.place) (sym c.self.view_is) c.in-Some.ensures in
    ap found_of (map-set entry_of c.self.inside.entries.items c.in-Some.place _)
    ∙ (emptied_found 0 _ c.args.id c.in-Some.place c.self.invariant at ∙ ap (λ (l : List TableEntry). without_clause (found_of l) c.args.id) c.self.view_is)

pub returns-in-Some-clause-last : goal.returns-in-Some-clause-last
returns-in-Some-clause-last c =
    let at = subst (λ (l : List TableEntry). IsAt l c.args.id c.in-Some.place) (sym c.self.view_is) c.in-Some.ensures in
    ap (last_of 0) (map-set entry_of c.self.inside.entries.items c.in-Some.place _) ∙ (emptied_last 0 _ c.args.id c.in-Some.place at ∙ ap (last_of 0) c.self.view_is)

pub returns-in-None-clause-found : goal.returns-in-None-clause-found
returns-in-None-clause-found c = sym (ap is_some (found_nowhere c.args.self.now c.args.id c.in-None.ensures))

pub returns-in-None-clause-without : goal.returns-in-None-clause-without
returns-in-None-clause-without c = without_none (found_of c.args.self.now) c.args.id (found_nowhere c.args.self.now c.args.id c.in-None.ensures)
