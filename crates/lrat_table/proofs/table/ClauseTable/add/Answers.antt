use Rattle.std.proofs.Common.{◌∙◌, ◌<◌, List, Some, map, ap, sym, subst}
use Rattle.lrat_table.specs.Found.{with_clause}
use Rattle.lrat_table.specs.Entries.{TableEntry, found_of, last_of, AreRising}
use Rattle.lrat_table.specs.Held.{entry_of}
use Rattle.lrat_table.proofs.EntrySays.{added_rising, added_last, added_found, pushed}
use Rattle.lrat_table.proofs.table.ClauseTable.add.Goals as goal

pub invariant_of-self-2 : goal.invariant_of-self-2
invariant_of-self-2 c =
    let lt = subst (λ (l : List TableEntry). last_of 0 l < c.args.id) (sym c.self.view_is) c.requires in
    subst (AreRising 0) (sym (pushed _ _ _ c.in_ok-push.ensures.items)) (added_rising 0 _ _ _ c.self.invariant lt)

pub returns-clause-found : goal.returns-clause-found
returns-clause-found c =
    let lt = subst (λ (l : List TableEntry). last_of 0 l < c.args.id) (sym c.self.view_is) c.requires in
    ap found_of (pushed _ _ _ c.in_ok-push.ensures.items)
    ∙ (added_found 0 _ c.args.id c.args.clause.now c.self.invariant lt ∙ ap (λ (l : List TableEntry). with_clause (found_of l) c.args.id c.args.clause.now) c.self.view_is)

pub returns-clause-last : goal.returns-clause-last
returns-clause-last c = ap (last_of 0) (pushed _ _ _ c.in_ok-push.ensures.items) ∙ added_last 0 (map entry_of c.self.inside.entries.items) c.args.id (Some c.args.clause.now)
