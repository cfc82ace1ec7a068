use Rattle.std.proofs.Common.{ℕ, List, map, length, sym, subst, rules, Option}
use Rattle.std.specs.Prelude.{MatchOption}
use Rattle.std.specs.Result.{result_ok}
use Rattle.std.specs.List.Sorted.{IsSearchInRange, IsBinarySearchResult}
use Rattle.std.specs.Ordering.{nat_cmp}
use Rattle.std.proofs.lemmas.List.Sorted.{answers_always}
use Rattle.lrat_table.specs.Entries.{TableEntry, IsAt, IsAbsent}
use Rattle.lrat_table.specs.Held.{entry_of}
use Rattle.lrat_table.specs.declared.table.Entry.{Entry}
use Rattle.lrat_table.proofs.EntrySays.{searched, place_from}
use Rattle.lrat_table.proofs.table.ClauseTable.search.Goals as goal

pub returns : goal.returns
returns c =
    let id = c.args.id in
    let items = c.self.inside.entries.items in
    let r = c.binary_search_by_key.result in
    let bound : IsSearchInRange r (length items) = subst (λ (l : List Entry). IsSearchInRange r (length l)) c.deref.ensures.value c.binary_search_by_key.ensures.bound in
    let found : IsBinarySearchResult (λ (e : Entry). nat_cmp e.id id) items r =
    subst (λ (l : List Entry). IsBinarySearchResult (λ (e : Entry). nat_cmp e.id id) l r) c.deref.ensures.value
    (c.binary_search_by_key.ensures.position (λ (e : Entry). e.id) (answers_always _ _ _ (λ f a r g called. search rules))) in
    subst (λ (o : Option ℕ). MatchOption o (IsAbsent c.args.self.now id) (IsAt c.args.self.now id)) (sym c.ok.ensures.value)
    (subst (λ (l : List TableEntry). MatchOption (result_ok r) (IsAbsent l id) (IsAt l id)) c.self.view_is (place_from (IsAt (map entry_of items) id) (IsAbsent (map entry_of items) id) r (searched items c.self.invariant id r bound found)))
