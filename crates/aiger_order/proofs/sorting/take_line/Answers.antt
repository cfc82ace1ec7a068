use Rattle.std.proofs.Common.{◌≡◌, inl, inr, ◌/◌, ◌<◌, ◌≤◌, ◌∙◌, ◌++◌, ◌∷◌, ℕ, List, [], length, get_or, ap, sym, subst, arith, Some}
use Rattle.std.specs.Prelude.{slice_get, vec_len}
use Rattle.std.proofs.lemmas.Option.{same_Some, slice_get_within, get_or_from_slice_get}
use Rattle.golden_aig.specs.declared.graph.And.{And}
use Rattle.aiger_order.specs.Numbers.{Known}
use Rattle.aiger_order.specs.Users.{lists_of, UsedBy}
use Rattle.aiger_order.specs.Listing.{IsDefinition}
use Rattle.aiger_order.specs.Ready.{IsReadyLine, Has}
use Rattle.aiger_order.proofs.UserTables.{lists_get, lists_many}
use Rattle.aiger_order.proofs.Lists.{get_last}
use Rattle.aiger_order.proofs.ReadyLines.{ready_stays, ready_cases}
use Rattle.aiger_order.proofs.sorting.take_line.Goals as goal

none : And
none = record { lhs = 0; rhs0 = 0; rhs1 = 0 }

pub number_line-requires-clause-lhs : goal.number_line-requires-clause-lhs
unfolding none
number_line-requires-clause-lhs c =
    let now = c.requires.now in
    subst (λ (g : And). IsDefinition c.args.top g.lhs) (sym (get_or_from_slice_get c.args.lines.now c.args.place now.one none now.is)) (c.requires.lines.definitions c.args.place now.one now.is)

pub number_line-requires-clause-first_below : goal.number_line-requires-clause-first_below
unfolding none
number_line-requires-clause-first_below c =
    let now = c.requires.now in
    subst (λ (g : And). g.rhs0 / 2 ≤ c.args.top) (sym (get_or_from_slice_get c.args.lines.now c.args.place now.one none now.is)) (c.requires.lines.below c.args.place now.one now.is).1

pub number_line-requires-clause-second_below : goal.number_line-requires-clause-second_below
unfolding none
number_line-requires-clause-second_below c =
    let now = c.requires.now in
    subst (λ (g : And). g.rhs1 / 2 ≤ c.args.top) (sym (get_or_from_slice_get c.args.lines.now c.args.place now.one none now.is)) (c.requires.lines.below c.args.place now.one now.is).2

pub number_line-requires-clause-fresh : goal.number_line-requires-clause-fresh
unfolding none
number_line-requires-clause-fresh c =
    let now = c.requires.now in
    subst (λ (g : And). ¬ Known c.args.sorted.now.numbering.names.items (g.lhs / 2)) (sym (get_or_from_slice_get c.args.lines.now c.args.place now.one none now.is)) now.fresh

pub number_line-requires-clause-first : goal.number_line-requires-clause-first
unfolding none
number_line-requires-clause-first c =
    let now = c.requires.now in
    subst (λ (g : And). Known c.args.sorted.now.numbering.names.items (g.rhs0 / 2)) (sym (get_or_from_slice_get c.args.lines.now c.args.place now.one none now.is)) now.first

pub number_line-requires-clause-second : goal.number_line-requires-clause-second
unfolding none
number_line-requires-clause-second c =
    let now = c.requires.now in
    subst (λ (g : And). Known c.args.sorted.now.numbering.names.items (g.rhs1 / 2)) (sym (get_or_from_slice_get c.args.lines.now c.args.place now.one none now.is)) now.second

pub index-requires : goal.index-requires
unfolding none
index-requires c =
    let now = c.requires.now in
    let below = (c.requires.lines.below c.args.place now.one now.is).0 in
    let size = c.requires.users.size in
    let many = lists_many c.args.users.now.items in
    subst (λ (g : And). g.lhs / 2 < vec_len c.args.users.now) (sym (get_or_from_slice_get c.args.lines.now c.args.place now.one none now.is)) (omega (arith, c.args.users.now.ok.0))

pub wake_all-requires-clause-inside : goal.wake_all-requires-clause-inside
unfolding none
wake_all-requires-clause-inside c at place is =
    let now = c.requires.now in
    let v = (get_or c.args.lines.now c.args.place none).lhs / 2 in
    let line_is = get_or_from_slice_get c.args.lines.now c.args.place now.one none now.is in
    let half : v ≡ now.one.lhs / 2 = ap (λ (g : And). g.lhs / 2) line_is in
    let below = (c.requires.lines.below c.args.place now.one now.is).0 in
    let size = c.requires.users.size in
    let many = lists_many c.args.users.now.items in
    let woken = c.as_slice-woken.ensures.value ∙ lists_get c.args.users.now.items v c.index.result.now (omega arith) c.index.ensures in
    c.requires.users.inside v place (at, subst (λ (l : List ℕ). slice_get l at ≡ Some place) woken is)

pub wake_all-requires-clause-only : goal.wake_all-requires-clause-only
unfolding none
wake_all-requires-clause-only c line has =
    let now = c.requires.now in
    let before = c.requires.only line has in
    let is = get_or_from_slice_get c.args.lines.now c.args.place now.one none now.is in
    let names : c.number_line.new.sorted.numbering.names.items ≡ c.args.sorted.now.numbering.names.items ++ now.one.lhs / 2 ∷ [] =
    c.in_ok-number_line.ensures.names ∙ ap (λ (g : And). c.args.sorted.now.numbering.names.items ++ g.lhs / 2 ∷ []) is in
    subst (λ (ns : List ℕ). IsReadyLine ns c.args.lines.now line) (sym names)
    (ready_stays c.args.top c.args.lines.now c.args.sorted.now.numbering.names.items c.args.place line now.one c.requires.lines now.is before.0 before.1)

pub returns-clause-all : goal.returns-clause-all
unfolding none
returns-clause-all c line r =
    let now = c.requires.now in
    let v = (get_or c.args.lines.now c.args.place none).lhs / 2 in
    let lines = c.args.lines.now in
    let old = c.args.sorted.now.numbering.names.items in
    let line_is = get_or_from_slice_get lines c.args.place now.one none now.is in
    let half : v ≡ now.one.lhs / 2 = ap (λ (g : And). g.lhs / 2) line_is in
    let below = (c.requires.lines.below c.args.place now.one now.is).0 in
    let size = c.requires.users.size in
    let many = lists_many c.args.users.now.items in
    let lists = lists_of c.args.users.now.items in
    let woken = c.as_slice-woken.ensures.value ∙ lists_get c.args.users.now.items v c.index.result.now (omega arith) c.index.ensures in
    let put : (u : UsedBy lists v line) → Has c.wake_all.new.ready line =
    λ u. c.in_ok-wake_all.ensures.put u.0 line (subst (λ (l : List ℕ). slice_get l u.0 ≡ Some line) (sym woken) u.1) r in
    let grown : IsReadyLine (old ++ v ∷ []) lines line = subst (λ (ns : List ℕ). IsReadyLine ns lines line) c.in_ok-number_line.ensures.names r in
    elim (ready_cases lines old v line grown) [
      | inl before ↦ elim (c.requires.all line before) [
        | inl same ↦
            let there : slice_get lines c.args.place ≡ Some grown.one = ap (slice_get lines) (sym same) ∙ grown.is in
            let one_is : now.one ≡ grown.one = same_Some now.one grown.one (sym now.is ∙ there) in
            let known : Known (old ++ v ∷ []) v = (length old, get_last old v) in
            absurd (grown.fresh (subst (λ (x : ℕ). Known (old ++ v ∷ []) x) (half ∙ ap (λ (g : And). g.lhs / 2) one_is) known))
        | inr has ↦ c.in_ok-wake_all.ensures.kept line has
      ]
      | inr used ↦
          let inside = slice_get_within lines line used.0 used.1 in
          elim used.2 [
            | inl first ↦ put (subst (λ (x : ℕ). UsedBy lists x line) (sym first) (c.requires.users.first line used.0 inside used.1))
            | inr second ↦ put (subst (λ (x : ℕ). UsedBy lists x line) (sym second) (c.requires.users.second line used.0 inside used.1))
          ]
    ]

pub returns-clause-taken : goal.returns-clause-taken
unfolding none
returns-clause-taken c =
    let now = c.requires.now in
    let is = get_or_from_slice_get c.args.lines.now c.args.place now.one none now.is in
    let ands = c.in_ok-number_line.ensures.ands in
    (get_or c.args.lines.now c.args.place none, ands.0, now.is ∙ ap Some (sym is), c.in_ok-number_line.ensures.names, ands.1, ands.2)
