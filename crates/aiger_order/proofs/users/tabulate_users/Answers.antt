use Rattle.std.proofs.Common.{◌≡◌, ◌/◌, ◌∙◌, ℕ, [], ◌∷◌, ◌++◌, length, length-set, get_or, ap, subst, arith}
use Rattle.std.specs.Prelude.{slice_index_or}
use Rattle.std.proofs.lemmas.Option.{slice_get-get_or}
use Rattle.golden_aig.specs.declared.graph.And.{And}
use Rattle.aiger_order.specs.Users.{lists_of, AreUsers}
use Rattle.aiger_order.proofs.UserTables.{users_more}
use Rattle.aiger_order.proofs.users.tabulate_users.Goals as goal

none : And
none = record { lhs = 0; rhs0 = 0; rhs1 = 0 }

pub add_user-requires : goal.add_user-requires
unfolding none
add_user-requires c =
    let is = slice_get-get_or c.args.lines.now c.loop-place.place none c.loop-place-test.true in
    let below = c.requires.below c.loop-place.place (get_or c.args.lines.now c.loop-place.place none) is in
    let size = c.loop-place.invariant.size in
    let first = below.1 in
    omega arith

pub add_user-requires-in-loop-place : goal.add_user-requires-in-loop-place
unfolding none
add_user-requires-in-loop-place c =
    let is = slice_get-get_or c.args.lines.now c.loop-place.place none c.loop-place-test.true in
    let one = get_or c.args.lines.now c.loop-place.place none in
    let below = c.requires.below c.loop-place.place one is in
    let size = c.loop-place.invariant.size in
    let second = below.2 in
    let lists = lists_of c.loop-place.users.items in
    let v : ℕ = one.rhs0 / 2 in
    let kept : length (lists_of c.add_user.new.users.items) ≡ length lists = ap length c.in_ok-add_user.ensures ∙ length-set lists v (slice_index_or lists v [] ++ c.loop-place.place ∷ []) in
    omega arith

pub loop-place-preserved : goal.loop-place-preserved
unfolding none
loop-place-preserved c =
    let is = slice_get-get_or c.args.lines.now c.loop-place.place none c.loop-place-test.true in
    let one = get_or c.args.lines.now c.loop-place.place none in
    let below = c.requires.below c.loop-place.place one is in
    let made = users_more c.args.top c.loop-place.place c.args.lines.now (lists_of c.loop-place.users.items) one c.loop-place.invariant is below.1 below.2 in
    rw (c.in_ok-add_user-2.ensures, c.in_ok-add_user.ensures) made

pub returns : goal.returns
returns c =
    let done : c.loop-place.place ≡ length c.args.lines.now = omega arith in
    subst (λ (n : ℕ). AreUsers c.args.top n c.args.lines.now (lists_of c.loop-place.users.items)) done c.loop-place.invariant
