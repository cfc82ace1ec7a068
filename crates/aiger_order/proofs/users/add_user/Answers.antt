use Rattle.std.proofs.Common.{◌/◌, ◌<◌, ◌++◌, ◌∷◌, [], ℕ, List, length, ap, ◌∙◌, arith}
use Rattle.std.specs.Prelude.{slice_set}
use Rattle.aiger_order.specs.Users.{lists_of}
use Rattle.aiger_order.proofs.UserTables.{lists_set, lists_get, lists_many}
use Rattle.aiger_order.proofs.users.add_user.Goals as goal

pub returns : goal.returns
returns c =
    let users = c.args.users.now.items in
    let many = lists_many users in
    let inside : c.args.literal / 2 < length users = omega (arith, c.requires) in
    let old = lists_get users (c.args.literal / 2) c.index_mut.result.now inside c.index_mut.ensures.value in
    lists_set users (c.args.literal / 2) c.push.new.self ∙ ap (λ (l : List ℕ). slice_set (lists_of users) (c.args.literal / 2) l) (c.in_ok-push.ensures.items ∙ ap (λ (l : List ℕ). l ++ c.args.place ∷ []) old)
