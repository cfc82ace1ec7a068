use Rattle.aiger_order.specs.Users.{lists_of, AreUsers}
use Rattle.aiger_order.proofs.users.tabulate_users.Given as goal

abbrev pub invariant-loop-place : goal.invariant-loop-place
invariant-loop-place l = AreUsers l.top l.place l.lines (lists_of l.users.items)
