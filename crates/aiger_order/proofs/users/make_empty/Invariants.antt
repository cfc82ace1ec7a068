use Rattle.std.proofs.Common.{◌≡◌, []}
use Rattle.std.specs.Prelude.{replicate}
use Rattle.aiger_order.specs.Users.{lists_of}
use Rattle.aiger_order.proofs.users.make_empty.Given as goal

abbrev pub invariant-loop : goal.invariant-loop
invariant-loop l = lists_of l.users.items ≡ replicate l.counter []
