use Rattle.std.proofs.Common.{◌≡◌, ◌+◌, rules, None}
use Rattle.std.specs.Prelude.{replicate}
use Rattle.aiger_order.proofs.Numberings.{none_yet}
use Rattle.aiger_order.proofs.numbering.Numbering.new.Goals as goal

pub give-requires-clause-numbers : goal.give-requires-clause-numbers
give-requires-clause-numbers c =
    let blank : c.in_ok-numbers.numbers.items ≡ replicate (c.args.top + 1) None = search rules in
    rw (c.new.ensures.items, blank) (none_yet c.args.top)
