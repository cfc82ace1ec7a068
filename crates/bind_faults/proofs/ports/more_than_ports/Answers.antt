use Rattle.std.proofs.Common.{◌≡◌, arith}
use Rattle.bind_kinds.specs.Netlist.{setting_of}
use Rattle.bind_faults.proofs.More.{one_count}
use Rattle.bind_faults.proofs.ports.more_than_ports.Goals as goal

pub returns-in_err-want-clause-none : goal.returns-in_err-want-clause-none
returns-in_err-want-clause-none c = rw c.from_residual.ensures (λ want more. c.in_err-want.ensures.none more.0.0 more.0.1)

pub returns-else-want-have-clause-none : goal.returns-else-want-have-clause-none
returns-else-want-have-clause-none c = λ want more.
    let same : want ≡ c.in_ok-want.want = one_count c.ports_are_one.ensures (setting_of c.args.netlist.now) c.args.kind.name.now want c.in_ok-want.want more.0 c.in_ok-want.ensures.found in
    omega (arith, same, more.1)
