use Rattle.std.proofs.Common.{refl}
use Rattle.bind_kinds.specs.Netlist.{setting_of}
use Rattle.bind_faults.proofs.Unknown.{has_port, has_none}
use Rattle.bind_faults.proofs.ports.without_port.Goals as goal

pub returns-in_err-port_count-clause-none : goal.returns-in_err-port_count-clause-none
returns-in_err-port_count-clause-none c = rw c.from_residual.ensures (λ none. c.in_err-port_count.ensures.none none.0 none.1)

pub returns-in-Some-clause-none : goal.returns-in-Some-clause-none
returns-in-Some-clause-none c = has_port c.ports_are_one.ensures (setting_of c.args.netlist.now) c.args.kind.name.now c.args.name.now c.in-Some.field-0 c.in-Some.ensures.found

pub returns-in-None-clause-found : goal.returns-in-None-clause-found
returns-in-None-clause-found c = (refl, has_none (setting_of c.args.netlist.now) c.args.kind.name.now c.args.name.now c.in_ok-port_count.field-0 c.in_ok-port_count.ensures.found c.in-None.ensures.none)
