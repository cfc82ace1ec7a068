use Rattle.bind_kinds.proofs.Heads.{full_some, full_none}
use Rattle.bind_kinds.proofs.pins.head_port.Goals as goal

pub returns-in-Some : goal.returns-in-Some
returns-in-Some c = full_some c.args.head.now c.in-Full.ports c.args.place c.get.result c.in-Some.port c.port_name.result.now c.in-Full.is c.get.ensures c.in-Some.is c.port_name.ensures

pub returns-in-None : goal.returns-in-None
returns-in-None c = full_none c.args.head.now c.in-Full.ports c.args.place c.get.result c.in-Full.is c.get.ensures c.in-None.is
