use Rattle.bind_kinds.specs.Netlist.{setting_of}
use Rattle.bind_faults.proofs.More.{links_none}
use Rattle.bind_faults.proofs.ports.more_links.Goals as goal

pub returns-in-Ordered-clause-none : goal.returns-in-Ordered-clause-none
returns-in-Ordered-clause-none c =
    links_none (setting_of c.args.netlist.now) c.args.kind.name.now c.args.links.now c.in-Ordered.links c.len.result c.more_than_ports.result c.in-Ordered.is c.len.ensures c.more_than_ports.ensures.none
