use Rattle.std.proofs.Common.{get_or}
use Rattle.std.specs.Option.{option_map}
use Rattle.bind_names.specs.Scoped.{sites_of}
use Rattle.bind_kinds.specs.Netlist.{setting_of}
use Rattle.bind_faults.proofs.Places.{scope_at}
use Rattle.bind_faults.proofs.FirstDoubles.{told_double, reached_double}
use Rattle.bind_faults.proofs.doubles.double_at.Goals as goal

pub returns-then-reached-at : goal.returns-then-reached-at
returns-then-reached-at c =
    let netlist = c.args.netlist.now in
    let scope = get_or netlist.scopes.now c.args.at c.index-netlist-at.result in
    let has = (scope_at netlist c.args.at c.index-netlist-at.result c.requires.told.is_netlist c.requires.there).has in
    reached_double (setting_of netlist) c.args.at (sites_of scope) has ((c.requires.reached.each c.args.at).0 c.if-reached-at.true) (option_map (λ (at, name). (at, name.now)) scope.double)
    (told_double netlist c.args.at c.index-netlist-at.result (sites_of scope) c.requires.told c.requires.there has)
