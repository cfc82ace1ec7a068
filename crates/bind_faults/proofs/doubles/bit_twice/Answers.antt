use Rattle.std.proofs.Common.{ℕ, List, Option, get_or, subst}
use Rattle.bind_names.specs.Scoped.{sites_of}
use Rattle.bind_kinds.specs.Netlist.{setting_of}
use Rattle.bind_faults.proofs.Places.{scope_at}
use Rattle.bind_faults.proofs.FirstDoubles.{told_double, BitFound, no_bit, first_bit}
use Rattle.bind_faults.proofs.doubles.bit_twice.Goals as goal

pub single_until-limit-requires : goal.single_until-limit-requires
single_until-limit-requires c =
    let netlist = c.args.netlist.now in
    told_double netlist c.args.top c.index-netlist-top.result (sites_of (get_or netlist.scopes.now c.args.top c.index-netlist-top.result)) c.requires.told c.requires.there
    (scope_at netlist c.args.top c.index-netlist-top.result c.requires.told.is_netlist c.requires.there).has

pub returns-in-Some : goal.returns-in-Some
returns-in-Some c =
    let netlist = c.args.netlist.now in
    let all = sites_of (get_or netlist.scopes.now c.args.top c.index-netlist-top.result) in
    first_bit (setting_of netlist) c.args.top all (scope_at netlist c.args.top c.index-netlist-top.result c.requires.told.is_netlist c.requires.there).has c.single_until-limit.result
    c.single_until-limit.ensures.before c.single_until-limit.ensures.last c.in-Some.site c.in-Some.name
    (subst (λ (o : Option (ℕ × List ℕ)). BitFound all c.single_until-limit.result o) c.in-Some.is c.in_ok-site.ensures)

pub returns-in-None : goal.returns-in-None
returns-in-None c =
    let netlist = c.args.netlist.now in
    let all = sites_of (get_or netlist.scopes.now c.args.top c.index-netlist-top.result) in
    no_bit (setting_of netlist) c.args.top all (scope_at netlist c.args.top c.index-netlist-top.result c.requires.told.is_netlist c.requires.there).has c.single_until-limit.result
    c.single_until-limit.ensures.before c.single_until-limit.ensures.last
    (subst (λ (o : Option (ℕ × List ℕ)). BitFound all c.single_until-limit.result o) c.in-None.is c.in_ok-site.ensures)
