use Rattle.std.proofs.Common.{List, get_or, sym, subst}
use Rattle.bind_sites.specs.Sites.{Site}
use Rattle.bind_names.specs.Scoped.{sites_of}
use Rattle.bind_kinds.specs.Netlist.{setting_of}
use Rattle.bind_faults.specs.declared.check.Check.{Check}
use Rattle.bind_faults.specs.declared.check.Check.TheVariants.{PortsTwice, EachSite}
use Rattle.bind_faults.specs.Checks.{AnswersIn}
use Rattle.bind_faults.proofs.Places.{scope_at, one_list}
use Rattle.bind_faults.proofs.check.Check.look_in.Goals as goal

pub look_in-requires-clause-scope : goal.look_in-requires-clause-scope
look_in-requires-clause-scope c = (scope_at c.args.netlist.now c.args.at c.index-netlist-at.result c.requires.told.is_netlist c.requires.there).is_scope

pub look_in-requires-clause-sites : goal.look_in-requires-clause-sites
look_in-requires-clause-sites c = record { reached = c.requires.reached; has = (scope_at c.args.netlist.now c.args.at c.index-netlist-at.result c.requires.told.is_netlist c.requires.there).has }

pub returns-in-PortsTwice : goal.returns-in-PortsTwice
returns-in-PortsTwice c = λ all has.
    let setting = setting_of c.args.netlist.now in
    let there = scope_at c.args.netlist.now c.args.at c.index-netlist-at.result c.requires.told.is_netlist c.requires.there in
    let same = one_list setting c.args.at (sites_of (get_or c.args.netlist.now.scopes.now c.args.at c.index-netlist-at.result)) all there.has has in
    subst (λ (k : Check). AnswersIn k setting all c.refuse_port_twice.result) (sym c.in-PortsTwice.is)
    (subst (λ (l : List Site). AnswersIn PortsTwice setting l c.refuse_port_twice.result) same (c.refuse_port_twice.ensures setting))

pub returns-in-EachSite : goal.returns-in-EachSite
returns-in-EachSite c = λ all has.
    let setting = setting_of c.args.netlist.now in
    let there = scope_at c.args.netlist.now c.args.at c.index-netlist-at.result c.requires.told.is_netlist c.requires.there in
    let same = one_list setting c.args.at (sites_of (get_or c.args.netlist.now.scopes.now c.args.at c.index-netlist-at.result)) all there.has has in
    subst (λ (k : Check). AnswersIn k setting all c.look_in.result) (sym c.in-EachSite.is)
    (subst (λ (l : List Site). AnswersIn (EachSite c.in-EachSite.check) setting l c.look_in.result) same c.look_in.ensures)
