use Rattle.std.proofs.Common.{ℕ, List, IfSome, IfNone, sym, subst}
use Rattle.std.specs.Option.{option_copied}
use Rattle.verilog_tree.specs.Views.{view_optional}
use Rattle.bind_sites.specs.declared.site.Site.{Site}
use Rattle.bind_sites.specs.View.{view_site}
use Rattle.bind_names.specs.Scoped.{sites_of}
use Rattle.bind_kinds.specs.Netlist.{setting_of}
use Rattle.bind_faults.specs.Sited.{LacksPort}
use Rattle.bind_faults.proofs.Unknown.{named_found, named_none}
use Rattle.bind_kinds.specs.Meanings.{IsMeantAt}
use Rattle.bind_faults.proofs.ports.unknown_at.Goals as goal

pub returns-in-Named-clause-found : goal.returns-in-Named-clause-found
returns-in-Named-clause-found c =
    let setting = setting_of c.args.netlist.now in
    let all = sites_of c.args.scope.now in
    subst (λ (s : Site). IfSome c.without_port.result (λ name. LacksPort setting all (view_site s) name.now)) (sym c.in-Named.is)
    (named_found setting all c.in-Named.kind.now c.in-Named.port.now (view_optional (option_copied c.in-Named.expr)) c.without_port.result c.without_port.ensures.found)

pub returns-in-Named-clause-none : goal.returns-in-Named-clause-none
returns-in-Named-clause-none c =
    let setting = setting_of c.args.netlist.now in
    let all = sites_of c.args.scope.now in
    subst (λ (s : Site). IfNone c.without_port.result ((name : List ℕ) → ¬ LacksPort setting all (view_site s) name)) (sym c.in-Named.is)
    (named_none setting all c.in-Named.kind.now c.in-Named.port.now (view_optional (option_copied c.in-Named.expr)) c.without_port.result c.without_port.ensures.none)

pub without_port-requires-clause-meant : goal.without_port-requires-clause-meant
without_port-requires-clause-meant c = subst (λ (s : Site). IsMeantAt (setting_of c.args.netlist.now) (view_site s) c.args.meaning) c.in-Named.is c.requires.meant
