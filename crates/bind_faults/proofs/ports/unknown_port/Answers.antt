use Rattle.bind_sites.specs.View.{view_site}
use Rattle.bind_names.specs.Scoped.{sites_of}
use Rattle.bind_kinds.specs.Netlist.{setting_of}
use Rattle.bind_faults.proofs.Unknown.{unknown_found, unknown_none, past}
use Rattle.bind_faults.proofs.ports.unknown_port.Goals as goal

pub returns-in_err-here-clause-none : goal.returns-in_err-here-clause-none
returns-in_err-here-clause-none c = rw c.from_residual.ensures (past (setting_of c.args.netlist.now) c.args.at c.args.site c.in_err-here.ensures.none)

pub unknown_at-requires-clause-scope : goal.unknown_at-requires-clause-scope
unknown_at-requires-clause-scope c = c.in_ok-here.ensures.found.is_scope

pub unknown_at-requires-clause-meant : goal.unknown_at-requires-clause-meant
unknown_at-requires-clause-meant c = c.in_ok-here.ensures.found.meant

pub returns-clause-found : goal.returns-clause-found
returns-clause-found c =
    let here = c.in_ok-here.here in
    let found = c.in_ok-here.ensures.found in
    unknown_found (setting_of c.args.netlist.now) c.args.at c.args.site (sites_of here.scope.now) (view_site here.site.now) c.unknown_at.result found.sites found.there c.unknown_at.ensures.found

pub returns-clause-none : goal.returns-clause-none
returns-clause-none c =
    let here = c.in_ok-here.here in
    let found = c.in_ok-here.ensures.found in
    unknown_none (setting_of c.args.netlist.now) c.args.at c.args.site (sites_of here.scope.now) (view_site here.site.now) c.unknown_at.result found.sites found.there c.unknown_at.ensures.none
