use Rattle.bind_sites.specs.View.{view_site}
use Rattle.bind_names.specs.Scoped.{sites_of}
use Rattle.bind_kinds.specs.Netlist.{setting_of}
use Rattle.bind_faults.proofs.More.{many_found, many_none, past}
use Rattle.bind_faults.proofs.ports.too_many.Goals as goal

pub returns-in_err-here-clause-none : goal.returns-in_err-here-clause-none
returns-in_err-here-clause-none c = rw c.from_residual.ensures (past (setting_of c.args.netlist.now) c.args.at c.args.site c.in_err-here.ensures.none)

pub returns-clause-found : goal.returns-clause-found
returns-clause-found c =
    let here = c.in_ok-here.here in
    let found = c.in_ok-here.ensures.found in
    many_found (setting_of c.args.netlist.now) c.args.at c.args.site (sites_of here.scope.now) (view_site here.site.now) c.more_at.result found.sites found.there c.more_at.ensures.found

pub returns-clause-none : goal.returns-clause-none
returns-clause-none c =
    let here = c.in_ok-here.here in
    let found = c.in_ok-here.ensures.found in
    many_none (setting_of c.args.netlist.now) c.args.at c.args.site (sites_of here.scope.now) (view_site here.site.now) c.more_at.result found.sites found.there c.more_at.ensures.none

pub more_at-requires-clause-meant : goal.more_at-requires-clause-meant
more_at-requires-clause-meant c = c.in_ok-here.ensures.found.meant
