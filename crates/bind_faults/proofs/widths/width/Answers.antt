use Rattle.bind_sites.specs.View.{view_site}
use Rattle.bind_names.specs.Scoped.{sites_of}
use Rattle.bind_kinds.specs.Netlist.{setting_of}
use Rattle.bind_faults.proofs.Sides.{own_single, few_at, differ_found, differ_none, no_widths, past}
use Rattle.bind_faults.proofs.widths.width.Goals as goal

pub returns-in_err-here-clause-none : goal.returns-in_err-here-clause-none
returns-in_err-here-clause-none c = rw c.from_residual.ensures (past (setting_of c.args.netlist.now) c.args.at c.args.site c.in_err-here.ensures.none)

pub widths_at-requires-clause-scope : goal.widths_at-requires-clause-scope
widths_at-requires-clause-scope c = c.in_ok-here.ensures.found.is_scope

pub widths_at-requires-clause-meant : goal.widths_at-requires-clause-meant
widths_at-requires-clause-meant c = c.in_ok-here.ensures.found.meant

pub widths_at-requires-clause-single : goal.widths_at-requires-clause-single
widths_at-requires-clause-single c = own_single (setting_of c.args.netlist.now) c.args.at (sites_of c.in_ok-here.here.scope.now) c.requires.reached c.requires.single c.in_ok-here.ensures.found.sites

pub widths_at-requires-clause-few : goal.widths_at-requires-clause-few
widths_at-requires-clause-few c =
    let here = c.in_ok-here.here in
    let found = c.in_ok-here.ensures.found in
    let all = sites_of here.scope.now in
    few_at (setting_of c.args.netlist.now) c.args.at c.args.site all (view_site here.site.now) found.sites found.there (c.requires.fits all found.sites)

pub returns-in_err-widths_at-clause-none : goal.returns-in_err-widths_at-clause-none
returns-in_err-widths_at-clause-none c =
    let here = c.in_ok-here.here in
    let found = c.in_ok-here.ensures.found in
    rw c.from_residual-in_err-widths_at.ensures (no_widths (setting_of c.args.netlist.now) c.args.at c.args.site (sites_of here.scope.now) (view_site here.site.now) found.sites found.there c.in_err-widths_at.ensures.none)

pub returns-clause-found : goal.returns-clause-found
returns-clause-found c =
    let here = c.in_ok-here.here in
    let found = c.in_ok-here.ensures.found in
    differ_found (setting_of c.args.netlist.now) c.args.at c.args.site (sites_of here.scope.now) (view_site here.site.now) c.in_ok-widths_at.field-0 c.unless_same.result found.sites found.there c.in_ok-widths_at.ensures.found c.unless_same.ensures.found

pub returns-clause-none : goal.returns-clause-none
returns-clause-none c =
    let here = c.in_ok-here.here in
    let found = c.in_ok-here.ensures.found in
    differ_none c.kinds_are_one.ensures c.ports_are_one.ensures c.ranges_are_one.ensures (setting_of c.args.netlist.now) c.args.at c.args.site (sites_of here.scope.now) (view_site here.site.now) c.in_ok-widths_at.field-0 c.unless_same.result
    c.requires.reached c.requires.single found.sites found.there c.in_ok-widths_at.ensures.found c.unless_same.ensures.none
