use Rattle.std.proofs.Common.{List, subst}
use Rattle.bind_sites.specs.Sites.{Site}
use Rattle.bind_sites.specs.Scope.{IsAt}
use Rattle.bind_sites.specs.View.{view_site}
use Rattle.bind_names.specs.Scoped.{sites_of}
use Rattle.bind_kinds.specs.Netlist.{setting_of}
use Rattle.bind_faults.proofs.Lookups.{owner_of, has_sites, no_sites, one_list, site_there, no_site}
use Rattle.bind_faults.proofs.lookup.look.Goals as goal

pub returns-in_err-scope-clause-none : goal.returns-in_err-scope-clause-none
returns-in_err-scope-clause-none c =
    let netlist = c.args.netlist.now in
    rw c.from_residual.ensures (λ all here has there. no_sites (setting_of netlist) netlist.scopes.now c.args.at all c.requires.scopes c.in_err-scope.ensures.lookup.3 has)

pub returns-in_err-here-clause-none : goal.returns-in_err-here-clause-none
returns-in_err-here-clause-none c =
    let netlist = c.args.netlist.now in
    let scope = c.in_ok-scope.scope.now in
    let found = c.in_ok-scope.ensures.lookup in
    let own = has_sites (setting_of netlist) netlist.scopes.now c.args.at scope c.requires.scopes found.3.0 found.1 in
    rw c.from_residual-in_err-here.ensures (λ all here has there.
    no_site scope.sites.now c.args.site here c.in_err-here.ensures.lookup.3 (subst (λ (l : List Site). IsAt l c.args.site here) (one_list (setting_of netlist) c.args.at all (sites_of scope) has own) there))

pub returns-clause-found : goal.returns-clause-found
returns-clause-found c =
    let netlist = c.args.netlist.now in
    let scope = c.in_ok-scope.scope.now in
    let found = c.in_ok-scope.ensures.lookup in
    let own = has_sites (setting_of netlist) netlist.scopes.now c.args.at scope c.requires.scopes found.3.0 found.1 in
    let here = c.in_ok-here.ensures.lookup in
    let stands = site_there scope.sites.now c.args.site c.in_ok-here.here.now here.3.0 here.1 in
    record {
      is_scope = (owner_of (setting_of netlist).modules netlist.scopes.now c.args.at scope c.requires.scopes found.3.0 found.1).2.is_scope;
      sites = own;
      there = stands;
      meant = c.meaning_at.ensures (sites_of scope) (view_site c.in_ok-here.here.now) own stands;
    }
