use Rattle.bind_names.specs.Scoped.{sites_of}
use Rattle.bind_sites.specs.View.{view_site}
use Rattle.std.proofs.Common.{get_or}
use Rattle.bind_kinds.specs.Netlist.{setting_of}
use Rattle.bind_faults.proofs.KindNames.{site_read, none_unknown, unknown_is, known_none}
use Rattle.bind_faults.proofs.kinds.find_unknown_kind.Goals as goal

pub returns-in-Some-clause-found : goal.returns-in-Some-clause-found
returns-in-Some-clause-found c =
    let sites = c.args.scope.now.sites.now in
    unknown_is (setting_of c.args.netlist.now) (sites_of c.args.scope.now) c.args.site (view_site (get_or sites c.args.site c.index-scope-site.result)) (site_read sites c.args.site c.index-scope-site.result c.requires.there)
    c.in-Some.name.now c.meaning_at.result c.unless_kind.result c.in-Some.ensures
    (c.meaning_at.ensures (sites_of c.args.scope.now) (view_site (get_or sites c.args.site c.index-scope-site.result)) c.requires.sites (site_read sites c.args.site c.index-scope-site.result c.requires.there)) c.unless_kind.ensures.found

pub returns-in-Some-clause-none : goal.returns-in-Some-clause-none
returns-in-Some-clause-none c =
    let sites = c.args.scope.now.sites.now in
    known_none (setting_of c.args.netlist.now) (sites_of c.args.scope.now) c.args.site (view_site (get_or sites c.args.site c.index-scope-site.result)) (site_read sites c.args.site c.index-scope-site.result c.requires.there)
    c.in-Some.name.now c.meaning_at.result c.unless_kind.result c.in-Some.ensures
    (c.meaning_at.ensures (sites_of c.args.scope.now) (view_site (get_or sites c.args.site c.index-scope-site.result)) c.requires.sites (site_read sites c.args.site c.index-scope-site.result c.requires.there)) c.unless_kind.ensures.none

pub returns-in-None-clause-none : goal.returns-in-None-clause-none
returns-in-None-clause-none c =
    let sites = c.args.scope.now.sites.now in
    none_unknown (setting_of c.args.netlist.now) (sites_of c.args.scope.now) c.args.site (view_site (get_or sites c.args.site c.index-scope-site.result)) (site_read sites c.args.site c.index-scope-site.result c.requires.there)
    c.in-None.ensures
