use Rattle.std.proofs.Common.{sym}
use Rattle.bind_sites.specs.View.{view_site}
use Rattle.bind_names.specs.Scoped.{sites_of}
use Rattle.bind_names.proofs.Known.{site_there, unknown_found, unknown_none, unwanted}
use Rattle.bind_names.proofs.scope.Scope.unknown_name.Goals as goal

pub returns-in-Some-clause-found : goal.returns-in-Some-clause-found
returns-in-Some-clause-found c =
    unknown_found (sites_of c.args.self.now) c.args.at (view_site c.index-self-at.result) c.in-Some.name.now c.unless_known.result
    (site_there c.args.self.now.sites.now c.args.at c.index-self-at.result c.requires.there c.index-self-at.is) (sym (rw (c.in-Some.is, ← c.index-self-at.is) at c.wanted_name.ensures)) c.unless_known.ensures.found

pub returns-in-Some-clause-none : goal.returns-in-Some-clause-none
returns-in-Some-clause-none c =
    unknown_none (sites_of c.args.self.now) c.args.at (view_site c.index-self-at.result) c.in-Some.name.now c.unless_known.result
    (site_there c.args.self.now.sites.now c.args.at c.index-self-at.result c.requires.there c.index-self-at.is) (sym (rw (c.in-Some.is, ← c.index-self-at.is) at c.wanted_name.ensures)) c.unless_known.ensures.none

pub returns-in-None-clause-none : goal.returns-in-None-clause-none
returns-in-None-clause-none c =
    unwanted (sites_of c.args.self.now) c.args.at (view_site c.index-self-at.result)
    (site_there c.args.self.now.sites.now c.args.at c.index-self-at.result c.requires.there c.index-self-at.is) (sym (rw (c.in-None.is, ← c.index-self-at.is) at c.wanted_name.ensures))
