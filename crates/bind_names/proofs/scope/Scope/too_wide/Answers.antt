use Rattle.std.proofs.Common.{sym}
use Rattle.bind_sites.specs.View.{view_site}
use Rattle.bind_names.specs.Scoped.{sites_of}
use Rattle.bind_names.proofs.Known.{site_there}
use Rattle.bind_names.proofs.Wide.{wide_found, wide_none, wide_unlisted}
use Rattle.bind_names.proofs.scope.Scope.too_wide.Goals as goal

pub returns-in-Some-clause-found : goal.returns-in-Some-clause-found
returns-in-Some-clause-found c =
    wide_found (sites_of c.args.self.now) c.args.at (view_site c.index-self-at.result) c.in-Some.name.now c.wide_port.result
    (site_there c.args.self.now.sites.now c.args.at c.index-self-at.result c.requires.there c.index-self-at.is) (sym (rw (c.in-Some.is, ← c.index-self-at.is) at c.name.ensures)) c.wide_port.ensures.found

pub returns-in-Some-clause-none : goal.returns-in-Some-clause-none
returns-in-Some-clause-none c =
    wide_none (sites_of c.args.self.now) c.args.at (view_site c.index-self-at.result) c.in-Some.name.now c.wide_port.result
    (site_there c.args.self.now.sites.now c.args.at c.index-self-at.result c.requires.there c.index-self-at.is) (sym (rw (c.in-Some.is, ← c.index-self-at.is) at c.name.ensures)) c.wide_port.ensures.none

pub returns-in-None-clause-none : goal.returns-in-None-clause-none
returns-in-None-clause-none c =
    wide_unlisted (sites_of c.args.self.now) c.args.at (view_site c.index-self-at.result)
    (site_there c.args.self.now.sites.now c.args.at c.index-self-at.result c.requires.there c.index-self-at.is) (sym (rw (c.in-None.is, ← c.index-self-at.is) at c.name.ensures))
