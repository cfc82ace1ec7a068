use Rattle.std.proofs.Common.{map, sym}
use Rattle.bind_sites.specs.View.{view_site}
use Rattle.bind_names.proofs.FirstPlaces.{index_none, index_some, site_at, both}
use Rattle.bind_names.proofs.index.Index.add.Goals as goal

pub returns-in-None : goal.returns-in-None
returns-in-None c =
    index_none c.args.sort (map view_site c.args.sites.now) c.args.at (view_site c.index-sites-at.result) c.args.self.now
    (site_at c.args.sites.now c.args.at c.index-sites-at.result c.requires.there c.index-sites-at.is) (sym (rw c.in-None.is at c.name.ensures)) c.requires.before

pub returns-in-Some : goal.returns-in-Some
returns-in-Some c =
    both c.give.result c.give.ensures.seen c.give.ensures.again
    (λ seen again. index_some c.args.sort (map view_site c.args.sites.now) c.args.at (view_site c.index-sites-at.result) c.in-Some.name c.args.self.now c.give.new.self
    (site_at c.args.sites.now c.args.at c.index-sites-at.result c.requires.there c.index-sites-at.is) (sym (rw c.in-Some.is at c.name.ensures)) seen again c.requires.before)
