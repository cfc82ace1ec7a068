use Rattle.std.proofs.Common.{List, Option, ◌+◌, map, take, drop, sym, subst}
use Rattle.std.specs.List.{AllZip}
use Rattle.bind_sites.specs.View.{view_site}
use Rattle.bind_hierarchy.specs.declared.kinds.Meaning.{Meaning}
use Rattle.bind_kinds.specs.Meanings.{IsMeantAt, AreLinked}
use Rattle.bind_kinds.proofs.Passed.{passed_more}
use Rattle.bind_kinds.proofs.sited.site_meanings.Goals as goal

pub loop-site-preserved : goal.loop-site-preserved
loop-site-preserved c = λ setting linked.
    let all = map view_site c.args.sites.now in
    let more = passed_more setting c.args.sites.now c.loop-site.site-index c.site-item.result c.loop-site.meanings c.loop-site.last c.pass_site.result.0 c.loop-site.rest.now c.pass_site.result.1.now c.loop-site-test.true c.site-item.is
    (c.loop-site.invariant setting linked) (λ others l. c.pass_site.ensures setting others l) in
    subst (λ (l : List (Option Meaning)). AllZip (IsMeantAt setting) (take (c.loop-site.site-index + 1) all) l × AreLinked setting c.pass_site.result.0 (drop (c.loop-site.site-index + 1) all) c.pass_site.result.1.now)
    (sym c.in_ok-push.ensures.ok) more
