use Rattle.std.proofs.Common.{None, map, take, drop}
use Rattle.std.specs.List.{AllZip}
use Rattle.bind_sites.specs.View.{view_site}
use Rattle.bind_forms.specs.Modules.{Setting}
use Rattle.bind_kinds.specs.Meanings.{IsMeantAt, AreLinked}
use Rattle.bind_kinds.proofs.sited.site_meanings.Given as goal

abbrev pub invariant-loop-site : goal.invariant-loop-site
invariant-loop-site l =
    (setting : Setting) → AreLinked setting None (map view_site l.sites) l.initial.rest
    → AllZip (IsMeantAt setting) (take l.site-index (map view_site l.sites)) l.meanings × AreLinked setting l.last (drop l.site-index (map view_site l.sites)) l.rest
