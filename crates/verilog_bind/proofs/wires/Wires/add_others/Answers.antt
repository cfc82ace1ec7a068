use Rattle.std.proofs.Common.{List, map, ap, ◌∙◌, arith, Bor}
use Rattle.std.proofs.lemmas.List.{length-map}
use Rattle.bind_sites.specs.declared.site.Site.{Site as CodeSite}
use Rattle.bind_sites.specs.View.{view_site}
use Rattle.bind_names.specs.Scoped.{sites_of}
use Rattle.verilog_bind.proofs.Numbering.{finished}
use Rattle.verilog_bind.proofs.wires.Wires.add_others.Goals as goal

pub returns-clause-wires : goal.returns-clause-wires
returns-clause-wires c =
    finished (sites_of c.args.scope.now) c.loop-at.self c.loop-at.at (ap (λ (s : Bor (List CodeSite)). map view_site s.now) (c.loop-at.invariant.sites ∙ c.requires.sites))
    (omega (arith, c.loop-at-test.false, c.loop-at.auto.at-end, length-map c.args.scope.now.sites.now view_site)) c.requires.sound c.loop-at.invariant.others
