use Rattle.std.proofs.Common.{◌≡◌, List, map, ap, ◌∙◌, Bor}
use Rattle.bind_sites.specs.declared.site.Site.{Site as CodeSite}
use Rattle.bind_sites.specs.View.{view_site}
use Rattle.bind_names.specs.Scoped.{sites_of}
use Rattle.verilog_bind.specs.Numbered.{sites_in}
use Rattle.verilog_bind.proofs.Numbering.{ports_in_order}
use Rattle.verilog_bind.proofs.wires.Wires.of.Goals as goal

pub returns-clause-ports : goal.returns-clause-ports
returns-clause-ports c =
    let are : sites_in c.add_others.new.self ≡ sites_of c.args.scope.now = ap (λ (s : Bor (List CodeSite)). map view_site s.now) (c.add_others.ensures.sites ∙ c.add_ports.ensures.sites) in
    ports_in_order (sites_of c.args.scope.now) c.add_others.new.self are c.in_ok-add_others.ensures.wires
