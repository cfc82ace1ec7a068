use Rattle.std.proofs.Common.{subst}
use Rattle.bind_sites.specs.declared.site.Site.{Site}
use Rattle.bind_sites.specs.View.{view_site}
use Rattle.bind_kinds.specs.Netlist.{setting_of}
use Rattle.bind_kinds.specs.Meanings.{IsMeantAt}
use Rattle.bind_faults.proofs.ports.more_at.Goals as goal

pub more_links-requires-clause-meant : goal.more_links-requires-clause-meant
more_links-requires-clause-meant c = subst (λ (s : Site). IsMeantAt (setting_of c.args.netlist.now) (view_site s) c.args.meaning) c.in-Instance.is c.requires.meant
