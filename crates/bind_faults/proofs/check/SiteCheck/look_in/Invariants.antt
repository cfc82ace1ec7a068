use Rattle.bind_names.specs.Scoped.{sites_of}
use Rattle.bind_kinds.specs.Netlist.{setting_of}
use Rattle.bind_faults.specs.declared.check.Check.TheVariants.{EachSite}
use Rattle.bind_faults.specs.Checks.{HasNoneBefore}
use Rattle.bind_faults.proofs.check.SiteCheck.look_in.Given as goal

abbrev pub invariant-loop-site : goal.invariant-loop-site
invariant-loop-site l = HasNoneBefore (EachSite l.self) (setting_of l.netlist) (sites_of l.scope) l.site
