use Rattle.std.proofs.Common.{sym, subst, arith}
use Rattle.bind_names.specs.Scoped.{sites_of}
use Rattle.bind_kinds.specs.Netlist.{setting_of}
use Rattle.bind_faults.specs.declared.check.SiteCheck.{SiteCheck}
use Rattle.bind_faults.specs.Order.{rank, IsClear}
use Rattle.bind_faults.specs.Checks.{site_line, AnswersAt}
use Rattle.bind_faults.proofs.Places.{no_double}
use Rattle.bind_faults.proofs.check.SiteCheck.look_at.Goals as goal

pub refuse_width-requires-clause-before : goal.refuse_width-requires-clause-before
refuse_width-requires-clause-before c = subst (λ (k : SiteCheck). IsClear (setting_of c.args.netlist.now) (rank (site_line k))) c.in-Widths.is c.requires.before

pub refuse_range-requires-clause-single : goal.refuse_range-requires-clause-single
refuse_range-requires-clause-single c =
    no_double (setting_of c.args.netlist.now) 8 c.args.at (sites_of c.args.scope.now) (omega arith) (subst (λ (k : SiteCheck). IsClear (setting_of c.args.netlist.now) (rank (site_line k))) c.in-Ranges.is c.requires.before) c.requires.sites

pub refuse_port_width-requires-clause-single : goal.refuse_port_width-requires-clause-single
refuse_port_width-requires-clause-single c =
    no_double (setting_of c.args.netlist.now) 10 c.args.at (sites_of c.args.scope.now) (omega arith) (subst (λ (k : SiteCheck). IsClear (setting_of c.args.netlist.now) (rank (site_line k))) c.in-WidthLimits.is c.requires.before) c.requires.sites

pub returns-in-Kinds : goal.returns-in-Kinds
returns-in-Kinds c = subst (λ (k : SiteCheck). AnswersAt k (setting_of c.args.netlist.now) (sites_of c.args.scope.now) c.args.site c.unknown_kind.result) (sym c.in-Kinds.is) c.unknown_kind.ensures

pub returns-in-UnknownPorts : goal.returns-in-UnknownPorts
returns-in-UnknownPorts c = subst (λ (k : SiteCheck). AnswersAt k (setting_of c.args.netlist.now) (sites_of c.args.scope.now) c.args.site c.refuse_port.result) (sym c.in-UnknownPorts.is) (c.refuse_port.ensures (sites_of c.args.scope.now) c.requires.sites.has)

pub returns-in-TooManyLinks : goal.returns-in-TooManyLinks
returns-in-TooManyLinks c = subst (λ (k : SiteCheck). AnswersAt k (setting_of c.args.netlist.now) (sites_of c.args.scope.now) c.args.site c.refuse_links.result) (sym c.in-TooManyLinks.is) (c.refuse_links.ensures (sites_of c.args.scope.now) c.requires.sites.has)

pub returns-in-UnknownNames : goal.returns-in-UnknownNames
returns-in-UnknownNames c = subst (λ (k : SiteCheck). AnswersAt k (setting_of c.args.netlist.now) (sites_of c.args.scope.now) c.args.site c.refuse_name.result) (sym c.in-UnknownNames.is) (c.refuse_name.ensures (setting_of c.args.netlist.now))

pub returns-in-Ranges : goal.returns-in-Ranges
returns-in-Ranges c = subst (λ (k : SiteCheck). AnswersAt k (setting_of c.args.netlist.now) (sites_of c.args.scope.now) c.args.site c.refuse_range.result) (sym c.in-Ranges.is) (c.refuse_range.ensures (setting_of c.args.netlist.now))

pub returns-in-Widths : goal.returns-in-Widths
returns-in-Widths c = subst (λ (k : SiteCheck). AnswersAt k (setting_of c.args.netlist.now) (sites_of c.args.scope.now) c.args.site c.refuse_width.result) (sym c.in-Widths.is) (c.refuse_width.ensures (sites_of c.args.scope.now) c.requires.sites.has)

pub returns-in-WidthLimits : goal.returns-in-WidthLimits
returns-in-WidthLimits c = subst (λ (k : SiteCheck). AnswersAt k (setting_of c.args.netlist.now) (sites_of c.args.scope.now) c.args.site c.refuse_port_width.result) (sym c.in-WidthLimits.is) (c.refuse_port_width.ensures (setting_of c.args.netlist.now))
