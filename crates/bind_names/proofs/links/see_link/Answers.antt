use Rattle.std.proofs.Common.{map}
use Rattle.std.specs.Option.{option_copied}
use Rattle.verilog_tree.specs.Views.{view_links, view_optional}
use Rattle.bind_sites.specs.declared.site.Site.TheVariants as code
use Rattle.bind_sites.specs.View.{view_site}
use Rattle.bind_names.proofs.Known.{site_read}
use Rattle.bind_names.proofs.PortLinks.{linked_anew, instance_once, linked_more, named_linked, named_answer, linked_past, neither_once}
use Rattle.bind_names.proofs.links.see_link.Goals as goal

pub returns-in-Instance-clause-linked : goal.returns-in-Instance-clause-linked
returns-in-Instance-clause-linked c =
    let there = site_read c.args.sites.now c.args.at _ (code.Instance c.in-Instance.kind c.in-Instance.name c.in-Instance.links) c.requires.there c.in-Instance.is in
    linked_anew (map view_site c.args.sites.now) c.args.at c.in-Instance.kind.now c.in-Instance.name.now (view_links c.in-Instance.links.now) c.new.result there c.new.ensures

pub returns-in-Instance-clause-again : goal.returns-in-Instance-clause-again
returns-in-Instance-clause-again c =
    let there = site_read c.args.sites.now c.args.at _ (code.Instance c.in-Instance.kind c.in-Instance.name c.in-Instance.links) c.requires.there c.in-Instance.is in
    instance_once (map view_site c.args.sites.now) c.args.at c.in-Instance.kind.now c.in-Instance.name.now (view_links c.in-Instance.links.now) there

pub returns-in-Named-clause-linked : goal.returns-in-Named-clause-linked
returns-in-Named-clause-linked c =
    let there = site_read c.args.sites.now c.args.at _ (code.Named c.in-Named.kind c.in-Named.port c.in-Named.expr) c.requires.there c.in-Named.is in
    named_linked c.see_port.result c.see_port.ensures.seen
    (λ seen. linked_more (map view_site c.args.sites.now) c.args.at c.in-Named.kind.now c.in-Named.port.now (view_optional (option_copied c.in-Named.expr)) c.args.linked.now c.see_port.new.linked there seen
    c.requires.before)

pub returns-in-Named-clause-again : goal.returns-in-Named-clause-again
returns-in-Named-clause-again c =
    let there = site_read c.args.sites.now c.args.at _ (code.Named c.in-Named.kind c.in-Named.port c.in-Named.expr) c.requires.there c.in-Named.is in
    named_answer c.see_port.result (map view_site c.args.sites.now) c.args.at c.in-Named.kind.now c.in-Named.port.now (view_optional (option_copied c.in-Named.expr)) c.args.linked.now there c.requires.before
    c.see_port.ensures.again

pub returns-in_default : goal.returns-in_default
returns-in_default c = record {
  linked = linked_past c.args.sites.now c.args.at _ c.requires.there c.in_default.not-Instance c.in_default.not-Named c.args.linked.now c.requires.before;
  again = neither_once c.args.sites.now c.args.at _ c.requires.there c.in_default.not-Instance c.in_default.not-Named;
}
