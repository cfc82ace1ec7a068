use Rattle.verilog_tree.specs.Views.{view_links}
use Rattle.bind_sites.specs.declared.site.Site.TheVariants as code
use Rattle.bind_sites.specs.Sites.{Instance}
use Rattle.verilog_bind.specs.Numbered.{sites_in}
use Rattle.verilog_bind.specs.Sound.{setting_in}
use Rattle.verilog_bind.proofs.Zips.{after}
use Rattle.verilog_bind.proofs.Standing.{read, instance_more, instance_none}
use Rattle.verilog_bind.proofs.binder.Binder.add_instance.Goals as goal

pub bind_instance-requires-clause-stands : goal.bind_instance-requires-clause-stands
bind_instance-requires-clause-stands c = (c.args.at, read c.args.wires.now.sites.now c.args.at _ (code.Instance c.in-Instance.kind c.in-Instance.name c.in-Instance.links) c.requires.there c.in-Instance.is)

pub returns-in_ok-bind_instance-in-Instance : goal.returns-in_ok-bind_instance-in-Instance
returns-in_ok-bind_instance-in-Instance c =
    let there = read c.args.wires.now.sites.now c.args.at _ (code.Instance c.in-Instance.kind c.in-Instance.name c.in-Instance.links) c.requires.there c.in-Instance.is in
    after c.push.result c.push.ensures.ok
    (λ pushed. instance_more (setting_in c.args.self.now) c.args.self.now.places.now c.args.wires.now.list (sites_in c.args.wires.now) c.args.at c.in-Instance.kind.now c.in-Instance.name.now (view_links c.in-Instance.links.now)
    c.args.bound.now c.push.new.self c.in_ok-bind_instance-in-Instance.field-0 there c.requires.before c.in_ok-bind_instance-in-Instance.ensures pushed)

pub returns-in_default : goal.returns-in_default
returns-in_default c =
    instance_none (setting_in c.args.self.now) c.args.self.now.places.now c.args.wires.now.list c.args.wires.now.sites.now c.args.at _ c.args.bound.now c.requires.there c.in_default.not-Instance c.requires.before

pub bind_instance-requires-clause-meant : goal.bind_instance-requires-clause-meant
bind_instance-requires-clause-meant c =
    let there = read c.args.wires.now.sites.now c.args.at _ (code.Instance c.in-Instance.kind c.in-Instance.name c.in-Instance.links) c.requires.there c.in-Instance.is in
    c.meaning_at.ensures (sites_in c.args.wires.now) (Instance c.in-Instance.kind.now c.in-Instance.name.now (view_links c.in-Instance.links.now)) c.requires.has there
