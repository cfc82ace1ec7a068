use Rattle.verilog_tree.specs.Views.{view_links}
use Rattle.verilog_bind.specs.Numbered.{sites_in}
use Rattle.verilog_bind.specs.Sound.{setting_in}
use Rattle.verilog_bind.proofs.Meant.{ports_of}
use Rattle.verilog_bind.proofs.Standing.{sound_names, sound_links}
use Rattle.verilog_bind.proofs.binder.Binder.bind_instance.Goals as goal

pub bind_links-requires-clause-sound : goal.bind_links-requires-clause-sound
bind_links-requires-clause-sound c = sound_names (setting_in c.args.self.now) c.args.self.now.places.now (sites_in c.args.wires.now) c.requires.sound

pub bind_links-requires-clause-links : goal.bind_links-requires-clause-links
bind_links-requires-clause-links c =
    let ports = ports_of (setting_in c.args.self.now) c.args.self.now.places.now c.args.kind.name.now c.in_ok-meant.meant c.in_ok-meant.ensures in
    sound_links c.instances_are_sites.ensures (sites_in c.args.wires.now) c.requires.sites c.args.kind.name.now c.args.name.now (setting_in c.args.self.now) c.args.self.now.places.now ports.0 (view_links c.args.links.now) c.requires.sound ports.1
    c.requires.stands

pub returns : goal.returns
returns c =
    let ports = ports_of (setting_in c.args.self.now) c.args.self.now.places.now c.args.kind.name.now c.in_ok-meant.meant c.in_ok-meant.ensures in
    record { name = c.in_ok-of.ensures; kind = c.in_ok-meant.ensures; names = ports.0; ports = ports.1; links = c.in_ok-links.ensures ports.0 ports.1 }
