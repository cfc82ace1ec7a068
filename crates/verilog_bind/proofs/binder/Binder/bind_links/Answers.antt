use Rattle.std.proofs.Common.{◌≡◌, List, ℕ, map, IfOk, ap, sym, subst, ◌∙◌}
use Rattle.verilog_tree.specs.Trees as tree
use Rattle.verilog_tree.specs.Views.{view_named, view_optional, view_links}
use Rattle.bind_forms.specs.Modules.{HasPorts}
use Rattle.bind_forms.specs.Binds.{BindsLinks}
use Rattle.verilog_bind.specs.Numbered.{sites_in}
use Rattle.verilog_bind.specs.Sound.{setting_in, AreSoundLinks}
use Rattle.verilog_bind.proofs.binder.Binder.bind_links.Goals as goal

pub bind_named-requires-clause-links : goal.bind_named-requires-clause-links
bind_named-requires-clause-links c =
    subst (λ (l : tree.Links). AreSoundLinks (setting_in c.args.self.now) (sites_in c.args.wires.now) c.args.kind.name.now l) (ap view_links c.in-Named.is ∙ ap (λ (l : List _). tree.Named (map view_named l)) (sym c.as_slice.ensures)) c.requires.links

pub bind_ordered-requires-clause-links : goal.bind_ordered-requires-clause-links
bind_ordered-requires-clause-links c =
    subst (λ (l : tree.Links). AreSoundLinks (setting_in c.args.self.now) (sites_in c.args.wires.now) c.args.kind.name.now l)
    (ap view_links c.in-Ordered.is ∙ ap (λ (l : List _). tree.Ordered (map view_optional l)) (sym c.as_slice-in-Ordered.ensures)) c.requires.links

pub returns-in-Named : goal.returns-in-Named
returns-in-Named c =
    let same : tree.Named (map view_named c.as_slice.result.now) ≡ view_links c.args.links.now = ap (λ (l : List _). tree.Named (map view_named l)) c.as_slice.ensures ∙ sym (ap view_links c.in-Named.is) in
    subst (λ (l : tree.Links). IfOk c.bind_named.result (λ bound. (names : List (List ℕ)) → HasPorts (setting_in c.args.self.now) c.args.kind.name.now names → BindsLinks names c.args.wires.now.list l bound)) same c.bind_named.ensures
