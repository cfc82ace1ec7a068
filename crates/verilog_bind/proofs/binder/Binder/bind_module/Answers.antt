use Rattle.std.proofs.Common.{◌≡◌, List, Some, sym, ◌∙◌, subst}
use Rattle.std.specs.Prelude.{slice_get}
use Rattle.verilog_tree.specs.Views.{view_module}
use Rattle.bind_sites.specs.Sites.{Site, sites}
use Rattle.verilog_bind.specs.Fitting.{IsSound}
use Rattle.verilog_bind.specs.Numbered.{sites_in}
use Rattle.verilog_bind.specs.Sound.{setting_in, IsSoundModule}
use Rattle.verilog_bind.proofs.Standing.{sound_names}
use Rattle.verilog_bind.proofs.Whole.{module_read, scope_read, scope_missing, module_bound}
use Rattle.verilog_bind.proofs.binder.Binder.bind_module.Goals as goal

pub unreachable-requires-in_default-get : goal.unreachable-requires-in_default-get
unreachable-requires-in_default-get c =
    let there : slice_get (setting_in c.args.self.now).modules c.args.at ≡ Some (view_module c.in-Some.owner.now)
    = module_read view_module c.args.self.now.netlist.now.source.now.modules c.args.at c.get.result c.in-Some.owner c.get.ensures c.in-Some.is in
    scope_missing (setting_in c.args.self.now).modules c.args.self.now.netlist.now.scopes.now c.args.at (view_module c.in-Some.owner.now) c.requires.binder.netlist.scopes there c.in_default-get.ensures.lookup.3

pub of-requires-clause-scope : goal.of-requires-clause-scope
of-requires-clause-scope c =
    let there : slice_get (setting_in c.args.self.now).modules c.args.at ≡ Some (view_module c.in-Some.owner.now)
    = module_read view_module c.args.self.now.netlist.now.source.now.modules c.args.at c.get.result c.in-Some.owner c.get.ensures c.in-Some.is in
    let scope = scope_read (setting_in c.args.self.now).modules c.args.self.now.netlist.now.scopes.now c.args.at (view_module c.in-Some.owner.now) c.in-Some-get.scope.now c.requires.binder.netlist.scopes there c.in-Some-get.ensures.lookup.1 in
    scope.is_scope

pub of-requires-clause-sound : goal.of-requires-clause-sound
of-requires-clause-sound c =
    let there : slice_get (setting_in c.args.self.now).modules c.args.at ≡ Some (view_module c.in-Some.owner.now)
    = module_read view_module c.args.self.now.netlist.now.source.now.modules c.args.at c.get.result c.in-Some.owner c.get.ensures c.in-Some.is in
    let scope = scope_read (setting_in c.args.self.now).modules c.args.self.now.netlist.now.scopes.now c.args.at (view_module c.in-Some.owner.now) c.in-Some-get.scope.now c.requires.binder.netlist.scopes there c.in-Some-get.ensures.lookup.1 in
    subst (λ (l : List Site). IsSound l) (sym scope.sites_are) (sound_names (setting_in c.args.self.now) c.args.self.now.places.now (sites (view_module c.in-Some.owner.now)) (c.requires.sound (view_module c.in-Some.owner.now) there))

pub assigns-requires-clause-sound : goal.assigns-requires-clause-sound
assigns-requires-clause-sound c =
    let there : slice_get (setting_in c.args.self.now).modules c.args.at ≡ Some (view_module c.in-Some.owner.now)
    = module_read view_module c.args.self.now.netlist.now.source.now.modules c.args.at c.get.result c.in-Some.owner c.get.ensures c.in-Some.is in
    let scope = scope_read (setting_in c.args.self.now).modules c.args.self.now.netlist.now.scopes.now c.args.at (view_module c.in-Some.owner.now) c.in-Some-get.scope.now c.requires.binder.netlist.scopes there c.in-Some-get.ensures.lookup.1 in
    let are : sites_in c.in_ok-wires.wires ≡ sites (view_module c.in-Some.owner.now) = c.in_ok-wires.ensures.sites ∙ scope.sites_are in
    subst (λ (l : List Site). IsSound l) (sym are) (sound_names (setting_in c.args.self.now) c.args.self.now.places.now (sites (view_module c.in-Some.owner.now)) (c.requires.sound (view_module c.in-Some.owner.now) there))

pub assigns-requires-clause-sites : goal.assigns-requires-clause-sites
assigns-requires-clause-sites c =
    let there : slice_get (setting_in c.args.self.now).modules c.args.at ≡ Some (view_module c.in-Some.owner.now)
    = module_read view_module c.args.self.now.netlist.now.source.now.modules c.args.at c.get.result c.in-Some.owner c.get.ensures c.in-Some.is in
    let scope = scope_read (setting_in c.args.self.now).modules c.args.self.now.netlist.now.scopes.now c.args.at (view_module c.in-Some.owner.now) c.in-Some-get.scope.now c.requires.binder.netlist.scopes there c.in-Some-get.ensures.lookup.1 in
    let are : sites_in c.in_ok-wires.wires ≡ sites (view_module c.in-Some.owner.now) = c.in_ok-wires.ensures.sites ∙ scope.sites_are in
    (view_module c.in-Some.owner.now, are)

pub instances-requires-clause-sound : goal.instances-requires-clause-sound
instances-requires-clause-sound c =
    let there : slice_get (setting_in c.args.self.now).modules c.args.at ≡ Some (view_module c.in-Some.owner.now)
    = module_read view_module c.args.self.now.netlist.now.source.now.modules c.args.at c.get.result c.in-Some.owner c.get.ensures c.in-Some.is in
    let scope = scope_read (setting_in c.args.self.now).modules c.args.self.now.netlist.now.scopes.now c.args.at (view_module c.in-Some.owner.now) c.in-Some-get.scope.now c.requires.binder.netlist.scopes there c.in-Some-get.ensures.lookup.1 in
    let are : sites_in c.in_ok-wires.wires ≡ sites (view_module c.in-Some.owner.now) = c.in_ok-wires.ensures.sites ∙ scope.sites_are in
    subst (λ (l : List Site). IsSoundModule (setting_in c.args.self.now) c.args.self.now.places.now l) (sym are) (c.requires.sound (view_module c.in-Some.owner.now) there)

pub instances-requires-clause-has : goal.instances-requires-clause-has
instances-requires-clause-has c =
    let there : slice_get (setting_in c.args.self.now).modules c.args.at ≡ Some (view_module c.in-Some.owner.now)
    = module_read view_module c.args.self.now.netlist.now.source.now.modules c.args.at c.get.result c.in-Some.owner c.get.ensures c.in-Some.is in
    let scope = scope_read (setting_in c.args.self.now).modules c.args.self.now.netlist.now.scopes.now c.args.at (view_module c.in-Some.owner.now) c.in-Some-get.scope.now c.requires.binder.netlist.scopes there c.in-Some-get.ensures.lookup.1 in
    record { owner = view_module c.in-Some.owner.now; there = there; sites_are = c.in_ok-wires.ensures.sites ∙ scope.sites_are }

pub instances-requires-clause-sites : goal.instances-requires-clause-sites
instances-requires-clause-sites c =
    let there : slice_get (setting_in c.args.self.now).modules c.args.at ≡ Some (view_module c.in-Some.owner.now)
    = module_read view_module c.args.self.now.netlist.now.source.now.modules c.args.at c.get.result c.in-Some.owner c.get.ensures c.in-Some.is in
    let scope = scope_read (setting_in c.args.self.now).modules c.args.self.now.netlist.now.scopes.now c.args.at (view_module c.in-Some.owner.now) c.in-Some-get.scope.now c.requires.binder.netlist.scopes there c.in-Some-get.ensures.lookup.1 in
    let are : sites_in c.in_ok-wires.wires ≡ sites (view_module c.in-Some.owner.now) = c.in_ok-wires.ensures.sites ∙ scope.sites_are in
    (view_module c.in-Some.owner.now, are)

pub returns : goal.returns
returns c =
    let there : slice_get (setting_in c.args.self.now).modules c.args.at ≡ Some (view_module c.in-Some.owner.now)
    = module_read view_module c.args.self.now.netlist.now.source.now.modules c.args.at c.get.result c.in-Some.owner c.get.ensures c.in-Some.is in
    let scope = scope_read (setting_in c.args.self.now).modules c.args.self.now.netlist.now.scopes.now c.args.at (view_module c.in-Some.owner.now) c.in-Some-get.scope.now c.requires.binder.netlist.scopes there c.in-Some-get.ensures.lookup.1 in
    let are : sites_in c.in_ok-wires.wires ≡ sites (view_module c.in-Some.owner.now) = c.in_ok-wires.ensures.sites ∙ scope.sites_are in
    module_bound (setting_in c.args.self.now) c.args.self.now.places.now c.args.at (view_module c.in-Some.owner.now) c.in_ok-wires.wires _ there are c.in_ok-wires.ensures.wires (c.in_ok-of.ensures ∙ c.as_str.ensures)
    (c.in_ok-wires.ensures.ports (view_module c.in-Some.owner.now) scope.sites_are) c.into_parts-ports.ensures.ports c.into_parts-ports.ensures.wires
    (c.in_ok-assigns.ensures (view_module c.in-Some.owner.now) are) (c.in_ok-instances.ensures (view_module c.in-Some.owner.now) are)
