use Rattle.std.proofs.Common.{◌≡◌, ℕ, List, length, Some, sym, ap, subst, arith}
use Rattle.std.specs.Prelude.{slice_get}
use Rattle.std.specs.List.{AllZip, Contains}
use Rattle.bind_forms.specs.Binds.{BindsModuleAt}
use Rattle.bind_kinds.specs.Netlist.{setting_of}
use Rattle.verilog_bind.specs.Sound.{AreSoundModules}
use Rattle.verilog_bind.proofs.Whole.{modules_sound, top_within, place_within, bound_whole}
use Rattle.verilog_bind.proofs.modules.bind_modules.Goals as goal

pub bind_all-requires-clause-sound : goal.bind_all-requires-clause-sound
bind_all-requires-clause-sound c =
    subst (λ (l : List ℕ). AreSoundModules (setting_of c.args.netlist.now) l) (sym c.as_slice.ensures.value)
    (modules_sound c.instances_are_sites.ensures c.numbers_are_small.ensures (setting_of c.args.netlist.now) c.args.reached.now c.in_ok-all.all.places.items c.in_ok-all.all.numbers.items c.requires.tree c.requires.sound c.requires.flags
    c.in_ok-all.ensures c.requires.reached)

pub number_of-requires-clause-there : goal.number_of-requires-clause-there
number_of-requires-clause-there c =
    let within = top_within (setting_of c.args.netlist.now) c.args.reached.now c.in_ok-all.all.places.items c.in_ok-all.all.numbers.items c.args.top c.requires.top c.in_ok-all.ensures c.requires.reached in
    omega (arith, place_within c.args.reached.now c.in_ok-all.all.places.items c.in_ok-all.all.numbers.items c.args.top c.in_ok-all.ensures within, ap length c.as_slice-2.ensures.value)

pub number_of-requires-clause-bound : goal.number_of-requires-clause-bound
number_of-requires-clause-bound c =
    subst (λ (l : List ℕ). Contains l c.args.top) (sym c.as_slice.ensures.value)
    (top_within (setting_of c.args.netlist.now) c.args.reached.now c.in_ok-all.all.places.items c.in_ok-all.all.numbers.items c.args.top c.requires.top c.in_ok-all.ensures c.requires.reached)

pub returns : goal.returns
returns c =
    let modules : AllZip (BindsModuleAt (setting_of c.args.netlist.now) c.in_ok-all.all.places.items) c.in_ok-all.all.places.items c.in_ok-modules.modules
    = subst (λ (l : List ℕ). AllZip (BindsModuleAt (setting_of c.args.netlist.now) l) l c.in_ok-modules.modules) c.as_slice.ensures.value c.in_ok-modules.ensures in
    bound_whole (setting_of c.args.netlist.now) c.args.reached.now c.in_ok-all.all.places.items c.in_ok-all.all.numbers.items c.args.top (record { modules = c.in_ok-modules.modules; top = c.number_of.result }) c.requires.top c.in_ok-all.ensures
    c.requires.reached modules (subst (λ (l : List ℕ). slice_get l c.number_of.result ≡ Some c.args.top) c.as_slice.ensures.value c.number_of.ensures)
