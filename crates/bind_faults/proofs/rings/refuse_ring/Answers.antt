use Rattle.std.proofs.Common.{◌<◌, ℕ, List, Option, Vec, Global, length, sym, subst}
use Rattle.std.specs.List.{All, AllZip}
use Rattle.verilog_tree.specs.Views.{view_source}
use Rattle.bind_forms.specs.First.{Rings}
use Rattle.bind_forms.specs.Modules.{IsModuleNamed}
use Rattle.bind_forms.specs.declared.fault.BindFault.TheVariants as fault
use Rattle.bind_kinds.specs.Netlist.{setting_of}
use Rattle.bind_faults.proofs.Order.{first_fault, clear_more}
use Rattle.bind_faults.proofs.RingNames.{FoundRing, first_ring, no_ring, ring_below}
use Rattle.bind_faults.proofs.rings.refuse_ring.Goals as goal

pub module_names-requires : goal.module_names-requires
module_names-requires c =
    let modules = view_source c.args.netlist.now.source.now in
    let found = subst (λ (o : Option (Vec ℕ Global)). FoundRing modules c.args.top o) c.in-Some.is c.requires.reach.ring_is in
    subst (λ (l : List ℕ). All (λ n. n < length modules) l) (sym c.as_slice.ensures.value) (ring_below modules c.args.top c.in-Some.ring.items found)

pub returns-in_ok-module_names-in-Some-clause-answer : goal.returns-in_ok-module_names-in-Some-clause-answer
returns-in_ok-module_names-in-Some-clause-answer c = λ other.
    let setting = setting_of c.args.netlist.now in
    let found = subst (λ (o : Option (Vec ℕ Global)). FoundRing setting.modules c.args.top o) c.in-Some.is c.requires.reach.ring_is in
    let names = c.in_ok-module_names-in-Some.field-0 in
    first_fault setting Rings (fault.Recursive names) c.requires.before
    (first_ring setting c.args.top c.requires.top c.in-Some.ring.items names found (subst (λ (l : List ℕ). AllZip (IsModuleNamed setting) l names) c.as_slice.ensures.value c.in_ok-module_names-in-Some.ensures))

pub returns-in-None-clause-answer : goal.returns-in-None-clause-answer
returns-in-None-clause-answer c =
    let setting = setting_of c.args.netlist.now in
    let found = subst (λ (o : Option (Vec ℕ Global)). FoundRing setting.modules c.args.top o) c.in-None.is c.requires.reach.ring_is in
    clear_more setting Rings c.requires.before (no_ring setting c.args.top c.requires.top found)
