use Rattle.std.proofs.Common.{◌+◌, List, ℕ, take, sym, subst}
use Rattle.std.specs.List.{AllZip}
use Rattle.bind_forms.specs.Modules.{IsModuleNamed}
use Rattle.bind_kinds.specs.Netlist.{setting_of}
use Rattle.bind_faults.proofs.Places.{zip_more}
use Rattle.bind_faults.proofs.rings.module_names.Goals as goal

pub loop-at-preserved : goal.loop-at-preserved
loop-at-preserved c =
    let named : ℕ → List ℕ → Type 0 = IsModuleNamed (setting_of c.args.netlist.now) in
    subst (λ (names : List (List ℕ)). AllZip named (take (c.loop-at.at-index + 1) c.args.places.now) names) (sym c.in_ok-push.ensures.ok)
    (zip_more named c.args.places.now c.loop-at.names c.loop-at.at-index 0 c.in_ok-module_name.field-0 c.loop-at-test.true c.loop-at.invariant c.in_ok-module_name.ensures)
