use Rattle.std.proofs.Common.{◌≡◌, ◌∙◌, List, ℕ}
use Rattle.std.proofs.lemmas.Result.{IfOk-weaker}
use Rattle.bind_forms.specs.Modules.{IsModuleNamed}
use Rattle.bind_kinds.specs.Netlist.{setting_of}
use Rattle.bind_faults.proofs.OneTop.{named_at}
use Rattle.bind_faults.proofs.tops.module_name.Goals as goal

pub returns : goal.returns
returns c =
    IfOk-weaker c.of.result (λ (name : List ℕ). name ≡ c.as_str.result.now) (λ (name : List ℕ). IsModuleNamed (setting_of c.args.netlist.now) c.args.at name)
    (λ name is. named_at c.args.netlist.now.source.now.modules c.as_slice.result.now c.args.at c.index-as_slice-at.result name c.as_slice.ensures c.requires (is ∙ c.as_str.ensures)) c.of.ensures
