use Rattle.std.proofs.Common.{List, Option, ◌+◌, take, sym, subst}
use Rattle.std.specs.List.{AllZip}
use Rattle.verilog_tree.specs.Views.{view_module, view_source}
use Rattle.bind_hierarchy.specs.declared.kinds.Meaning.{Meaning}
use Rattle.bind_forms.specs.Modules.{setting}
use Rattle.bind_kinds.specs.Netlist.{AreMeaningsOf}
use Rattle.bind_kinds.proofs.Laid.{no_module, owner_there, same_sites}
use Rattle.bind_kinds.proofs.Ports.{holder_there}
use Rattle.bind_kinds.proofs.Zips.{zip_next}
use Rattle.bind_kinds.proofs.sited.meanings_of.Goals as goal

pub unreachable-requires : goal.unreachable-requires
unreachable-requires c =
    let owner = owner_there c.args.all.now (view_source c.args.source.now) c.loop-at.at c.index-all-at.result c.requires c.loop-at-test.true in
    no_module c.args.source.now.modules c.loop-at.at c.get.result owner.0 c.get.ensures c.in_default.not-Some owner.1

pub module_meanings-requires : goal.module_meanings-requires
module_meanings-requires c =
    let there = holder_there c.args.source.now.modules c.loop-at.at c.get.result c.in-Some.owner c.get.ensures c.in-Some.is in
    same_sites c.args.all.now (view_source c.args.source.now) c.loop-at.at c.index-all-at.result (view_module c.in-Some.owner.now) c.requires c.loop-at-test.true c.index-all-at.is there

pub loop-at-preserved : goal.loop-at-preserved
loop-at-preserved c = λ table top kinds.
    let modules = view_source c.args.source.now in
    let R = AreMeaningsOf (setting modules table top) in
    let there = holder_there c.args.source.now.modules c.loop-at.at c.get.result c.in-Some.owner c.get.ensures c.in-Some.is in
    subst (λ (l : List (List (Option Meaning))). AllZip R (take (c.loop-at.at + 1) modules) l) (sym {A = List (List (Option Meaning))} c.in_ok-push.ensures.items)
    (zip_next R modules c.loop-at.at c.loop-at.meanings.items (view_module c.in-Some.owner.now) c.in_ok-module_meanings.field-0 there (c.loop-at.invariant table top kinds) (c.in_ok-module_meanings.ensures modules table top kinds))
