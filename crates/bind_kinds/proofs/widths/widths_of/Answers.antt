use Rattle.std.proofs.Common.{List, Option, ℕ, ◌+◌, take, sym, subst, arith}
use Rattle.std.specs.List.{AllZip}
use Rattle.std.proofs.lemmas.List.{take_all}
use Rattle.verilog_tree.specs.Trees.{Module}
use Rattle.verilog_tree.specs.Views.{view_module, view_source}
use Rattle.bind_kinds.specs.Netlist.{IsScopeOf, AreWidthsOf}
use Rattle.bind_kinds.proofs.Laid.{no_module, owner_widths}
use Rattle.bind_kinds.proofs.Ports.{holder_there, looked_up}
use Rattle.bind_kinds.proofs.Zips.{zip_next, zip_length}
use Rattle.bind_kinds.proofs.widths.widths_of.Goals as goal

pub unreachable-requires : goal.unreachable-requires
unreachable-requires c =
    let owner = looked_up IsScopeOf (view_source c.args.source.now) c.args.scopes.now c.loop-at.at c.index-scopes-at.result c.requires c.loop-at-test.true c.index-scopes-at.is in
    no_module c.args.source.now.modules c.loop-at.at c.get.result owner.0 c.get.ensures c.in_default.not-Some owner.1

pub head_widths-requires : goal.head_widths-requires
head_widths-requires c =
    (looked_up IsScopeOf (view_source c.args.source.now) c.args.scopes.now c.loop-at.at c.index-scopes-at.result c.requires c.loop-at-test.true c.index-scopes-at.is).2.is_scope

pub loop-at-preserved : goal.loop-at-preserved
loop-at-preserved c =
    let modules = view_source c.args.source.now in
    let owner = looked_up IsScopeOf modules c.args.scopes.now c.loop-at.at c.index-scopes-at.result c.requires c.loop-at-test.true c.index-scopes-at.is in
    let there = holder_there c.args.source.now.modules c.loop-at.at c.get.result c.in-Some.owner c.get.ensures c.in-Some.is in
    subst (λ (l : List (List (Option ℕ))). AllZip AreWidthsOf (take (c.loop-at.at + 1) modules) l) (sym {A = List (List (Option ℕ))} c.in_ok-push.ensures.items)
    (zip_next AreWidthsOf modules c.loop-at.at c.loop-at.widths.items (view_module c.in-Some.owner.now) c.in_ok-head_widths.field-0 there c.loop-at.invariant
    (owner_widths (view_module c.in-Some.owner.now) owner.0 modules c.loop-at.at c.index-scopes-at.result c.in_ok-head_widths.field-0 there owner.1 owner.2 c.in_ok-head_widths.ensures))

pub returns : goal.returns
returns c =
    let modules = view_source c.args.source.now in
    subst (λ (l : List Module). AllZip AreWidthsOf l c.loop-at.widths.items) (take_all c.loop-at.at modules (omega (arith, c.loop-at-test.false, zip_length IsScopeOf modules c.args.scopes.now c.requires))) c.loop-at.invariant
