use Rattle.std.proofs.Common.{◌≡◌, ◌∙◌, ◌<◌, ◌≤◌, inl, inr, ℕ, List, true, false, map, length, sym, subst, ap, arith, get_or}
use Rattle.std.proofs.lemmas.Bool.{cases_lt}
use Rattle.std.proofs.lemmas.List.{length-map}
use Rattle.verilog_tree.specs.declared.tree.Module.{Module}
use Rattle.verilog_tree.specs.Views.{view_module, view_source}
use Rattle.bind_hierarchy.specs.Modules.{IsModuleNamed}
use Rattle.bind_hierarchy.specs.Duplicates.{IsDuplicate}
use Rattle.bind_hierarchy.proofs.Twice.{module_named, one_name, module_below}
use Rattle.bind_hierarchy.proofs.duplicates.first_duplicate.Goals as goal

named : (modules rows : List Module) (place : ℕ) (holder : Module) (text : List ℕ) → rows ≡ modules → place < length rows → holder ≡ get_or rows place holder → text ≡ holder.name → IsModuleNamed (map view_module modules) place text
named modules rows place holder text same l is e =
    subst (λ (n : List ℕ). IsModuleNamed (map view_module modules) place n) (sym e)
    (module_named modules place holder (subst (λ (xs : List Module). place < length xs) same l) (subst (λ (xs : List Module). holder ≡ get_or xs place holder) same is))

pub returns-then-is_duplicate : goal.returns-then-is_duplicate
returns-then-is_duplicate c = λ table k.
    let n : IsModuleNamed (view_source c.args.source.now) c.loop-place.place c.as_str.result.now = named c.args.source.now.modules c.as_slice-module-items.result.now c.loop-place.place c.module-item.result c.as_str.result.now c.as_slice-module-items.ensures c.loop-place-test.true c.module-item.is c.as_str.ensures in
    ((c.as_str.result.now, (c.is_duplicate.ensures (view_source c.args.source.now) table k n).0 c.if-is_duplicate.true), c.loop-place.invariant table k)

pub loop-place-preserved : goal.loop-place-preserved
loop-place-preserved c = λ table k before name l d.
    let n : IsModuleNamed (view_source c.args.source.now) c.loop-place.place c.as_str.result.now = named c.args.source.now.modules c.as_slice-module-items.result.now c.loop-place.place c.module-item.result c.as_str.result.now c.as_slice-module-items.ensures c.loop-place-test.true c.module-item.is c.as_str.ensures in
    elim (cases_lt before c.loop-place.place) [
      | inl low ↦ c.loop-place.invariant table k before name low d
      | inr high ↦
          let here : before ≡ c.loop-place.place = omega (arith, l, high) in
          let at : IsDuplicate (view_source c.args.source.now) table c.loop-place.place name = subst (λ (x : ℕ). IsDuplicate (view_source c.args.source.now) table x name) here d in
          let same : name ≡ c.as_str.result.now = one_name (view_source c.args.source.now) c.loop-place.place name c.as_str.result.now at.0 n in
          let yes : c.is_duplicate.result ≡ true = (c.is_duplicate.ensures (view_source c.args.source.now) table k n).1 (subst (λ (x : List ℕ). IsDuplicate (view_source c.args.source.now) table c.loop-place.place x) same at) in
          let no : true ≡ false = sym yes ∙ c.if-is_duplicate.false in cc
    ]

pub returns : goal.returns
returns c = λ table k at name d.
    let l : at < length (view_source c.args.source.now) = module_below (view_source c.args.source.now) at name d.0 in
    let size : length c.as_slice-module-items.result.now ≡ length c.args.source.now.modules = ap (λ (xs : List Module). length xs) c.as_slice-module-items.ensures in
    c.loop-place.invariant table k at name (omega (arith, l, size, length-map c.args.source.now.modules view_module, c.loop-place-test.false)) d
