use Rattle.std.proofs.Common.{◌≡◌, ◌∙◌, ◌++◌, ◌+◌, ◌<◌, ℕ, List, [], ◌∷◌, Option, Some, None, map, length, take, sym, ap, arith, subst, get_or}
use Rattle.std.specs.List.{filter_map}
use Rattle.std.proofs.lemmas.List.{take_all}
use Rattle.verilog_tree.specs.declared.tree.Item.{Item}
use Rattle.verilog_tree.specs.Views.{view_item}
use Rattle.bind_hierarchy.specs.Kinds.{inner_of}
use Rattle.bind_hierarchy.proofs.Inner.{filter_map-map, filter_some, filter_none}
use Rattle.bind_hierarchy.proofs.graph.list_inner.Goals as goal
use Rattle.bind_hierarchy.proofs.graph.list_inner.Goals.{in-Some+in_ok-push, in_default}

pub loop-item-preserved : goal.loop-item-preserved
loop-item-preserved c =
    let items = c.as_slice-item-items.result.now in
    let f : Item → Option ℕ = λ item. inner_of c.args.names.now (view_item item) in
    elim c.match-inner_of.branch [
      | in-Some+in_ok-push w ↦
          w.inner-is ∙ (w.in_ok-push.ensures.ok ∙ (ap (λ (l : List ℕ). l ++ w.in-Some.place ∷ []) c.loop-item.invariant ∙ sym (filter_some f items c.loop-item.item-index c.item-item.result w.in-Some.place c.loop-item-test.true c.item-item.is (sym w.in-Some.ensures))))
      | in_default w ↦
          w.inner-is ∙ (c.loop-item.invariant ∙ sym (filter_none f items c.loop-item.item-index c.item-item.result c.loop-item-test.true c.item-item.is (sym c.inner_of.ensures ∙ w.in_default.is)))
    ]

pub returns : goal.returns
returns c =
    let f : Item → Option ℕ = λ item. inner_of c.args.names.now (view_item item) in
    c.loop-item.invariant ∙ (ap (λ (l : List Item). filter_map f l) (take_all c.loop-item.item-index c.as_slice-item-items.result.now c.loop-item-test.false ∙ c.as_slice-item-items.ensures)
    ∙ sym (filter_map-map (inner_of c.args.names.now) view_item c.args.module.now.items))
