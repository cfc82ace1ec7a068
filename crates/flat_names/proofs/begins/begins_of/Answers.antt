use Rattle.std.proofs.Common.{◌+◌, ◌<◌, ℕ, List, [], ◌∷◌, length, get_or, sym, ap, subst, arith, length-append}
use Rattle.bind_forms.specs.declared.bound.BoundModule.{BoundModule}
use Rattle.flat_names.specs.declared.begins.Begins.{Begins}
use Rattle.flat_names.specs.Begins.{IsBegun, AreBegun}
use Rattle.flat_names.proofs.Begun.{begun_more}
use Rattle.flat_names.proofs.begins.begins_of.Goals as goal

pub loop-owner-preserved : goal.loop-owner-preserved
loop-owner-preserved c =
    let sizes = c.args.source.sizes.now in
    let modules = c.as_slice-owner-items.result.now in
    let i = c.loop-owner.owner-index in
    let before = c.loop-owner.begins.items in
    let begin = c.in_ok-module_begins.field-0 in
    let so_far = c.loop-owner.invariant in
    let pushed = c.in_ok-push.ensures.items in
    let longer = length-append before (begin ∷ []) in
    let same = ap length pushed in
    let counted = so_far.counted in
    record {
      counted = omega (arith, longer, same, counted);
      each = subst (λ (begins : List Begins). (at : ℕ) (o : BoundModule) (b : Begins) → at < i + 1 → IsBegun sizes (get_or modules at o) (get_or begins at b)) (sym {A = List Begins} pushed)
          (begun_more sizes modules before i c.owner-item.result begin counted c.owner-item.is c.loop-owner-test.true c.in_ok-module_begins.ensures so_far.each);
    }

pub returns : goal.returns
returns c =
    let so_far = c.loop-owner.invariant in
    let end = c.loop-owner-test.false in
    let within = c.loop-owner.auto.owner-index-end in
    let counted = so_far.counted in
    subst (λ (modules : List BoundModule). AreBegun c.args.source.sizes.now modules c.loop-owner.begins.items) c.as_slice-owner-items.ensures
    (record { counted = omega (arith, counted, end, within); each = λ at owner begin low. so_far.each at owner begin (omega (arith, low, end)) })
