use Rattle.std.proofs.Common.{◌≡◌, ◌∙◌, ◌++◌, subst, arith, length, List, ℕ}
use Rattle.std.specs.Result.{OnOk}
use Rattle.cell_truth.specs.Clause.{written}
use Rattle.cell_truth.specs.Truth.{row_clause}
use Rattle.cell_truth.proofs.TruthLaws.{pin_step, whole_row}
use Rattle.cell_truth.proofs.truth.Truth.add_row.Goals as goal

pub loop-pin-preserved : goal.loop-pin-preserved
loop-pin-preserved g c =
    let pins : length c.args.inputs.now ≡ g.row.PINS = c.told-inputs in
    pin_step c.args.row c.args.inputs.now c.loop-pin.clause c.push.new.self c.loop-pin.pin c.index-inputs-pin.result c.signed.result c.bit.result
    (omega (arith, pins)) c.loop-pin.invariant c.bit.ensures c.signed.ensures c.in_ok-push.ensures.ok

pub returns-clause-added : goal.returns-clause-added
returns-clause-added g c =
    let pins : length c.args.inputs.now ≡ g.row.PINS = c.told-inputs in
    let whole : c.as_slice.result.now ≡ row_clause c.args.self.now c.args.inputs.now c.args.output c.args.row =
    c.as_slice.ensures
    ∙ whole_row c.args.self.now c.args.row c.args.output c.loop-pin.pin c.signed-2.result c.args.inputs.now c.loop-pin.clause c.push-2.new.self c.at.result
    (omega (arith, pins)) c.loop-pin.invariant c.at.ensures c.signed-2.ensures c.in_ok-push-2.ensures.ok in
    subst (λ (clause : List ℕ). OnOk c.add_clause.result (c.add_clause.new.into ≡ c.args.into.now ++ written clause)) whole c.add_clause.ensures.added
