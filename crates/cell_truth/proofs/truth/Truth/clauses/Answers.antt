use Rattle.std.proofs.Common.{◌≡◌, ◌∙◌, ◌^◌, ◌++◌, ap, sym, arith, zero-add, List, ℕ}
use Rattle.std.specs.List.{flat_map, range_with_len}
use Rattle.cell_truth.specs.Clause.{written}
use Rattle.cell_truth.specs.Truth.{row_clause}
use Rattle.cell_truth.proofs.FormLaws.{added_once, added_over}
use Rattle.cell_truth.proofs.TruthLaws.{added_satisfied, on_ok, row_more}
use Rattle.cell_truth.proofs.truth.Truth.clauses.Goals as goal

pub loop-row-preserved : goal.loop-row-preserved
loop-row-preserved g c =
    let row : ℕ → List (List ℕ) = λ row. written (row_clause c.args.self.now c.args.inputs.now c.args.output row) in
    c.in_ok-add_row.ensures.added
    ∙ (ap (λ (made : List (List ℕ)). made ++ row c.loop-row.row) c.loop-row.invariant ∙ sym (rw zero-add at (row_more row 0 c.loop-row.row)))

pub returns-clause-meaning : goal.returns-clause-meaning
returns-clause-meaning g c =
    let row : ℕ → List (List ℕ) = λ row. written (row_clause c.args.self.now c.args.inputs.now c.args.output row) in
    let all : c.loop-row.row ≡ 2 ^ g.row.PINS = omega (arith, c.loop-row.auto.row-end, c.loop-row-test.false, c.row_count-row-end.ensures) in
    on_ok c.append.result
    (λ is values.
    added_satisfied values c.args.self.now c.args.output g.row.PINS c.args.inputs.now c.args.into.now c.append.new.self (sym c.told-inputs)
    (is ∙ ap (λ (made : List (List ℕ)). c.args.into.now ++ made) (c.loop-row.invariant ∙ ap (λ n. flat_map row (range_with_len 0 n)) all)))
    c.append.ensures.ok

pub returns-clause-once : goal.returns-clause-once
returns-clause-once g c =
    let row : ℕ → List (List ℕ) = λ row. written (row_clause c.args.self.now c.args.inputs.now c.args.output row) in
    let all : c.loop-row.row ≡ 2 ^ g.row.PINS = omega (arith, c.loop-row.auto.row-end, c.loop-row-test.false, c.row_count-row-end.ensures) in
    on_ok c.append.result
    (λ is. added_once c.args.self.now c.args.output g.row.PINS c.args.inputs.now c.args.into.now c.append.new.self
    (is ∙ ap (λ (made : List (List ℕ)). c.args.into.now ++ made) (c.loop-row.invariant ∙ ap (λ n. flat_map row (range_with_len 0 n)) all)))
    c.append.ensures.ok

pub returns-clause-over : goal.returns-clause-over
returns-clause-over g c =
    let row : ℕ → List (List ℕ) = λ row. written (row_clause c.args.self.now c.args.inputs.now c.args.output row) in
    let all : c.loop-row.row ≡ 2 ^ g.row.PINS = omega (arith, c.loop-row.auto.row-end, c.loop-row-test.false, c.row_count-row-end.ensures) in
    on_ok c.append.result
    (λ is vars. added_over vars c.args.self.now c.args.output g.row.PINS c.args.inputs.now c.args.into.now c.append.new.self
    (is ∙ ap (λ (made : List (List ℕ)). c.args.into.now ++ made) (c.loop-row.invariant ∙ ap (λ n. flat_map row (range_with_len 0 n)) all)))
    c.append.ensures.ok
