use Rattle.std.proofs.Common.{◌≡◌, ◌∙◌, ◌++◌, List, ℕ, length, ap, subst, arith}
use Rattle.rsfq_ids.specs.Circuit.{PinsRead}
use Rattle.cell_truth.specs.Truth.{truth_clauses}
use Rattle.miter_cnf.specs.Variables.{literals_at}
use Rattle.miter_cnf.proofs.Groups.{pins_long, literals_long, on_more}
use Rattle.miter_cnf.proofs.cells.add_joining.Goals as goal

pub add_rows-requires-clause-some : goal.add_rows-requires-clause-some
add_rows-requires-clause-some c =
    let read = c.in_ok-literals.ensures in
    let long = ap length (c.as_slice.ensures.value ∙ read.2) ∙ (literals_long c.args.variables.now read.0 ∙ (pins_long c.args.graph.now.flat c.args.cell c.len.result read.0 read.1 ∙ c.len.ensures)) in
    let some = c.requires.some in
    omega (arith, long, some)

pub add_rows-requires-clause-few : goal.add_rows-requires-clause-few
add_rows-requires-clause-few c =
    let read = c.in_ok-literals.ensures in
    let long = ap length (c.as_slice.ensures.value ∙ read.2) ∙ (literals_long c.args.variables.now read.0 ∙ (pins_long c.args.graph.now.flat c.args.cell c.len.result read.0 read.1 ∙ c.len.ensures)) in
    let few = c.requires.pins in
    omega (arith, long, few)

pub returns : goal.returns
returns c =
    let read = c.in_ok-literals.ensures in
    let row = c.args.row.now in
    let rows = c.args.rows in
    let into = c.args.into.now in
    let given = c.as_slice.result.now in
    let long : length given ≡ length row.inputs = ap length (c.as_slice.ensures.value ∙ read.2) ∙ (literals_long c.args.variables.now read.0 ∙ (pins_long c.args.graph.now.flat c.args.cell c.len.result read.0 read.1 ∙ c.len.ensures)) in
    let literals : given ≡ literals_at c.args.variables.now read.0 = c.as_slice.ensures.value ∙ read.2 in
    on_more _ _ (λ added. (
      read.0,
      subst (λ n. PinsRead c.args.graph.now.flat c.args.cell n read.0) c.len.ensures read.1,
      added ∙ (ap (λ n. into ++ truth_clauses rows n given c.of.result) long
          ∙ (ap (λ (l : List ℕ). into ++ truth_clauses rows (length row.inputs) l c.of.result) literals
          ∙ ap (λ o. into ++ truth_clauses rows (length row.inputs) (literals_at c.args.variables.now read.0) o) c.of.ensures)),
    )) c.add_rows.result c.add_rows.ensures.added
