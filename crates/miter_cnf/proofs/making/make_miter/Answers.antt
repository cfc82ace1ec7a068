use Rattle.std.proofs.Common.{◌∙◌, ◌<◌, ◌+◌, ◌-◌, ◌*◌, ◌^◌, ◌++◌, ℕ, List, length, map, sym, ap, subst, arith}
use Rattle.std.specs.List.{All, AllZip, range_with_len}
use Rattle.rsfq_ids.specs.declared.circuit.Reader.TheVariants as reader
use Rattle.rsfq_ids.specs.Circuit.{Reads}
use Rattle.net_graph.specs.Graph.{IsOutputBit}
use Rattle.cell_truth.specs.Clause.{written}
use Rattle.miter_cnf.specs.declared.made.Sorts.{Sorts}
use Rattle.miter_cnf.specs.Variables.{AreVariables, AreCellClauses, literals_at}
use Rattle.miter_cnf.specs.Miter.{golden_literal, differ_clauses}
use Rattle.miter_cnf.proofs.Groups.{before_few}
use Rattle.miter_cnf.proofs.Assembled.{few_sorts, known_ands, shown_many, range_all, assembled}
use Rattle.miter_cnf.proofs.making.make_miter.Goals as goal

pub add_golden-requires-clause-few : goal.add_golden-requires-clause-few
add_golden-requires-clause-few c =
    let end = c.in_ok-end.ensures.end in
    few_sorts c.args.graph.now c.args.aig.now c.args.ports.now (record { inputs = c.len-inputs.result; cells = c.in_ok-end.end - c.len-inputs.result; ands = c.len.result }) c.requires c.len-inputs.ensures (omega (arith, end)) c.len.ensures

pub add_golden-requires-clause-known : goal.add_golden-requires-clause-known
add_golden-requires-clause-known c =
    known_ands (record { inputs = c.len-inputs.result; cells = c.in_ok-end.end - c.len-inputs.result; ands = c.len.result }) c.args.aig.now c.requires.graph_fits (c.len-inputs.ensures ∙ c.requires.many) c.len.ensures

pub literals_shown-requires-clause-outputs : goal.literals_shown-requires-clause-outputs
literals_shown-requires-clause-outputs c = subst (All (IsOutputBit c.args.graph.now.flat)) (sym c.as_slice-4.ensures) c.requires.outputs

pub overflow_add-first : goal.overflow_add-first
overflow_add-first c =
    let end = c.in_ok-end.ensures.end in
    let size = c.requires.graph_fits.size in
    let many = c.requires.many in
    let cells = c.requires.few_cells in
    let most = before_few c.args.graph.now (length c.args.graph.now.flat.cells) in
    let inputs = c.len-inputs.ensures in
    let ands = c.len.ensures in
    omega (arith, end, size, many, cells, most, inputs, ands)

pub overflow_add-first-2 : goal.overflow_add-first-2
overflow_add-first-2 c =
    let end = c.in_ok-end.ensures.end in
    let size = c.requires.graph_fits.size in
    let many = c.requires.many in
    let cells = c.requires.few_cells in
    let most = before_few c.args.graph.now (length c.args.graph.now.flat.cells) in
    let inputs = c.len-inputs.ensures in
    let ands = c.len.ensures in
    omega (arith, end, size, many, cells, most, inputs, ands)

pub add_differs-requires-clause-few : goal.add_differs-requires-clause-few
add_differs-requires-clause-few c =
    let end = c.in_ok-end.ensures.end in
    few_sorts c.args.graph.now c.args.aig.now c.args.ports.now (record { inputs = c.len-inputs.result; cells = c.in_ok-end.end - c.len-inputs.result; ands = c.len.result }) c.requires c.len-inputs.ensures (omega (arith, end)) c.len.ensures

pub add_differs-requires-clause-room : goal.add_differs-requires-clause-room
add_differs-requires-clause-room c =
    let end = c.in_ok-end.ensures.end in
    let size = c.requires.graph_fits.size in
    let many = c.requires.many in
    let cells = c.requires.few_cells in
    let outputs = c.requires.few_outputs in
    let most = before_few c.args.graph.now (length c.args.graph.now.flat.cells) in
    let inputs = c.len-inputs.ensures in
    let ands = c.len.ensures in
    let long = ap length c.as_slice-6.ensures in
    omega (arith, end, size, many, cells, outputs, most, inputs, ands, long)

pub add_differs-requires-clause-count : goal.add_differs-requires-clause-count
add_differs-requires-clause-count c =
    let shown = shown_many c.args.graph.now c.as_slice-3.result.now c.as_slice-4.result.now c.in_ok-nets.ensures.0 c.in_ok-nets.nets.items c.in_ok-nets.ensures.1 c.in_ok-nets.ensures.2 in
    ap length c.as_slice-5.ensures.value ∙ (shown ∙ (ap length c.as_slice-4.ensures ∙ (c.requires.each ∙ sym (ap length c.as_slice-6.ensures))))

pub variables_from-requires : goal.variables_from-requires
variables_from-requires c =
    let end = c.in_ok-end.ensures.end in
    let size = c.requires.graph_fits.size in
    let many = c.requires.many in
    let cells = c.requires.few_cells in
    let outputs = c.requires.few_outputs in
    let most = before_few c.args.graph.now (length c.args.graph.now.flat.cells) in
    let inputs = c.len-inputs.ensures in
    let ands = c.len.ensures in
    let long = c.len-2.ensures in
    omega (arith, end, size, many, cells, outputs, most, inputs, ands, long)

pub add_some-requires : goal.add_some-requires
add_some-requires c =
    let end = c.in_ok-end.ensures.end in
    let size = c.requires.graph_fits.size in
    let many = c.requires.many in
    let cells = c.requires.few_cells in
    let outputs = c.requires.few_outputs in
    let most = before_few c.args.graph.now (length c.args.graph.now.flat.cells) in
    let inputs = c.len-inputs.ensures in
    let ands = c.len.ensures in
    let long = c.len-2.ensures in
    let bound : c.in_ok-end.end + c.len.result + 1 + c.len-2.result < 2 ^ 31 = omega (arith, end, size, many, cells, outputs, most, inputs, ands, long) in
    subst (All (λ variable. variable < 2 ^ 31)) (sym (c.as_slice-7.ensures ∙ c.in_ok-differ.ensures))
    (range_all (λ variable. variable < 2 ^ 31) (c.in_ok-end.end + c.len.result + 1) c.len-2.result (λ k low high. omega (arith, high, bound)))

pub overflow_add-first-3 : goal.overflow_add-first-3
overflow_add-first-3 c =
    let end = c.in_ok-end.ensures.end in
    let size = c.requires.graph_fits.size in
    let many = c.requires.many in
    let cells = c.requires.few_cells in
    let outputs = c.requires.few_outputs in
    let most = before_few c.args.graph.now (length c.args.graph.now.flat.cells) in
    let inputs = c.len-inputs.ensures in
    let ands = c.len.ensures in
    let long = c.len-3.ensures in
    omega (arith, end, size, many, cells, outputs, most, inputs, ands, long)

pub returns : goal.returns
returns c =
    let graph = c.args.graph.now in
    let aig = c.args.aig.now in
    let matched = c.args.ports.now in
    let end = c.in_ok-end.ensures.end in
    let inputs = c.len-inputs.ensures in
    let sorts : Sorts = record { inputs = c.len-inputs.result; cells = c.in_ok-end.end - c.len-inputs.result; ands = c.len.result } in
    let first = c.in_ok-end.end + c.len.result + 1 in
    let variables = c.in_ok-variables.variables.items in
    let groups = c.add_groups.new.into in
    let golden = c.add_golden.new.into in
    let differs = c.add_differs.new.into in
    let all = c.add_some.new.into in
    let literals = c.in_ok-nets.nets.items in
    let differ = c.in_ok-differ.differ in
    let named = subst (λ (l : List ℕ). AreVariables graph l variables) c.as_slice.ensures c.in_ok-variables.ensures.named in
    let grouped = subst (λ (n : ℕ). AreCellClauses graph n variables (length graph.flat.cells) groups) inputs
    (subst (λ (l : List ℕ). AreCellClauses graph c.len-inputs.result l (length graph.flat.cells) groups) c.as_slice-2.ensures.value c.in_ok-end.ensures.groups) in
    let read = subst (λ (l : List ℕ). AllZip (λ port net. Reads graph.flat (reader.Port port) net) l c.in_ok-nets.ensures.0) c.as_slice-4.ensures c.in_ok-nets.ensures.1 in
    let shown = c.in_ok-nets.ensures.2 ∙ ap (λ (l : List ℕ). literals_at l c.in_ok-nets.ensures.0) c.as_slice-3.ensures.value in
    let is_differ = c.in_ok-differ.ensures ∙ ap (range_with_len first) c.len-2.ensures in
    let is_vars = ap (λ n. first + n) c.len-3.ensures in
    let is_differs = c.in_ok-add_differs.ensures
    ∙ (ap (λ (l : List ℕ). golden ++ differ_clauses first l (map (golden_literal sorts) c.as_slice-6.result.now)) c.as_slice-5.ensures.value
    ∙ ap (λ (l : List ℕ). golden ++ differ_clauses first literals (map (golden_literal sorts) l)) c.as_slice-6.ensures) in
    let is_all = c.in_ok-add_some.ensures ∙ ap (λ (l : List ℕ). differs ++ written (map (λ (variable : ℕ). 2 * variable) l)) c.as_slice-7.ensures in
    assembled graph aig matched sorts variables groups golden differs all c.in_ok-nets.ensures.0 literals c.in_ok-variables_from.field-0 differ (first + c.len-3.result) first
    inputs (omega (arith, end)) c.len.ensures named grouped read shown (c.in_ok-variables_from.ensures ∙ ap (range_with_len 0) inputs) (omega (arith, end)) is_differ is_vars
    c.in_ok-add_golden.ensures is_differs is_all
