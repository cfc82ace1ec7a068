-- A miter is a well-formed formula.
use Rattle.std.proofs.Common.{◌≡◌, ◌∙◌, ◌<◌, ◌≤◌, ◌+◌, ◌*◌, ◌/◌, ℕ, zero, suc, sym, ap, subst, arith, List, [], ◌∷◌, ◌++◌, length, length-append, map, get_or, inl, inr}
use Rattle.std.specs.List.{All, flat_map, range_with_len}
use Rattle.std.proofs.lemmas.Bool.Decides.{leb_tells}
use Rattle.std.proofs.lemmas.List.{length-map}
use Rattle.std.proofs.lemmas.List.Elements.{All-nil, All-cons, All-append}
use Rattle.std.proofs.lemmas.Option.{slice_get-get_or}
use Rattle.rsfq_ids.specs.declared.circuit.Bench.{Bench}
use Rattle.rsfq_ids.specs.Numbering.{IsRanked}
use Rattle.rsfq_ids.specs.Formula.{Clause, IsOver, IsFormula, opposite}
use Rattle.golden_aig.specs.declared.graph.Aig.{Aig}
use Rattle.golden_aig.specs.declared.pairing.Match.{Match}
use Rattle.golden_aig.specs.Aig.{variables_of}
use Rattle.cell_truth.specs.Clause.{written}
use Rattle.net_graph.specs.Graph.{NetGraph, IsGraph}
use Rattle.miter_cnf.specs.declared.made.MiterCnf.{MiterCnf}
use Rattle.miter_cnf.specs.declared.made.Sorts.{Sorts}
use Rattle.miter_cnf.specs.Variables.{variable_at, cell_variables}
use Rattle.miter_cnf.specs.Miter.{IsMiter, constant_of, golden_variable, golden_literal, and_clauses, and_clauses_of, differ_clauses, differ_clauses_of}
use Rattle.miter_cnf.specs.Laws.{AreComparable}
use Rattle.miter_cnf.proofs.Literals.{opposite_over, literal_of}
use Rattle.miter_cnf.proofs.Along.{all_flat}
use Rattle.miter_cnf.proofs.Groups.{before_few}
use Rattle.miter_cnf.proofs.Equations.{input_number, and_number, golden_even, golden_odd, all_differ}
use Rattle.miter_cnf.proofs.Formed.{IsGood, written_good, written_few, flat_few, cells_good, cells_few, nets_below}
use Rattle.miter_cnf.proofs.Solutions.{Parts, whole, circuit, inputs_many, sorts_many, cells_many, ands_many, output_has, output_reads, outputs_below, map_from}

-- the numbers of golden variables
golden_below : (sorts : Sorts) (aig : Aig) (v : ℕ) → sorts.inputs ≡ aig.inputs → sorts.ands ≡ length aig.ands → v ≤ variables_of aig → golden_variable sorts v < constant_of sorts + 1
golden_below sorts aig zero inputs ands le = omega arith
golden_below sorts aig (suc place) inputs ands le = elim (leb_tells sorts.inputs place) [
  | inr t ↦ (let lt = t.1 in let is = input_number sorts place lt in omega (arith, is, lt))
  | inl t ↦ (let ge = t.1 in let is = and_number sorts place ge in omega (arith, is, ge, inputs, ands, le))
]

literal_below : (sorts : Sorts) (aig : Aig) (vars lit : ℕ) → sorts.inputs ≡ aig.inputs → sorts.ands ≡ length aig.ands → constant_of sorts + 1 ≤ vars → lit < 2 * (variables_of aig + 1) → golden_literal sorts lit < 2 * vars
literal_below sorts aig vars lit inputs ands le lt =
    let below = golden_below sorts aig (lit / 2) inputs ands (omega (arith, lt)) in
    elim (literal_of lit) [
      | inl e ↦ (let is = ap (golden_literal sorts) e ∙ golden_even sorts (lit / 2) in omega (arith, is, below, le))
      | inr e ↦ (let is = ap (golden_literal sorts) e ∙ golden_odd sorts (lit / 2) in omega (arith, is, below, le))
    ]

one_over : (vars a : ℕ) → a < 2 * vars → IsOver vars (a ∷ [])
one_over vars a la = All-cons (λ lit. lit < 2 * vars) a [] la (All-nil (λ lit. lit < 2 * vars))

two_over : (vars a b : ℕ) → a < 2 * vars → b < 2 * vars → IsOver vars (a ∷ b ∷ [])
two_over vars a b la lb = All-cons (λ lit. lit < 2 * vars) a (b ∷ []) la (one_over vars b lb)

three_over : (vars a b c : ℕ) → a < 2 * vars → b < 2 * vars → c < 2 * vars → IsOver vars (a ∷ b ∷ c ∷ [])
three_over vars a b c la lb lc = All-cons (λ lit. lit < 2 * vars) a (b ∷ c ∷ []) la (two_over vars b c lb lc)

and_good : (vars v x y : ℕ) → v < 2 * vars → x < 2 * vars → y < 2 * vars → All (IsGood vars) (and_clauses_of v x y)
and_good vars v x y lv lx ly =
    let nv = opposite_over vars v lv in
    let nx = opposite_over vars x lx in
    let ny = opposite_over vars y ly in
    All-append (IsGood vars) (written (opposite v ∷ x ∷ []) ++ written (opposite v ∷ y ∷ [])) (written (v ∷ opposite x ∷ opposite y ∷ []))
    (All-append (IsGood vars) (written (opposite v ∷ x ∷ [])) (written (opposite v ∷ y ∷ [])) (written_good vars (opposite v ∷ x ∷ []) (two_over vars (opposite v) x nv lx)) (written_good vars (opposite v ∷ y ∷ []) (two_over vars (opposite v) y nv ly)))
    (written_good vars (v ∷ opposite x ∷ opposite y ∷ []) (three_over vars v (opposite x) (opposite y) lv nx ny))

differ_good : (vars d n g : ℕ) → d < 2 * vars → n < 2 * vars → g < 2 * vars → All (IsGood vars) (differ_clauses_of d n g)
differ_good vars d n g ld ln lg =
    let nd = opposite_over vars d ld in
    let nn = opposite_over vars n ln in
    let ng = opposite_over vars g lg in
    let one = written (opposite d ∷ n ∷ g ∷ []) in
    let two = written (opposite d ∷ opposite n ∷ opposite g ∷ []) in
    let three = written (d ∷ opposite n ∷ g ∷ []) in
    let four = written (d ∷ n ∷ opposite g ∷ []) in
    All-append (IsGood vars) ((one ++ two) ++ three) four
    (All-append (IsGood vars) (one ++ two) three
    (All-append (IsGood vars) one two (written_good vars (opposite d ∷ n ∷ g ∷ []) (three_over vars (opposite d) n g nd ln lg)) (written_good vars (opposite d ∷ opposite n ∷ opposite g ∷ []) (three_over vars (opposite d) (opposite n) (opposite g) nd nn ng)))
    (written_good vars (d ∷ opposite n ∷ g ∷ []) (three_over vars d (opposite n) g ld nn lg)))
    (written_good vars (d ∷ n ∷ opposite g ∷ []) (three_over vars d n (opposite g) ld ln ng))

and_few : (v x y : ℕ) → length (and_clauses_of v x y) ≤ 3
and_few v x y =
    let one = written (opposite v ∷ x ∷ []) in
    let two = written (opposite v ∷ y ∷ []) in
    let three = written (v ∷ opposite x ∷ opposite y ∷ []) in
    let a = written_few (opposite v ∷ x ∷ []) in
    let b = written_few (opposite v ∷ y ∷ []) in
    let c = written_few (v ∷ opposite x ∷ opposite y ∷ []) in
    let long = length-append (one ++ two) three in
    let long_too = length-append one two in
    omega (arith, a, b, c, long, long_too)

differ_few : (first : ℕ) (nets golden : List ℕ) → length (differ_clauses first nets golden) ≤ 4 * length golden
differ_few first [] golden = omega arith
differ_few first (n ∷ nets) [] = omega arith
differ_few first (n ∷ nets) (g ∷ golden) =
    let d = 2 * first in
    let one = written (opposite d ∷ n ∷ g ∷ []) in
    let two = written (opposite d ∷ opposite n ∷ opposite g ∷ []) in
    let three = written (d ∷ opposite n ∷ g ∷ []) in
    let four = written (d ∷ n ∷ opposite g ∷ []) in
    let a = written_few (opposite d ∷ n ∷ g ∷ []) in
    let b = written_few (opposite d ∷ opposite n ∷ opposite g ∷ []) in
    let c = written_few (d ∷ opposite n ∷ g ∷ []) in
    let e = written_few (d ∷ n ∷ opposite g ∷ []) in
    let long = length-append ((one ++ two) ++ three) four in
    let long_too = length-append (one ++ two) three in
    let long_three = length-append one two in
    let all = length-append (differ_clauses_of (2 * first) n g) (differ_clauses (first + 1) nets golden) in
    let rest = differ_few (first + 1) nets golden in
    omega (arith, a, b, c, e, long, long_too, long_three, all, rest)

range_over : (vars first count : ℕ) → first + count ≤ vars → IsOver vars (map (λ v. 2 * v) (range_with_len first count))
range_over vars first zero le = All-nil (λ lit. lit < 2 * vars)
range_over vars first (suc count) le =
    All-cons (λ lit. lit < 2 * vars) (2 * first) (map (λ v. 2 * v) (range_with_len (first + 1) count)) (omega arith) (range_over vars (first + 1) count (omega arith))

module _ (graph : NetGraph) (aig : Aig) (matched : Match) (bench : Bench) (made : MiterCnf) (is : IsGraph graph) (ok : AreComparable graph aig matched bench) (m : IsMiter graph aig matched made) (rank : ℕ → ℕ) (ranked : IsRanked graph.flat rank) where
  abbrev vars : ℕ
  vars = constant_of m.sorts + 1 + length aig.outputs

  abbrev first : ℕ
  first = constant_of m.sorts + 1

  good : Parts graph aig matched bench made is ok m (IsGood vars)
  good =
      let inputs_are = inputs_many graph aig matched bench made is ok m in
      let all_are = sorts_many graph aig matched bench made is ok m in
      let cells_are = cells_many graph aig matched bench made is ok m in
      let ands_are = ands_many graph aig matched bench made is ok m in
      let named = circuit graph aig matched bench made is ok m in
      let nets_are = nets_below graph bench matched.inputs m.variables m.cells named rank ranked in
      record {
        cells = cells_good graph bench matched.inputs m.variables m.cells named rank ranked vars (omega (arith, inputs_are, cells_are));
        ands = all_flat (and_clauses m.sorts) (IsGood vars) aig.ands (λ place d lt.
            let one = get_or aig.ands place d in
            let fits = ok.graph_fits.ands place one (slice_get-get_or aig.ands place d lt) in
            let lhs = fits.lhs in
            let left = fits.rhs0 in
            let right = fits.rhs1 in
            let below = golden_below m.sorts aig (one.lhs / 2) all_are ands_are (omega (arith, lhs, lt)) in
            and_good vars (2 * golden_variable m.sorts (one.lhs / 2)) (golden_literal m.sorts one.rhs0) (golden_literal m.sorts one.rhs1) (omega (arith, below))
            (literal_below m.sorts aig vars one.rhs0 all_are ands_are (omega arith) (omega (arith, lhs, lt, left)))
            (literal_below m.sorts aig vars one.rhs1 all_are ands_are (omega arith) (omega (arith, lhs, lt, right))));
        constant = written_good vars (opposite (2 * constant_of m.sorts) ∷ []) (one_over vars (opposite (2 * constant_of m.sorts)) (opposite_over vars (2 * constant_of m.sorts) (omega arith)));
        differ = all_differ (IsGood vars) first (map (λ net. 2 * variable_at m.variables net) m.nets) (map (golden_literal m.sorts) aig.outputs) (λ k n g at_n at_g.
            let net = map_from (λ x. 2 * variable_at m.variables x) m.nets k n at_n in
            let lit = map_from (golden_literal m.sorts) aig.outputs k g at_g in
            let net_is = net.1 in
            let lit_is = lit.1 in
            let lt = lit.0 in
            let below = output_has graph aig matched bench made is ok m (λ x. variable_at m.variables x < length matched.inputs + cell_variables graph) nets_are (get_or matched.outputs k 0) (get_or m.nets k 0) (output_reads graph aig matched bench made is ok m k lt) in
            let golden = literal_below m.sorts aig vars (get_or aig.outputs k 0) all_are ands_are (omega arith) (ok.graph_fits.outputs k 0 lt) in
            differ_good vars (2 * (first + k)) n g (omega (arith, lt)) (omega (arith, net_is, below, inputs_are, cells_are)) (omega (arith, lit_is, golden)));
        last = written_good vars (map (λ variable. 2 * variable) (range_with_len first (length aig.outputs))) (range_over vars first (length aig.outputs) (omega arith));
      }

  pub few : length made.cnf.clauses ≤ 16 * length graph.flat.cells + 3 * length aig.ands + 2 + 4 * length aig.outputs
  few =
      let c = m.cells in
      let a = flat_map (and_clauses m.sorts) aig.ands in
      let k = written (opposite (2 * constant_of m.sorts) ∷ []) in
      let d = differ_clauses first (map (λ net. 2 * variable_at m.variables net) m.nets) (map (golden_literal m.sorts) aig.outputs) in
      let l = written (map (λ (variable : ℕ). 2 * variable) made.differ) in
      let named = circuit graph aig matched bench made is ok m in
      let few_cells = cells_few graph bench matched.inputs m.variables m.cells named rank ranked in
      let few_ands = flat_few (and_clauses m.sorts) 3 aig.ands (λ place e lt. and_few (2 * golden_variable m.sorts ((get_or aig.ands place e).lhs / 2)) (golden_literal m.sorts (get_or aig.ands place e).rhs0) (golden_literal m.sorts (get_or aig.ands place e).rhs1)) in
      let few_constant = written_few (opposite (2 * constant_of m.sorts) ∷ []) in
      let few_differ = differ_few first (map (λ net. 2 * variable_at m.variables net) m.nets) (map (golden_literal m.sorts) aig.outputs) in
      let mapped = length-map aig.outputs (golden_literal m.sorts) in
      let few_last = written_few (map (λ (variable : ℕ). 2 * variable) made.differ) in
      let one = length-append (((c ++ a) ++ k) ++ d) l in
      let two = length-append ((c ++ a) ++ k) d in
      let three = length-append (c ++ a) k in
      let four = length-append c a in
      let all = ap (λ (x : List Clause). length x) m.clauses in
      omega (arith, few_cells, few_ands, few_constant, few_differ, mapped, few_last, one, two, three, four, all)

  -- there are no more outputs than ports
  pub outputs_few : length aig.outputs ≤ length graph.flat.ports
  outputs_few =
      outputs_below graph aig matched bench made is ok m

  pub formula : IsFormula made.cnf
  formula =
      let count = m.count in
      let goods = whole graph aig matched bench made is ok m (IsGood vars) good in
      let most = few in
      let outputs_are = outputs_few in
      let cells_are = is.flat_fits.cells in
      let before = before_few graph (length graph.flat.cells) in
      let size = ok.graph_fits.size in
      let ports = ok.few in
      let ands_are = ands_many graph aig matched bench made is ok m in
      let inputs_are = sorts_many graph aig matched bench made is ok m in
      let cell_vars = cells_many graph aig matched bench made is ok m in
      record {
        lits = λ k d lt. subst (λ (n : ℕ). IsOver n (get_or made.cnf.clauses k d)) (sym count) ((goods k d lt).over);
        once = λ k d lt. (goods k d lt).once;
        vars = omega (arith, count, outputs_are, cells_are, before, size, ports, ands_are, inputs_are, cell_vars);
        count = omega (arith, most, outputs_are, cells_are, size, ports);
      }
