-- The parts of a miter, put together.
use Rattle.std.proofs.Common.{◌≡◌, ◌∙◌, ◌≢◌, ◌<◌, ◌≤◌, ◌+◌, ◌*◌, ◌/◌, ◌^◌, ℕ, zero, suc, refl, sym, ap, subst, arith, List, [], ◌∷◌, ◌++◌, length, map, get_or, Result, Ok, Err}
use Rattle.std.specs.Prelude.{IfOk}
use Rattle.std.specs.List.{All, AllPairs, AllZip, flat_map, range_with_len}
use Rattle.std.proofs.lemmas.List.Elements.{All-nil, All-cons}
use Rattle.std.proofs.lemmas.List.FromFn.{length-range_with_len, get_or-range_with_len}
use Rattle.std.proofs.lemmas.List.Sorted.{length_permutation, All-permutation}
use Rattle.std.proofs.lemmas.Option.{slice_get-get_or}
use Rattle.rsfq_ids.specs.declared.circuit.Bench.{Bench}
use Rattle.rsfq_ids.specs.declared.circuit.Reader.TheVariants as reader
use Rattle.rsfq_ids.specs.Circuit.{Reads}
use Rattle.rsfq_ids.specs.Formula.{Clause, opposite}
use Rattle.golden_aig.specs.declared.graph.Aig.{Aig}
use Rattle.golden_aig.specs.declared.pairing.Match.{Match}
use Rattle.golden_aig.specs.Aig.{IsAig}
use Rattle.golden_aig.specs.Matched.{data_inputs, outputs_of}
use Rattle.golden_aig.proofs.NoMatch.{data_side}
use Rattle.cell_truth.specs.Clause.{written}
use Rattle.net_graph.specs.Graph.{NetGraph, IsGraph}
use Rattle.miter_cnf.specs.declared.made.MiterCnf.{MiterCnf}
use Rattle.miter_cnf.specs.declared.made.Sorts.{Sorts}
use Rattle.miter_cnf.specs.Variables.{cell_variables, AreVariables, AreCellClauses, literals_at}
use Rattle.miter_cnf.specs.Miter.{IsMiter, IsLaunch, constant_of, golden_literal, and_clauses, differ_clauses}
use Rattle.miter_cnf.specs.Laws.{AreComparable}
use Rattle.miter_cnf.specs.Fits.{HasFew, IsKnown, CanBeMade}
use Rattle.miter_cnf.proofs.Groups.{before_few, literals_long}
use Rattle.miter_cnf.proofs.Bits.{once_permuted, outputs_bits, outputs_most}
use Rattle.miter_cnf.proofs.Solutions.{rising_differ}

-- ---- ranges

pub range_all : (P : ℕ → Type 0) (first count : ℕ) → ((k : ℕ) → first ≤ k → k < first + count → P k) → All P (range_with_len first count)
range_all P first zero each = All-nil P
range_all P first (suc count) each = All-cons P first (range_with_len (first + 1) count) (each first (omega arith) (omega arith)) (range_all P (first + 1) count (λ k low high. each k (omega arith) (omega arith)))

pub range_once : (first count : ℕ) → AllPairs (λ one other. one ≢ other) (range_with_len first count)
range_once first count i j d before there same =
    let long = length-range_with_len first count in
    let one = get_or-range_with_len first count i d (omega (arith, long, before, there)) in
    let two = get_or-range_with_len first count j d (omega (arith, long, there)) in
    absurd (omega (arith, one, two, same, before))

-- ---- what the match gives

pub can_be_made : (graph : NetGraph) (aig : Aig) (matched : Match) → IsGraph graph → ((bench : Bench) × AreComparable graph aig matched bench) → CanBeMade graph aig matched
can_be_made graph aig matched is (bench, ok) =
    let inputs = ok.ports.inputs.one_to_one in
    let outputs = ok.ports.outputs.one_to_one in
    let side = data_side graph.flat bench ok.bench_fits in
    let long = length_permutation (outputs_of graph.flat) matched.outputs outputs in
    let each = long ∙ (sym ok.ports.outputs.count ∙ ok.graph_fits.out_names) in
    let most = outputs_most graph.flat in
    let few = ok.few in
    record {
      graph_fits = ok.graph_fits;
      many = length_permutation (data_inputs bench) matched.inputs inputs ∙ (sym ok.ports.inputs.count ∙ ok.graph_fits.in_names);
      ports = All-permutation (λ port. port < length graph.flat.ports) (data_inputs bench) matched.inputs inputs side.inside;
      once = once_permuted (data_inputs bench) matched.inputs inputs (rising_differ (data_inputs bench) side.rise);
      outputs = outputs_bits graph.flat matched.outputs outputs;
      each = each;
      few_cells = is.flat_fits.cells;
      few_outputs = omega (arith, long, each, most, few);
    }

-- ---- numbers

pub few_inputs : (graph : NetGraph) (aig : Aig) (matched : Match) → CanBeMade graph aig matched → length matched.inputs + length graph.flat.cells < 2 ^ 30
few_inputs graph aig matched ok =
    let size = ok.graph_fits.size in
    let many = ok.many in
    let cells = ok.few_cells in
    omega (arith, size, many, cells)

pub few_sorts : (graph : NetGraph) (aig : Aig) (matched : Match) (sorts : Sorts) → CanBeMade graph aig matched → sorts.inputs ≡ length matched.inputs → sorts.cells ≡ cell_variables graph → sorts.ands ≡ length aig.ands → HasFew sorts
few_sorts graph aig matched sorts ok inputs cells ands =
    let size = ok.graph_fits.size in
    let many = ok.many in
    let few = ok.few_cells in
    let most = before_few graph (length graph.flat.cells) in
    omega (arith, size, many, few, most, inputs, cells, ands)

pub known_ands : (sorts : Sorts) (aig : Aig) → IsAig aig → sorts.inputs ≡ aig.inputs → sorts.ands ≡ length aig.ands → All (IsKnown sorts) aig.ands
known_ands sorts aig fits inputs ands place d lt =
    let one = get_or aig.ands place d in
    let at = fits.ands place one (slice_get-get_or aig.ands place d lt) in
    let lhs = at.lhs in
    let left = at.rhs0 in
    let right = at.rhs1 in
    record {
      lhs = omega (arith, lhs, lt, inputs, ands);
      rhs0 = omega (arith, lhs, lt, inputs, ands, left);
      rhs1 = omega (arith, lhs, lt, inputs, ands, right);
    }

pub known_outputs : (sorts : Sorts) (aig : Aig) → IsAig aig → sorts.inputs ≡ aig.inputs → sorts.ands ≡ length aig.ands → All (λ literal. literal / 2 ≤ sorts.inputs + sorts.ands) aig.outputs
known_outputs sorts aig fits inputs ands place d lt = let below = fits.outputs place d lt in omega (arith, below, inputs, ands)

pub few_differences : (graph : NetGraph) (aig : Aig) (matched : Match) (sorts : Sorts) → CanBeMade graph aig matched → HasFew sorts → constant_of sorts + 1 + length aig.outputs < 2 ^ 31
few_differences graph aig matched sorts ok few = let outputs = ok.few_outputs in omega (arith, outputs, few)

-- ---- as many literals as outputs

zip_many : {A B : Type 0} (R : A → B → Type 0) (xs : List A) (ys : List B) → AllZip R xs ys → length ys ≡ length xs
zip_many R [] [] all = refl
zip_many R [] (b ∷ ys) all = absurd all
zip_many R (a ∷ xs) [] all = absurd all
zip_many R (a ∷ xs) (b ∷ ys) all = ap suc (zip_many R xs ys all.1)

pub shown_many : (graph : NetGraph) (variables ports nets literals : List ℕ) → AllZip (λ port net. Reads graph.flat (reader.Port port) net) ports nets → literals ≡ literals_at variables nets → length literals ≡ length ports
shown_many graph variables ports nets literals read is =
    ap length is ∙ (literals_long variables nets ∙ zip_many (λ port net. Reads graph.flat (reader.Port port) net) ports nets read)

-- ---- the whole

numbers_are : (a b c d e f : ℕ) → a ≡ d → b ≡ e → c ≡ f → ◌≡◌ {A = Sorts} (record { inputs = a; cells = b; ands = c }) (record { inputs = d; cells = e; ands = f })
numbers_are a b c d e f one two three = rw (one, two, three) refl

pub assembled : (graph : NetGraph) (aig : Aig) (matched : Match) (sorts : Sorts) (variables : List ℕ) (groups golden differs all : List Clause) (nets literals inputs differ : List ℕ) (vars first : ℕ)
    → sorts.inputs ≡ length matched.inputs → sorts.cells ≡ cell_variables graph → sorts.ands ≡ length aig.ands
    → AreVariables graph matched.inputs variables → AreCellClauses graph (length matched.inputs) variables (length graph.flat.cells) groups
    → AllZip (λ port net. Reads graph.flat (reader.Port port) net) matched.outputs nets → literals ≡ literals_at variables nets
    → inputs ≡ range_with_len 0 (length matched.inputs) → first ≡ constant_of sorts + 1 → differ ≡ range_with_len first (length aig.outputs) → vars ≡ first + length aig.outputs
    → golden ≡ groups ++ flat_map (and_clauses sorts) aig.ands ++ written (opposite (2 * constant_of sorts) ∷ [])
    → differs ≡ golden ++ differ_clauses first literals (map (golden_literal sorts) aig.outputs)
    → all ≡ differs ++ written (map (λ variable. 2 * variable) differ)
    → IsMiter graph aig matched (record { cnf = record { vars = vars; clauses = all }; inputs = inputs; differ = differ })
assembled graph aig matched sorts variables groups golden differs all nets literals inputs differ vars first one two three named grouped read shown is_inputs is_first is_differ is_vars is_golden is_differs is_all = record {
  sorts = sorts;
  numbers = numbers_are sorts.inputs sorts.cells sorts.ands (length matched.inputs) (cell_variables graph) (length aig.ands) one two three;
  variables = variables;
  named = named;
  cells = groups;
  grouped = grouped;
  nets = nets;
  read = read;
  inputs = is_inputs;
  differ = is_differ ∙ ap (λ n. range_with_len n (length aig.outputs)) is_first;
  count = is_vars ∙ ap (λ n. n + length aig.outputs) is_first;
  clauses =
      let last = written (map (λ (variable : ℕ). 2 * variable) differ) in
      let outputs = map (golden_literal sorts) aig.outputs in
      is_all
      ∙ ap (λ (l : List Clause). l ++ last)
      (is_differs
      ∙ (ap (λ (l : List Clause). l ++ differ_clauses first literals outputs) is_golden
      ∙ (ap (λ (n : ℕ). ((groups ++ flat_map (and_clauses sorts) aig.ands) ++ written (opposite (2 * constant_of sorts) ∷ [])) ++ differ_clauses n literals outputs) is_first
      ∙ ap (λ (l : List ℕ). ((groups ++ flat_map (and_clauses sorts) aig.ands) ++ written (opposite (2 * constant_of sorts) ∷ [])) ++ differ_clauses (constant_of sorts + 1) l outputs) shown)));
}

-- ---- the inputs

pub ok_then : {T E : Type 0} (P Q : T → Type 0) → ((x : T) → P x → Q x) → (r : Result T E) → IfOk r P → IfOk r Q
ok_then P Q more (Ok x) is = more x is
ok_then P Q more (Err e) is = tt

pub inputs_below : (inputs : List ℕ) (count vars : ℕ) → inputs ≡ range_with_len 0 count → count ≤ vars → All (λ input. input < vars) inputs
inputs_below inputs count vars is le = subst (All (λ input. input < vars)) (sym is) (range_all (λ input. input < vars) 0 count (λ k low high. omega arith))

pub inputs_differ : (inputs : List ℕ) (count : ℕ) → inputs ≡ range_with_len 0 count → AllPairs (λ one other. one ≢ other) inputs
inputs_differ inputs count is = subst (AllPairs (λ one other. one ≢ other)) (sym is) (range_once 0 count)

pub miter_inputs_below : (graph : NetGraph) (aig : Aig) (matched : Match) (made : MiterCnf) → IsMiter graph aig matched made → All (λ input. input < made.cnf.vars) made.inputs
miter_inputs_below graph aig matched made m =
    let count = m.count in
    let inputs = ap (λ (s : Sorts). s.inputs) m.numbers in
    inputs_below made.inputs (length matched.inputs) made.cnf.vars m.inputs (omega (arith, count, inputs))

pub launch_inputs_below : (graph : NetGraph) (inputs : List ℕ) (first second : ℕ) (made : MiterCnf) → IsLaunch graph inputs first second made → All (λ input. input < made.cnf.vars) made.inputs
launch_inputs_below graph inputs first second made m = let count = m.count in inputs_below made.inputs (length inputs) made.cnf.vars m.input_variables (omega (arith, count))
