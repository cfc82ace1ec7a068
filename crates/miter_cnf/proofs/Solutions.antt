-- The miter's solutions are the words under which the circuit and its golden circuit differ.
use Rattle.std.proofs.Common.{◌≡◌, ◌∙◌, ◌<◌, ◌≤◌, ◌+◌, ◌-◌, ◌*◌, ◌/◌, ℕ, zero, suc, Bool, true, false, not, refl, sym, ap, subst, arith, List, [], ◌∷◌, ◌++◌, length, map, get_or, Some, ◌⊎◌, inl, inr}
use Rattle.std.specs.Prelude.{◌||◌, slice_get, slice_index_or}
use Rattle.std.specs.List.{All, AllPairs, flat_map, range_with_len}
use Rattle.std.proofs.lemmas.Bool.Decides.{leb_tells}
use Rattle.std.proofs.lemmas.List.{length-map, get_or-map}
use Rattle.std.proofs.lemmas.List.Elements.{All-append}
use Rattle.std.proofs.lemmas.List.FromFn.{get_or-map-range_with_len, length-map-range_with_len}
use Rattle.std.proofs.lemmas.List.Sorted.{length_permutation}
use Rattle.std.proofs.lemmas.Option.{slice_get_within, slice_get-get_or, get_or_from_slice_get, slice_get-map}
use Rattle.std.specs.Option.{option_map}
use Rattle.rsfq_ids.specs.declared.circuit.Bench.{Bench}
use Rattle.rsfq_ids.specs.declared.circuit.PortUse.TheVariants as port_use
use Rattle.rsfq_ids.specs.declared.circuit.Driver.{Driver}
use Rattle.rsfq_ids.specs.declared.circuit.Reader.TheVariants as reader
use Rattle.rsfq_ids.specs.Design.{Design}
use Rattle.rsfq_ids.specs.Circuit.{IsDrivenBy, Reads}
use Rattle.rsfq_ids.specs.Bench.{IsWord, bit_of}
use Rattle.rsfq_ids.specs.Value.{value_of as value_at, AreValues}
use Rattle.rsfq_ids.specs.Numbering.{IsRanked}
use Rattle.rsfq_ids.specs.Ready.{IsReady}
use Rattle.rsfq_ids.specs.Formula.{Clause, opposite, value_of, Satisfies}
use Rattle.pulse_laws.specs.Statements.{ValuesExist, CircuitsAreReady}
use Rattle.golden_aig.specs.declared.graph.Aig.{Aig}
use Rattle.golden_aig.specs.declared.pairing.Match.{Match}
use Rattle.golden_aig.specs.Aig.{variables_of}
use Rattle.golden_aig.specs.Golden.{golden, AreGoldenValues}
use Rattle.golden_aig.specs.Matched.{data_inputs, outputs_of}
use Rattle.golden_aig.specs.Differ.{golden_word}
use Rattle.golden_aig.proofs.Values.{are_values, determined}
use Rattle.golden_aig.proofs.NoMatch.{data_side}
use Rattle.cell_truth.specs.Clause.{written}
use Rattle.cell_truth.proofs.ClauseLaws.{holds, opposite_value}
use Rattle.net_graph.specs.Graph.{NetGraph, IsGraph}
use Rattle.clock_tree.specs.Clock.{design_of, IsClockNet}
use Rattle.miter_cnf.specs.declared.made.MiterCnf.{MiterCnf}
use Rattle.miter_cnf.specs.Variables.{variable_at, variable_of, variables_before, cell_variables}
use Rattle.miter_cnf.specs.Miter.{IsMiter, constant_of, golden_variable, golden_literal, and_clauses, differ_clauses}
use Rattle.miter_cnf.specs.Laws.{AreComparable, IsWordOf, ShowsDifference, MeansDifference}
use Rattle.miter_cnf.specs.Circuits.{IsNamedCircuit}
use Rattle.miter_cnf.proofs.Literals.{no_true, even_value, literal_of, unlike, unlike_differs, differs_unlike, written_satisfied, satisfied_written, differ_means, means_differ, all_first, all_second}
use Rattle.miter_cnf.proofs.Along.{zip_at, zip_long, same_some, cell_within}
use Rattle.miter_cnf.proofs.Equal.{Makes, satisfied_makes, makes_satisfied, equal_along}
use Rattle.miter_cnf.proofs.Bits.{Distinct, once_permuted, data_listed, words_exist, outputs_most}
use Rattle.miter_cnf.proofs.Equations.{input_number, and_number, golden_even_value, golden_odd_value, equations, ands_satisfied, differ_at, all_differ, some_one, one_some}
use Rattle.miter_cnf.proofs.Assigned.{cell_bits, before_less, has_own, first_bits, second_bits, third_bits, fourth_bits}

not_false : (b : Bool) → (not b || false) ≡ true → b ≡ false
not_false true is = no_true is
not_false false is = refl

false_not : (b : Bool) → b ≡ false → (not b || false) ≡ true
false_not b is = rw is refl

pub constant_false : (values : ℕ → Bool) (c : ℕ) → holds values (opposite (2 * c) ∷ []) ≡ true → values c ≡ false
constant_false values c is =
    let same : value_of values (opposite (2 * c)) ≡ not (values c) = opposite_value values (2 * c) ∙ ap not (even_value values c) in
    not_false (values c) (ap (λ b. b || false) (sym same) ∙ is)

pub false_constant : (values : ℕ → Bool) (c : ℕ) → values c ≡ false → holds values (opposite (2 * c) ∷ []) ≡ true
false_constant values c is =
    let same : value_of values (opposite (2 * c)) ≡ not (values c) = opposite_value values (2 * c) ∙ ap not (even_value values c) in
    ap (λ b. b || false) same ∙ false_not (values c) is

map_get : (f : ℕ → ℕ) (xs : List ℕ) (k : ℕ) (x : ℕ) → slice_get xs k ≡ Some x → slice_get (map f xs) k ≡ Some (f x)
map_get f xs k x at = slice_get-map f xs k ∙ ap (option_map f) at

pub map_from : (f : ℕ → ℕ) (xs : List ℕ) (k y : ℕ) → slice_get (map f xs) k ≡ Some y → (k < length xs) × (y ≡ f (get_or xs k 0))
map_from f xs k y at =
    let lt = slice_get_within (map f xs) k y at in
    let many = length-map xs f in
    let within : k < length xs = omega (arith, lt, many) in
    (within, same_some y (f (get_or xs k 0)) (sym at ∙ map_get f xs k (get_or xs k 0) (slice_get-get_or xs k 0 within)))

pub rising_differ : (xs : List ℕ) → AllPairs (λ one other. one < other) xs → Distinct xs
rising_differ xs rise i j d lt within same = let less = rise i j d lt within in absurd (omega (arith, less, same))

module _ (graph : NetGraph) (aig : Aig) (matched : Match) (bench : Bench) (made : MiterCnf) (is : IsGraph graph) (ok : AreComparable graph aig matched bench) (m : IsMiter graph aig matched made) where
  abbrev design : Design
  design = design_of graph bench

  abbrev first : ℕ
  first = constant_of m.sorts + 1

  abbrev outputs : ℕ
  outputs = length aig.outputs

  abbrev net_literals : List ℕ
  net_literals = map (λ net. 2 * variable_at m.variables net) m.nets

  abbrev golden_literals : List ℕ
  golden_literals = map (golden_literal m.sorts) aig.outputs

  -- ---- how many there are

  pub inputs_many : m.sorts.inputs ≡ length matched.inputs
  inputs_many = ap (λ s. s.inputs) m.numbers

  pub matched_many : length matched.inputs ≡ aig.inputs
  matched_many = length_permutation (data_inputs bench) matched.inputs ok.ports.inputs.one_to_one ∙ sym ok.ports.inputs.count ∙ ok.graph_fits.in_names

  pub sorts_many : m.sorts.inputs ≡ aig.inputs
  sorts_many = inputs_many ∙ matched_many

  pub cells_many : m.sorts.cells ≡ cell_variables graph
  cells_many = ap (λ s. s.cells) m.numbers

  pub ands_many : m.sorts.ands ≡ length aig.ands
  ands_many = ap (λ s. s.ands) m.numbers

  pub nets_many : length m.nets ≡ outputs
  nets_many =
      zip_long (λ port net. Reads graph.flat (reader.Port port) net) matched.outputs m.nets m.read
      ∙ length_permutation (outputs_of graph.flat) matched.outputs ok.ports.outputs.one_to_one ∙ sym ok.ports.outputs.count ∙ ok.graph_fits.out_names

  pub outputs_below : outputs ≤ length graph.flat.ports
  outputs_below =
      let same = length_permutation (outputs_of graph.flat) matched.outputs ok.ports.outputs.one_to_one in
      let long = zip_long (λ port net. Reads graph.flat (reader.Port port) net) matched.outputs m.nets m.read in
      let many = nets_many in
      let most = outputs_most graph.flat in
      omega (arith, same, long, many, most)

  pub inputs_once : Distinct matched.inputs
  inputs_once =
      once_permuted (data_inputs bench) matched.inputs ok.ports.inputs.one_to_one (rising_differ (data_inputs bench) (data_side graph.flat bench ok.bench_fits).rise)

  pub circuit : IsNamedCircuit graph bench matched.inputs m.variables m.cells
  circuit = record {
    fits = is;
    bench_fits = ok.bench_fits;
    shape = ok.shape;
    listed = λ port low high used. data_listed bench matched.inputs port (port_use.Arrival low high) ok.ports.inputs.one_to_one used refl;
    named = m.named;
    grouped = m.grouped;
  }

  pub ready_design : (rank : ℕ → ℕ) → IsRanked graph.flat rank → CircuitsAreReady → IsReady design rank
  ready_design rank ranked ready = ready design rank (record { table_fits = is.table_fits; flat_fits = is.flat_fits; bench_fits = ok.bench_fits }) ok.shape ranked

  -- ---- the parts of the formula

  pub record Parts (P : Clause → Type 0) : Type 0 where
    pub cells : All P m.cells
    pub ands : All P (flat_map (and_clauses m.sorts) aig.ands)
    pub constant : All P (written (opposite (2 * constant_of m.sorts) ∷ []))
    pub differ : All P (differ_clauses first net_literals golden_literals)
    pub last : All P (written (map (λ variable. 2 * variable) (range_with_len first outputs)))

  pub parts : (P : Clause → Type 0) → All P made.cnf.clauses → Parts P
  parts P all =
      let c = m.cells in
      let a = flat_map (and_clauses m.sorts) aig.ands in
      let k = written (opposite (2 * constant_of m.sorts) ∷ []) in
      let d = differ_clauses first net_literals golden_literals in
      let l = written (map (λ (variable : ℕ). 2 * variable) made.differ) in
      let whole : All P ((((c ++ a) ++ k) ++ d) ++ l) = subst (All P) m.clauses all in
      let four = all_first P (((c ++ a) ++ k) ++ d) l whole in
      let three = all_first P ((c ++ a) ++ k) d four in
      let two = all_first P (c ++ a) k three in
      record {
        cells = all_first P c a two;
        ands = all_second P c a two;
        constant = all_second P (c ++ a) k three;
        differ = all_second P ((c ++ a) ++ k) d four;
        last = subst (λ (v : List ℕ). All P (written (map (λ (variable : ℕ). 2 * variable) v))) m.differ (all_second P (((c ++ a) ++ k) ++ d) l whole);
      }

  pub whole : (P : Clause → Type 0) → Parts P → All P made.cnf.clauses
  whole P p =
      let c = m.cells in
      let a = flat_map (and_clauses m.sorts) aig.ands in
      let k = written (opposite (2 * constant_of m.sorts) ∷ []) in
      let d = differ_clauses first net_literals golden_literals in
      let l = written (map (λ (variable : ℕ). 2 * variable) made.differ) in
      let last : All P l = subst (λ (v : List ℕ). All P (written (map (λ (variable : ℕ). 2 * variable) v))) (sym m.differ) p.last in
      subst (All P) (sym m.clauses)
      (All-append P (((c ++ a) ++ k) ++ d) l (All-append P ((c ++ a) ++ k) d (All-append P (c ++ a) k (All-append P c a p.cells p.ands) p.constant) p.differ) last)

  -- ---- outputs

  pub output_reads : (k : ℕ) → k < outputs → Reads graph.flat (reader.Port (get_or matched.outputs k 0)) (get_or m.nets k 0)
  output_reads k lt =
      let many = nets_many in
      let long = zip_long (λ port net. Reads graph.flat (reader.Port port) net) matched.outputs m.nets m.read in
      zip_at (λ port net. Reads graph.flat (reader.Port port) net) matched.outputs m.nets k 0 0 m.read (omega (arith, many, long, lt))

  -- what each net has that is not of the clock, the net of an output has
  pub output_has : (Q : ℕ → Type 0) → ((net : ℕ) (source : Driver) → IsDrivenBy graph.flat net source → IsClockNet design net ⊎ Q net) → (port net : ℕ) → Reads graph.flat (reader.Port port) net → Q net
  output_has Q each port net reads =
      let source = is.numbered.has_driver (reader.Port port) net reads in
      elim (each net source.0 source.1) [
        | inl clock ↦ absurd (ok.shape.clock_out reads.0 clock.0 (port, net, reads.1, clock.1))
        | inr q ↦ q
      ]

  pub word_bits : (values : ℕ → Bool) (word : List Bool) → IsWordOf bench matched.inputs values word → (place : ℕ) → place < aig.inputs → values place ≡ slice_index_or (golden_word bench matched word) place false
  word_bits values word is_word place lt =
      let many = matched_many in
      let within : place < length matched.inputs = omega (arith, many, lt) in
      sym (get_or-map (λ (port : ℕ). bit_of bench port word) matched.inputs place 0 false within ∙ is_word.1 place (get_or matched.inputs place 0) (slice_get-get_or matched.inputs place 0 within))

  -- ---- a solution shows a difference

  shows : (values : ℕ → Bool) (word items : List Bool) → IsWordOf bench matched.inputs values word → AreValues design word items
      → ((net : ℕ) (source : Driver) → IsDrivenBy graph.flat net source → IsClockNet design net ⊎ (values (variable_at m.variables net) ≡ value_at items net))
      → ((lit : ℕ) → lit < 2 * (variables_of aig + 1) → value_of values (golden_literal m.sorts lit) ≡ golden aig (golden_word bench matched word) lit)
      → All (Satisfies values) (differ_clauses first net_literals golden_literals) → (k : ℕ) → k < outputs → values (first + k) ≡ true → ShowsDifference graph aig matched bench word
  shows values word items is_word are each same differ k lt one =
      let many = nets_many in
      let net = get_or m.nets k 0 in
      let lit = get_or aig.outputs k 0 in
      let output = get_or matched.outputs k 0 in
      let reads = output_reads k lt in
      let long = zip_long (λ port net. Reads graph.flat (reader.Port port) net) matched.outputs m.nets m.read in
      let at_net = map_get (λ n. 2 * variable_at m.variables n) m.nets k net (slice_get-get_or m.nets k 0 (omega (arith, many, lt))) in
      let at_lit = map_get (golden_literal m.sorts) aig.outputs k lit (slice_get-get_or aig.outputs k 0 lt) in
      let said = differ_means values (2 * (first + k)) (2 * variable_at m.variables net) (golden_literal m.sorts lit) (differ_at (Satisfies values) first net_literals golden_literals k (2 * variable_at m.variables net) (golden_literal m.sorts lit) at_net at_lit differ) in
      let left : value_of values (2 * variable_at m.variables net) ≡ value_at items net = even_value values (variable_at m.variables net) ∙ output_has (λ n. values (variable_at m.variables n) ≡ value_at items n) each output net reads in
      let right = same lit (ok.graph_fits.outputs k 0 lt) in
      let unequal : unlike (value_at items net) (golden aig (golden_word bench matched word) lit) ≡ true =
      ap (λ b. unlike b (golden aig (golden_word bench matched word) lit)) (sym left) ∙ ap (unlike (value_of values (2 * variable_at m.variables net))) (sym right) ∙ sym said ∙ even_value values (first + k) ∙ one in (
        output,
        value_at items net,
        golden aig (golden_word bench matched word) lit,
        record {
          is_word = is_word.0;
          circuit = (net, reads, (items, are, refl));
          golden_value = (k, lit, slice_get-get_or matched.outputs k 0 (omega (arith, many, long, lt)), slice_get-get_or aig.outputs k 0 lt, refl);
          differ = unlike_differs (value_at items net) (golden aig (golden_word bench matched word) lit) unequal;
        },
      )

  module _ (rank : ℕ → ℕ) (ranked : IsRanked graph.flat rank) (exist : ValuesExist) (ready : CircuitsAreReady) where
    pub solved : (values : ℕ → Bool) (word : List Bool) → All (Satisfies values) made.cnf.clauses → IsWordOf bench matched.inputs values word → ShowsDifference graph aig matched bench word
    solved values word all is_word =
        let p = parts (Satisfies values) all in
        let items = (exist design rank word (ready_design rank ranked ready)).0 in
        let each = equal_along graph bench matched.inputs m.variables m.cells circuit rank ranked values word items.0 items.1 is_word (satisfied_makes graph bench matched.inputs m.variables m.cells circuit values (value_at items.0) p.cells) in
        let constant = constant_false values (constant_of m.sorts) (written_satisfied values (opposite (2 * constant_of m.sorts) ∷ []) p.constant) in
        let gword = golden_word bench matched word in
        let are = equations m.sorts aig values gword ok.graph_fits sorts_many (word_bits values word is_word) constant p.ands in
        let some = some_one values first outputs (written_satisfied values (map (λ (v : ℕ). 2 * v) (range_with_len first outputs)) p.last) in
        shows values word items.0 is_word items.1 each (λ lit lt. determined aig gword ok.graph_fits (λ (l : ℕ). value_of values (golden_literal m.sorts l)) lit are lt) p.differ some.0 some.1 some.2

    -- ---- values of all variables under a word

    -- values that the word gives: all clauses hold but the last
    pub record IsAssigned (word items : List Bool) (values : ℕ → Bool) : Type 0 where
      pub word_of : IsWordOf bench matched.inputs values word
      pub each : (net : ℕ) (source : Driver) → IsDrivenBy graph.flat net source → IsClockNet design net ⊎ (values (variable_at m.variables net) ≡ value_at items net)
      pub cells : All (Satisfies values) m.cells
      pub golden_of : (lit : ℕ) → lit < 2 * (variables_of aig + 1) → value_of values (golden_literal m.sorts lit) ≡ golden aig (golden_word bench matched word) lit
      pub differ_of : (k : ℕ) → k < outputs → values (first + k) ≡ unlike (value_at items (get_or m.nets k 0)) (golden aig (golden_word bench matched word) (get_or aig.outputs k 0))

    golden_from : (values : ℕ → Bool) (gword : List Bool) → AreGoldenValues aig gword → ((v : ℕ) → v ≤ variables_of aig → values (golden_variable m.sorts v) ≡ golden aig gword (2 * v))
        → (lit : ℕ) → lit < 2 * (variables_of aig + 1) → value_of values (golden_literal m.sorts lit) ≡ golden aig gword lit
    golden_from values gword are each lit lt = elim (literal_of lit) [
      | inl e ↦
          ap (λ l. value_of values (golden_literal m.sorts l)) e ∙ (golden_even_value m.sorts values (lit / 2) ∙ (each (lit / 2) (omega (arith, lt, e)) ∙ ap (golden aig gword) (sym e)))
      | inr e ↦
          ap (λ l. value_of values (golden_literal m.sorts l)) e
          ∙ (golden_odd_value m.sorts values (lit / 2) ∙ (ap not (each (lit / 2) (omega (arith, lt, e))) ∙ (sym (are.negation (lit / 2)) ∙ ap (golden aig gword) (sym e))))
    ]

    pub assigned : (word items : List Bool) → IsWord bench word → AreValues design word items → (values : ℕ → Bool) × IsAssigned word items values
    assigned word items is_word are =
        let gword = golden_word bench matched word in
        let cells = cell_bits graph bench matched.inputs m.variables m.cells circuit (value_at items) (length graph.flat.cells) (omega arith) in
        let and_bits : List Bool = map (λ (k : ℕ). golden aig gword (2 * (aig.inputs + k + 1))) (range_with_len 0 (length aig.ands)) in
        let differ_bits : List Bool = map (λ (k : ℕ). unlike (value_at items (get_or m.nets k 0)) (golden aig gword (get_or aig.outputs k 0))) (range_with_len 0 outputs) in
        let values : ℕ → Bool = λ k. get_or (gword ++ (cells.0 ++ (and_bits ++ (false ∷ differ_bits)))) k false in
        let one_long : length gword ≡ length matched.inputs = length-map matched.inputs (λ (port : ℕ). bit_of bench port word) in
        let two_long : length cells.0 ≡ cell_variables graph = cells.1.many in
        let three_long : length and_bits ≡ length aig.ands = length-map-range_with_len (λ (k : ℕ). golden aig gword (2 * (aig.inputs + k + 1))) 0 (length aig.ands) in
        let golden_are = are_values aig gword ok.graph_fits in
        let word_of : IsWordOf bench matched.inputs values word = (
          is_word,
          λ place port at.
              let within = slice_get_within matched.inputs place port at in
              sym (first_bits gword cells.0 and_bits (false ∷ differ_bits) place (omega (arith, one_long, within))
              ∙ get_or-map (λ (p : ℕ). bit_of bench p word) matched.inputs place port false within ∙ ap (λ (p : ℕ). bit_of bench p word) (get_or_from_slice_get matched.inputs place port port at)),
        ) in
        let makes : Makes graph bench matched.inputs m.variables m.cells circuit values (value_at items) = λ cell row nets of joins read same.
        let lower = before_less graph cell (length graph.flat.cells) (cell_within graph cell row of) (has_own graph cell row of joins) in
        second_bits gword cells.0 and_bits (false ∷ differ_bits) (variables_before graph cell) (variable_of graph (length matched.inputs) cell) (omega (arith, one_long)) (omega (arith, two_long, lower))
        ∙ cells.1.each cell row nets (cell_within graph cell row of) of joins read in
        let each = equal_along graph bench matched.inputs m.variables m.cells circuit rank ranked values word items are word_of makes in
        let variable_is : (v : ℕ) → v ≤ variables_of aig → values (golden_variable m.sorts v) ≡ golden aig gword (2 * v) = λ v le.
        golden_variable_is v le gword cells.0 and_bits differ_bits one_long two_long three_long golden_are
        (λ k d lt. get_or-map-range_with_len (λ (j : ℕ). golden aig gword (2 * (aig.inputs + j + 1))) 0 (length aig.ands) k k d lt (omega arith)) in (
          values,
          record {
            word_of = word_of;
            each = each;
            cells = makes_satisfied graph bench matched.inputs m.variables m.cells circuit values (value_at items) makes each;
            golden_of = golden_from values gword golden_are variable_is;
            differ_of = λ k lt.
                let cells_are = cells_many in
                let ands_are = ands_many in
                let inputs_are = inputs_many in
                fourth_bits gword cells.0 and_bits (false ∷ differ_bits) (suc k) (first + k) (omega (arith, one_long, two_long, three_long, cells_are, ands_are, inputs_are))
                ∙ get_or-map-range_with_len (λ (j : ℕ). unlike (value_at items (get_or m.nets j 0)) (golden aig gword (get_or aig.outputs j 0))) 0 outputs k k false lt (omega arith);
          },
        )
      where
        golden_variable_is : (v : ℕ) → v ≤ variables_of aig → (gword cells and_bits differ_bits : List Bool) → length gword ≡ length matched.inputs → length cells ≡ cell_variables graph → length and_bits ≡ length aig.ands
            → AreGoldenValues aig gword → ((k : ℕ) (d : Bool) → k < length aig.ands → get_or and_bits k d ≡ golden aig gword (2 * (aig.inputs + k + 1)))
            → get_or (gword ++ (cells ++ (and_bits ++ (false ∷ differ_bits)))) (golden_variable m.sorts v) false ≡ golden aig gword (2 * v)
        golden_variable_is zero le gword cells and_bits differ_bits one_long two_long three_long golden_are bits =
            let cells_are = cells_many in
            let ands_are = ands_many in
            let inputs_are = inputs_many in
            fourth_bits gword cells and_bits (false ∷ differ_bits) 0 (constant_of m.sorts) (omega (arith, one_long, two_long, three_long, cells_are, ands_are, inputs_are)) ∙ sym golden_are.constant
        golden_variable_is (suc place) le gword cells and_bits differ_bits one_long two_long three_long golden_are bits =
            let cells_are = cells_many in
            let inputs_are = inputs_many in
            let all_are = sorts_many in
            elim (leb_tells aig.inputs place) [
              | inr t ↦
                  (let lt : place < aig.inputs = t.1 in
                  let next : 2 * (place + 1) ≡ 2 * suc place = omega arith in
                  ap (λ n. get_or (gword ++ (cells ++ (and_bits ++ (false ∷ differ_bits)))) n false) (input_number m.sorts place (omega (arith, all_are, lt)))
                  ∙ (first_bits gword cells and_bits (false ∷ differ_bits) place (omega (arith, one_long, inputs_are, all_are, lt)) ∙ (sym (golden_are.input place lt) ∙ ap (golden aig gword) next)))
              | inl t ↦
                  (let ge : aig.inputs ≤ place = t.1 in
                  let next : 2 * (aig.inputs + (place - aig.inputs) + 1) ≡ 2 * suc place = omega (arith, ge) in
                  let within : place - aig.inputs < length aig.ands = omega (arith, ge, le) in
                  ap (λ n. get_or (gword ++ (cells ++ (and_bits ++ (false ∷ differ_bits)))) n false) (and_number m.sorts place (omega (arith, all_are, ge)))
                  ∙ (third_bits gword cells and_bits (false ∷ differ_bits) (place - aig.inputs) (place + m.sorts.cells) (omega (arith, one_long, two_long, cells_are, inputs_are, all_are, ge)) (omega (arith, three_long, within))
                  ∙ (bits (place - aig.inputs) false within ∙ ap (golden aig gword) next)))
            ]

    -- the clauses but for the last one
    pub ands_held : (word items : List Bool) (values : ℕ → Bool) → IsAssigned word items values → All (Satisfies values) (flat_map (and_clauses m.sorts) aig.ands)
    ands_held word items values given = ands_satisfied m.sorts aig values (golden_word bench matched word) ok.graph_fits (are_values aig (golden_word bench matched word) ok.graph_fits) given.golden_of

    pub constant_held : (word items : List Bool) (values : ℕ → Bool) → IsAssigned word items values → values (constant_of m.sorts) ≡ false
    constant_held word items values given =
        sym (golden_even_value m.sorts values 0) ∙ (given.golden_of 0 (omega arith) ∙ (are_values aig (golden_word bench matched word) ok.graph_fits).constant)

    -- a difference has the value of its two literals
    pub differ_value : (word items : List Bool) (values : ℕ → Bool) → IsAssigned word items values → (k : ℕ) → k < outputs
        → value_of values (2 * (first + k)) ≡ unlike (value_of values (2 * variable_at m.variables (get_or m.nets k 0))) (value_of values (golden_literal m.sorts (get_or aig.outputs k 0)))
    differ_value word items values given k lt =
        let net = get_or m.nets k 0 in
        let lit = get_or aig.outputs k 0 in
        let gword = golden_word bench matched word in
        let left : value_of values (2 * variable_at m.variables net) ≡ value_at items net =
        even_value values (variable_at m.variables net) ∙ output_has (λ x. values (variable_at m.variables x) ≡ value_at items x) given.each (get_or matched.outputs k 0) net (output_reads k lt) in
        let right = given.golden_of lit (ok.graph_fits.outputs k 0 lt) in
        even_value values (first + k) ∙ (given.differ_of k lt ∙ (ap (λ b. unlike b (golden aig gword lit)) (sym left) ∙ ap (unlike (value_of values (2 * variable_at m.variables net))) (sym right)))

    pub but_last : (word items : List Bool) (values : ℕ → Bool) → IsAssigned word items values → All (Satisfies values) (written (map (λ variable. 2 * variable) (range_with_len first outputs))) → Parts (Satisfies values)
    but_last word items values given last = record {
      cells = given.cells;
      ands = ands_held word items values given;
      constant = satisfied_written values (opposite (2 * constant_of m.sorts) ∷ []) (false_constant values (constant_of m.sorts) (constant_held word items values given));
      differ = all_differ (Satisfies values) first net_literals golden_literals (λ k n g at_n at_g.
          let net = map_from (λ x. 2 * variable_at m.variables x) m.nets k n at_n in
          let lit = map_from (golden_literal m.sorts) aig.outputs k g at_g in
          means_differ values (2 * (first + k)) n g
          (differ_value word items values given k lit.0 ∙ (ap (λ x. unlike (value_of values x) (value_of values (golden_literal m.sorts (get_or aig.outputs k 0)))) (sym net.1) ∙ ap (λ x. unlike (value_of values n) (value_of values x)) (sym lit.1))));
      last = last;
    }

    pub solves : (word : List Bool) → ShowsDifference graph aig matched bench word → (values : ℕ → Bool) × All (Satisfies values) made.cnf.clauses × IsWordOf bench matched.inputs values word
    solves word (output, netlist, bit, differs) =
        let items = differs.circuit.2.0 in
        let made_values = assigned word items differs.is_word differs.circuit.2.1 in
        let values = made_values.0 in
        let given = made_values.1 in
        let k = differs.golden_value.0 in
        let lit = differs.golden_value.1 in
        let lt = slice_get_within aig.outputs k lit differs.golden_value.3 in
        let many = nets_many in
        let long = zip_long (λ port net. Reads graph.flat (reader.Port port) net) matched.outputs m.nets m.read in
        let port_is : get_or matched.outputs k 0 ≡ output = get_or_from_slice_get matched.outputs k output 0 differs.golden_value.2 in
        let lit_is : get_or aig.outputs k 0 ≡ lit = get_or_from_slice_get aig.outputs k lit 0 differs.golden_value.3 in
        let net_is : get_or m.nets k 0 ≡ differs.circuit.0 =
        is.numbered.one_read (reader.Port output) (get_or m.nets k 0) differs.circuit.0 (subst (λ (p : ℕ). Reads graph.flat (reader.Port p) (get_or m.nets k 0)) port_is (output_reads k lt)) differs.circuit.1 in
        let one : values (first + k) ≡ true =
        given.differ_of k lt ∙ (ap (λ (n : ℕ). unlike (value_at items n) (golden aig (golden_word bench matched word) (get_or aig.outputs k 0))) net_is
        ∙ (ap (λ b. unlike b (golden aig (golden_word bench matched word) (get_or aig.outputs k 0))) differs.circuit.2.2
        ∙ (ap (λ l. unlike netlist (golden aig (golden_word bench matched word) l)) lit_is ∙ (ap (unlike netlist) differs.golden_value.4 ∙ differs_unlike netlist bit differs.differ)))) in
        let last = satisfied_written values (map (λ (v : ℕ). 2 * v) (range_with_len first outputs)) (one_some values first outputs k lt one) in
        (values, whole (Satisfies values) (but_last word items values given last), given.word_of)

    pub means : MeansDifference graph aig matched bench made
    means = record {
      words = λ values. words_exist bench matched.inputs values ok.ports.inputs.one_to_one inputs_once;
      solved = solved;
      solves = solves;
    }
