-- The formula of a launch: its solutions, that its inputs decide its variables, and that it is well formed.
use Rattle.std.proofs.Common.{◌≡◌, ◌∙◌, ◌<◌, ◌≤◌, ◌+◌, ◌*◌, ℕ, Bool, true, false, refl, sym, ap, subst, arith, List, [], ◌∷◌, ◌++◌, length, length-append, map, get_or, ◌⊎◌, inl, inr}
use Rattle.std.specs.Prelude.{◌==◌, ◌||◌, if◌then◌else◌, IsPermutation}
use Rattle.std.specs.List.{All, Contains, range_with_len}
use Rattle.std.proofs.lemmas.Bool.{cases_Bool}
use Rattle.std.proofs.lemmas.Bool.Decides.{eqb_tells}
use Rattle.std.proofs.lemmas.List.{length-map, get_or-map, get_or_append_left, get_or-append-add}
use Rattle.std.proofs.lemmas.List.Elements.{All-nil, All-cons, All-append}
use Rattle.std.proofs.lemmas.List.Sorted.{IsPermutation-refl}
use Rattle.std.proofs.lemmas.Option.{slice_get_within, slice_get-get_or, get_or_from_slice_get}
use Rattle.rsfq_ids.specs.declared.circuit.Bench.{Bench}
use Rattle.rsfq_ids.specs.declared.circuit.PortUse.TheVariants as port_use
use Rattle.rsfq_ids.specs.declared.circuit.Driver.{Driver}
use Rattle.rsfq_ids.specs.declared.circuit.Driver.TheVariants as driver
use Rattle.rsfq_ids.specs.Design.{Design}
use Rattle.rsfq_ids.specs.Circuit.{IsDrivenBy}
use Rattle.rsfq_ids.specs.Bench.{IsWord, bit_of}
use Rattle.rsfq_ids.specs.Value.{value_of as value_at, AreValues}
use Rattle.rsfq_ids.specs.Numbering.{IsRanked}
use Rattle.rsfq_ids.specs.Ready.{IsReady}
use Rattle.rsfq_ids.specs.Formula.{Clause, IsOver, IsFormula, value_of, Satisfies}
use Rattle.rsfq_ids.specs.Propagation.{InputsDecide, IsDecided, true_literal}
use Rattle.pulse_laws.specs.Statements.{ValuesExist, CircuitsAreReady}
use Rattle.golden_aig.specs.Matched.{data_inputs}
use Rattle.golden_aig.proofs.NoMatch.{data_side}
use Rattle.net_graph.specs.Graph.{NetGraph, IsGraph}
use Rattle.clock_tree.specs.Clock.{design_of, IsClockNet}
use Rattle.miter_cnf.specs.declared.made.MiterCnf.{MiterCnf}
use Rattle.miter_cnf.specs.Variables.{variable_at, variable_of, variables_before, cell_variables}
use Rattle.miter_cnf.specs.Miter.{IsLaunch}
use Rattle.miter_cnf.specs.Laws.{IsWordOf, CanLaunch, ShowsLaunch, MeansLaunch}
use Rattle.miter_cnf.specs.Circuits.{IsNamedCircuit}
use Rattle.miter_cnf.proofs.Literals.{even_value, all_first, all_second, all_in}
use Rattle.miter_cnf.proofs.Along.{cell_within}
use Rattle.miter_cnf.proofs.Equal.{Makes, satisfied_makes, makes_satisfied, equal_along}
use Rattle.miter_cnf.proofs.Bits.{Distinct, data_listed, words_exist, inputs_most}
use Rattle.miter_cnf.proofs.Assigned.{cell_bits, before_less, has_own}
use Rattle.miter_cnf.proofs.Settled.{vars_told, decided_by, input_told}
use Rattle.miter_cnf.proofs.Formed.{IsGood, cells_good, cells_few, nets_below}
use Rattle.miter_cnf.proofs.Groups.{before_few}
use Rattle.miter_cnf.proofs.Solutions.{rising_differ}

or_none : (b : Bool) → (b || false) ≡ true → b ≡ true
or_none true e = refl
or_none false e = e

none_or : (b : Bool) → b ≡ true → (b || false) ≡ true
none_or b e = rw e refl

module _ (graph : NetGraph) (bench : Bench) (first second : ℕ) (made : MiterCnf) (is : IsGraph graph) (ok : CanLaunch graph bench first second) (m : IsLaunch graph (data_inputs bench) first second made) (rank : ℕ → ℕ) (ranked : IsRanked graph.flat rank)
    (exist : ValuesExist) (ready : CircuitsAreReady) where
  abbrev design : Design
  design = design_of graph bench

  abbrev inputs : List ℕ
  inputs = data_inputs bench

  abbrev unit : ℕ → Clause
  unit net = (2 * variable_at m.variables net) ∷ []

  same : IsPermutation inputs inputs
  same = IsPermutation-refl inputs

  once : Distinct inputs
  once = rising_differ inputs (data_side graph.flat bench ok.bench_fits).rise

  circuit : IsNamedCircuit graph bench inputs m.variables m.cells
  circuit = record {
    fits = is;
    bench_fits = ok.bench_fits;
    shape = ok.shape;
    listed = λ port low high used. data_listed bench inputs port (port_use.Arrival low high) same used refl;
    named = m.named;
    grouped = m.grouped;
  }

  ready_design : IsReady design rank
  ready_design = ready design rank (record { table_fits = is.table_fits; flat_fits = is.flat_fits; bench_fits = ok.bench_fits }) ok.shape ranked

  record Parts (P : Clause → Type 0) : Type 0 where
    pub cells : All P m.cells
    pub one : P (unit first)
    pub two : P (unit second)

  parts : (P : Clause → Type 0) → All P made.cnf.clauses → Parts P
  parts P all =
      let whole : All P ((m.cells ++ (unit first ∷ [])) ++ (if first == second then [] else (unit second ∷ []))) = subst (All P) m.clauses all in
      let front = all_first P (m.cells ++ (unit first ∷ [])) (if first == second then [] else (unit second ∷ [])) whole in
      let back = all_second P (m.cells ++ (unit first ∷ [])) (if first == second then [] else (unit second ∷ [])) whole in
      let one = all_second P m.cells (unit first ∷ []) front 0 (unit first) (omega arith) in
      record {
        cells = all_first P m.cells (unit first ∷ []) front;
        one = one;
        two = elim (eqb_tells first second) [
          | inl t ↦ subst (λ n. P (unit n)) t.1 one
          | inr t ↦ (let only : All P (unit second ∷ []) = rw t.0 at back in only 0 (unit second) (omega arith))
        ];
      }

  whole : (P : Clause → Type 0) → Parts P → All P made.cnf.clauses
  whole P p =
      subst (All P) (sym m.clauses)
      (All-append P (m.cells ++ (unit first ∷ [])) (if first == second then [] else (unit second ∷ []))
      (All-append P m.cells (unit first ∷ []) p.cells (All-cons P (unit first) [] p.one (All-nil P))) back)
    where
      back : All P (if first == second then [] else (unit second ∷ []))
      back = elim (cases_Bool (first == second)) [ inl e ↦ rw e (All-nil P) | inr e ↦ rw e (All-cons P (unit second) [] p.two (All-nil P)) ]

  -- what each net has that is not of the clock, both nets have
  has_at : (Q : ℕ → Type 0) → ((net : ℕ) (source : Driver) → IsDrivenBy graph.flat net source → IsClockNet design net ⊎ Q net) → (net : ℕ) → net < length graph.flat.nets → ¬ IsClockNet design net → Q net
  has_at Q each net lt no_clock =
      elim (each net (get_or graph.flat.nets net (driver.Port 0)) (slice_get-get_or graph.flat.nets net (driver.Port 0) lt)) [ inl clock ↦ absurd (no_clock clock) | inr q ↦ q ]

  solved : (values : ℕ → Bool) (word : List Bool) → All (Satisfies values) made.cnf.clauses → IsWordOf bench inputs values word → ShowsLaunch graph bench first second word
  solved values word all is_word =
      let p = parts (Satisfies values) all in
      let items = (exist design rank word ready_design).0 in
      let each = equal_along graph bench inputs m.variables m.cells circuit rank ranked values word items.0 items.1 is_word (satisfied_makes graph bench inputs m.variables m.cells circuit values (value_at items.0) p.cells) in
      let one = has_at (λ n. values (variable_at m.variables n) ≡ value_at items.0 n) each first ok.first_there ok.first_data in
      let two = has_at (λ n. values (variable_at m.variables n) ≡ value_at items.0 n) each second ok.second_there ok.second_data in (
        is_word.0,
        (items.0, items.1, sym one ∙ (sym (even_value values (variable_at m.variables first)) ∙ or_none (value_of values (2 * variable_at m.variables first)) p.one)),
        (items.0, items.1, sym two ∙ (sym (even_value values (variable_at m.variables second)) ∙ or_none (value_of values (2 * variable_at m.variables second)) p.two)),
      )

  -- values that a word gives
  record IsAssigned (word items : List Bool) (values : ℕ → Bool) : Type 0 where
    pub word_of : IsWordOf bench inputs values word
    pub each : (net : ℕ) (source : Driver) → IsDrivenBy graph.flat net source → IsClockNet design net ⊎ (values (variable_at m.variables net) ≡ value_at items net)
    pub cells : All (Satisfies values) m.cells

  assigned : (word items : List Bool) → IsWord bench word → AreValues design word items → (values : ℕ → Bool) × IsAssigned word items values
  assigned word items is_word are =
      let bits : List Bool = map (λ (port : ℕ). bit_of bench port word) inputs in
      let cells = cell_bits graph bench inputs m.variables m.cells circuit (value_at items) (length graph.flat.cells) (omega arith) in
      let values : ℕ → Bool = λ k. get_or (bits ++ cells.0) k false in
      let one_long : length bits ≡ length inputs = length-map inputs (λ (port : ℕ). bit_of bench port word) in
      let two_long : length cells.0 ≡ cell_variables graph = cells.1.many in
      let word_of : IsWordOf bench inputs values word = (
        is_word,
        λ place port at.
            let within = slice_get_within inputs place port at in
            sym (get_or_append_left bits cells.0 false place (omega (arith, one_long, within)) ∙ (get_or-map (λ (p : ℕ). bit_of bench p word) inputs place port false within ∙ ap (λ (p : ℕ). bit_of bench p word) (get_or_from_slice_get inputs place port port at))),
      ) in
      let makes : Makes graph bench inputs m.variables m.cells circuit values (value_at items) = λ cell row nets of joins read same_values.
      let lower = before_less graph cell (length graph.flat.cells) (cell_within graph cell row of) (has_own graph cell row of joins) in
      let place : variable_of graph (length inputs) cell ≡ length bits + variables_before graph cell = omega (arith, one_long) in
      ap (λ n. get_or (bits ++ cells.0) n false) place ∙ (get_or-append-add bits cells.0 (variables_before graph cell) false ∙ cells.1.each cell row nets (cell_within graph cell row of) of joins read) in
      let each = equal_along graph bench inputs m.variables m.cells circuit rank ranked values word items are word_of makes in
      (values, record { word_of = word_of; each = each; cells = makes_satisfied graph bench inputs m.variables m.cells circuit values (value_at items) makes each })

  solves : (word : List Bool) → ShowsLaunch graph bench first second word → (values : ℕ → Bool) × All (Satisfies values) made.cnf.clauses × IsWordOf bench inputs values word
  solves word (is_word, (items, are, one), (others, also, two)) =
      let given = assigned word items is_word are in
      let values = given.0 in
      let source = get_or graph.flat.nets second (driver.Port 0) in
      let driven = slice_get-get_or graph.flat.nets second (driver.Port 0) ok.second_there in
      let equal = (exist design rank word ready_design).1 items others second source are also driven in
      let first_is = has_at (λ n. values (variable_at m.variables n) ≡ value_at items n) given.1.each first ok.first_there ok.first_data in
      let second_is = has_at (λ n. values (variable_at m.variables n) ≡ value_at items n) given.1.each second ok.second_there ok.second_data in (
        values,
        whole (Satisfies values) (record {
          cells = given.1.cells;
          one = none_or (value_of values (2 * variable_at m.variables first)) (even_value values (variable_at m.variables first) ∙ (first_is ∙ one));
          two = none_or (value_of values (2 * variable_at m.variables second)) (even_value values (variable_at m.variables second) ∙ (second_is ∙ (equal ∙ two)));
        }),
        given.1.word_of,
      )

  pub means : MeansLaunch graph bench first second made
  means = record {
    words = λ values. words_exist bench inputs values same once;
    solved = solved;
    solves = solves;
  }

  pub decides : InputsDecide made.cnf made.inputs
  decides start =
      let bits = words_exist bench inputs start same once in
      let items = (exist design rank bits.0 ready_design).0 in
      let given = assigned bits.0 items.0 bits.1.0 items.1 in
      let among = parts (Contains made.cnf.clauses) (all_in made.cnf.clauses) in
      let count = m.count in
      inr (λ var lt.
      subst (λ (l : List ℕ). IsDecided made.cnf.clauses (map (true_literal start) l) var) (sym m.input_variables)
      (decided_by made.cnf.clauses (map (true_literal start) (range_with_len 0 (length inputs))) given.0 var
      (vars_told graph bench inputs m.variables m.cells circuit rank ranked made.cnf.clauses (map (true_literal start) (range_with_len 0 (length inputs))) given.0 among.cells given.1.cells
      (λ place less.
      let at = slice_get-get_or inputs place 0 less in
      input_told made.cnf.clauses start given.0 (length inputs) place less (sym (given.1.word_of.1 place (get_or inputs place 0) at) ∙ bits.1.1 place (get_or inputs place 0) at))
      var (omega (arith, lt, count)))))

  unit_good : (net : ℕ) → variable_at m.variables net < length inputs + cell_variables graph → IsGood (length inputs + cell_variables graph) (unit net)
  unit_good net below = record {
    over = All-cons (λ lit. lit < 2 * (length inputs + cell_variables graph)) (2 * variable_at m.variables net) [] (omega (arith, below)) (All-nil (λ lit. lit < 2 * (length inputs + cell_variables graph)));
    once = λ i j d before there. absurd (omega arith);
  }

  pub formula : IsFormula made.cnf
  formula =
      let count = m.count in
      let below = nets_below graph bench inputs m.variables m.cells circuit rank ranked in
      let goods = whole (IsGood (length inputs + cell_variables graph)) (record {
        cells = cells_good graph bench inputs m.variables m.cells circuit rank ranked (length inputs + cell_variables graph) (omega arith);
        one = unit_good first (has_at (λ n. variable_at m.variables n < length inputs + cell_variables graph) below first ok.first_there ok.first_data);
        two = unit_good second (has_at (λ n. variable_at m.variables n < length inputs + cell_variables graph) below second ok.second_there ok.second_data);
      }) in
      let few_cells = cells_few graph bench inputs m.variables m.cells circuit rank ranked in
      let cells_are = is.flat_fits.cells in
      let before = before_few graph (length graph.flat.cells) in
      let ports = ok.few in
      let uses = ok.bench_fits.ports in
      let most = inputs_most bench in
      let long = length-append (m.cells ++ (unit first ∷ [])) (if first == second then [] else (unit second ∷ [])) in
      let long_too = length-append m.cells (unit first ∷ []) in
      let last = last_few (first == second) in
      let all = ap (λ (x : List Clause). length x) m.clauses in
      record {
        lits = λ k d lt. subst (λ (n : ℕ). IsOver n (get_or made.cnf.clauses k d)) (sym count) ((goods k d lt).over);
        once = λ k d lt. (goods k d lt).once;
        vars = omega (arith, count, cells_are, before, ports, uses, most);
        count = omega (arith, few_cells, cells_are, long, long_too, last, all);
      }
    where
      last_few : (b : Bool) → length (if b then [] else (unit second ∷ [])) ≤ 1
      last_few true = omega arith
      last_few false = omega arith
