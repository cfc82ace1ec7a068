-- The inputs of a miter decide its variables.
use Rattle.std.proofs.Common.{◌≡◌, ◌∙◌, ◌<◌, ◌≤◌, ◌+◌, ◌-◌, ◌*◌, ◌/◌, ℕ, zero, suc, Bool, true, false, refl, sym, ap, subst, arith, List, [], ◌∷◌, length, map, get_or, Some, ◌⊎◌, inl, inr}
use Rattle.std.specs.Prelude.{slice_get}
use Rattle.std.specs.Option.{option_map}
use Rattle.std.specs.List.{All, Contains, range_with_len}
use Rattle.std.proofs.lemmas.Bool.{cases_Bool}
use Rattle.std.proofs.lemmas.Bool.Decides.{leb_tells}
use Rattle.std.proofs.lemmas.List.Elements.{All-map}
use Rattle.std.proofs.lemmas.List.FromFn.{get_or-map-range_with_len, length-map-range_with_len}
use Rattle.std.proofs.lemmas.Option.{slice_get_within, slice_get-get_or, slice_get-map, get_or_from_slice_get}
use Rattle.rsfq_ids.specs.declared.table.CellRow.{CellRow}
use Rattle.rsfq_ids.specs.declared.circuit.Bench.{Bench}
use Rattle.rsfq_ids.specs.declared.circuit.Driver.{Driver}
use Rattle.rsfq_ids.specs.declared.circuit.Driver.TheVariants as driver
use Rattle.rsfq_ids.specs.Circuit.{IsDrivenBy, InputNets, is_copying}
use Rattle.rsfq_ids.specs.Numbering.{IsRanked}
use Rattle.rsfq_ids.specs.Formula.{Clause, opposite, value_of, Satisfies}
use Rattle.rsfq_ids.specs.Propagation.{Follows, InputsDecide, IsDecided, true_literal}
use Rattle.pulse_laws.specs.Statements.{ValuesExist, CircuitsAreReady}
use Rattle.golden_aig.specs.declared.graph.Aig.{Aig}
use Rattle.golden_aig.specs.declared.graph.And.{And}
use Rattle.golden_aig.specs.declared.pairing.Match.{Match}
use Rattle.golden_aig.specs.Aig.{variables_of}
use Rattle.cell_truth.specs.Truth.{truth_clauses}
use Rattle.net_graph.specs.Graph.{NetGraph, IsGraph, IsRowOf}
use Rattle.clock_tree.specs.Clock.{design_of, IsClockNet}
use Rattle.miter_cnf.specs.declared.made.MiterCnf.{MiterCnf}
use Rattle.miter_cnf.specs.Variables.{variable_at, variable_of, cell_variables, has_variable, literals_at}
use Rattle.miter_cnf.specs.Miter.{IsMiter, constant_of, golden_variable, golden_literal, and_clauses}
use Rattle.miter_cnf.specs.Laws.{AreComparable, IsWordOf}
use Rattle.miter_cnf.specs.Circuits.{IsNamedCircuit}
use Rattle.miter_cnf.proofs.Literals.{no_true, not_both, even_value, literal_of, opposite_even, and_means, all_in, all_among}
use Rattle.miter_cnf.proofs.Along.{group_at, inputs_of, joined_named, named_along, flat_at}
use Rattle.miter_cnf.proofs.Equal.{rows_of, has_table, table_value, read_all}
use Rattle.miter_cnf.proofs.Bits.{words_exist}
use Rattle.miter_cnf.proofs.Equations.{input_number, and_number, golden_even, golden_odd, made_variable, differ_at}
use Rattle.miter_cnf.proofs.Assigned.{cell_of, has_none}
use Rattle.miter_cnf.proofs.Decided.{Told, IsDenied, told_opposite, forces, and_told, differ_told, table_told}
use Rattle.miter_cnf.proofs.Solutions.{IsAssigned, Parts, parts, circuit, inputs_many, matched_many, sorts_many, cells_many, ands_many, nets_many, inputs_once, ready_design, output_has, output_reads, assigned, ands_held, constant_held, differ_value}

-- ---- the nets of a circuit

module _ (graph : NetGraph) (bench : Bench) (inputs : List ℕ) (variables : List ℕ) (cells : List Clause) (circuit : IsNamedCircuit graph bench inputs variables cells) (rank : ℕ → ℕ) (ranked : IsRanked graph.flat rank)
    (clauses : List Clause) (word : List ℕ) (values : ℕ → Bool) (among : All (Contains clauses) cells) (held : All (Satisfies values) cells) (of_inputs : (place : ℕ) → place < length inputs → Told clauses word values (2 * place)) where
  abbrev T : ℕ → Type 0
  T lit = Told clauses word values lit

  abbrev Q : ℕ → Type 0
  Q net = T (2 * variable_at variables net)

  own_by : (cell : ℕ) (row : CellRow) (nets : List ℕ) → IsRowOf graph cell row → is_copying row.kind ≡ false → InputNets graph.flat cell row nets → All Q nets → T (2 * variable_of graph (length inputs) cell)
  own_by cell row nets of joins read all =
      let has = has_table graph bench inputs variables cells circuit cell row nets of joins read in
      table_told clauses word values (rows_of row row.kind) (length row.inputs) (2 * variable_of graph (length inputs) cell) (literals_at variables nets) has.long (all_among (Contains clauses) (truth_clauses (rows_of row row.kind) (length row.inputs) (literals_at variables nets) (2 * variable_of graph (length inputs) cell)) cells has.among among)
      (table_value graph bench inputs variables cells circuit values held cell row nets has) (All-map T (λ net. 2 * variable_at variables net) nets all)

  pub nets_told : (net : ℕ) (source : Driver) → IsDrivenBy graph.flat net source → IsClockNet (design_of graph bench) net ⊎ Q net
  nets_told =
      named_along graph bench inputs variables cells circuit rank ranked Q
      (λ net port place low high driven used listed.
      subst (λ v. T (2 * v)) (sym (circuit.named.named net (driver.Port port) driven place listed)) (of_inputs place (slice_get_within inputs place port listed)))
      (λ net cell out from row of copies driven reads same q. subst (λ v. T (2 * v)) (sym same) q)
      (λ net cell out row nets of joins driven read all.
      subst (λ v. T (2 * v)) (sym (joined_named graph bench inputs variables cells circuit cell out net row of joins driven)) (own_by cell row nets of joins read all))

  own_at : (cell : ℕ) → cell < length graph.flat.cells → has_variable graph cell ≡ true → T (2 * variable_of graph (length inputs) cell)
  own_at cell lt own =
      let group = group_at graph bench inputs variables cells circuit cell lt in
      let row = group.1.0 in
      let of = group.1.1 in
      elim (cases_Bool (is_copying row.kind)) [
        | inl copies ↦ not_both (has_variable graph cell) own (has_none graph cell row of copies)
        | inr joins ↦
            (let read = inputs_of graph bench inputs variables cells circuit cell row lt of joins in
            own_by cell row read.0 of joins read.1 (read_all graph bench inputs variables cells circuit Q nets_told cell row read.0 of joins read.1))
      ]

  -- the variables of inputs and of cells
  pub vars_told : (var : ℕ) → var < length inputs + cell_variables graph → T (2 * var)
  vars_told var lt = elim (leb_tells (length inputs) var) [
    | inr t ↦ of_inputs var t.1
    | inl t ↦
        (let le = t.1 in
        let found = cell_of graph (length graph.flat.cells) (var - length inputs) (omega (arith, le, lt)) in
        let number = found.3 in
        let is : variable_of graph (length inputs) found.0 ≡ var = omega (arith, number, le) in
        subst (λ v. T (2 * v)) is (own_at found.0 found.1 found.2))
  ]

pub decided_by : (clauses : List Clause) (word : List ℕ) (values : ℕ → Bool) (var : ℕ) → Told clauses word values (2 * var) → IsDecided clauses word var
decided_by clauses word values var told = elim (cases_Bool (value_of values (2 * var))) [
  | inl e ↦ inl (told.so e)
  | inr e ↦ inr (subst (Follows clauses word) (opposite_even var) (told.not_so e))
]

-- the literal of an input is of the word
pub input_told : (clauses : List Clause) (start values : ℕ → Bool) (count place : ℕ) → place < count → values place ≡ start place → Told clauses (map (true_literal start) (range_with_len 0 count)) values (2 * place)
input_told clauses start values count place lt same =
    let word = map (true_literal start) (range_with_len 0 count) in
    let long = length-map-range_with_len (true_literal start) 0 count in
    let has : Contains word (true_literal start place) = (place, omega (arith, long, lt), get_or-map-range_with_len (true_literal start) 0 count place place (true_literal start place) lt (omega arith)) in
    by (start place) refl has
  where
    by : (b : Bool) → start place ≡ b → Contains (map (true_literal start) (range_with_len 0 count)) (true_literal start place) → Told clauses (map (true_literal start) (range_with_len 0 count)) values (2 * place)
    by true e has = record {
      so = λ is. Follows.Given (2 * place) (rw e at has);
      not_so = λ is. no_true (sym is ∙ (even_value values place ∙ (same ∙ e)));
    }
    by false e has = record {
      so = λ is. no_true (sym e ∙ (sym same ∙ (sym (even_value values place) ∙ is)));
      not_so = λ is. subst (Follows clauses (map (true_literal start) (range_with_len 0 count))) (sym (opposite_even place)) (Follows.Given (2 * place + 1) (rw e at has));
    }

-- ---- the miter

module _ (graph : NetGraph) (aig : Aig) (matched : Match) (bench : Bench) (made : MiterCnf) (is : IsGraph graph) (ok : AreComparable graph aig matched bench) (m : IsMiter graph aig matched made)
    (rank : ℕ → ℕ) (ranked : IsRanked graph.flat rank) (exist : ValuesExist) (ready : CircuitsAreReady) where
  abbrev named : IsNamedCircuit graph bench matched.inputs m.variables m.cells
  named = circuit graph aig matched bench made is ok m

  abbrev clauses : List Clause
  clauses = made.cnf.clauses

  module _ (start : ℕ → Bool) where
    abbrev word : List ℕ
    word = map (true_literal start) (range_with_len 0 (length matched.inputs))

    module _ (bits items : List Bool) (values : ℕ → Bool) (given : IsAssigned graph aig matched bench made is ok m rank ranked exist ready bits items values)
        (starts : IsWordOf bench matched.inputs start bits) where
      abbrev T' : ℕ → Type 0
      T' lit = Told clauses word values lit

      inputs_told : (place : ℕ) → place < length matched.inputs → T' (2 * place)
      inputs_told place lt =
          let at = slice_get-get_or matched.inputs place 0 lt in
          input_told clauses start values (length matched.inputs) place lt (sym (given.word_of.1 place (get_or matched.inputs place 0) at) ∙ starts.1 place (get_or matched.inputs place 0) at)

      among : Parts graph aig matched bench made is ok m (Contains clauses)
      among = parts graph aig matched bench made is ok m (Contains clauses) (all_in clauses)

      cells_told : (var : ℕ) → var < length matched.inputs + cell_variables graph → T' (2 * var)
      cells_told = vars_told graph bench matched.inputs m.variables m.cells named rank ranked clauses word values among.cells given.cells inputs_told

      constant_told : T' (2 * constant_of m.sorts)
      constant_told =
          let lit = opposite (2 * constant_of m.sorts) in
          let none = constant_held graph aig matched bench made is ok m rank ranked exist ready bits items values given in
          record {
            so = λ so. no_true (sym none ∙ (sym (even_value values (constant_of m.sorts)) ∙ so));
            not_so = λ so. forces clauses word values (lit ∷ []) lit among.constant (zero, omega arith, refl) one_of;
          }
        where
          one_of : (other : ℕ) → Contains (opposite (2 * constant_of m.sorts) ∷ []) other → (other ≡ opposite (2 * constant_of m.sorts)) ⊎ IsDenied clauses word values other
          one_of other (zero, lt, at) = inl (sym at)
          one_of other (suc k, lt, at) = absurd (omega arith)

      literal_told : (lit : ℕ) → T' (2 * golden_variable m.sorts (lit / 2)) → T' (golden_literal m.sorts lit)
      literal_told lit told = elim (literal_of lit) [
        | inl e ↦ subst T' (sym (ap (golden_literal m.sorts) e ∙ golden_even m.sorts (lit / 2))) told
        | inr e ↦ subst T' (sym (ap (golden_literal m.sorts) e ∙ (golden_odd m.sorts (lit / 2) ∙ sym (opposite_even (golden_variable m.sorts (lit / 2)))))) (told_opposite clauses word values (2 * golden_variable m.sorts (lit / 2)) told)
      ]

      and_at : (place : ℕ) (one : And) → slice_get aig.ands place ≡ Some one → ((v : ℕ) → v < suc (aig.inputs + place) → T' (2 * golden_variable m.sorts v)) → T' (2 * golden_variable m.sorts (suc (aig.inputs + place)))
      and_at place one at lower =
          let fits = ok.graph_fits.ands place one at in
          let lhs = fits.lhs in
          let left = fits.rhs0 in
          let right = fits.rhs1 in
          let lt = slice_get_within aig.ands place one at in
          let here : get_or aig.ands place one ≡ one = get_or_from_slice_get aig.ands place one one at in
          let there = subst (λ (a : And). All (Contains clauses) (and_clauses m.sorts a)) here (flat_at (and_clauses m.sorts) (Contains clauses) aig.ands place one lt among.ands) in
          let true_there = subst (λ (a : And). All (Satisfies values) (and_clauses m.sorts a)) here
          (flat_at (and_clauses m.sorts) (Satisfies values) aig.ands place one lt (ands_held graph aig matched bench made is ok m rank ranked exist ready bits items values given)) in
          let v = 2 * golden_variable m.sorts (one.lhs / 2) in
          let x = golden_literal m.sorts one.rhs0 in
          let y = golden_literal m.sorts one.rhs1 in
          subst (λ (n : ℕ). T' (2 * golden_variable m.sorts n)) (made_variable aig.inputs place one fits)
          (and_told clauses word values v x y there (and_means values v x y true_there)
          (literal_told one.rhs0 (lower (one.rhs0 / 2) (omega (arith, lhs, left)))) (literal_told one.rhs1 (lower (one.rhs1 / 2) (omega (arith, lhs, right)))))

      golden_told : (top v : ℕ) → v < top → v ≤ variables_of aig → T' (2 * golden_variable m.sorts v)
      golden_told zero v lt le = absurd (omega arith)
      golden_told (suc top) zero lt le = constant_told
      golden_told (suc top) (suc place) lt le =
          let all_are = sorts_many graph aig matched bench made is ok m in
          let many = matched_many graph aig matched bench made is ok m in
          elim (leb_tells aig.inputs place) [
            | inr t ↦
                (let less = t.1 in
                subst (λ (n : ℕ). T' (2 * n)) (sym (input_number m.sorts place (omega (arith, all_are, less)))) (inputs_told place (omega (arith, many, less))))
            | inl t ↦
                (let ge = t.1 in
                let within : place - aig.inputs < length aig.ands = omega (arith, ge, le) in
                let whole : suc (aig.inputs + (place - aig.inputs)) ≡ suc place = omega (arith, ge) in
                subst (λ (n : ℕ). T' (2 * golden_variable m.sorts n)) whole
                (and_by (place - aig.inputs) within (λ v less. golden_told top v (omega (arith, less, whole, lt)) (omega (arith, less, whole, le)))))
          ]
        where
          there : (ands : List And) (k : ℕ) → k < length ands → (one : And) × (slice_get ands k ≡ Some one)
          there [] k lt = absurd (omega arith)
          there (a ∷ ands) zero lt = (a, refl)
          there (a ∷ ands) (suc k) lt = there ands k (omega arith)

          and_by : (k : ℕ) → k < length aig.ands → ((v : ℕ) → v < suc (aig.inputs + k) → T' (2 * golden_variable m.sorts v)) → T' (2 * golden_variable m.sorts (suc (aig.inputs + k)))
          and_by k lt lower = let found = there aig.ands k lt in and_at k found.0 found.1 lower

      golden_literal_told : (lit : ℕ) → lit < 2 * (variables_of aig + 1) → T' (golden_literal m.sorts lit)
      golden_literal_told lit lt = literal_told lit (golden_told (suc (lit / 2)) (lit / 2) (omega arith) (omega (arith, lt)))

      map_at : (f : ℕ → ℕ) (xs : List ℕ) (k : ℕ) → k < length xs → slice_get (map f xs) k ≡ Some (f (get_or xs k 0))
      map_at f xs k lt = slice_get-map f xs k ∙ ap (option_map f) (slice_get-get_or xs k 0 lt)

      difference_told : (k : ℕ) → k < length aig.outputs → T' (2 * (constant_of m.sorts + 1 + k))
      difference_told k lt =
          let net = get_or m.nets k 0 in
          let lit = get_or aig.outputs k 0 in
          let many = nets_many graph aig matched bench made is ok m in
          let n = 2 * variable_at m.variables net in
          let g = golden_literal m.sorts lit in
          let at_n = map_at (λ x. 2 * variable_at m.variables x) m.nets k (omega (arith, many, lt)) in
          let at_g = map_at (golden_literal m.sorts) aig.outputs k lt in
          differ_told clauses word values (2 * (constant_of m.sorts + 1 + k)) n g
          (differ_at (Contains clauses) (constant_of m.sorts + 1) (map (λ x. 2 * variable_at m.variables x) m.nets) (map (golden_literal m.sorts) aig.outputs) k n g at_n at_g among.differ)
          (differ_value graph aig matched bench made is ok m rank ranked exist ready bits items values given k lt)
          (output_has graph aig matched bench made is ok m (λ x. T' (2 * variable_at m.variables x))
          (nets_told graph bench matched.inputs m.variables m.cells named rank ranked clauses word values among.cells given.cells inputs_told) (get_or matched.outputs k 0) net (output_reads graph aig matched bench made is ok m k lt))
          (golden_literal_told lit (ok.graph_fits.outputs k 0 lt))

      -- the variables by their sorts
      pub each_told : (var : ℕ) → var < made.cnf.vars → T' (2 * var)
      each_told var lt =
          let count = m.count in
          let inputs_are = inputs_many graph aig matched bench made is ok m in
          let all_are = sorts_many graph aig matched bench made is ok m in
          let cells_are = cells_many graph aig matched bench made is ok m in
          let ands_are = ands_many graph aig matched bench made is ok m in
          elim (leb_tells (length matched.inputs + cell_variables graph) var) [
            | inr t ↦ cells_told var t.1
            | inl t ↦ elim (leb_tells (constant_of m.sorts) var) [
              | inl c ↦ elim (leb_tells (constant_of m.sorts + 1) var) [
                | inl d ↦
                    (let ge = d.1 in
                    let place : constant_of m.sorts + 1 + (var - (constant_of m.sorts + 1)) ≡ var = omega (arith, ge) in
                    subst (λ (v : ℕ). T' (2 * v)) place (difference_told (var - (constant_of m.sorts + 1)) (omega (arith, ge, lt, count))))
                | inr d ↦
                    (let low = c.1 in
                    let high = d.1 in
                    let same : constant_of m.sorts ≡ var = omega (arith, low, high) in
                    subst (λ (v : ℕ). T' (2 * v)) same constant_told)
              ]
              | inr c ↦
                  (let low = t.1 in
                  let high = c.1 in
                  let place = var - cell_variables graph in
                  let number : golden_variable m.sorts (suc place) ≡ var = and_number m.sorts place (omega (arith, low, inputs_are)) ∙ omega (arith, low, cells_are) in
                  subst (λ (v : ℕ). T' (2 * v)) number (golden_told (suc (suc place)) (suc place) (omega arith) (omega (arith, low, high, inputs_are, all_are, cells_are, ands_are))))
            ]
          ]

  pub decides : InputsDecide made.cnf made.inputs
  decides start =
      let bits = words_exist bench matched.inputs start ok.ports.inputs.one_to_one (inputs_once graph aig matched bench made is ok m) in
      let items = (exist (design_of graph bench) rank bits.0 (ready_design graph aig matched bench made is ok m rank ranked ready)).0 in
      let given = assigned graph aig matched bench made is ok m rank ranked exist ready bits.0 items.0 bits.1.0 items.1 in
      inr (λ var lt.
      subst (λ (l : List ℕ). IsDecided made.cnf.clauses (map (true_literal start) l) var) (sym m.inputs)
      (decided_by made.cnf.clauses (map (true_literal start) (range_with_len 0 (length matched.inputs))) given.0 var (each_told start bits.0 items.0 given.0 given.1 bits.1 var lt)))
