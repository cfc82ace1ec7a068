-- The variables of nets have the nets' values exactly where the clauses of the cells hold.
use Rattle.std.proofs.Common.{◌≡◌, ◌∙◌, ◌<◌, ◌*◌, ℕ, zero, suc, Bool, true, false, refl, sym, ap, subst, arith, List, [], ◌∷◌, length, map, get_or, ◌⊎◌, inl, inr}
use Rattle.std.specs.Prelude.{◌||◌}
use Rattle.std.specs.List.{All, AllZip, Contains, list_any, range_with_len}
use Rattle.std.proofs.lemmas.Bool.{cases_Bool}
use Rattle.std.proofs.lemmas.List.Elements.{All-nil, All-tail}
use Rattle.rsfq_ids.specs.declared.table.CellRow.{CellRow}
use Rattle.rsfq_ids.specs.declared.table.Kind.{Kind}
use Rattle.rsfq_ids.specs.declared.table.Kind.TheVariants as kind
use Rattle.rsfq_ids.specs.declared.circuit.Bench.{Bench}
use Rattle.rsfq_ids.specs.declared.circuit.PortUse.{PortUse}
use Rattle.rsfq_ids.specs.declared.circuit.PortUse.TheVariants as port_use
use Rattle.rsfq_ids.specs.declared.circuit.Driver.{Driver}
use Rattle.rsfq_ids.specs.declared.circuit.Driver.TheVariants as driver
use Rattle.rsfq_ids.specs.declared.circuit.Reader.TheVariants as reader
use Rattle.rsfq_ids.specs.Design.{Design}
use Rattle.rsfq_ids.specs.Circuit.{IsDrivenBy, Reads, InputNets, is_copying}
use Rattle.rsfq_ids.specs.Run.{row_number}
use Rattle.rsfq_ids.specs.Value.{value_of as value_at, value_made, port_value, AreValues}
use Rattle.rsfq_ids.specs.Numbering.{IsRanked}
use Rattle.rsfq_ids.specs.WellFormed.{FitsKind}
use Rattle.rsfq_ids.specs.Formula.{Clause, value_of, Satisfies}
use Rattle.cell_truth.specs.Truth.{truth_clauses, truth_value, digit}
use Rattle.cell_truth.proofs.TruthLaws.{added_satisfied}
use Rattle.net_graph.specs.Graph.{NetGraph, IsGraph, IsRowOf}
use Rattle.clock_tree.specs.Clock.{design_of, IsClockNet}
use Rattle.clock_tree.proofs.Clocks.{one_input, row_fits}
use Rattle.miter_cnf.specs.Variables.{variable_at, variable_of, literals_at, IsGroup, IsGroupOf}
use Rattle.miter_cnf.specs.Laws.{IsWordOf}
use Rattle.miter_cnf.specs.Circuits.{IsNamedCircuit}
use Rattle.miter_cnf.proofs.Groups.{pins_long, literals_long}
use Rattle.miter_cnf.proofs.Literals.{even_value, all_in, all_among}
use Rattle.miter_cnf.proofs.Along.{group_at, joined_named, named_along, same_row, same_nets, same_some, cell_within, nets_all, no_clock, all_flat, zip_at, zip_long, range_long, range_at}

-- ---- what a gate or merger makes

-- the digits of a cell's table
abbrev pub rows_of : CellRow → Kind → ℕ
rows_of row kind.Merge = 14
rows_of row kind.Gate = row.truth
rows_of row kind.Jtl = 0
rows_of row kind.Split = 0

merged : (a b : Bool) → digit 14 (row_number (a ∷ b ∷ [])) ≡ list_any (λ bit. bit) (a ∷ b ∷ [])
merged true true = refl
merged true false = refl
merged false true = refl
merged false false = refl

pair_merged : (bits : List Bool) → length bits ≡ 2 → digit 14 (row_number bits) ≡ list_any (λ bit. bit) bits
pair_merged [] two = absurd (omega arith)
pair_merged (a ∷ []) two = absurd (omega arith)
pair_merged (a ∷ b ∷ []) two = merged a b
pair_merged (a ∷ b ∷ c ∷ bits) two = absurd (omega arith)

-- the table's digit is what the cell makes
made_by_table : (k : Kind) (row : CellRow) (bits : List Bool) → is_copying k ≡ false → FitsKind k row → length bits ≡ length row.inputs
    → digit (rows_of row k) (row_number bits) ≡ value_made k row 0 bits
made_by_table kind.Jtl row bits joins fits many = cc
made_by_table kind.Split row bits joins fits many = cc
made_by_table kind.Gate row bits joins fits many = refl
made_by_table kind.Merge row bits joins fits many = pair_merged bits (many ∙ fits.0)

-- a cell's value does not depend on the output
made_at : (k : Kind) (row : CellRow) (out : ℕ) (bits : List Bool) → value_made k row out bits ≡ value_made k row 0 bits
made_at kind.Jtl row out bits = refl
made_at kind.Split row out bits = refl
made_at kind.Merge row out bits = refl
made_at kind.Gate row out bits = refl

-- the clauses of a joining cell are those of its table
group_table : (k : Kind) (graph : NetGraph) (count : ℕ) (variables : List ℕ) (cell : ℕ) (row : CellRow) (group : List Clause) → is_copying k ≡ false → IsGroupOf k graph count variables cell row group
    → (nets : List ℕ) × InputNets graph.flat cell row nets × (group ≡ truth_clauses (rows_of row k) (length row.inputs) (literals_at variables nets) (2 * variable_of graph count cell))
group_table kind.Jtl graph count variables cell row group joins is = cc
group_table kind.Split graph count variables cell row group joins is = cc
group_table kind.Merge graph count variables cell row group joins is = is
group_table kind.Gate graph count variables cell row group joins is = is

copied_group_empty : (k : Kind) (graph : NetGraph) (count : ℕ) (variables : List ℕ) (cell : ℕ) (row : CellRow) (group : List Clause) → is_copying k ≡ true → IsGroupOf k graph count variables cell row group → group ≡ []
copied_group_empty kind.Jtl graph count variables cell row group copies is = is
copied_group_empty kind.Split graph count variables cell row group copies is = is
copied_group_empty kind.Merge graph count variables cell row group copies is = cc
copied_group_empty kind.Gate graph count variables cell row group copies is = cc

-- the values of the literals of some nets
pub literal_values : (values : ℕ → Bool) (variables nets : List ℕ) → map (value_of values) (literals_at variables nets) ≡ map (λ net. values (variable_at variables net)) nets
literal_values values variables [] = refl
literal_values values variables (net ∷ nets) =
    let here = even_value values (variable_at variables net) in
    let rest = literal_values values variables nets in
    rw (here, rest) refl

pub maps_same : (f g : ℕ → Bool) (nets : List ℕ) → All (λ net. f net ≡ g net) nets → map f nets ≡ map g nets
maps_same f g [] all = refl
maps_same f g (net ∷ nets) all =
    let here : f net ≡ g net = all 0 net (omega arith) in
    let rest = maps_same f g nets (All-tail (λ n. f n ≡ g n) net nets all) in
    rw (here, rest) refl

bits_long : (f : ℕ → Bool) (nets : List ℕ) → length (map f nets) ≡ length nets
bits_long f [] = refl
bits_long f (net ∷ nets) = ap suc (bits_long f nets)

or_none : (b : Bool) → (b || false) ≡ b
or_none true = refl
or_none false = refl

-- a copy of one net's value
one_net : (graph : NetGraph) → IsGraph graph → (cell count from : ℕ) (nets : List ℕ) (f : ℕ → Bool) → count ≡ 1 → AllZip (λ pin net. Reads graph.flat (reader.Pin cell pin) net) (range_with_len 0 count) nets
    → Reads graph.flat (reader.Pin cell 0) from → list_any (λ bit. bit) (map f nets) ≡ f from
one_net graph is cell zero from nets f one read reads = absurd (omega arith)
one_net graph is cell (suc (suc count)) from nets f one read reads = absurd (omega arith)
one_net graph is cell (suc zero) from [] f one read reads = absurd read
one_net graph is cell (suc zero) from (net ∷ []) f one read reads =
    or_none (f net) ∙ ap f (is.numbered.one_read (reader.Pin cell 0) net from read.0 reads)
one_net graph is cell (suc zero) from (net ∷ other ∷ nets) f one read reads = absurd read.1

copy_made : (k : Kind) (row : CellRow) (out : ℕ) (bits : List Bool) → is_copying k ≡ true → value_made k row out bits ≡ list_any (λ bit. bit) bits
copy_made kind.Jtl row out bits copies = refl
copy_made kind.Split row out bits copies = refl
copy_made kind.Merge row out bits copies = cc
copy_made kind.Gate row out bits copies = cc

module _ (graph : NetGraph) (bench : Bench) (inputs : List ℕ) (variables : List ℕ) (clauses : List Clause) (circuit : IsNamedCircuit graph bench inputs variables clauses) where
  abbrev design : Design
  design = design_of graph bench

  -- each gate or merger makes of the values of its nets that of its own variable
  abbrev pub Makes : (ℕ → Bool) → (ℕ → Bool) → Type 0
  Makes values at = (cell : ℕ) (row : CellRow) (nets : List ℕ) → IsRowOf graph cell row → is_copying row.kind ≡ false → InputNets graph.flat cell row nets
      → All (λ net. values (variable_at variables net) ≡ at net) nets → values (variable_of graph (length inputs) cell) ≡ value_made row.kind row 0 (map at nets)

  -- the table says so of the values of the variables
  table_says : (values at : ℕ → Bool) (cell : ℕ) (row : CellRow) (nets : List ℕ) → IsRowOf graph cell row → is_copying row.kind ≡ false → InputNets graph.flat cell row nets
      → All (λ net. values (variable_at variables net) ≡ at net) nets → truth_value values (rows_of row row.kind) (literals_at variables nets) ≡ value_made row.kind row 0 (map at nets)
  table_says values at cell row nets of joins read all =
      let bits = literal_values values variables nets ∙ maps_same (λ net. values (variable_at variables net)) at nets all in
      let fits = row_fits graph bench circuit.fits.table_fits cell row of in
      let many = bits_long at nets ∙ pins_long graph.flat cell (length row.inputs) nets read in
      ap (λ (b : List Bool). digit (rows_of row row.kind) (row_number b)) bits ∙ made_by_table row.kind row (map at nets) joins fits.kind many

  -- the table of a cell among the clauses
  pub record HasTable (cell : ℕ) (row : CellRow) (nets : List ℕ) : Type 0 where
    pub long : length row.inputs ≡ length (literals_at variables nets)
    pub among : All (Contains clauses) (truth_clauses (rows_of row row.kind) (length row.inputs) (literals_at variables nets) (2 * variable_of graph (length inputs) cell))

  pub has_table : (cell : ℕ) (row : CellRow) (nets : List ℕ) → IsRowOf graph cell row → is_copying row.kind ≡ false → InputNets graph.flat cell row nets → HasTable cell row nets
  has_table cell row nets of joins read =
      let at_cell = group_at graph bench inputs variables clauses circuit cell (cell_within graph cell row of) in
      let group = at_cell.0 in
      let rows = same_row graph cell at_cell.1.0 row at_cell.1.1 of in
      let table = group_table row.kind graph (length inputs) variables cell row group joins (subst (λ (r : CellRow). IsGroupOf r.kind graph (length inputs) variables cell r group) rows at_cell.1.2) in
      let nets_same : table.0 ≡ nets = same_nets graph circuit.fits cell 0 (length row.inputs) table.0 nets table.1 read in
      let is : group ≡ truth_clauses (rows_of row row.kind) (length row.inputs) (literals_at variables nets) (2 * variable_of graph (length inputs) cell) =
      table.2 ∙ ap (λ (n : List ℕ). truth_clauses (rows_of row row.kind) (length row.inputs) (literals_at variables n) (2 * variable_of graph (length inputs) cell)) nets_same in
      record {
        long = sym (literals_long variables nets ∙ pins_long graph.flat cell (length row.inputs) nets read);
        among = subst (All (Contains clauses)) is (at_cell.2 (Contains clauses) (all_in clauses));
      }

  -- where the clauses hold, the variable of a cell has the value of its table
  pub table_value : (values : ℕ → Bool) → All (Satisfies values) clauses → (cell : ℕ) (row : CellRow) (nets : List ℕ) → HasTable cell row nets
      → value_of values (2 * variable_of graph (length inputs) cell) ≡ truth_value values (rows_of row row.kind) (literals_at variables nets)
  table_value values all cell row nets has =
      let output = 2 * variable_of graph (length inputs) cell in
      let both = added_satisfied values (rows_of row row.kind) output (length row.inputs) (literals_at variables nets) [] (truth_clauses (rows_of row row.kind) (length row.inputs) (literals_at variables nets) output) has.long refl in
      (both.0 (all_among (Satisfies values) (truth_clauses (rows_of row row.kind) (length row.inputs) (literals_at variables nets) output) clauses has.among all)).1

  pub satisfied_makes : (values at : ℕ → Bool) → All (Satisfies values) clauses → Makes values at
  satisfied_makes values at all cell row nets of joins read same =
      sym (even_value values (variable_of graph (length inputs) cell)) ∙ (table_value values all cell row nets (has_table cell row nets of joins read) ∙ table_says values at cell row nets of joins read same)

  -- the nets that a gate or merger reads have what each net has that is not of the clock
  pub read_all : (Q : ℕ → Type 0) → ((net : ℕ) (source : Driver) → IsDrivenBy graph.flat net source → IsClockNet design net ⊎ Q net)
      → (cell : ℕ) (row : CellRow) (nets : List ℕ) → IsRowOf graph cell row → is_copying row.kind ≡ false → InputNets graph.flat cell row nets → All Q nets
  read_all Q each cell row nets of joins read =
      nets_all graph cell 0 (length row.inputs) nets Q read (λ pin net lt reads.
      let source = circuit.fits.numbered.has_driver (reader.Pin cell pin) net reads in
      elim (each net source.0 source.1) [
        | inl clock ↦ absurd (no_clock graph bench inputs variables clauses circuit cell pin net row row.kind refl joins of (omega arith) reads clock)
        | inr q ↦ q
      ])

  -- what the clauses of each table are, all clauses are
  pub tables_all : (P : Clause → Type 0)
      → ((cell : ℕ) (row : CellRow) (nets : List ℕ) → IsRowOf graph cell row → is_copying row.kind ≡ false → InputNets graph.flat cell row nets
      → All P (truth_clauses (rows_of row row.kind) (length row.inputs) (literals_at variables nets) (2 * variable_of graph (length inputs) cell)))
      → All P clauses
  tables_all P each =
      let groups = circuit.grouped.0 in
      let long = range_long 0 (length graph.flat.cells) in
      let many = zip_long (IsGroup graph (length inputs) variables) (range_with_len 0 (length graph.flat.cells)) groups circuit.grouped.1 in
      subst (All P) (sym circuit.grouped.2)
      (all_flat (λ (g : List Clause). g) P groups (λ k d lt.
      let within : k < length graph.flat.cells = omega (arith, lt, many, long) in
      let same : get_or groups k d ≡ get_or groups k [] = same_group groups k d [] lt in
      let here : get_or (range_with_len 0 (length graph.flat.cells)) k 0 ≡ k = range_at 0 (length graph.flat.cells) k 0 within ∙ omega arith in
      let at_cell = subst (λ (c : ℕ). IsGroup graph (length inputs) variables c (get_or groups k [])) here (zip_at (IsGroup graph (length inputs) variables) (range_with_len 0 (length graph.flat.cells)) groups k 0 [] circuit.grouped.1 (omega (arith, long, within))) in
      subst (All P) (sym same) (group_is k at_cell.0 (get_or groups k []) at_cell.1 at_cell.2)))
    where
      same_group : (groups : List (List Clause)) (k : ℕ) (d e : List Clause) → k < length groups → get_or groups k d ≡ get_or groups k e
      same_group [] k d e lt = absurd (omega arith)
      same_group (g ∷ groups) zero d e lt = refl
      same_group (g ∷ groups) (suc k) d e lt = same_group groups k d e (omega arith)

      group_is : (cell : ℕ) (row : CellRow) (group : List Clause) → IsRowOf graph cell row → IsGroupOf row.kind graph (length inputs) variables cell row group → All P group
      group_is cell row group of is = elim (cases_Bool (is_copying row.kind)) [
        | inl copies ↦ subst (All P) (sym (copied_group_empty row.kind graph (length inputs) variables cell row group copies is)) (All-nil P)
        | inr joins ↦
            (let table = group_table row.kind graph (length inputs) variables cell row group joins is in
            subst (All P) (sym table.2) (each cell row table.0 of joins table.1))
      ]

  -- the clauses hold
  pub makes_satisfied : (values at : ℕ → Bool) → Makes values at → ((net : ℕ) (source : Driver) → IsDrivenBy graph.flat net source → IsClockNet design net ⊎ (values (variable_at variables net) ≡ at net))
      → All (Satisfies values) clauses
  makes_satisfied values at makes each =
      tables_all (Satisfies values) (λ cell row nets of joins read.
      let output = 2 * variable_of graph (length inputs) cell in
      let same = read_all (λ net. values (variable_at variables net) ≡ at net) each cell row nets of joins read in
      let many : length row.inputs ≡ length (literals_at variables nets) = sym (literals_long variables nets ∙ pins_long graph.flat cell (length row.inputs) nets read) in
      let both = added_satisfied values (rows_of row row.kind) output (length row.inputs) (literals_at variables nets) [] (truth_clauses (rows_of row row.kind) (length row.inputs) (literals_at variables nets) output) many refl in
      both.1 (All-nil (Satisfies values), even_value values (variable_of graph (length inputs) cell) ∙ (makes cell row nets of joins read same ∙ sym (table_says values at cell row nets of joins read same))))

  -- where the word has the inputs' values, each net that is not of the clock has its variable's
  pub equal_along : (rank : ℕ → ℕ) → IsRanked graph.flat rank → (values : ℕ → Bool) (word items : List Bool) → AreValues design word items → IsWordOf bench inputs values word → Makes values (value_at items)
      → (net : ℕ) (source : Driver) → IsDrivenBy graph.flat net source → IsClockNet design net ⊎ (values (variable_at variables net) ≡ value_at items net)
  equal_along rank ranked values word items are is_word makes =
      named_along graph bench inputs variables clauses circuit rank ranked (λ net. values (variable_at variables net) ≡ value_at items net)
      (λ net port place low high driven used listed.
      let given = are.given net (driver.Port port) driven in
      let same : given.0 ≡ port_use.Arrival low high = same_some given.0 (port_use.Arrival low high) (sym given.1 ∙ used) in
      ap values (circuit.named.named net (driver.Port port) driven place listed) ∙ sym (is_word.1 place port listed) ∙ sym (given.2 ∙ ap (λ (u : PortUse). port_value u bench port word) same))
      (λ net cell out from row of copies driven reads same q.
      let given = are.given net (driver.Out cell out) driven in
      let rows = same_row graph cell given.0 row given.2 of in
      let read : InputNets graph.flat cell row given.1 = subst (λ (r : CellRow). InputNets graph.flat cell r given.1) rows given.3 in
      let one = one_input row.kind row copies (row_fits graph bench circuit.fits.table_fits cell row of).kind in
      let made : value_at items net ≡ value_made row.kind row out (map (value_at items) given.1) = given.4 ∙ ap (λ (r : CellRow). value_made r.kind r out (map (value_at items) given.1)) rows in
      ap values same ∙ q ∙ sym (made ∙ copy_made row.kind row out (map (value_at items) given.1) copies ∙ one_net graph circuit.fits cell (length row.inputs) from given.1 (value_at items) one read reads))
      (λ net cell out row nets of joins driven read all.
      let given = are.given net (driver.Out cell out) driven in
      let rows = same_row graph cell given.0 row given.2 of in
      let also : InputNets graph.flat cell row given.1 = subst (λ (r : CellRow). InputNets graph.flat cell r given.1) rows given.3 in
      let same = same_nets graph circuit.fits cell 0 (length row.inputs) given.1 nets also read in
      let made : value_at items net ≡ value_made row.kind row out (map (value_at items) given.1) = given.4 ∙ ap (λ (r : CellRow). value_made r.kind r out (map (value_at items) given.1)) rows in
      ap values (joined_named graph bench inputs variables clauses circuit cell out net row of joins driven) ∙ makes cell row nets of joins read all
      ∙ sym (made ∙ made_at row.kind row out (map (value_at items) given.1) ∙ ap (λ (n : List ℕ). value_made row.kind row 0 (map (value_at items) n)) same))
