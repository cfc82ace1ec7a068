-- Values of all variables under a word: those of the inputs, of the cells, of the ANDs, of the constant and of the differences.
use Rattle.std.proofs.Common.{◌≡◌, ◌∙◌, ◌<◌, ◌≤◌, ◌+◌, ℕ, zero, suc, Bool, true, false, refl, sym, ap, subst, arith, List, [], ◌∷◌, ◌++◌, length, length-append, map, get_or, ◌⊎◌, inl, inr}
use Rattle.std.proofs.lemmas.Bool.{cases_Bool}
use Rattle.std.proofs.lemmas.List.{get_or_append_left, get_or-append-add}
use Rattle.std.proofs.Math.Seq.{get_or-append_seam}
use Rattle.rsfq_ids.specs.declared.table.CellRow.{CellRow}
use Rattle.rsfq_ids.specs.declared.circuit.Bench.{Bench}
use Rattle.rsfq_ids.specs.Circuit.{InputNets, is_copying}
use Rattle.rsfq_ids.specs.Value.{value_made}
use Rattle.rsfq_ids.specs.Formula.{Clause}
use Rattle.net_graph.specs.Graph.{NetGraph, IsRowOf}
use Rattle.miter_cnf.specs.Variables.{has_variable, variables_before}
use Rattle.miter_cnf.specs.Circuits.{IsNamedCircuit}
use Rattle.miter_cnf.proofs.Literals.{not_both}
use Rattle.miter_cnf.proofs.Along.{group_at, inputs_of, same_row, same_nets}

-- ---- which cells have variables

pub has_own : (graph : NetGraph) (cell : ℕ) (row : CellRow) → IsRowOf graph cell row → is_copying row.kind ≡ false → has_variable graph cell ≡ true
has_own graph cell row of joins = rw (of, joins) refl

pub has_none : (graph : NetGraph) (cell : ℕ) (row : CellRow) → IsRowOf graph cell row → is_copying row.kind ≡ true → has_variable graph cell ≡ false
has_none graph cell row of copies = rw (of, copies) refl

-- the number of a cell is below those of what comes later
pub before_rises : (graph : NetGraph) (cell n : ℕ) → cell ≤ n → variables_before graph cell ≤ variables_before graph n
before_rises graph cell zero le = let none : cell ≡ 0 = omega arith in rw none (omega arith)
before_rises graph cell (suc n) le = elim (same_or_less cell n le) [
  | inl same ↦ rw same (omega arith)
  | inr less ↦ (let rest = before_rises graph cell n less in omega (arith, rest))
] where
  same_or_less : (a b : ℕ) → a ≤ suc b → (a ≡ suc b) ⊎ (a ≤ b)
  same_or_less zero b le = inr (omega arith)
  same_or_less (suc a) zero le = inl (omega arith)
  same_or_less (suc a) (suc b) le = elim (same_or_less a b (omega arith)) [ inl e ↦ inl (omega arith) | inr l ↦ inr (omega arith) ]

pub before_less : (graph : NetGraph) (cell n : ℕ) → cell < n → has_variable graph cell ≡ true → variables_before graph cell < variables_before graph n
before_less graph cell n lt own =
    let next : variables_before graph (suc cell) ≡ variables_before graph cell + 1 = rw own refl in
    let rises = before_rises graph (suc cell) n (omega arith) in
    omega (arith, next, rises)

-- each number is that of some cell
pub cell_of : (graph : NetGraph) (n k : ℕ) → k < variables_before graph n → (cell : ℕ) × (cell < n) × (has_variable graph cell ≡ true) × (variables_before graph cell ≡ k)
cell_of graph zero k lt = absurd (omega arith)
cell_of graph (suc n) k lt = elim (cases_Bool (has_variable graph n)) [
  | inl own ↦
      (let next : variables_before graph (suc n) ≡ variables_before graph n + 1 = rw own refl in
      elim (last_or_less k (variables_before graph n) (omega (arith, lt, next))) [
        | inl same ↦ (n, omega arith, own, sym same)
        | inr less ↦ (let rest = cell_of graph n k less in (rest.0, (let l = rest.1 in omega (arith, l)), rest.2, rest.3))
      ])
  | inr none ↦
      (let next : variables_before graph (suc n) ≡ variables_before graph n + 0 = rw none refl in
      let rest = cell_of graph n k (omega (arith, lt, next)) in
      (rest.0, (let l = rest.1 in omega (arith, l)), rest.2, rest.3))
] where
  last_or_less : (a b : ℕ) → a < b + 1 → (a ≡ b) ⊎ (a < b)
  last_or_less zero zero lt = inl refl
  last_or_less zero (suc b) lt = inr (omega arith)
  last_or_less (suc a) zero lt = absurd (omega arith)
  last_or_less (suc a) (suc b) lt = elim (last_or_less a b (omega arith)) [ inl e ↦ inl (ap suc e) | inr l ↦ inr (omega arith) ]

-- ---- the values of the cells

module _ (graph : NetGraph) (bench : Bench) (inputs : List ℕ) (variables : List ℕ) (clauses : List Clause) (circuit : IsNamedCircuit graph bench inputs variables clauses) (at : ℕ → Bool) where
  -- the bits of the first cells: what each makes of these values of nets
  pub record AreCellBits (n : ℕ) (bits : List Bool) : Type 0 where
    pub many : length bits ≡ variables_before graph n
    pub each : (cell : ℕ) (row : CellRow) (nets : List ℕ) → cell < n → IsRowOf graph cell row → is_copying row.kind ≡ false → InputNets graph.flat cell row nets
        → get_or bits (variables_before graph cell) false ≡ value_made row.kind row 0 (map at nets)

  last_or_before : (cell n : ℕ) → cell < suc n → (cell ≡ n) ⊎ (cell < n)
  last_or_before zero zero lt = inl refl
  last_or_before zero (suc n) lt = inr (omega arith)
  last_or_before (suc cell) zero lt = absurd (omega arith)
  last_or_before (suc cell) (suc n) lt = elim (last_or_before cell n (omega arith)) [ inl e ↦ inl (ap suc e) | inr l ↦ inr (omega arith) ]

  copy_more : (n : ℕ) (bits : List Bool) (row : CellRow) → IsRowOf graph n row → is_copying row.kind ≡ true → AreCellBits n bits → AreCellBits (suc n) bits
  copy_more n bits row of copies are =
      let none = has_none graph n row of copies in
      let many = are.many in
      let next : variables_before graph (suc n) ≡ variables_before graph n + 0 = rw none refl in
      record {
        many = omega (arith, many, next);
        each = λ cell other nets lt of_cell joins read. elim (last_or_before cell n lt) [
          | inr less ↦ are.each cell other nets less of_cell joins read
          | inl same ↦
              (let rows = same_row graph n row other of (subst (λ (c : ℕ). IsRowOf graph c other) same of_cell) in
              not_both (is_copying other.kind) (ap (λ (r : CellRow). is_copying r.kind) (sym rows) ∙ copies) joins)
        ];
      }

  join_more : (n : ℕ) (bits : List Bool) (row : CellRow) (nets : List ℕ) → IsRowOf graph n row → is_copying row.kind ≡ false → InputNets graph.flat n row nets → AreCellBits n bits
      → AreCellBits (suc n) (bits ++ value_made row.kind row 0 (map at nets) ∷ [])
  join_more n bits row nets of joins read are =
      let value = value_made row.kind row 0 (map at nets) in
      let own = has_own graph n row of joins in
      let many = are.many in
      let next : variables_before graph (suc n) ≡ variables_before graph n + 1 = rw own refl in
      let longer = length-append bits (value ∷ []) in
      record {
        many = omega (arith, many, next, longer);
        each = λ cell other others lt of_cell joins_also read_also. elim (last_or_before cell n lt) [
          | inr less ↦
              (let lower = before_less graph cell n less (has_own graph cell other of_cell joins_also) in
              get_or_append_left bits (value ∷ []) false (variables_before graph cell) (omega (arith, lower, many)) ∙ are.each cell other others less of_cell joins_also read_also)
          | inl same ↦
              (let rows : row ≡ other = same_row graph n row other of (subst (λ (c : ℕ). IsRowOf graph c other) same of_cell) in
              let read_here : InputNets graph.flat n row others = subst (λ (r : CellRow). InputNets graph.flat n r others) (sym rows) (subst (λ (c : ℕ). InputNets graph.flat c other others) same read_also) in
              let nets_same = same_nets graph circuit.fits n 0 (length row.inputs) nets others read read_here in
              let place : variables_before graph cell ≡ length bits = ap (variables_before graph) same ∙ sym many in
              ap (λ k. get_or (bits ++ value ∷ []) k false) place ∙ get_or-append_seam bits value [] false
              ∙ ap (λ (l : List ℕ). value_made row.kind row 0 (map at l)) nets_same ∙ ap (λ (r : CellRow). value_made r.kind r 0 (map at others)) rows)
        ];
      }

  pub cell_bits : (n : ℕ) → n ≤ length graph.flat.cells → (bits : List Bool) × AreCellBits n bits
  cell_bits zero le = ([], record { many = refl; each = λ cell row nets lt of joins read. absurd (omega arith) })
  cell_bits (suc n) le =
      let rest = cell_bits n (omega arith) in
      let group = group_at graph bench inputs variables clauses circuit n (omega arith) in
      let row = group.1.0 in
      let of = group.1.1 in
      elim (cases_Bool (is_copying row.kind)) [
        | inl copies ↦ (rest.0, copy_more n rest.0 row of copies rest.1)
        | inr joins ↦
            (let read = inputs_of graph bench inputs variables clauses circuit n row (omega arith) of joins in
            (rest.0 ++ value_made row.kind row 0 (map at read.0) ∷ [], join_more n rest.0 row read.0 of joins read.1 rest.1))
      ]

-- ---- four lists, one after another

pub first_bits : (one two three four : List Bool) (k : ℕ) → k < length one → get_or (one ++ (two ++ (three ++ four))) k false ≡ get_or one k false
first_bits one two three four k lt = get_or_append_left one (two ++ (three ++ four)) false k lt

pub second_bits : (one two three four : List Bool) (k n : ℕ) → n ≡ length one + k → k < length two → get_or (one ++ (two ++ (three ++ four))) n false ≡ get_or two k false
second_bits one two three four k n is lt =
    ap (λ m. get_or (one ++ (two ++ (three ++ four))) m false) is ∙ get_or-append-add one (two ++ (three ++ four)) k false ∙ get_or_append_left two (three ++ four) false k lt

pub third_bits : (one two three four : List Bool) (k n : ℕ) → n ≡ length one + (length two + k) → k < length three → get_or (one ++ (two ++ (three ++ four))) n false ≡ get_or three k false
third_bits one two three four k n is lt =
    ap (λ m. get_or (one ++ (two ++ (three ++ four))) m false) is ∙ get_or-append-add one (two ++ (three ++ four)) (length two + k) false
    ∙ get_or-append-add two (three ++ four) k false ∙ get_or_append_left three four false k lt

pub fourth_bits : (one two three four : List Bool) (k n : ℕ) → n ≡ length one + (length two + (length three + k)) → get_or (one ++ (two ++ (three ++ four))) n false ≡ get_or four k false
fourth_bits one two three four k n is =
    ap (λ m. get_or (one ++ (two ++ (three ++ four))) m false) is ∙ get_or-append-add one (two ++ (three ++ four)) (length two + (length three + k)) false
    ∙ get_or-append-add two (three ++ four) (length three + k) false ∙ get_or-append-add three four k false
