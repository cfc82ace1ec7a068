-- Formulas that are made are well formed: literals of their variables, none twice in a clause, and few clauses.
use Rattle.std.proofs.Common.{◌≡◌, ◌∙◌, ◌<◌, ◌≤◌, ◌+◌, ◌*◌, ◌^◌, ℕ, zero, suc, Bool, true, false, cond, refl, sym, ap, subst, arith, List, [], ◌∷◌, ◌++◌, length, length-append, get_or, ◌⊎◌, inl, inr}
use Rattle.std.specs.Prelude.{◌==◌}
use Rattle.std.specs.List.{All, Contains, flat_map, fold, list_any, range_with_len}
use Rattle.std.proofs.lemmas.Bool.{cases_Bool, eq-eqb}
use Rattle.std.proofs.lemmas.List.Elements.{All-nil, All-cons, All-map}
use Rattle.std.proofs.Math.Seq.{get_or-append_seam}
use Rattle.std.proofs.Math.Pow.{pow_mono}
use Rattle.std.proofs.lemmas.Bool.Decides.{leb_tells}
use Rattle.std.proofs.lemmas.List.{get_or_append_left}
use Rattle.std.proofs.lemmas.List.FromFn.{length-range_with_len}
use Rattle.std.proofs.lemmas.Option.{slice_get_within}
use Rattle.rsfq_ids.specs.declared.table.CellRow.{CellRow}
use Rattle.rsfq_ids.specs.declared.table.Kind.{Kind}
use Rattle.rsfq_ids.specs.declared.table.Kind.TheVariants as kind
use Rattle.rsfq_ids.specs.declared.circuit.Bench.{Bench}
use Rattle.rsfq_ids.specs.declared.circuit.Driver.{Driver}
use Rattle.rsfq_ids.specs.declared.circuit.Driver.TheVariants as driver
use Rattle.rsfq_ids.specs.Circuit.{IsDrivenBy, is_copying}
use Rattle.rsfq_ids.specs.Numbering.{IsRanked}
use Rattle.rsfq_ids.specs.WellFormed.{FitsKind}
use Rattle.rsfq_ids.specs.Formula.{Clause, IsOver}
use Rattle.cell_truth.specs.Clause.{has_both, once_each, with_literal, written}
use Rattle.cell_truth.specs.Truth.{truth_clauses, row_clause}
use Rattle.cell_truth.proofs.FormLaws.{HasOnce, added_over, added_once}
use Rattle.net_graph.specs.Graph.{NetGraph, IsRowOf}
use Rattle.clock_tree.specs.Clock.{design_of, IsClockNet}
use Rattle.clock_tree.proofs.Clocks.{row_fits}
use Rattle.miter_cnf.specs.Variables.{variable_at, variable_of, cell_variables, literals_at, IsGroup, IsGroupOf}
use Rattle.miter_cnf.specs.Circuits.{IsNamedCircuit}
use Rattle.miter_cnf.proofs.Literals.{any_of, no_true, once_from}
use Rattle.miter_cnf.proofs.Along.{named_along, joined_named, cell_within, zip_at, zip_long, range_long, range_at}
use Rattle.miter_cnf.proofs.Equal.{tables_all, read_all, rows_of}
use Rattle.miter_cnf.proofs.Assigned.{before_less, has_own}

-- ---- a clause as it is written

pub all_from : {X : Type 0} (P : X → Type 0) (xs : List X) → ((x : X) → Contains xs x → P x) → All P xs
all_from P [] each = All-nil P
all_from P (x ∷ xs) each = All-cons P x xs (each x (zero, omega arith, refl)) (all_from P xs (λ y (k, lt, at). each y (suc k, omega arith, at)))

push_once : (clause : List ℕ) (lit : ℕ) → HasOnce clause → list_any (λ kept. kept == lit) clause ≡ false → HasOnce (clause ++ lit ∷ [])
push_once clause lit once free i j d before there same =
    let long = length-append clause (lit ∷ []) in
    let early : i < length clause = omega (arith, before, there, long) in
    let left : get_or (clause ++ lit ∷ []) i d ≡ get_or clause i d = get_or_append_left clause (lit ∷ []) d i early in
    elim (leb_tells (length clause) j) [
      | inr t ↦ once i j d before t.1 (sym left ∙ (same ∙ get_or_append_left clause (lit ∷ []) d j t.1))
      | inl t ↦
          (let ge = t.1 in
          let at : j ≡ length clause = omega (arith, ge, there, long) in
          let last : get_or (clause ++ lit ∷ []) j d ≡ lit = ap (λ n. get_or (clause ++ lit ∷ []) n d) at ∙ get_or-append_seam clause lit [] d in
          let is : get_or clause i d ≡ lit = sym left ∙ (same ∙ last) in
          no_true (sym free ∙ any_of (λ kept. kept == lit) clause lit (i, early, same_default clause i d lit early is) (eq-eqb lit lit refl)))
    ]
  where
    same_default : (xs : List ℕ) (k d e : ℕ) → k < length xs → get_or xs k d ≡ e → get_or xs k e ≡ e
    same_default [] k d e lt is = absurd (omega arith)
    same_default (x ∷ xs) zero d e lt is = is
    same_default (x ∷ xs) (suc k) d e lt is = same_default xs k d e (omega arith) is

fold_once : (lits clause : List ℕ) → HasOnce clause → HasOnce (fold with_literal clause lits)
fold_once [] clause once = once
fold_once (lit ∷ lits) clause once =
    fold_once lits (with_literal clause lit) (elim (cases_Bool (list_any (λ kept. kept == lit) clause)) [ inl e ↦ rw e once | inr e ↦ rw e (push_once clause lit once e) ])

-- a good clause: over so many variables, and no literal twice
pub record IsGood (vars : ℕ) (clause : Clause) : Type 0 where
  pub over : IsOver vars clause
  pub once : HasOnce clause

pub written_good : (vars : ℕ) (lits : List ℕ) → IsOver vars lits → All (IsGood vars) (written lits)
written_good vars lits over = go (has_both lits)
  where
    good : IsGood vars (once_each lits)
    good = record {
      over = all_from (λ lit. lit < 2 * vars) (once_each lits) (λ lit has. let (k, lt, at) = once_from lits lit has in subst (λ l. l < 2 * vars) at (over k lit lt));
      once = fold_once lits [] (λ i j d before there. absurd (omega arith));
    }

    go : (b : Bool) → All (IsGood vars) (cond b [] (once_each lits ∷ []))
    go true = All-nil (IsGood vars)
    go false = All-cons (IsGood vars) (once_each lits) [] good (All-nil (IsGood vars))

-- ---- how many clauses there are

pub written_few : (lits : List ℕ) → length (written lits) ≤ 1
written_few lits = go (has_both lits)
  where
    go : (b : Bool) → length (cond b [] (once_each lits ∷ [])) ≤ 1
    go true = omega arith
    go false = omega arith

pub flat_few : {X Y : Type 0} (f : X → List Y) (most : ℕ) (xs : List X) → ((k : ℕ) (d : X) → k < length xs → length (f (get_or xs k d)) ≤ most) → length (flat_map f xs) ≤ most * length xs
flat_few f most [] each = omega arith
flat_few f most (x ∷ xs) each =
    let here = each zero x (omega arith) in
    let rest = flat_few f most xs (λ k d lt. each (suc k) d (omega arith)) in
    let long = length-append (f x) (flat_map f xs) in
    let more : most * suc (length xs) ≡ most + most * length xs = omega arith in
    omega (arith, here, rest, long, more)

pub table_few : (rows pins output : ℕ) (inputs : List ℕ) → pins ≤ 4 → length (truth_clauses rows pins inputs output) ≤ 16
table_few rows pins output inputs few =
    let bound : 2 ^ pins ≤ 2 ^ 4 = pow_mono {i = pins} {j = 4} few in
    let long = length-range_with_len 0 (2 ^ pins) in
    let most = flat_few (λ row. written (row_clause rows inputs output row)) 1 (range_with_len 0 (2 ^ pins)) (λ k d lt. written_few (row_clause rows inputs output (get_or (range_with_len 0 (2 ^ pins)) k d))) in
    omega (arith, bound, long, most)

pub few_pins : (k : Kind) (row : CellRow) → FitsKind k row → length row.inputs ≤ 4
few_pins kind.Jtl row fits = let e = fits.0 in omega (arith, e)
few_pins kind.Split row fits = let e = fits.0 in omega (arith, e)
few_pins kind.Merge row fits = let e = fits.0 in omega (arith, e)
few_pins kind.Gate row fits = let e = fits.1 in omega (arith, e)

-- ---- the clauses of a circuit's cells

module _ (graph : NetGraph) (bench : Bench) (inputs : List ℕ) (variables : List ℕ) (clauses : List Clause) (circuit : IsNamedCircuit graph bench inputs variables clauses) (rank : ℕ → ℕ) (ranked : IsRanked graph.flat rank) where
  abbrev count : ℕ
  count = length inputs + cell_variables graph

  pub own_below : (cell : ℕ) (row : CellRow) → IsRowOf graph cell row → is_copying row.kind ≡ false → variable_of graph (length inputs) cell < count
  own_below cell row of joins =
      let less = before_less graph cell (length graph.flat.cells) (cell_within graph cell row of) (has_own graph cell row of joins) in omega (arith, less)

  pub nets_below : (net : ℕ) (source : Driver) → IsDrivenBy graph.flat net source → IsClockNet (design_of graph bench) net ⊎ (variable_at variables net < count)
  nets_below =
      named_along graph bench inputs variables clauses circuit rank ranked (λ net. variable_at variables net < count)
      (λ net port place low high driven used listed.
      let is = circuit.named.named net (driver.Port port) driven place listed in
      let lt = slice_get_within inputs place port listed in
      omega (arith, is, lt))
      (λ net cell out from row of copies driven reads same q. omega (arith, same, q))
      (λ net cell out row nets of joins driven read all.
      let is = joined_named graph bench inputs variables clauses circuit cell out net row of joins driven in
      let lt = own_below cell row of joins in
      omega (arith, is, lt))

  pub cells_good : (vars : ℕ) → count ≤ vars → All (IsGood vars) clauses
  cells_good vars le =
      tables_all graph bench inputs variables clauses circuit (IsGood vars) (λ cell row nets of joins read.
      let below = read_all graph bench inputs variables clauses circuit (λ net. variable_at variables net < count) nets_below cell row nets of joins read in
      let over : IsOver vars (literals_at variables nets) = All-map (λ lit. lit < 2 * vars) (λ net. 2 * variable_at variables net) nets (λ k d lt. let one = below k d lt in omega (arith, one, le)) in
      let own = own_below cell row of joins in
      let output = 2 * variable_of graph (length inputs) cell in
      let table = truth_clauses (rows_of row row.kind) (length row.inputs) (literals_at variables nets) output in
      let are_over = added_over vars (rows_of row row.kind) output (length row.inputs) (literals_at variables nets) [] table refl over (omega (arith, own, le)) (All-nil (IsOver vars)) in
      let are_once = added_once (rows_of row row.kind) output (length row.inputs) (literals_at variables nets) [] table refl (All-nil HasOnce) in
      λ k d lt. record { over = are_over k d lt; once = are_once k d lt })

  pub cells_few : length clauses ≤ 16 * length graph.flat.cells
  cells_few =
      let groups = circuit.grouped.0 in
      let long = range_long 0 (length graph.flat.cells) in
      let many = zip_long (IsGroup graph (length inputs) variables) (range_with_len 0 (length graph.flat.cells)) groups circuit.grouped.1 in
      let most = flat_few (λ (g : List Clause). g) 16 groups (λ k d lt. group_few k d (omega (arith, lt, many, long)) lt) in
      let is = ap (λ (l : List Clause). length l) circuit.grouped.2 in
      omega (arith, most, is, many, long)
    where
      by_kind : (k : Kind) (cell : ℕ) (row : CellRow) (group : List Clause) → FitsKind k row → IsGroupOf k graph (length inputs) variables cell row group → length group ≤ 16
      by_kind kind.Jtl cell row group fits is = rw is (omega arith)
      by_kind kind.Split cell row group fits is = rw is (omega arith)
      by_kind kind.Merge cell row group fits is = rw is.2 (table_few 14 (length row.inputs) (2 * variable_of graph (length inputs) cell) (literals_at variables is.0) (few_pins kind.Merge row fits))
      by_kind kind.Gate cell row group fits is = rw is.2 (table_few row.truth (length row.inputs) (2 * variable_of graph (length inputs) cell) (literals_at variables is.0) (few_pins kind.Gate row fits))

      group_few : (k : ℕ) (d : List Clause) → k < length graph.flat.cells → k < length circuit.grouped.0 → length (get_or circuit.grouped.0 k d) ≤ 16
      group_few k d within lt =
          let here : get_or (range_with_len 0 (length graph.flat.cells)) k 0 ≡ k = range_at 0 (length graph.flat.cells) k 0 within ∙ omega arith in
          let long = range_long 0 (length graph.flat.cells) in
          let at = subst (λ (c : ℕ). IsGroup graph (length inputs) variables c (get_or circuit.grouped.0 k d)) here
          (zip_at (IsGroup graph (length inputs) variables) (range_with_len 0 (length graph.flat.cells)) circuit.grouped.0 k 0 d circuit.grouped.1 (omega (arith, long, within))) in
          by_kind at.0.kind k at.0 (get_or circuit.grouped.0 k d) (row_fits graph bench circuit.fits.table_fits k at.0 at.1).kind at.2
