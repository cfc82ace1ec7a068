-- Groups of clauses, cell by cell.
use Rattle.std.proofs.Common.{◌≡◌, ◌∙◌, ◌<◌, ◌≤◌, ◌+◌, ◌*◌, ℕ, zero, suc, refl, sym, ap, subst, arith, List, [], ◌∷◌, ◌++◌, length, take, get_or, append-nil, append_assoc, ◌⊎◌, inl, inr, Result, Ok, Err}
use Rattle.std.specs.Prelude.{if◌then◌else◌, OnOk}
use Rattle.std.specs.List.{AllZip, flat_map, range_with_len}
use Rattle.std.proofs.lemmas.Bool.{cases_Bool}
use Rattle.std.proofs.lemmas.List.{map-append, take_more, take_all}
use Rattle.std.proofs.lemmas.Option.{slice_get_within}
use Rattle.rsfq_ids.specs.declared.table.CellRow.{CellRow}
use Rattle.rsfq_ids.specs.declared.table.Kind.TheVariants as kind
use Rattle.rsfq_ids.specs.Formula.{Clause}
use Rattle.rsfq_ids.specs.Circuit.{Reads, PinsRead, InputNets}
use Rattle.rsfq_ids.specs.declared.circuit.Flat.{Flat}
use Rattle.rsfq_ids.specs.declared.circuit.Reader.TheVariants as reader
use Rattle.net_graph.specs.Graph.{NetGraph, IsRowOf, IsGraph}
use Rattle.cell_truth.specs.Truth.{truth_clauses}
use Rattle.miter_cnf.specs.Variables.{has_variable, variables_before, variable_of, variable_at, literals_at, IsGroup, AreCellClauses}

range_more : (a n : ℕ) → range_with_len a (suc n) ≡ range_with_len a n ++ (a + n) ∷ []
range_more a zero = let e : a ≡ a + 0 = omega arith in ap (λ k. k ∷ []) e
range_more a (suc n) = let e : a + 1 + n ≡ a + suc n = omega arith in ap (λ (l : List ℕ). a ∷ l) (range_more (a + 1) n ∙ ap (λ k. range_with_len (a + 1) n ++ k ∷ []) e)

range_next : (n : ℕ) → range_with_len 0 (n + 1) ≡ range_with_len 0 n ++ n ∷ []
range_next n =
    let e : n + 1 ≡ suc n = omega arith in
    let f : 0 + n ≡ n = omega arith in
    ap (range_with_len 0) e ∙ (range_more 0 n ∙ ap (λ k. range_with_len 0 n ++ k ∷ []) f)

pub zip_push : {A B : Type 0} (R : A → B → Type 0) (xs : List A) (ys : List B) (x : A) (y : B) → AllZip R xs ys → R x y → AllZip R (xs ++ x ∷ []) (ys ++ y ∷ [])
zip_push R [] [] x y all one = (one, tt)
zip_push R [] (b ∷ ys) x y all one = absurd all
zip_push R (a ∷ xs) [] x y all one = absurd all
zip_push R (a ∷ xs) (b ∷ ys) x y all one = (all.0, zip_push R xs ys x y all.1 one)

-- one place more
pub zip_more : {B : Type 0} (R : ℕ → B → Type 0) (n : ℕ) (ys : List B) (y : B) → AllZip R (range_with_len 0 n) ys → R n y → AllZip R (range_with_len 0 (n + 1)) (ys ++ y ∷ [])
zip_more {B = B} R n ys y all one = subst (λ (xs : List ℕ). AllZip R xs (ys ++ y ∷ [])) (sym (range_next n)) (zip_push R (range_with_len 0 n) ys n y all one)

zip_long : {A B : Type 0} (R : A → B → Type 0) (xs : List A) (ys : List B) → AllZip R xs ys → length ys ≡ length xs
zip_long R [] [] all = refl
zip_long R [] (b ∷ ys) all = absurd all
zip_long R (a ∷ xs) [] all = absurd all
zip_long R (a ∷ xs) (b ∷ ys) all = ap suc (zip_long R xs ys all.1)

long_range : (a n : ℕ) → length (range_with_len a n) ≡ n
long_range a zero = refl
long_range a (suc n) = ap suc (long_range (a + 1) n)

-- as many nets as pins
pub pins_long : (flat : Flat) (cell count : ℕ) (nets : List ℕ) → PinsRead flat cell count nets → length nets ≡ count
pins_long flat cell count nets read = zip_long (λ pin net. Reads flat (reader.Pin cell pin) net) (range_with_len 0 count) nets read ∙ long_range 0 count

-- the literals of one net more
pub literals_more : (variables nets : List ℕ) (net literal : ℕ) → literal ≡ 2 * variable_at variables net → literals_at variables nets ++ literal ∷ [] ≡ literals_at variables (nets ++ net ∷ [])
literals_more variables nets net literal is =
    ap (λ l. literals_at variables nets ++ l ∷ []) is ∙ sym (map-append (λ net. 2 * variable_at variables net) nets (net ∷ []))

pub literals_long : (variables nets : List ℕ) → length (literals_at variables nets) ≡ length nets
literals_long variables [] = refl
literals_long variables (net ∷ nets) = ap suc (literals_long variables nets)

-- a net that is read is one of the circuit's
pub read_net : (graph : NetGraph) (cell pin net : ℕ) → IsGraph graph → Reads graph.flat (reader.Pin cell pin) net → net < length graph.flat.nets
read_net graph cell pin net is reads =
    let driven = is.numbered.has_driver (reader.Pin cell pin) net reads in
    slice_get_within graph.flat.nets net driven.0 driven.1

-- ---- cells

pub before_few : (graph : NetGraph) (n : ℕ) → variables_before graph n ≤ n
before_few graph zero = omega arith
before_few graph (suc n) =
    let rest = before_few graph n in
    elim (cases_Bool (has_variable graph n)) [ inl e ↦ rw e (omega arith) | inr e ↦ rw e (omega arith) ]

pub next_own : (graph : NetGraph) (inputs n own next : ℕ) → own ≡ variable_of graph inputs n → next ≡ own + (if has_variable graph n then 1 else 0) → next ≡ variable_of graph inputs (n + 1)
next_own graph inputs n own next is more =
    let e : suc n ≡ n + 1 = omega arith in
    more ∙ (shifted (if has_variable graph n then 1 else 0) ∙ ap (variable_of graph inputs) e)
  where
    shifted : (extra : ℕ) → own + extra ≡ inputs + (variables_before graph n + extra)
    shifted extra = let base = is in omega (arith, base)

flat_map-push : (groups : List (List Clause)) (group : List Clause) → flat_map (λ (g : List Clause). g) (groups ++ group ∷ []) ≡ flat_map (λ (g : List Clause). g) groups ++ group
flat_map-push [] group = append-nil group
flat_map-push (g ∷ groups) group = ap (λ (l : List Clause). g ++ l) (flat_map-push groups group) ∙ sym (append_assoc g (flat_map (λ (g : List Clause). g) groups) group)

-- the clauses of one cell more
pub groups_more : (graph : NetGraph) (inputs : ℕ) (variables : List ℕ) (n : ℕ) (before after group : List Clause) → AreCellClauses graph inputs variables n before
    → IsGroup graph inputs variables n group → after ≡ before ++ group → AreCellClauses graph inputs variables (n + 1) after
groups_more graph inputs variables n before after group are one is = (
  are.0 ++ group ∷ [],
  zip_more (IsGroup graph inputs variables) n are.0 group are.1 one,
  is ∙ (ap (λ (l : List Clause). l ++ group) are.2 ∙ sym (flat_map-push are.0 group)),
)

-- the group of a cell, by its kind
pub copied_group : (graph : NetGraph) (inputs : ℕ) (variables : List ℕ) (cell : ℕ) (row : CellRow) → IsRowOf graph cell row → (row.kind ≡ kind.Jtl) ⊎ (row.kind ≡ kind.Split) → IsGroup graph inputs variables cell []
copied_group graph inputs variables cell row of_row kind_is = (row, of_row, elim kind_is [ inl e ↦ rw e refl | inr e ↦ rw e refl ])

pub merged_group : (graph : NetGraph) (inputs : ℕ) (variables : List ℕ) (cell own : ℕ) (row : CellRow) (nets : List ℕ) → IsRowOf graph cell row → row.kind ≡ kind.Merge → own ≡ variable_of graph inputs cell
    → InputNets graph.flat cell row nets → IsGroup graph inputs variables cell (truth_clauses 14 (length row.inputs) (literals_at variables nets) (2 * own))
merged_group graph inputs variables cell own row nets of_row kind_is own_is read =
    (row, of_row, rw kind_is ((nets, read, ap (λ v. truth_clauses 14 (length row.inputs) (literals_at variables nets) (2 * v)) own_is)))

pub gate_group : (graph : NetGraph) (inputs : ℕ) (variables : List ℕ) (cell own : ℕ) (row : CellRow) (nets : List ℕ) → IsRowOf graph cell row → row.kind ≡ kind.Gate → own ≡ variable_of graph inputs cell
    → InputNets graph.flat cell row nets → IsGroup graph inputs variables cell (truth_clauses row.truth (length row.inputs) (literals_at variables nets) (2 * own))
gate_group graph inputs variables cell own row nets of_row kind_is own_is read =
    (row, of_row, rw kind_is ((nets, read, ap (λ v. truth_clauses row.truth (length row.inputs) (literals_at variables nets) (2 * v)) own_is)))

pub on_more : {T E : Type 0} (A B : Type 0) → (A → B) → (r : Result T E) → OnOk r A → OnOk r B
on_more A B more (Ok x) a = more a
on_more A B more (Err e) a = tt

-- the literals of the nets that outputs read, with one output more
pub shown_more : (flat : Flat) (variables outputs : List ℕ) (k port net literal : ℕ) (nets old new : List ℕ) → k < length outputs → port ≡ get_or outputs k port
    → AllZip (λ port net. Reads flat (reader.Port port) net) (take k outputs) nets → Reads flat (reader.Port port) net → literal ≡ 2 * variable_at variables net
    → old ≡ literals_at variables nets → new ≡ old ++ literal ∷ []
    → (more : List ℕ) × AllZip (λ port net. Reads flat (reader.Port port) net) (take (k + 1) outputs) more × (new ≡ literals_at variables more)
shown_more flat variables outputs k port net literal nets old new lt at zip reads is before pushed =
    let longer : take (k + 1) outputs ≡ take k outputs ++ port ∷ [] = take_more outputs k port lt ∙ ap (λ p. take k outputs ++ p ∷ []) (sym at) in (
      nets ++ net ∷ [],
      subst (λ (ports : List ℕ). AllZip (λ port net. Reads flat (reader.Port port) net) ports (nets ++ net ∷ [])) (sym longer) (zip_push (λ port net. Reads flat (reader.Port port) net) (take k outputs) nets port net zip reads),
      pushed ∙ (ap (λ (l : List ℕ). l ++ literal ∷ []) before ∙ literals_more variables nets net literal is),
    )

pub shown_all : (flat : Flat) (variables outputs : List ℕ) (k : ℕ) (nets old : List ℕ) → length outputs ≤ k → AllZip (λ port net. Reads flat (reader.Port port) net) (take k outputs) nets → old ≡ literals_at variables nets
    → (all : List ℕ) × AllZip (λ port net. Reads flat (reader.Port port) net) outputs all × (old ≡ literals_at variables all)
shown_all flat variables outputs k nets old le zip is =
    (nets, subst (λ (ports : List ℕ). AllZip (λ port net. Reads flat (reader.Port port) net) ports nets) (take_all k outputs le) zip, is)
