-- The rows of a table, one after another.
use Rattle.std.proofs.Common.{◌≡◌, ◌≢◌, ◌∙◌, ◌+◌, ℕ, zero, suc, ◌<◌, Bool, true, false, sym, refl, ap, arith, List, [], ◌∷◌, ◌++◌, map, length, take, drop, get_or, Option, Some, None, option_map, eqb-true, ◌==◌}
use Rattle.std.specs.Prelude.{max}
use Rattle.std.specs.List.{All, list_any, position_or_len}
use Rattle.std.specs.Str.{bytes_eq}
use Rattle.std.proofs.Math.ListN.{get_or-map}
use Rattle.std.proofs.lemmas.Bool.{false≢true, lt-ltb}
use Rattle.std.proofs.lemmas.List.{get_or-drop, get_or-take, map_more, length-drop, length-map, length-take}
use Rattle.std.proofs.lemmas.Slice.Eq.{bytes_eq-Decides}
use Rattle.rsfq_ids.specs.declared.table.CellRow.{CellRow}
use Rattle.rsfq_ids.specs.declared.table.CellTable.{CellTable}
use Rattle.rsfq_ids.specs.declared.table_fault.TableWhy.{TableWhy}
use Rattle.rsfq_ids.specs.declared.table_fault.TableWhy.TheVariants.{Header, Repeated}
use Rattle.rsfq_ids.specs.WellFormed.{AreDistinct, IsTable}
use Rattle.name_table.specs.Names.{number_of, with_name}
use Rattle.table_fields.specs.Records.{field, first_of}
use Rattle.table_fields.proofs.Places.{place_there}
use Rattle.cell_table.specs.Cells.{AreCellsOf, HasPlainNames, HaveDigits, IsFirstCellFault, cell_fault, first_names, repeated_fault, row_fault}
use Rattle.cell_table.proofs.RowFacts.{any_here, cell_parts, is_row, plain_row, row_digits}

-- what holds of each item and its place, and of one more
pub each_push : {X : Type 0} (P : ℕ → X → Type 0) (xs : List X) (x : X) → ((i : ℕ) (d : X) → i < length xs → P i (get_or xs i d)) → P (length xs) x
    → (i : ℕ) (d : X) → i < length (xs ++ x ∷ []) → P i (get_or (xs ++ x ∷ []) i d)
each_push P [] x each last zero d less = last
each_push P [] x each last (suc i) d less = absurd (omega arith)
each_push P (y ∷ ys) x each last zero d less = each zero d (omega arith)
each_push P (y ∷ ys) x each last (suc i) d less = each_push (λ n. P (suc n)) ys x (λ n e lt. each (suc n) e (omega arith)) last i d (omega arith)

-- the names of one more cell
pub names_more : (records : List (List (List ℕ))) (count : ℕ) → count + 1 < length records
    → first_names records (count + 1) ≡ first_names records count ++ field (get_or records (count + 1) []) 0 ∷ []
names_more records count less =
    let within : count < length (drop 1 records) = omega (arith, length-drop 1 records) in
    let at : 1 + count ≡ count + 1 = omega arith in
    map_more (λ fields. field fields 0) (drop 1 records) count [] within
    ∙ ap (λ fields. first_names records count ++ field fields 0 ∷ []) (get_or-drop 1 records count [] ∙ ap (λ n. get_or records n []) at)

no_place : (names : List (List ℕ)) (name : List ℕ) → number_of names name ≡ None → list_any (bytes_eq name) names ≡ false
no_place names name none = go (list_any (bytes_eq name) names) refl
  where
    go : (b : Bool) → list_any (bytes_eq name) names ≡ b → list_any (bytes_eq name) names ≡ false
    go false is = is
    go true is =
        let less = place_there (bytes_eq name) names is in
        let some : number_of names name ≡ Some (position_or_len (bytes_eq name) names) = rw (lt-ltb _ _ less) refl in
        let bad : ◌≡◌ {A = Option ℕ} None (Some (position_or_len (bytes_eq name) names)) = sym none ∙ some in
        cc

pub not_repeated : (names : List (List ℕ)) (name : List ℕ) → repeated_fault names name ≡ None → list_any (bytes_eq name) names ≡ false
not_repeated names name none = no_place names name (go (number_of names name) none)
  where
    go : (o : Option ℕ) → option_map (λ place. Repeated (place + 1)) o ≡ None → o ≡ None
    go None none = refl
    go (Some place) none = cc

pub name_added : (names : List (List ℕ)) (name : List ℕ) → repeated_fault names name ≡ None → with_name names name ≡ names ++ name ∷ []
name_added names name none = rw (not_repeated names name none) refl

-- a name among the first names
first_name : (records : List (List (List ℕ))) (count place : ℕ) → place < count → get_or (first_names records count) place [] ≡ field (get_or records (suc place) []) 0
first_name records count place less =
    let at : 1 + place ≡ suc place = omega arith in
    get_or-map (λ (fields : List (List ℕ)). field fields 0) (take count (drop 1 records)) place []
    ∙ ap (λ fields. field fields 0) (get_or-take count (drop 1 records) place [] less ∙ (get_or-drop 1 records place [] ∙ ap (λ n. get_or records n []) at))

length_first : (records : List (List (List ℕ))) (count : ℕ) → count + 1 < length records → length (first_names records count) ≡ count
length_first records count less = simp (length-map, length-take, length-drop) (omega arith)

max_one : (n row : ℕ) → row < n → row < max 1 n
max_one n row less = omega arith

-- no two cells of one name
apart : (records : List (List (List ℕ))) (table : CellTable) → AreCellsOf records table → (i j : ℕ) (d e : CellRow) → i < j → j < length table.rows
    → (get_or table.rows i d).name ≢ (get_or table.rows j e).name
apart records table cells i j d e less within same =
    let here = cells.cells i d (omega arith) in
    let there = cells.cells j e within in
    let fault : cell_fault (first_names records j) (get_or records (suc j) []) ≡ None = cells.passed (suc j) (omega (arith, cells.count)) in
    let parts = cell_parts (first_names records j) (get_or records (suc j) []) fault in
    let name : List ℕ = field (get_or records (suc j) []) 0 in
    let none : list_any (bytes_eq name) (first_names records j) ≡ false = not_repeated (first_names records j) name parts.fifth in
    let is : name ≡ get_or (first_names records j) i [] = sym there.name ∙ (sym same ∙ (here.name ∙ sym (first_name records j i less))) in
    let long : i < length (first_names records j) = omega (arith, length_first records j (omega (arith, cells.count))) in
    let found : list_any (bytes_eq name) (first_names records j) ≡ true =
    any_here (bytes_eq name) (first_names records j) i [] long ((bytes_eq-Decides name (get_or (first_names records j) i [])).1 is) in
    absurd (false≢true (sym none ∙ found))

name_at : (rows : List CellRow) (i : ℕ) (n : List ℕ) (d : CellRow) → i < length rows → get_or (map (λ row. row.name) rows) i n ≡ (get_or rows i d).name
name_at [] i n d less = absurd (omega arith)
name_at (row ∷ rows) zero n d less = refl
name_at (row ∷ rows) (suc i) n d less = name_at rows i n d (omega arith)

names_apart : (rows : List CellRow) → ((i j : ℕ) (d e : CellRow) → i < j → j < length rows → (get_or rows i d).name ≢ (get_or rows j e).name) → AreDistinct (map (λ row. row.name) rows)
names_apart [] differ i j n less within same = absurd (omega arith)
names_apart (row ∷ rows) differ i j n less within same =
    let many : length (map (λ (r : CellRow). r.name) (row ∷ rows)) ≡ length (row ∷ rows) = length-map (row ∷ rows) (λ r. r.name) in
    let inside : j < length (row ∷ rows) = omega (arith, many) in
    differ i j row row less inside (sym (name_at (row ∷ rows) i n row (omega arith)) ∙ (same ∙ name_at (row ∷ rows) j n row inside))

-- a table that is read is well formed
pub table_fits : (records : List (List (List ℕ))) (table : CellTable) → AreCellsOf records table → IsTable table
table_fits records table cells = record {
  rows = λ k d less. is_row (first_names records k) (get_or records (suc k) []) (get_or table.rows k d) (cells.cells k d less) (cells.passed (suc k) (omega (arith, cells.count)));
  names = names_apart table.rows (apart records table cells);
}

pub table_plain : (records : List (List (List ℕ))) (table : CellTable) → AreCellsOf records table → All HasPlainNames table.rows
table_plain records table cells k d less =
    plain_row (first_names records k) (get_or records (suc k) []) (get_or table.rows k d) (cells.cells k d less) (cells.passed (suc k) (omega (arith, cells.count)))

pub table_digits : (records : List (List (List ℕ))) (table : CellTable) → AreCellsOf records table → HaveDigits records table
table_digits records table cells k d less =
    row_digits (first_names records k) (get_or records (suc k) []) (get_or table.rows k d) (cells.cells k d less) (cells.passed (suc k) (omega (arith, cells.count)))

-- bytes without a record have no head
pub no_records : {X : Type 0} (f : X → List (List ℕ)) (xs : List X) → (length xs == 0) ≡ true → IsFirstCellFault (map f xs) (record { row = 0; why = Header })
unfolding first_of
no_records f [] none = record { there = omega arith; cause = refl; first = λ row less. absurd (omega arith) }
no_records f (x ∷ xs) none = let same = eqb-true (length (x ∷ xs)) 0 none in absurd (omega arith)

pub head_refused : (records : List (List (List ℕ))) (why : TableWhy) → row_fault records zero ≡ Some why → IsFirstCellFault records (record { row = 0; why = why })
head_refused records why cause = record { there = omega arith; cause = cause; first = λ row less. absurd (omega arith) }
