use Rattle.std.proofs.Common.{◌≡◌, ◌∙◌, ◌++◌, ◌∷◌, ◌+◌, ℕ, List, suc, [], sym, ap, arith, rules, add-one, map, get_or}
use Rattle.std.proofs.lemmas.List.{length-map}
use Rattle.csv.specs.Records.{fields_of}
use Rattle.name_table.specs.Names.{with_name}
use Rattle.table_fields.specs.Records.{field}
use Rattle.cell_table.specs.Cells.{first_names}
use Rattle.table_fields.proofs.RowLists.{read_at}
use Rattle.cell_table.proofs.ReadFacts.{name_added, names_more}
use Rattle.cell_table.proofs.RowFacts.{cell_parts}
use Rattle.cell_table.proofs.read.add_cell.Goals as goal

pub returns-in_err-cell-clause-fault : goal.returns-in_err-cell-clause-fault
returns-in_err-cell-clause-fault c =
    let is : get_or (map fields_of c.args.records.now) (suc c.args.place) [] ≡ fields_of c.index-records-place.result =
    read_at fields_of c.args.records.now (suc c.args.place) c.index-records-place.result (omega (arith, c.requires.there)) (rw add-one at c.index-records-place.is) in
    rw (is, ← c.requires.names) (search rules)

pub returns-clause-passed : goal.returns-clause-passed
returns-clause-passed c =
    let is : get_or (map fields_of c.args.records.now) (suc c.args.place) [] ≡ fields_of c.index-records-place.result =
    read_at fields_of c.args.records.now (suc c.args.place) c.index-records-place.result (omega (arith, c.requires.there)) (rw add-one at c.index-records-place.is) in
    rw (is, ← c.requires.names) c.in_ok-cell.ensures.passed

pub returns-clause-cell : goal.returns-clause-cell
returns-clause-cell c =
    let is : get_or (map fields_of c.args.records.now) (suc c.args.place) [] ≡ fields_of c.index-records-place.result =
    read_at fields_of c.args.records.now (suc c.args.place) c.index-records-place.result (omega (arith, c.requires.there)) (rw add-one at c.index-records-place.is) in
    (c.in_ok-cell.cell, c.in_ok-push.ensures.ok, rw is c.in_ok-cell.ensures.cell)

pub returns-clause-names : goal.returns-clause-names
returns-clause-names c =
    let records : List (List (List ℕ)) = map fields_of c.args.records.now in
    let is : get_or records (suc c.args.place) [] ≡ fields_of c.index-records-place.result =
    read_at fields_of c.args.records.now (suc c.args.place) c.index-records-place.result (omega (arith, c.requires.there)) (rw add-one at c.index-records-place.is) in
    let name : List ℕ = field (fields_of c.index-records-place.result) 0 in
    let parts = cell_parts c.args.names.now (fields_of c.index-records-place.result) c.in_ok-cell.ensures.passed in
    let more : first_names records (c.args.place + 1) ≡ first_names records c.args.place ++ field (get_or records (c.args.place + 1) []) 0 ∷ [] =
    names_more records c.args.place (omega (arith, length-map c.args.records.now fields_of, c.requires.there)) in
    c.in_ok-see.ensures.names
    ∙ (ap (with_name c.args.names.now) c.text_at.ensures
    ∙ (name_added c.args.names.now name parts.fifth
    ∙ (ap (λ (names : List (List ℕ)). names ++ name ∷ []) c.requires.names
    ∙ (ap (λ (fields : List (List ℕ)). first_names records c.args.place ++ field fields 0 ∷ []) (sym is ∙ ap (λ n. get_or records n []) (sym (add-one c.args.place))) ∙ sym more))))
