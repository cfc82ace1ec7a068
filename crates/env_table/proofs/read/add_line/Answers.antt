use Rattle.std.proofs.Common.{◌≡◌, ◌∙◌, ℕ, List, suc, [], ap, arith, add-one, map, get_or, take, drop}
use Rattle.std.proofs.lemmas.List.{length-map}
use Rattle.csv.specs.Records.{fields_of}
use Rattle.env_table.specs.Lines.{line_fault}
use Rattle.table_fields.proofs.RowLists.{if_err, on_ok, read_at}
use Rattle.env_table.proofs.ReadFacts.{blocked_at, refused, step_at}
use Rattle.env_table.proofs.read.add_line.Goals as goal

pub returns-in-Err-clause-fault : goal.returns-in-Err-clause-fault
returns-in-Err-clause-fault c real =
    let records : List (List (List ℕ)) = map fields_of c.args.records.now in
    let is : get_or records (suc c.args.place) [] ≡ fields_of c.index-records-place.result =
    read_at fields_of c.args.records.now (suc c.args.place) c.index-records-place.result (omega (arith, c.requires.there)) (rw add-one at c.index-records-place.is) in
    ap (line_fault (take c.args.place (drop 1 records))) is ∙ refused (take c.args.place (drop 1 records)) (fields_of c.index-records-place.result) c.in-Err.why (c.in-Err.ensures.fault real)

pub returns-clause-read : goal.returns-clause-read
returns-clause-read c =
    let records : List (List (List ℕ)) = map fields_of c.args.records.now in
    let is : get_or records (suc c.args.place) [] ≡ fields_of c.index-records-place.result =
    read_at fields_of c.args.records.now (suc c.args.place) c.index-records-place.result (omega (arith, c.requires.there)) (rw add-one at c.index-records-place.is) in
    on_ok c.add_said.result
    (λ adds.
    step_at records c.args.place (fields_of c.index-records-place.result) c.args.so_far.now c.add_said.new.so_far c.in-Ok.said is (omega (arith, length-map c.args.records.now fields_of, c.requires.there))
    c.requires.so_far c.in-Ok.ensures.start c.in-Ok.ensures.times c.in-Ok.ensures.said adds)
    c.add_said.ensures.added

pub returns-clause-fault : goal.returns-clause-fault
returns-clause-fault c =
    let records : List (List (List ℕ)) = map fields_of c.args.records.now in
    let is : get_or records (suc c.args.place) [] ≡ fields_of c.index-records-place.result =
    read_at fields_of c.args.records.now (suc c.args.place) c.index-records-place.result (omega (arith, c.requires.there)) (rw add-one at c.index-records-place.is) in
    if_err c.add_said.result
    (λ why blocks real.
    blocked_at records c.args.place (fields_of c.index-records-place.result) c.args.so_far.now c.in-Ok.said why is
    c.requires.so_far c.in-Ok.ensures.start c.in-Ok.ensures.times c.in-Ok.ensures.said (blocks real))
    c.add_said.ensures.fault
