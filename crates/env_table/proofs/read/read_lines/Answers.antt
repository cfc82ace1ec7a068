use Rattle.std.proofs.Common.{◌≡◌, ◌∙◌, ◌+◌, sym, arith, map, length}
use Rattle.std.proofs.lemmas.List.{length-map}
use Rattle.csv.specs.Records.{fields_of}
use Rattle.table_fields.proofs.RowLists.{if_err, if_ok}
use Rattle.env_table.proofs.ReadFacts.{ended, first_refused, no_period}
use Rattle.env_table.proofs.read.read_lines.Goals as goal

pub returns-in-Err-clause-fault : goal.returns-in-Err-clause-fault
returns-in-Err-clause-fault c real =
    first_refused (map fields_of c.args.records.now) c.loop-place.place c.loop-place.so_far c.in-Err.why (omega (arith, length-map c.args.records.now fields_of))
    c.loop-place.invariant (c.in-Err.ensures.fault real)

pub returns-clause-lines : goal.returns-clause-lines
returns-clause-lines c =
    let all : c.loop-place.place + 1 ≡ length (map fields_of c.args.records.now) = omega (arith, length-map c.args.records.now fields_of) in
    if_ok c.finish.result (λ env end. ended (map fields_of c.args.records.now) c.loop-place.place c.loop-place.so_far env (omega arith) all c.loop-place.invariant end) c.finish.ensures.env

pub returns-clause-fault : goal.returns-clause-fault
returns-clause-fault c =
    let all : c.loop-place.place + 1 ≡ length (map fields_of c.args.records.now) = omega (arith, length-map c.args.records.now fields_of) in
    if_err c.finish.result
    (λ fault end real.
    no_period (map fields_of c.args.records.now) c.loop-place.place c.loop-place.so_far fault (omega arith) all c.loop-place.invariant
    (end.0 ∙ sym (length-map c.args.records.now fields_of), end.1, end.2))
    c.finish.ensures.fault
