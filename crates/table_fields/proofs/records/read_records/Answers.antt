use Rattle.std.proofs.Common.{Bor, List, ℕ, ◌≡◌, ◌∙◌, ◌<◌, ◌^◌, ap, sym, refl, subst, arith, length, rules, inl, inr, true, map, Some, ◌∷◌, []}
use Rattle.std.specs.Result.{is_ok}
use Rattle.std.proofs.lemmas.List.{length-map, map-append}
use Rattle.csv.specs.Reading.{Reached, builder_config, builder_names_headers, builder_trim, default_config, strip_bom, with_flexible}
use Rattle.csv.specs.Records.{fields_of}
use Rattle.csv.specs.declared.parser.State.TheVariants as st
use Rattle.csv.proofs.ReadFacts.{rows-end, rows-more}
use Rattle.table_fields.proofs.RecordList.{records_are}
use Rattle.table_fields.proofs.records.read_records.Goals as goal

pub loop-row-init : goal.loop-row-init
unfolding Reached
loop-row-init c =
    let made = c.from_reader-reader.ensures in
    let builder = c.flexible.ensures ∙ ap (λ b. with_flexible b true) c.has_headers.ensures in
    let start = c.into_iter-row-iterator.ensures.into_iter_gives in
    let rows = c.into_byte_records-row-items.ensures in
    rw (start, rows.rdr, c.new-rows.ensures.items) (
      made.trim ∙ (ap builder_trim builder ∙ c.new.ensures.trim),
      inr (inr (made.has_headers ∙ ap builder_names_headers builder, made.headers)),
      rows.left,
      made.config ∙ (ap builder_config builder ∙ c.new.ensures.config),
      strip_bom c.args.bytes.now,
      made.source,
      (sym made.state, refl),
    )

pub loop-row-preserved : goal.loop-row-preserved
loop-row-preserved c =
    let (trim, ready, turns, config, left, source, reached) = c.loop-row.invariant in
    let read = rw (c.in-Some.is, c.in-Ok.is) at ((c.next.ensures.steps turns trim).0 ready) in
    let pushed : is_ok c.push.result ≡ true = search rules in
    let items = rw pushed at c.push.ensures.items in
    let (rest, at_rest, more) = rows-more (λ (s : Bor (List ℕ)). Some s.now) c.loop-row.row-iterator.rdr c.next.new.self.rdr (fields_of c.in-Ok.row) default_config st.StartRecord
    (strip_bom c.args.bytes.now) left (map fields_of c.loop-row.rows.items) config source reached read.0 in
    (read.0.3 ∙ trim, inl read.1, read.2, read.0.2 ∙ config, rest, at_rest, rw (items, map-append fields_of c.loop-row.rows.items (c.in-Ok.row ∷ [])) more)

pub returns-clause-records : goal.returns-clause-records
returns-clause-records c =
    let (trim, ready, turns, config, left, source, reached) = c.loop-row.invariant in
    let h1 = rw c.in-None.is at ((c.next.ensures.steps turns trim).0 ready) in
    records_are default_config (strip_bom c.args.bytes.now) _ (
      c.loop-row.row-iterator.rdr.state,
      left,
      reached,
      rows-end (λ (s : Bor (List ℕ)). Some s.now) c.loop-row.row-iterator.rdr c.next.new.self.rdr [] default_config left config source h1,
    )

pub returns-clause-rows : goal.returns-clause-rows
returns-clause-rows c =
    subst (λ (records : List (List (List ℕ))). length records < 2 ^ 32) (returns-clause-records c) (omega (arith, length-map c.loop-row.rows.items fields_of))
