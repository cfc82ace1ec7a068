use Rattle.std.proofs.Common.{◌≡◌, ◌∙◌, ◌+◌, ◌<◌, ◌++◌, ℕ, List, map, drop, length, get_or, Some, refl, sym, ap, subst}
use Rattle.std.specs.Prelude.{slice_get}
use Rattle.std.specs.List.{flat_map, enumerate_from, range_with_len}
use Rattle.std.proofs.lemmas.Option.{slice_get_read}
use Rattle.rsfq_ids.specs.declared.circuit.Reader.{Reader}
use Rattle.rsfq_ids.specs.declared.circuit.Reader.TheVariants.{Pin}
use Rattle.rsfq_ids.specs.declared.circuit.FlatCell.{FlatCell}
use Rattle.flat_names.proofs.Lists.{read_from}
use Rattle.flattener.specs.Ends.{cell_readers}
use Rattle.flattener.proofs.Lists.{numbered_step}
use Rattle.flattener.proofs.Listing.{pins_at}
use Rattle.flattener.proofs.ends.list_readers.Goals as goal

pub loop-number-preserved : goal.loop-number-preserved
loop-number-preserved c =
    let table = c.args.table.now in
    let number = c.loop-number.number in
    let cell = c.index-cells-number.result in
    let row = c.index-as_slice-cell.result in
    let done = c.loop-number.readers.items in
    let low : cell.row < length table.rows = subst (λ (x : FlatCell). x.row < length table.rows) (sym c.index-cells-number.is) (c.requires.rows number cell c.loop-number-test.true) in
    let there : slice_get table.rows cell.row ≡ Some row = slice_get_read table.rows (length table.rows) cell.row row refl low (read_from table.rows c.as_slice.result.now cell.row row c.as_slice.ensures c.index-as_slice-cell.is) in
    let added : c.push_pins.new.readers.items ≡ done ++ cell_readers table (number, get_or c.args.cells.now number cell) =
    c.in_ok-push_pins.ensures ∙ ap (λ (n : ℕ). done ++ map (Pin n) (range_with_len 0 c.reading_pins.result)) c.of.ensures ∙ ap (λ (n : ℕ). done ++ map (Pin number) (range_with_len 0 n)) c.reading_pins.ensures
    ∙ ap (λ (rs : List Reader). done ++ rs) (sym (pins_at table number cell row there)) ∙ ap (λ (x : FlatCell). done ++ cell_readers table (number, x)) c.index-cells-number.is in
    ap (λ (readers : List Reader). readers ++ flat_map (cell_readers table) (enumerate_from (number + 1) (drop (number + 1) c.args.cells.now))) added ∙ numbered_step (cell_readers table) c.args.cells.now number cell done _ c.loop-number-test.true c.loop-number.invariant
