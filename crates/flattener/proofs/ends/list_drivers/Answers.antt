use Rattle.std.proofs.Common.{◌≡◌, ◌∙◌, ◌+◌, ◌<◌, ◌++◌, ℕ, List, map, drop, length, get_or, Some, refl, sym, ap, subst, arith, length-append}
use Rattle.std.specs.Prelude.{slice_get}
use Rattle.std.specs.List.{flat_map, enumerate_from, range_with_len}
use Rattle.std.proofs.lemmas.List.FromFn.{length-map-range_with_len}
use Rattle.std.proofs.lemmas.Option.{slice_get_read}
use Rattle.rsfq_ids.specs.declared.circuit.Driver.{Driver}
use Rattle.rsfq_ids.specs.declared.circuit.Driver.TheVariants.{Out}
use Rattle.rsfq_ids.specs.declared.circuit.FlatCell.{FlatCell}
use Rattle.rsfq_ids.specs.WellFormed.{IsRow}
use Rattle.flat_names.proofs.Lists.{read_from}
use Rattle.flattener.specs.Ends.{input_drivers, cell_drivers}
use Rattle.flattener.proofs.Lists.{numbered_step}
use Rattle.flattener.proofs.Listing.{few_inputs, few_outputs, outputs_at}
use Rattle.flattener.proofs.ends.list_drivers.Goals as goal
use Rattle.flat_places.proofs.Joined.{all_got}

pub loop-number-init : goal.loop-number-init
loop-number-init c =
    let inputs : c.push_inputs.new.nets ≡ input_drivers c.args.ports.now = c.in_ok-push_inputs.ensures ∙ ap (λ (nets : List Driver). nets ++ input_drivers c.args.ports.now) c.new-nets.ensures in
    record {
      list = ap (λ (nets : List Driver). nets ++ flat_map (cell_drivers c.args.table.now) (enumerate_from 0 c.args.cells.now)) inputs;
      room = (let made = ap length inputs in let few = few_inputs 0 c.args.ports.now in omega (arith, made, few));
    }

pub loop-number-preserved : goal.loop-number-preserved
loop-number-preserved c =
    let table = c.args.table.now in
    let number = c.loop-number.number in
    let cell = c.index-cells-number.result in
    let row = c.index-as_slice-cell.result in
    let done = c.loop-number.nets in
    let low : cell.row < length table.rows = subst (λ (x : FlatCell). x.row < length table.rows) (sym c.index-cells-number.is) (c.requires.rows number cell c.loop-number-test.true) in
    let there : slice_get table.rows cell.row ≡ Some row = slice_get_read table.rows (length table.rows) cell.row row refl low (read_from table.rows c.as_slice.result.now cell.row row c.as_slice.ensures c.index-as_slice-cell.is) in
    let outputs : c.push_outputs.new.nets ≡ done ++ map (Out number) (range_with_len 0 (length row.outputs)) =
    c.in_ok-push_outputs.ensures ∙ ap (λ (n : ℕ). done ++ map (Out n) (range_with_len 0 c.len.result)) c.of.ensures ∙ ap (λ (n : ℕ). done ++ map (Out number) (range_with_len 0 n)) c.len.ensures in
    let added : c.push_outputs.new.nets ≡ done ++ cell_drivers table (number, get_or c.args.cells.now number cell) =
    outputs ∙ ap (λ (ds : List Driver). done ++ ds) (sym (outputs_at table number cell row there)) ∙ ap (λ (x : FlatCell). done ++ cell_drivers table (number, x)) c.index-cells-number.is in
    record {
      list = ap (λ (nets : List Driver). nets ++ flat_map (cell_drivers table) (enumerate_from (number + 1) (drop (number + 1) c.args.cells.now))) added ∙ numbered_step (cell_drivers table) c.args.cells.now number cell done _ c.loop-number-test.true c.loop-number.invariant.list;
      room = (
          let made = ap length outputs in
          let both = length-append done (map (Out number) (range_with_len 0 (length row.outputs))) in
          let new = length-map-range_with_len (Out number) 0 (length row.outputs) in
          let few = few_outputs row (all_got IsRow table.rows cell.row row c.requires.table.rows there) in
          let before = c.loop-number.invariant.room in
          omega (arith, made, both, new, few, before)
          );
    }
