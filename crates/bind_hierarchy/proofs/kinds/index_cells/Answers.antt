use Rattle.std.proofs.Common.{◌≡◌, ◌∙◌, ◌<◌, ℕ, List, [], map, length, sym, ap, arith, subst, get_or}
use Rattle.rsfq_ids.specs.declared.table.CellRow.{CellRow}
use Rattle.name_table.specs.Places.{place_of}
use Rattle.std.proofs.lemmas.List.{length-map}
use Rattle.bind_hierarchy.specs.Names.{cell_names}
use Rattle.bind_hierarchy.proofs.Firsts.{cell_name_at, seen_next}
use Rattle.bind_hierarchy.proofs.kinds.index_cells.Goals as goal

pub loop-place-preserved : goal.loop-place-preserved
loop-place-preserved c =
    let rows = c.args.cells.now.rows in
    let near : c.loop-place.place < length rows = subst (λ (l : List CellRow). c.loop-place.place < length l) c.as_slice-row-items.ensures c.loop-place-test.true in
    let item_is : c.row-item.result ≡ get_or rows c.loop-place.place c.row-item.result = subst (λ (l : List CellRow). c.row-item.result ≡ get_or l c.loop-place.place c.row-item.result) c.as_slice-row-items.ensures c.row-item.is in
    let name_is : get_or (cell_names c.args.cells.now) c.loop-place.place [] ≡ c.as_str.result.now = cell_name_at c.args.cells.now c.loop-place.place c.row-item.result near item_is ∙ sym c.as_str.ensures in
    seen_next (cell_names c.args.cells.now) c.loop-place.place c.as_str.result.now (place_of c.loop-place.names) (place_of c.see.new.self)
    (omega (arith, near, length-map rows (λ m. m.name))) name_is c.loop-place.invariant c.in_ok-see.ensures.seen
