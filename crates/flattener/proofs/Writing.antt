-- A whole source is written out.
use Rattle.std.proofs.Common.{◌≡◌, ◌∙◌, ◌+◌, ℕ, List, map, length, Some, None, sym, ap, arith}
use Rattle.std.specs.Prelude.{slice_get}
use Rattle.std.proofs.lemmas.List.{length-map}
use Rattle.rsfq_ids.specs.declared.table.CellTable.{CellTable}
use Rattle.rsfq_ids.specs.declared.circuit.FlatCell.{FlatCell}
use Rattle.bind_forms.specs.declared.bound.BoundWire.{BoundWire}
use Rattle.bind_forms.specs.declared.bound.BoundModule.{BoundModule}
use Rattle.bind_forms.specs.declared.bound.Bound.{Bound}
use Rattle.flat_places.specs.Hierarchy.{wires_of, bits_of, cell_count, bit_count}
use Rattle.flat_places.specs.Sizes.{IsWithinLimits}
use Rattle.flat_places.specs.Places.{CellAt, cells_in, cells_of}
use Rattle.flat_places.specs.Names.{cell_name}
use Rattle.flat_places.specs.Bits.{offsets_from}
use Rattle.flat_places.specs.Pieces.{Piece, empty, joined, only_places, inside_piece}
use Rattle.flat_places.specs.Whole.{whole_piece}
use Rattle.flattener.specs.Walk.{HasRoom, AreOffsets}
use Rattle.flattener.proofs.Joining.{empty_joined}
use Rattle.flat_places.proofs.Modules.{wires_at}

-- the top's own wires were written, and what is inside it goes behind them
pub whole_goes : (table : CellTable) (bound : Bound) (top : BoundModule) (start placed : Piece) (wires : List BoundWire) (offsets : List ℕ) → slice_get bound.modules bound.top ≡ Some top → wires ≡ top.wires → start ≡ empty → placed ≡ joined start (only_places (bits_of wires)) →
    offsets ≡ offsets_from start.places wires → joined placed (inside_piece table bound 64 bound.top None offsets placed.places) ≡ whole_piece table bound
whole_goes table bound top start placed wires offsets there same none e begins =
    let all : wires ≡ wires_of bound bound.top = same ∙ sym (wires_at bound bound.top top there) in
    let zero : start.places ≡ 0 = ap (λ (p : Piece). p.places) none in
    let is : placed ≡ only_places (bits_of (wires_of bound bound.top)) =
    e ∙ ap (λ (p : Piece). joined p (only_places (bits_of wires))) none ∙ empty_joined (only_places (bits_of wires)) ∙ ap (λ (ws : List BoundWire). only_places (bits_of ws)) all in
    let behind : placed.places ≡ 0 + bits_of (wires_of bound bound.top) = (let p = ap (λ (p : Piece). p.places) is in omega (arith, p)) in
    let from : offsets ≡ offsets_from 0 (wires_of bound bound.top) = begins ∙ ap (λ (n : ℕ). offsets_from n wires) zero ∙ ap (offsets_from 0) all in
    ap (λ (os : List ℕ). joined placed (inside_piece table bound 64 bound.top None os placed.places)) from
    ∙ ap (λ (n : ℕ). joined placed (inside_piece table bound 64 bound.top None (offsets_from 0 (wires_of bound bound.top)) n)) behind
    ∙ ap (λ (p : Piece). joined p (inside_piece table bound 64 bound.top None (offsets_from 0 (wires_of bound bound.top)) (0 + bits_of (wires_of bound bound.top)))) is

pub whole_room : (table : CellTable) (bound : Bound) → IsWithinLimits bound → (whole_piece table bound).places ≡ bit_count bound 64 bound.top → (whole_piece table bound).cells ≡ map (λ (c : CellAt). let f : FlatCell = record { path = cell_name bound c; row = c.row } in f) (cells_of bound) →
    length (cells_in bound 64 bound.top) ≡ cell_count bound 64 bound.top → HasRoom (whole_piece table bound)
whole_room table bound within places cells count =
    let many = ap length cells in
    let same : length (map (λ (c : CellAt). let f : FlatCell = record { path = cell_name bound c; row = c.row } in f) (cells_of bound)) ≡ length (cells_of bound) = simp length-map in
    let few = within.cells in
    let bits = within.wires in
    (omega (arith, places, bits), omega (arith, many, same, count, few))

pub top_offsets : (table : CellTable) (bound : Bound) (top : BoundModule) (start : Piece) (wires : List BoundWire) (offsets : List ℕ) → IsWithinLimits bound → (whole_piece table bound).places ≡ bit_count bound 64 bound.top → slice_get bound.modules bound.top ≡ Some top → wires ≡ top.wires → start ≡ empty →
    offsets ≡ offsets_from start.places wires → AreOffsets offsets (wires_of bound bound.top)
top_offsets table bound top start wires offsets within places there same none begins =
    let all : wires ≡ wires_of bound bound.top = same ∙ sym (wires_at bound bound.top top there) in
    let zero : start.places ≡ 0 = ap (λ (p : Piece). p.places) none in
    let few = within.wires in
    record { base = start.places; listed = begins ∙ ap (offsets_from start.places) all; small = omega (arith, zero, places, few) }
