-- Pieces behind one another.
use Rattle.std.proofs.Common.{◌≡◌, ◌∙◌, ℕ, List, Option, refl, ap, arith, append_assoc}
use Rattle.rsfq_ids.specs.declared.circuit.FlatCell.{FlatCell}
use Rattle.flat_aliases.specs.declared.link.Link.{Link}
use Rattle.flat_places.specs.Pieces.{Piece, empty, joined}

-- pieces of the same parts are the same
pub same_piece : (a b : Piece) → a.places ≡ b.places → a.links ≡ b.links → a.cells ≡ b.cells → a.reads ≡ b.reads → a.outputs ≡ b.outputs → a ≡ b
same_piece a b p l c r o =
    ap (λ (n : ℕ). let v : Piece = record { places = n; links = a.links; cells = a.cells; reads = a.reads; outputs = a.outputs } in v) p
    ∙ ap (λ (xs : List Link). let v : Piece = record { places = b.places; links = xs; cells = a.cells; reads = a.reads; outputs = a.outputs } in v) l
    ∙ ap (λ (xs : List FlatCell). let v : Piece = record { places = b.places; links = b.links; cells = xs; reads = a.reads; outputs = a.outputs } in v) c
    ∙ ap (λ (xs : List (Option ℕ)). let v : Piece = record { places = b.places; links = b.links; cells = b.cells; reads = xs; outputs = a.outputs } in v) r
    ∙ ap (λ (xs : List (Option ℕ)). let v : Piece = record { places = b.places; links = b.links; cells = b.cells; reads = b.reads; outputs = xs } in v) o

pub joined_assoc : (a b c : Piece) → joined (joined a b) c ≡ joined a (joined b c)
joined_assoc a b c = same_piece (joined (joined a b) c) (joined a (joined b c)) (omega arith) (append_assoc a.links b.links c.links) (append_assoc a.cells b.cells c.cells) (append_assoc a.reads b.reads c.reads) (append_assoc a.outputs b.outputs c.outputs)

pub empty_joined : (a : Piece) → joined empty a ≡ a
empty_joined a = same_piece (joined empty a) a (omega arith) refl refl refl refl
