-- The pins of a well-formed circuit stand in the order of their readers.
use Rattle.std.proofs.Common.{◌≡◌, ℕ, ◌+◌, ◌<◌, List, [], ◌∷◌, ◌++◌, refl, sym, subst, arith, inl, inr}
use Rattle.std.proofs.lemmas.Option.{slice_get_within}
use Rattle.std.specs.List.{flat_map, enumerate_from}
use Rattle.rsfq_ids.specs.declared.circuit.FlatCell.{FlatCell}
use Rattle.rsfq_ids.specs.declared.circuit.PortBit.{PortBit}
use Rattle.rsfq_ids.specs.declared.circuit.Flat.{Flat}
use Rattle.rsfq_ids.specs.declared.circuit.Reader.{Reader}
use Rattle.rsfq_ids.specs.declared.circuit.Reader.TheVariants as reader
use Rattle.rsfq_ids.specs.declared.table.CellTable.{CellTable}
use Rattle.rsfq_ids.specs.WellFormed.{IsFlat, readers_of, reading_pins}
use Rattle.net_graph.specs.Graph.{StandsBefore, AreInOrder}
use Rattle.net_graph.proofs.Chunks.{At, at_split, chunk_in, range_in}
use Rattle.net_graph.proofs.Circuits.{cell_readers, port_readers, none_or_one, reader_at}

module _ {Y : Type 0} (L : Y → Y → Type 0) where
  abbrev IsSorted : List Y → Type 0
  IsSorted xs = (i j : ℕ) (x y : Y) → i < j → At xs i x → At xs j y → L x y

  sorted_append : (xs ys : List Y) → IsSorted xs → IsSorted ys → ((i j : ℕ) (x y : Y) → At xs i x → At ys j y → L x y) → IsSorted (xs ++ ys)
  sorted_append xs ys one two across i j x y l at at' = elim (at_split xs ys i x at) [
    | inl left ↦ elim (at_split xs ys j y at') [
      | inl left' ↦ one i j x y l left left'
      | inr (m, right, sum) ↦ across i m x y left right
    ]
    | inr (m, right, sum) ↦ elim (at_split xs ys j y at') [
      | inl left ↦ (let within = slice_get_within xs j y left in absurd (omega arith))
      | inr (m', right', sum') ↦ two m m' x y (omega arith) right right'
    ]
  ]

  module _ {A : Type 0} (g : ℕ × A → List Y) (across : (n m : ℕ) (a b : A) (i j : ℕ) (x y : Y) → n < m → At (g (n, a)) i x → At (g (m, b)) j y → L x y) (each : (n : ℕ) (a : A) → IsSorted (g (n, a))) where
    chunks_sorted : (start : ℕ) (xs : List A) → IsSorted (flat_map g (enumerate_from start xs))
    chunks_sorted start [] = λ i j x y l one two. cc
    chunks_sorted start (a ∷ xs) = sorted_append (g (start, a)) (flat_map g (enumerate_from (start + 1) xs)) (each start a) (chunks_sorted (start + 1) xs)
        (λ i j x y at at'.
        let rest = chunk_in g (start + 1) xs j y at' in
        across start (start + 1 + rest.0) a rest.1 i rest.3 x y (omega arith) at rest.4)

before_by : (a b r s : Reader) → r ≡ a → s ≡ b → StandsBefore a b → StandsBefore r s
before_by a b r s e f h = subst (λ (x : Reader). StandsBefore x s) (sym e) (subst (λ (y : Reader). StandsBefore a y) (sym f) h)

module _ (table : CellTable) (flat : Flat) where
  abbrev in_cells : ℕ × FlatCell → List Reader
  in_cells = cell_readers table flat

  abbrev in_ports : ℕ × PortBit → List Reader
  in_ports = port_readers table flat

  readers_sorted : IsSorted StandsBefore (readers_of table flat)
  readers_sorted = sorted_append StandsBefore (flat_map in_cells (enumerate_from 0 flat.cells)) (flat_map in_ports (enumerate_from 0 flat.ports))
      (chunks_sorted StandsBefore in_cells
      (λ n m a b i j x y l at at'. before_by (reader.Pin n (0 + i)) (reader.Pin m (0 + j)) x y (range_in (reader.Pin n) 0 (reading_pins table a) i x at).1 (range_in (reader.Pin m) 0 (reading_pins table b) j y at').1 (inl l))
      (λ n a i j x y l at at'. before_by (reader.Pin n (0 + i)) (reader.Pin n (0 + j)) x y (range_in (reader.Pin n) 0 (reading_pins table a) i x at).1 (range_in (reader.Pin n) 0 (reading_pins table a) j y at').1 (inr (refl, omega arith))) 0 flat.cells)
      (chunks_sorted StandsBefore in_ports
      (λ n m a b i j x y l at at'. before_by (reader.Port n) (reader.Port m) x y (none_or_one a.output (reader.Port n) i x at).1 (none_or_one b.output (reader.Port m) j y at').1 l)
      (λ n a i j x y l at at'. (let one = (none_or_one a.output (reader.Port n) i x at).2 in let two = (none_or_one a.output (reader.Port n) j y at').2 in absurd (omega arith))) 0 flat.ports)
      (λ i j x y at at'.
      let one = chunk_in in_cells 0 flat.cells i x at in
      let two = chunk_in in_ports 0 flat.ports j y at' in
      before_by (reader.Pin (0 + one.0) (0 + one.3)) (reader.Port (0 + two.0)) x y (range_in (reader.Pin (0 + one.0)) 0 (reading_pins table one.1) one.3 x one.4).1 (none_or_one two.1.output (reader.Port (0 + two.0)) two.3 y two.4).1 tt)

  pub in_order : IsFlat table flat → AreInOrder flat
  in_order fit first second one two l at at' = readers_sorted first second one.reader two.reader l (reader_at table flat fit first one at) (reader_at table flat fit second two at')
