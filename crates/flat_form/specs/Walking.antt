-- Going along the wires from the inputs: which cells were seen, and in which order. For the clauses of private functions.
use Rattle.std.specs.Prelude.{◌≡◌, ℕ, ◌+◌, ◌-◌, ◌<◌, ◌≤◌, Bool, true, false, cond, List, [], ◌∷◌, ◌++◌, length, take, slice_get, slice_index_or, slice_set, Option, Some, None, ⊤}
use Rattle.std.specs.List.{Contains}
use Rattle.rsfq_ids.specs.declared.circuit.Flat.{Flat}
use Rattle.rsfq_ids.specs.declared.circuit.Driver.TheVariants as driver
use Rattle.rsfq_ids.specs.declared.circuit.Reader.{Reader}
use Rattle.rsfq_ids.specs.declared.circuit.Reader.TheVariants as reader
use Rattle.rsfq_ids.specs.Circuit.{IsDrivenBy, IsPin, Reads}
use Rattle.rsfq_ids.specs.Offence.{ReadsFrom}

-- the list has for each net its reader among the first pins, of which no two read one net
pub record AreReaders (flat : Flat) (count : ℕ) (readers : List (Option Reader)) : Type 0 where
  pub nets : length readers ≡ length flat.nets
  pub found : (net : ℕ) (by : Reader) → slice_index_or readers net None ≡ Some by → (pin : ℕ) × (pin < count) × IsPin flat pin by net
  pub kept : (pin net : ℕ) (by : Reader) → pin < count → IsPin flat pin by net → slice_index_or readers net None ≡ Some by
  pub one : (net first second : ℕ) (by other : Reader) → first < count → second < count → IsPin flat first by net → IsPin flat second other net → first ≡ second

-- the nets of inputs come first, and then that of each cell
abbrev pub first_output : Flat → ℕ
first_output flat = length flat.nets - length flat.cells

-- a reader that is a cell is one of so many
abbrev pub IsMarked : ℕ → Option Reader → Type 0
IsMarked count None = ⊤
IsMarked count (Some (reader.Port port)) = ⊤
IsMarked count (Some (reader.Pin cell at)) = cell < count

-- which cells were seen after that reader, if it is a cell that was not
abbrev pub reach_seen : Option Reader → List Bool → List Bool
reach_seen None seen = seen
reach_seen (Some (reader.Port port)) seen = seen
reach_seen (Some (reader.Pin cell at)) seen = cond (slice_index_or seen cell true) seen (slice_set seen cell true)

-- and their order
abbrev pub reach_order : Option Reader → List Bool → List ℕ → List ℕ
reach_order None seen order = order
reach_order (Some (reader.Port port)) seen order = order
reach_order (Some (reader.Pin cell at)) seen order = cond (slice_index_or seen cell true) order (order ++ cell ∷ [])

-- how many cells were not seen
abbrev pub unseen : List Bool → ℕ
unseen [] = 0
unseen (mark ∷ marks) = cond mark 0 1 + unseen marks

-- the seen cells stand in the order, each after the cells that it reads from
pub record IsWalk (flat : Flat) (seen : List Bool) (order : List ℕ) : Type 0 where
  pub flags : length seen ≡ length flat.cells
  pub count : length order + unseen seen ≡ length flat.cells
  pub seen_in : (cell : ℕ) → slice_index_or seen cell false ≡ true → Contains order cell
  pub in_seen : (cell : ℕ) → Contains order cell → slice_index_or seen cell false ≡ true
  pub after : (place cell before : ℕ) → slice_get order place ≡ Some cell → ReadsFrom flat cell before → Contains (take place order) before

-- each cell that reads the net was seen
abbrev pub IsServed : Flat → List Bool → ℕ → Type 0
IsServed flat seen net = (cell at : ℕ) → Reads flat (reader.Pin cell at) net → slice_index_or seen cell false ≡ true

-- each cell that reads one of the first nets was seen
abbrev pub AreInputsServed : Flat → List Bool → ℕ → Type 0
AreInputsServed flat seen count = (net : ℕ) → net < count → IsServed flat seen net

-- each cell that reads from one of the first cells of the order was seen
abbrev pub AreCellsServed : Flat → List Bool → List ℕ → ℕ → Type 0
AreCellsServed flat seen order count = (place before cell : ℕ) → place < count → slice_get order place ≡ Some before → ReadsFrom flat cell before → slice_index_or seen cell false ≡ true

-- a net that no cell drives but one of the order
abbrev pub Comes : Flat → List ℕ → ℕ → Type 0
Comes flat order net = (before out : ℕ) → IsDrivenBy flat net (driver.Out before out) → Contains order before

-- what was seen stays so
abbrev pub Grows : List Bool → List Bool → Type 0
Grows seen more = (cell : ℕ) → slice_index_or seen cell false ≡ true → slice_index_or more cell false ≡ true

-- an order that begins as another does
pub record Extends (order more : List ℕ) : Type 0 where
  pub longer : length order ≤ length more
  pub same : (place cell : ℕ) → place < length order → slice_get more place ≡ Some cell → slice_get order place ≡ Some cell

-- the walk is at its end: nothing is left to go on to
pub record IsDone (flat : Flat) (seen : List Bool) (order : List ℕ) : Type 0 where
  pub walk : IsWalk flat seen order
  pub inputs : AreInputsServed flat seen (first_output flat)
  pub cells : AreCellsServed flat seen order (length order)
