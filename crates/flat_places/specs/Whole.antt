-- What is written out for a whole design, with the top's own wires first, and the numbers of the places at both ends of its nets.
use Rattle.std.specs.Prelude.{◌≡◌, ◌≢◌, ℕ, cond, List, [], ◌∷◌, ◌++◌, map, slice_get, Option, Some, None, unwrap_or}
use Rattle.std.specs.Option.{option_map}
use Rattle.std.specs.List.{AllZip, flat_map, enumerate_from}
use Rattle.rsfq_ids.specs.declared.table.CellTable.{CellTable}
use Rattle.rsfq_ids.specs.declared.circuit.Flat.{Flat}
use Rattle.rsfq_ids.specs.declared.circuit.PortBit.{PortBit}
use Rattle.rsfq_ids.specs.declared.circuit.Driver.{Driver}
use Rattle.rsfq_ids.specs.declared.circuit.Reader.{Reader}
use Rattle.rsfq_ids.specs.WellFormed.{drivers_of, readers_of}
use Rattle.bind_forms.specs.declared.bound.Bound.{Bound}
use Rattle.flat_places.specs.Hierarchy.{wires_of, bits_of}
use Rattle.flat_places.specs.Circuit.{port_bits, ReadsFromDriver}
use Rattle.flat_places.specs.Drives.{StartsAt, ReadsAt}
use Rattle.flat_places.specs.Refusal.{IsFirstTwo}
use Rattle.flat_places.specs.Names.{cell_name}
use Rattle.flat_places.specs.Numbers.{number_in}
use Rattle.flat_places.specs.Places.{Place, cells_of, places_of}
use Rattle.flat_places.specs.Numbered.{inside_from}
use Rattle.flat_places.specs.Pieces.{Piece, joined, only_places}

-- the number of a place among all places
abbrev pub number_of : Bound → Place → ℕ
number_of bound place = number_in bound 64 bound.top place.path place.wire place.bit

-- the top's own wires, and what is inside it
abbrev pub whole_piece : CellTable → Bound → Piece
whole_piece table bound = joined (only_places (bits_of (wires_of bound bound.top))) (inside_from table bound 64 bound.top None 0)

-- a circuit has the port bits of the top and all cells
pub record IsShapeOf (bound : Bound) (flat : Flat) : Type 0 where
  pub ports : flat.ports ≡ unwrap_or (option_map (λ top. port_bits top.ports) (slice_get bound.modules bound.top)) []
  pub cells : flat.cells ≡ map (λ cell. record { path = cell_name bound cell; row = cell.row }) (cells_of bound)

-- the numbers of the input bits among the port bits, and those of the output bits
abbrev pub inputs_in : List PortBit → List ℕ
inputs_in ports = flat_map (λ (n, port). cond port.output [] (n ∷ [])) (enumerate_from 0 ports)

abbrev pub outputs_in : List PortBit → List ℕ
outputs_in ports = flat_map (λ (n, port). cond port.output (n ∷ []) []) (enumerate_from 0 ports)

-- the numbers of the places at the drivers: the input bits at their own numbers, and then what is written out for the outputs of the cells
abbrev pub starts_of : List PortBit → Piece → List (Option ℕ)
starts_of ports piece = map Some (inputs_in ports) ++ piece.outputs

-- those at the readers: what is written out for the pins of the cells, and then the output bits at their own numbers
abbrev pub reads_of : List PortBit → Piece → List (Option ℕ)
reads_of ports piece = piece.reads ++ map Some (outputs_in ports)

-- the number of the place where something stands, or none where it stands at no place
pub record IsNumberAt (bound : Bound) (stands : Place → Type 0) (at : Option ℕ) : Type 0 where
  pub found : (number : ℕ) → at ≡ Some number → (place : Place) × stands place × (number ≡ number_of bound place)
  pub placed : (place : Place) → stands place → at ≡ Some (number_of bound place)

-- these are the numbers of the places of all drivers in the order of nets
abbrev pub AreStarts : CellTable → Bound → Flat → List (Option ℕ) → Type 0
AreStarts table bound flat starts = AllZip (λ driver at. IsNumberAt bound (StartsAt table bound driver) at) (drivers_of table flat) starts

-- these are the numbers of the places of all readers in the order of pins
abbrev pub AreReads : CellTable → Bound → Flat → List (Option ℕ) → Type 0
AreReads table bound flat reads = AllZip (λ reader at. IsNumberAt bound (ReadsAt bound reader) at) (readers_of table flat) reads

-- these are the numbers at which the places are listed
abbrev pub AreListed : Bound → List ℕ → List Place → Type 0
AreListed bound numbers places = AllZip (λ number place. slice_get (places_of bound) number ≡ Some place) numbers places

-- the first two drivers of a place by their nets, which are two, with the place that is listed at its number
pub record NumbersFirstTwo (table : CellTable) (bound : Bound) (nets : List Driver) (place first second : ℕ) : Type 0 where
  pub at : Place
  pub one : Driver
  pub other : Driver
  pub listed : slice_get (places_of bound) place ≡ Some at
  pub first_is : slice_get nets first ≡ Some one
  pub second_is : slice_get nets second ≡ Some other
  pub two : IsFirstTwo table bound nets at one other
  pub differ : one ≢ other

-- a reader reads from the driver of a net
pub record ReadsNet (table : CellTable) (bound : Bound) (nets : List Driver) (by : Reader) (net : ℕ) : Type 0 where
  pub from : Driver
  pub from_is : slice_get nets net ≡ Some from
  pub reads : ReadsFromDriver table bound from by
