-- A circuit that is known but for the nets at its readers.
use Rattle.std.specs.Prelude.{◌≡◌, ℕ, ◌<◌, ◌≤◌, ◌^◌, List, [], map, length, slice_get, Some, unwrap_or}
use Rattle.std.specs.Option.{option_map}
use Rattle.std.specs.List.{All}
use Rattle.rsfq_ids.specs.declared.circuit.Pin.{Pin}
use Rattle.rsfq_ids.specs.declared.circuit.Reader.{Reader}
use Rattle.rsfq_ids.specs.WellFormed.{drivers_of, readers_of}
use Rattle.bind_forms.specs.declared.bound.Bound.{Bound}
use Rattle.flat_places.specs.Hierarchy.{bit_count}
use Rattle.flat_places.specs.Sizes.{IsWithinLimits}
use Rattle.flat_places.specs.Places.{places_of}
use Rattle.flat_places.specs.Names.{place_name}
use Rattle.flat_places.specs.Refusal.{HasNoDriver}
use Rattle.flat_places.specs.Whole.{whole_piece, IsShapeOf, starts_of, reads_of, ReadsNet}
use Rattle.flat_names.specs.Measured.{IsMeasured}
use Rattle.flattener.specs.declared.shape.Shape.{Shape}
use Rattle.flattener.specs.Ends.{bare}

-- A source within its limits, the shape of its circuit, and what is written out for it: all drivers and readers with the numbers of their places, and which place follows which.
pub record IsShaped (shape : Shape) : Type 0 where
  pub source : IsMeasured shape.source
  pub within : IsWithinLimits shape.source.bound.now
  pub has_shape : IsShapeOf shape.source.bound.now (bare shape.ports.now shape.cells.now)
  pub few_cells : length shape.cells.now ≤ 100000
  pub few_ports : length shape.ports.now ≤ 2000000
  pub nets : shape.nets.now ≡ drivers_of shape.source.cells.now (bare shape.ports.now shape.cells.now)
  pub readers : shape.readers.now ≡ readers_of shape.source.cells.now (bare shape.ports.now shape.cells.now)
  pub links : shape.links.now ≡ (whole_piece shape.source.cells.now shape.source.bound.now).links
  pub starts : shape.starts.now ≡ starts_of shape.ports.now (whole_piece shape.source.cells.now shape.source.bound.now)
  pub reads : shape.reads.now ≡ reads_of shape.ports.now (whole_piece shape.source.cells.now shape.source.bound.now)
  pub few_starts : length shape.starts.now < 2 ^ 32
  pub same_reads : length shape.reads.now ≡ length shape.readers.now
  pub places : shape.places ≡ bit_count shape.source.bound.now 64 shape.source.bound.now.top

-- the printed name of the place with a number
abbrev pub numbered_name : Bound → ℕ → List ℕ
numbered_name bound number = unwrap_or (option_map (place_name bound) (slice_get (places_of bound) number)) []

-- nothing drives what the reader of this number reads
abbrev pub NoDriverAt : Shape → ℕ → Type 0
NoDriverAt shape pin = (by : Reader) → slice_get shape.readers.now pin ≡ Some by → HasNoDriver shape.source.cells.now shape.source.bound.now by

-- all readers in the order of pins, each with the net of a driver of what it reads
pub record HasPins (shape : Shape) (pins : List Pin) : Type 0 where
  pub listed : map (λ pin. pin.reader) pins ≡ shape.readers.now
  pub read : All (λ pin. ReadsNet shape.source.cells.now shape.source.bound.now shape.nets.now pin.reader pin.net) pins
