-- What drives which place of a bound source.
use Rattle.std.specs.Prelude.{◌≡◌, ℕ, ◌+◌, ◌<◌, Bool, true, false, List, [], ◌∷◌, ◌++◌, length, slice_get, Some, option_to_list, unwrap_or}
use Rattle.std.specs.Option.{option_map, option_and_then}
use Rattle.rsfq_ids.specs.declared.table.CellTable.{CellTable}
use Rattle.rsfq_ids.specs.declared.circuit.Driver.{Driver}
use Rattle.rsfq_ids.specs.declared.circuit.Driver.TheVariants as driver
use Rattle.rsfq_ids.specs.declared.circuit.Reader.{Reader}
use Rattle.rsfq_ids.specs.declared.circuit.Reader.TheVariants as reader
use Rattle.bind_forms.specs.declared.bound.BoundKind.TheVariants.{Module}
use Rattle.bind_forms.specs.declared.bound.BoundInstance.{BoundInstance}
use Rattle.bind_forms.specs.declared.bound.BoundAssign.{BoundAssign}
use Rattle.bind_forms.specs.declared.bound.BoundLink.{BoundLink}
use Rattle.bind_forms.specs.declared.bound.BoundPort.{BoundPort}
use Rattle.bind_forms.specs.declared.bound.BoundWire.{BoundWire}
use Rattle.bind_forms.specs.declared.bound.BoundModule.{BoundModule}
use Rattle.bind_forms.specs.Bits.{width_of}
use Rattle.bind_forms.specs.declared.bound.Bound.{Bound}
use Rattle.flat_places.specs.Hierarchy.{leads_to}
use Rattle.flat_places.specs.Places.{Place, CellAt, cells_of, part_bits, port_places}

-- the module that a path of instances leads to from another
abbrev pub IsModuleAt : Bound → ℕ → List ℕ → BoundModule → Type 0
IsModuleAt bound root path owner = (at : ℕ) × (leads_to bound root path ≡ Some at) × (slice_get bound.modules at ≡ Some owner)

-- an assign of the module sets one wire bit from another
pub record Assigns (owner : BoundModule) (from to : ℕ × ℕ) : Type 0 where
  pub at : ℕ
  pub assign : BoundAssign
  pub listed : slice_get owner.assigns at ≡ Some assign
  pub bit : ℕ
  pub from_bit : slice_get (part_bits assign.from) bit ≡ Some from
  pub to_bit : slice_get (part_bits assign.to) bit ≡ Some to

-- a link of an instance joins a bit of one of its ports with a wire bit outside
pub record Links (declared : BoundInstance) (port bit : ℕ) (outside : ℕ × ℕ) : Type 0 where
  pub at : ℕ
  pub link : BoundLink
  pub listed : slice_get declared.links at ≡ Some link
  pub same_port : link.port ≡ port
  pub joined : slice_get (part_bits link.parts) bit ≡ Some outside

-- an instance of a module, in the module that a path leads to, with a link that joins a bit of its port with a wire bit outside
pub record LinksModule (bound : Bound) (root : ℕ) (path : List ℕ) (instance port bit : ℕ) (output : Bool) (outside : ℕ × ℕ) : Type 0 where
  pub owner : BoundModule
  pub is_at : IsModuleAt bound root path owner
  pub declared : BoundInstance
  pub listed : slice_get owner.instances instance ≡ Some declared
  pub inner : ℕ
  pub kind : declared.kind ≡ Module inner
  pub inner_module : BoundModule
  pub there : slice_get bound.modules inner ≡ Some inner_module
  pub inner_port : BoundPort
  pub port_listed : slice_get inner_module.ports port ≡ Some inner_port
  pub direction : inner_port.output ≡ output
  pub links : Links declared port bit outside

-- One place follows another, by their paths from a module: an assign sets it from the other; a link leads the other into an instance's input, which it is a bit of; or a link leads an instance's output, which the other is a bit of, out to it.
pub data Follows (bound : Bound) (root : ℕ) : Place → Place → Type 0 where
  assign : (path : List ℕ) (owner : BoundModule) (from to : ℕ × ℕ) → IsModuleAt bound root path owner → Assigns owner from to →
      Follows bound root (record { path = path; wire = from.0; bit = from.1 }) (record { path = path; wire = to.0; bit = to.1 })
  into : (path : List ℕ) (instance port bit : ℕ) (outside : ℕ × ℕ) → LinksModule bound root path instance port bit false outside →
      Follows bound root (record { path = path; wire = outside.0; bit = outside.1 }) (record { path = path ++ instance ∷ []; wire = port; bit = bit })
  out : (path : List ℕ) (instance port bit : ℕ) (outside : ℕ × ℕ) → LinksModule bound root path instance port bit true outside →
      Follows bound root (record { path = path ++ instance ∷ []; wire = port; bit = bit }) (record { path = path; wire = outside.0; bit = outside.1 })

-- a pin of a cell, among its inputs, its clock and its outputs, is linked to a place
pub record IsPinAt (bound : Bound) (cell port : ℕ) (place : Place) : Type 0 where
  pub found : CellAt
  pub numbered : slice_get (cells_of bound) cell ≡ Some found
  pub instance : ℕ
  pub last : found.path ≡ place.path ++ instance ∷ []
  pub owner : BoundModule
  pub is_at : IsModuleAt bound bound.top place.path owner
  pub declared : BoundInstance
  pub listed : slice_get owner.instances instance ≡ Some declared
  pub links : Links declared port 0 (place.wire, place.bit)

-- a bit of a port of the top has this place
pub record IsPortAt (bound : Bound) (port : ℕ) (output : Bool) (place : Place) : Type 0 where
  pub top : BoundModule
  pub there : slice_get bound.modules bound.top ≡ Some top
  pub numbered : slice_get (port_places top.ports) port ≡ Some place
  pub declared : BoundPort
  pub listed : slice_get top.ports place.wire ≡ Some declared
  pub direction : declared.output ≡ output

-- how many pins of a cell come before its outputs: its inputs and its clock
abbrev pub reading_pins_of : CellTable → Bound → ℕ → ℕ
reading_pins_of table bound cell =
    unwrap_or (option_map (λ row. length row.inputs + length (option_to_list row.clock)) (option_and_then (λ found. slice_get table.rows found.row) (slice_get (cells_of bound) cell))) 0

-- where a driver starts: an input bit of the top at its own place, a cell's output at the place that it is linked to
abbrev pub StartsAt : CellTable → Bound → Driver → Place → Type 0
StartsAt table bound (driver.Port port) place = IsPortAt bound port false place
StartsAt table bound (driver.Out cell output) place = IsPinAt bound cell (reading_pins_of table bound cell + output) place

-- Drives: the least relation such that an input bit of the top drives its own place, a cell's output the place that it is linked to, and what drives a place drives each place that follows it.
pub data Drives (table : CellTable) (bound : Bound) (from : Driver) : Place → Type 0 where
  starts : (place : Place) → StartsAt table bound from place → Drives table bound from place
  follows : (before after : Place) → Drives table bound from before → Follows bound bound.top before after → Drives table bound from after

-- where a reader reads: a pin of a cell at the place that it is linked to, an output bit of the top at its own place
abbrev pub ReadsAt : Bound → Reader → Place → Type 0
ReadsAt bound (reader.Pin cell pin) place = IsPinAt bound cell pin place
ReadsAt bound (reader.Port port) place = IsPortAt bound port true place

-- A place that there is, by its path from a module: the path leads to a module, which has the wire, which has the bit.
pub record IsPlaceIn (bound : Bound) (root : ℕ) (place : Place) : Type 0 where
  pub owner : BoundModule
  pub is_at : IsModuleAt bound root place.path owner
  pub declared : BoundWire
  pub listed : slice_get owner.wires place.wire ≡ Some declared
  pub within : place.bit < width_of declared.range
