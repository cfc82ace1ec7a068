-- When a bound source has no circuit, and which refusal that is.
use Rattle.std.specs.Prelude.{◌≡◌, ◌⊎◌, ℕ, List, [], map, slice_get, unwrap_or}
use Rattle.std.specs.Option.{option_map}
use Rattle.rsfq_ids.specs.declared.table.CellTable.{CellTable}
use Rattle.rsfq_ids.specs.declared.circuit.Flat.{Flat}
use Rattle.rsfq_ids.specs.declared.circuit.Driver.{Driver}
use Rattle.rsfq_ids.specs.declared.circuit.Reader.{Reader}
use Rattle.rsfq_ids.specs.WellFormed.{drivers_of, readers_of}
use Rattle.bind_forms.specs.declared.bound.Bound.{Bound}
use Rattle.flat_places.specs.declared.limits.SizeFault.TheVariants as limit
use Rattle.flat_places.specs.Sizes.{IsWithinLimits, PassesLimit}
use Rattle.flat_places.specs.Places.{Place, cells_of}
use Rattle.flat_places.specs.Circuit.{port_bits}
use Rattle.flat_places.specs.Names.{place_name, cell_name, driver_name, reader_name}
use Rattle.flat_places.specs.Refusal.{HasOneDriver, IsFirstTwo, IsRing, IsNamedRing, IsFirstUndriven}
use Rattle.flattener.specs.declared.fault.FlatFault.{FlatFault}
use Rattle.flattener.specs.declared.fault.FlatFault.TheVariants.{NestingLimit, CellLimit, WireLimit, TwoDrivers, AliasLoop, NoDriver, Memory}

-- the circuit's ports and cells alone
abbrev pub shape_of : Bound → Flat
shape_of bound = record {
  ports = unwrap_or (option_map (λ top. port_bits top.ports) (slice_get bound.modules bound.top)) [];
  cells = map (λ cell. record { path = cell_name bound cell; row = cell.row }) (cells_of bound);
  nets = [];
  pins = [];
}

-- all drivers in the order of nets, and all readers in the order of pins
abbrev pub drivers_in : CellTable → Bound → List Driver
drivers_in table bound = drivers_of table (shape_of bound)

abbrev pub readers_in : CellTable → Bound → List Reader
readers_in table bound = readers_of table (shape_of bound)

-- The circuit is within its limits, no place has two drivers, and no places follow each other in a ring.
pub record IsSound (table : CellTable) (bound : Bound) : Type 0 where
  pub limits : IsWithinLimits bound
  pub once : (place : Place) → HasOneDriver table bound place
  pub open_ended : (ring : List Place) → ¬ IsRing bound ring

-- the printed names of the first place that two drivers drive and of its first two drivers
pub record NamesTwo (table : CellTable) (bound : Bound) (wire first second : List ℕ) : Type 0 where
  pub place : Place
  pub one : Driver
  pub other : Driver
  pub is_first : IsFirstTwo table bound (drivers_in table bound) place one other
  pub wire_name : wire ≡ place_name bound place
  pub first_name : first ≡ driver_name table bound one
  pub second_name : second ≡ driver_name table bound other

-- the printed names of the places of a ring, from its first place on
pub record NamesRing (bound : Bound) (wires : List (List ℕ)) : Type 0 where
  pub ring : List Place
  pub is_named : IsNamedRing bound ring
  pub names : wires ≡ map (place_name bound) ring

-- the printed name of the first reader that nothing drives
pub record NamesUndriven (table : CellTable) (bound : Bound) (pin : List ℕ) : Type 0 where
  pub reader : Reader
  pub is_first : IsFirstUndriven table bound (readers_in table bound) reader
  pub name : pin ≡ reader_name table bound reader

-- Why there is no circuit: a limit that is passed; else the first place with two drivers; else a ring; else the first reader that nothing drives. Want of memory is free.
abbrev pub IsFlatFault : CellTable → Bound → FlatFault → Type 0
IsFlatFault table bound (NestingLimit count) = PassesLimit bound (limit.Nesting count)
IsFlatFault table bound (CellLimit count) = PassesLimit bound (limit.Cells count)
IsFlatFault table bound (WireLimit count) = PassesLimit bound (limit.Wires count)
IsFlatFault table bound (TwoDrivers wire first second) = IsWithinLimits bound × NamesTwo table bound wire first second
IsFlatFault table bound (AliasLoop wires) = IsWithinLimits bound × ((place : Place) → HasOneDriver table bound place) × NamesRing bound wires
IsFlatFault table bound (NoDriver pin) = IsSound table bound × NamesUndriven table bound pin
IsFlatFault table bound Memory = Unit {0}

-- it names a ring
abbrev pub IsAliasLoop : FlatFault → Type 0
IsAliasLoop why = (wires : List (List ℕ)) × (why ≡ AliasLoop wires)

-- The two refusals are the same, or both name a ring.
abbrev pub AgreeButRings : FlatFault → FlatFault → Type 0
AgreeButRings one other = (one ≡ other) ⊎ (IsAliasLoop one × IsAliasLoop other)
