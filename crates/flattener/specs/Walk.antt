-- What a walk over a bound source from the top down needs to know.
use Rattle.std.specs.Prelude.{◌≡◌, ℕ, ◌+◌, ◌-◌, ◌<◌, ◌^◌, List, map, length}
use Rattle.rsfq_ids.specs.declared.table.CellTable.{CellTable}
use Rattle.bind_forms.specs.declared.bound.BoundInstance.{BoundInstance}
use Rattle.bind_forms.specs.declared.bound.BoundWire.{BoundWire}
use Rattle.bind_forms.specs.declared.bound.BoundModule.{BoundModule}
use Rattle.bind_forms.specs.declared.bound.Bound.{Bound}
use Rattle.bind_forms.specs.WellFormed.{IsInstance}
use Rattle.flat_places.specs.Hierarchy.{bits_of}
use Rattle.flat_places.specs.Assigns.{new_places}
use Rattle.flat_places.specs.Bits.{offsets_from}
use Rattle.flat_places.specs.Pieces.{Piece}
use Rattle.flat_names.specs.Measured.{IsMeasured}
use Rattle.flattener.specs.declared.wiring.Walk.{Walk}
use Rattle.flattener.specs.Solid.{solid_places}

-- a bound source with the sizes of its modules, and the places in each of the instances that hold something and of the assigns that join what none before them does
pub record IsWalk (walk : Walk) : Type 0 where
  pub source : IsMeasured walk.source
  pub solid : walk.solid.now ≡ map (λ (owner : BoundModule). solid_places walk.source.sizes.now owner.instances) walk.source.bound.now.modules
  pub assigns : walk.assigns.now ≡ map (λ (owner : BoundModule). new_places owner.assigns) walk.source.bound.now.modules

-- the offsets of the wires from some base on, where all bits have numbers below 2^32
pub record AreOffsets (offsets : List ℕ) (wires : List BoundWire) : Type 0 where
  pub base : ℕ
  pub listed : offsets ≡ offsets_from base wires
  pub small : base + bits_of wires < 2 ^ 32

-- a well-formed instance in a module whose wires have these offsets
pub record IsInstanceOn (table : CellTable) (bound : Bound) (offsets : List ℕ) (instance : BoundInstance) : Type 0 where
  pub wires : List BoundWire
  pub is_instance : IsInstance table bound wires instance
  pub placed : AreOffsets offsets wires

-- places and cells can be numbered
abbrev pub HasRoom : Piece → Type 0
HasRoom piece = (piece.places < 2 ^ 32) × (length piece.cells < 2 ^ 32 - 1)
