-- Where a source has no fault, its bound source is well formed: the parts of that law, and the law.
use Rattle.std.specs.Prelude.{◌≡◌, ℕ, ◌≤◌, List, slice_get, Some}
use Rattle.std.specs.List.{All}
use Rattle.rsfq_ids.specs.declared.limits.TheConstants.{WIDTH_LIMIT}
use Rattle.rsfq_ids.specs.WellFormed.{AreDistinct, IsTable}
use Rattle.verilog_tree.specs.Text.{IsSpelledTree}
use Rattle.bind_forms.specs.declared.bound.BoundModule.{BoundModule}
use Rattle.bind_forms.specs.declared.bound.Bound.{Bound}
use Rattle.bind_forms.specs.Bits.{width_of, port_bit_names}
use Rattle.bind_forms.specs.Modules.{Setting}
use Rattle.bind_forms.specs.Binds.{Binds}
use Rattle.bind_forms.specs.First.{Duplicates, StandsNowhere, HasNoFault}
use Rattle.bind_forms.specs.WellFormed.{IsRange, IsAssign, IsInstance, HasNoRing, IsBound}
use Rattle.bind_laws.specs.Orders.{IsOrder}

-- No port is wider than 4,096 bits.
abbrev pub PortsAreNarrow : Type 0
PortsAreNarrow = (setting : Setting) (bound : Bound) → Binds setting bound → HasNoFault setting → All (λ owner. All (λ port. width_of port.range ≤ WIDTH_LIMIT) owner.ports) bound.modules

-- The ranges of wires are of numbers that the text can have.
abbrev pub RangesAreSmall : Type 0
RangesAreSmall = (setting : Setting) (bound : Bound) → Binds setting bound → IsSpelledTree setting.modules → All (λ owner. All (λ wire. IsRange wire.range) owner.wires) bound.modules

-- Both sides of an assign have one width.
abbrev pub AssignsFit : Type 0
AssignsFit = (setting : Setting) (bound : Bound) → Binds setting bound → HasNoFault setting → All (λ owner. All (IsAssign owner.wires) owner.assigns) bound.modules

-- Links fit the ports of the kinds, and no port is linked twice.
abbrev pub InstancesFit : Type 0
InstancesFit = (setting : Setting) (bound : Bound) → Binds setting bound → HasNoFault setting → All (λ owner. All (IsInstance setting.table bound owner.wires) owner.instances) bound.modules

-- Where the modules have an order, no module instantiates itself.
abbrev pub OrdersLeaveNoRing : Type 0
OrdersLeaveNoRing = (setting : Setting) (bound : Bound) (order : List ℕ) → Binds setting bound → IsOrder setting order → HasNoRing bound

-- No two bits of the top's ports have one printed name.
abbrev pub PortBitsAreDistinct : Type 0
PortBitsAreDistinct = (setting : Setting) (bound : Bound) (top : BoundModule) → Binds setting bound → HasNoFault setting → IsSpelledTree setting.modules → slice_get bound.modules bound.top ≡ Some top
    → AreDistinct (port_bit_names top.ports)

-- The bound source of a spelled tree without faults is well formed.
abbrev pub BoundIsWellFormed : Type 0
BoundIsWellFormed = (setting : Setting) (bound : Bound) (order : List ℕ) → Binds setting bound → HasNoFault setting → IsSpelledTree setting.modules → IsOrder setting order → IsBound setting.table bound

-- A source has one bound source, where no name is given twice and the cells are well formed.
abbrev pub BoundIsOne : Type 0
BoundIsOne = (setting : Setting) (bound other : Bound) → IsTable setting.table → StandsNowhere setting Duplicates → Binds setting bound → Binds setting other → bound ≡ other
