-- Which bound sources are well formed.
use Rattle.std.specs.Prelude.{◌≡◌, ◌≢◌, ℕ, ◌+◌, ◌<◌, ◌≤◌, List, ◌++◌, map, length, sum_by, slice_get, Option, Some, None, ⊤, option_to_list}
use Rattle.std.specs.Option.{option_map}
use Rattle.std.specs.List.{All, AllPairs}
use Rattle.rsfq_ids.specs.declared.limits.TheConstants.{WIDTH_LIMIT}
use Rattle.rsfq_ids.specs.declared.table.CellTable.{CellTable}
use Rattle.rsfq_ids.specs.declared.table.CellRow.{CellRow}
use Rattle.rsfq_ids.specs.WellFormed.{AreDistinct}
use Rattle.bind_forms.specs.declared.bound.BoundPort.{BoundPort}
use Rattle.bind_forms.specs.declared.bound.BoundWire.{BoundWire}
use Rattle.bind_forms.specs.declared.bound.BoundPart.{BoundPart}
use Rattle.bind_forms.specs.declared.bound.BoundAssign.{BoundAssign}
use Rattle.bind_forms.specs.declared.bound.BoundKind.{BoundKind}
use Rattle.bind_forms.specs.declared.bound.BoundKind.TheVariants.{Module, Cell}
use Rattle.bind_forms.specs.declared.bound.BoundLink.{BoundLink}
use Rattle.bind_forms.specs.declared.bound.BoundInstance.{BoundInstance}
use Rattle.bind_forms.specs.declared.bound.BoundModule.{BoundModule}
use Rattle.bind_forms.specs.declared.bound.Bound.{Bound}
use Rattle.bind_forms.specs.Bits.{width_of, port_bit_names}

-- ---- ranges, wires and parts

-- both ends of a range are numbers that the text can have
abbrev pub IsRange : Option (ℕ × ℕ) → Type 0
IsRange None = ⊤
IsRange (Some range) = (range.0 ≤ 999999999) × (range.1 ≤ 999999999)

-- the wire that a port is
abbrev pub port_wire : BoundPort → BoundWire
port_wire port = record { name = port.name; range = port.range }

-- A part lies within a wire: it is one bit or more, from its place up.
pub record IsPartOf (wire : BoundWire) (part : BoundPart) : Type 0 where
  pub some : 1 ≤ part.count
  pub within : part.bit + part.count ≤ width_of wire.range

-- A part is of a wire that there is, and lies within it.
pub record IsPart (wires : List BoundWire) (part : BoundPart) : Type 0 where
  pub wire : BoundWire
  pub there : slice_get wires part.wire ≡ Some wire
  pub lies : IsPartOf wire part

-- how many bits parts have together
abbrev pub parts_width : List BoundPart → ℕ
parts_width parts = sum_by (λ part. part.count) parts

-- both sides of an assign have one width
pub record IsAssign (wires : List BoundWire) (assign : BoundAssign) : Type 0 where
  pub to : All (IsPart wires) assign.to
  pub from : All (IsPart wires) assign.from
  pub width : parts_width assign.from ≡ parts_width assign.to

-- ---- instances and links

-- the pins of a cell in the order of its ports: its inputs, its clock, its outputs
abbrev pub cell_ports : CellRow → List (List ℕ)
cell_ports row = row.inputs ++ option_to_list row.clock ++ row.outputs

-- the widths of the ports of an instance's kind, in order; the pins of a cell are one bit wide
abbrev pub port_widths : CellTable → Bound → BoundKind → Option (List ℕ)
port_widths table bound (Module at) = option_map (λ inner. map (λ port. width_of port.range) inner.ports) (slice_get bound.modules at)
port_widths table bound (Cell at) = option_map (λ row. map (λ pin. 1) (cell_ports row)) (slice_get table.rows at)

-- A link of a port that there is, whose width is that of the linked parts.
pub record IsLink (wires : List BoundWire) (widths : List ℕ) (link : BoundLink) : Type 0 where
  pub parts : All (IsPart wires) link.parts
  pub width : slice_get widths link.port ≡ Some (parts_width link.parts)

-- An instance of a module or a cell that there is. No port is linked twice.
pub record IsInstance (table : CellTable) (bound : Bound) (wires : List BoundWire) (instance : BoundInstance) : Type 0 where
  pub widths : List ℕ
  pub kind : port_widths table bound instance.kind ≡ Some widths
  pub links : All (IsLink wires widths) instance.links
  pub once : AllPairs (λ one other. one.port ≢ other.port) instance.links

-- ---- modules

-- A module. Its ports are at most 4,096 bits wide; its wires are the ports, in port order, and then others; its assigns and instances fit them.
pub record IsModule (table : CellTable) (bound : Bound) (owner : BoundModule) : Type 0 where
  pub ports : All (λ port. width_of port.range ≤ WIDTH_LIMIT) owner.ports
  pub others : List BoundWire
  pub wires : owner.wires ≡ map port_wire owner.ports ++ others
  pub ranges : All (λ wire. IsRange wire.range) owner.wires
  pub assigns : All (IsAssign owner.wires) owner.assigns
  pub instances : All (IsInstance table bound owner.wires) owner.instances

-- the module at `outer` has an instance of the module at `inner`
pub record Instantiates (bound : Bound) (outer inner : ℕ) : Type 0 where
  pub holder : BoundModule
  pub there : slice_get bound.modules outer ≡ Some holder
  pub at : ℕ
  pub instance : BoundInstance
  pub listed : slice_get holder.instances at ≡ Some instance
  pub kind : instance.kind ≡ Module inner

-- No module instantiates itself, directly or through others: there are ranks, below the number of modules, that fall from each module to those that it instantiates.
pub record HasNoRing (bound : Bound) : Type 0 where
  pub rank : ℕ → ℕ
  pub bounded : (at : ℕ) → at < length bound.modules → rank at < length bound.modules
  pub falls : (outer inner : ℕ) → Instantiates bound outer inner → rank inner < rank outer

-- A well-formed bound source over a cell table. No two bits of the top's ports have one printed name.
pub record IsBound (table : CellTable) (bound : Bound) : Type 0 where
  pub modules : All (IsModule table bound) bound.modules
  pub no_ring : HasNoRing bound
  pub top : BoundModule
  pub top_there : slice_get bound.modules bound.top ≡ Some top
  pub names : AreDistinct (port_bit_names top.ports)
