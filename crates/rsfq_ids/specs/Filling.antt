-- What gates show before the pulses of word 0 have come to them.
use Rattle.std.specs.Prelude.{◌≡◌, ℕ, ◌+◌, ◌<◌, ◌↔◌, Bool, true, false, ◌&&◌, not, nat_lt, pos, List, length, map}
use Rattle.std.specs.List.{AllZip, Contains, list_any}
use Rattle.rsfq_ids.specs.declared.table.CellRow.{CellRow}
use Rattle.rsfq_ids.specs.declared.circuit.Driver.{Driver}
use Rattle.rsfq_ids.specs.declared.circuit.Driver.TheVariants as driver
use Rattle.rsfq_ids.specs.declared.circuit.Reader.TheVariants as reader
use Rattle.rsfq_ids.specs.Circuit.{IsDrivenBy, IsOf, InputNets, is_gate}
use Rattle.rsfq_ids.specs.Run.{truth_at}
use Rattle.rsfq_ids.specs.declared.offence.PathArc.{PathArc}
use Rattle.rsfq_ids.specs.declared.offence.PathArc.TheVariants as arc
use Rattle.rsfq_ids.specs.Path.{IsPath, HasDepth}
use Rattle.rsfq_ids.specs.Value.{value_of}
use Rattle.rsfq_ids.specs.Design.{Design}

-- What a cell makes of its inputs so many entries before word 0: a gate whose depth is less has no such entry, and gives nothing. Nor does a gate that is not covered.
abbrev pub FillMade : Bool → Design → Bool → ℕ → CellRow → ℕ → ℕ → List Bool → Bool → Type 0
FillMade true design true early row cell out bits value = (depth : ℕ) × HasDepth design (reader.Pin cell 0) (pos depth) × (value ≡ (not (nat_lt depth early) && truth_at row out bits))
FillMade true design false early row cell out bits value = value ≡ false
FillMade false design covered early row cell out bits value = value ≡ list_any (λ bit. bit) bits

-- the value that a driver gives its net so many entries before word 0; no port has given a pulse then
abbrev pub FillGives : Design → (ℕ → Bool) → ℕ → (ℕ → Bool) → Driver → Bool → Type 0
FillGives design covered early values (driver.Port port) value = value ≡ false
FillGives design covered early values (driver.Out cell out) value =
    (row : CellRow) × (nets : List ℕ) × IsOf design cell row × InputNets design.flat cell row nets × FillMade (is_gate row.kind) design (covered cell) early row cell out (map values nets) value

-- The filling values of all nets, so many entries before those of word 0: at a gate those of its entry k with k + early = depth. They follow the gates that `covered` tells.
pub record AreFilling (design : Design) (covered : ℕ → Bool) (early : ℕ) (values : List Bool) : Type 0 where
  pub nets : length values ≡ length design.flat.nets
  pub given : (net : ℕ) (driver : Driver) → IsDrivenBy design.flat net driver → FillGives design covered early (value_of values) driver (value_of values net)

-- A path to a net from a gate that, so many steps before entry k of a gate of this depth, gave a pulse by `fill`.
pub record FillPath (design : Design) (fill : ℕ → ℕ → ℕ → Bool) (net depth k : ℕ) : Type 0 where
  pub arcs : List PathArc
  pub path : IsPath design arcs net
  pub cell : ℕ
  pub pin : ℕ
  pub out : ℕ
  pub row : CellRow
  pub within : Contains arcs (arc.Through cell pin out)
  pub of : IsOf design cell row
  pub gate : is_gate row.kind ≡ true
  pub from : ℕ
  pub has : HasDepth design (reader.Pin cell 0) (pos from)
  pub steps : ℕ
  pub sum : from + steps ≡ depth
  pub entry : ℕ
  pub back : entry + steps ≡ k
  pub one : fill cell out entry ≡ true

-- The bit of a data pin that reads this net at entry k, before its gate's depth.
abbrev pub IsFillBit : Design → (ℕ → ℕ → ℕ → Bool) → ℕ → ℕ → ℕ → Bool → Type 0
IsFillBit design fill net depth k bit = (bit ≡ true) ↔ FillPath design fill net depth k

-- What the outputs of gates give at the entries before their depths: the truth at such bits.
abbrev pub IsFill : Design → (ℕ → ℕ → ℕ → Bool) → Type 0
IsFill design fill =
    (cell out net : ℕ) (row : CellRow) (nets : List ℕ) (depth k : ℕ) → IsOf design cell row → is_gate row.kind ≡ true → IsDrivenBy design.flat net (driver.Out cell out) → InputNets design.flat cell row nets → HasDepth design (reader.Pin cell 0) (pos depth) →
    k < depth → (bits : List Bool) × AllZip (λ m bit. IsFillBit design fill m depth k bit) nets bits × (fill cell out k ≡ truth_at row out bits)
