-- What the walk along the wires keeps of each net, and the steps that it counts at an output.
use Rattle.std.specs.Prelude.{◌≡◌, ◌⊎◌, ℕ, ◌+◌, ◌*◌, ◌<◌, ℤ, pos, ◌+ℤ◌, ◌-ℤ◌, ◌*ℤ◌, ◌≤ℤ◌, ◌<ℤ◌, List, [], ◌∷◌, map, length, slice_index_or, Option, Some, None, IfSome}
use Rattle.std.specs.Option.{option_map}
use Rattle.std.specs.Int.{int_min}
use Rattle.std.specs.List.{All, AllZip}
use Rattle.rsfq_ids.specs.declared.id.NetId.{NetId}
use Rattle.rsfq_ids.specs.declared.id.CellId.{CellId}
use Rattle.rsfq_ids.specs.declared.id.PinId.{PinId}
use Rattle.rsfq_ids.specs.declared.id.PortId.{PortId}
use Rattle.rsfq_ids.specs.declared.table.CellRow.{CellRow}
use Rattle.rsfq_ids.specs.declared.circuit.Flat.{Flat}
use Rattle.rsfq_ids.specs.declared.circuit.Bench.{Bench}
use Rattle.rsfq_ids.specs.declared.circuit.Driver.{Driver}
use Rattle.rsfq_ids.specs.declared.circuit.Driver.TheVariants as driver
use Rattle.rsfq_ids.specs.declared.circuit.Strobe.{Strobe}
use Rattle.rsfq_ids.specs.declared.circuit.PortUse.TheVariants as port_use
use Rattle.rsfq_ids.specs.declared.circuit.Reader.{Reader}
use Rattle.rsfq_ids.specs.declared.circuit.Reader.TheVariants as reader
use Rattle.rsfq_ids.specs.declared.offence.PathArc.{PathArc}
use Rattle.rsfq_ids.specs.declared.offence.PathArc.TheVariants as arc
use Rattle.rsfq_ids.specs.Design.{Design}
use Rattle.rsfq_ids.specs.Time.{total}
use Rattle.rsfq_ids.specs.Circuit.{IsPin, Reads, IsOf}
use Rattle.rsfq_ids.specs.Bench.{IsUsed}
use Rattle.rsfq_ids.specs.Path.{IsRoute, BeginsAtPort}
use Rattle.rsfq_ids.specs.WellFormed.{IsTime, IsPositiveTime}
use Rattle.wire_timing.specs.declared.reach.Reach.{Reach}

-- an arc from a data input or through a cell has this least and this greatest delay
abbrev pub HasBounds : Design → PathArc → ℤ × ℤ → Type 0
HasBounds design (arc.Port port) bounds = IsUsed design.bench port (port_use.Arrival bounds.0 bounds.1)
HasBounds design (arc.Through cell pin out) bounds = (row : CellRow) × IsOf design cell row × (bounds.0 ≡ row.low) × (bounds.1 ≡ row.high)

-- what is kept of a net: a route to it from a data input, of one arc more than it passes cells, and the sums of the bounds of its arcs.
pub record Reaches (design : Design) (net : NetId) (reach : Reach) : Type 0 where
  pub arcs : List PathArc
  pub bounds : List (ℤ × ℤ)
  pub route : IsRoute design arcs net
  pub begins : BeginsAtPort arcs reach.source
  pub bounded : AllZip (HasBounds design) arcs bounds
  pub cells : length arcs ≡ reach.cells + 1
  pub low : reach.low ≡ total (map (λ b. b.0) bounds)
  pub high : reach.high ≡ total (map (λ b. b.1) bounds)

-- sums of at most so many delays
pub record IsSmall (limit : ℕ) (reach : Reach) : Type 0 where
  pub cells : reach.cells < limit
  pub low : pos 0 ≤ℤ reach.low
  pub order : reach.low ≤ℤ reach.high
  pub high : reach.high ≤ℤ pos (limit * 1000000000)

abbrev pub AreSmall : ℕ → List (Option Reach) → Type 0
AreSmall limit reached = All (λ found. IfSome found (IsSmall limit)) reached

-- each net that is read has been reached
pub record AreReached (design : Design) (reached : List (Option Reach)) : Type 0 where
  pub count : length reached ≡ length design.flat.nets
  pub small : AreSmall 100001 reached
  pub each : (net : NetId) (by : Reader) → Reads design.flat by net → (reach : Reach) × (slice_index_or reached net None ≡ Some reach) × Reaches design net reach

-- what is kept at first of a net: of one that a data input drives its arrival interval, of any other nothing
abbrev pub StartsAt : Bench → Driver → Option Reach → Type 0
StartsAt bench from found = ((port : PortId) (low high : ℤ) → from ≡ driver.Port port → IsUsed bench port (port_use.Arrival low high) → found ≡ Some (record { source = port; cells = 0; low = low; high = high }))
    × IfSome found (λ reach. (reach.cells ≡ 0) × IsUsed bench reach.source (port_use.Arrival reach.low reach.high))

-- the same of each net
pub record AreStarted (flat : Flat) (bench : Bench) (reached : List (Option Reach)) : Type 0 where
  pub count : length reached ≡ length flat.nets
  pub each : AllZip (StartsAt bench) flat.nets reached

-- a pin is that of an output bit with this strobe, and reads this net
abbrev pub IsStrobedPin : Design → PinId → Strobe → NetId → Type 0
IsStrobedPin design pin strobe net = (port : PortId) × IsPin design.flat pin (reader.Port port) net × IsUsed design.bench port (port_use.Strobed strobe)

-- what is kept behind a JTL
abbrev pub advanced : CellRow → Reach → Reach
advanced row reach = record { source = reach.source; cells = reach.cells + 1; low = reach.low +ℤ row.low; high = reach.high +ℤ row.high }

abbrev pub IsPassed : Design → CellId → List (Option Reach) → Option Reach → Type 0
IsPassed design cell reached behind = (row : CellRow) × (net : NetId) × IsOf design cell row × IsPin design.flat cell (reader.Pin cell 0) net
    × (behind ≡ option_map (advanced row) (slice_index_or reached net None))

-- a period, a strobe and a sum of delays within their limits
pub record IsTimely (period : ℤ) (strobe : Strobe) (sum : ℤ) : Type 0 where
  pub period_fits : IsPositiveTime period
  pub offset : IsTime strobe.offset
  pub early : strobe.offset <ℤ period
  pub setup : IsPositiveTime strobe.setup
  pub hold : IsPositiveTime strobe.hold
  pub natural : pos 0 ≤ℤ sum
  pub small : sum ≤ℤ pos 100001000000000

-- The greatest number of strobe periods from one before the strobe on after which the latest pulse still is late enough to be in the zone or behind it.
pub record IsStepCount (period : ℤ) (strobe : Strobe) (high : ℤ) (steps : ℕ) : Type 0 where
  pub from : (pos steps *ℤ period) ≤ℤ ((((high -ℤ strobe.offset) +ℤ strobe.setup) -ℤ pos 1) +ℤ period)
  pub below : ((((high -ℤ strobe.offset) +ℤ strobe.setup) -ℤ pos 1) +ℤ period) <ℤ ((pos steps *ℤ period) +ℤ period)

-- The earliest sum of delays with which a pulse is in the zone of a strobe, or behind it, where one strobe more lies `turned` fs of
-- whole periods behind the pulse.
abbrev pub zone_begins : ℤ → Strobe → ℤ → ℤ
zone_begins period strobe turned = (((strobe.offset +ℤ turned) -ℤ period) -ℤ strobe.setup) +ℤ pos 1

-- the least by which a pulse with least delays has to be later, so that its delays sum up to at least so much
pub record IsSpare (begins low spare : ℤ) : Type 0 where
  pub natural : pos 0 ≤ℤ spare
  pub enough : begins ≤ℤ (low +ℤ spare)
  pub least : (spare ≡ pos 0) ⊎ ((low +ℤ spare) ≡ begins)

-- delays raised from their least by a sum, in order
abbrev pub raise : ℤ → List (ℤ × ℤ) → List ℤ
raise spare [] = []
raise spare (b ∷ bounds) = (b.0 +ℤ int_min spare (b.1 -ℤ b.0)) ∷ raise (spare -ℤ int_min spare (b.1 -ℤ b.0)) bounds

-- the arcs of a route to a net, and their delays raised by a sum
pub record IsRaisedPath (design : Design) (net : NetId) (spare : ℤ) (arcs : List PathArc) (delays : List ℤ) : Type 0 where
  pub route : IsRoute design arcs net
  pub raised : (bounds : List (ℤ × ℤ)) → AllZip (HasBounds design) arcs bounds → delays ≡ raise spare bounds
