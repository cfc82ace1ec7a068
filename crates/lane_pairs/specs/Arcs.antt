-- The intervals of the arcs of a path, and what two paths have in common.
use Rattle.std.specs.Prelude.{◌≡◌, ◌≢◌, ℕ, zero, suc, ◌≤◌, ℤ, pos, negsuc, List, length, take, slice_get, Some}
use Rattle.std.specs.List.{AllZip}
use Rattle.rsfq_ids.specs.declared.table.CellRow.{CellRow}
use Rattle.rsfq_ids.specs.declared.circuit.Bench.{Bench}
use Rattle.rsfq_ids.specs.declared.circuit.PortUse.{PortUse}
use Rattle.rsfq_ids.specs.declared.circuit.PortUse.TheVariants as port_use
use Rattle.rsfq_ids.specs.declared.offence.PathArc.{PathArc}
use Rattle.rsfq_ids.specs.declared.offence.PathArc.TheVariants as arc
use Rattle.rsfq_ids.specs.Circuit.{IsOf}
use Rattle.rsfq_ids.specs.Bench.{IsUsed}
use Rattle.rsfq_ids.specs.Design.{Design}
use Rattle.pulse_pairs.specs.declared.meeting.Interval.{Interval}

-- the delays behind a tick that the bench allows at a port bit
abbrev pub IsPortInterval : Bench → PortUse → Interval → Type 0
IsPortInterval bench port_use.Clock interval = (interval.low ≡ pos 0) × (interval.high ≡ bench.jitter)
IsPortInterval bench (port_use.Arrival low high) interval = (interval.low ≡ low) × (interval.high ≡ high)
IsPortInterval bench (port_use.Strobed strobe) interval = ⊥

-- the least and the greatest delay of an arc
abbrev pub HasInterval : Design → PathArc → Interval → Type 0
HasInterval design (arc.Port port) interval = (used : PortUse) × IsUsed design.bench port used × IsPortInterval design.bench used interval
HasInterval design (arc.Through cell pin out) interval = (row : CellRow) × IsOf design cell row × (interval.low ≡ row.low) × (interval.high ≡ row.high)

-- the same of all arcs of a path
abbrev pub HaveIntervals : Design → List PathArc → List Interval → Type 0
HaveIntervals design arcs intervals = AllZip (HasInterval design) arcs intervals

-- two paths have so many first arcs in common, and no more
pub record IsCommon (shared : ℕ) (x y : List PathArc) : Type 0 where
  pub first : shared ≤ length x
  pub second : shared ≤ length y
  pub same : take shared x ≡ take shared y
  pub further : (one other : PathArc) → slice_get x shared ≡ Some one → slice_get y shared ≡ Some other → one ≢ other

-- So many arcs are shared by two pulses that are so many numbers apart: the common ones by pulses of one number, none by others.
abbrev pub IsSharedAt : ℤ → List PathArc → List PathArc → ℕ → Type 0
IsSharedAt (pos zero) x y shared = IsCommon shared x y
IsSharedAt (pos (suc n)) x y shared = shared ≡ 0
IsSharedAt (negsuc n) x y shared = shared ≡ 0
