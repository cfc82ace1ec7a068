-- The gate that a lane passes.
use Rattle.std.specs.Prelude.{◌≡◌, Bool, true, false, List, [], ◌∷◌, slice_index_or, Option, Some, None}
use Rattle.std.specs.List.{Contains, count_by}
use Rattle.rsfq_ids.specs.declared.id.LaneId.{LaneId}
use Rattle.rsfq_ids.specs.declared.table.CellRow.{CellRow}
use Rattle.rsfq_ids.specs.declared.offence.PathArc.{PathArc}
use Rattle.rsfq_ids.specs.declared.offence.PathArc.TheVariants as arc
use Rattle.rsfq_ids.specs.Design.{Design}
use Rattle.rsfq_ids.specs.Circuit.{IsOf, is_gate}
use Rattle.rsfq_ids.specs.Path.{passes}
use Rattle.lane_forest.specs.declared.node.PassedGate.{PassedGate}

-- The gate that arcs pass: one of them goes through it. Where there is none, none of them goes through a gate. A timing path passes at most one gate, so it has one answer.
abbrev pub IsGateOf : Design → List PathArc → Option PassedGate → Type 0
IsGateOf design arcs None = count_by (passes is_gate design) arcs ≡ 0
IsGateOf design arcs (Some gate) = Contains arcs (arc.Through gate.cell gate.pin gate.out) × ((row : CellRow) × IsOf design gate.cell row × (is_gate row.kind ≡ true))

-- ---- as they are found, for the clauses of private functions

-- what is kept of a lane
abbrev pub gate_in : List (Option PassedGate) → LaneId → Option PassedGate
gate_in gates lane = slice_index_or gates lane None

-- the cell that an arc goes through
abbrev pub cell_of : PathArc → Option PassedGate
cell_of (arc.Port port) = None
cell_of (arc.Through cell pin out) = Some (record { cell = cell; pin = pin; out = out })

-- the gate that is passed with one arc more, which goes through a gate or not
abbrev pub gate_after : Bool → PathArc → Option PassedGate → Option PassedGate
gate_after true last before = cell_of last
gate_after false last before = before

-- the gate that is passed with more arcs
abbrev pub gate_along : Design → Option PassedGate → List PathArc → Option PassedGate
gate_along design before [] = before
gate_along design before (a ∷ arcs) = gate_along design (gate_after (passes is_gate design a) a before) arcs
