-- The texts of the sign-off's answers. Each line ends with a newline byte, and numbers are decimal.
--
-- A port bit prints as its name, an output of a cell as the cell's name, a dot and the output's name. Where a number
-- stands for nothing in the design, which is so in no answer, its name is empty.
use Rattle.std.specs.Prelude.{ℕ, ℤ, ◌-ℤ◌, List, [], ◌∷◌, ◌++◌, codes, decimal, slice_get, unwrap_or}
use Rattle.std.specs.Fmt.{signed_decimal}
use Rattle.std.specs.List.{flat_map}
use Rattle.std.specs.Option.{option_map_or, option_and_then}
use Rattle.rsfq_ids.specs.declared.id.CellId.{CellId}
use Rattle.rsfq_ids.specs.declared.id.PortId.{PortId}
use Rattle.rsfq_ids.specs.declared.circuit.Flat.{Flat}
use Rattle.rsfq_ids.specs.declared.circuit.Bench.{Bench}
use Rattle.rsfq_ids.specs.declared.circuit.Strobe.{Strobe}
use Rattle.rsfq_ids.specs.declared.offence.PathArc.{PathArc}
use Rattle.rsfq_ids.specs.declared.offence.PathArc.TheVariants as arc
use Rattle.rsfq_ids.specs.declared.offence.PathPick.{PathPick}
use Rattle.rsfq_ids.specs.Design.{Design}
use Rattle.rsfq_ids.specs.Circuit.{row_of}
use Rattle.rsfq_ids.specs.Path.{pick_time, strobe_at}
use Rattle.wire_timing.specs.declared.WireDepth.{WireDepth}

abbrev pub port_name : Flat → PortId → List ℕ
port_name flat port = option_map_or (λ bit. bit.name) (slice_get flat.ports port) []

abbrev pub cell_name : Flat → CellId → List ℕ
cell_name flat cell = option_map_or (λ entry. entry.path) (slice_get flat.cells cell) []

-- the name of an output in the cell table
abbrev pub output_name : Design → CellId → ℕ → List ℕ
output_name design cell out = unwrap_or (option_and_then (λ row. slice_get row.outputs out) (row_of design cell)) []

-- the net that an arc drives
abbrev pub net_name : Design → PathArc → List ℕ
net_name design (arc.Port port) = port_name design.flat port
net_name design (arc.Through cell pin out) = cell_name design.flat cell ++ codes "." ++ output_name design cell out

-- ---- an accepted netlist: for each output its depth, and the input at the other end of its wire

-- an output and its depth
abbrev pub output_depth : Flat → WireDepth → List ℕ
output_depth flat found = port_name flat found.output ++ codes " " ++ decimal found.depth

abbrev pub depth_line : Flat → WireDepth → List ℕ
depth_line flat found =
    codes "depth " ++ output_depth flat found ++ codes " from " ++ port_name flat found.source ++ codes "\n"

abbrev pub accepted_text : Flat → List WireDepth → List ℕ
accepted_text flat depths = codes "accepted\n" ++ flat_map (depth_line flat) depths

-- ---- a rejected netlist: a pulse in the zone around a strobe

-- the port bit at which arcs begin
abbrev pub source_name : Flat → List PathArc → List ℕ
source_name flat [] = []
source_name flat (arc.Port port ∷ arcs) = port_name flat port
source_name flat (arc.Through cell pin out ∷ arcs) = []

-- an arc: the net that it drives, and its delay
abbrev pub arc_line : Design → PathArc → ℤ → List ℕ
arc_line design through delay = codes "arc " ++ net_name design through ++ codes " " ++ signed_decimal delay ++ codes "\n"

-- a line for each arc of a path
abbrev pub arc_lines : Design → List PathArc → List ℤ → List ℕ
arc_lines design (first ∷ arcs) (delay ∷ delays) = arc_line design first delay ++ arc_lines design arcs delays
arc_lines design arcs delays = []

-- a pulse: where it begins, its number and its time, and its arcs
abbrev pub pick_text : Design → PathPick → List ℕ
pick_text design pick =
    codes "pick " ++ source_name design.flat pick.arcs ++ codes " " ++ decimal pick.number ++ codes " " ++ signed_decimal (pick_time design.bench pick) ++ codes "\n"
    ++ arc_lines design pick.arcs pick.delays

-- the rule, the output, and how far the zone goes before and behind its strobes
abbrev pub window_head : Flat → PortId → Strobe → List ℕ
window_head flat output strobe =
    codes "rejected window\nat " ++ port_name flat output ++ codes "\nzone " ++ signed_decimal strobe.setup ++ codes " " ++ signed_decimal strobe.hold ++ codes "\n"

-- the strobe with its number and its time, and how much later the pulse is
abbrev pub strobe_text : Bench → Strobe → PathPick → ℕ → List ℕ
strobe_text bench strobe pulse number =
    codes "strobe " ++ decimal number ++ codes " " ++ signed_decimal (strobe_at bench strobe number)
    ++ codes "\ndifference " ++ signed_decimal (pick_time bench pulse -ℤ strobe_at bench strobe number) ++ codes "\n"

-- A pulse in the zone around a strobe of an output.
abbrev pub window_text : Design → PortId → Strobe → PathPick → ℕ → List ℕ
window_text design output strobe pulse number =
    window_head design.flat output strobe ++ pick_text design pulse ++ strobe_text design.bench strobe pulse number

-- ---- no verdict

abbrev pub usage_text : List ℕ
usage_text = codes "usage: rsfq_signoff NETLIST PERIOD LOW HIGH\n"

abbrev pub form_text : List ℕ
form_text = codes "refused form\n"

-- an output that is too deep
abbrev pub stages_text : Flat → WireDepth → List ℕ
stages_text flat found = codes "refused limit stages " ++ output_depth flat found ++ codes "\n"
