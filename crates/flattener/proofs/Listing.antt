-- The lists of the ends of nets.
use Rattle.std.proofs.Common.{◌≡◌, ◌∙◌, ◌+◌, ◌<◌, ◌≤◌, ℕ, Bool, true, false, cond, List, [], ◌∷◌, ◌++◌, map, drop, length, get_or, Option, Some, refl, sym, ap, arith, length-append}
use Rattle.std.specs.Prelude.{slice_get, unwrap_or, option_to_list}
use Rattle.std.specs.Option.{option_map}
use Rattle.std.specs.List.{flat_map, enumerate_from, range_with_len}
use Rattle.std.proofs.lemmas.List.FromFn.{length-map-range_with_len}
use Rattle.rsfq_ids.specs.declared.table.CellTable.{CellTable}
use Rattle.rsfq_ids.specs.declared.table.CellRow.{CellRow}
use Rattle.rsfq_ids.specs.declared.table.Kind.{Kind}
use Rattle.rsfq_ids.specs.declared.table.Kind.TheVariants.{Jtl, Split, Merge, Gate}
use Rattle.rsfq_ids.specs.declared.circuit.FlatCell.{FlatCell}
use Rattle.rsfq_ids.specs.declared.circuit.PortBit.{PortBit}
use Rattle.rsfq_ids.specs.declared.circuit.Driver.TheVariants.{Out}
use Rattle.rsfq_ids.specs.declared.circuit.Driver.TheVariants as drivers
use Rattle.rsfq_ids.specs.declared.circuit.Reader.TheVariants.{Pin}
use Rattle.rsfq_ids.specs.WellFormed.{IsRow, FitsKind}
use Rattle.bind_forms.specs.declared.bound.BoundPort.{BoundPort}
use Rattle.bind_forms.specs.Bits.{width_of, bit_name}
use Rattle.flat_places.specs.Circuit.{port_bits}
use Rattle.flattener.specs.Ends.{port_bit, bits_of_port, input_driver, cell_drivers, cell_readers}
use Rattle.flattener.proofs.Lists.{flat_step, map_twice}

-- ---- ports

pub bits_of_port_length : (port : BoundPort) → length (bits_of_port port) ≡ width_of port.range
bits_of_port_length port = length-map-range_with_len (port_bit port) 0 (width_of port.range)

pub port_bits_same : (ports : List BoundPort) → flat_map bits_of_port ports ≡ port_bits ports
port_bits_same [] = refl
port_bits_same (port ∷ ports) =
    ap (λ (bits : List PortBit). bits ++ flat_map bits_of_port ports) (sym (map_twice (λ (name : List ℕ). let b : PortBit = record { name = name; output = port.output } in b) (bit_name port.name port.range) (range_with_len 0 (width_of port.range))))
    ∙ ap (λ (bits : List PortBit). map (λ (name : List ℕ). let b : PortBit = record { name = name; output = port.output } in b) (map (bit_name port.name port.range) (range_with_len 0 (width_of port.range))) ++ bits) (port_bits_same ports)

-- the bits of the next port have room
pub room_of_next : {X Y : Type 0} (f : X → List Y) (xs : List X) (i : ℕ) (d : X) (done whole : List Y) → i < length xs → done ++ flat_map f (drop i xs) ≡ whole → length done + length (f (get_or xs i d)) ≤ length whole
room_of_next f xs i d done whole low e =
    let all = ap length (flat_step f xs i d done whole low e) in
    let one = length-append (done ++ f (get_or xs i d)) (flat_map f (drop (i + 1) xs)) in
    let two = length-append done (f (get_or xs i d)) in
    omega (arith, all, one, two)

pub few_inputs : (n : ℕ) (ports : List PortBit) → length (flat_map input_driver (enumerate_from n ports)) ≤ length ports
few_inputs n [] = omega arith
few_inputs n (port ∷ ports) = go port.output (few_inputs (n + 1) ports) where
  go : (output : Bool) → length (flat_map input_driver (enumerate_from (n + 1) ports)) ≤ length ports → length (cond output [] (drivers.Port n ∷ []) ++ flat_map input_driver (enumerate_from (n + 1) ports)) ≤ length (port ∷ ports)
  go true rest = omega (arith, rest)
  go false rest = omega (arith, rest)

-- ---- cells

few_of_kind : (kind : Kind) (row : CellRow) → FitsKind kind row → length row.outputs ≤ 2
few_of_kind Jtl row f = let b = f.2 in omega (arith, b)
few_of_kind Split row f = let b = f.2 in omega (arith, b)
few_of_kind Merge row f = let b = f.2 in omega (arith, b)
few_of_kind Gate row f = let b = f.3 in omega (arith, b)

pub few_outputs : (row : CellRow) → IsRow row → length row.outputs ≤ 2
few_outputs row r = few_of_kind row.kind row r.kind

pub outputs_at : (table : CellTable) (n : ℕ) (cell : FlatCell) (row : CellRow) → slice_get table.rows cell.row ≡ Some row → cell_drivers table (n, cell) ≡ map (Out n) (range_with_len 0 (length row.outputs))
outputs_at table n cell row there = ap (λ (o : Option CellRow). map (Out n) (range_with_len 0 (unwrap_or (option_map (λ (row : CellRow). length row.outputs) o) 0))) there

pub pins_at : (table : CellTable) (n : ℕ) (cell : FlatCell) (row : CellRow) → slice_get table.rows cell.row ≡ Some row → cell_readers table (n, cell) ≡ map (Pin n) (range_with_len 0 (length row.inputs + length (option_to_list row.clock)))
pins_at table n cell row there = ap (λ (o : Option CellRow). map (Pin n) (range_with_len 0 (unwrap_or (option_map (λ (row : CellRow). length row.inputs + length (option_to_list row.clock)) o) 0))) there
