-- Each driver has one net.
use Rattle.std.proofs.Common.{◌≡◌, ◌∙◌, ◌+◌, inl, inr, ℕ, zero, suc, Bool, true, false, cond, List, [], ◌∷◌, map, take, length, Some, sym, ap, subst, arith}
use Rattle.std.specs.Prelude.{slice_get}
use Rattle.std.specs.List.{flat_map, enumerate_from, range_with_len}
use Rattle.std.proofs.lemmas.Option.{same_Some}
use Rattle.rsfq_ids.specs.declared.table.CellTable.{CellTable}
use Rattle.rsfq_ids.specs.declared.circuit.Flat.{Flat}
use Rattle.rsfq_ids.specs.declared.circuit.FlatCell.{FlatCell}
use Rattle.rsfq_ids.specs.declared.circuit.PortBit.{PortBit}
use Rattle.rsfq_ids.specs.declared.circuit.Driver.{Driver}
use Rattle.rsfq_ids.specs.declared.circuit.Driver.TheVariants as driver
use Rattle.rsfq_ids.specs.WellFormed.{drivers_of, output_pins}
use Rattle.flat_places.proofs.Joined.{joined_got, map_got, range_got, flat_got}

abbrev port_driver : ℕ × PortBit → List Driver
port_driver (n, port) = cond port.output [] (driver.Port n ∷ [])

abbrev cell_drivers : CellTable → ℕ × FlatCell → List Driver
cell_drivers table (n, cell) = map (driver.Out n) (range_with_len 0 (output_pins table cell))

-- where the drivers of ports and of cells stand
port_net : Flat → ℕ → ℕ
port_net flat port = length (flat_map port_driver (enumerate_from 0 (take port flat.ports)))

cell_net : CellTable → Flat → ℕ → ℕ → ℕ
cell_net table flat cell output = length (flat_map port_driver (enumerate_from 0 flat.ports)) + (length (flat_map (cell_drivers table) (enumerate_from 0 (take cell flat.cells))) + output)

-- a net stands where its driver does
abbrev StandsAt : CellTable → Flat → ℕ → Driver → Type 0
StandsAt table flat net (driver.Port port) = net ≡ port_net flat port
StandsAt table flat net (driver.Out cell output) = net ≡ cell_net table flat cell output

net_stands : (table : CellTable) (flat : Flat) (net : ℕ) (from : Driver) → slice_get (drivers_of table flat) net ≡ Some from → StandsAt table flat net from
unfolding port_net cell_net
net_stands table flat net from e = elim (joined_got (flat_map port_driver (enumerate_from 0 flat.ports)) (flat_map (cell_drivers table) (enumerate_from 0 flat.cells)) net from e) [
  | inl h ↦
      let r = flat_got port_driver 0 flat.ports net from h.1 in
      let z : 0 + r.0 ≡ r.0 = omega arith in
      of_port r.0 r.2 r.1.output (subst (λ (n : ℕ). slice_get (cond r.1.output [] (driver.Port n ∷ [])) r.2 ≡ Some from) z r.4) r.5
  | inr h ↦
      let r = flat_got (cell_drivers table) 0 flat.cells h.0 from h.2 in
      let z : 0 + r.0 ≡ r.0 = omega arith in
      let m = map_got (driver.Out (0 + r.0)) (range_with_len 0 (output_pins table r.1)) r.2 from r.4 in
      let at = (range_got 0 (output_pins table r.1) r.2 m.0 m.1).0 in
      let first = h.1 in
      let rest = r.5 in
      let stands : net ≡ length (flat_map port_driver (enumerate_from 0 flat.ports)) + (length (flat_map (cell_drivers table) (enumerate_from 0 (take r.0 flat.cells))) + m.0) = omega (arith, at, first, rest) in
      subst (StandsAt table flat net) (ap (λ (n : ℕ). driver.Out n m.0) (sym z) ∙ m.2) stands
] where
  of_port : (port j : ℕ) (output : Bool) → slice_get (cond output [] (driver.Port port ∷ [])) j ≡ Some from → net ≡ length (flat_map port_driver (enumerate_from 0 (take port flat.ports))) + j → StandsAt table flat net from
  of_port port j true f k = absurd cc
  of_port port zero false f k = subst (StandsAt table flat net) (same_Some (driver.Port port) from f) (let stands : net ≡ length (flat_map port_driver (enumerate_from 0 (take port flat.ports))) = omega (arith, k) in stands)
  of_port port (suc j) false f k = absurd cc

pub one_net : (table : CellTable) (flat : Flat) (net other : ℕ) (from : Driver) → slice_get (drivers_of table flat) net ≡ Some from → slice_get (drivers_of table flat) other ≡ Some from → net ≡ other
one_net table flat net other from e f = by_driver from (net_stands table flat net from e) (net_stands table flat other from f) where
  by_driver : (from : Driver) → StandsAt table flat net from → StandsAt table flat other from → net ≡ other
  by_driver (driver.Port port) a b = a ∙ sym b
  by_driver (driver.Out cell output) a b = a ∙ sym b
