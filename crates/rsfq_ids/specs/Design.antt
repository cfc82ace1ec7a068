-- What is signed off: a circuit with the table of its cells, and how it is driven and read.
use Rattle.rsfq_ids.specs.declared.table.CellTable.{CellTable}
use Rattle.rsfq_ids.specs.declared.circuit.Flat.{Flat}
use Rattle.rsfq_ids.specs.declared.circuit.Bench.{Bench}

-- A design: a circuit, the cell table that its cells are rows of, and the bench that it stands on.
pub record Design : Type 0 where
  pub table : CellTable
  pub flat : Flat
  pub bench : Bench

-- a design of its three parts
abbrev pub design_of : CellTable → Flat → Bench → Design
design_of table flat bench = record { table = table; flat = flat; bench = bench }
