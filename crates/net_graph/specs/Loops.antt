-- Links from cells to those that read from them. For the clauses of private functions.
use Rattle.std.specs.Prelude.{◌≡◌, ◌⊎◌, ℕ, ◌<◌, List, Some, None}
use Rattle.rsfq_ids.specs.declared.circuit.Flat.{Flat}
use Rattle.rsfq_ids.specs.declared.circuit.Pin.{Pin}
use Rattle.rsfq_ids.specs.declared.circuit.Driver.{Driver}
use Rattle.rsfq_ids.specs.declared.circuit.Driver.TheVariants as driver
use Rattle.rsfq_ids.specs.declared.circuit.Reader.TheVariants as reader
use Rattle.rsfq_ids.specs.Circuit.{IsDrivenBy, IsPin}
use Rattle.rsfq_ids.specs.Offence.{ReadsFrom}
use Rattle.flat_aliases.specs.declared.link.Link.{Link}
use Rattle.flat_aliases.specs.Drives.{Leads}
use Rattle.net_graph.specs.Wiring.{cell_read, cell_behind}

-- the link is from the cell that drives the net of this pin, to the cell of the pin
abbrev pub IsLinkOf : Flat → Pin → Link → Type 0
IsLinkOf flat pin link = (from : Driver) × IsDrivenBy flat pin.net from × (cell_behind from ≡ Some link.from) × (cell_read pin.reader ≡ Some link.to)

-- the pin is of no cell, or no cell drives its net
abbrev pub IsNoLink : Flat → Pin → Type 0
IsNoLink flat pin = (from : Driver) × IsDrivenBy flat pin.net from × ((cell_behind from ≡ None) ⊎ (cell_read pin.reader ≡ None))

-- the links of the first so many pins
pub record AreLinks (flat : Flat) (count : ℕ) (links : List Link) : Type 0 where
  pub sound : (from to : ℕ) → Leads links from to → ReadsFrom flat to from
  pub complete : (place cell at net before out : ℕ) → place < count → IsPin flat place (reader.Pin cell at) net → IsDrivenBy flat net (driver.Out before out) → Leads links before cell
