-- The links and starts that are worked on, with the links threaded by place.
use Rattle.flat_aliases.specs.declared.net.Net.{Net}
use Rattle.flat_aliases.specs.declared.spread.Spread.{Spread}
use Rattle.std.specs.Prelude.{ℕ, List, slice_get, Option, Some, ◌≡◌}
use Rattle.flat_aliases.specs.declared.link.Link.{Link}
use Rattle.flat_aliases.specs.Drives.{AreInside, Drives}
use Rattle.flat_aliases.specs.Threads.{AreThreads}
use Rattle.flat_aliases.specs.Spreads.{IsSpreading, IsSpread, IsSettledAt}

-- links and starts are inside, and the threads are those of the links
pub record IsNet (net : Net) : Type 0 where
  pub inside : AreInside net.links.now net.starts.now net.places
  pub threads : AreThreads net.links.now net.places net.threads

-- the net of these links, starts and places
pub record IsNetOf (links : List Link) (starts : List (Option ℕ)) (places : ℕ) (net : Net) : Type 0 where
  pub is_net : IsNet net
  pub same_links : net.links.now ≡ links
  pub same_starts : net.starts.now ≡ starts
  pub same_places : net.places ≡ places

-- the driver drives the place
abbrev pub DrivesIn : Net → ℕ → ℕ → Type 0
DrivesIn net driver place = Drives net.links.now net.starts.now driver place

-- a driver is on its way
abbrev pub IsOnItsWay : Net → ℕ → Spread → Type 0
IsOnItsWay net driver spread = IsSpreading net.links.now net.starts.now net.places driver spread

-- the drivers below the bound are spread
abbrev pub IsDone : Net → ℕ → Spread → Type 0
IsDone net bound spread = IsSpread net.links.now net.starts.now net.places bound spread

-- the place where the driver starts is settled
abbrev pub HasStarted : Net → ℕ → Spread → Type 0
HasStarted net driver spread = (place : ℕ) → slice_get net.starts.now driver ≡ Some (Some place) → IsSettledAt spread.held.items driver place
