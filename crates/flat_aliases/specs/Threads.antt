-- The links that lead from each place, from the last one to the first.
use Rattle.std.specs.Prelude.{◌≡◌, ℕ, ◌+◌, ◌<◌, ◌≤◌, List, length, slice_get, Option, Some, None}
use Rattle.flat_aliases.specs.declared.link.Link.{Link}
use Rattle.flat_aliases.specs.declared.threads.Threads.{Threads}

-- no link between the two numbers leads from the place
abbrev pub NoneFrom : List Link → ℕ → ℕ → ℕ → Type 0
NoneFrom links place low high = (at to : ℕ) → low ≤ at → at < high → slice_get links at ≡ Some (record { from = place; to = to }) → ⊥

-- the last of the links below a number that lead from the place, if there is one
abbrev pub IsLastFrom : List Link → ℕ → ℕ → Option ℕ → Type 0
IsLastFrom links place high None = NoneFrom links place 0 high
IsLastFrom links place high (Some last) = (last < high) × ((to : ℕ) × (slice_get links last ≡ Some (record { from = place; to = to }))) × NoneFrom links place (last + 1) high

-- for each place the last link that leads from it, and for each link the one before it from the same place
pub record IsThreaded (links : List Link) (places : ℕ) (last before : List (Option ℕ)) : Type 0 where
  pub lasts : length last ≡ places
  pub befores : length before ≡ length links
  pub last_of : (place : ℕ) (o : Option ℕ) → slice_get last place ≡ Some o → IsLastFrom links place (length links) o
  pub before_of : (at from to : ℕ) (o : Option ℕ) → slice_get links at ≡ Some (record { from = from; to = to }) → slice_get before at ≡ Some o → IsLastFrom links from at o

-- how many links are left to look at
abbrev pub left_of : Option ℕ → ℕ
left_of None = 0
left_of (Some at) = at + 1

abbrev pub AreThreads : List Link → ℕ → Threads → Type 0
AreThreads links places threads = IsThreaded links places threads.last.items threads.before.items
