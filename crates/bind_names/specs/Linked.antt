-- The links by name of one instance.
use Rattle.std.specs.Prelude.{ℕ, ◌<◌, List, length, Option, Some, None, MatchOption}
use Rattle.name_table.specs.declared.places.FirstNames.{FirstNames}
use Rattle.name_table.specs.Places.{place_of}
use Rattle.verilog_tree.specs.Trees.{Expr, Links}
use Rattle.bind_sites.specs.Sites.{Site, Instance, Named}
use Rattle.bind_sites.specs.Scope.{IsAt}
use Rattle.bind_sites.specs.Refused.{IsPortTwice}

-- a link by name of a port stands at a place
abbrev pub LinksPort : List Site → ℕ → List ℕ → Type 0
LinksPort all at name = (kind : List ℕ) × (expr : Option Expr) × IsAt all at (Named kind name expr)

-- an instance stands at a place
abbrev pub HoldsInstance : List Site → ℕ → Type 0
HoldsInstance all at = (kind : List ℕ) × (name : List ℕ) × (links : Links) × IsAt all at (Instance kind name links)

-- a link by name of a port stands before a place, and no instance between them
abbrev pub IsLinkedBefore : List Site → ℕ → List ℕ → Type 0
IsLinkedBefore all at name = (earlier : ℕ) × (earlier < at) × LinksPort all earlier name × ((between : ℕ) → earlier < between → between < at → ¬ HoldsInstance all between)

-- the names that were seen are those of the ports that are linked so
abbrev pub AreLinked : List Site → ℕ → FirstNames → Type 0
AreLinked all at linked = (name : List ℕ) → MatchOption (place_of linked name) (¬ IsLinkedBefore all at name) (λ _. IsLinkedBefore all at name)

-- a name, where it was seen before
abbrev pub seen_again : Option ℕ → List ℕ → Option (List ℕ)
seen_again None name = None
seen_again (Some place) name = Some name

-- the port that is linked again at a place; none where none is
abbrev pub IsLinkedAgain : List Site → ℕ → Option (List ℕ) → Type 0
IsLinkedAgain all at again = MatchOption again ((name : List ℕ) → ¬ IsPortTwice all at name) (IsPortTwice all at)

-- no port is linked again before a limit
abbrev pub HasNoPortTwice : List Site → ℕ → Type 0
HasNoPortTwice all limit = (at : ℕ) (name : List ℕ) → at < limit → ¬ IsPortTwice all at name

-- The first place that links a port again, with the port's name; none where there is no such place.
abbrev pub IsFirstPortTwice : List Site → Option (ℕ × List ℕ) → Type 0
IsFirstPortTwice all twice = MatchOption twice (HasNoPortTwice all (length all)) (λ (at, name). (at < length all) × IsPortTwice all at name × HasNoPortTwice all at)
