-- Where a name is first given to a thing of a sort, and where one is first given again.
use Rattle.std.specs.Prelude.{ℕ, ◌<◌, List, Option, MatchOption}
use Rattle.bind_sites.specs.declared.sort.Sort.{Sort}
use Rattle.bind_sites.specs.Sites.{Site}
use Rattle.bind_sites.specs.Again.{Gives, IsAgainBy}

-- no site before a limit gives the name
abbrev pub IsNotGiven : Sort → List Site → ℕ → List ℕ → Type 0
IsNotGiven by all limit name = (at : ℕ) → at < limit → ¬ Gives by all at name

-- The first place, before a limit, that gives the name; none where there is no such place.
abbrev pub IsFirstPlace : Sort → List Site → ℕ → List ℕ → Option ℕ → Type 0
IsFirstPlace by all limit name place = MatchOption place (IsNotGiven by all limit name) (λ at. (at < limit) × Gives by all at name × IsNotGiven by all at name)

-- no name is given again before a limit
abbrev pub HasNoneAgain : Sort → List Site → ℕ → Type 0
HasNoneAgain by all limit = (at : ℕ) (name : List ℕ) → at < limit → ¬ IsAgainBy by all at name

-- The first place, before a limit, that gives a name again, with the name; none where there is no such place.
abbrev pub IsFirstAgain : Sort → List Site → ℕ → Option (ℕ × List ℕ) → Type 0
IsFirstAgain by all limit again = MatchOption again (HasNoneAgain by all limit) (λ (at, name). (at < limit) × IsAgainBy by all at name × HasNoneAgain by all at)
