-- The names of one sort of things in a module, as the code holds them.
use Rattle.std.specs.Prelude.{ℕ, List, Option, Some, None}
use Rattle.std.specs.Option.{option_map}
use Rattle.name_table.specs.declared.places.FirstNames.{FirstNames}
use Rattle.name_table.specs.Places.{place_of}
use Rattle.bind_sites.specs.declared.sort.Sort.{Sort}
use Rattle.bind_sites.specs.Sites.{Site}
use Rattle.bind_sites.specs.Index.{IsFirstPlace, IsFirstAgain}
use Rattle.bind_names.specs.declared.index.Index.{Index}

-- each name stands with the first place that gives it to a thing of the sort
abbrev pub AreFirst : Sort → List Site → ℕ → FirstNames → Type 0
AreFirst by all limit names = (name : List ℕ) → IsFirstPlace by all limit name (place_of names name)

-- an index of the sites before a limit
pub record IsIndex (by : Sort) (all : List Site) (limit : ℕ) (index : Index) : Type 0 where
  pub names : AreFirst by all limit index.names
  pub again : IsFirstAgain by all limit (option_map (λ (at, name). (at, name.now)) index.again)

-- the first place that gives a name again, after a name was seen that stood at `before`
abbrev pub again_after : {A : Type 0} → Option ℕ → A → Option A → Option A
again_after None here again = again
again_after (Some before) here None = Some here
again_after (Some before) here (Some again) = Some again
