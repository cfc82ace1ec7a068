-- The causes by their order, and what a look for one of them answers.
use Rattle.std.specs.Prelude.{◌≢◌, ℕ, ◌<◌, Result, MatchResult}
use Rattle.bind_forms.specs.declared.fault.BindFault.{BindFault}
use Rattle.bind_forms.specs.declared.fault.BindFault.TheVariants.{Memory}
use Rattle.bind_forms.specs.Modules.{Setting}
use Rattle.bind_forms.specs.Faults.{Place, IsBefore}
use Rattle.bind_forms.specs.First.{Line, Duplicates, Tops, Kinds, Rings, UnknownPorts, PortsTwice, TooManyLinks, UnknownNames, Ranges, Widths, WidthLimits, StandsAt, StandsNowhere}

-- the place of a cause among all
abbrev pub rank : Line → ℕ
rank Duplicates = 0
rank Tops = 1
rank Kinds = 2
rank Rings = 3
rank UnknownPorts = 4
rank PortsTwice = 5
rank TooManyLinks = 6
rank UnknownNames = 7
rank Ranges = 8
rank Widths = 9
rank WidthLimits = 10

-- the first causes, as many as this, stand nowhere
pub record IsClear (setting : Setting) (count : ℕ) : Type 0 where
  pub none : (line : Line) → rank line < count → StandsNowhere setting line

-- a cause stands with this fault, and at no earlier place
pub record IsFirstAt (line : Line) (setting : Setting) (why : BindFault) : Type 0 where
  pub place : Place
  pub stands : StandsAt line setting place why
  pub first : (before : Place) (other : BindFault) → IsBefore before place → ¬ StandsAt line setting before other

-- an answer: a fact where it is good; what a fault means, unless memory was wanting
abbrev pub Answers : {A : Type 0} → Result A BindFault → Type 0 → (BindFault → Type 0) → Type 0
Answers result Good Means = MatchResult result (λ _. Good) (λ why. why ≢ Memory → Means why)
