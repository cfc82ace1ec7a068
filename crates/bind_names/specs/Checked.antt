-- What the tests of a module's names look at.
use Rattle.std.specs.Prelude.{◌≡◌, Bool, ◌≢◌, ℕ, ◌<◌, List, Option, Some, None}
use Rattle.rsfq_ids.specs.declared.limits.TheConstants.{WIDTH_LIMIT}
use Rattle.bind_sites.specs.Sites.{Operand, Site, Port, Wire, Assigned, Linked}
use Rattle.bind_sites.specs.Selects.{width_of}
use Rattle.bind_sites.specs.Scope.{StandsBefore, IsPort, HasRange}
use Rattle.bind_sites.specs.Refused.{IsOutside}
use Rattle.bind_names.specs.Scoped.{Declares}

-- a name, where bits are selected of it
abbrev pub selected_name : List ℕ → Option (ℕ × ℕ) → Option (List ℕ)
selected_name name None = None
selected_name name (Some select) = Some name

-- the name that is to be known at a site: that of an operand, but for one that stands whole in a link
abbrev pub wanted_name : Site → Option (List ℕ)
wanted_name (Assigned operand) = Some operand.name
wanted_name (Linked operand) = selected_name operand.name operand.select
wanted_name _ = None

-- the name of an operand of which bits are selected that it lacks
abbrev pub IsRefusedSelect : List Site → Operand → List ℕ → Type 0
IsRefusedSelect all operand name = (select : ℕ × ℕ) × (range : Option (ℕ × ℕ)) × (operand ≡ record { name = name; select = Some select }) × HasRange all name range × IsOutside range select

-- a place stands before another and declares another range
abbrev pub IsOtherAt : List Site → ℕ → ℕ → Option (ℕ × ℕ) → Type 0
IsOtherAt all earlier at range = (earlier < at) × ((other : Option (ℕ × ℕ)) × Declares all earlier other × (range ≢ other))

-- a direction that stands before a place gives a name another range
abbrev pub IsOtherPort : List Site → ℕ → List ℕ → Option (ℕ × ℕ) → Type 0
IsOtherPort all at name range = (output : Bool) × (other : Option (ℕ × ℕ)) × StandsBefore all at (Port name output other) × (range ≢ other)

-- a declaration as a wire that stands before a place gives a name another range
abbrev pub IsOtherWire : List Site → ℕ → List ℕ → Option (ℕ × ℕ) → Type 0
IsOtherWire all at name range = (other : Option (ℕ × ℕ)) × StandsBefore all at (Wire name other) × (range ≢ other)

-- a port that is wider than 4,096 bits, by its name
abbrev pub IsWidePort : List Site → List ℕ → ℕ → Type 0
IsWidePort all name width = (output : Bool) × (range : Option (ℕ × ℕ)) × IsPort all name output range × (width ≡ width_of range) × (WIDTH_LIMIT < width)
