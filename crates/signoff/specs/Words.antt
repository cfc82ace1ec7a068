-- What the words of the command line ask for.
use Rattle.std.specs.Prelude.{◌≡◌, ℕ, ◌≤◌, List, [], ◌∷◌, map, decimal, String, string_bytes}
use Rattle.signoff.specs.declared.words.Times.{Times}

-- the words as bytes
abbrev pub texts : {Z : Type 0} → List (String Z) → List (List ℕ)
texts words = map string_bytes words

-- a period of at least 1 and an arrival interval, in femtoseconds, each number up to the largest
pub record AreTimes (times : Times) : Type 0 where
  pub period_from : 1 ≤ times.period
  pub period_to : times.period ≤ 1000000000
  pub arrival : times.low ≤ times.high
  pub arrival_to : times.high ≤ 1000000000

-- The words ask for the sign-off of this netlist with these times: they are its name and the three numbers as they print,
-- which is without sign and leading zeros.
pub record Asks (words : List (List ℕ)) (netlist : List ℕ) (times : Times) : Type 0 where
  pub words_are : words ≡ netlist ∷ decimal times.period ∷ decimal times.low ∷ decimal times.high ∷ []
  pub times_are : AreTimes times

-- the words ask for no sign-off
abbrev pub AsksNothing : List (List ℕ) → Type 0
AsksNothing words = (netlist : List ℕ) (times : Times) → ¬ Asks words netlist times
