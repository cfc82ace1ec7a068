-- Printed names behind the paths of instances that lead to them.
use Rattle.std.specs.Prelude.{ℕ, List, ◌∷◌, ◌++◌, Option, Some, None}

-- a name behind the path that leads to it, if one does, with a dot between
abbrev pub longer : Option (List ℕ) → List ℕ → List ℕ
longer None name = name
longer (Some path) name = path ++ 46 ∷ name
