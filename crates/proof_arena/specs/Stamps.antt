-- The stamps that hold which literals are false.
use Rattle.std.specs.Prelude.{◌==◌, ◌≤◌, map}
use Rattle.std.specs.List.{All}
use Rattle.proof_arena.specs.Table.{Marked}
use Rattle.proof_arena.specs.declared.marks.Marks.TheInside.{Inside}

abbrev pub marked_of : Inside → Marked
marked_of a = record { table = map (λ stamp. stamp == a.count) a.stamps.items; beyond = a.beyond.keys }

-- no stamp is of a count to come
pub record AreStamps (a : Inside) : Type 0 where
  pub started : 1 ≤ a.count
  pub past : All (λ stamp. stamp ≤ a.count) a.stamps.items
