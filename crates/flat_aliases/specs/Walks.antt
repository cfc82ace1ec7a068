-- A walk along the links, depth first: which places are done, and which stand on the path.
use Rattle.std.specs.Prelude.{◌≡◌, ◌⊎◌, ℕ, ◌+◌, ◌*◌, ◌<◌, List, [], ◌∷◌, ◌++◌, length, slice_get, slice_set, Option, Some, None}
use Rattle.std.specs.List.{sum_by}
use Rattle.flat_aliases.specs.declared.link.Link.{Link}
use Rattle.flat_aliases.specs.declared.rings.Mark.{Mark}
use Rattle.flat_aliases.specs.declared.rings.Mark.TheVariants.{New, Open, Done}
use Rattle.flat_aliases.specs.declared.rings.Walk.{Walk}
use Rattle.flat_aliases.specs.Drives.{Leads, LeadsOver}
use Rattle.flat_aliases.specs.Threads.{IsLastFrom, left_of}

-- a place has this mark
abbrev pub IsMarked : List Mark → ℕ → Mark → Type 0
IsMarked marks place mark = slice_get marks place ≡ Some mark

-- the links with greater numbers than the cursor were walked
abbrev pub IsWalked : Option ℕ → ℕ → Type 0
IsWalked None at = Unit {0}
IsWalked (Some cursor) at = cursor < at

-- a link of this number leads so
abbrev pub IsLink : List Link → ℕ → ℕ → ℕ → Type 0
IsLink links at from to = slice_get links at ≡ Some (record { from = from; to = to })

-- for each link the one before it from the same place
pub record AreBefore (links : List Link) (before : List (Option ℕ)) : Type 0 where
  pub count : length before ≡ length links
  pub before_of : (at from to : ℕ) (o : Option ℕ) → IsLink links at from to → slice_get before at ≡ Some o → IsLastFrom links from at o

-- Done places lead to done places alone and stand in no ring; the open places are the path; and each link that was walked leads to a done place or on along the path.
pub record IsWalkOf (links : List Link) (places : ℕ) (marks : List Mark) (cursors : List (Option ℕ)) (path : List ℕ) : Type 0 where
  pub mark_count : length marks ≡ places
  pub cursor_count : length cursors ≡ places
  pub cursor : (place at : ℕ) → slice_get cursors place ≡ Some (Some at) → (to : ℕ) × IsLink links at place to
  pub done_next : (from to : ℕ) → IsMarked marks from Done → Leads links from to → IsMarked marks to Done
  pub done_free : (place : ℕ) (between : List ℕ) → IsMarked marks place Done → LeadsOver links place between place → ⊥
  pub path_open : (k place : ℕ) → slice_get path k ≡ Some place → IsMarked marks place (Open k)
  pub open_path : (place k : ℕ) → IsMarked marks place (Open k) → slice_get path k ≡ Some place
  pub along : (k from to : ℕ) → slice_get path k ≡ Some from → slice_get path (k + 1) ≡ Some to → Leads links from to
  pub walked_new : (place at to : ℕ) (cursor : Option ℕ) → IsMarked marks place New → slice_get cursors place ≡ Some cursor → IsWalked cursor at → IsLink links at place to → ⊥
  pub walked_open : (place k at to : ℕ) (cursor : Option ℕ) → IsMarked marks place (Open k) → slice_get cursors place ≡ Some cursor → IsWalked cursor at → IsLink links at place to →
      IsMarked marks to Done ⊎ (slice_get path (k + 1) ≡ Some to)

pub record IsWalk (links : List Link) (places : ℕ) (walk : Walk) : Type 0 where
  pub links_before : AreBefore links walk.before.items
  pub is_walk : IsWalkOf links places walk.marks.items walk.cursors.items walk.path.items

-- a place that is not new does not become so
abbrev pub StaysSeen : List Mark → List Mark → Type 0
StaysSeen old new = (place : ℕ) → (IsMarked old place New → ⊥) → IsMarked new place New → ⊥

-- how much is left to walk at most
abbrev pub left_to_walk : Walk → ℕ
left_to_walk walk = 2 * sum_by left_of walk.cursors.items + length walk.path.items

-- Links lead along a path of different places, and from its end back to its place `first`.
pub record IsRingAt (links : List Link) (path : List ℕ) (first : ℕ) : Type 0 where
  pub inside : first < length path
  pub along : (k from to : ℕ) → slice_get path k ≡ Some from → slice_get path (k + 1) ≡ Some to → Leads links from to
  pub once : (i j place : ℕ) → slice_get path i ≡ Some place → slice_get path j ≡ Some place → i ≡ j
  pub back : (k last place : ℕ) → length path ≡ k + 1 → slice_get path k ≡ Some last → slice_get path first ≡ Some place → Leads links last place

-- a walk with no place on its path, which may begin at a new place
pub record IsResting (links : List Link) (places : ℕ) (walk : Walk) : Type 0 where
  pub is_walk : IsWalk links places walk
  pub empty : walk.path.items ≡ []

-- a place was put at the end of the path, and the rest is as it was
pub record IsOpened (place : ℕ) (old new : Walk) : Type 0 where
  pub marks : new.marks.items ≡ slice_set old.marks.items place (Open (length old.path.items))
  pub cursors : new.cursors.items ≡ old.cursors.items
  pub before : new.before.items ≡ old.before.items
  pub path : new.path.items ≡ old.path.items ++ place ∷ []

-- the place is the last of the path
abbrev pub EndsIn : List ℕ → ℕ → Type 0
EndsIn path place = (k : ℕ) × (length path ≡ k + 1) × (slice_get path k ≡ Some place)
