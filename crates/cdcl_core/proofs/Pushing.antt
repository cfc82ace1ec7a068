-- One more true literal on the fields of a trail.
use Rattle.std.proofs.Common.{inl, inr, zero, suc, ◌≡◌, ◌∙◌, ◌+◌, ◌*◌, ◌<◌, ◌≤◌, ◌^◌, Option, ◌∷◌, ap₂, set, ℕ, List, length, sym, ap, arith, subst, Some, None, get_or}
use Rattle.std.proofs.Math.ListN.{length-set}
use Rattle.cdcl_core.specs.declared.trail.TrueLit.{TrueLit}
use Rattle.cdcl_core.specs.declared.trail.Trail.TheInside.{Inside}
use Rattle.cdcl_core.specs.Trail.{IsFree, level_in}
use Rattle.cdcl_core.specs.Oldest.{Truths, IsPlain, IsAt, oldest}
use Rattle.cdcl_core.specs.Kept.{newest, entry_at, truths_of, IsKept}
use Rattle.cdcl_core.proofs.Few.{plain_few}
use Rattle.cdcl_core.proofs.Newest.{length_newest, newest_pushed, table_pushed, oldest_newest}
use Rattle.cdcl_core.proofs.Trails.{at_newest, at_older}
use Rattle.std.proofs.lemmas.Bool.{cases_eq}
use Rattle.std.proofs.lemmas.Option.{none-some}
use Rattle.std.proofs.lemmas.List.{get_or-set_same, get_or-set_other}

pub more : (vars : ℕ) (trail : List TrueLit) (lit : ℕ) → IsPlain vars trail → lit < 2 * vars → IsFree trail lit → length trail < vars
more vars trail lit plain within free =
    let entry : TrueLit = record { lit = lit; level = 0; reason = None } in
    let one : length (entry ∷ trail) ≤ vars = plain_few vars (entry ∷ trail) (record { within = within; free = free }, plain) in
    omega arith

-- there is room, as the view has it and as the fields have it
pub room_seen : (a : Inside) (t : Truths) (lit : ℕ) → truths_of a ≡ t → IsKept a → lit < 2 * t.vars → IsFree t.trail lit → length t.trail < t.vars
room_seen a t lit view kept within free = more t.vars t.trail lit (subst (λ (t : Truths). IsPlain t.vars t.trail) view kept.plain) within free

pub room_held : (a : Inside) (t : Truths) (lit : ℕ) → truths_of a ≡ t → IsKept a → lit < 2 * t.vars → IsFree t.trail lit → a.count < length a.entries.items
room_held a t lit view kept within free =
    let room = room_seen a t lit view kept within free in
    let is = ap (λ (t : Truths). length t.trail) view in
    let vars = ap (λ (t : Truths). t.vars) view in
    omega (arith, is, vars, room, length_newest a.entries.items a.count)

pub pushed_seen : (a : Inside) (t : Truths) (entry : TrueLit) → truths_of a ≡ t → IsKept a → entry.lit < 2 * t.vars → IsFree t.trail entry.lit
    → ◌≡◌ {A = Truths} (record { vars = length (set a.entries.items a.count entry); trail = newest (set a.entries.items a.count entry) (a.count + 1) }) (record { vars = t.vars; trail = entry ∷ t.trail })
pushed_seen a t entry view kept within free =
    let room = room_held a t entry.lit view kept within free in
    let vars = ap (λ (t : Truths). t.vars) view in
    let trail = ap (λ (t : Truths). t.trail) view in
    ap₂ (λ (v : ℕ) (xs : List TrueLit). let t : Truths = record { vars = v; trail = xs } in t) (length-set a.entries.items a.count entry ∙ vars)
    (newest_pushed a.entries.items a.count entry room ∙ ap (λ (xs : List TrueLit). entry ∷ xs) trail)

-- each of the entries is true
newest_has : (entries : List TrueLit) (count n : ℕ) → n < count → level_in (newest entries count) (entry_at entries n).lit ≡ None → ⊥
newest_has entries zero n l e = absurd (omega arith)
newest_has entries (suc k) n l e = elim (cases_eq (entry_at entries n).lit (entry_at entries k).lit) [
  | inl same ↦ none-some (entry_at entries k).level (sym e ∙ at_newest (entry_at entries k) (newest entries k) (entry_at entries n).lit same)
  | inr differ ↦ elim (cases_eq n k) [
    | inl last ↦ differ (ap (λ m. (entry_at entries m).lit) last)
    | inr other ↦ newest_has entries k n (omega arith) (sym (at_older (entry_at entries k) (newest entries k) (entry_at entries n).lit differ) ∙ e)
  ]
]

-- the places after a push
places_pushed : (entries : List TrueLit) (places : List ℕ) (count : ℕ) (entry : TrueLit) → count < length entries → entry.lit < length places → level_in (newest entries count) entry.lit ≡ None
    → ((n : ℕ) → n < count → get_or places (entry_at entries n).lit 0 ≡ n)
    → (n : ℕ) → n < count + 1 → get_or (set places entry.lit count) (entry_at (set entries count entry) n).lit 0 ≡ n
places_pushed entries places count entry room within free old = λ n l. elim (cases_eq n count) [
  | inl last ↦
      let here : (entry_at (set entries count entry) n).lit ≡ entry.lit = ap (λ m. (entry_at (set entries count entry) m).lit) last ∙ ap (λ (x : TrueLit). x.lit) (get_or-set_same entries count entry (record { lit = 0; level = 0; reason = None }) room) in
      ap (λ k. get_or (set places entry.lit count) k 0) here ∙ (get_or-set_same places entry.lit count 0 within ∙ sym last)
  | inr other ↦
      let here : (entry_at (set entries count entry) n).lit ≡ (entry_at entries n).lit = ap (λ (x : TrueLit). x.lit) (get_or-set_other entries count n entry (record { lit = 0; level = 0; reason = None }) other) in
      let differ : (entry_at entries n).lit ≡ entry.lit → ⊥ = λ e. newest_has entries count n (omega arith) (ap (level_in (newest entries count)) e ∙ free) in
      ap (λ k. get_or (set places entry.lit count) k 0) here ∙ (get_or-set_other places entry.lit (entry_at entries n).lit count 0 differ ∙ old n (omega arith))
]

same_head : (x y : TrueLit) (xs ys : List TrueLit) → x ∷ xs ≡ y ∷ ys → x ≡ y
same_head x y xs ys e = cc

-- the place of a literal, as the fields have it
pub place_found : (a : Inside) (t : Truths) (place lit x : ℕ) → truths_of a ≡ t → IsKept a → place < length t.trail → IsAt t.trail place lit → x ≡ get_or a.places.items lit 0 → x ≡ place
place_found a t place lit x view kept l at is =
    let trail : newest a.entries.items a.count ≡ t.trail = ap (λ (t : Truths). t.trail) view in
    let size = ap (λ (xs : List TrueLit). length xs) trail in
    let below : place < a.count = omega (arith, size, l, length_newest a.entries.items a.count) in
    let next : place + 1 ≡ suc place = omega arith in
    let there : oldest (place + 1) (newest a.entries.items a.count) ≡ at.entry ∷ oldest place t.trail = ap (oldest (place + 1)) trail ∙ at.there in
    let here : oldest (place + 1) (newest a.entries.items a.count) ≡ entry_at a.entries.items place ∷ newest a.entries.items place =
    oldest_newest a.entries.items (place + 1) a.count (omega arith) ∙ ap (newest a.entries.items) next in
    let same : entry_at a.entries.items place ≡ at.entry = same_head (entry_at a.entries.items place) at.entry (newest a.entries.items place) (oldest place t.trail) (sym here ∙ there) in
    let lits : lit ≡ (entry_at a.entries.items place).lit = sym at.has ∙ ap (λ (x : TrueLit). x.lit) (sym same) in
    is ∙ (ap (λ k. get_or a.places.items k 0) lits ∙ kept.places place below)

-- what the fields keep
pub record Pushed (entries : List TrueLit) (count : ℕ) (levels : List (Option ℕ)) (spots : List ℕ) : Type 0 where
  pub count_in : count ≤ length entries
  pub few : length entries < 2 ^ 32
  pub size : length levels ≡ 2 * length entries
  pub plain : IsPlain (length entries) (newest entries count)
  pub places_size : length spots ≡ 2 * length entries
  pub places : (n : ℕ) → n < count → get_or spots (entry_at entries n).lit 0 ≡ n
  pub table : (lit : ℕ) → lit < 2 * length entries → get_or levels lit None ≡ level_in (newest entries count) lit

pub pushed_held : (a : Inside) (t : Truths) (entry : TrueLit) → truths_of a ≡ t → IsKept a → entry.lit < 2 * t.vars → IsFree t.trail entry.lit
    → Pushed (set a.entries.items a.count entry) (a.count + 1) (set a.levels.items entry.lit (Some entry.level)) (set a.places.items entry.lit a.count)
pushed_held a t entry view kept within free =
    let room = room_held a t entry.lit view kept within free in
    let vars : length a.entries.items ≡ t.vars = ap (λ (t : Truths). t.vars) view in
    let trail : newest a.entries.items a.count ≡ t.trail = ap (λ (t : Truths). t.trail) view in
    let size : length (set a.entries.items a.count entry) ≡ length a.entries.items = length-set a.entries.items a.count entry in
    let sizes : length (set a.levels.items entry.lit (Some entry.level)) ≡ length a.levels.items = length-set a.levels.items entry.lit (Some entry.level) in
    let old = kept.size in
    let is = newest_pushed a.entries.items a.count entry room in
    let inside : entry.lit < 2 * length a.entries.items = omega arith in
    let free_here : IsFree (newest a.entries.items a.count) entry.lit = subst (λ (xs : List TrueLit). IsFree xs entry.lit) (sym trail) free in
    record {
      count_in = omega arith;
      few = omega (arith, kept.few);
      size = omega arith;
      plain = subst (λ n. IsPlain n (newest (set a.entries.items a.count entry) (a.count + 1))) (sym size)
          (subst (IsPlain (length a.entries.items)) (sym is) (record { within = inside; free = free_here }, kept.plain));
      places_size = let places : length (set a.places.items entry.lit a.count) ≡ length a.places.items = length-set a.places.items entry.lit a.count in let was = kept.places_size in omega arith;
      places = places_pushed a.entries.items a.places.items a.count entry room (let was = kept.places_size in omega arith) free_here.one kept.places;
      table = λ lit l. table_pushed (newest a.entries.items a.count) a.levels.items (2 * length a.entries.items) entry inside kept.size kept.table lit (omega arith)
          ∙ ap (λ (xs : List TrueLit). level_in xs lit) (sym is);
    }

-- what the fields keep where the newest is taken away
pub popped_held : (a : Inside) (k : ℕ) → IsKept a → a.count ≡ suc k → Pushed a.entries.items k (set a.levels.items (entry_at a.entries.items k).lit None) a.places.items
popped_held a k kept is =
    let entry = entry_at a.entries.items k in
    let few = kept.count in
    let size = kept.size in
    let plain : IsPlain (length a.entries.items) (entry ∷ newest a.entries.items k) = subst (λ n. IsPlain (length a.entries.items) (newest a.entries.items n)) is kept.plain in
    let within : entry.lit < 2 * length a.entries.items = plain.0.within in
    record {
      count_in = omega arith;
      few = kept.few;
      size = length-set a.levels.items entry.lit None ∙ kept.size;
      plain = plain.1;
      places_size = kept.places_size;
      places = λ n l. kept.places n (omega arith);
      table = λ lit l. elim (cases_eq lit entry.lit) [
        | inl same ↦
            ap (λ x. get_or (set a.levels.items entry.lit None) x None) same
            ∙ (get_or-set_same a.levels.items entry.lit None None (omega arith) ∙ (sym plain.0.free.one ∙ ap (level_in (newest a.entries.items k)) (sym same)))
        | inr differ ↦
            get_or-set_other a.levels.items entry.lit lit None None differ
            ∙ (kept.table lit l ∙ (ap (λ n. level_in (newest a.entries.items n) lit) is ∙ at_older entry (newest a.entries.items k) lit differ))
      ];
    }
