-- Assigns are looked at one after another, and those that join what none before them does are kept by their places.
use Rattle.std.proofs.Common.{◌≡◌, ◌∙◌, ◌+◌, ◌<◌, ◌||◌, ℕ, Bool, true, false, cond, List, [], ◌∷◌, ◌++◌, take, drop, length, get_or, Some, refl, sym, ap, subst, arith, add-one, append_assoc, drop-cons}
use Rattle.std.specs.Prelude.{slice_get, option_to_list, not}
use Rattle.std.specs.List.{flat_map, enumerate_from}
use Rattle.std.specs.Str.{bytes_eq}
use Rattle.std.specs.Ordering.{nat_cmp, is_eq}
use Rattle.std.specs.declared.cmp.Ordering.{Ordering}
use Rattle.std.specs.Cmp.Lexicographic.{slice_cmp}
use Rattle.std.specs.declared.vec.Vec.{Vec}
use Rattle.std.specs.declared.alloc.Global.{Global}
use Rattle.std.specs.BTreeMap.{is_at}
use Rattle.std.specs.BTreeSet.{BTreeSet, contains, Updates}
use Rattle.std.proofs.lemmas.List.{append-nil}
use Rattle.std.proofs.lemmas.List.Folds.{list_any_more}
use Rattle.std.proofs.lemmas.Map.Text.{is_eq-slice_cmp}
use Rattle.flat_aliases.specs.declared.link.Link.{Link}
use Rattle.bind_forms.specs.declared.bound.BoundAssign.{BoundAssign}
use Rattle.flat_places.specs.Assigns.{assign_key, has_key, new_place, picked_assigns}
use Rattle.flat_places.specs.Bits.{assign_links}
use Rattle.flattener.proofs.Lists.{numbered_step}

-- keys by their numbers
abbrev pub key_cmp : Vec ℕ Global → Vec ℕ Global → Ordering
key_cmp one other = slice_cmp nat_cmp one.items other.items

-- what was seen are the keys of these assigns
abbrev pub HasSeen : List BoundAssign → BTreeSet (Vec ℕ Global) → Type 0
HasSeen assigns seen = (key : Vec ℕ Global) → contains key_cmp seen key ≡ has_key assigns key.items

either : (one other : Bool) → cond one true other ≡ (other || one)
either true true = refl
either true false = refl
either false true = refl
either false false = refl

-- one more key was seen
pub seen_more : (assigns : List BoundAssign) (at : ℕ) (one : BoundAssign) (old new : BTreeSet (Vec ℕ Global)) (key : Vec ℕ Global) → at < length assigns → one ≡ get_or assigns at one → key.items ≡ assign_key one → Updates key_cmp old new key true → HasSeen (take at assigns) old → HasSeen (take (at + 1) assigns) new
seen_more assigns at one old new key low there is updates seen = λ other.
    let test : is_at (key_cmp key) other ≡ bytes_eq (assign_key (get_or assigns at one)) other.items =
    is_eq-slice_cmp key.items other.items ∙ ap (λ (ns : List ℕ). bytes_eq ns other.items) (is ∙ ap assign_key there) in
    updates.0 other
    ∙ ap (λ (b : Bool). cond b true (contains key_cmp old other)) test
    ∙ ap (λ (b : Bool). cond (bytes_eq (assign_key (get_or assigns at one)) other.items) true b) (seen other)
    ∙ either (bytes_eq (assign_key (get_or assigns at one)) other.items) (has_key (take at assigns) other.items)
    ∙ sym (list_any_more (λ (a : BoundAssign). bytes_eq (assign_key a) other.items) assigns at one low)

-- whether a key is new
pub key_is_new : (assigns : List BoundAssign) (old : BTreeSet (Vec ℕ Global)) (key : Vec ℕ Global) (one : BoundAssign) (new : Bool) → key.items ≡ assign_key one → new ≡ not (contains key_cmp old key) → HasSeen assigns old → new ≡ not (has_key assigns (assign_key one))
key_is_new assigns old key one new is e seen = e ∙ ap not (seen key ∙ ap (has_key assigns) is)

-- a place was kept if it is new
pub places_more : (assigns : List BoundAssign) (at : ℕ) (one : BoundAssign) (places next whole : List ℕ) (new : Bool) → at < length assigns → one ≡ get_or assigns at one → new ≡ not (has_key (take at assigns) (assign_key one)) → next ≡ cond new (places ++ at ∷ []) places →
    places ++ flat_map (new_place assigns) (enumerate_from at (drop at assigns)) ≡ whole → next ++ flat_map (new_place assigns) (enumerate_from (at + 1) (drop (at + 1) assigns)) ≡ whole
places_more assigns at one places next whole new low there is e inv =
    ap (λ (ns : List ℕ). ns ++ flat_map (new_place assigns) (enumerate_from (at + 1) (drop (at + 1) assigns)))
    (e ∙ go (has_key (take at assigns) (assign_key one)) new is ∙ ap (λ (a : BoundAssign). places ++ new_place assigns (at, a)) there)
    ∙ numbered_step (new_place assigns) assigns at one places whole low inv where
      go : (has new : Bool) → new ≡ not has → cond new (places ++ at ∷ []) places ≡ places ++ cond has [] (at ∷ [])
      go true true h = absurd cc
      go true false h = sym (append-nil places)
      go false true h = refl
      go false false h = absurd cc

-- the links of the assign at the next place were written
pub links_more : (offsets : List ℕ) (assigns : List BoundAssign) (places : List ℕ) (i : ℕ) (one : BoundAssign) (done next whole : List Link) → i < length places → slice_get assigns (get_or places i 0) ≡ Some one → next ≡ done ++ assign_links offsets one →
    done ++ flat_map (assign_links offsets) (picked_assigns assigns (drop i places)) ≡ whole → next ++ flat_map (assign_links offsets) (picked_assigns assigns (drop (i + 1) places)) ≡ whole
links_more offsets assigns places i one done next whole low there e inv =
    let rest : picked_assigns assigns (drop i places) ≡ one ∷ picked_assigns assigns (drop (i + 1) places) =
    ap (picked_assigns assigns) (drop-cons places i 0 low)
    ∙ ap (λ (k : ℕ). picked_assigns assigns (get_or places i 0 ∷ drop k places)) (sym (add-one i))
    ∙ ap (λ o. option_to_list o ++ picked_assigns assigns (drop (i + 1) places)) there in
    ap (λ (ls : List Link). ls ++ flat_map (assign_links offsets) (picked_assigns assigns (drop (i + 1) places))) e
    ∙ append_assoc done (assign_links offsets one) (flat_map (assign_links offsets) (picked_assigns assigns (drop (i + 1) places)))
    ∙ ap (λ (xs : List BoundAssign). done ++ flat_map (assign_links offsets) xs) (sym rest)
    ∙ inv
