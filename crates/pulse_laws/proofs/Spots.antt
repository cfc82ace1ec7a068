-- Places of given elements in filtered and joined lists.
use Rattle.std.proofs.Common.{◌≡◌, ℕ, zero, suc, ◌+◌, ◌<◌, Bool, true, false, cond, ◌||◌, List, [], ◌∷◌, ◌++◌, length, get_or, map, take, refl, sym, ap, ◌∙◌, arith, length-append}
use Rattle.std.specs.List.{filter, flat_map, list_any}
use Rattle.pulse_laws.proofs.Places.{append_left, append_right}

pub bool_same : (a b : Bool) → (a ≡ true → b ≡ true) → (b ≡ true → a ≡ true) → a ≡ b
bool_same true true f g = refl
bool_same true false f g = sym (f refl)
bool_same false true f g = g refl
bool_same false false f g = refl

module _ {X : Type 0} where
  -- where an element that passes stands in the filtered list
  pub record Kept (p : X → Bool) (xs : List X) (k : ℕ) : Type 0 where
    pub below : length (filter p (take k xs)) < length (filter p xs)
    pub same : (d : X) → get_or (filter p xs) (length (filter p (take k xs))) d ≡ get_or xs k d

  kept_first : (x : X) (F : List X) (b : Bool) → b ≡ true → (0 < length (cond b (x ∷ F) F)) × ((d : X) → get_or (cond b (x ∷ F) F) 0 d ≡ x)
  kept_first x F true is = (omega arith, λ d. refl)
  kept_first x F false is = cc

  kept_more : (x : X) (F G : List X) (b : Bool) (d : X) → get_or (cond b (x ∷ F) F) (length (cond b (x ∷ G) G)) d ≡ get_or F (length G) d
  kept_more x F G true d = refl
  kept_more x F G false d = refl

  kept_below : (x : X) (F G : List X) (b : Bool) → length G < length F → length (cond b (x ∷ G) G) < length (cond b (x ∷ F) F)
  kept_below x F G true l = omega arith
  kept_below x F G false l = l

  pub kept_at : (p : X → Bool) (xs : List X) (k : ℕ) → k < length xs → ((d : X) → p (get_or xs k d) ≡ true) → Kept p xs k
  kept_at p [] k l is = absurd (omega arith)
  kept_at p (x ∷ xs) zero l is = let h = kept_first x (filter p xs) (p x) (is x) in record { below = h.0; same = h.1 }
  kept_at p (x ∷ xs) (suc k) l is =
      let rest = kept_at p xs k (omega arith) is in
      record {
        below = kept_below x (filter p xs) (filter p (take k xs)) (p x) rest.below;
        same = λ d. kept_more x (filter p xs) (filter p (take k xs)) (p x) d ∙ rest.same d;
      }

  -- where an element of one of the lists stands in the joined list
  pub record Joined (f : ℕ → List X) (ns : List ℕ) (pin place : ℕ) : Type 0 where
    pub below : length (flat_map f (take pin ns)) + place < length (flat_map f ns)
    pub same : (d : X) → get_or (flat_map f ns) (length (flat_map f (take pin ns)) + place) d ≡ get_or (f (get_or ns pin 0)) place d

  pub joined_at : (f : ℕ → List X) (ns : List ℕ) (pin place : ℕ) → pin < length ns → place < length (f (get_or ns pin 0)) → Joined f ns pin place
  joined_at f [] pin place l m = absurd (omega arith)
  joined_at f (n ∷ ns) zero place l m =
      let e : 0 + place ≡ place = omega arith in
      record {
        below = omega (arith, m, length-append (f n) (flat_map f ns));
        same = λ d. ap (λ (i : ℕ). get_or (f n ++ flat_map f ns) i d) e ∙ append_left (f n) (flat_map f ns) place d m;
      }
  joined_at f (n ∷ ns) (suc pin) place l m =
      let rest = joined_at f ns pin place (omega arith) m in
      let e : length (f n ++ flat_map f (take pin ns)) + place ≡ length (f n) + (length (flat_map f (take pin ns)) + place) = omega (arith, length-append (f n) (flat_map f (take pin ns))) in
      record {
        below = omega (arith, rest.below, length-append (f n) (flat_map f ns), length-append (f n) (flat_map f (take pin ns)));
        same = λ d. ap (λ (i : ℕ). get_or (f n ++ flat_map f ns) i d) e ∙ append_right (f n) (flat_map f ns) (length (flat_map f (take pin ns)) + place) d ∙ rest.same d;
      }

any_first : (f : ℕ → Bool) (n : ℕ) (ns : List ℕ) (b : Bool) → f n ≡ b → (b || list_any (λ bit. bit) (map f ns)) ≡ true → (list_any (λ bit. bit) (map f ns) ≡ true → (pin : ℕ) × (pin < length ns) × (f (get_or ns pin 0) ≡ true)) →
    (pin : ℕ) × (pin < length (n ∷ ns)) × (f (get_or (n ∷ ns) pin 0) ≡ true)
any_first f n ns true is any rest = (0, omega arith, is)
any_first f n ns false is any rest = let found = rest any in (suc found.0, (let l = found.1 in omega arith), found.2)

pub any_map : (f : ℕ → Bool) (ns : List ℕ) → list_any (λ bit. bit) (map f ns) ≡ true → (pin : ℕ) × (pin < length ns) × (f (get_or ns pin 0) ≡ true)
any_map f [] any = cc
any_map f (n ∷ ns) any = any_first f n ns (f n) refl any (any_map f ns)

or_right : (a b : Bool) → b ≡ true → (a || b) ≡ true
or_right true b e = refl
or_right false b e = e

or_left : (a b : Bool) → a ≡ true → (a || b) ≡ true
or_left true b e = refl
or_left false b e = cc

pub any_map_from : (f : ℕ → Bool) (ns : List ℕ) (pin : ℕ) → pin < length ns → f (get_or ns pin 0) ≡ true → list_any (λ bit. bit) (map f ns) ≡ true
any_map_from f [] pin l is = absurd (omega arith)
any_map_from f (n ∷ ns) zero l is = or_left (f n) _ is
any_map_from f (n ∷ ns) (suc pin) l is = or_right (f n) _ (any_map_from f ns pin (omega arith) is)

pub map_same : (f g : ℕ → Bool) (ns : List ℕ) → ((pin : ℕ) → pin < length ns → f (get_or ns pin 0) ≡ g (get_or ns pin 0)) → map f ns ≡ map g ns
map_same f g [] each = refl
map_same f g (n ∷ ns) each =
    let head : f n ≡ g n = each 0 (omega arith) in
    let tail : map f ns ≡ map g ns = map_same f g ns (λ pin l. each (suc pin) (omega arith)) in cc
