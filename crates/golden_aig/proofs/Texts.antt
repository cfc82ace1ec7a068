-- Tables of texts, texts that are there once, and lists that are each other in another order.
use Rattle.std.proofs.Common.{◌≡◌, ◌≢◌, ℕ, zero, suc, ◌+◌, ◌<◌, ◌≤◌, Bool, true, false, refl, sym, ◌∙◌, ap, ap₂, subst, arith, cond, not, length-append, List, [], ◌∷◌, ◌++◌, length, take, drop, drop-cons, get_or, Option, None, Some, inl, inr}
use Rattle.std.specs.Prelude.{nat_lt, is_some, position, if◌then◌else◌}
use Rattle.std.specs.List.{All, AllPairs, Contains, position_or_len, remove}
use Rattle.std.specs.List.Sorted.{IsPermutation}
use Rattle.std.specs.Str.{bytes_eq}
use Rattle.std.proofs.lemmas.List.{take-append-drop, length-map, length-take-le, get_or_default, get_or-map, take_more, map-append}
use Rattle.std.proofs.Math.Dec.{eqb}
use Rattle.std.proofs.lemmas.Bool.{cases_lt, ltb-false, lt-ltb, le-ltb, eq-eqb, ne_eqb}
use Rattle.std.proofs.lemmas.List.Folds.{position_or_len_push}
use Rattle.std.proofs.lemmas.List.Sums.{prefix_len-le-length}
use Rattle.std.proofs.lemmas.List.Quantifiers.{position-Some, all_pairs_push}
use Rattle.std.proofs.lemmas.List.Elements.{All-tail, All-head}
use Rattle.std.proofs.lemmas.List.Sorted.{IsPermutation-refl, IsPermutation-remove, IsPermutation-cons, IsPermutation-trans, Contains-permutation, length_permutation}
use Rattle.std.proofs.lemmas.Slice.Eq.{bytes_eq-Decides}
use Rattle.rsfq_ids.specs.WellFormed.{AreDistinct}
use Rattle.rsfq_ids.specs.declared.id.PortId.{PortId}
use Rattle.rsfq_ids.specs.declared.circuit.Flat.{Flat}
use Rattle.golden_aig.specs.Matched.{name_of, names_of, symbols_of, IsMatched, IsMixed, Refuses, MemoryOr, Repeats, LacksPort}
use Rattle.golden_aig.specs.declared.pairing.PortFault.{PortFault}
use Rattle.golden_aig.specs.declared.pairing.PortFault.TheVariants as fault
use Rattle.golden_aig.specs.FirstPlaces.{place_in, HoldsPlaces}
use Rattle.name_table.specs.declared.places.FirstNames.{FirstNames}
use Rattle.name_table.specs.Places.{place_of, first_place, Sees}

pub bytes_same : (s t : List ℕ) → bytes_eq s t ≡ true → s ≡ t
bytes_same s t e = (bytes_eq-Decides s t).0 e

same_bytes : (t : List ℕ) → bytes_eq t t ≡ true
same_bytes t = (bytes_eq-Decides t t).1 refl

pub place_there : (names : List (List ℕ)) (name : List ℕ) (k : ℕ) → place_in names name ≡ Some k → (k < length names) × (get_or names k [] ≡ name)
place_there names name k is =
    let at = position-Some (bytes_eq name) names k [] is in
    (at.0, sym (bytes_same name (get_or names k []) at.1))

pub place_contains : (names : List (List ℕ)) (name : List ℕ) (k : ℕ) → place_in names name ≡ Some k → Contains names name
place_contains names name k is =
    let at = position-Some (bytes_eq name) names k name is in
    (k, at.0, sym (bytes_same name (get_or names k name) at.1))

position-none : (name : List ℕ) (names : List (List ℕ)) → length names ≤ position_or_len (bytes_eq name) names → ¬ Contains names name
position-none name [] le there = let lt = there.1 in absurd (omega arith)
position-none name (x ∷ xs) le (zero, lt, at) =
    let yes : bytes_eq name x ≡ true = ap (bytes_eq name) at ∙ same_bytes name in
    let no : length (x ∷ xs) ≤ 0 = rw yes at le in
    omega arith
position-none name (x ∷ xs) le (suc k, lt, at) = go (bytes_eq name x) refl (position-none name xs) where
  go : (b : Bool) → bytes_eq name x ≡ b → (length xs ≤ position_or_len (bytes_eq name) xs → ¬ Contains xs name) → ⊥
  go true is more =
      let no : length (x ∷ xs) ≤ 0 = rw is at le in
      omega arith
  go false is more =
      let shorter : length (x ∷ xs) ≤ 1 + position_or_len (bytes_eq name) xs = rw is at le in
      more (omega arith) (k, omega arith, at)

pub place_absent : (names : List (List ℕ)) (name : List ℕ) → place_in names name ≡ None → ¬ Contains names name
place_absent names name is = position-none name names (go (nat_lt (position_or_len (bytes_eq name) names) (length names)) refl) where
  go : (b : Bool) → nat_lt (position_or_len (bytes_eq name) names) (length names) ≡ b → length names ≤ position_or_len (bytes_eq name) names
  go true lt =
      let bad : Some (position_or_len (bytes_eq name) names) ≡ None = rw lt at is in
      absurd cc
  go false lt = ltb-false _ _ lt

-- one more that is new
pub distinct_push : (xs : List (List ℕ)) (x : List ℕ) → AreDistinct xs → ¬ Contains xs x → AreDistinct (xs ++ x ∷ [])
distinct_push xs x all new = all_pairs_push (λ (a b : List ℕ). a ≢ b) xs x all (λ k d lt same. new (k, lt, get_or_default xs k x d lt ∙ same))

-- distinct items of a list, as many as it has, are that list in another order
pub permutation_from_distinct : (xs ys : List ℕ) → length xs ≡ length ys → AllPairs (λ a b. a ≢ b) xs → All (Contains ys) xs → IsPermutation ys xs
permutation_from_distinct [] [] len apart all = IsPermutation-refl []
permutation_from_distinct [] (y ∷ ys) len apart all = absurd (omega arith)
permutation_from_distinct (x ∷ xs) ys len apart all =
    IsPermutation-trans ys (x ∷ remove ys (here.0)) (x ∷ xs) out
    (IsPermutation-cons x (remove ys here.0) xs (permutation_from_distinct xs (remove ys here.0) shorter (λ i j d lt in'. apart (suc i) (suc j) d (omega arith) (omega arith)) rest))
  where
    here : Contains ys x
    here = All-head (Contains ys) x xs all

    out : IsPermutation ys (x ∷ remove ys here.0)
    out = IsPermutation-remove ys here.0 x here.1 (sym here.2)

    shorter : length xs ≡ length (remove ys here.0)
    shorter = let one : length (x ∷ remove ys here.0) ≡ length ys = length_permutation ys (x ∷ remove ys here.0) out in omega arith

    in_rest : (y : ℕ) → x ≢ y → Contains (x ∷ remove ys here.0) y → Contains (remove ys here.0) y
    in_rest y ne (zero, lt, at) = absurd (ne at)
    in_rest y ne (suc k, lt, at) = (k, omega arith, at)

    rest : All (Contains (remove ys here.0)) xs
    rest k d lt = in_rest (get_or xs k d) (apart 0 (suc k) d (omega arith) (omega arith)) (Contains-permutation ys (x ∷ remove ys here.0) (get_or xs k d) out (All-tail (Contains ys) x xs all k d lt))

-- a list about one of its places
pub parts_at : (xs : List (List ℕ)) (i : ℕ) → i < length xs → xs ≡ take i xs ++ get_or xs i [] ∷ drop (suc i) xs
parts_at xs i lt = sym (take-append-drop i xs) ∙ ap (λ rest. take i xs ++ rest) (drop-cons xs i [] lt)

pub repeats_at : (texts : List (List ℕ)) (i : ℕ) → i < length texts → AreDistinct (take i texts) → Contains (take i texts) (get_or texts i []) → Repeats texts (get_or texts i [])
repeats_at texts i lt apart there = record { before = take i texts; after = drop (suc i) texts; parts = parts_at texts i lt; earlier = apart; again = there }

pub lacks_at : (flat : Flat) (ports : List PortId) (texts : List (List ℕ)) (i : ℕ) → i < length texts → All (Contains (names_of flat ports)) (take i texts)
    → ¬ Contains (names_of flat ports) (get_or texts i []) → LacksPort flat ports texts (get_or texts i [])
lacks_at flat ports texts i lt known none = record { before = take i texts; after = drop (suc i) texts; parts = parts_at texts i lt; earlier = known; none = none }

-- the first place that passes, after one more item
place_pushed : {X : Type 0} (test : X → Bool) (xs : List X) (x : X) (here : Bool) → test x ≡ here
    → cond here (first_place (position test xs) (length xs)) (position test xs) ≡ position test (xs ++ x ∷ [])
place_pushed test xs x here is = rw (position_or_len_push test xs x, is, length-append xs (x ∷ [])) (elim (cases_lt (position_or_len test xs) (length xs)) [
  | inl less ↦ early (position_or_len test xs) (length xs) here less
  | inr none ↦ late (position_or_len test xs) (length xs) here (let end = prefix_len-le-length (λ y. not (test y)) xs in omega arith)
]) where
  early : (n l : ℕ) (b : Bool) → n < l
      → cond b (first_place (if nat_lt n l then Some n else None) l) (if nat_lt n l then Some n else None)
      ≡ (if nat_lt (cond (eqb n l) (l + cond b 0 1) n) (l + 1) then Some (cond (eqb n l) (l + cond b 0 1) n) else None)
  early n l true less = rw (ne_eqb n l (omega arith), lt-ltb n l less, lt-ltb n (l + 1) (omega arith)) refl
  early n l false less = rw (ne_eqb n l (omega arith), lt-ltb n l less, lt-ltb n (l + 1) (omega arith)) refl

  late : (n l : ℕ) (b : Bool) → n ≡ l
      → cond b (first_place (if nat_lt n l then Some n else None) l) (if nat_lt n l then Some n else None)
      ≡ (if nat_lt (cond (eqb n l) (l + cond b 0 1) n) (l + 1) then Some (cond (eqb n l) (l + cond b 0 1) n) else None)
  late n l true same = rw (eq-eqb n l same, le-ltb n l (omega arith), lt-ltb (l + 0) (l + 1) (omega arith)) (ap Some (omega arith))
  late n l false same = rw (eq-eqb n l same, le-ltb n l (omega arith), le-ltb (l + 1) (l + 1) (omega arith)) refl

-- one more text of a list is seen at its place
pub holds_more : (texts : List (List ℕ)) (old new : FirstNames) (name : List ℕ) (i : ℕ) → i < length texts → name ≡ get_or texts i [] → HoldsPlaces (take i texts) old
    → Sees old new name i → HoldsPlaces (take (i + 1) texts) new
holds_more texts old new name i lt name_is holds sees other =
    sees other ∙ (ap₂ (λ (one two : Option ℕ). if bytes_eq name other then first_place one i else two) (holds name) (holds other)
    ∙ (go (bytes_eq name other) refl ∙ ap (λ (t : List (List ℕ)). place_in t other) (ap (λ n. take i texts ++ n ∷ []) name_is ∙ sym (take_more texts i [] lt))))
  where
    len : length (take i texts) ≡ i
    len = length-take-le i texts (omega arith)

    go : (b : Bool) → bytes_eq name other ≡ b → cond b (first_place (place_in (take i texts) name) i) (place_in (take i texts) other) ≡ place_in (take i texts ++ name ∷ []) other
    go true is =
        let same : name ≡ other = bytes_same name other is in
        subst (λ (n : List ℕ). first_place (place_in (take i texts) n) i ≡ place_in (take i texts ++ name ∷ []) other) (sym same)
        (ap (first_place (place_in (take i texts) other)) (sym len) ∙ place_pushed (bytes_eq other) (take i texts) name true (ap (bytes_eq other) same ∙ same_bytes other))
    go false is = place_pushed (bytes_eq other) (take i texts) name false (apart (bytes_eq other name) refl) where
      apart : (b : Bool) → bytes_eq other name ≡ b → bytes_eq other name ≡ false
      apart false other_text = other_text
      apart true back_is =
          let back : other ≡ name = bytes_same other name back_is in
          let bad : bytes_eq name other ≡ true = ap (bytes_eq name) back ∙ same_bytes name in
          let both : true ≡ false = sym bad ∙ is in
          cc

pub some_contains : (names : List (List ℕ)) (name : List ℕ) → is_some (place_in names name) ≡ true → Contains names name
some_contains names name e = go (place_in names name) refl where
  go : (o : Option ℕ) → place_in names name ≡ o → Contains names name
  go None is =
      let bad : false ≡ true = rw is at e in
      absurd cc
  go (Some k) is = place_contains names name k is

pub none_lacks : (names : List (List ℕ)) (name : List ℕ) → is_some (place_in names name) ≡ false → ¬ Contains names name
none_lacks names name e = go (place_in names name) refl where
  go : (o : Option ℕ) → place_in names name ≡ o → ¬ Contains names name
  go None is = place_absent names name is
  go (Some k) is =
      let bad : true ≡ false = rw is at e in
      absurd cc

-- one more symbol's port
pub found_more : (flat : Flat) (ports matched new : List PortId) (texts : List (List ℕ)) (i place : ℕ) (port : PortId) → i < length texts → names_of flat matched ≡ take i texts
    → new ≡ matched ++ port ∷ [] → port ≡ get_or ports place port → place_in (names_of flat ports) (get_or texts i []) ≡ Some place → names_of flat new ≡ take (i + 1) texts
found_more flat ports matched new texts i place port lt so_far new_is port_is place_is =
    let there = place_there (names_of flat ports) (get_or texts i []) place place_is in
    let few : length (names_of flat ports) ≡ length ports = length-map ports (name_of flat) in
    let inside = there.0 in
    let here : get_or (names_of flat ports) place [] ≡ name_of flat (get_or ports place port) = get_or-map (name_of flat) ports place port [] (omega arith) in
    let name : name_of flat port ≡ get_or texts i [] = ap (name_of flat) port_is ∙ (sym here ∙ there.1) in
    ap (names_of flat) new_is ∙ (map-append (name_of flat) matched (port ∷ []) ∙ (ap₂ (λ xs x. xs ++ x ∷ []) so_far name ∙ sym (take_more texts i [] lt)))

pub port_found : (flat : Flat) (ports : List PortId) (name : List ℕ) (place : ℕ) (port : PortId) → port ≡ get_or ports place port → place_in (names_of flat ports) name ≡ Some place → Contains ports port
port_found flat ports name place port port_is place_is =
    let there = place_there (names_of flat ports) name place place_is in
    let few : length (names_of flat ports) ≡ length ports = length-map ports (name_of flat) in
    let inside = there.0 in
    (place, omega arith, sym port_is)

-- the names of ports of a side are among its names
pub names_known : (flat : Flat) (ports matched : List PortId) → All (Contains ports) matched → All (Contains (names_of flat ports)) (names_of flat matched)
names_known flat ports matched all k d lt =
    let few : length (names_of flat matched) ≡ length matched = length-map matched (name_of flat) in
    let many : length (names_of flat ports) ≡ length ports = length-map ports (name_of flat) in
    let here : get_or (names_of flat matched) k d ≡ name_of flat (get_or matched k 0) = get_or-map (name_of flat) matched k 0 d (omega arith) in
    let there = all k 0 (omega arith) in
    let inside = there.1 in
    (there.0, omega arith, get_or-map (name_of flat) ports there.0 (get_or matched k 0) (get_or (names_of flat matched) k d) (omega arith) ∙ (ap (name_of flat) there.2 ∙ sym here))

pub lacks_err : (flat : Flat) (ports matched : List PortId) (texts : List (List ℕ)) (i : ℕ) (name : List ℕ) → i < length texts → name ≡ get_or texts i [] → names_of flat matched ≡ take i texts
    → All (Contains ports) matched → place_in (names_of flat ports) name ≡ None → LacksPort flat ports texts name
lacks_err flat ports matched texts i name lt name_is so_far all none =
    let P : List ℕ → Type 0 = λ n. place_in (names_of flat ports) n ≡ None → LacksPort flat ports texts n in
    subst P (sym name_is) (λ no. lacks_at flat ports texts i lt (subst (All (Contains (names_of flat ports))) so_far (names_known flat ports matched all)) (place_absent (names_of flat ports) (get_or texts i []) no)) none

pub repeats_err : (texts : List (List ℕ)) (table : FirstNames) (i : ℕ) (name : List ℕ) → i < length texts → name ≡ get_or texts i [] → HoldsPlaces (take i texts) table → AreDistinct (take i texts)
    → is_some (place_of table name) ≡ true → Repeats texts name
repeats_err texts table i name lt name_is holds apart some =
    let here : is_some (place_in (take i texts) (get_or texts i [])) ≡ true = ap (λ n. is_some (place_in (take i texts) n)) (sym name_is) ∙ (ap is_some (sym (holds name)) ∙ some) in
    subst (Repeats texts) (sym name_is) (repeats_at texts i lt apart (some_contains (take i texts) (get_or texts i []) here))

-- ports of a side whose names are texts that are there once, as many as the side has, are that side in another order
pub one_to_one : (flat : Flat) (ports matched : List PortId) (texts : List (List ℕ)) → names_of flat matched ≡ texts → AreDistinct texts → All (Contains ports) matched → length texts ≡ length ports
    → IsPermutation ports matched
one_to_one flat ports matched texts names apart all len =
    let many : length (names_of flat matched) ≡ length matched = length-map matched (name_of flat) in
    let count : length (names_of flat matched) ≡ length texts = ap length names in
    permutation_from_distinct matched ports (omega arith) (λ i j d lt in' same. apart i j (name_of flat d) lt (omega arith)
    (ap (λ (t : List (List ℕ)). get_or t i (name_of flat d)) (sym names) ∙ (get_or-map (name_of flat) matched i d (name_of flat d) (omega arith) ∙ (ap (name_of flat) same
    ∙ (sym (get_or-map (name_of flat) matched j d (name_of flat d) in') ∙ ap (λ (t : List (List ℕ)). get_or t j (name_of flat d)) names))))) all

pub side_ok : (flat : Flat) (entries : List (Option (List ℕ))) (ports matched : List PortId) (texts : List (List ℕ)) → texts ≡ symbols_of entries → names_of flat matched ≡ texts
    → All (Contains ports) matched → AreDistinct texts → length entries ≡ length ports → length texts ≡ length entries → IsMatched flat ports entries matched
side_ok flat entries ports matched texts symbols names all apart count full = record {
  count = count;
  one_to_one = one_to_one flat ports matched texts names apart all (full ∙ count);
  by = inr (names ∙ symbols);
}

pub side_err : (flat : Flat) (entries : List (Option (List ℕ))) (ports matched : List PortId) (texts : List (List ℕ)) (why : PortFault) → texts ≡ symbols_of entries → names_of flat matched ≡ texts
    → All (Contains ports) matched → length entries ≡ length ports → length texts ≡ length entries → MemoryOr why ((name : List ℕ) × (why ≡ fault.Repeated name) × Repeats texts name)
    → MemoryOr why (Refuses flat ports entries why)
side_err flat entries ports matched texts why symbols names all count full (inl memory) = inl memory
side_err flat entries ports matched texts why symbols names all count full (inr (name, is, repeats)) =
    let known : All (Contains (names_of flat ports)) texts = subst (All (Contains (names_of flat ports))) names (names_known flat ports matched all) in
    let not_mixed : ¬ IsMixed entries = λ mixed. mixed.1 (ap length (sym symbols) ∙ full) in
    let here : Refuses flat ports entries (fault.Repeated name) =
    (not_mixed, count, subst (All (Contains (names_of flat ports))) symbols known, subst (λ (t : List (List ℕ)). Repeats t name) symbols repeats) in
    inr (subst (Refuses flat ports entries) (sym is) here)
