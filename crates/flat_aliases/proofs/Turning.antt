-- A ring at the end of a path, turned to begin at its least place.
use Rattle.std.proofs.Common.{◌≡◌, ◌≢◌, ◌∙◌, ◌<◌, ◌≤◌, ◌+◌, ◌⊎◌, inl, inr, ℕ, zero, suc, List, [], ◌∷◌, ◌++◌, length, take, drop, Some, None, refl, sym, ap, subst, arith, get_or, length-append, length-drop}
use Rattle.std.specs.Prelude.{slice_get}
use Rattle.std.specs.List.{All, AllPairs}
use Rattle.std.proofs.lemmas.Option.{same_Some, slice_get_within, slice_get-get_or, get_or_from_slice_get}
use Rattle.std.proofs.lemmas.List.{length-take}
use Rattle.flat_aliases.specs.declared.link.Link.{Link}
use Rattle.flat_aliases.specs.Drives.{Leads, LeadsOver, IsRing, IsNamedRing, BeginsAtLeast}
use Rattle.flat_aliases.specs.Walks.{IsRingAt}
use Rattle.flat_aliases.proofs.Got.{one_item, within}
use Rattle.flat_aliases.proofs.Walking.{take_got}

moved : {X : Type 0} (xs : List X) (i j : ℕ) (x : X) → i ≡ j → slice_get xs i ≡ Some x → slice_get xs j ≡ Some x
moved xs i j x e f = subst (λ (n : ℕ). slice_get xs n ≡ Some x) e f

-- the rest of a list
drop_got : {X : Type 0} (n k : ℕ) (xs : List X) (x : X) → slice_get (drop n xs) k ≡ Some x → slice_get xs (n + k) ≡ Some x
drop_got zero k xs x e = let z : k ≡ 0 + k = omega arith in subst (λ (i : ℕ). slice_get xs i ≡ Some x) z e
drop_got (suc n) k [] x e = absurd (nothing e) where
  nothing : None ≡ Some x → ⊥
  nothing f = cc
drop_got (suc n) k (y ∷ xs) x e =
    let z : suc (n + k) ≡ suc n + k = omega arith in
    subst (λ (i : ℕ). slice_get (y ∷ xs) i ≡ Some x) z (drop_got n k xs x e)

-- an item of two lists joined is of the first, or of the second
joined_got : {X : Type 0} (xs ys : List X) (k : ℕ) (x : X) → slice_get (xs ++ ys) k ≡ Some x → ((k < length xs) × (slice_get xs k ≡ Some x)) ⊎ ((j : ℕ) × (k ≡ length xs + j) × (slice_get ys j ≡ Some x))
joined_got [] ys k x e = inr (k, omega arith, e)
joined_got (z ∷ xs) ys zero x e = inl (omega arith, e)
joined_got (z ∷ xs) ys (suc k) x e = elim (joined_got xs ys k x e) [ inl h ↦ (let l = h.0 in inl (omega arith, h.1)) | inr h ↦ (let l = h.1 in inr (h.0, omega arith, h.2)) ]

turned : List ℕ → ℕ → List ℕ
turned ring m = drop m ring ++ take m ring

-- an item of a turned list stands so much later in the list, or so much before
turned_got : (ring : List ℕ) (m k x : ℕ) → m < length ring → slice_get (drop m ring ++ take m ring) k ≡ Some x →
    ((m + k < length ring) × (slice_get ring (m + k) ≡ Some x)) ⊎ ((j : ℕ) × (m + k ≡ length ring + j) × (j < m) × (slice_get ring j ≡ Some x))
turned_got ring m k x l e = elim (joined_got (drop m ring) (take m ring) k x e) [
  | inl h ↦ (let f = drop_got m k ring x h.1 in inl (slice_get_within ring (m + k) x f, f))
  | inr h ↦ (let f = take_got m h.0 ring x h.2 in inr (h.0, (let a = h.1 in omega (arith, length-drop m ring, a, l)), f.0, f.1))
]

-- a list in which links lead from each item to the next, and from the last to the end
leads_over : (links : List Link) (x : ℕ) (xs : List ℕ) (end : ℕ) → ((k one two : ℕ) → slice_get (x ∷ xs) k ≡ Some one → slice_get (x ∷ xs) (k + 1) ≡ Some two → Leads links one two) →
    ((k last : ℕ) → length (x ∷ xs) ≡ k + 1 → slice_get (x ∷ xs) k ≡ Some last → Leads links last end) → LeadsOver links x xs end
leads_over links x [] end steps back = back 0 x (omega arith) refl
leads_over links x (y ∷ ys) end steps back = (
  steps 0 x y refl refl,
  leads_over links y ys end
      (λ k one two e f. let z : suc (k + 1) ≡ suc k + 1 = omega arith in steps (suc k) one two e (subst (λ (i : ℕ). slice_get (x ∷ y ∷ ys) i ≡ Some two) z f))
      (λ k last l e. back (suc k) last (omega (arith, l)) e),
)

pub record IsRound (links : List Link) (ring : List ℕ) : Type 0 where
  pub some : 0 < length ring
  pub steps : (k one two : ℕ) → slice_get ring k ≡ Some one → slice_get ring (k + 1) ≡ Some two → Leads links one two
  pub once : (i j place : ℕ) → slice_get ring i ≡ Some place → slice_get ring j ≡ Some place → i ≡ j
  pub back : (k last first : ℕ) → length ring ≡ k + 1 → slice_get ring k ≡ Some last → slice_get ring 0 ≡ Some first → Leads links last first

pub round_at : (links : List Link) (path : List ℕ) (first : ℕ) → IsRingAt links path first → IsRound links (drop first path)
round_at links path first r =
    let len = length-drop first path in
    record {
      some = omega (arith, len, r.inside);
      steps = λ k one two e f. r.along (first + k) one two (drop_got first k path one e) (moved path (first + (k + 1)) (first + k + 1) two (omega arith) (drop_got first (k + 1) path two f));
      once = λ i j p e f. let q = r.once (first + i) (first + j) p (drop_got first i path p e) (drop_got first j path p f) in omega (arith, q);
      back = λ k last p l e f. r.back (first + k) last p (omega (arith, len, l, r.inside)) (drop_got first k path last e) (moved path (first + 0) first p (omega arith) (drop_got first 0 path p f));
    }

turn : (links : List Link) (ring : List ℕ) (m : ℕ) → m < length ring → IsRound links ring → IsRound links (drop m ring ++ take m ring)
turn links ring m l r =
    let len : length (drop m ring ++ take m ring) ≡ length ring = length-append (drop m ring) (take m ring) ∙ omega (arith, length-drop m ring, length-take m ring, l) in
    record {
      some = omega (arith, len, l);
      steps = λ k one two e f. elim (turned_got ring m k one l e) [
        | inl g ↦ elim (turned_got ring m (k + 1) two l f) [
          | inl h ↦ r.steps (m + k) one two g.1 (moved ring (m + (k + 1)) (m + k + 1) two (omega arith) h.1)
          | inr h ↦
              let low = g.0 in
              let sums = h.1 in
              r.back (m + k) one two (omega (arith, low, sums)) g.1 (moved ring h.0 0 two (omega (arith, low, sums)) h.3)
        ]
        | inr g ↦ elim (turned_got ring m (k + 1) two l f) [
          | inl h ↦ absurd (let low = h.0 in let sums = g.1 in omega (arith, low, sums))
          | inr h ↦
              let a = g.1 in
              let b = h.1 in
              r.steps g.0 one two g.3 (moved ring h.0 (g.0 + 1) two (omega (arith, a, b)) h.3)
        ]
      ];
      once = λ i j p e f. elim (turned_got ring m i p l e) [
        | inl g ↦ elim (turned_got ring m j p l f) [
          | inl h ↦ (let q = r.once (m + i) (m + j) p g.1 h.1 in omega (arith, q))
          | inr h ↦ absurd (let q = r.once (m + i) h.0 p g.1 h.3 in let a = h.2 in omega (arith, q, a))
        ]
        | inr g ↦ elim (turned_got ring m j p l f) [
          | inl h ↦ absurd (let q = r.once g.0 (m + j) p g.3 h.1 in let a = g.2 in omega (arith, q, a))
          | inr h ↦ (let q = r.once g.0 h.0 p g.3 h.3 in let a = g.1 in let b = h.1 in omega (arith, q, a, b))
        ]
      ];
      back = λ k last p n e f. elim (turned_got ring m 0 p l f) [
        | inl h ↦ elim (turned_got ring m k last l e) [
          | inl g ↦
              let a = g.0 in
              r.back (m + k) last p (omega (arith, len, n, a)) g.1 (moved ring (m + 0) 0 p (omega (arith, len, n, a)) h.1)
          | inr g ↦
              let a = g.1 in
              r.steps g.0 last p g.3 (moved ring (m + 0) (g.0 + 1) p (omega (arith, len, n, a)) h.1)
        ]
        | inr h ↦ absurd (let a = h.1 in let b = h.2 in omega (arith, a, b, l))
      ];
    }

round_is_ring : (links : List Link) (ring : List ℕ) → IsRound links ring → IsRing links ring
round_is_ring links [] r = absurd (let l = r.some in omega arith)
round_is_ring links (p ∷ ps) r = leads_over links p ps p r.steps (λ k last l e. r.back k last p l e refl)

round_once : (links : List Link) (ring : List ℕ) → IsRound links ring → AllPairs (λ one other. one ≢ other) ring
round_once links ring r = λ i j d l m e.
    let q = r.once i j (get_or ring j d) (slice_get-get_or ring i d (omega (arith, l, m)) ∙ ap Some e) (slice_get-get_or ring j d m) in
    omega (arith, q, l)

begins_least : (ring : List ℕ) (least : ℕ) → slice_get ring 0 ≡ Some least → ((k x : ℕ) → slice_get ring k ≡ Some x → least ≤ x) → BeginsAtLeast ring
begins_least [] least e all = let f : None ≡ Some least = e in cc
begins_least (p ∷ ps) least e all = λ k d l.
    let same : p ≡ least = same_Some p least e in
    let low = all (suc k) (get_or ps k d) (slice_get-get_or ps k d l) in
    omega (arith, same, low)

turned_from : (links : List Link) (ring : List ℕ) (m : ℕ) → IsRound links ring → m < length ring → ((least : ℕ) → slice_get ring m ≡ Some least → All (λ other. least ≤ other) ring) → IsNamedRing links (drop m ring ++ take m ring)
turned_from links ring m r l low =
    let round = turn links ring m l r in
    let top = within ring m l in
    let below : (k x : ℕ) → slice_get ring k ≡ Some x → top.0 ≤ x = λ k x e.
    subst (λ (n : ℕ). top.0 ≤ n) (get_or_from_slice_get ring k x 0 e) (low top.0 top.1 k 0 (slice_get_within ring k x e)) in
    let head = within (drop m ring ++ take m ring) 0 round.some in
    let head_is : head.0 ≡ top.0 = elim (turned_got ring m 0 head.0 l head.1) [
      | inl h ↦ one_item ring m head.0 top.0 (let z : m + 0 ≡ m = omega arith in subst (λ (n : ℕ). slice_get ring n ≡ Some head.0) z h.1) top.1
      | inr h ↦ absurd (let a = h.1 in let b = h.2 in omega (arith, a, b, l))
    ] in
    record {
      closed = round_is_ring links (drop m ring ++ take m ring) round;
      once = round_once links (drop m ring ++ take m ring) round;
      least = begins_least (drop m ring ++ take m ring) top.0 (head.1 ∙ ap Some head_is)
          (λ k x e. elim (turned_got ring m k x l e) [ inl h ↦ below (m + k) x h.1 | inr h ↦ below h.0 x h.3 ]);
    }

pub turned_ring : (links : List Link) (path ring named : List ℕ) (first m : ℕ) → ring ≡ drop first path → named ≡ drop m ring ++ take m ring → IsRingAt links path first → m < length ring →
    ((least : ℕ) → slice_get ring m ≡ Some least → All (λ other. least ≤ other) ring) → IsNamedRing links named
turned_ring links path ring named first m e f r l low =
    subst (IsNamedRing links) (sym f) (turned_from links ring m (subst (IsRound links) (sym e) (round_at links path first r)) l low)
