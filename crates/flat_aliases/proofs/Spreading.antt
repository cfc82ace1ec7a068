-- A driver comes to places, one after the other, and what is held of each place stays true.
use Rattle.std.proofs.Common.{◌≡◌, ◌≢◌, ◌∙◌, ◌<◌, ◌≤◌, ◌+◌, inl, inr, ℕ, List, [], ◌∷◌, ◌++◌, length, Option, Some, None, refl, sym, ap, subst, arith, get_or, set, length-append, length-set}
use Rattle.std.specs.Prelude.{slice_get}
use Rattle.std.specs.List.{Contains, sum_by}
use Rattle.std.proofs.lemmas.Option.{same_Some, slice_get-get_or, get_or_from_slice_get}
use Rattle.std.proofs.lemmas.Bool.{cases_eq, cases_lt}
use Rattle.std.proofs.lemmas.List.Sums.{sum_by-set}
use Rattle.std.proofs.lemmas.List.Elements.{Contains-push, Contains-push_cases, Contains-append_left}
use Rattle.flat_aliases.specs.declared.link.Link.{Link}
use Rattle.flat_aliases.specs.declared.held.Held.{Held}
use Rattle.flat_aliases.specs.declared.held.Held.TheVariants.{Nothing, One, Two}
use Rattle.flat_aliases.specs.declared.spread.Spread.{Spread}
use Rattle.flat_aliases.specs.Threads.{NoneFrom, IsLastFrom, left_of}
use Rattle.flat_aliases.specs.Drives.{Leads, Drives, start, next, AreInside}
use Rattle.flat_aliases.specs.Spreads.{IsSettled, with_driver, room_of, IsTrueOf, AreTrue, IsSettledAt, IsSpreading, GoesOn, AreSettledFrom, IsClosed, IsSpread}
use Rattle.flat_aliases.proofs.Got.{set_same, set_other, set_cases, one_item, within}

module _ (links : List Link) (starts : List (Option ℕ)) where
  -- a driver that is added to what is held
  added : (driver place : ℕ) (h : Held) → (IsSettled driver h → ⊥) → Drives links starts driver place → IsTrueOf links starts driver (driver + 1) place h →
      IsTrueOf links starts driver (driver + 1) place (with_driver driver h)
  added driver place Nothing un d t = (omega arith, d, λ other l e. absurd (t other l e))
  added driver place (One first) un d t =
      let ne : first ≢ driver = un in
      let low : first < driver = omega (arith, t.0, ne) in
      (low, omega arith, t.1, d, λ other l e. inl (t.2 other l e))
  added driver place (Two first second) un d t = t

  added_settled : (driver : ℕ) (h : Held) → (IsSettled driver h → ⊥) → IsSettled driver (with_driver driver h)
  added_settled driver Nothing un = refl
  added_settled driver (One first) un = tt
  added_settled driver (Two first second) un = tt

  added_room : (driver : ℕ) (h : Held) → (IsSettled driver h → ⊥) → room_of (with_driver driver h) + 1 ≡ room_of h
  added_room driver Nothing un = omega arith
  added_room driver (One first) un = omega arith
  added_room driver (Two first second) un = absurd (un tt)

  -- the driver comes to a place where it is to be added
  pub reached : (places driver place : ℕ) (h : Held) (old new : Spread) → place < places → Drives links starts driver place → slice_get old.held.items place ≡ Some h → (IsSettled driver h → ⊥) →
      new.held.items ≡ set old.held.items place (with_driver driver h) → new.waiting.items ≡ old.waiting.items ++ place ∷ [] →
      IsSpreading links starts places driver old → IsSpreading links starts places driver new × GoesOn driver old new × IsSettledAt new.held.items driver place
  reached places driver place h old new l d e un held waiting s =
      let inside : place < length old.held.items = omega (arith, s.count) in
      let at_place : slice_get new.held.items place ≡ Some (with_driver driver h) =
      subst (λ (xs : List Held). slice_get xs place ≡ Some (with_driver driver h)) (sym held) (set_same old.held.items place (with_driver driver h) inside) in
      let cases = λ (p : ℕ) (x : Held) (f : slice_get new.held.items p ≡ Some x).
      set_cases old.held.items place p (with_driver driver h) x (subst (λ (xs : List Held). slice_get xs p ≡ Some x) held f) in
      let sums : sum_by room_of new.held.items + room_of h ≡ sum_by room_of old.held.items + room_of (with_driver driver h) =
      subst (λ (xs : List Held). sum_by room_of xs + room_of h ≡ sum_by room_of old.held.items + room_of (with_driver driver h)) (sym held)
      (subst (λ (x : Held). sum_by room_of (set old.held.items place (with_driver driver h)) + room_of x ≡ sum_by room_of old.held.items + room_of (with_driver driver h))
      (same_Some (get_or old.held.items place h) h (sym (slice_get-get_or old.held.items place h inside) ∙ e))
      (sum_by-set room_of old.held.items place (with_driver driver h) h inside)) in
      let longer : length new.waiting.items ≡ length old.waiting.items + 1 = ap length waiting ∙ length-append old.waiting.items (place ∷ []) in (
        record {
          count = ap length held ∙ length-set old.held.items place (with_driver driver h) ∙ s.count;
          held = λ p x f. elim (cases p x f) [
            | inl c ↦ subst (λ (y : Held). IsTrueOf links starts driver (driver + 1) p y) c.1
                (subst (λ (n : ℕ). IsTrueOf links starts driver (driver + 1) n (with_driver driver h)) (sym c.0) (added driver place h un d (s.held place h e)))
            | inr c ↦ s.held p x c.1
          ];
          waiting = λ p w. elim (Contains-push_cases old.waiting.items place p (subst (λ (xs : List ℕ). Contains xs p) waiting w)) [
            | inl c ↦ s.waiting p c
            | inr c ↦ (subst (λ (n : ℕ). n < places) c l, subst (Drives links starts driver) c d)
          ];
        },
        record {
          grows = λ p k. elim (cases_eq p place) [
            | inl c ↦ subst (IsSettledAt new.held.items driver) (sym c) (with_driver driver h, at_place, added_settled driver h un)
            | inr c ↦ (k.0, subst (λ (xs : List Held). slice_get xs p ≡ Some k.0) (sym held) (set_other old.held.items place p (with_driver driver h) c ∙ k.1), k.2)
          ];
          fresh = λ p k. elim (cases p k.0 k.1) [
            | inl c ↦ inr (subst (λ (xs : List ℕ). Contains xs p) (sym waiting) (subst (Contains (old.waiting.items ++ place ∷ [])) (sym c.0) (Contains-push old.waiting.items place)))
            | inr c ↦ inl (k.0, c.1, k.2)
          ];
          keeps = λ p k. subst (λ (xs : List ℕ). Contains xs p) (sym waiting) (Contains-append_left old.waiting.items (place ∷ []) p k);
          work = (let r = added_room driver h un in omega (arith, sums, longer, r));
        },
        (with_driver driver h, at_place, added_settled driver h un),
      )

  -- nothing is to be done
  pub stays : (driver : ℕ) (spread : Spread) → GoesOn driver spread spread
  stays driver spread = record { grows = λ p k. k; fresh = λ p k. inl k; keeps = λ p k. k; work = omega arith }

  pub then_goes : (driver : ℕ) (one two three : Spread) → GoesOn driver one two → GoesOn driver two three → GoesOn driver one three
  then_goes driver one two three g h = record {
    grows = λ p k. h.grows p (g.grows p k);
    fresh = λ p k. elim (h.fresh p k) [ inl c ↦ (elim (g.fresh p c) [ inl d ↦ inl d | inr d ↦ inr (h.keeps p d) ]) | inr c ↦ inr c ];
    keeps = λ p k. h.keeps p (g.keeps p k);
    work = (let a = g.work in let b = h.work in omega arith);
  }

  -- what drives a place that the driver drives is settled, where settled places are followed by settled places alone
  pub all_settled : (places driver : ℕ) (held : List Held) → ((place : ℕ) → slice_get starts driver ≡ Some (Some place) → IsSettledAt held driver place) →
      ((from to : ℕ) → IsSettledAt held driver from → Leads links from to → IsSettledAt held driver to) →
      (place : ℕ) → Drives links starts driver place → IsSettledAt held driver place
  all_settled places driver held first on _ (start place e) = first place e
  all_settled places driver held first on _ (next from to d l) = on from to (all_settled places driver held first on from d) l

  -- the drivers below the next bound are held
  next_bound : (driver place : ℕ) (h : Held) → (Drives links starts driver place → IsSettled driver h) → IsTrueOf links starts driver (driver + 1) place h → IsTrueOf links starts (driver + 1) (driver + 1) place h
  next_bound driver place Nothing s t = λ other l d. elim (cases_eq other driver) [
    | inl e ↦ s (subst (λ (n : ℕ). Drives links starts n place) e d)
    | inr n ↦ t other (omega (arith, n)) d
  ]
  next_bound driver place (One first) s t = (
    t.0,
    t.1,
    λ other l d. elim (cases_eq other driver) [
      | inl e ↦ (let f : first ≡ driver = s (subst (λ (n : ℕ). Drives links starts n place) e d) in e ∙ sym f)
      | inr n ↦ t.2 other (omega (arith, n)) d
    ],
  )
  next_bound driver place (Two first second) s t = (
    t.0,
    t.1,
    t.2,
    t.3,
    λ other l d. elim (cases_eq other driver) [
      | inl e ↦ (let a = t.1 in inr (omega (arith, e)))
      | inr n ↦ t.4 other (omega (arith, n)) d
    ],
  )

  pub spread_on : (places driver : ℕ) (spread : Spread) → IsSpreading links starts places driver spread → ((place : ℕ) → Contains spread.waiting.items place → ⊥) → IsClosed links driver spread →
      ((place : ℕ) → slice_get starts driver ≡ Some (Some place) → IsSettledAt spread.held.items driver place) → IsSpread links starts places (driver + 1) spread
  spread_on places driver spread s idle closed first =
      let settled = all_settled places driver spread.held.items first (λ from to k l. elim (closed from to k l) [ inl w ↦ absurd (idle from w) | inr c ↦ c ]) in
      record {
        count = s.count;
        held = λ place h e. next_bound driver place h (λ d. let k = settled place d in subst (IsSettled driver) (one_item spread.held.items place k.0 h k.1 e) k.2) (s.held place h e);
        idle = idle;
      }

  -- a driver that starts nowhere drives nothing
  pub drives_nothing : (driver place : ℕ) → slice_get starts driver ≡ Some None → Drives links starts driver place → ⊥
  drives_nothing driver _ e (start place s) = let f : Some None ≡ Some (Some place) = sym e ∙ s in let g = same_Some None (Some place) f in cc
  drives_nothing driver _ e (next from to d l) = drives_nothing driver from e d

  wider : (bound top top' place : ℕ) (h : Held) → top ≤ top' → IsTrueOf links starts bound top place h → IsTrueOf links starts bound top' place h
  wider bound top top' place Nothing l t = t
  wider bound top top' place (One first) l t = (let a = t.0 in omega arith, t.1, t.2)
  wider bound top top' place (Two first second) l t = (t.0, (let a = t.1 in omega arith), t.2, t.3, t.4)

  -- a driver may set out
  pub sets_out : (places driver : ℕ) (spread : Spread) → IsSpread links starts places driver spread → IsSpreading links starts places driver spread
  sets_out places driver spread s = record {
    count = s.count;
    held = λ place h e. wider driver driver (driver + 1) place h (omega arith) (s.held place h e);
    waiting = λ place w. absurd (s.idle place w);
  }

  -- a driver that starts nowhere is spread
  pub spread_none : (places driver : ℕ) (spread : Spread) → slice_get starts driver ≡ Some None → IsSpread links starts places driver spread → IsSpread links starts places (driver + 1) spread
  spread_none places driver spread e s = record {
    count = s.count;
    held = λ place h f. next_bound driver place h (λ d. absurd (drives_nothing driver place e d)) (wider driver driver (driver + 1) place h (omega arith) (s.held place h f));
    idle = s.idle;
  }

  -- no place is settled for a driver that did not set out, or it holds two
  pub closed_first : (places driver : ℕ) (old new : Spread) → IsSpread links starts places driver old → GoesOn driver old new →
      ((from to : ℕ) → IsSettledAt old.held.items driver from → Leads links from to → IsSettledAt old.held.items driver to) → IsClosed links driver new
  closed_first places driver old new s g on from to k l = elim (g.fresh from k) [ inl c ↦ inr (g.grows to (on from to c l)) | inr c ↦ inl c ]

  -- what follows a place that holds two drivers holds two
  pub settled_closed : (places driver : ℕ) (spread : Spread) → AreInside links starts places → IsSpread links starts places driver spread → (from to : ℕ) → IsSettledAt spread.held.items driver from → Leads links from to → IsSettledAt spread.held.items driver to
  settled_closed places driver spread inside s from to k l = go k.0 k.2 (s.held from k.0 k.1) where
    two : (a b : ℕ) → a < b → b < driver → Drives links starts a to → Drives links starts b to → (x : Held) → slice_get spread.held.items to ≡ Some x → IsTrueOf links starts driver driver to x → IsSettledAt spread.held.items driver to
    two a b o m da db Nothing e t = absurd (t b m db)
    two a b o m da db (One first) e t = absurd (let f = t.2 a (omega arith) da in let g = t.2 b m db in omega arith)
    two a b o m da db (Two first second) e t = (Two first second, e, tt)

    go : (h : Held) → IsSettled driver h → IsTrueOf links starts driver driver from h → IsSettledAt spread.held.items driver to
    go Nothing u t = absurd u
    go (One first) u t = absurd (let a = t.0 in let b : first ≡ driver = u in omega arith)
    go (Two first second) u t =
        let x = within spread.held.items to (subst (λ (n : ℕ). to < n) (sym s.count) (inside.linked from to l).1) in
        two first second t.0 t.1 (next from to t.2 l) (next from to t.3 l) x.0 x.1 (s.held to x.0 x.1)

-- ---- the links from one place

-- the link that a cursor stands at leads from the place
pub link_at : (links : List Link) (place high : ℕ) (cursor : Option ℕ) (at : ℕ) → cursor ≡ Some at → IsLastFrom links place high cursor →
    slice_get links at ≡ Some (record { from = place; to = (get_or links at (record { from = 0; to = 0 })).to })
link_at links place high cursor at e last =
    let l : IsLastFrom links place high (Some at) = subst (IsLastFrom links place high) e last in
    let is : get_or links at (record { from = 0; to = 0 }) ≡ record { from = place; to = l.1.0 } = get_or_from_slice_get links at (record { from = place; to = l.1.0 }) (record { from = 0; to = 0 }) l.1.1 in
    subst (λ (n : ℕ). slice_get links at ≡ Some (record { from = place; to = n })) (sym (ap (λ (x : Link). x.to) is)) l.1.1

pub less_left : (links : List Link) (place high : ℕ) (o : Option ℕ) → IsLastFrom links place high o → left_of o ≤ high
less_left links place high None l = omega arith
less_left links place high (Some k) l = let a = l.0 in omega arith

pub settled_step : (links : List Link) (held : List Held) (driver place high at to : ℕ) (cursor : Option ℕ) → cursor ≡ Some at → IsLastFrom links place high cursor →
    slice_get links at ≡ Some (record { from = place; to = to }) → IsSettledAt held driver to → AreSettledFrom links held driver place high → AreSettledFrom links held driver place at
settled_step links held driver place high at to cursor e last here s above k other l f =
    let none_between : NoneFrom links place (at + 1) high = (subst (IsLastFrom links place high) e last).2 in
    elim (cases_eq k at) [
      | inl q ↦
          let same : record { from = place; to = other } ≡ record { from = place; to = to } =
          one_item links at (record { from = place; to = other }) (record { from = place; to = to }) (subst (λ (n : ℕ). slice_get links n ≡ Some (record { from = place; to = other })) q f) here in
          subst (IsSettledAt held driver) (sym (ap (λ (x : Link). x.to) same)) s
      | inr n ↦ elim (cases_lt k high) [
        | inl b ↦ absurd (none_between k other (omega (arith, n)) b f)
        | inr a ↦ above k other a f
      ]
    ]

-- ---- a place that waited goes on

pub popped : (links : List Link) (starts : List (Option ℕ)) (places driver place : ℕ) (old new : Spread) → new.held.items ≡ old.held.items → old.waiting.items ≡ new.waiting.items ++ place ∷ [] →
    IsSpreading links starts places driver old → IsSpreading links starts places driver new
popped links starts places driver place old new held waiting s = record {
  count = ap length held ∙ s.count;
  held = subst (AreTrue links starts driver (driver + 1)) (sym held) s.held;
  waiting = λ p w. s.waiting p (subst (λ (xs : List ℕ). Contains xs p) (sym waiting) (Contains-append_left new.waiting.items (place ∷ []) p w));
}

pub closed_step : (links : List Link) (driver place : ℕ) (old between new : Spread) → between.held.items ≡ old.held.items → old.waiting.items ≡ between.waiting.items ++ place ∷ [] →
    IsClosed links driver old → GoesOn driver between new → AreSettledFrom links new.held.items driver place 0 → IsClosed links driver new
closed_step links driver place old between new held waiting closed on all from to k l = elim (on.fresh from k) [
  | inl c ↦ elim (closed from to (subst (λ (xs : List Held). IsSettledAt xs driver from) held c) l) [
    | inl w ↦ elim (Contains-push_cases between.waiting.items place from (subst (λ (xs : List ℕ). Contains xs from) waiting w)) [
      | inl v ↦ inl (on.keeps from v)
      | inr e ↦ inr (all l.0 to (omega arith) (subst (λ (n : ℕ). slice_get links l.0 ≡ Some (record { from = n; to = to })) (sym e) l.1))
    ]
    | inr s ↦ inr (on.grows to (subst (λ (xs : List Held). IsSettledAt xs driver to) (sym held) s))
  ]
  | inr w ↦ inl w
]

pub empty_holds : {X : Type 0} (xs : List X) (x : X) → length xs ≡ 0 → Contains xs x → ⊥
empty_holds xs x e c = let l = c.1 in absurd (omega arith)
