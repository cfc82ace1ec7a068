-- A step of the walk keeps what it keeps: going back, going on to a new place, and a link to a done place.
use Rattle.std.proofs.Common.{◌≡◌, ◌≢◌, ◌∙◌, ◌<◌, ◌≤◌, ◌+◌, ◌⊎◌, inl, inr, ℕ, zero, suc, List, [], ◌∷◌, ◌++◌, length, take, Option, Some, None, refl, sym, ap, subst, arith, get_or, set, replicate, length-set}
use Rattle.std.specs.Prelude.{slice_get}
use Rattle.std.specs.List.{sum_by}
use Rattle.std.proofs.lemmas.Option.{slice_get_within, get_or_from_slice_get}
use Rattle.std.proofs.lemmas.Bool.{cases_eq, cases_lt}
use Rattle.std.proofs.lemmas.List.Sums.{sum_by-set}
use Rattle.std.proofs.lemmas.List.{length-replicate}
use Rattle.flat_aliases.specs.declared.link.Link.{Link}
use Rattle.flat_aliases.specs.declared.rings.Mark.{Mark}
use Rattle.flat_aliases.specs.declared.rings.Mark.TheVariants.{New, Open, Done}
use Rattle.flat_aliases.specs.declared.rings.Walk.{Walk}
use Rattle.flat_aliases.specs.Drives.{Leads, LeadsOver, IsRing, AreLinksInside}
use Rattle.flat_aliases.specs.Threads.{IsLastFrom, IsThreaded, left_of}
use Rattle.flat_aliases.specs.Walks.{IsMarked, IsWalked, IsLink, AreBefore, IsWalkOf, IsWalk, StaysSeen, IsRingAt, IsResting, IsOpened, EndsIn}
use Rattle.flat_aliases.proofs.Got.{set_same, set_other, set_cases, push_cases, push_before, push_at, copies, within, read_at, one_item}

not_open_new : (k : ℕ) → Open k ≡ New → ⊥
not_open_new k e = cc

not_open_done : (k : ℕ) → Open k ≡ Done → ⊥
not_open_done k e = cc

not_new_done : New ≡ Done → ⊥
not_new_done e = cc

same_open : (i j : ℕ) → Open i ≡ Open j → i ≡ j
same_open i j e = cc

-- the beginning of a list
pub take_got : {X : Type 0} (n k : ℕ) (xs : List X) (x : X) → slice_get (take n xs) k ≡ Some x → (k < n) × (slice_get xs k ≡ Some x)
take_got zero k xs x e = absurd cc
take_got (suc n) k [] x e = absurd cc
take_got (suc n) zero (y ∷ xs) x e = (omega arith, e)
take_got (suc n) (suc k) (y ∷ xs) x e = let h = take_got n k xs x e in let l = h.0 in (omega arith, h.1)

pub got_take : {X : Type 0} (n k : ℕ) (xs : List X) (x : X) → k < n → slice_get xs k ≡ Some x → slice_get (take n xs) k ≡ Some x
got_take zero k xs x l e = absurd (omega arith)
got_take (suc n) k [] x l e = absurd cc
got_take (suc n) zero (y ∷ xs) x l e = e
got_take (suc n) (suc k) (y ∷ xs) x l e = got_take n k xs x (omega arith) e

module _ (links : List Link) where
  -- from places that are followed by done places alone, links lead to done places
  leads_done : (marks : List Mark) → ((from to : ℕ) → IsMarked marks from Done → Leads links from to → IsMarked marks to Done) → (from : ℕ) (between : List ℕ) (to : ℕ) →
      ((next : ℕ) → Leads links from next → IsMarked marks next Done) → LeadsOver links from between to → IsMarked marks to Done
  leads_done marks closed from [] to follows l = follows to l
  leads_done marks closed from (place ∷ places) to follows l = leads_done marks closed place places to (λ next m. closed place next (follows place l.0) m) l.1

  -- the last place of the path is done with
  pub goes_back : (places place k : ℕ) (marks : List Mark) (cursors : List (Option ℕ)) (path : List ℕ) → IsWalkOf links places marks cursors path → length path ≡ k + 1 → slice_get path k ≡ Some place →
      slice_get cursors place ≡ Some None → IsWalkOf links places (set marks place Done) cursors (take k path) × StaysSeen marks (set marks place Done)
  goes_back places place k marks cursors path w len end none =
      let opened : IsMarked marks place (Open k) = w.path_open k place end in
      let inside : place < length marks = slice_get_within marks place (Open k) opened in
      let follows : (to : ℕ) → Leads links place to → IsMarked marks to Done = λ to l. elim (w.walked_open place k l.0 to None opened none tt l.1) [
        | inl d ↦ d
        | inr e ↦ absurd (omega (arith, len, slice_get_within path (k + 1) to e))
      ] in
      let done : (p : ℕ) → IsMarked marks p Done → IsMarked (set marks place Done) p Done = λ p d. elim (cases_eq p place) [
        | inl e ↦ subst (λ (n : ℕ). IsMarked (set marks place Done) n Done) (sym e) (set_same marks place Done inside)
        | inr n ↦ set_other marks place p Done n ∙ d
      ] in
      let done_cases : (p : ℕ) → IsMarked (set marks place Done) p Done → (p ≡ place) ⊎ IsMarked marks p Done = λ p d. elim (set_cases marks place p Done Done d) [ inl h ↦ inl h.0 | inr h ↦ inr h.1 ] in
      let open_cases : (p j : ℕ) → IsMarked (set marks place Done) p (Open j) → (p ≢ place) × IsMarked marks p (Open j) = λ p j o. elim (set_cases marks place p Done (Open j) o) [ inl h ↦ absurd (not_open_done j (sym h.1)) | inr h ↦ (h.0, h.1) ] in
      let new_cases : (p : ℕ) → IsMarked (set marks place Done) p New → IsMarked marks p New = λ p o. elim (set_cases marks place p Done New o) [ inl h ↦ absurd (not_new_done (sym h.1)) | inr h ↦ h.1 ] in
      let here : (p j : ℕ) → j ≡ k → IsMarked marks p (Open j) → p ≡ place = λ p j e o. one_item path k p place (subst (λ (n : ℕ). slice_get path n ≡ Some p) e (w.open_path p j o)) end in (
        record {
          mark_count = length-set marks place Done ∙ w.mark_count;
          cursor_count = w.cursor_count;
          cursor = w.cursor;
          done_next = λ from to d l. elim (done_cases from d) [
            | inl e ↦ done to (follows to (subst (λ (n : ℕ). Leads links n to) e l))
            | inr m ↦ done to (w.done_next from to m l)
          ];
          done_free = λ p between d l. elim (done_cases p d) [
            | inl e ↦ not_open_done k (one_item marks place (Open k) Done opened
                (leads_done marks w.done_next place between place follows (subst (λ (n : ℕ). LeadsOver links n between n) e l)))
            | inr m ↦ w.done_free p between m l
          ];
          path_open = λ j p e.
              let h = take_got k j path p e in
              let o = w.path_open j p h.1 in
              let ne : p ≢ place = λ q. let f = same_open j k (one_item marks p (Open j) (Open k) o (subst (λ (n : ℕ). IsMarked marks n (Open k)) (sym q) opened)) in let l = h.0 in omega (arith, f, l) in
              set_other marks place p Done ne ∙ o;
          open_path = λ p j o.
              let h = open_cases p j o in
              let e = w.open_path p j h.1 in
              let l = slice_get_within path j p e in
              elim (cases_eq j k) [
                | inl q ↦ absurd (h.0 (here p j q h.1))
                | inr n ↦ got_take k j path p (omega (arith, n, l, len)) e
              ];
          along = λ j from to e f. w.along j from to (take_got k j path from e).1 (take_got k (j + 1) path to f).1;
          walked_new = λ p at to cursor o e f l. w.walked_new p at to cursor (new_cases p o) e f l;
          walked_open = λ p j at to cursor o e f l.
              let h = open_cases p j o in
              elim (w.walked_open p j at to cursor h.1 e f l) [
                | inl d ↦ inl (done to d)
                | inr g ↦
                    let m = slice_get_within path (j + 1) to g in
                    elim (cases_eq (j + 1) k) [
                      | inl q ↦ inl (subst (λ (n : ℕ). IsMarked (set marks place Done) n Done)
                          (sym (one_item path k to place (subst (λ (n : ℕ). slice_get path n ≡ Some to) q g) end)) (set_same marks place Done inside))
                      | inr n ↦ inr (got_take k (j + 1) path to (omega (arith, n, m, len)) g)
                    ]
              ];
        },
        λ p unseen o. unseen (new_cases p o),
      )

  -- the links that were walked after the cursor of a place went on to the link before
  pub walked_cases : (place at high to : ℕ) (o : Option ℕ) → IsLastFrom links place at o → IsWalked o high → IsLink links high place to → (high ≡ at) ⊎ (at < high)
  walked_cases place at high to None last u l = elim (cases_lt high at) [
    | inl m ↦ absurd (last high to (omega arith) m l)
    | inr m ↦ elim (cases_eq high at) [ inl e ↦ inl e | inr n ↦ inr (omega (arith, n, m)) ]
  ]
  walked_cases place at high to (Some k) last u l = elim (cases_lt high at) [
    | inl m ↦ absurd (let v : k < high = u in last.2 high to (omega arith) m l)
    | inr m ↦ elim (cases_eq high at) [ inl e ↦ inl e | inr n ↦ inr (omega (arith, n, m)) ]
  ]

  -- the cursors after a step along a link
  pub record AreOn (place to : ℕ) (cursors next : List (Option ℕ)) (path : List ℕ) : Type 0 where
    pub count : length next ≡ length cursors
    pub valid : (p at : ℕ) → slice_get next p ≡ Some (Some at) → (t : ℕ) × IsLink links at p t
    pub walked : (p at t : ℕ) (cursor : Option ℕ) → slice_get next p ≡ Some cursor → IsWalked cursor at → IsLink links at p t →
        (EndsIn path p × (t ≡ to)) ⊎ ((old : Option ℕ) × (slice_get cursors p ≡ Some old) × IsWalked old at)

  pub steps_on : (places place at to : ℕ) (o : Option ℕ) (marks : List Mark) (cursors : List (Option ℕ)) (path : List ℕ) → IsWalkOf links places marks cursors path → EndsIn path place → slice_get cursors place ≡ Some (Some at) →
      IsLink links at place to → IsLastFrom links place at o → AreOn place to cursors (set cursors place o) path
  steps_on places place at to o marks cursors path w end here link last = record {
    count = length-set cursors place o;
    valid = λ p k e. elim (set_cases cursors place p o (Some k) e) [
      | inl h ↦ (let l : IsLastFrom links place at (Some k) = subst (IsLastFrom links place at) h.1 last in (l.1.0, subst (λ (n : ℕ). IsLink links k n l.1.0) (sym h.0) l.1.1))
      | inr h ↦ w.cursor p k h.1
    ];
    walked = λ p k t cursor e u l. elim (set_cases cursors place p o cursor e) [
      | inl h ↦
          let link' : IsLink links k place t = subst (λ (n : ℕ). IsLink links k n t) h.0 l in
          elim (walked_cases place at k t o last (subst (λ (c : Option ℕ). IsWalked c k) (sym h.1) u) link') [
            | inl q ↦
                let same : record { from = place; to = t } ≡ record { from = place; to = to } =
                one_item links at (record { from = place; to = t }) (record { from = place; to = to }) (subst (λ (n : ℕ). slice_get links n ≡ Some (record { from = place; to = t })) q link') link in
                inl (subst (EndsIn path) (sym h.0) end, ap (λ (x : Link). x.to) same)
            | inr m ↦ inr (Some at, subst (λ (n : ℕ). slice_get cursors n ≡ Some (Some at)) (sym h.0) here, m)
          ]
      | inr h ↦ inr (cursor, h.1, u)
    ];
  }

  -- nothing was walked
  pub stands : (places place to : ℕ) (marks : List Mark) (cursors : List (Option ℕ)) (path : List ℕ) → IsWalkOf links places marks cursors path → AreOn place to cursors cursors path
  stands places place to marks cursors path w = record {
    count = refl;
    valid = w.cursor;
    walked = λ p k t cursor e u l. inr (cursor, e, u);
  }

  -- the link leads to a done place
  pub goes_on : (places place to : ℕ) (marks : List Mark) (cursors next : List (Option ℕ)) (path : List ℕ) → IsWalkOf links places marks cursors path → AreOn place to cursors next path → IsMarked marks to Done →
      IsWalkOf links places marks next path
  goes_on places place to marks cursors next path w on done = record {
    mark_count = w.mark_count;
    cursor_count = on.count ∙ w.cursor_count;
    cursor = on.valid;
    done_next = w.done_next;
    done_free = w.done_free;
    path_open = w.path_open;
    open_path = w.open_path;
    along = w.along;
    walked_new = λ p at t cursor o e u l. elim (on.walked p at t cursor e u l) [
      | inl h ↦ not_open_new h.0.0 (one_item marks p (Open h.0.0) New (w.path_open h.0.0 p h.0.2) o)
      | inr h ↦ w.walked_new p at t h.0 o h.1 h.2 l
    ];
    walked_open = λ p j at t cursor o e u l. elim (on.walked p at t cursor e u l) [
      | inl h ↦ inl (subst (λ (n : ℕ). IsMarked marks n Done) (sym h.1) done)
      | inr h ↦ w.walked_open p j at t h.0 o h.1 h.2 l
    ];
  }

  -- the link leads to a new place, or a walk begins there
  pub opens : (places place to : ℕ) (marks : List Mark) (cursors next : List (Option ℕ)) (path : List ℕ) → IsWalkOf links places marks cursors path → AreOn place to cursors next path → IsMarked marks to New →
      ((from : ℕ) → EndsIn path from → Leads links from to) →
      IsWalkOf links places (set marks to (Open (length path))) next (path ++ to ∷ []) × StaysSeen marks (set marks to (Open (length path))) × (IsMarked (set marks to (Open (length path))) to New → ⊥)
  opens places place to marks cursors next path w on new leads =
      let mark = Open (length path) in
      let inside : to < length marks = slice_get_within marks to New new in
      let done : (p : ℕ) → IsMarked marks p Done → IsMarked (set marks to (Open (length path))) p Done = λ p d.
      set_other marks to p (Open (length path)) (λ e. not_new_done (one_item marks to New Done new (subst (λ (n : ℕ). IsMarked marks n Done) e d))) ∙ d in
      let done_cases : (p : ℕ) → IsMarked (set marks to (Open (length path))) p Done → IsMarked marks p Done = λ p d. elim (set_cases marks to p (Open (length path)) Done d) [ inl h ↦ absurd (not_open_done (length path) h.1) | inr h ↦ h.1 ] in
      let new_cases : (p : ℕ) → IsMarked (set marks to (Open (length path))) p New → (p ≢ to) × IsMarked marks p New = λ p d. elim (set_cases marks to p (Open (length path)) New d) [ inl h ↦ absurd (not_open_new (length path) h.1) | inr h ↦ (h.0, h.1) ] in
      let opened : (p j : ℕ) → IsMarked marks p (Open j) → IsMarked (set marks to (Open (length path))) p (Open j) = λ p j o.
      set_other marks to p (Open (length path)) (λ e. not_open_new j (one_item marks to (Open j) New (subst (λ (n : ℕ). IsMarked marks n (Open j)) e o) new)) ∙ o in (
        record {
          mark_count = length-set marks to (Open (length path)) ∙ w.mark_count;
          cursor_count = on.count ∙ w.cursor_count;
          cursor = on.valid;
          done_next = λ from t d l. done t (w.done_next from t (done_cases from d) l);
          done_free = λ p between d l. w.done_free p between (done_cases p d) l;
          path_open = λ j p e. elim (push_cases path to j p e) [
            | inl h ↦ opened p j (w.path_open j p h.0)
            | inr h ↦ subst (λ (n : ℕ). IsMarked (set marks to (Open (length path))) n (Open j)) h.1
                (subst (λ (n : ℕ). IsMarked (set marks to (Open (length path))) to (Open n)) (sym h.0) (set_same marks to (Open (length path)) inside))
          ];
          open_path = λ p j o. elim (set_cases marks to p (Open (length path)) (Open j) o) [
            | inl h ↦ subst (λ (n : ℕ). slice_get (path ++ to ∷ []) n ≡ Some p) (same_open (length path) j h.1)
                (subst (λ (n : ℕ). slice_get (path ++ to ∷ []) (length path) ≡ Some n) (sym h.0) (push_at path to))
            | inr h ↦ push_before path to j p (w.open_path p j h.1)
          ];
          along = λ j from t e f. elim (push_cases path to (j + 1) t f) [
            | inl h ↦ elim (push_cases path to j from e) [
              | inl g ↦ w.along j from t g.0 h.0
              | inr g ↦ absurd (let a = h.1 in let b = g.0 in omega arith)
            ]
            | inr h ↦ elim (push_cases path to j from e) [
              | inl g ↦ subst (Leads links from) h.1 (leads from (j, sym h.0, g.0))
              | inr g ↦ absurd (let a = h.0 in let b = g.0 in omega arith)
            ]
          ];
          walked_new = λ p at t cursor o e u l. elim (on.walked p at t cursor e u l) [
            | inl h ↦ not_open_new h.0.0 (one_item marks p (Open h.0.0) New (w.path_open h.0.0 p h.0.2) (new_cases p o).1)
            | inr h ↦ w.walked_new p at t h.0 (new_cases p o).1 h.1 h.2 l
          ];
          walked_open = λ p j at t cursor o e u l. elim (set_cases marks to p (Open (length path)) (Open j) o) [
            | inl g ↦ elim (on.walked p at t cursor e u l) [
              | inl h ↦ absurd (not_open_new h.0.0 (one_item marks p (Open h.0.0) New (w.path_open h.0.0 p h.0.2) (subst (λ (n : ℕ). IsMarked marks n New) (sym g.0) new)))
              | inr h ↦ absurd (w.walked_new p at t h.0 (subst (λ (n : ℕ). IsMarked marks n New) (sym g.0) new) h.1 h.2 l)
            ]
            | inr g ↦ elim (on.walked p at t cursor e u l) [
              | inl h ↦
                  let q : j ≡ h.0.0 = same_open j h.0.0 (one_item marks p (Open j) (Open h.0.0) g.1 (w.path_open h.0.0 p h.0.2)) in
                  inr (subst (λ (n : ℕ). slice_get (path ++ to ∷ []) (j + 1) ≡ Some n) (sym h.1)
                  (subst (λ (n : ℕ). slice_get (path ++ to ∷ []) n ≡ Some to) (h.0.1 ∙ ap (λ (n : ℕ). n + 1) (sym q)) (push_at path to)))
              | inr h ↦ elim (w.walked_open p j at t h.0 g.1 h.1 h.2 l) [
                | inl d ↦ inl (done t d)
                | inr f ↦ inr (push_before path to (j + 1) t f)
              ]
            ]
          ];
        },
        (λ p unseen o. unseen (new_cases p o).1),
        (λ o. (new_cases to o).0 refl),
      )

  -- the link leads to a place of the path
  pub closes : (places place to first : ℕ) (marks : List Mark) (cursors : List (Option ℕ)) (path : List ℕ) → IsWalkOf links places marks cursors path → EndsIn path place → Leads links place to → IsMarked marks to (Open first) → IsRingAt links path first
  closes places place to first marks cursors path w end link o =
      let at = w.open_path to first o in
      record {
        inside = slice_get_within path first to at;
        along = w.along;
        once = λ i j p e f. same_open i j (one_item marks p (Open i) (Open j) (w.path_open i p e) (w.path_open j p f));
        back = λ k last p len e f.
            let last_is : last ≡ place = one_item path end.0 last place (subst (λ (n : ℕ). slice_get path n ≡ Some last) (omega (arith, len, end.1)) e) end.2 in
            subst (λ (n : ℕ). Leads links n p) (sym last_is) (subst (Leads links place) (one_item path first to p at f) link);
      }

  -- nothing is walked at first
  pub begins : (places : ℕ) (cursors before : List (Option ℕ)) → IsThreaded links places cursors before → AreBefore links before × IsWalkOf links places (replicate places New) cursors []
  begins places cursors before t =
      let none : (p : ℕ) (m : Mark) → IsMarked (replicate places New) p m → m ≡ New = λ p m e. sym (copies places New p m e) in (
        record { count = t.befores; before_of = t.before_of },
        record {
          mark_count = length-replicate places New;
          cursor_count = t.lasts;
          cursor = λ p at e. (t.last_of p (Some at) e).1;
          done_next = λ from to d l. absurd (not_new_done (sym (none from Done d)));
          done_free = λ p between d l. not_new_done (sym (none p Done d));
          path_open = λ k p e. absurd (nothing p e);
          open_path = λ p k o. absurd (not_open_new k (none p (Open k) o));
          along = λ k from to e f. absurd (nothing from e);
          walked_new = λ p at to cursor o e u l. past p at to cursor (t.last_of p cursor e) u l;
          walked_open = λ p k at to cursor o e u l. absurd (not_open_new k (none p (Open k) o));
        },
      ) where
        nothing : (x : ℕ) → None ≡ Some x → ⊥
        nothing x e = cc

        past : (p at to : ℕ) (cursor : Option ℕ) → IsLastFrom links p (length links) cursor → IsWalked cursor at → IsLink links at p to → ⊥
        past p at to None last u l = last at to (omega arith) (slice_get_within links at (record { from = p; to = to }) l) l
        past p at to (Some k) last u l = let v : k < at = u in last.2 at to (omega arith) (slice_get_within links at (record { from = p; to = to }) l) l

  -- where every place was seen and the walk rests, there is no ring
  pub no_ring : (places : ℕ) (marks : List Mark) (cursors : List (Option ℕ)) → AreLinksInside links places → IsWalkOf links places marks cursors [] → ((k : ℕ) → k < places → IsMarked marks k New → ⊥) → (ring : List ℕ) → IsRing links ring → ⊥
  no_ring places marks cursors inside w seen [] r = r
  no_ring places marks cursors inside w seen (p ∷ ps) r = go (within marks p (omega (arith, w.mark_count, low))) where
    first : (ps : List ℕ) → LeadsOver links p ps p → (q : ℕ) × Leads links p q
    first [] l = (p, l)
    first (q ∷ qs) l = (q, l.0)

    low : p < places
    low = let f = first ps r in (inside p f.0 f.1).0

    go : (m : Mark) × IsMarked marks p m → ⊥
    go (New, e) = seen p low e
    go (Open k, e) = let f : None ≡ Some p = w.open_path p k e in cc
    go (Done, e) = w.done_free p ps e r

pub less_walk : (cursors : List (Option ℕ)) (place at : ℕ) (o : Option ℕ) → slice_get cursors place ≡ Some (Some at) → left_of o ≤ at → sum_by left_of (set cursors place o) < sum_by left_of cursors
less_walk cursors place at o e l =
    let inside = slice_get_within cursors place (Some at) e in
    let sums = sum_by-set left_of cursors place o (Some at) inside in
    let is : left_of (get_or cursors place (Some at)) ≡ at + 1 = ap left_of (get_or_from_slice_get cursors place (Some at) (Some at) e) in
    omega (arith, sums, is, l)

-- ---- what a step reads

pub end_inside : (links : List Link) (places place : ℕ) (marks : List Mark) (cursors : List (Option ℕ)) (path : List ℕ) → IsWalkOf links places marks cursors path → EndsIn path place → place < places
end_inside links places place marks cursors path w end = omega (arith, w.mark_count, slice_get_within marks place (Open end.0) (w.path_open end.0 place end.2))

-- the cursor of the last place stands at a link from it
pub link_here : (links : List Link) (places place at : ℕ) (o : Option ℕ) (marks : List Mark) (cursors : List (Option ℕ)) (path : List ℕ) → IsWalkOf links places marks cursors path → EndsIn path place → o ≡ get_or cursors place o → o ≡ Some at →
    (slice_get cursors place ≡ Some (Some at)) × IsLink links at place (get_or links at (record { from = 0; to = 0 })).to
link_here links places place at o marks cursors path w end read is =
    let inside : place < length cursors = omega (arith, w.cursor_count, end_inside links places place marks cursors path w end) in
    let got : slice_get cursors place ≡ Some (Some at) = read_at cursors place o inside read ∙ ap Some is in
    let link = w.cursor place at got in (
      got,
      subst (λ (n : ℕ). IsLink links at place n)
          (sym (ap (λ (x : Link). x.to) (get_or_from_slice_get links at (record { from = place; to = link.0 }) (record { from = 0; to = 0 }) link.1))) link.1,
    )

pub opened_walk : (links : List Link) (places to : ℕ) (old new : Walk) → IsOpened to old new → AreBefore links old.before.items →
    IsWalkOf links places (set old.marks.items to (Open (length old.path.items))) old.cursors.items (old.path.items ++ to ∷ []) → IsWalk links places new
opened_walk links places to old new o b w = record {
  links_before = subst (AreBefore links) (sym o.before) b;
  is_walk =
      subst (λ (ms : List Mark). IsWalkOf links places ms new.cursors.items new.path.items) (sym o.marks)
      (subst (λ (cs : List (Option ℕ)). IsWalkOf links places (set old.marks.items to (Open (length old.path.items))) cs new.path.items) (sym o.cursors)
      (subst (λ (ps : List ℕ). IsWalkOf links places (set old.marks.items to (Open (length old.path.items))) old.cursors.items ps) (sym o.path) w));
}

pub back_from : (links : List Link) (place at : ℕ) (o : Option ℕ) → IsLastFrom links place at o → left_of o ≤ at
back_from links place at None l = omega arith
back_from links place at (Some k) l = let a = l.0 in omega arith

-- what a step along a link reads
pub record IsStep (links : List Link) (places place at to : ℕ) (next : Option ℕ) (old : Walk) : Type 0 where
  pub on : AreOn links place to old.cursors.items (set old.cursors.items place next) old.path.items
  pub link : IsLink links at place to
  pub less : sum_by left_of (set old.cursors.items place next) < sum_by left_of old.cursors.items
  pub to_inside : to < places

pub advance : (links : List Link) (places place at : ℕ) (o next : Option ℕ) (old : Walk) → AreLinksInside links places → IsWalk links places old → EndsIn old.path.items place →
    o ≡ get_or old.cursors.items place o → o ≡ Some at → next ≡ get_or old.before.items at next → IsStep links places place at (get_or links at (record { from = 0; to = 0 })).to next old
advance links places place at o next old inside w end read is after =
    let here = link_here links places place at o old.marks.items old.cursors.items old.path.items w.is_walk end read is in
    let l : at < length old.before.items = omega (arith, w.links_before.count, slice_get_within links at (record { from = place; to = (get_or links at (record { from = 0; to = 0 })).to }) here.1) in
    let last = w.links_before.before_of at place (get_or links at (record { from = 0; to = 0 })).to next here.1 (read_at old.before.items at next l after) in
    record {
      on = steps_on links places place at (get_or links at (record { from = 0; to = 0 })).to next old.marks.items old.cursors.items old.path.items w.is_walk end here.0 here.1 last;
      link = here.1;
      less = less_walk old.cursors.items place at next here.0 (back_from links place at next last);
      to_inside = (inside place (get_or links at (record { from = 0; to = 0 })).to (at, here.1)).1;
    }

pub marked : (marks : List Mark) (places to : ℕ) (m n : Mark) → length marks ≡ places → to < places → m ≡ get_or marks to m → m ≡ n → IsMarked marks to n
marked marks places to m n len l read is = let i : to < length marks = omega (arith, len, l) in read_at marks to m i read ∙ ap Some is

pub same_end : (path : List ℕ) (place from : ℕ) → EndsIn path place → EndsIn path from → place ≡ from
same_end path place from e f = one_item path e.0 place from e.2 (subst (λ (n : ℕ). slice_get path n ≡ Some from) (omega (arith, e.1, f.1)) f.2)

-- a walk begins at a new place
pub begun : (links : List Link) (places place : ℕ) (old new : Walk) → IsResting links places old → IsMarked old.marks.items place New → IsOpened place old new →
    IsWalk links places new × StaysSeen old.marks.items new.marks.items × (IsMarked new.marks.items place New → ⊥)
begun links places place old new rest fresh o =
    let w = rest.is_walk.is_walk in
    let all = opens links places place place old.marks.items old.cursors.items old.cursors.items old.path.items w (stands links places place place old.marks.items old.cursors.items old.path.items w) fresh
    (λ from e. absurd (let l = ap length rest.empty in omega (arith, l, e.1))) in (
      opened_walk links places place old new o rest.is_walk.links_before all.0,
      subst (StaysSeen old.marks.items) (sym o.marks) all.1,
      subst (λ (ms : List Mark). IsMarked ms place New → ⊥) (sym o.marks) all.2,
    )
