-- One more site: where names are first given, and first given again.
use Rattle.std.proofs.lemmas.Option.{slice_get-map, slice_get_read}
use Rattle.bind_sites.specs.declared.site.Site.{Site as CodeSite}
use Rattle.bind_sites.specs.View.{view_site}
use Rattle.std.proofs.Common.{get_or, map, length, OnOk, Result, Ok, Err, ◌≡◌, ◌⊎◌, inl, inr, ℕ, ◌+◌, ◌<◌, Bool, true, false, List, Option, Some, None, sym, ◌∙◌, ap, subst, arith, rules, refl, Bor}
use Rattle.std.specs.Option.{option_map}
use Rattle.std.specs.Str.{bytes_eq}
use Rattle.std.proofs.lemmas.Slice.Eq.{bytes_eq-Decides}
use Rattle.name_table.specs.Places.{place_of, first_place, Sees}
use Rattle.bind_sites.specs.declared.sort.Sort.{Sort}
use Rattle.bind_sites.specs.Sites.{Site}
use Rattle.bind_sites.specs.Scope.{IsAt}
use Rattle.bind_sites.specs.Again.{name_as, Gives}
use Rattle.bind_sites.specs.Index.{IsNotGiven, IsFirstPlace, HasNoneAgain, IsFirstAgain}
use Rattle.bind_names.specs.declared.index.Index.{Index}
use Rattle.bind_names.specs.Indexed.{IsIndex, again_after}

-- a place gives one name at most
one_name : (by : Sort) (all : List Site) (at : ℕ) (site : Site) (o : Option (List ℕ)) (name : List ℕ) → IsAt all at site → name_as by site ≡ o → Gives by all at name → o ≡ Some name
one_name by all at site o name there is gives =
    let there_too : IsAt all at gives.0 = gives.1 in
    let named : name_as by gives.0 ≡ Some name = gives.2 in
    let same : site ≡ gives.0 = some_same (sym there ∙ there_too) in
    sym is ∙ ap (name_as by) same ∙ named where
      some_same : {A : Type 0} {a b : A} → Some a ≡ Some b → a ≡ b
      some_same h = cc

-- below one more: below, or there
pub below : (at limit : ℕ) → at < limit + 1 → (at < limit) ⊎ (at ≡ limit)
below at limit h = omega-cases where
  omega-cases : (at < limit) ⊎ (at ≡ limit)
  omega-cases = grind arith

not_given_more : (by : Sort) (all : List Site) (limit : ℕ) (name : List ℕ) → IsNotGiven by all limit name → ¬ Gives by all limit name → IsNotGiven by all (limit + 1) name
not_given_more by all limit name before here = λ at lt gives.
    elim (below at limit lt) [ inl b ↦ before at b gives | inr e ↦ here (subst (λ (n : ℕ). Gives by all n name) e gives) ]

-- a name that is not given here keeps its first place
pub first_kept : (by : Sort) (all : List Site) (limit : ℕ) (name : List ℕ) (place : Option ℕ) → ¬ Gives by all limit name → IsFirstPlace by all limit name place → IsFirstPlace by all (limit + 1) name place
first_kept by all limit name None here before = not_given_more by all limit name before here
first_kept by all limit name (Some at) here before = (omega (arith, before.0), before.1, before.2)

-- a name that is given here is first there, or here
pub first_here : (by : Sort) (all : List Site) (limit : ℕ) (name : List ℕ) (place : Option ℕ) → Gives by all limit name → IsFirstPlace by all limit name place → IsFirstPlace by all (limit + 1) name (first_place place limit)
first_here by all limit name None gives before = (omega arith, gives, before)
first_here by all limit name (Some at) gives before = (omega (arith, before.0), before.1, before.2)

-- no names are given again by a site that gives none
pub again_none : (by : Sort) (all : List Site) (limit : ℕ) → ((name : List ℕ) → ¬ Gives by all limit name) → HasNoneAgain by all limit → HasNoneAgain by all (limit + 1)
again_none by all limit here before = λ at name lt again.
    elim (below at limit lt) [ inl b ↦ before at name b again | inr e ↦ here name (subst (λ (n : ℕ). Gives by all n name) e again.0) ]

-- nor by one whose name is new
again_new : (by : Sort) (all : List Site) (limit : ℕ) (given : List ℕ) → ((name : List ℕ) → Gives by all limit name → name ≡ given) → IsNotGiven by all limit given → HasNoneAgain by all limit → HasNoneAgain by all (limit + 1)
again_new by all limit given only first before = λ at name lt again.
    elim (below at limit lt) [
      | inl b ↦ before at name b again
      | inr e ↦
          let same : name ≡ given = only name (subst (λ (n : ℕ). Gives by all n name) e again.0) in
          let lower : again.1.0 < limit = subst (λ (n : ℕ). again.1.0 < n) e again.1.1 in
          first again.1.0 lower (subst (λ (n : List ℕ). Gives by all again.1.0 n) same again.1.2)
    ]

-- the first place that gives a name again, after a site that gives none
pub again_still : (by : Sort) (all : List Site) (limit : ℕ) (again : Option (ℕ × List ℕ)) → ((name : List ℕ) → ¬ Gives by all limit name) → IsFirstAgain by all limit again → IsFirstAgain by all (limit + 1) again
again_still by all limit None here before = again_none by all limit here before
again_still by all limit (Some a) here before = (omega (arith, before.0), before.1, before.2)

abbrev bytes_of : Option (ℕ × Bor (List ℕ)) → Option (ℕ × List ℕ)
bytes_of again = option_map (λ (at, name). (at, name.now)) again

-- and after one that gives a name
pub again_given : (by : Sort) (all : List Site) (limit : ℕ) (given : Bor (List ℕ)) (place : Option ℕ) (again : Option (ℕ × Bor (List ℕ))) → Gives by all limit given.now
    → ((name : List ℕ) → Gives by all limit name → name ≡ given.now) → IsFirstPlace by all limit given.now place → IsFirstAgain by all limit (bytes_of again)
    → IsFirstAgain by all (limit + 1) (bytes_of (again_after place (limit, given) again))
again_given by all limit given None None gives only first before = again_new by all limit given.now only first before
again_given by all limit given None (Some a) gives only first before = (omega (arith, before.0), before.1, before.2)
again_given by all limit given (Some place) None gives only first before = (omega arith, (gives, (place, first.0, first.1)), before)
again_given by all limit given (Some place) (Some a) gives only first before = (omega (arith, before.0), before.1, before.2)

-- ---- the index

pub index_none : (by : Sort) (all : List Site) (limit : ℕ) (site : Site) (index : Index) → IsAt all limit site → name_as by site ≡ None → IsIndex by all limit index → IsIndex by all (limit + 1) index
index_none by all limit site index there is before = record {
  names = λ name. first_kept by all limit name (place_of index.names name) (none name) (before.names name);
  again = again_still by all limit (bytes_of index.again) none before.again;
} where
  none : (name : List ℕ) → ¬ Gives by all limit name
  none name gives = never name (one_name by all limit site None name there is gives) where
    never : (n : List ℕ) → None ≡ Some n → ⊥
    never n e = cc

pub index_some : (by : Sort) (all : List Site) (limit : ℕ) (site : Site) (given : Bor (List ℕ)) (old new : Index) → IsAt all limit site → name_as by site ≡ Some given.now
    → Sees old.names new.names given.now limit → new.again ≡ again_after (place_of old.names given.now) (limit, given) old.again → IsIndex by all limit old → IsIndex by all (limit + 1) new
index_some by all limit site given old new there is sees again before = record {
  names = λ name. place_at name (bytes_eq given.now name) refl;
  again = subst (λ (a : Option (ℕ × Bor (List ℕ))). IsFirstAgain by all (limit + 1) (bytes_of a)) (sym again)
      (again_given by all limit given (place_of old.names given.now) old.again gives only (before.names given.now) before.again);
} where
  gives : Gives by all limit given.now
  gives = (site, there, is)

  only : (name : List ℕ) → Gives by all limit name → name ≡ given.now
  only name g = some_same (sym (one_name by all limit site (Some given.now) name there is g)) where
    some_same : {A : Type 0} {a b : A} → Some a ≡ Some b → a ≡ b
    some_same h = cc

  place_at : (name : List ℕ) (b : Bool) → bytes_eq given.now name ≡ b → IsFirstPlace by all (limit + 1) name (place_of new.names name)
  place_at name true e =
      let same : given.now ≡ name = search (rules, bytes_eq-Decides) in
      let place : place_of new.names name ≡ first_place (place_of old.names given.now) limit = rw e at (sees name) in
      rw (place, ← same) (first_here by all limit given.now (place_of old.names given.now) gives (before.names given.now))
  place_at name false e =
      let place : place_of new.names name ≡ place_of old.names name = rw e at (sees name) in
      rw place (first_kept by all limit name (place_of old.names name) (λ g. other (only name g)) (before.names name)) where
        other : name ≡ given.now → ⊥
        other same = absurd (search (rules, bytes_eq-Decides))

-- the site that the code reads
pub site_at : (sites : List CodeSite) (at : ℕ) (site : CodeSite) → at < length sites → site ≡ get_or sites at site → IsAt (map view_site sites) at (view_site site)
site_at sites at site lt is = slice_get-map view_site sites at ∙ ap (option_map view_site) (slice_get_read sites (length sites) at site refl lt is)

-- two facts of an answer give a third
pub both : {A E : Type 0} (r : Result A E) {P Q R : Type 0} → OnOk r P → OnOk r Q → (P → Q → R) → OnOk r R
both (Ok a) p q f = f p q
both (Err e) p q f = tt
