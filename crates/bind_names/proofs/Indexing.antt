-- The first places of names, one site after another.
use Rattle.std.proofs.Common.{◌≡◌, ◌≢◌, ℕ, ◌+◌, Bool, true, false, if◌then◌else◌, List, map, length, slice_get, Option, Some, None, option_map, refl, sym, ◌∙◌, ap, subst, arith, below_more, inl, inr, Bor}
use Rattle.std.proofs.lemmas.Bool.{cases_order}
use Rattle.std.specs.Bool.{Decides}
use Rattle.std.specs.Str.{bytes_eq}
use Rattle.std.proofs.lemmas.Option.{slice_get-map, slice_get_within}
use Rattle.std.proofs.lemmas.Slice.Eq.{bytes_eq-Decides}
use Rattle.name_table.specs.declared.places.FirstNames.{FirstNames}
use Rattle.name_table.specs.Places.{place_of, first_place}
use Rattle.bind_sites.specs.declared.site.Site.{Site as CodeSite}
use Rattle.bind_sites.specs.declared.site.Site.TheVariants as code
use Rattle.bind_sites.specs.Sites.{Site, Port}
use Rattle.bind_sites.specs.View.{view_site}
use Rattle.bind_sites.specs.Scope.{IsAt}
use Rattle.bind_sites.specs.Again.{HasFirstRange}
use Rattle.bind_names.specs.Places.{directed_name, FitsSite, FitSites, IsFirstPlace, HoldsFirst, SeesAny}

-- at a site that has no such name
more_none : (named : List (Option (List ℕ))) (k : ℕ) (name : List ℕ) (p : Option ℕ) → slice_get named k ≡ Some None → IsFirstPlace named k name p → IsFirstPlace named (k + 1) name p
more_none named k name None none first = below_more (λ i. slice_get named i ≢ Some (Some name)) k first (λ e. let f : Some None ≡ Some (Some name) = sym none ∙ e in cc)
more_none named k name (Some p) none (lt, here, before) = (omega arith, here, before)

-- at a site that has the name
more_same : (named : List (Option (List ℕ))) (k : ℕ) (name : List ℕ) (p : Option ℕ) → slice_get named k ≡ Some (Some name) → IsFirstPlace named k name p → IsFirstPlace named (k + 1) name (first_place p k)
more_same named k name None here first = (omega arith, here, first)
more_same named k name (Some p) here (lt, at, before) = (omega arith, at, before)

-- at a site that has another name
more_other : (named : List (Option (List ℕ))) (k : ℕ) (other name : List ℕ) (p : Option ℕ) → slice_get named k ≡ Some (Some other) → other ≢ name → IsFirstPlace named k name p → IsFirstPlace named (k + 1) name p
more_other named k other name None here ne first = below_more (λ i. slice_get named i ≢ Some (Some name)) k first (λ e. let f : Some (Some other) ≡ Some (Some name) = sym here ∙ e in ne cc)
more_other named k other name (Some p) here ne (lt, at, before) = (omega arith, at, before)

more_some : (named : List (Option (List ℕ))) (k : ℕ) (n name : List ℕ) (b : Bool) (p q : Option ℕ) → Decides b (n ≡ name) → slice_get named k ≡ Some (Some n)
    → IsFirstPlace named k n p → IsFirstPlace named k name q → IsFirstPlace named (k + 1) name (if b then first_place p k else q)
more_some named k n name true p q decides here first other =
    let P : List ℕ → Type 0 = λ m. IsFirstPlace named (k + 1) m (first_place p k) in subst P (decides.0 refl) (more_same named k n p here first)
more_some named k n name false p q decides here first other =
    more_other named k n name q here (λ e. let f : false ≡ true = decides.1 e in cc) other

-- one more site is seen
pub any_step : (named : List (Option (List ℕ))) (k : ℕ) (old new : FirstNames) (o : Option (List ℕ)) → HoldsFirst named k old → slice_get named k ≡ Some o → SeesAny old new o k → HoldsFirst named (k + 1) new
any_step named k old new None holds here keeps = λ name. let P : Option ℕ → Type 0 = λ p. IsFirstPlace named (k + 1) name p in subst P (sym (keeps name)) (more_none named k name (place_of old name) here (holds name))
any_step named k old new (Some n) holds here sees = λ name.
    let P : Option ℕ → Type 0 = λ p. IsFirstPlace named (k + 1) name p in
    subst P (sym (sees name)) (more_some named k n name (bytes_eq n name) (place_of old n) (place_of old name) (bytes_eq-Decides n name) here (holds n) (holds name))

pub none_seen : (named : List (Option (List ℕ))) (names : FirstNames) → ((name : List ℕ) → place_of names name ≡ None) → HoldsFirst named 0 names
none_seen named names none = λ name.
    let P : Option ℕ → Type 0 = λ p. IsFirstPlace named 0 name p in subst P (sym (none name)) (λ at lt. absurd (omega arith))

-- the site at a place, in what is seen of the sites
pub viewed_at : (sites : List CodeSite) (k : ℕ) (site : CodeSite) → slice_get sites k ≡ Some site → slice_get (map view_site sites) k ≡ Some (view_site site)
viewed_at sites k site e = slice_get-map view_site sites k ∙ ap (option_map view_site) e

pub named_at : (f : Site → Option (List ℕ)) (all : List Site) (k : ℕ) (site : Site) → slice_get all k ≡ Some site → slice_get (map f all) k ≡ Some (f site)
named_at f all k site e = slice_get-map f all k ∙ ap (option_map f) e

pub fit_step : (all : List Site) (k : ℕ) (site : Site) → FitSites all k → slice_get all k ≡ Some site → FitsSite site → FitSites all (k + 1)
fit_step all k site fit here this =
    below_more (λ i. (s : Site) → slice_get all i ≡ Some s → FitsSite s) k fit (λ s e. let same : site ≡ s = cc in subst FitsSite same this)

-- a port without a direction has no range
pub no_range : (all : List Site) (name : List ℕ) → IsFirstPlace (map directed_name all) (length all) name None → (range : Option (ℕ × ℕ)) → ¬ HasFirstRange all name range
no_range all name none range r =
    none r.at (slice_get_within all r.at (Port name r.output range) r.there) (named_at directed_name all r.at (Port name r.output range) r.there)

-- the range is given at the first place of a direction
pub first_range : (all : List Site) (name : List ℕ) (place : ℕ) (named : List ℕ) (output : Bool) (range : Option (ℕ × ℕ))
    → IsFirstPlace (map directed_name all) (length all) name (Some place) → IsAt all place (Port named output range) → HasFirstRange all name range
first_range all name place named output range (lt, here, before) there =
    let e : Some (Some named) ≡ Some (Some name) = sym (named_at directed_name all place (Port named output range) there) ∙ here in
    let same : named ≡ name = cc in
    record {
      at = place;
      output = output;
      there = there ∙ ap (λ n. Some (Port n output range)) same;
      first = λ way other (earlier, less, at). before earlier less (named_at directed_name all earlier (Port name way other) at);
    }

-- a port has one range
pub same_range : (all : List Site) (name : List ℕ) (r s : Option (ℕ × ℕ)) → HasFirstRange all name r → HasFirstRange all name s → r ≡ s
same_range all name r s one other =
    elim (cases_order one.at other.at) [
      | inl same ↦
          let P : ℕ → Type 0 = λ i. IsAt all i (Port name one.output r) in
          let e : Some (Port name one.output r) ≡ Some (Port name other.output s) = sym (subst P same one.there) ∙ other.there in
          cc
      | inr apart ↦ elim apart [
        | inl below ↦ absurd (other.first one.output r (one.at, below, one.there))
        | inr above ↦ absurd (one.first other.output s (other.at, above, other.there))
      ]
    ]

-- a site that is no direction gives none
pub gives_none : (site : CodeSite) → ((name : Bor (List ℕ)) (output : Bool) (range : Option (ℕ × ℕ)) → site ≢ code.Port name output range) → directed_name (view_site site) ≡ None
gives_none (code.Module name) other = refl
gives_none (code.Listed name) other = refl
gives_none (code.Port name output range) other = absurd (other name output range refl)
gives_none (code.Wire name range) other = refl
gives_none (code.Assign to from) other = refl
gives_none (code.Instance kind name links) other = refl
gives_none (code.Named kind port expr) other = refl
gives_none (code.Ordered kind place expr) other = refl
gives_none (code.Assigned operand) other = refl
gives_none (code.Linked operand) other = refl

-- at the first place of a direction stands no other site
pub stands_direction : (all : List Site) (name : List ℕ) (place : ℕ) (site : Site) → IsFirstPlace (map directed_name all) (length all) name (Some place)
    → slice_get all place ≡ Some site → directed_name site ≡ None → ⊥
stands_direction all name place site (lt, here, before) there none =
    let e : Some None ≡ Some (Some name) = ap Some (sym none) ∙ (sym (named_at directed_name all place site there) ∙ here) in
    cc
