-- The first of the places at which names are given twice.
use Rattle.std.proofs.Common.{◌≡◌, ◌∙◌, ◌<◌, ◌≤◌, ◌+◌, inl, inr, ℕ, List, Option, Some, None, Bor, length, get_or, refl, sym, ap, subst, arith}
use Rattle.std.specs.Prelude.{slice_get, MatchOption}
use Rattle.std.specs.Option.{option_map}
use Rattle.std.proofs.lemmas.Bool.{cases_lt}
use Rattle.std.proofs.lemmas.Option.{slice_get_within, slice_get-get_or, same_Some}
use Rattle.bind_sites.specs.Sites.{Site, Listed, sites}
use Rattle.bind_sites.specs.Again.{IsAgain, IsBitAgain}
use Rattle.bind_names.specs.declared.scope.Scope.{Scope}
use Rattle.bind_names.specs.Scoped.{HasNoDouble, IsFirstDouble}
use Rattle.bind_hierarchy.specs.Duplicates.{IsDuplicate as IsKindDuplicate, IsFirstDuplicate}
use Rattle.bind_forms.specs.Modules.{Setting, IsModuleNamed, IsReached}
use Rattle.bind_forms.specs.Faults.{Place, HasSites}
use Rattle.bind_kinds.specs.declared.netlist.Netlist.{Netlist}
use Rattle.bind_kinds.specs.Netlist.{setting_of}
use Rattle.bind_kinds.specs.Ports.{HasFirstDouble}
use Rattle.bind_faults.specs.Doubles.{IsFirstOf, IsKindTwice, IsWithin, IsTopBit, TellsDouble, IsDoubleAt}
use Rattle.bind_faults.specs.Doubles as twice
use Rattle.bind_faults.specs.Told.{IsTold}
use Rattle.bind_faults.proofs.Places.{one_list, zip_at}
use Rattle.bind_faults.proofs.OneTop.{one_name}

-- ---- modules and cells

to_kind : (setting : Setting) (place : Place) (name : List ℕ) → IsKindTwice setting place name → (place.site ≡ 0) × IsKindDuplicate setting.modules setting.table place.at name
to_kind setting place name (twice.OfModules s n earlier l h) = (s, (n, inl (earlier, l, h)))
to_kind setting place name (twice.OfCell s n row h) = (s, (n, inr (row, h)))

from_kind : (setting : Setting) (at : ℕ) (name : List ℕ) → IsKindDuplicate setting.modules setting.table at name → IsKindTwice setting (record { at = at; site = 0 }) name
from_kind setting at name d = elim d.1 [
  | inl m ↦ twice.OfModules refl d.0 m.0 m.1 m.2
  | inr c ↦ twice.OfCell refl d.0 c.0 c.1
]

pub no_kind : (setting : Setting) → IsFirstDuplicate setting.modules setting.table None → IsFirstOf (IsKindTwice setting) None
no_kind setting none = λ place name d. none place.at name (to_kind setting place name d).1

pub first_kind : (setting : Setting) (at : ℕ) (name : List ℕ) → IsFirstDuplicate setting.modules setting.table (Some at) → IsModuleNamed setting at name → IsFirstOf (IsKindTwice setting) (Some (record { at = at; site = 0; name = name }))
first_kind setting at name first named = (
  from_kind setting at name (subst (λ (n : List ℕ). IsKindDuplicate setting.modules setting.table at n) (one_name setting at first.0.0 name first.0.1.0 named) first.0.1),
  λ before other earlier d. elim earlier [
    | inl low ↦ first.1 before.at other low (to_kind setting before other d).1
    | inr same ↦ omega (arith, same.1)
  ],
)

pub kind_there : (setting : Setting) (at : ℕ) → slice_get setting.modules at ≡ None → IsFirstDuplicate setting.modules setting.table (Some at) → ⊥
kind_there setting at none first = let no : None ≡ Some first.0.1.0.0 = sym none ∙ first.0.1.0.1 in cc

-- ---- within modules

-- the first name of a module that is given twice
pub told_double : (netlist : Netlist) (at : ℕ) (default : Scope) (all : List Site) → IsTold netlist → at < length netlist.scopes.now → HasSites (setting_of netlist) at all → TellsDouble all (get_or netlist.scopes.now at default)
told_double netlist at default all told l has =
    let scope = get_or netlist.scopes.now at default in
    let found = zip_at HasFirstDouble (setting_of netlist).modules netlist.scopes.now at scope told.doubles (slice_get-get_or netlist.scopes.now at default l) in
    let same : all ≡ sites found.0 = has.sites_are ∙ ap sites (same_Some has.owner found.0 (sym has.there ∙ found.1)) in
    subst (λ (l : List Site). TellsDouble l scope) (sym same) found.2

module _ (setting : Setting) (at : ℕ) where
  pub unreached_double : ¬ IsReached setting at → IsDoubleAt setting at None
  unreached_double none = λ site name within. none within.1.reached

  module _ (all : List Site) (has : HasSites setting at all) where
    within_list : (site : ℕ) (name : List ℕ) → IsWithin setting (record { at = at; site = site }) name → IsAgain all site name
    within_list site name w = subst (λ (l : List Site). IsAgain l site name) (one_list setting at w.0 all w.1.has has) w.2

    pub reached_double : IsReached setting at → (double : Option (ℕ × List ℕ)) → IsFirstDouble all double → IsDoubleAt setting at double
    reached_double reached None first = λ site name w.
        let again = within_list site name w in
        first site name (slice_get_within all site again.2.0.0 again.2.0.1) again
    reached_double reached (Some d) first = (
      (all, record { reached = reached; has = has }, first.1),
      λ before other l w. first.2 before other l (within_list before other w),
    )

-- one module more
pub clear_double : (setting : Setting) (limit : ℕ) → ((place : Place) (name : List ℕ) → place.at < limit → ¬ IsWithin setting place name) → IsDoubleAt setting limit None → (place : Place) (name : List ℕ) → place.at < limit + 1 → ¬ IsWithin setting place name
clear_double setting limit before here place name l w = elim (cases_lt place.at limit) [
  | inl low ↦ before place name low w
  | inr high ↦ let same : place.at ≡ limit = omega (arith, l, high) in here place.site name (subst (λ (n : ℕ). IsWithin setting (record { at = n; site = place.site }) name) same w)
]

pub first_double : (setting : Setting) (at site : ℕ) (name copy : List ℕ) → ((place : Place) (name : List ℕ) → place.at < at → ¬ IsWithin setting place name) → IsDoubleAt setting at (Some (site, name)) → copy ≡ name → IsFirstOf (IsWithin setting) (Some (record { at = at; site = site; name = copy }))
first_double setting at site name copy clear first same = (
  subst (λ (n : List ℕ). IsWithin setting (record { at = at; site = site }) n) (sym same) first.0,
  λ before other earlier w. elim earlier [
    | inl low ↦ clear before other low w
    | inr here ↦ first.1 before.site other here.1 (subst (λ (n : ℕ). IsWithin setting (record { at = n; site = before.site }) other) here.0 w)
  ],
)

pub no_double_at_all : (setting : Setting) (limit : ℕ) → length setting.modules ≤ limit → ((place : Place) (name : List ℕ) → place.at < limit → ¬ IsWithin setting place name) → IsFirstOf (IsWithin setting) None
no_double_at_all setting limit whole clear = λ place name w.
    let near : place.at < length setting.modules = slice_get_within setting.modules place.at w.1.has.owner w.1.has.there in
    clear place name (omega (arith, near, whole)) w

-- ---- bits of the top's ports

pub no_more : (all : List Site) (low high : ℕ) → low ≤ high → HasNoDouble all high → HasNoDouble all low
no_more all low high le none = λ at name l. none at name (omega (arith, l, le))

abbrev told : Option (ℕ × Bor (List ℕ)) → Option (ℕ × List ℕ)
told double = option_map (λ (at, name). (at, name.now)) double

module _ (all : List Site) (double : Option (ℕ × Bor (List ℕ))) (first : IsFirstDouble all (told double)) where
  pub single_before : (d : ℕ × Bor (List ℕ)) → double ≡ Some d → HasNoDouble all d.0
  single_before d is = (subst (λ (o : Option (ℕ × Bor (List ℕ))). IsFirstDouble all (told o)) is first).2

  pub single_last : (d : ℕ × Bor (List ℕ)) → double ≡ Some d → (site : ℕ) → site < length all → HasNoDouble all (site + 1) → site < d.0
  single_last d is site l none =
      let here : IsFirstDouble all (told (Some d)) = subst (λ (o : Option (ℕ × Bor (List ℕ))). IsFirstDouble all (told o)) is first in
      elim (cases_lt site d.0) [ inl low ↦ low | inr high ↦ absurd (none d.0 d.1.now (omega (arith, high)) here.1) ]

  pub single_all : double ≡ None → HasNoDouble all (length all)
  single_all is = subst (λ (o : Option (ℕ × Bor (List ℕ))). IsFirstDouble all (told o)) is first

abbrev pub BitFound : List Site → ℕ → Option (ℕ × List ℕ) → Type 0
BitFound all limit found = MatchOption found
    ((at : ℕ) (printed : List ℕ) → at < limit → ¬ IsBitAgain all at printed)
    (λ f. (f.0 < limit) × IsBitAgain all f.0 f.1 × ((at : ℕ) (printed : List ℕ) → at < f.0 → ¬ IsBitAgain all at printed))

module _ (setting : Setting) (top : ℕ) (all : List Site) (has : HasSites setting top all) (limit : ℕ) (before : HasNoDouble all limit)
    (last : (site : ℕ) → site < length all → HasNoDouble all (site + 1) → site < limit) where
  bit_list : (place : Place) (name : List ℕ) → IsTopBit setting top place name → IsBitAgain all place.site name × HasNoDouble all (place.site + 1)
  bit_list place name b = (
    subst (λ (l : List Site). IsBitAgain l place.site name) (one_list setting top b.1.0 all b.1.1 has) b.1.2,
    subst (λ (l : List Site). HasNoDouble l (place.site + 1)) (one_list setting top b.1.0 all b.1.1 has) b.1.3,
  )

  bit_near : (place : Place) (name : List ℕ) → IsTopBit setting top place name → place.site < limit
  bit_near place name b =
      let here = bit_list place name b in
      last place.site (slice_get_within all place.site (Listed here.0.name) here.0.listed) here.1

  pub no_bit : BitFound all limit None → IsFirstOf (IsTopBit setting top) None
  no_bit none = λ place name b. none place.site name (bit_near place name b) (bit_list place name b).0

  pub first_bit : (site : ℕ) (name : List ℕ) → BitFound all limit (Some (site, name)) → IsFirstOf (IsTopBit setting top) (Some (record { at = top; site = site; name = name }))
  first_bit site name found = (
    (refl, (all, has, found.1, no_more all (site + 1) limit (omega (arith, found.0)) before)),
    λ place other earlier b. elim earlier [
      | inl low ↦ omega (arith, low, b.0)
      | inr here ↦ found.2 place.site other here.1 (bit_list place other b).0
    ],
  )
