-- The three sorts of names that are given twice, together.
use Rattle.std.proofs.Common.{◌≡◌, ◌∙◌, ◌<◌, ◌+◌, ◌⊎◌, inl, inr, ℕ, Bool, true, false, cond, List, Option, Some, None, Result, Ok, Err, length, get_or, refl, sym, ap, subst, arith}
use Rattle.std.specs.Option.{option_map}
use Rattle.std.proofs.lemmas.Bool.{cases_lt}
use Rattle.std.proofs.lemmas.Bool.Decides.{nat_tests}
use Rattle.std.proofs.lemmas.Option.{slice_get_within, slice_get_cases}
use Rattle.bind_sites.specs.Sites.{Site, Listed}
use Rattle.bind_sites.specs.Again.{IsBitAgain}
use Rattle.bind_names.specs.Scoped.{IsFirstDouble}
use Rattle.bind_forms.specs.declared.fault.BindFault.{BindFault}
use Rattle.bind_forms.specs.declared.fault.BindFault.TheVariants as fault
use Rattle.bind_forms.specs.Modules.{Setting, IsTop}
use Rattle.bind_forms.specs.Faults.{Place, IsBefore, HasSites, IsDuplicate, OfModules, OfCell, Within, OfBits}
use Rattle.bind_forms.specs.First.{Duplicates, StandsNowhere, IsFirstFault}
use Rattle.bind_kinds.specs.declared.netlist.Netlist.{Netlist}
use Rattle.bind_kinds.specs.Netlist.{setting_of}
use Rattle.bind_faults.specs.declared.doubles.Double.{Double}
use Rattle.bind_faults.specs.Order.{IsClear, IsFirstAt, Answers}
use Rattle.bind_faults.specs.Doubles.{place_of, IsFirstOf, IsKindTwice, IsWithin, IsTopBit, is_before, first_of}
use Rattle.bind_faults.specs.Doubles as twice
use Rattle.bind_faults.specs.Told.{IsTold}
use Rattle.bind_faults.proofs.Order.{first_fault, clear_none, clear_more}
use Rattle.bind_faults.proofs.Places.{scopes_count}
use Rattle.bind_faults.proofs.OneTop.{one_top, top_reached}
use Rattle.bind_faults.proofs.FirstDoubles.{told_double, no_more}

pub before_before : (a b c : Place) → IsBefore a b → IsBefore b c → IsBefore a c
before_before a b c x y = elim x [
  | inl low ↦ elim y [ inl next ↦ inl (omega (arith, low, next)) | inr next ↦ inl (omega (arith, low, next.0)) ]
  | inr low ↦ elim y [ inl next ↦ inl (omega (arith, low.0, next)) | inr next ↦ inr (low.0 ∙ next.0, omega (arith, low.1, next.1)) ]
]

abbrev place_at : ℕ → ℕ → Place
place_at at site = record { at = at; site = site }

same_place : (a b s t : ℕ) → a ≡ b → s ≡ t → place_at a s ≡ place_at b t
same_place a b s t e f = ap (λ n. place_at n s) e ∙ ap (λ n. place_at b n) f

-- what the test of two places says
tested : (one other : Double) (b : Bool) → is_before one other ≡ b → cond b (IsBefore (place_of one) (place_of other)) (¬ IsBefore (place_of one) (place_of other))
tested one other true e = grind (arith, nat_tests)
tested one other false e = λ before. elim before [ inl low ↦ grind (arith, nat_tests) | inr low ↦ grind (arith, nat_tests) ]

abbrev pub Or : (Place → List ℕ → Type 0) → (Place → List ℕ → Type 0) → Place → List ℕ → Type 0
Or P Q place name = P place name ⊎ Q place name

-- a place before which nothing stands is no later than one before it
kept_before : (P : Place → List ℕ → Type 0) (place other : Place) → ¬ IsBefore other place → ((before : Place) (name : List ℕ) → IsBefore before other → ¬ P before name) → (before : Place) (name : List ℕ) → IsBefore before place → ¬ P before name
kept_before P place other late none = λ before name earlier p. elim (cases_lt before.at other.at) [
  | inl low ↦ none before name (inl low) p
  | inr high ↦ elim (cases_lt before.site other.site) [
    | inl less ↦ elim (cases_lt other.at before.at) [
      | inl far ↦ late (elim earlier [ inl l ↦ inl (omega (arith, far, l)) | inr same ↦ inl (omega (arith, far, same.0)) ])
      | inr near ↦ none before name (inr (omega (arith, high, near), less)) p
    ]
    | inr more ↦ late (elim earlier [
      | inl l ↦ inl (omega (arith, high, l))
      | inr same ↦ elim (cases_lt other.at before.at) [
        | inl far ↦ inl (omega (arith, far, same.0))
        | inr near ↦ inr (omega (arith, high, near, same.0), omega (arith, more, same.1))
      ]
    ])
  ]
]

pub joined : (P Q : Place → List ℕ → Type 0) (a b : Option Double) → IsFirstOf P a → IsFirstOf Q b → IsFirstOf (Or P Q) (first_of a b)
joined P Q None None p q = λ place name either. elim either [ inl h ↦ p place name h | inr h ↦ q place name h ]
joined P Q None (Some b) p q = (inr q.0, λ before name l either. elim either [ inl h ↦ p before name h | inr h ↦ q.1 before name l h ])
joined P Q (Some a) None p q = (inl p.0, λ before name l either. elim either [ inl h ↦ p.1 before name l h | inr h ↦ q before name h ])
joined P Q (Some a) (Some b) p q = pick (is_before b a) refl where
  pick : (v : Bool) → is_before b a ≡ v → IsFirstOf (Or P Q) (Some (cond v b a))
  pick true e =
      let less : IsBefore (place_of b) (place_of a) = tested b a true e in
      (inr q.0, λ before name l either. elim either [ inl h ↦ p.1 before name (before_before before (place_of b) (place_of a) l less) h | inr h ↦ q.1 before name l h ])
  pick false e =
      let late : ¬ IsBefore (place_of b) (place_of a) = tested b a false e in
      (inl p.0, λ before name l either. elim either [ inl h ↦ p.1 before name l h | inr h ↦ kept_before Q (place_of a) (place_of b) late q.1 before name l h ])

-- ---- the line of duplicates

-- what is found is a duplicate
found_is : (setting : Setting) (top : ℕ) (place : Place) (name : List ℕ) → IsTop setting top → Or (Or (IsKindTwice setting) (IsWithin setting)) (IsTopBit setting top) place name → IsDuplicate setting place name
found_is setting top place name is (inl (inl (twice.OfModules s n earlier l h))) = OfModules s n earlier l h
found_is setting top place name is (inl (inl (twice.OfCell s n row h))) = OfCell s n row h
found_is setting top place name is (inl (inr w)) = Within w.0 w.1 w.2
found_is setting top place name is (inr b) = OfBits b.1.0 (subst (λ (n : ℕ). IsTop setting n) (sym b.0) is) (subst (λ (n : ℕ). HasSites setting n b.1.0) (sym b.0) b.1.1) b.1.2

-- a duplicate is one that is found, or one that is found stands before it
abbrev Covered : (Place → List ℕ → Type 0) → Place → Type 0
Covered P place = (other : Place) × (name : List ℕ) × P other name × (IsBefore other place ⊎ (other ≡ place))

module _ (netlist : Netlist) (told : IsTold netlist) (top : ℕ) (is : IsTop (setting_of netlist) top) where
  abbrev setting : Setting
  setting = setting_of netlist

  abbrev Any : Place → List ℕ → Type 0
  Any = Or (Or (IsKindTwice setting) (IsWithin setting)) (IsTopBit setting top)

  bit_covered : (place : Place) (name : List ℕ) (all : List Site) → place.at ≡ top → HasSites setting top all → IsBitAgain all place.site name → (double : Option (ℕ × List ℕ)) → IsFirstDouble all double → Covered Any place
  bit_covered place name all same has bit None first =
      let near : place.site < length all = slice_get_within all place.site (Listed bit.name) bit.listed in
      (place, name, inr (same, (all, has, bit, no_more all (place.site + 1) (length all) (omega (arith, near)) first)), inr refl)
  bit_covered place name all same has bit (Some d) first = elim (cases_lt place.site d.0) [
    | inl low ↦ (place, name, inr (same, (all, has, bit, no_more all (place.site + 1) d.0 (omega (arith, low)) first.2)), inr refl)
    | inr high ↦
        let here : Any (record { at = top; site = d.0 }) d.1 = inl (inr (all, record { reached = top_reached setting top is; has = has }, first.1)) in
        elim (cases_lt d.0 place.site) [
          | inl less ↦ (record { at = top; site = d.0 }, d.1, here, inl (inr (sym same, less)))
          | inr more ↦ (record { at = top; site = d.0 }, d.1, here, inr (same_place top place.at d.0 place.site (sym same) (omega (arith, high, more))))
        ]
  ]

  scope_there : (all : List Site) → HasSites setting top all → (double : Option (ℕ × List ℕ)) × IsFirstDouble all double
  scope_there all has = elim (slice_get_cases netlist.scopes.now top).1 [
    | inl there ↦ (option_map (λ (at, name). (at, name.now)) (get_or netlist.scopes.now top there.0).double, told_double netlist top there.0 all told there.1 has)
    | inr past ↦
        let near : top < length setting.modules = slice_get_within setting.modules top has.owner has.there in
        absurd (omega (arith, near, past.0, scopes_count netlist told.is_netlist))
  ]

  covered : (place : Place) (name : List ℕ) → IsDuplicate setting place name → Covered Any place
  covered place name (OfModules s n earlier l h) = (place, name, inl (inl (twice.OfModules s n earlier l h)), inr refl)
  covered place name (OfCell s n row h) = (place, name, inl (inl (twice.OfCell s n row h)), inr refl)
  covered place name (Within all has again) = (place, name, inl (inr (all, has, again)), inr refl)
  covered place name (OfBits all at_top has bit) =
      let same : place.at ≡ top = one_top setting place.at top at_top is in
      let has_top : HasSites setting top all = subst (λ (n : ℕ). HasSites setting n all) same has in
      let double = scope_there all has_top in
      bit_covered place name all same has_top bit double.0 double.1

  pub no_duplicate : IsFirstOf Any None → StandsNowhere setting Duplicates
  no_duplicate none = λ place why stands. let c = covered place stands.0 stands.1 in none c.0 c.1 c.2

  pub first_duplicate : (found : Double) → IsFirstOf Any (Some found) → IsFirstAt Duplicates setting (fault.DuplicateName found.name found.name)
  first_duplicate found first = record {
    place = place_of found;
    stands = (found.name, found_is setting top (place_of found) found.name is first.0, refl);
    first = λ before other l stands.
        let c = covered before stands.0 stands.1 in
        elim c.3 [
          | inl less ↦ first.1 c.0 c.1 (before_before c.0 before (place_of found) less l) c.2
          | inr same ↦ first.1 c.0 c.1 (subst (λ (p : Place). IsBefore p (place_of found)) (sym same) l) c.2
        ];
  }

-- ---- without a top

module _ (setting : Setting) (none : (top : ℕ) → ¬ IsTop setting top) where
  only_kind : (place : Place) (name : List ℕ) → IsDuplicate setting place name → IsKindTwice setting place name
  only_kind place name (OfModules s n earlier l h) = twice.OfModules s n earlier l h
  only_kind place name (OfCell s n row h) = twice.OfCell s n row h
  only_kind place name (Within all has again) = absurd (none has.reached.top has.reached.top_is)
  only_kind place name (OfBits all at_top has bit) = absurd (none place.at at_top)

  pub no_duplicate_kind : IsFirstOf (IsKindTwice setting) None → StandsNowhere setting Duplicates
  no_duplicate_kind clear = λ place why stands. clear place stands.0 (only_kind place stands.0 stands.1)

  is_duplicate : (place : Place) (name : List ℕ) → IsKindTwice setting place name → IsDuplicate setting place name
  is_duplicate place name (twice.OfModules s n earlier l h) = OfModules s n earlier l h
  is_duplicate place name (twice.OfCell s n row h) = OfCell s n row h

  pub first_duplicate_kind : (found : Double) → IsFirstOf (IsKindTwice setting) (Some found) → IsFirstAt Duplicates setting (fault.DuplicateName found.name found.name)
  first_duplicate_kind found first = record {
    place = place_of found;
    stands = (found.name, is_duplicate (place_of found) found.name first.0, refl);
    first = λ before other l stands. first.1 before stands.0 l (only_kind before stands.0 stands.1);
  }

-- ---- the answer

-- an answer by the double that was found
pub refused : (setting : Setting) (P : Place → List ℕ → Type 0) (double : Option Double) (result : Result (Unit {0}) BindFault) → IsFirstOf P double → (IsFirstOf P None → StandsNowhere setting Duplicates) → ((found : Double) → IsFirstOf P (Some found) → IsFirstAt Duplicates setting (fault.DuplicateName found.name found.name)) →
    Answers result (double ≡ None) (λ why. (found : Double) × (double ≡ Some found) × (why ≡ fault.DuplicateName found.name found.name)) → Answers result (IsClear setting 1) (IsFirstFault setting)
refused setting P double (Ok done) first none some answer = clear_more setting Duplicates (clear_none setting) (none (subst (λ (d : Option Double). IsFirstOf P d) answer first))
refused setting P double (Err why) first none some answer = λ other.
    let found = answer other in
    first_fault setting Duplicates why (clear_none setting) (subst (λ (w : BindFault). IsFirstAt Duplicates setting w) (sym found.2) (some found.0 (subst (λ (d : Option Double). IsFirstOf P d) found.1 first)))
