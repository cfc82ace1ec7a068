-- Why there is no top, and that nothing of this line stands where there is one.
use Rattle.std.proofs.Common.{◌≡◌, ◌<◌, ◌⊎◌, inl, inr, ℕ, List, Option, Some, None, refl, sym, subst, arith}
use Rattle.bind_forms.specs.declared.fault.BindFault.{BindFault}
use Rattle.bind_forms.specs.declared.fault.BindFault.TheVariants as fault
use Rattle.bind_forms.specs.Modules.{Setting, IsModuleNamed, IsFree, IsTopBy, IsTop}
use Rattle.bind_forms.specs.Faults.{Place, IsBefore, HasNoTop, HasTwoTops}
use Rattle.bind_forms.specs.First.{Tops, StandsNowhere}
use Rattle.bind_hierarchy.specs.Top.{IsFreeFault}
use Rattle.bind_hierarchy.specs.declared.top.TopFault.TheVariants as why
use Rattle.bind_faults.specs.Tops.{IsTopless}

-- nothing stands before the first place
abbrev start : Place
start = record { at = 0; site = 0 }

none_before : (place : Place) → ¬ IsBefore place start
none_before place before = elim before [ inl low ↦ omega (arith, low) | inr low ↦ omega (arith, low.1) ]

topless : (setting : Setting) → HasNoTop setting setting.top → ((top : ℕ) → ¬ IsTop setting top) → IsTopless setting fault.NoTop
topless setting lacks none = record {
  none = none;
  fault = record { place = start; stands = inl (lacks, refl); first = λ before other earlier stands. none_before before earlier };
}

pub no_free_top : (setting : Setting) → None ≡ setting.top → ((at : ℕ) → ¬ IsFree setting at) → IsTopless setting fault.NoTop
no_free_top setting is none = topless setting (subst (λ (o : Option (List ℕ)). HasNoTop setting o) is none)
    (subst (λ (o : Option (List ℕ)). (top : ℕ) → ¬ IsTopBy setting o top) is (λ top free. none top free.0))

pub no_named_top : (setting : Setting) (name : List ℕ) → Some name ≡ setting.top → ((at : ℕ) → ¬ IsModuleNamed setting at name) → IsTopless setting fault.NoTop
no_named_top setting name is none = topless setting (subst (λ (o : Option (List ℕ)). HasNoTop setting o) is none)
    (subst (λ (o : Option (List ℕ)). (top : ℕ) → ¬ IsTopBy setting o top) is (λ top means. none top means.0))

module _ (setting : Setting) (is : None ≡ setting.top) (first second : ℕ) (found : IsFreeFault setting.modules (why.TwoTops first second)) (a b : List ℕ) (named : IsModuleNamed setting first a) (named_too : IsModuleNamed setting second b) where
  early : (before : Place) (other : BindFault) → before.at < second → HasNoTop setting None ⊎ ((one two : List ℕ) × HasTwoTops setting before one two) → ⊥
  early before other low (inl lacks) = lacks first found.0
  early before other low (inr two) =
      let tops = two.2 in
      elim (found.3 before.at tops.free) [
        | inl same ↦ elim (found.3 tops.earlier tops.free_too) [
          | inl again ↦ let l : tops.earlier < before.at = tops.before in omega (arith, same, again, l)
          | inr far ↦ let l : tops.earlier < before.at = tops.before in omega (arith, l, low, far)
        ]
        | inr far ↦ omega (arith, low, far)
      ]

  pub two_tops : IsTopless setting (fault.TwoTops a b)
  two_tops = record {
    none = subst (λ (o : Option (List ℕ)). (top : ℕ) → ¬ IsTopBy setting o top) is (λ top only.
        let one : first ≡ top = only.1 first found.0 in
        let two : second ≡ top = only.1 second found.1 in
        let l : first < second = found.2 in
        omega (arith, one, two, l));
    fault = record {
      place = record { at = second; site = 0 };
      stands = inr (a, b, record { unnamed = sym is; head = refl; second_is = named_too; free = found.1; earlier = first; before = found.2; first_is = named; free_too = found.0 }, refl);
      first = λ before other earlier stands. elim earlier [
        | inl low ↦ elim stands [
          | inl lacks ↦ early before other low (inl (subst (λ (o : Option (List ℕ)). HasNoTop setting o) (sym is) lacks.0))
          | inr two ↦ early before other low (inr (two.0, two.1, two.2))
        ]
        | inr low ↦ omega (arith, low.1)
      ];
    };
  }

-- ---- where there is a top

not_no_top : (setting : Setting) (o : Option (List ℕ)) (top : ℕ) → IsTopBy setting o top → ¬ HasNoTop setting o
not_no_top setting None top only = λ lacks. lacks top only.0
not_no_top setting (Some name) top means = λ lacks. lacks top means.0

pub no_tops : (setting : Setting) (top : ℕ) → IsTop setting top → StandsNowhere setting Tops
no_tops setting top is = λ place why stands. elim stands [
  | inl lacks ↦ not_no_top setting setting.top top is lacks.0
  | inr found ↦
      let two = found.2 in
      let only : IsTopBy setting None top = subst (λ (o : Option (List ℕ)). IsTopBy setting o top) two.unnamed is in
      let one : place.at ≡ top = only.1 place.at two.free in
      let other : two.earlier ≡ top = only.1 two.earlier two.free_too in
      let l : two.earlier < place.at = two.before in
      omega (arith, one, other, l)
]
