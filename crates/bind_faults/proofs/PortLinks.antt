-- A port that is linked twice, as a cause.
use Rattle.std.proofs.Common.{◌≡◌, ℕ, List, Option, Some, None, Bor, ap, subst}
use Rattle.std.specs.Option.{option_map}
use Rattle.std.proofs.lemmas.Option.{slice_get_within}
use Rattle.bind_sites.specs.Sites.{Site, Named}
use Rattle.bind_names.specs.Linked.{IsFirstPortTwice}
use Rattle.bind_forms.specs.declared.fault.BindFault.{BindFault}
use Rattle.bind_forms.specs.declared.fault.BindFault.TheVariants as fault
use Rattle.bind_forms.specs.Modules.{Setting}
use Rattle.bind_faults.specs.declared.check.Check.TheVariants.{PortsTwice}
use Rattle.bind_faults.specs.Checks.{StandsIn, IsFirstIn}

abbrev told : Option (ℕ × Bor (List ℕ)) → Option (ℕ × List ℕ)
told twice = option_map (λ (at, name). (at, name.now)) twice

module _ (setting : Setting) (all : List Site) where
  pub first_twice : (twice : Option (ℕ × Bor (List ℕ))) (at : ℕ) (name : Bor (List ℕ)) (copy : List ℕ) → twice ≡ Some (at, name) → copy ≡ name.now → IsFirstPortTwice all (told twice) → IsFirstIn PortsTwice setting all (fault.PortTwice copy)
  first_twice twice at name copy is same first =
      let here : IsFirstPortTwice all (told (Some (at, name))) = subst (λ (o : Option (ℕ × Bor (List ℕ))). IsFirstPortTwice all (told o)) is first in
      record {
        at = at;
        stands = (name.now, here.1, ap fault.PortTwice same);
        first = λ before why l stands. here.2 before stands.0 l stands.1;
      }

  pub none_twice : (twice : Option (ℕ × Bor (List ℕ))) → twice ≡ None → IsFirstPortTwice all (told twice) → (at : ℕ) (why : BindFault) → ¬ StandsIn PortsTwice setting all at why
  none_twice twice is first = λ at why stands.
      let here : IsFirstPortTwice all (told None) = subst (λ (o : Option (ℕ × Bor (List ℕ))). IsFirstPortTwice all (told o)) is first in
      here at stands.0 (slice_get_within all at (Named stands.1.kind stands.0 stands.1.expr) stands.1.there) stands.1
