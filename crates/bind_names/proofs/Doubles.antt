-- The first place of several sorts that gives a name again.
use Rattle.std.proofs.Common.{◌≡◌, ◌⊎◌, inl, inr, ℕ, ◌<◌, ◌≤◌, Bool, true, false, nat_le, List, Option, Some, None, MatchOption, refl, arith, rules, Bor}
use Rattle.std.specs.Option.{option_map}
use Rattle.std.specs.Bool.{if◌then◌else◌}
use Rattle.bind_sites.specs.declared.sort.Sort.{Sort}
use Rattle.bind_sites.specs.declared.sort.Sort.TheVariants as sort
use Rattle.bind_sites.specs.Sites.{Site}
use Rattle.bind_sites.specs.Again.{is_own, IsAgainBy, IsAgain}
use Rattle.bind_sites.specs.Index.{IsFirstAgain}
use Rattle.bind_names.specs.Scoped.{earlier}

-- nothing of a kind stands before a limit
abbrev None_of : (ℕ → List ℕ → Type 0) → ℕ → Type 0
None_of P limit = (at : ℕ) (name : List ℕ) → at < limit → ¬ P at name

-- the first place before a limit
abbrev IsFirstOf : (ℕ → List ℕ → Type 0) → ℕ → Option (ℕ × List ℕ) → Type 0
IsFirstOf P limit o = MatchOption o (None_of P limit) (λ (at, name). (at < limit) × P at name × None_of P at)

abbrev bytes_of : Option (ℕ × Bor (List ℕ)) → Option (ℕ × List ℕ)
bytes_of again = option_map (λ (at, name). (at, name.now)) again

-- one or the other
abbrev Or : (ℕ → List ℕ → Type 0) → (ℕ → List ℕ → Type 0) → ℕ → List ℕ → Type 0
Or P Q at name = P at name ⊎ Q at name

none_or : (P Q : ℕ → List ℕ → Type 0) (limit : ℕ) → None_of P limit → None_of Q limit → None_of (Or P Q) limit
none_or P Q limit p q = λ at name lt either. elim either [ inl h ↦ p at name lt h | inr h ↦ q at name lt h ]

lower : (P : ℕ → List ℕ → Type 0) (low high : ℕ) → low ≤ high → None_of P high → None_of P low
lower P low high le h = λ at name lt. h at name (omega arith)

earliest : (P Q : ℕ → List ℕ → Type 0) (limit : ℕ) (a b : Option (ℕ × Bor (List ℕ))) → IsFirstOf P limit (bytes_of a) → IsFirstOf Q limit (bytes_of b) → IsFirstOf (Or P Q) limit (bytes_of (earlier a b))
earliest P Q limit None None p q = none_or P Q limit p q
earliest P Q limit None (Some b) p q = (q.0, inr q.1, none_or P Q b.0 (lower P b.0 limit (omega (arith, q.0)) p) q.2)
earliest P Q limit (Some a) None p q = (p.0, inl p.1, none_or P Q a.0 p.2 (lower Q a.0 limit (omega (arith, p.0)) q))
earliest P Q limit (Some a) (Some b) p q = pick (nat_le a.0 b.0) refl where
  pick : (v : Bool) → nat_le a.0 b.0 ≡ v → IsFirstOf (Or P Q) limit (bytes_of (if v then Some a else Some b))
  pick true e =
      let le : a.0 ≤ b.0 = search rules in
      (p.0, inl p.1, none_or P Q a.0 p.2 (lower Q a.0 b.0 le q.2))
  pick false e =
      let le : b.0 ≤ a.0 = search rules in
      (q.0, inr q.1, none_or P Q b.0 (lower P b.0 a.0 le p.2) q.2)

-- the same first place of what is the same
first_same : (P Q : ℕ → List ℕ → Type 0) (limit : ℕ) (o : Option (ℕ × List ℕ)) → ((at : ℕ) (name : List ℕ) → P at name → Q at name) → ((at : ℕ) (name : List ℕ) → Q at name → P at name) → IsFirstOf P limit o → IsFirstOf Q limit o
first_same P Q limit None to from h = λ at name lt q. h at name lt (from at name q)
first_same P Q limit (Some a) to from h = (h.0, to a.0 a.1 h.1, λ at name lt q. h.2 at name lt (from at name q))

-- a name given again is given again as one of the four sorts
abbrev AnyOf : List Site → ℕ → List ℕ → Type 0
AnyOf all = Or (Or (IsAgainBy sort.Listed all) (IsAgainBy sort.Direction all)) (Or (IsAgainBy sort.Wire all) (IsAgainBy sort.Instance all))

to_again : (all : List Site) (at : ℕ) (name : List ℕ) → AnyOf all at name → IsAgain all at name
to_again all at name (inl (inl h)) = (sort.Listed, refl, h)
to_again all at name (inl (inr h)) = (sort.Direction, refl, h)
to_again all at name (inr (inl h)) = (sort.Wire, refl, h)
to_again all at name (inr (inr h)) = (sort.Instance, refl, h)

from_again : (all : List Site) (at : ℕ) (name : List ℕ) → IsAgain all at name → AnyOf all at name
from_again all at name again = of_sort again.0 again.1 again.2 where
  of_sort : (by : Sort) → is_own by ≡ true → IsAgainBy by all at name → AnyOf all at name
  of_sort sort.Listed own h = inl (inl h)
  of_sort sort.Direction own h = inl (inr h)
  of_sort sort.Wire own h = inr (inl h)
  of_sort sort.Instance own h = inr (inr h)
  of_sort sort.Linked own h = absurd (never own) where
    never : false ≡ true → ⊥
    never e = cc

pub first_double : (all : List Site) (limit : ℕ) (a b c d : Option (ℕ × Bor (List ℕ))) → IsFirstAgain sort.Listed all limit (bytes_of a) → IsFirstAgain sort.Direction all limit (bytes_of b)
    → IsFirstAgain sort.Wire all limit (bytes_of c) → IsFirstAgain sort.Instance all limit (bytes_of d) → IsFirstOf (IsAgain all) limit (bytes_of (earlier (earlier a b) (earlier c d)))
first_double all limit a b c d h i j k =
    first_same (AnyOf all) (IsAgain all) limit (bytes_of (earlier (earlier a b) (earlier c d))) (to_again all) (from_again all)
    (earliest (Or (IsAgainBy sort.Listed all) (IsAgainBy sort.Direction all)) (Or (IsAgainBy sort.Wire all) (IsAgainBy sort.Instance all)) limit (earlier a b) (earlier c d)
    (earliest (IsAgainBy sort.Listed all) (IsAgainBy sort.Direction all) limit a b h i) (earliest (IsAgainBy sort.Wire all) (IsAgainBy sort.Instance all) limit c d j k))
