-- The crossings of one scalar, of the scalars before a place, and of all.
use Rattle.std.proofs.Common.{◌≡◌, ◌⊎◌, ℕ, ◌+◌, ◌<◌, ◌≤◌, nat_lt, max, if◌then◌else◌, List, length, slice_get, Option, Some, None, sym, ◌∙◌, ap, subst, arith, inl, inr, MatchOption}
use Rattle.std.specs.Option.{IfSome}
use Rattle.std.proofs.lemmas.Bool.{cases_lt}
use Rattle.std.proofs.lemmas.Option.{slice_get_within}
use Rattle.bind_sites.specs.Sites.{Site, Listed}
use Rattle.bind_sites.specs.Scope.{IsAt}
use Rattle.bind_sites.specs.Again.{HasFirstRange}
use Rattle.bind_names.specs.declared.crossing.Crossing.{Crossing as Found}
use Rattle.bind_names.specs.Places.{listed_name, FitSites}
use Rattle.bind_names.specs.Crossing.{IsVectorBit, Crosses, IsNoLater, IsLeast, CrossesBefore, CrossesAmong}
use Rattle.bind_names.proofs.Indexing.{named_at, same_range}
use Rattle.bind_names.proofs.Crossings.{listed_back, unique_bit}

-- past the sites
pub none_past : (all : List Site) (limit scalar : ℕ) → length all ≤ scalar → (at bit : ℕ) (printed : List ℕ) → ¬ CrossesBefore all limit scalar at bit printed
none_past all limit scalar past at bit printed p =
    let within = slice_get_within all scalar (Listed printed) p.1.is_scalar.listed in omega (arith, within)

pub lists : (all : List Site) (scalar : ℕ) (site : Site) (name : List ℕ) → slice_get all scalar ≡ Some site → listed_name site ≡ Some name → IsAt all scalar (Listed name)
lists all scalar site name there is = listed_back all scalar name (named_at listed_name all scalar site there ∙ ap Some is)

-- a place lists one name
same_name : (all : List Site) (scalar : ℕ) (name other : List ℕ) → IsAt all scalar (Listed name) → IsAt all scalar (Listed other) → other ≡ name
same_name all scalar name other one two = let e : Some (Listed name) ≡ Some (Listed other) = sym one ∙ two in cc

-- where the name that is listed is not a scalar's
pub none_scalar : (all : List Site) (limit scalar : ℕ) (name : List ℕ) → IsAt all scalar (Listed name) → ¬ HasFirstRange all name None
    → (at bit : ℕ) (printed : List ℕ) → ¬ CrossesBefore all limit scalar at bit printed
none_scalar all limit scalar name there none at bit printed p =
    let P : List ℕ → Type 0 = λ n. HasFirstRange all n None in
    none (subst P (same_name all scalar name printed there p.1.is_scalar.listed) p.1.is_scalar.range_is)

pub no_scalar : (all : List Site) (name : List ℕ) (range : ℕ × ℕ) → HasFirstRange all name (Some range) → ¬ HasFirstRange all name None
no_scalar all name range has none = let e = same_range all name (Some range) None has none in cc

-- where it is no vector's bit
pub none_bit : (all : List Site) (limit scalar : ℕ) (name : List ℕ) → IsAt all scalar (Listed name) → ((v b : ℕ) → ¬ IsVectorBit all name v b)
    → (at bit : ℕ) (printed : List ℕ) → ¬ CrossesBefore all limit scalar at bit printed
none_bit all limit scalar name there none at bit printed p =
    let P : List ℕ → Type 0 = λ n. IsVectorBit all n p.1.vector p.1.place in
    none p.1.vector p.1.place (subst P (same_name all scalar name printed there p.1.is_scalar.listed) p.1.is_bit)

-- a scalar with the name of a vector's bit
pub record IsPair (all : List Site) (scalar : ℕ) (name : List ℕ) (vector place : ℕ) : Type 0 where
  pub fit : FitSites all (length all)
  pub there : IsAt all scalar (Listed name)
  pub range_is : HasFirstRange all name None
  pub is_bit : IsVectorBit all name vector place

-- its one crossing
same_crossing : (all : List Site) (scalar : ℕ) (name : List ℕ) (vector place : ℕ) → IsPair all scalar name vector place
    → (at bit : ℕ) (printed : List ℕ) → Crosses all scalar at bit printed → (at ≡ max scalar vector) × (bit ≡ (if nat_lt scalar vector then place else 0))
same_crossing all scalar name vector place pair at bit printed crosses =
    let P : List ℕ → Type 0 = λ n. IsVectorBit all n crosses.vector crosses.place in
    let same = unique_bit all name crosses.vector crosses.place vector place pair.fit
    (subst P (same_name all scalar name printed pair.there crosses.is_scalar.listed) crosses.is_bit) pair.is_bit in (
      crosses.at_is ∙ ap (λ v. max scalar v) same.0,
      crosses.bit_is ∙ (ap (λ v. if nat_lt scalar v then crosses.place else 0) same.0 ∙ ap (λ p. if nat_lt scalar vector then p else 0) same.1),
    )

pub is_least : (all : List Site) (limit scalar vector place : ℕ) (found : Found) → IsPair all scalar found.printed.now vector place
    → found.at ≡ max scalar vector → found.bit ≡ (if nat_lt scalar vector then place else 0) → found.at < limit → IsLeast (CrossesBefore all limit scalar) (Some found)
is_least all limit scalar vector place found pair at_is bit_is below = (
  (
    below,
    record {
      is_scalar = record { listed = pair.there; range_is = pair.range_is };
      vector = vector;
      place = place;
      is_bit = pair.is_bit;
      at_is = at_is;
      bit_is = bit_is;
    },
  ),
  λ at bit printed p.
      let same = same_crossing all scalar found.printed.now vector place pair at bit printed p.1 in
      let bit_same : found.bit ≡ bit = bit_is ∙ sym same.1 in
      inr (at_is ∙ sym same.0, omega (arith, bit_same)),
)

pub none_late : (all : List Site) (limit scalar : ℕ) (name : List ℕ) (vector place : ℕ) → IsPair all scalar name vector place → limit ≤ max scalar vector
    → (at bit : ℕ) (printed : List ℕ) → ¬ CrossesBefore all limit scalar at bit printed
none_late all limit scalar name vector place pair late at bit printed p =
    let same = same_crossing all scalar name vector place pair at bit printed p.1 in
    let less : at < limit = p.0 in
    let is : at ≡ max scalar vector = same.0 in
    omega arith

no_later_trans : (a b : Found) (at bit : ℕ) → IsNoLater a b.at b.bit → IsNoLater b at bit → IsNoLater a at bit
no_later_trans a b at bit (inl p) (inl q) = inl (omega arith)
no_later_trans a b at bit (inl p) (inr (e, q)) = inl (omega arith)
no_later_trans a b at bit (inr (e, p)) (inl q) = inl (omega arith)
no_later_trans a b at bit (inr (e, p)) (inr (f, q)) = inr (omega arith, omega arith)

-- what `first_of` answers
abbrev pub IsFirstOf : Option Found → Option Found → Option Found → Type 0
IsFirstOf found other result = MatchOption result
    ((found ≡ None) × (other ≡ None))
    (λ first. ((found ≡ Some first) ⊎ (other ≡ Some first)) × IfSome found (λ f. IsNoLater first f.at f.bit) × IfSome other (λ o. IsNoLater first o.at o.bit))

-- the least of a kind comes no later than any
bounded : (P : ℕ → ℕ → List ℕ → Type 0) (first : Found) (found : Option Found) → IsLeast P found → IfSome found (λ f. IsNoLater first f.at f.bit)
    → (at bit : ℕ) (printed : List ℕ) → P at bit printed → IsNoLater first at bit
bounded P first None least before at bit printed p = absurd (least at bit printed p)
bounded P first (Some f) least before at bit printed p = no_later_trans first f at bit before (least.1 at bit printed p)

-- one more scalar
pub least_step : (all : List Site) (limit k : ℕ) (found other result : Option Found) → IsLeast (CrossesAmong all limit k) found → IsLeast (CrossesBefore all limit k) other
    → IsFirstOf found other result → IsLeast (CrossesAmong all limit (k + 1)) result
least_step all limit k found other None least least_here (none, none_here) = λ at bit printed (scalar, less, p).
    let P : Option Found → Type 0 = λ o. IsLeast (CrossesAmong all limit k) o in
    let Q : Option Found → Type 0 = λ o. IsLeast (CrossesBefore all limit k) o in
    let R : ℕ → Type 0 = λ s. CrossesBefore all limit s at bit printed in
    elim (cases_lt scalar k) [
      | inl below ↦ subst P none least at bit printed (scalar, below, p)
      | inr above ↦ let same : scalar ≡ k = omega arith in subst Q none_here least_here at bit printed (subst R same p)
    ]
least_step all limit k found other (Some first) least least_here (which, before, before_here) =
    let P : Option Found → Type 0 = λ o. IsLeast (CrossesAmong all limit k) o in
    let Q : Option Found → Type 0 = λ o. IsLeast (CrossesBefore all limit k) o in (
      elim which [
        | inl is ↦ let it = (subst P is least).0 in (it.0, omega (arith, it.1), it.2)
        | inr is ↦ (k, omega arith, (subst Q is least_here).0)
      ],
      λ at bit printed (scalar, less, p).
          let R : ℕ → Type 0 = λ s. CrossesBefore all limit s at bit printed in
          elim (cases_lt scalar k) [
            | inl below ↦ bounded (CrossesAmong all limit k) first found least before at bit printed (scalar, below, p)
            | inr above ↦ let same : scalar ≡ k = omega arith in bounded (CrossesBefore all limit k) first other least_here before_here at bit printed (subst R same p)
          ],
    )
