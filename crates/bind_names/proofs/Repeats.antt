-- Crossings are the bits that have the printed name of an earlier bit.
use Rattle.std.proofs.Common.{◌≡◌, ◌≢◌, ℕ, ◌<◌, ◌^◌, List, length, Option, Some, None, refl, sym, ◌∙◌, subst, arith, inl, inr, decimal}
use Rattle.std.proofs.lemmas.Bool.{cases_order}
use Rattle.std.proofs.lemmas.Bool.Decides.{nat_tests}
use Rattle.std.proofs.lemmas.Option.{slice_get_within}
use Rattle.bind_sites.specs.Selects.{width_of, index_at, bit_name}
use Rattle.bind_sites.specs.Sites.{Site, Listed, Port}
use Rattle.bind_sites.specs.Scope.{IsAt, StandsBefore}
use Rattle.bind_sites.specs.declared.sort.Sort.TheVariants as sort
use Rattle.bind_sites.specs.Again.{IsAgain, HasFirstRange, IsPrintedBefore, IsBitAgain}
use Rattle.bind_names.specs.declared.crossing.Crossing.{Crossing as Found}
use Rattle.bind_names.specs.Places.{FitsRange, FitSites}
use Rattle.bind_names.specs.Crossing.{IsScalarAt, IsVectorBit, IsLeast, CrossesAmong}
use Rattle.bind_names.proofs.Splitting.{same_written, longer}
use Rattle.bind_names.proofs.Crossings.{index_small}

-- no name stands twice in a sort before a limit
abbrev pub NoneAgain : List Site → ℕ → Type 0
NoneAgain all limit = (at : ℕ) (name : List ℕ) → at < limit → ¬ IsAgain all at name

-- ports are listed once
pub listed_once : (all : List Site) (limit at : ℕ) (name : List ℕ) → NoneAgain all limit → at < limit → IsAt all at (Listed name) → ¬ StandsBefore all at (Listed name)
listed_once all limit at name none lt there before =
    none at name lt (sort.Listed, refl, ((Listed name, there, refl), (before.0, before.1, (Listed name, before.2, refl))))

listed_twice : (all : List Site) (limit at earlier : ℕ) (name other : List ℕ) → NoneAgain all limit → at < limit → earlier < at → IsAt all at (Listed name) → IsAt all earlier (Listed other) → name ≢ other
listed_twice all limit at earlier name other none lt less there before same =
    let P : List ℕ → Type 0 = λ n. IsAt all earlier (Listed n) in
    listed_once all limit at name none lt there (earlier, less, subst P (sym same) before)

-- the index of a bit is small
index_fits : (all : List Site) (name : List ℕ) (range : ℕ × ℕ) (bit : ℕ) → FitSites all (length all) → HasFirstRange all name (Some range) → bit < width_of (Some range) → index_at range bit < 2 ^ 64
index_fits all name range bit fit first within =
    let fits : FitsRange (Some range) = fit first.at (slice_get_within all first.at (Port name first.output (Some range)) first.there) (Port name first.output (Some range)) first.there in
    let small = index_small range.0 range.1 bit fits.0 fits.1 within in
    omega (arith, small)

-- a scalar of this name is listed there
scalar_at : (all : List Site) (at : ℕ) (name printed : List ℕ) → IsAt all at (Listed name) → HasFirstRange all name None → printed ≡ name → IsScalarAt all at printed
scalar_at all at name printed there range_is same =
    let P : List ℕ → Type 0 = λ n. IsAt all at (Listed n) in
    let Q : List ℕ → Type 0 = λ n. HasFirstRange all n None in
    record { listed = subst P (sym same) there; range_is = subst Q (sym same) range_is }

-- a bit of a later port and a bit of an earlier one cross
crosses : (all : List Site) (limit at earlier bit bit_before : ℕ) (name other printed : List ℕ) (range range_before : Option (ℕ × ℕ))
    → NoneAgain all limit → FitSites all (length all) → at < limit → earlier < at
    → IsAt all at (Listed name) → IsAt all earlier (Listed other) → HasFirstRange all name range → HasFirstRange all other range_before
    → bit < width_of range → bit_before < width_of range_before → printed ≡ bit_name name range bit → printed ≡ bit_name other range_before bit_before
    → CrossesAmong all limit (length all) at bit printed
crosses all limit at earlier bit bit_before name other printed None None none fit lt less there before has has_before within within_before is is_before =
    absurd (listed_twice all limit at earlier name other none lt less there before (sym is ∙ is_before))
crosses all limit at earlier bit bit_before name other printed None (Some range) none fit lt less there before has has_before within within_before is is_before = (
  at,
  slice_get_within all at (Listed name) there,
  (
    lt,
    record {
      is_scalar = scalar_at all at name printed there has is;
      vector = earlier;
      place = bit_before;
      is_bit = record {
        name = other;
        range = range;
        listed = before;
        alone = listed_once all limit earlier other none (omega arith) before;
        range_is = has_before;
        within = within_before;
        printed_is = is_before;
      };
      at_is = omega arith;
      bit_is = grind (arith, nat_tests);
    },
  ),
)
crosses all limit at earlier bit bit_before name other printed (Some range) None none fit lt less there before has has_before within within_before is is_before = (
  earlier,
  slice_get_within all earlier (Listed other) before,
  (
    lt,
    record {
      is_scalar = scalar_at all earlier other printed before has_before is_before;
      vector = at;
      place = bit;
      is_bit = record {
        name = name;
        range = range;
        listed = there;
        alone = listed_once all limit at name none lt there;
        range_is = has;
        within = within;
        printed_is = is;
      };
      at_is = omega arith;
      bit_is = grind (arith, nat_tests);
    },
  ),
)
crosses all limit at earlier bit bit_before name other printed (Some range) (Some range_before) none fit lt less there before has has_before within within_before is is_before =
    absurd (listed_twice all limit at earlier name other none lt less there before
    (same_written name other (index_at range bit) (index_at range_before bit_before)
    (index_fits all name range bit fit has within) (index_fits all other range_before bit_before fit has_before within_before) (sym is ∙ is_before)).0)

-- a bit with the printed name of an earlier one crosses
pub printed_crosses : (all : List Site) (limit at bit : ℕ) (name printed : List ℕ) (range : Option (ℕ × ℕ)) → NoneAgain all limit → FitSites all (length all) → at < limit
    → IsAt all at (Listed name) → HasFirstRange all name range → bit < width_of range → printed ≡ bit_name name range bit → IsPrintedBefore all at printed
    → CrossesAmong all limit (length all) at bit printed
printed_crosses all limit at bit name printed range none fit lt there has within is before =
    crosses all limit at before.listed.0 bit before.bit name before.name printed range before.range none fit lt before.listed.1 there before.listed.2
    has before.range_is within before.within is before.printed_is

-- where nothing crosses, no bit stands again
pub none_again : (all : List Site) (limit : ℕ) → NoneAgain all limit → FitSites all (length all) → IsLeast (CrossesAmong all limit (length all)) None
    → (at : ℕ) (printed : List ℕ) → at < limit → ¬ IsBitAgain all at printed
none_again all limit none fit least at printed lt again =
    least at again.bit printed (printed_crosses all limit at again.bit again.name printed again.range none fit lt again.listed again.range_is again.within again.printed_is again.before)

-- the vector is the later one
vector_again : (all : List Site) (limit scalar vector place : ℕ) (printed : List ℕ) → IsScalarAt all scalar printed → (w : IsVectorBit all printed vector place) → scalar < vector
    → ((earlier : ℕ) → earlier < place → ¬ IsPrintedBefore all vector (bit_name w.name (Some w.range) earlier)) → IsBitAgain all vector printed
vector_again all limit scalar vector place printed is_scalar w below first = record {
  name = w.name;
  range = Some w.range;
  bit = place;
  listed = w.listed;
  alone = w.alone;
  range_is = w.range_is;
  within = w.within;
  printed_is = w.printed_is;
  before = record {
    name = printed;
    range = None;
    bit = 0;
    listed = (scalar, below, is_scalar.listed);
    range_is = is_scalar.range_is;
    within = omega arith;
    printed_is = refl;
  };
  first = first;
}

-- the scalar is the later one
scalar_again : (all : List Site) (scalar vector place : ℕ) (printed : List ℕ) → IsScalarAt all scalar printed → IsVectorBit all printed vector place → vector < scalar
    → ¬ StandsBefore all scalar (Listed printed) → IsBitAgain all scalar printed
scalar_again all scalar vector place printed is_scalar w below alone = record {
  name = printed;
  range = None;
  bit = 0;
  listed = is_scalar.listed;
  alone = alone;
  range_is = is_scalar.range_is;
  within = omega arith;
  printed_is = refl;
  before = record {
    name = w.name;
    range = Some w.range;
    bit = place;
    listed = (vector, below, w.listed);
    range_is = w.range_is;
    within = w.within;
    printed_is = w.printed_is;
  };
  first = λ earlier less. absurd (omega arith);
}

-- a scalar is not the vector whose bit it names
apart : (all : List Site) (scalar vector place : ℕ) (printed : List ℕ) → IsScalarAt all scalar printed → IsVectorBit all printed vector place → scalar ≢ vector
apart all scalar vector place printed is_scalar w same =
    let P : ℕ → Type 0 = λ i. IsAt all i (Listed printed) in
    let e : Some (Listed printed) ≡ Some (Listed w.name) = sym (subst P same is_scalar.listed) ∙ w.listed in
    let name_is : w.name ≡ printed = cc in
    longer w.name (decimal (index_at w.range place)) (name_is ∙ w.printed_is)

-- the least crossing is a bit that stands again
pub is_again : (all : List Site) (limit : ℕ) (found : Found) → NoneAgain all limit → FitSites all (length all) → IsLeast (CrossesAmong all limit (length all)) (Some found)
    → IsBitAgain all found.at found.printed.now
is_again all limit found none fit least =
    let scalar = least.0.0 in
    let lt : found.at < limit = least.0.2.0 in
    let x = least.0.2.1 in
    let P : ℕ → Type 0 = λ at. IsBitAgain all at found.printed.now in
    elim (cases_order scalar x.vector) [
      | inl same ↦ absurd (apart all scalar x.vector x.place found.printed.now x.is_scalar x.is_bit same)
      | inr other ↦ elim other [
        | inl below ↦
            let at_is : found.at ≡ x.vector = omega (arith, x.at_is) in
            let bit_is : found.bit ≡ x.place = grind (arith, nat_tests, x.bit_is) in
            subst P (sym at_is) (vector_again all limit scalar x.vector x.place found.printed.now x.is_scalar x.is_bit below
            (λ earlier less before.
            let within : earlier < width_of (Some x.is_bit.range) = omega (arith, less, x.is_bit.within) in
            let vector_lt : x.vector < limit = omega (arith, at_is, lt) in
            let no_later = least.1 x.vector earlier (bit_name x.is_bit.name (Some x.is_bit.range) earlier)
            (printed_crosses all limit x.vector earlier x.is_bit.name (bit_name x.is_bit.name (Some x.is_bit.range) earlier) (Some x.is_bit.range)
            none fit vector_lt x.is_bit.listed x.is_bit.range_is within refl before) in
            elim no_later [ inl q ↦ omega (arith, q, at_is) | inr q ↦ omega (arith, q.1, bit_is, less) ]))
        | inr above ↦
            let at_is : found.at ≡ scalar = omega (arith, x.at_is) in
            let scalar_lt : scalar < limit = omega (arith, at_is, lt) in
            subst P (sym at_is) (scalar_again all scalar x.vector x.place found.printed.now x.is_scalar x.is_bit above
            (listed_once all limit scalar found.printed.now none scalar_lt x.is_scalar.listed))
      ]
    ]

-- and none stands before it
pub none_before : (all : List Site) (limit : ℕ) (found : Found) → NoneAgain all limit → FitSites all (length all) → IsLeast (CrossesAmong all limit (length all)) (Some found)
    → (at : ℕ) (printed : List ℕ) → at < found.at → ¬ IsBitAgain all at printed
none_before all limit found none fit least at printed less again =
    let lt : at < limit = omega (arith, less, least.0.2.0) in
    let no_later = least.1 at again.bit printed
    (printed_crosses all limit at again.bit again.name printed again.range none fit lt again.listed again.range_is again.within again.printed_is again.before) in
    elim no_later [ inl q ↦ omega (arith, q, less) | inr q ↦ omega (arith, q.0, less) ]
