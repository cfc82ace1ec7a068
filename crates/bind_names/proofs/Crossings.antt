-- Bits of vectors by their printed names, and crossings.
use Rattle.std.proofs.Common.{◌≡◌, ◌≢◌, ℕ, ◌+◌, ◌-◌, ◌<◌, ◌^◌, ◌++◌, List, [], ◌∷◌, map, length, slice_get, Option, Some, None, option_map, decimal, sym, ◌∙◌, ap, subst, arith, inl, inr}
use Rattle.std.proofs.lemmas.Bool.{cases_order}
use Rattle.std.proofs.lemmas.Bool.Decides.{nat_tests}
use Rattle.std.proofs.lemmas.Option.{slice_get-map, slice_get_within}
use Rattle.bind_sites.specs.Selects.{width_of, index_at}
use Rattle.bind_sites.specs.Sites.{Site, Module, Listed, Port, Wire, Assign, Instance, Named, Ordered, Assigned, Linked}
use Rattle.bind_sites.specs.Scope.{IsAt, StandsBefore}
use Rattle.bind_sites.specs.Again.{HasFirstRange}
use Rattle.bind_names.specs.Places.{listed_name, FitsRange, FitSites, IsFirstPlace}
use Rattle.bind_names.specs.Crossing.{IsVectorBit}
use Rattle.bind_names.proofs.Splitting.{same_written}
use Rattle.bind_names.proofs.Indexing.{named_at, same_range}

pub index_small : (l r bit : ℕ) → l < 2 ^ 32 → r < 2 ^ 32 → bit < (l - r) + (r - l) + 1 → index_at (l, r) bit < 2 ^ 32
index_small l r bit small_l small_r within = grind (arith, nat_tests)

index_injective : (l r b c : ℕ) → b < (l - r) + (r - l) + 1 → c < (l - r) + (r - l) + 1 → index_at (l, r) b ≡ index_at (l, r) c → b ≡ c
index_injective l r b c within_b within_c e = grind (arith, nat_tests)

-- the index of a vector's bit is small
bit_small : (all : List Site) (printed : List ℕ) (v b : ℕ) → FitSites all (length all) → (w : IsVectorBit all printed v b) → index_at w.range b < 2 ^ 32
bit_small all printed v b fit w =
    let first = w.range_is in
    let fits : FitsRange (Some w.range) = fit first.at (slice_get_within all first.at (Port w.name first.output (Some w.range)) first.there) (Port w.name first.output (Some w.range)) first.there in
    index_small w.range.0 w.range.1 b fits.0 fits.1 w.within

-- what is written in no such way is no vector's bit
pub not_written : (all : List Site) (printed : List ℕ) → FitSites all (length all)
    → ((name : List ℕ) (index : ℕ) → index < 2 ^ 32 → printed ≢ ((name ++ (91 ∷ [])) ++ decimal index) ++ (93 ∷ [])) → (v b : ℕ) → ¬ IsVectorBit all printed v b
not_written all printed fit none v b w = none w.name (index_at w.range b) (bit_small all printed v b fit w) w.printed_is

-- a printed name says which vector and which index it is of
same_bit : (all : List Site) (printed name : List ℕ) (index : ℕ) → FitSites all (length all) → index < 2 ^ 32 → printed ≡ ((name ++ (91 ∷ [])) ++ decimal index) ++ (93 ∷ [])
    → (v b : ℕ) (w : IsVectorBit all printed v b) → (w.name ≡ name) × (index_at w.range b ≡ index)
same_bit all printed name index fit small e v b w =
    let small_b = bit_small all printed v b fit w in
    same_written w.name name (index_at w.range b) index (omega arith) (omega arith) (sym w.printed_is ∙ e)

-- a printed name that is split
pub record IsWritten (all : List Site) (printed name : List ℕ) (index : ℕ) : Type 0 where
  pub fit : FitSites all (length all)
  pub small : index < 2 ^ 32
  pub printed_is : printed ≡ ((name ++ (91 ∷ [])) ++ decimal index) ++ (93 ∷ [])

pub without_range : (all : List Site) (printed name : List ℕ) (index : ℕ) → IsWritten all printed name index
    → ((range : Option (ℕ × ℕ)) → ¬ HasFirstRange all name range) → (v b : ℕ) → ¬ IsVectorBit all printed v b
without_range all printed name index written none v b w =
    let same = same_bit all printed name index written.fit written.small written.printed_is v b w in
    let P : List ℕ → Type 0 = λ n. HasFirstRange all n (Some w.range) in
    none (Some w.range) (subst P same.0 w.range_is)

-- its range is that of its name
its_range : (all : List Site) (printed name : List ℕ) (index : ℕ) (range : Option (ℕ × ℕ)) → IsWritten all printed name index → HasFirstRange all name range
    → (v b : ℕ) (w : IsVectorBit all printed v b) → range ≡ Some w.range
its_range all printed name index range written has v b w =
    let same = same_bit all printed name index written.fit written.small written.printed_is v b w in
    let P : List ℕ → Type 0 = λ n. HasFirstRange all n (Some w.range) in
    same_range all name range (Some w.range) has (subst P same.0 w.range_is)

pub of_scalar : (all : List Site) (printed name : List ℕ) (index : ℕ) → IsWritten all printed name index → HasFirstRange all name None → (v b : ℕ) → ¬ IsVectorBit all printed v b
of_scalar all printed name index written has v b w = let e = its_range all printed name index None written has v b w in cc

pub outside : (all : List Site) (printed name : List ℕ) (index : ℕ) (range : ℕ × ℕ) → IsWritten all printed name index → HasFirstRange all name (Some range)
    → ((place : ℕ) → place < width_of (Some range) → index_at range place ≢ index) → (v b : ℕ) → ¬ IsVectorBit all printed v b
outside all printed name index range written has none v b w =
    let same = same_bit all printed name index written.fit written.small written.printed_is v b w in
    let e = its_range all printed name index (Some range) written has v b w in
    let range_is : w.range ≡ range = cc in
    let P : ℕ × ℕ → Type 0 = λ r. b < width_of (Some r) in
    none b (subst P range_is w.within) (sym (ap (λ r. index_at r b) range_is) ∙ same.1)

-- a site that lists a name
listed_site : (o : Option Site) (name : List ℕ) → option_map listed_name o ≡ Some (Some name) → o ≡ Some (Listed name)
listed_site None name e = cc
listed_site (Some (Module n)) name e = cc
listed_site (Some (Listed n)) name e = cc
listed_site (Some (Port n output range)) name e = cc
listed_site (Some (Wire n range)) name e = cc
listed_site (Some (Assign to from)) name e = cc
listed_site (Some (Instance kind n links)) name e = cc
listed_site (Some (Named kind n expr)) name e = cc
listed_site (Some (Ordered kind place expr)) name e = cc
listed_site (Some (Assigned operand)) name e = cc
listed_site (Some (Linked operand)) name e = cc

pub listed_back : (all : List Site) (k : ℕ) (name : List ℕ) → slice_get (map listed_name all) k ≡ Some (Some name) → IsAt all k (Listed name)
listed_back all k name e = listed_site (slice_get all k) name (sym (slice_get-map listed_name all k) ∙ e)

pub not_listed : (all : List Site) (printed name : List ℕ) (index : ℕ) → IsWritten all printed name index
    → IsFirstPlace (map listed_name all) (length all) name None → (v b : ℕ) → ¬ IsVectorBit all printed v b
not_listed all printed name index written none v b w =
    let same = same_bit all printed name index written.fit written.small written.printed_is v b w in
    none v (slice_get_within all v (Listed w.name) w.listed) (named_at listed_name all v (Listed w.name) w.listed ∙ ap (λ n. Some (Some n)) same.0)

pub its_bit : (all : List Site) (printed name : List ℕ) (index : ℕ) (range : ℕ × ℕ) (v b : ℕ) → IsWritten all printed name index → HasFirstRange all name (Some range)
    → b < width_of (Some range) → index_at range b ≡ index → IsFirstPlace (map listed_name all) (length all) name (Some v) → IsVectorBit all printed v b
its_bit all printed name index range v b written has within is (lt, here, before) = record {
  name = name;
  range = range;
  listed = listed_back all v name here;
  alone = λ (earlier, less, at). before earlier less (named_at listed_name all earlier (Listed name) at);
  range_is = has;
  within = within;
  printed_is = written.printed_is ∙ ap (λ i. ((name ++ (91 ∷ [])) ++ decimal i) ++ (93 ∷ [])) (sym is);
}

-- a printed name is that of one vector's bit
pub unique_bit : (all : List Site) (printed : List ℕ) (v b u c : ℕ) → FitSites all (length all) → IsVectorBit all printed v b → IsVectorBit all printed u c → (v ≡ u) × (b ≡ c)
unique_bit all printed v b u c fit one other =
    let same = same_bit all printed one.name (index_at one.range b) fit (bit_small all printed v b fit one) one.printed_is u c other in
    let P : List ℕ → Type 0 = λ n. HasFirstRange all n (Some other.range) in
    let e = same_range all one.name (Some one.range) (Some other.range) one.range_is (subst P same.0 other.range_is) in
    let range_is : other.range ≡ one.range = cc in
    let Q : ℕ × ℕ → Type 0 = λ r. c < width_of (Some r) in
    let within : c < width_of (Some one.range) = subst Q range_is other.within in
    let index_is : index_at one.range b ≡ index_at one.range c = sym same.1 ∙ ap (λ r. index_at r c) range_is in
    let R : List ℕ → Type 0 = λ n. IsAt all u (Listed n) in
    let there : IsAt all u (Listed one.name) = subst R same.0 other.listed in
    let S : List ℕ → Type 0 = λ n. StandsBefore all u (Listed n) in (
      elim (cases_order v u) [
        | inl is ↦ is
        | inr apart ↦ elim apart [
          | inl below ↦ absurd (other.alone (subst S (sym same.0) (v, below, one.listed)))
          | inr above ↦ absurd (one.alone (u, above, there))
        ]
      ],
      index_injective one.range.0 one.range.1 b c one.within within index_is,
    )
