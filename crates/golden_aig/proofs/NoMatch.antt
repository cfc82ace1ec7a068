-- A side with a cause to be refused has no match, where no two ports of the circuit have one name.
use Rattle.std.proofs.Common.{◌≡◌, ◌≢◌, ℕ, ◌+◌, ◌<◌, ◌≤◌, Bool, true, false, cond, refl, sym, ◌∙◌, ap, subst, arith, length-append, ◌⊎◌, List, [], ◌∷◌, ◌++◌, map, length, get_or, Option, inl, inr}
use Rattle.std.specs.List.{All, AllPairs, Contains}
use Rattle.std.specs.List.Sorted.{IsPermutation}
use Rattle.std.proofs.Math.Dec.{eqb}
use Rattle.std.proofs.Math.Seq.{get_or-append_seam}
use Rattle.std.proofs.lemmas.Bool.{cases_order, ne_eqb, eqb-false}
use Rattle.std.proofs.lemmas.Bool.Decides.{eqb_tells}
use Rattle.std.proofs.lemmas.Option.{slice_get-get_or}
use Rattle.std.proofs.lemmas.List.{length-map, get_or-map, get_or_default, get_or_append_left}
use Rattle.std.proofs.lemmas.List.Elements.{All-nil, All-cons, All-weaker, Contains-get_or}
use Rattle.std.proofs.lemmas.List.Kept.{AllPairs-cons}
use Rattle.std.proofs.lemmas.List.Sorted.{All-permutation, length_permutation}
use Rattle.std.proofs.lemmas.Map.Keys.{apart_from_distinct, IsDistinct-from_apart, IsDistinct-IsPermutation}
use Rattle.rsfq_ids.specs.Bench.{is_data}
use Rattle.rsfq_ids.specs.WellFormed.{AreDistinct, IsBench}
use Rattle.rsfq_ids.specs.declared.id.PortId.{PortId}
use Rattle.rsfq_ids.specs.declared.circuit.Flat.{Flat}
use Rattle.rsfq_ids.specs.declared.circuit.Bench.{Bench}
use Rattle.rsfq_ids.specs.declared.circuit.PortBit.{PortBit}
use Rattle.golden_aig.specs.declared.graph.Aig.{Aig}
use Rattle.golden_aig.specs.declared.pairing.Match.{Match}
use Rattle.golden_aig.specs.declared.pairing.PortFault.{PortFault}
use Rattle.golden_aig.specs.declared.pairing.PortFault.TheVariants as fault
use Rattle.golden_aig.specs.Matched.{places_from, data_inputs, outputs_of, name_of, names_of, symbols_of, IsMatched, IsMatch, LacksPort, Repeats, Refuses, HasNoMatch, MemoryOr, MatchesNone}
use Rattle.golden_aig.proofs.PortLists.{places_inside}
use Rattle.golden_aig.proofs.Texts.{names_known}

-- ---- the ports of a side

places_on : {A : Type 0} (test : A → Bool) (first : ℕ) (xs : List A) → All (λ n. first ≤ n) (places_from test first xs)
places_on test first [] = All-nil (λ n. first ≤ n)
places_on test first (x ∷ xs) = go (test x) (All-weaker (λ n. first + 1 ≤ n) (λ n. first ≤ n) (λ n le. omega arith) (places_from test (first + 1) xs) (places_on test (first + 1) xs)) where
  go : (b : Bool) → All (λ n. first ≤ n) (places_from test (first + 1) xs) → All (λ n. first ≤ n) (cond b (first ∷ places_from test (first + 1) xs) (places_from test (first + 1) xs))
  go true more = All-cons (λ n. first ≤ n) first _ (omega arith) more
  go false more = more

places_rise : {A : Type 0} (test : A → Bool) (first : ℕ) (xs : List A) → AllPairs (λ (one other : ℕ). one < other) (places_from test first xs)
places_rise test first [] = λ i j d less in'. absurd (omega arith)
places_rise test first (x ∷ xs) = go (test x) (places_rise test (first + 1) xs) where
  above : All (λ n. first < n) (places_from test (first + 1) xs)
  above = All-weaker (λ n. first + 1 ≤ n) (λ n. first < n) (λ n le. omega arith) (places_from test (first + 1) xs) (places_on test (first + 1) xs)

  go : (b : Bool) → AllPairs (λ (one other : ℕ). one < other) (places_from test (first + 1) xs)
      → AllPairs (λ (one other : ℕ). one < other) (cond b (first ∷ places_from test (first + 1) xs) (places_from test (first + 1) xs))
  go true more = AllPairs-cons (λ (one other : ℕ). one < other) first (places_from test (first + 1) xs) above more
  go false more = more

-- Ports of a circuit, each once, in port order.
pub record AreSide (flat : Flat) (ports : List PortId) : Type 0 where
  pub inside : All (λ (port : ℕ). port < length flat.ports) ports
  pub rise : AllPairs (λ (one other : ℕ). one < other) ports

pub data_side : (flat : Flat) (bench : Bench) → IsBench flat bench → AreSide flat (data_inputs bench)
unfolding data_inputs
data_side flat bench ok =
    let ports : length bench.uses ≡ length flat.ports = ok.ports in
    record {
      inside = All-weaker (λ n. n < 0 + length bench.uses) (λ n. n < length flat.ports) (λ n lt. omega arith) (places_from is_data 0 bench.uses) (places_inside is_data 0 bench.uses);
      rise = places_rise is_data 0 bench.uses;
    }

pub output_side : (flat : Flat) → AreSide flat (outputs_of flat)
unfolding outputs_of
output_side flat =
    record {
      inside = All-weaker (λ n. n < 0 + length flat.ports) (λ n. n < length flat.ports) (λ n lt. omega arith) (places_from (λ (port : PortBit). port.output) 0 flat.ports)
          (places_inside (λ (port : PortBit). port.output) 0 flat.ports);
      rise = places_rise (λ (port : PortBit). port.output) 0 flat.ports;
    }

-- ---- names

name_at : (flat : Flat) (port : ℕ) → port < length flat.ports → name_of flat port ≡ get_or (map (λ (bit : PortBit). bit.name) flat.ports) port []
name_at flat port lt =
    let none : PortBit = record { name = []; output = false } in
    rw (slice_get-get_or flat.ports port none lt) (sym (get_or-map (λ (bit : PortBit). bit.name) flat.ports port none [] lt))

one_name : (flat : Flat) (one other : ℕ) → AreDistinct (map (λ (bit : PortBit). bit.name) flat.ports) → one < length flat.ports → other < length flat.ports → name_of flat one ≡ name_of flat other → one ≡ other
one_name flat one other apart in_one in_other same =
    let names = map (λ (bit : PortBit). bit.name) flat.ports in
    let count : length names ≡ length flat.ports = length-map flat.ports (λ (bit : PortBit). bit.name) in
    let both : get_or names one [] ≡ get_or names other [] = sym (name_at flat one in_one) ∙ same ∙ name_at flat other in_other in
    elim (cases_order one other) [
      | inl is ↦ is
      | inr (inl less) ↦ absurd (apart one other [] less (omega arith) both)
      | inr (inr more) ↦ absurd (apart other one [] more (omega arith) (sym both))
    ]

-- ---- a match

flips : (a b : ℕ) → eqb a b ≡ eqb b a
flips a b = elim (eqb_tells a b) [
  | inl (is, same) ↦ rw same refl
  | inr (differ, ne) ↦ differ ∙ sym (ne_eqb b a (λ back. ne (sym back)))
]

matched_apart : (ports matched : List PortId) (i j : ℕ) → AllPairs (λ (one other : ℕ). one < other) ports → IsPermutation ports matched → i < j → j < length matched → get_or matched i 0 ≢ get_or matched j 0
matched_apart ports matched i j rise moved less in' =
    let once = IsDistinct-from_apart eqb ports (λ a b d lt end. ne_eqb (get_or ports a d) (get_or ports b d) (let up : get_or ports a d < get_or ports b d = rise a b d lt end in λ same. omega arith)) in
    eqb-false (get_or matched i 0) (get_or matched j 0) (apart_from_distinct eqb matched i j 0 (IsDistinct-IsPermutation eqb flips ports matched moved once) less in')

matched_known : (ports matched : List PortId) → IsPermutation ports matched → All (Contains ports) matched
matched_known ports matched moved = All-permutation (Contains ports) ports matched moved (λ k d lt. Contains-get_or ports k d lt)

-- two places of a match with one name
repeats_none : (flat : Flat) (ports matched : List PortId) (i j : ℕ) → AreDistinct (map (λ (bit : PortBit). bit.name) flat.ports) → AreSide flat ports → IsPermutation ports matched → i < j → j < length matched
    → get_or (names_of flat matched) i [] ≢ get_or (names_of flat matched) j []
repeats_none flat ports matched i j apart side moved less in' same =
    let inside = All-permutation (λ (port : ℕ). port < length flat.ports) ports matched moved side.inside in
    let at_i = get_or-map (name_of flat) matched i 0 [] (omega arith) in
    let at_j = get_or-map (name_of flat) matched j 0 [] in' in
    let one = one_name flat (get_or matched i 0) (get_or matched j 0) apart (inside i 0 (omega arith)) (inside j 0 in') (sym at_i ∙ same ∙ at_j) in
    matched_apart ports matched i j side.rise moved less in' one

-- symbols with these parts are no empty list
parts_some : (symbols before after : List (List ℕ)) (name : List ℕ) → symbols ≡ before ++ name ∷ after → length symbols ≡ length before + (1 + length after)
parts_some symbols before after name parts =
    let all : length symbols ≡ length before + length (name ∷ after) = ap length parts ∙ length-append before (name ∷ after) in
    omega arith

lacks_none : (flat : Flat) (ports matched : List PortId) (symbols : List (List ℕ)) (name : List ℕ) → IsPermutation ports matched → names_of flat matched ≡ symbols → LacksPort flat ports symbols name → ⊥
lacks_none flat ports matched symbols name moved names lacks =
    let size = parts_some symbols lacks.before lacks.after name lacks.parts in
    let place = length lacks.before in
    let here : get_or (names_of flat matched) place [] ≡ name =
    ap (λ (t : List (List ℕ)). get_or t place []) (names ∙ lacks.parts) ∙ get_or-append_seam lacks.before name lacks.after [] in
    let count : length (names_of flat matched) ≡ length symbols = ap length names in
    lacks.none (subst (Contains (names_of flat ports)) here (names_known flat ports matched (matched_known ports matched moved) place [] (omega arith)))

again_none : (flat : Flat) (ports matched : List PortId) (symbols : List (List ℕ)) (name : List ℕ) → AreDistinct (map (λ (bit : PortBit). bit.name) flat.ports) → AreSide flat ports → IsPermutation ports matched
    → names_of flat matched ≡ symbols → Repeats symbols name → ⊥
again_none flat ports matched symbols name apart side moved names repeats =
    let size = parts_some symbols repeats.before repeats.after name repeats.parts in
    let place = length repeats.before in
    let again = repeats.again in
    let earlier = again.0 in
    let inside : earlier < place = again.1 in
    let all : names_of flat matched ≡ repeats.before ++ name ∷ repeats.after = names ∙ repeats.parts in
    let count : length (names_of flat matched) ≡ length symbols = ap length names in
    let many : length (names_of flat matched) ≡ length matched = length-map matched (name_of flat) in
    let first : get_or (names_of flat matched) earlier [] ≡ name =
    ap (λ (t : List (List ℕ)). get_or t earlier []) all ∙ get_or_append_left repeats.before (name ∷ repeats.after) [] earlier inside ∙ get_or_default repeats.before earlier [] name inside ∙ again.2 in
    let second : get_or (names_of flat matched) place [] ≡ name = ap (λ (t : List (List ℕ)). get_or t place []) all ∙ get_or-append_seam repeats.before name repeats.after [] in
    repeats_none flat ports matched earlier place apart side moved inside (omega arith) (first ∙ sym second)

-- ---- refusals

pub refused_side : (flat : Flat) (ports matched : List PortId) (entries : List (Option (List ℕ))) (why : PortFault) → AreDistinct (map (λ (bit : PortBit). bit.name) flat.ports) → AreSide flat ports
    → Refuses flat ports entries why → ¬ IsMatched flat ports entries matched
refused_side flat ports matched entries fault.Mixed apart side mixed is =
    let names : names_of flat matched ≡ symbols_of entries = named is.by in
    let moved : length matched ≡ length ports = length_permutation ports matched is.one_to_one in
    let many : length (names_of flat matched) ≡ length matched = length-map matched (name_of flat) in
    let count : length entries ≡ length ports = is.count in
    mixed.1 (ap length (sym names) ∙ many ∙ moved ∙ sym count)
  where
    named : ((symbols_of entries ≡ []) × (matched ≡ ports)) ⊎ (names_of flat matched ≡ symbols_of entries) → names_of flat matched ≡ symbols_of entries
    named (inl (none, order)) = absurd (mixed.0 none)
    named (inr names) = names
refused_side flat ports matched entries (fault.Count have want) apart side (mixed, have_is, want_is, differ) is = differ (have_is ∙ is.count ∙ sym want_is)
refused_side flat ports matched entries (fault.NoPort name) apart side (mixed, count, lacks) is = go is.by where
  go : ((symbols_of entries ≡ []) × (matched ≡ ports)) ⊎ (names_of flat matched ≡ symbols_of entries) → ⊥
  go (inl (none, order)) = let size = sym (ap length none) ∙ parts_some (symbols_of entries) lacks.before lacks.after name lacks.parts in omega arith
  go (inr names) = lacks_none flat ports matched (symbols_of entries) name is.one_to_one names lacks
refused_side flat ports matched entries (fault.Repeated name) apart side (mixed, count, known, repeats) is = go is.by where
  go : ((symbols_of entries ≡ []) × (matched ≡ ports)) ⊎ (names_of flat matched ≡ symbols_of entries) → ⊥
  go (inl (none, order)) = let size = sym (ap length none) ∙ parts_some (symbols_of entries) repeats.before repeats.after name repeats.parts in omega arith
  go (inr names) = again_none flat ports matched (symbols_of entries) name apart side is.one_to_one names repeats
refused_side flat ports matched entries fault.Memory apart side refused is = refused

-- a cause for which a graph has no match excludes each match
pub refusals_have_no_match : (aig : Aig) (flat : Flat) (bench : Bench) (why : PortFault) → AreDistinct (map (λ (bit : PortBit). bit.name) flat.ports) → IsBench flat bench
    → HasNoMatch aig flat bench why → (matched : Match) → ¬ IsMatch aig flat bench matched
refusals_have_no_match aig flat bench why apart ok (inl inputs) matched is = refused_side flat (data_inputs bench) matched.inputs aig.in_names why apart (data_side flat bench ok) inputs is.inputs
refusals_have_no_match aig flat bench why apart ok (inr (first, outputs)) matched is = refused_side flat (outputs_of flat) matched.outputs aig.out_names why apart (output_side flat) outputs is.outputs

pub none_refused : (aig : Aig) (flat : Flat) (bench : Bench) (why : PortFault) → AreDistinct (map (λ (bit : PortBit). bit.name) flat.ports) → IsBench flat bench
    → MemoryOr why (HasNoMatch aig flat bench why) → MatchesNone aig flat bench why
none_refused aig flat bench why apart ok (inl memory) = inl memory
none_refused aig flat bench why apart ok (inr cause) = inr (refusals_have_no_match aig flat bench why apart ok cause)
