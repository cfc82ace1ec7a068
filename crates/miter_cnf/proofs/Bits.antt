-- Words that have the values of the inputs.
use Rattle.std.proofs.Common.{◌≡◌, ◌∙◌, ◌≢◌, ◌<◌, ◌≤◌, ◌+◌, ◌-◌, ℕ, zero, suc, Bool, true, false, cond, refl, sym, ap, subst, arith, List, [], ◌∷◌, length, map, take, get_or, Some, inl, inr}
use Rattle.std.specs.Prelude.{◌==◌, if◌then◌else◌, slice_get, IsPermutation}
use Rattle.std.specs.List.{All, AllPairs, Contains, count_by, sum_by}
use Rattle.std.proofs.lemmas.Bool.{cases_Bool, eq-eqb, ne_eqb}
use Rattle.std.proofs.lemmas.Bool.Decides.{eqb_tells}
use Rattle.std.proofs.lemmas.List.{length-map, get_or-map}
use Rattle.std.proofs.lemmas.List.Elements.{All-cons, All-nil}
use Rattle.std.proofs.lemmas.List.Kept.{AllPairs-cons}
use Rattle.std.proofs.lemmas.List.Sorted.{sum_by-IsPermutation, Contains-permutation, All-permutation}
use Rattle.std.proofs.lemmas.List.Sums.{sum_by-cons, count_by-le-length}
use Rattle.std.proofs.lemmas.Option.{get_or_from_slice_get, slice_get_within}
use Rattle.rsfq_ids.specs.declared.circuit.Bench.{Bench}
use Rattle.rsfq_ids.specs.declared.circuit.Flat.{Flat}
use Rattle.rsfq_ids.specs.declared.circuit.PortBit.{PortBit}
use Rattle.net_graph.specs.Graph.{IsOutputBit}
use Rattle.rsfq_ids.specs.declared.circuit.PortUse.{PortUse}
use Rattle.rsfq_ids.specs.declared.circuit.PortUse.TheVariants as port_use
use Rattle.rsfq_ids.specs.Bench.{is_data, IsUsed}
use Rattle.golden_aig.specs.Matched.{places_from, data_inputs, outputs_of}
use Rattle.miter_cnf.specs.Laws.{IsWordOf}
use Rattle.miter_cnf.proofs.Along.{same_some}

-- ---- items that stand once, in any order

abbrev pub Distinct : List ℕ → Type 0
Distinct xs = AllPairs (λ one other. one ≢ other) xs

abbrev is_one : ℕ → ℕ → ℕ
is_one x y = cond (y == x) 1 0

times_none : (x : ℕ) (xs : List ℕ) → ((k d : ℕ) → k < length xs → get_or xs k d ≢ x) → sum_by (is_one x) xs ≡ 0
times_none x [] none = refl
times_none x (y ∷ xs) none =
    let differ : (y == x) ≡ false = ne_eqb y x (none zero 0 (omega arith)) in
    let rest = times_none x xs (λ k d lt. none (suc k) d (omega arith)) in
    sum_by-cons (is_one x) y xs ∙ rw (differ, rest) refl

times_once : (x : ℕ) (xs : List ℕ) → Distinct xs → sum_by (is_one x) xs ≤ 1
times_once x [] once = omega arith
times_once x (y ∷ xs) once =
    let more = sum_by-cons (is_one x) y xs in
    elim (eqb_tells y x) [
      | inl t ↦
          (let none = times_none x xs (λ k d lt same. once zero (suc k) d (omega arith) (omega arith) (t.1 ∙ sym same)) in
          let here : is_one x y ≡ 1 = rw t.0 refl in
          omega (arith, more, none, here))
      | inr t ↦
          (let rest = times_once x xs (λ i j d lt within. once (suc i) (suc j) d (omega arith) (omega arith)) in
          let here : is_one x y ≡ 0 = rw t.0 refl in
          omega (arith, more, rest, here))
    ]

times_some : (x : ℕ) (xs : List ℕ) (k d : ℕ) → k < length xs → get_or xs k d ≡ x → 1 ≤ sum_by (is_one x) xs
times_some x [] k d lt is = absurd (omega arith)
times_some x (y ∷ xs) zero d lt is =
    let more = sum_by-cons (is_one x) y xs in
    let same : (y == x) ≡ true = eq-eqb y x is in
    let here : is_one x y ≡ 1 = rw same refl in
    omega (arith, more, here)
times_some x (y ∷ xs) (suc k) d lt is =
    let more = sum_by-cons (is_one x) y xs in
    let rest = times_some x xs k d (omega arith) is in
    omega (arith, more, rest)

once_times : (xs : List ℕ) → ((x : ℕ) → sum_by (is_one x) xs ≤ 1) → Distinct xs
once_times [] times = λ i j d lt within. absurd (omega arith)
once_times (y ∷ xs) times =
    AllPairs-cons (λ one other. one ≢ other) y xs
    (λ k d lt same.
    let most = times y in
    let more = sum_by-cons (is_one y) y xs in
    let own : (y == y) ≡ true = eq-eqb y y refl in
    let here : is_one y y ≡ 1 = rw own refl in
    let some = times_some y xs k d lt (sym same) in
    absurd (omega (arith, most, more, here, some)))
    (once_times xs (λ x. let most = times x in let more = sum_by-cons (is_one x) y xs in omega (arith, most, more)))

pub once_permuted : (xs ys : List ℕ) → IsPermutation xs ys → Distinct xs → Distinct ys
once_permuted xs ys same once = once_times ys (λ x. let total = sum_by-IsPermutation (is_one x) xs ys same in let most = times_once x xs once in omega (arith, total, most))

-- ---- places of data inputs

count_cons : {A : Type 0} (test : A → Bool) (x : A) (xs : List A) → count_by test (x ∷ xs) ≡ cond (test x) 1 0 + count_by test xs
count_cons test x xs = sum_by-cons (λ y. cond (test y) 1 0) x xs

pub places_at : {A : Type 0} (test : A → Bool) (first : ℕ) (xs : List A) (i : ℕ) (d : A) → i < length xs → test (get_or xs i d) ≡ true
    → slice_get (places_from test first xs) (count_by test (take i xs)) ≡ Some (first + i)
places_at test first [] i d lt is = absurd (omega arith)
places_at test first (x ∷ xs) zero d lt is = rw is (ap Some (omega arith))
places_at test first (x ∷ xs) (suc i) d lt is =
    let rest = places_at test (first + 1) xs i d (omega arith) is in
    let more = count_cons test x (take i xs) in
    let place : first + 1 + i ≡ first + suc i = omega arith in
    elim (cases_Bool (test x)) [
      | inl e ↦
          (let next : count_by test (x ∷ take i xs) ≡ suc (count_by test (take i xs)) = more ∙ rw e (omega arith) in
          rw (next, e) (rest ∙ ap Some place))
      | inr e ↦
          (let next : count_by test (x ∷ take i xs) ≡ count_by test (take i xs) = more ∙ rw e (omega arith) in
          rw (next, e) (rest ∙ ap Some place))
    ]

-- a place, and that the test passes there
pub record IsPlace {A : Type 0} (test : A → Bool) (first : ℕ) (xs : List A) (n : ℕ) : Type 0 where
  pub from : first ≤ n
  pub within : n - first < length xs
  pub passes : (d : A) → test (get_or xs (n - first) d) ≡ true

place_later : {A : Type 0} (test : A → Bool) (first : ℕ) (x : A) (xs : List A) (n : ℕ) → IsPlace test (first + 1) xs n → IsPlace test first (x ∷ xs) n
place_later test first x xs n is =
    let low = is.from in
    let high = is.within in
    let step : n - first ≡ suc (n - (first + 1)) = omega arith in
    record { from = omega (arith, low); within = omega (arith, high, step, low); passes = λ d. rw step (is.passes d) }

all_later : {A : Type 0} (test : A → Bool) (first : ℕ) (x : A) (xs : List A) (places : List ℕ) → All (IsPlace test (first + 1) xs) places → All (IsPlace test first (x ∷ xs)) places
all_later test first x xs places all k d lt = place_later test first x xs (get_or places k d) (all k d lt)

pub places_pass : {A : Type 0} (test : A → Bool) (first : ℕ) (xs : List A) → All (IsPlace test first xs) (places_from test first xs)
places_pass test first [] = All-nil (IsPlace test first [])
places_pass test first (x ∷ xs) =
    let rest = all_later test first x xs (places_from test (first + 1) xs) (places_pass test (first + 1) xs) in
    elim (cases_Bool (test x)) [
      | inl e ↦
          (let none : first - first ≡ 0 = omega arith in
          let here : IsPlace test first (x ∷ xs) first = record { from = omega arith; within = omega arith; passes = λ d. rw none e } in
          rw e (All-cons (IsPlace test first (x ∷ xs)) first (places_from test (first + 1) xs) here rest))
      | inr e ↦ rw e rest
    ]

long_case : (b : Bool) (first : ℕ) (rest : List ℕ) → length (cond b (first ∷ rest) rest) ≡ cond b 1 0 + length rest
long_case true first rest = omega arith
long_case false first rest = omega arith

pub places_long : {A : Type 0} (test : A → Bool) (first : ℕ) (xs : List A) → length (places_from test first xs) ≡ count_by test xs
places_long test first [] = refl
places_long test first (x ∷ xs) =
    long_case (test x) first (places_from test (first + 1) xs) ∙ (ap (λ n. cond (test x) 1 0 + n) (places_long test (first + 1) xs) ∙ sym (count_cons test x xs))

-- there are no more outputs than ports, and each of them is one
pub outputs_most : (flat : Flat) → length (outputs_of flat) ≤ length flat.ports
unfolding outputs_of
outputs_most flat =
    let long = places_long (λ (bit : PortBit). bit.output) 0 flat.ports in
    let most = count_by-le-length (λ (bit : PortBit). bit.output) flat.ports in
    omega (arith, long, most)

pub inputs_most : (bench : Bench) → length (data_inputs bench) ≤ length bench.uses
unfolding data_inputs
inputs_most bench =
    let long = places_long is_data 0 bench.uses in
    let most = count_by-le-length is_data bench.uses in
    omega (arith, long, most)

output_bit : (flat : Flat) (port : ℕ) → IsPlace (λ (bit : PortBit). bit.output) 0 flat.ports port → IsOutputBit flat port
output_bit flat port place =
    let within = place.within in
    let first : port - 0 ≡ port = omega arith in
    let lt : port < length flat.ports = omega (arith, within, first) in
    some flat.ports port lt (λ d. ap (λ (k : ℕ). (get_or flat.ports k d).output) (sym first) ∙ place.passes d)
  where
    some : (bits : List PortBit) (k : ℕ) → k < length bits → ((d : PortBit) → (get_or bits k d).output ≡ true) → (bit : PortBit) × (slice_get bits k ≡ Some bit) × (bit.output ≡ true)
    some [] k lt each = absurd (omega arith)
    some (b ∷ bits) zero lt each = (b, refl, each b)
    some (b ∷ bits) (suc k) lt each = some bits k (omega arith) each

pub outputs_bits : (flat : Flat) (outputs : List ℕ) → IsPermutation (outputs_of flat) outputs → All (IsOutputBit flat) outputs
unfolding outputs_of
outputs_bits flat outputs same k d lt =
    output_bit flat (get_or outputs k d)
    (All-permutation (IsPlace (λ (bit : PortBit). bit.output) 0 flat.ports) (outputs_of flat) outputs same (places_pass (λ (bit : PortBit). bit.output) 0 flat.ports) k d lt)

-- ---- the word

unfoldable place_of : List ℕ → ℕ → ℕ
place_of [] port = 0
place_of (x ∷ xs) port = if x == port then 0 else suc (place_of xs port)

place_found : (inputs : List ℕ) (place port : ℕ) → Distinct inputs → slice_get inputs place ≡ Some port → place_of inputs port ≡ place
unfolding place_of
place_found [] place port once at = cc
place_found (x ∷ inputs) zero port once at = let same : (x == port) ≡ true = eq-eqb x port (same_some x port at) in rw same refl
place_found (x ∷ inputs) (suc place) port once at =
    let lt = slice_get_within inputs place port at in
    let differ : (x == port) ≡ false = ne_eqb x port (λ same. once zero (suc place) 0 (omega arith) (omega arith) (same ∙ sym (get_or_from_slice_get inputs place port 0 at))) in
    rw differ (ap suc (place_found inputs place port (λ i j d less within. once (suc i) (suc j) d (omega arith) (omega arith)) at))

pub input_data : (bench : Bench) (inputs : List ℕ) (place port : ℕ) → IsPermutation (data_inputs bench) inputs → slice_get inputs place ≡ Some port → IsPlace is_data 0 bench.uses port
unfolding data_inputs
input_data bench inputs place port same at =
    let lt = slice_get_within inputs place port at in
    subst (IsPlace is_data 0 bench.uses) (get_or_from_slice_get inputs place port 0 at)
    (All-permutation (IsPlace is_data 0 bench.uses) (data_inputs bench) inputs same (places_pass is_data 0 bench.uses) place 0 lt)

-- each data input is listed
pub data_listed : (bench : Bench) (inputs : List ℕ) (port : ℕ) (used : PortUse) → IsPermutation (data_inputs bench) inputs → IsUsed bench port used → is_data used ≡ true → Contains inputs port
unfolding data_inputs
data_listed bench inputs port used same at counted =
    let lt = slice_get_within bench.uses port used at in
    let here = get_or_from_slice_get bench.uses port used used at in
    let found = places_at is_data 0 bench.uses port used lt (ap is_data here ∙ counted) in
    let place : 0 + port ≡ port = omega arith in
    let index = count_by is_data (take port bench.uses) in
    let is : slice_get (data_inputs bench) index ≡ Some port = found ∙ ap Some place in
    Contains-permutation (data_inputs bench) inputs port same (index, slice_get_within (data_inputs bench) index port is, get_or_from_slice_get (data_inputs bench) index port port is)

pub words_exist : (bench : Bench) (inputs : List ℕ) (values : ℕ → Bool) → IsPermutation (data_inputs bench) inputs → Distinct inputs → (word : List Bool) × IsWordOf bench inputs values word
unfolding data_inputs
words_exist bench inputs values same once =
    let bits : ℕ → Bool = λ port. values (place_of inputs port) in (
      map bits (data_inputs bench),
      (
        length-map (data_inputs bench) bits ∙ places_long is_data 0 bench.uses,
        λ place port at.
            let found_data = input_data bench inputs place port same at in
            let first : port - 0 ≡ port = omega arith in
            let within = found_data.within in
            let found = places_at is_data 0 bench.uses port port_use.Clock (omega (arith, within, first)) (ap (λ (k : ℕ). is_data (get_or bench.uses k port_use.Clock)) (sym first) ∙ found_data.passes port_use.Clock) in
            let whole : 0 + port ≡ port = omega arith in
            let index = count_by is_data (take port bench.uses) in
            let is : slice_get (data_inputs bench) index ≡ Some port = found ∙ ap Some whole in
            get_or-map bits (data_inputs bench) index port false (slice_get_within (data_inputs bench) index port is)
            ∙ ap bits (get_or_from_slice_get (data_inputs bench) index port port is)
            ∙ ap values (place_found inputs place port once at),
      ),
    )
