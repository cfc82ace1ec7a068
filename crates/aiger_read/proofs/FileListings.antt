-- The listing that a graph has in a file is well formed.
use Rattle.std.proofs.Common.{◌≡◌, ◌⊎◌, ◌∙◌, inl, inr, ◌<◌, ◌≤◌, ◌+◌, ◌-◌, ◌*◌, ◌/◌, ◌%◌, ℕ, zero, suc, refl, ap, sym, subst, arith, List, [], ◌∷◌, length, Some}
use Rattle.rsfq_ids.specs.declared.limits.TheConstants.{AIG_LIMIT}
use Rattle.std.specs.Prelude.{slice_get, slice_index_or, map}
use Rattle.std.proofs.lemmas.Option.{same_Some, slice_get_within, get_or_from_slice_get}
use Rattle.golden_aig.specs.declared.graph.Aig.{Aig}
use Rattle.golden_aig.specs.declared.graph.And.{And}
use Rattle.golden_aig.specs.Aig.{IsAig, variables_of}
use Rattle.aiger_order.specs.declared.listing.Listing.{Listing}
use Rattle.aiger_order.specs.Numbers.{HoldsOnce, file_literal, file_and}
use Rattle.aiger_order.specs.Listing.{IsDefinition, IsDefined, IsListing, defined_by}
use Rattle.aiger_order.specs.Renaming.{Renames}
use Rattle.aiger_order.proofs.Lists.{get_more, get_parts, get_behind, get_inside}
use Rattle.aiger_read.proofs.Listings.{unmapped}

-- What a file says of the graph's names.
pub record IsNamedListing (listing : Listing) (aig : Aig) (names : List ℕ) : Type 0 where
  pub graph : IsAig aig
  pub renames : Renames listing aig names
  pub inside : (number name : ℕ) → slice_get names number ≡ Some name → name ≤ listing.top
  pub once : HoldsOnce (map (λ one. one.lhs) listing.ands)
  pub limit : listing.top ≤ AIG_LIMIT

mapped : {A B : Type 0} (f : A → B) (xs : List A) (k : ℕ) (x : A) → slice_get xs k ≡ Some x → slice_get (map f xs) k ≡ Some (f x)
mapped f [] k x e = absurd cc
mapped f (y ∷ xs) zero x e = ap (λ z. Some (f z)) (same_Some y x e)
mapped f (y ∷ xs) (suc k) x e = mapped f xs k x e

halved : (names : List ℕ) (number name : ℕ) → slice_get names number ≡ Some name → file_literal names (2 * number) ≡ 2 * name
halved names number name is =
    let half : 2 * number / 2 ≡ number = omega arith in
    let even : 2 * number % 2 ≡ 0 = omega arith in
    let there : slice_index_or names number 0 ≡ name = get_or_from_slice_get names number name 0 is in
    rw (half, even, there) (omega arith)

two_same : (a b : ℕ) → 2 * a ≡ 2 * b → a ≡ b
two_same a b e = omega arith

module _ (listing : Listing) (aig : Aig) (names : List ℕ) (graph : IsAig aig) (renames : Renames listing aig names) where
  -- the variable of a number
  named : (number : ℕ) → number < variables_of aig + 1 → (name : ℕ) × (slice_get names number ≡ Some name)
  named number lt = (let count = renames.count in get_inside names number (omega arith))

  -- each variable of the graph is defined
  defined_number : (number name : ℕ) → slice_get names number ≡ Some name → 0 < number → number < variables_of aig + 1 → (at : ℕ) × (slice_get (defined_by listing.inputs listing.ands) at ≡ Some (2 * name))
  defined_number number name is some lt = elim (cases number aig.inputs some) [
    | inl (place, at, low) ↦ (
        let count = renames.input_count in
        let input = get_inside listing.inputs place (omega arith) in
        let literal : input.0 ≡ 2 * name = renames.inputs place input.0 input.1 ∙ ap (λ (k : ℕ). file_literal names (2 * k)) (sym at) ∙ halved names number name is in
        (place, get_more listing.inputs (map (λ (one : And). one.lhs) listing.ands) place (2 * name) (input.1 ∙ ap Some literal))
        )
    | inr (place, at) ↦ (
        let and = get_inside aig.ands place (omega arith) in
        let line = renames.ands place and.0 and.1 in
        let lhs = (graph.ands place and.0 and.1).lhs in
        let literal : file_literal names and.0.lhs ≡ 2 * name = ap (file_literal names) lhs ∙ ap (λ (k : ℕ). file_literal names (2 * k)) (sym at) ∙ halved names number name is in
        let there : slice_get (map (λ (one : And). one.lhs) listing.ands) line.0 ≡ Some (2 * name) = mapped (λ (one : And). one.lhs) listing.ands line.0 (file_and names and.0) line.1 ∙ ap Some literal in
        (length listing.inputs + line.0, get_behind listing.inputs (map (λ (one : And). one.lhs) listing.ands) line.0 ∙ there)
        )
  ] where
    cases : (k inputs : ℕ) → 0 < k → ((place : ℕ) × (k ≡ place + 1) × (place < inputs)) ⊎ ((place : ℕ) × (k ≡ inputs + place + 1))
    cases k zero lt = inr (k - 1, omega arith)
    cases k (suc i) lt = elim (cases k i lt) [
      | inl low ↦ inl (low.0, low.1, (let l = low.2 in omega arith))
      | inr high ↦ split high.0 high.1
    ] where
      split : (place : ℕ) → k ≡ i + place + 1 → ((p : ℕ) × (k ≡ p + 1) × (p < suc i)) ⊎ ((p : ℕ) × (k ≡ suc i + p + 1))
      split zero e = inl (i, omega arith, omega arith)
      split (suc place) e = inr (place, omega arith)

  -- the names of a well-formed listing are in range
  pub names_inside : IsListing listing → (number name : ℕ) → slice_get names number ≡ Some name → name ≤ listing.top
  names_inside l zero name is = (let same : name ≡ 0 = same_Some name 0 (sym is ∙ renames.constant) in omega arith)
  names_inside l (suc number) name is =
      let lt = slice_get_within names (suc number) name is in
      let count = renames.count in
      let d = defined_number (suc number) name is (omega arith) (omega arith) in
      let def = l.definitions d.0 (2 * name) d.1 in
      let same : name ≡ def.0 = two_same name def.0 def.1 in
      let low = def.3 in
      omega arith

module _ (listing : Listing) (aig : Aig) (names : List ℕ) (n : IsNamedListing listing aig names) where
  not_constant : (number name : ℕ) → slice_get names number ≡ Some name → 0 < number → 1 ≤ name
  not_constant number zero is lt = (let same : number ≡ 0 = n.renames.one_to_one number 0 0 is n.renames.constant in absurd (omega arith))
  not_constant number (suc name) is lt = omega arith

  is_definition : (number literal : ℕ) → 0 < number → number < variables_of aig + 1 → literal ≡ file_literal names (2 * number) → IsDefinition listing.top literal
  is_definition number literal some lt is =
      let name = named listing aig names n.graph n.renames number lt in
      (name.0, is ∙ halved names number name.0 name.1, not_constant number name.0 name.1 some, n.inside number name.0 name.1)

  -- one number has one literal
  one_number : (a b literal : ℕ) → a < variables_of aig + 1 → b < variables_of aig + 1 → literal ≡ file_literal names (2 * a) → literal ≡ file_literal names (2 * b) → a ≡ b
  one_number a b literal la lb ia ib =
      let x = named listing aig names n.graph n.renames a la in
      let y = named listing aig names n.graph n.renames b lb in
      let same : x.0 ≡ y.0 = two_same x.0 y.0 (sym (halved names a x.0 x.1) ∙ sym ia ∙ ib ∙ halved names b y.0 y.1) in
      n.renames.one_to_one a b x.0 x.1 (y.1 ∙ ap Some (sym same))

  input_number : (at literal : ℕ) → slice_get listing.inputs at ≡ Some literal → (at < aig.inputs) × (literal ≡ file_literal names (2 * (at + 1)))
  input_number at literal is =
      let lt = slice_get_within listing.inputs at literal is in
      let count = n.renames.input_count in
      (omega arith, n.renames.inputs at literal is)

  -- the number of the AND of a line
  and_number : (at literal : ℕ) → slice_get (map (λ (one : And). one.lhs) listing.ands) at ≡ Some literal → (place : ℕ) × (place < length aig.ands) × (literal ≡ file_literal names (2 * (aig.inputs + place + 1)))
  and_number at literal is =
      let from = unmapped (λ (one : And). one.lhs) listing.ands at literal is in
      let line = n.renames.lines at from.0 from.1 in
      let lhs = (n.graph.ands line.0 line.1 line.2).lhs in
      (line.0, slice_get_within aig.ands line.0 line.1 line.2, sym from.2 ∙ ap (λ (one : And). one.lhs) line.3 ∙ ap (file_literal names) lhs)

  -- what a definition is the literal of
  number_at : (at literal : ℕ) → slice_get (defined_by listing.inputs listing.ands) at ≡ Some literal → (number : ℕ) × (0 < number) × (number < variables_of aig + 1) × (literal ≡ file_literal names (2 * number))
  number_at at literal is = elim (get_parts listing.inputs (map (λ (one : And). one.lhs) listing.ands) at literal is) [
    | inl input ↦ (let i = input_number at literal input in let lt = i.0 in (at + 1, omega arith, omega arith, i.1))
    | inr line ↦ (let a = and_number line.0 literal line.2 in let lt = a.1 in (aig.inputs + a.0 + 1, omega arith, omega arith, a.2))
  ]

  definitions : (at literal : ℕ) → slice_get (defined_by listing.inputs listing.ands) at ≡ Some literal → IsDefinition listing.top literal
  definitions at literal is = let x = number_at at literal is in is_definition x.0 literal x.1 x.2 x.3

  once : HoldsOnce (defined_by listing.inputs listing.ands)
  once here there literal a b = elim (get_parts listing.inputs (map (λ (one : And). one.lhs) listing.ands) here literal a) [
    | inl one ↦ elim (get_parts listing.inputs (map (λ (one : And). one.lhs) listing.ands) there literal b) [
      | inl two ↦ (
          let i = input_number here literal one in
          let j = input_number there literal two in
          let la = i.0 in
          let lb = j.0 in
          let same = one_number (here + 1) (there + 1) literal (omega arith) (omega arith) i.1 j.1 in
          omega arith
          )
      | inr two ↦ (let i = input_number here literal one in let j = and_number two.0 literal two.2 in absurd (apart here literal j.0 i.0 j.1 i.1 j.2))
    ]
    | inr one ↦ elim (get_parts listing.inputs (map (λ (one : And). one.lhs) listing.ands) there literal b) [
      | inl two ↦ (let i = input_number there literal two in let j = and_number one.0 literal one.2 in absurd (apart there literal j.0 i.0 j.1 i.1 j.2))
      | inr two ↦ (let same = n.once one.0 two.0 literal one.2 two.2 in one.1 ∙ ap (λ (k : ℕ). length listing.inputs + k) same ∙ sym two.1)
    ]
  ] where
    apart : (at l place : ℕ) → at < aig.inputs → place < length aig.ands → l ≡ file_literal names (2 * (at + 1)) → l ≡ file_literal names (2 * (aig.inputs + place + 1)) → ⊥
    apart at l place la lb ia ib = (let same = one_number (at + 1) (aig.inputs + place + 1) l (omega arith) (omega arith) ia ib in omega arith)

  is_defined : (literal : ℕ) → literal < 2 * (variables_of aig + 1) → IsDefined (defined_by listing.inputs listing.ands) (file_literal names literal)
  is_defined literal lt =
      let low : literal / 2 < variables_of aig + 1 = omega arith in
      let name = named listing aig names n.graph n.renames (literal / 2) low in
      let there : slice_index_or names (literal / 2) 0 ≡ name.0 = get_or_from_slice_get names (literal / 2) name.0 0 name.1 in
      let half : file_literal names literal / 2 ≡ name.0 = halves literal (slice_index_or names (literal / 2) 0) name.0 there in
      go (literal / 2) refl name.0 name.1 half low
    where
      halves : (l x y : ℕ) → x ≡ y → (2 * x + l % 2) / 2 ≡ y
      halves l x y e = omega arith

      go : (number : ℕ) → literal / 2 ≡ number → (name : ℕ) → slice_get names (literal / 2) ≡ Some name → file_literal names literal / 2 ≡ name → literal / 2 < variables_of aig + 1 → IsDefined (defined_by listing.inputs listing.ands) (file_literal names literal)
      go zero is name there half l = inl (half ∙ same_Some name 0 (sym there ∙ ap (slice_get names) is ∙ n.renames.constant))
      go (suc number) is name there half l =
          let d = defined_number listing aig names n.graph n.renames (literal / 2) name there (omega arith) l in
          inr (d.0, d.1 ∙ ap (λ (x : ℕ). Some (2 * x)) (sym half))

  pub is_listing : IsListing listing
  is_listing = record {
    size = n.limit;
    definitions = definitions;
    once = once;
    operands = λ line one is.
        let from = n.renames.lines line one is in
        let at = n.graph.ands from.0 from.1 from.2 in
        let lt = slice_get_within aig.ands from.0 from.1 from.2 in
        let lhs = at.lhs in
        let r0 = at.rhs0 in
        let r1 = at.rhs1 in
        let first = is_defined from.1.rhs0 (omega arith) in
        let second = is_defined from.1.rhs1 (omega arith) in
        subst (λ (x : And). IsDefined (defined_by listing.inputs listing.ands) x.rhs0 × IsDefined (defined_by listing.inputs listing.ands) x.rhs1) (sym from.3) (first, second);
    outputs = λ at literal is.
        let from = unmapped (file_literal names) aig.outputs at literal (ap (λ (l : List ℕ). slice_get l at) (sym n.renames.outputs) ∙ is) in
        let lt = slice_get_within aig.outputs at from.0 from.1 in
        let low = n.graph.outputs at 0 lt in
        let same : slice_index_or aig.outputs at 0 ≡ from.0 = get_or_from_slice_get aig.outputs at from.0 0 from.1 in
        subst (IsDefined (defined_by listing.inputs listing.ands)) from.2 (is_defined from.0 (omega arith));
    in_names = ap length n.renames.in_names ∙ n.graph.in_names ∙ sym n.renames.input_count;
    out_names = ap length n.renames.out_names ∙ n.graph.out_names ∙ sym (same_length (file_literal names) aig.outputs) ∙ ap length (sym n.renames.outputs);
  } where
    same_length : (f : ℕ → ℕ) (xs : List ℕ) → length (map f xs) ≡ length xs
    same_length f [] = refl
    same_length f (x ∷ xs) = ap suc (same_length f xs)
