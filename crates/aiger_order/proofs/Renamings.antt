-- Listings and their graphs.
use Rattle.std.proofs.Common.{◌≡◌, inl, inr, ◌∙◌, ◌<◌, ◌≤◌, ◌+◌, ◌*◌, ◌/◌, ◌%◌, ◌==◌, ℕ, zero, suc, true, refl, ap, sym, subst, arith, List, [], ◌∷◌, ◌++◌, length, length-append, get_or, Option, Some}
use Rattle.std.specs.Prelude.{slice_get, slice_index_or, map}
use Rattle.std.specs.List.{All, list_any}
use Rattle.std.proofs.Math.Dec.{eqb}
use Rattle.std.proofs.lemmas.Bool.{eqb-true}
use Rattle.std.proofs.lemmas.Bool.Decides.{eqb_tells}
use Rattle.std.proofs.lemmas.Map.Keys.{IsDistinct-from_apart}
use Rattle.std.proofs.lemmas.Map.Steps.{length-le_from_distinct_below}
use Rattle.std.proofs.lemmas.Map.Views.{Contains-from_any}
use Rattle.std.proofs.lemmas.List.{length-map}
use Rattle.std.proofs.lemmas.Option.{same_Some, slice_get_within, slice_get-map, get_or_from_slice_get, slice_get-get_or}
use Rattle.golden_aig.specs.declared.graph.And.{And}
use Rattle.golden_aig.specs.declared.graph.Aig.{Aig}
use Rattle.golden_aig.specs.Aig.{IsAig}
use Rattle.aiger_order.specs.declared.listing.Listing.{Listing}
use Rattle.aiger_order.specs.Numbers.{Known, IsNumbering, file_literal, file_and}
use Rattle.aiger_order.specs.Listing.{IsDefined, IsListing, AreLines, defined_by}
use Rattle.aiger_order.specs.Sorted.{IsSorted, first_names}
use Rattle.aiger_order.specs.Renaming.{Renames, TakesFirst, HasNoGraph}
use Rattle.aiger_order.specs.Ring.{IsFed, AreFed, Uses, IsChain, IsRingOfAnds}
use Rattle.aiger_order.proofs.Lists.{get_more, get_behind, get_parts, get_inside, once_apart}
use Rattle.aiger_order.proofs.ReadyLines.{one_line}
use Rattle.aiger_order.proofs.SortedLines.{sorted_count}

-- the literal of a line is defined behind the inputs
line_defined : (listing : Listing) (line : ℕ) (one : And) → slice_get listing.ands line ≡ Some one → slice_get (defined_by listing.inputs listing.ands) (length listing.inputs + line) ≡ Some one.lhs
line_defined listing line one is =
    get_behind listing.inputs (map (λ (g : And). g.lhs) listing.ands) line ∙ (slice_get-map (λ (g : And). g.lhs) listing.ands line ∙ rw is refl)

defined_below : (listing : Listing) (x : ℕ) → IsListing listing → IsDefined (defined_by listing.inputs listing.ands) x → x / 2 ≤ listing.top
defined_below listing x ok (inl zero_is) = omega arith
defined_below listing x ok (inr (at, is)) = let d = ok.definitions at (2 * (x / 2)) is in let even = d.1 in let high = d.3 in omega arith

pub lines_ok : (listing : Listing) → IsListing listing → AreLines listing.top listing.ands
lines_ok listing ok = record {
  definitions = λ line one is. ok.definitions (length listing.inputs + line) one.lhs (line_defined listing line one is);
  below = λ line one is.
      let d = ok.definitions (length listing.inputs + line) one.lhs (line_defined listing line one is) in
      let even = d.1 in
      let high = d.3 in
      let operands = ok.operands line one is in
      (omega arith, defined_below listing one.rhs0 ok operands.0, defined_below listing one.rhs1 ok operands.1);
  once = λ here there item one other.
      let shift : (k : ℕ) → slice_get (map (λ (g : And). g.lhs) listing.ands) k ≡ Some item → slice_get (defined_by listing.inputs listing.ands) (length listing.inputs + k) ≡ Some item = λ k e. get_behind listing.inputs (map (λ (g : And). g.lhs) listing.ands) k ∙ e in
      let same = ok.once (length listing.inputs + here) (length listing.inputs + there) item (shift here one) (shift there other) in
      omega arith;
}

-- each line defines another even literal, so there are not many
pub few_lines : (listing : Listing) → IsListing listing → length listing.ands ≤ 2000001
few_lines listing ok =
    let defined = defined_by listing.inputs listing.ands in
    let apart = once_apart defined ok.once in
    let small = ok.size in
    let below : (q : ℕ) → list_any (λ y. q == y) defined ≡ true → q < 2000001 = λ q has.
    let there = Contains-from_any (λ x y e. eqb-true x y e) q defined has in
    let d = ok.definitions there.0 q (slice_get-get_or defined there.0 q there.1 ∙ ap Some there.2) in
    let even = d.1 in
    let high = d.3 in
    omega arith in
    let count = length-le_from_distinct_below defined 2000001 (IsDistinct-from_apart eqb defined (λ i j d lt within. elim (eqb_tells (get_or defined i d) (get_or defined j d)) [ inl same ↦ absurd (apart i j d lt within same.1) | inr other ↦ other.0 ])) below in
    let whole = length-append listing.inputs (map (λ (one : And). one.lhs) listing.ands) in
    let lines = length-map listing.ands (λ (one : And). one.lhs) in
    omega arith

-- the numbers of inputs
input_named : (inputs others : List ℕ) (place literal : ℕ) → slice_get inputs place ≡ Some literal → slice_get (first_names inputs ++ others) (suc place) ≡ Some (literal / 2)
input_named inputs others place literal is =
    get_more (map (λ (l : ℕ). l / 2) inputs) others place (literal / 2) (slice_get-map (λ (l : ℕ). l / 2) inputs place ∙ rw is refl)

named : (names : List ℕ) (more : List ℕ) (n v : ℕ) → names ≡ more → slice_get more n ≡ Some v → slice_get names n ≡ Some v
named names more n v same is = ap (λ (ns : List ℕ). slice_get ns n) same ∙ is

-- a literal that is defined has a number, or a line defines it
pub fed : (listing : Listing) (names : List ℕ) (ands : List And) (x : ℕ) → IsListing listing → IsSorted listing.inputs listing.ands names ands → IsDefined (defined_by listing.inputs listing.ands) x → IsFed names listing.ands x
fed listing names ands x ok s (inl zero_is) = inl (0, named names (first_names listing.inputs ++ s.others) 0 (x / 2) s.parts (ap Some (sym zero_is)))
fed listing names ands x ok s (inr (at, is)) = elim (get_parts listing.inputs (map (λ (g : And). g.lhs) listing.ands) at (2 * (x / 2)) is) [
  | inl input ↦
      let half : 2 * (x / 2) / 2 ≡ x / 2 = omega arith in
      inl (suc at, named names (first_names listing.inputs ++ s.others) (suc at) (x / 2) s.parts (input_named listing.inputs s.others at (2 * (x / 2)) input ∙ ap Some half))
  | inr line ↦
      let here = line_at listing.ands line.0 (2 * (x / 2)) line.2 in
      inr (line.0, here.0, here.1, here.2)
]
  where
    line_at : (lines : List And) (k l : ℕ) → slice_get (map (λ (g : And). g.lhs) lines) k ≡ Some l → (one : And) × (slice_get lines k ≡ Some one) × (one.lhs ≡ l)
    line_at [] k l e = absurd cc
    line_at (g ∷ lines) zero l e = (g, refl, same_Some g.lhs l e)
    line_at (g ∷ lines) (suc k) l e = line_at lines k l e

pub all_fed : (listing : Listing) (names : List ℕ) (ands : List And) → IsListing listing → IsSorted listing.inputs listing.ands names ands → AreFed names listing.ands
all_fed listing names ands ok s line one is =
    let operands = ok.operands line one is in
    (fed listing names ands one.rhs0 ok s operands.0, fed listing names ands one.rhs1 ok s operands.1)

-- where all lines have numbers, each literal that is defined has one
pub all_known : (listing : Listing) (names : List ℕ) (ands : List And) (x : ℕ) → IsListing listing → IsSorted listing.inputs listing.ands names ands
    → ((line : ℕ) (one : And) → slice_get listing.ands line ≡ Some one → Known names (one.lhs / 2)) → IsDefined (defined_by listing.inputs listing.ands) x → Known names (x / 2)
all_known listing names ands x ok s done d = elim (fed listing names ands x ok s d) [
  | inl known ↦ known
  | inr line ↦
      let lhs = line.3 in
      let half : line.1.lhs / 2 ≡ x / 2 = omega arith in
      subst (Known names) half (done line.0 line.1 line.2)
]

-- ---- no graph has ANDs in a ring

module _ (listing : Listing) (aig : Aig) (names : List ℕ) (graph : IsAig aig) (r : Renames listing aig names) where
  read_name : (n : ℕ) → n < length names → slice_get names n ≡ Some (slice_index_or names n 0)
  read_name n lt = slice_get-get_or names n 0 lt

  falls : (l m : ℕ) → Uses listing.ands l m → (n k : ℕ) × (slice_get names n ≡ Some (l / 2)) × (slice_get names k ≡ Some (m / 2)) × (k < n)
  falls l m (line, one, is, lhs, uses) =
      let each = r.lines line one is in
      let gate = each.1 in
      let here = graph.ands each.0 gate each.2 in
      let many = r.count in
      let inside = slice_get_within aig.ands each.0 gate each.2 in
      let top = here.lhs in
      let low0 = here.rhs0 in
      let low1 = here.rhs1 in
      let lhs_is : one.lhs ≡ 2 * slice_index_or names (gate.lhs / 2) 0 + gate.lhs % 2 = ap (λ (g : And). g.lhs) each.3 in
      let rhs0_is : one.rhs0 ≡ 2 * slice_index_or names (gate.rhs0 / 2) 0 + gate.rhs0 % 2 = ap (λ (g : And). g.rhs0) each.3 in
      let rhs1_is : one.rhs1 ≡ 2 * slice_index_or names (gate.rhs1 / 2) 0 + gate.rhs1 % 2 = ap (λ (g : And). g.rhs1) each.3 in
      let at_n : slice_get names (gate.lhs / 2) ≡ Some (l / 2) = read_name (gate.lhs / 2) (omega arith) ∙ ap Some (omega arith) in
      elim uses [
        | inl first ↦ (gate.lhs / 2, gate.rhs0 / 2, at_n, read_name (gate.rhs0 / 2) (omega arith) ∙ ap Some (omega arith), omega arith)
        | inr second ↦ (gate.lhs / 2, gate.rhs1 / 2, at_n, read_name (gate.rhs1 / 2) (omega arith) ∙ ap Some (omega arith), omega arith)
      ]

  chain_falls : (between : List ℕ) (l x : ℕ) → IsChain listing.ands (l ∷ between ++ x ∷ []) → (n k : ℕ) × (slice_get names n ≡ Some (l / 2)) × (slice_get names k ≡ Some (x / 2)) × (k < n)
  chain_falls [] l x chain = falls l x chain.0
  chain_falls (y ∷ between) l x chain =
      let one = falls l y chain.0 in
      let rest = chain_falls between y x chain.1 in
      let same : one.1 ≡ rest.0 = r.one_to_one one.1 rest.0 (y / 2) one.3 rest.2 in
      let down = one.4 in
      let more = rest.4 in
      (one.0, rest.1, one.2, rest.3, omega arith)

  no_ring : (ring : List ℕ) → ¬ IsRingOfAnds listing.ands ring
  no_ring [] ring = ring.round
  no_ring (l ∷ others) ring =
      let down = chain_falls others l l ring.round in
      let same : down.0 ≡ down.1 = r.one_to_one down.0 down.1 (l / 2) down.2 down.3 in
      let lt = down.4 in
      absurd (omega arith)

pub no_graph : (listing : Listing) (ring : List ℕ) → IsRingOfAnds listing.ands ring → HasNoGraph listing
no_graph listing ring is aig graph renaming = no_ring listing aig renaming.0 graph renaming.1 ring is

-- ---- the graph that was made

abbrev made : Listing → List And → List ℕ → Aig
made listing ands outputs = record { inputs = length listing.inputs; ands = ands; outputs = outputs; in_names = listing.in_names; out_names = listing.out_names }

pub graph_made : (listing : Listing) (names : List ℕ) (numbers : List (Option ℕ)) (ands : List And) (outputs : List ℕ) → IsListing listing → IsNumbering listing.top names numbers → IsSorted listing.inputs listing.ands names ands
    → length outputs ≡ length listing.outputs → All (λ l. l / 2 < length names) outputs → IsAig (made listing ands outputs)
graph_made listing names numbers ands outputs ok n s many within =
    let count = sorted_count listing.inputs listing.ands names ands s in
    let room = n.room in
    let top = ok.size in
    record {
      size = omega arith;
      ands = λ place one is. (s.built place one is).0;
      outputs = λ k d lt. (let low = within k d lt in omega arith);
      in_names = ok.in_names;
      out_names = ok.out_names ∙ sym many;
    }

-- a line whose literal has a number is an AND of the graph
line_made : (listing : Listing) (names : List ℕ) (ands : List And) (line n : ℕ) (one : And) → IsListing listing → IsSorted listing.inputs listing.ands names ands → slice_get listing.ands line ≡ Some one → slice_get names n ≡ Some (one.lhs / 2)
    → (place : ℕ) × (each : And) × (slice_get ands place ≡ Some each) × (one ≡ file_and names each)
line_made listing names ands line n one ok s is at = elim (get_parts (first_names listing.inputs) s.others n (one.lhs / 2) (sym (ap (λ (ns : List ℕ). slice_get ns n) s.parts) ∙ at)) [
  | inl first ↦ absurd (no_input n first)
  | inr other ↦ built other.0 other.1 other.2
]
  where
    defined : slice_get (defined_by listing.inputs listing.ands) (length listing.inputs + line) ≡ Some one.lhs
    defined = line_defined listing line one is

    halves : (xs : List ℕ) (k v : ℕ) → slice_get (map (λ (l : ℕ). l / 2) xs) k ≡ Some v → (l : ℕ) × (slice_get xs k ≡ Some l) × (l / 2 ≡ v)
    halves [] k v e = absurd cc
    halves (x ∷ xs) zero v e = (x, refl, same_Some (x / 2) v e)
    halves (x ∷ xs) (suc k) v e = halves xs k v e

    no_input : (k : ℕ) → slice_get (first_names listing.inputs) k ≡ Some (one.lhs / 2) → ⊥
    no_input zero e =
        let d = ok.definitions (length listing.inputs + line) one.lhs defined in
        let even = d.1 in
        let low = d.2 in
        let zero_is : 0 ≡ one.lhs / 2 = same_Some 0 (one.lhs / 2) e in
        absurd (omega arith)
    no_input (suc k) e =
        let h = halves listing.inputs k (one.lhs / 2) e in
        let there = get_more listing.inputs (map (λ (g : And). g.lhs) listing.ands) k h.0 h.1 in
        let d = ok.definitions (length listing.inputs + line) one.lhs defined in
        let f = ok.definitions k h.0 there in
        let d_even = d.1 in
        let f_even = f.1 in
        let half = h.2 in
        let same : h.0 ≡ one.lhs = omega arith in
        let place : k ≡ length listing.inputs + line = ok.once k (length listing.inputs + line) one.lhs (there ∙ ap Some same) defined in
        let within = slice_get_within listing.inputs k h.0 h.1 in
        absurd (omega arith)

    built : (k : ℕ) → n ≡ length (first_names listing.inputs) + k → slice_get s.others k ≡ Some (one.lhs / 2) → (place : ℕ) × (each : And) × (slice_get ands place ≡ Some each) × (one ≡ file_and names each)
    built k n_is e =
        let within = slice_get_within s.others k (one.lhs / 2) e in
        let count = s.count in
        let gate = get_inside ands k (omega arith) in
        let b = s.built k gate.0 gate.1 in
        let here = b.0 in
        let top = here.lhs in
        let firsts : length (map (λ (l : ℕ). l / 2) listing.inputs) ≡ length listing.inputs = length-map listing.inputs (λ (l : ℕ). l / 2) in
        let at_n : gate.0.lhs / 2 ≡ n = omega arith in
        let read : slice_index_or names (gate.0.lhs / 2) 0 ≡ one.lhs / 2 = ap (λ (m : ℕ). slice_index_or names m 0) at_n ∙ get_or_from_slice_get names n (one.lhs / 2) 0 at in
        let half : (file_and names gate.0).lhs / 2 ≡ one.lhs / 2 = omega arith in
        let same : b.1.0 ≡ line = one_line listing.top listing.ands b.1.0 line (file_and names gate.0) one (lines_ok listing ok) b.1.1 is half in
        let equal : one ≡ file_and names gate.0 = same_Some one (file_and names gate.0) (sym is ∙ (ap (slice_get listing.ands) (sym same) ∙ b.1.1)) in
        (k, gate.0, gate.1, equal)

pub renaming_made : (listing : Listing) (names : List ℕ) (numbers : List (Option ℕ)) (ands : List And) (outputs : List ℕ) → IsListing listing → IsNumbering listing.top names numbers → IsSorted listing.inputs listing.ands names ands
    → ((line : ℕ) (one : And) → slice_get listing.ands line ≡ Some one → Known names (one.lhs / 2)) → map (file_literal names) outputs ≡ listing.outputs → Renames listing (made listing ands outputs) names
renaming_made listing names numbers ands outputs ok n s done same = record {
  count = sorted_count listing.inputs listing.ands names ands s ∙ omega arith;
  one_to_one = λ here there item one other. same_Some here there (same_Some (Some here) (Some there) (sym (n.complete item here one) ∙ n.complete item there other));
  constant = named names (first_names listing.inputs ++ s.others) 0 0 s.parts refl;
  input_count = refl;
  inputs = λ place literal is.
      let at = named names (first_names listing.inputs ++ s.others) (suc place) (literal / 2) s.parts (input_named listing.inputs s.others place literal is) in
      let d = ok.definitions place literal (get_more listing.inputs (map (λ (g : And). g.lhs) listing.ands) place literal is) in
      let even = d.1 in
      let half : 2 * (place + 1) / 2 ≡ suc place = omega arith in
      let read : slice_index_or names (2 * (place + 1) / 2) 0 ≡ literal / 2 = ap (λ (m : ℕ). slice_index_or names m 0) half ∙ get_or_from_slice_get names (suc place) (literal / 2) 0 at in
      omega arith;
  lines = λ line one is. (let known = done line one is in line_made listing names ands line known.0 one ok s is known.1);
  ands = λ place each is. (s.built place each is).1;
  outputs = sym same;
  in_names = refl;
  out_names = refl;
}

-- the graph takes the first line that is ready
pub order_made : (listing : Listing) (names : List ℕ) (ands : List And) (outputs : List ℕ) → IsSorted listing.inputs listing.ands names ands → TakesFirst listing (made listing ands outputs) names
order_made listing names ands outputs s place line earlier one is at ready = s.first place line earlier one is at ready
