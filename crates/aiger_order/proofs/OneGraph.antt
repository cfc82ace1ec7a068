-- The order in which lines become ready gives one graph.
use Rattle.std.proofs.Common.{◌≡◌, ◌⊎◌, ◌∙◌, inl, inr, ◌<◌, ◌≤◌, ◌+◌, ◌*◌, ◌/◌, ◌%◌, ℕ, zero, suc, refl, ap, sym, subst, arith, List, [], ◌∷◌, length, Option, Some}
use Rattle.std.specs.Prelude.{slice_get, slice_index_or, map, take}
use Rattle.std.specs.List.{All}
use Rattle.std.proofs.lemmas.Option.{same_Some, slice_get_within, get_or_from_slice_get}
use Rattle.golden_aig.specs.declared.graph.Aig.{Aig}
use Rattle.golden_aig.specs.declared.graph.And.{And}
use Rattle.golden_aig.specs.Aig.{IsAig, IsAndAt, variables_of}
use Rattle.aiger_order.specs.declared.listing.Listing.{Listing}
use Rattle.aiger_order.specs.Numbers.{Known, HoldsOnce, file_literal, file_and}
use Rattle.aiger_order.specs.Ready.{IsReadyLine}
use Rattle.aiger_order.specs.Renaming.{Renames, TakesFirst, IsOneGraph}
use Rattle.aiger_order.proofs.Lists.{get_inside}

-- ---- lists by their items

take_get : {A : Type 0} (xs : List A) (n i : ℕ) → i < n → slice_get (take n xs) i ≡ slice_get xs i
take_get [] zero i lt = refl
take_get [] (suc n) i lt = refl
take_get (x ∷ xs) zero i lt = absurd (omega arith)
take_get (x ∷ xs) (suc n) zero lt = refl
take_get (x ∷ xs) (suc n) (suc i) lt = take_get xs n i (omega arith)

take_inside : {A : Type 0} (xs : List A) (n i : ℕ) (x : A) → slice_get (take n xs) i ≡ Some x → i < n
take_inside [] zero i x e = absurd cc
take_inside [] (suc n) i x e = absurd cc
take_inside (y ∷ xs) zero i x e = absurd cc
take_inside (y ∷ xs) (suc n) zero x e = omega arith
take_inside (y ∷ xs) (suc n) (suc i) x e = (let lt = take_inside xs n i x e in omega arith)

same_lists : {A : Type 0} (xs ys : List A) → length xs ≡ length ys → ((i : ℕ) (x y : A) → slice_get xs i ≡ Some x → slice_get ys i ≡ Some y → x ≡ y) → xs ≡ ys
same_lists [] [] e h = refl
same_lists [] (y ∷ ys) e h = absurd (omega arith)
same_lists (x ∷ xs) [] e h = absurd (omega arith)
same_lists {A} (x ∷ xs) (y ∷ ys) e h =
    let first : x ≡ y = h 0 x y refl refl in
    let rest : xs ≡ ys = same_lists xs ys (omega arith) (λ i a b p q. h (suc i) a b p q) in
    ap (λ (z : A). z ∷ xs) first ∙ ap (λ (zs : List A). y ∷ zs) rest

-- ---- literals and names

even_literal : (names : List ℕ) (number name : ℕ) → slice_get names number ≡ Some name → file_literal names (2 * number) ≡ 2 * name
even_literal names number name is =
    let half : 2 * number / 2 ≡ number = omega arith in
    let even : 2 * number % 2 ≡ 0 = omega arith in
    let there : slice_index_or names number 0 ≡ name = get_or_from_slice_get names number name 0 is in
    rw (half, even, there) (omega arith)

half_literal : (names : List ℕ) (literal name : ℕ) → slice_get names (literal / 2) ≡ Some name → file_literal names literal / 2 ≡ name
half_literal names literal name is = halves literal (slice_index_or names (literal / 2) 0) name (get_or_from_slice_get names (literal / 2) name 0 is) where
  halves : (l x y : ℕ) → x ≡ y → (2 * x + l % 2) / 2 ≡ y
  halves l x y e = omega arith

-- names apart tell literals apart
same_literal : (names : List ℕ) (count a b : ℕ) → HoldsOnce names → count ≡ length names → a < 2 * count → b < 2 * count → file_literal names a ≡ file_literal names b → a ≡ b
same_literal names count a b once size la lb e =
    let x = get_inside names (a / 2) (omega arith) in
    let y = get_inside names (b / 2) (omega arith) in
    let xa : slice_index_or names (a / 2) 0 ≡ x.0 = get_or_from_slice_get names (a / 2) x.0 0 x.1 in
    let yb : slice_index_or names (b / 2) 0 ≡ y.0 = get_or_from_slice_get names (b / 2) y.0 0 y.1 in
    let parts = both a b (slice_index_or names (a / 2) 0) (slice_index_or names (b / 2) 0) e in
    let same : x.0 ≡ y.0 = sym xa ∙ parts.0 ∙ yb in
    let half : a / 2 ≡ b / 2 = once (a / 2) (b / 2) x.0 x.1 (y.1 ∙ ap Some (sym same)) in
    let odd : a % 2 ≡ b % 2 = parts.1 in
    omega arith
  where
    both : (l m x y : ℕ) → 2 * x + l % 2 ≡ 2 * y + m % 2 → (x ≡ y) × (l % 2 ≡ m % 2)
    both l m x y s = (omega arith, omega arith)

twice : (a b : ℕ) → 2 * a ≡ 2 * b → a ≡ b
twice a b e = omega arith

-- ---- one after the other

-- the names are the same so far
abbrev SameTo : ℕ → List ℕ → List ℕ → Type 0
SameTo n names others = (i name : ℕ) → i < n → slice_get names i ≡ Some name → slice_get others i ≡ Some name

-- the line of the next AND is ready in the other graph too
next_ready : (listing : Listing) (aig : Aig) (names others : List ℕ) (place line : ℕ) (one : And) → IsAig aig → Renames listing aig names → SameTo (aig.inputs + place + 1) names others → SameTo (aig.inputs + place + 1) others names
    → slice_get aig.ands place ≡ Some one → slice_get listing.ands line ≡ Some (file_and names one) → IsReadyLine (take (aig.inputs + place + 1) others) listing.ands line
next_ready listing aig names others place line one graph r to back at there = record {
  one = file_and names one;
  is = there;
  fresh = λ known. fresh known;
  first = operand one.rhs0 g.rhs0;
  second = operand one.rhs1 g.rhs1;
} where
  g : IsAndAt aig.inputs place one
  g = graph.ands place one at

  inside : place < length aig.ands
  inside = slice_get_within aig.ands place one at

  name_at : (number : ℕ) → number < aig.inputs + place + 2 → (name : ℕ) × (slice_get names number ≡ Some name)
  name_at number lt = (let count = r.count in let in_range = inside in get_inside names number (omega arith))

  lhs_name : (name : ℕ) → slice_get names (aig.inputs + place + 1) ≡ Some name → file_literal names one.lhs / 2 ≡ name
  lhs_name name is = (let lhs = g.lhs in let half : one.lhs / 2 ≡ aig.inputs + place + 1 = omega arith in half_literal names one.lhs name (ap (slice_get names) half ∙ is))

  fresh : Known (take (aig.inputs + place + 1) others) (file_literal names one.lhs / 2) → ⊥
  fresh (i, is) =
      let mine = name_at (aig.inputs + place + 1) (omega arith) in
      let lt = take_inside others (aig.inputs + place + 1) i (file_literal names one.lhs / 2) is in
      let theirs : slice_get others i ≡ Some (file_literal names one.lhs / 2) = sym (take_get others (aig.inputs + place + 1) i lt) ∙ is in
      let same = back i (file_literal names one.lhs / 2) lt theirs in
      let number : i ≡ aig.inputs + place + 1 = r.one_to_one i (aig.inputs + place + 1) mine.0 (same ∙ ap Some (lhs_name mine.0 mine.1)) mine.1 in
      omega arith

  operand : (literal : ℕ) → literal < one.lhs → Known (take (aig.inputs + place + 1) others) (file_literal names literal / 2)
  operand literal lt =
      let lhs = g.lhs in
      let low : literal / 2 < aig.inputs + place + 1 = omega arith in
      let mine = name_at (literal / 2) (omega arith) in
      let half = half_literal names literal mine.0 mine.1 in
      (literal / 2, take_get others (aig.inputs + place + 1) (literal / 2) low ∙ to (literal / 2) mine.0 low mine.1 ∙ ap Some (sym half))

-- the name of the AND at a place
and_name : (listing : Listing) (aig : Aig) (names : List ℕ) (place : ℕ) (one : And) → IsAig aig → Renames listing aig names → slice_get aig.ands place ≡ Some one → (name : ℕ) × (slice_get names (aig.inputs + place + 1) ≡ Some name) × ((file_and names one).lhs ≡ 2 * name)
and_name listing aig names place one graph r at =
    let lt = slice_get_within aig.ands place one at in
    let count = r.count in
    let name = get_inside names (aig.inputs + place + 1) (omega arith) in
    let lhs = (graph.ands place one at).lhs in
    (name.0, name.1, ap (file_literal names) lhs ∙ even_literal names (aig.inputs + place + 1) name.0 name.1)

-- the constant and the inputs have the same names
same_first : (listing : Listing) (a b : Aig) (na nb : List ℕ) → Renames listing a na → Renames listing b nb → SameTo (a.inputs + 1) na nb
same_first listing a b na nb ra rb zero name lt is = rb.constant ∙ ap Some (same_Some 0 name (sym ra.constant ∙ is))
same_first listing a b na nb ra rb (suc i) name lt is =
    let count = ra.input_count in
    let other_count = rb.input_count in
    let nb_count = rb.count in
    let input = get_inside listing.inputs i (omega arith) in
    let number : i + 1 ≡ suc i = omega arith in
    let mine : input.0 ≡ 2 * name = ra.inputs i input.0 input.1 ∙ ap (λ (k : ℕ). file_literal na (2 * k)) number ∙ even_literal na (suc i) name is in
    let theirs = get_inside nb (suc i) (omega arith) in
    let other : input.0 ≡ 2 * theirs.0 = rb.inputs i input.0 input.1 ∙ ap (λ (k : ℕ). file_literal nb (2 * k)) number ∙ even_literal nb (suc i) theirs.0 theirs.1 in
    theirs.1 ∙ ap Some (twice theirs.0 name (sym other ∙ mine))

to_more : (n : ℕ) (names others : List ℕ) (name : ℕ) → SameTo n names others → slice_get names n ≡ Some name → slice_get others n ≡ Some name → SameTo (n + 1) names others
to_more n names others name to mine theirs i x lt is = elim (cases i n lt) [
  | inl low ↦ to i x low is
  | inr at ↦ ap (slice_get others) at ∙ theirs ∙ sym mine ∙ ap (slice_get names) (sym at) ∙ is
] where
  cases : (i n : ℕ) → i < n + 1 → (i < n) ⊎ (i ≡ n)
  cases zero zero lt = inr refl
  cases zero (suc n) lt = inl (omega arith)
  cases (suc i) zero lt = absurd (omega arith)
  cases (suc i) (suc n) lt = elim (cases i n (omega arith)) [ inl l ↦ inl (omega arith) | inr e ↦ inr (ap suc e) ]

-- Two graphs of a listing, both in the order in which lines become ready.
record Two (listing : Listing) (a b : Aig) (na nb : List ℕ) : Type 0 where
  ga : IsAig a
  gb : IsAig b
  ra : Renames listing a na
  rb : Renames listing b nb
  fa : TakesFirst listing a na
  fb : TakesFirst listing b nb
  inputs : a.inputs ≡ b.inputs

other_way : (listing : Listing) (a b : Aig) (na nb : List ℕ) → Two listing a b na nb → Two listing b a nb na
other_way listing a b na nb t = record { ga = t.gb; gb = t.ga; ra = t.rb; rb = t.ra; fa = t.fb; fb = t.fa; inputs = sym t.inputs }

-- the next line is not later in the one than in the other
not_later : (listing : Listing) (a b : Aig) (na nb : List ℕ) (place la lb : ℕ) (one other : And) → Two listing a b na nb → SameTo (a.inputs + place + 1) na nb → SameTo (a.inputs + place + 1) nb na
    → slice_get a.ands place ≡ Some one → slice_get listing.ands la ≡ Some (file_and na one) → slice_get b.ands place ≡ Some other → slice_get listing.ands lb ≡ Some (file_and nb other) → lb ≤ la
not_later listing a b na nb place la lb one other t to back at line_a bt line_b =
    let ready = next_ready listing a na nb place la one t.ga t.ra to back at line_a in
    t.fb place lb la other bt line_b (subst (λ (i : ℕ). IsReadyLine (take (i + place + 1) nb) listing.ands la) t.inputs ready)

-- the next name is the same
next_same : (listing : Listing) (a b : Aig) (na nb : List ℕ) (place : ℕ) (one other : And) → Two listing a b na nb → SameTo (a.inputs + place + 1) na nb → SameTo (a.inputs + place + 1) nb na → slice_get a.ands place ≡ Some one → slice_get b.ands place ≡ Some other
    → (name : ℕ) × (slice_get na (a.inputs + place + 1) ≡ Some name) × (slice_get nb (a.inputs + place + 1) ≡ Some name)
next_same listing a b na nb place one other t to back at bt =
    let line_a = t.ra.ands place one at in
    let line_b = t.rb.ands place other bt in
    let same_inputs = t.inputs in
    let low = not_later listing a b na nb place line_a.0 line_b.0 one other t to back at line_a.1 bt line_b.1 in
    let back_b : SameTo (b.inputs + place + 1) nb na = subst (λ (i : ℕ). SameTo (i + place + 1) nb na) t.inputs back in
    let to_b : SameTo (b.inputs + place + 1) na nb = subst (λ (i : ℕ). SameTo (i + place + 1) na nb) t.inputs to in
    let high = not_later listing b a nb na place line_b.0 line_a.0 other one (other_way listing a b na nb t) back_b to_b bt line_b.1 at line_a.1 in
    let line : line_a.0 ≡ line_b.0 = omega arith in
    let ands : file_and na one ≡ file_and nb other = same_Some (file_and na one) (file_and nb other) (sym line_a.1 ∙ ap (slice_get listing.ands) line ∙ line_b.1) in
    let mine = and_name listing a na place one t.ga t.ra at in
    let theirs = and_name listing b nb place other t.gb t.rb bt in
    let name : mine.0 ≡ theirs.0 = twice mine.0 theirs.0 (sym mine.2 ∙ ap (λ (x : And). x.lhs) ands ∙ theirs.2) in
    (mine.0, mine.1, ap (λ (i : ℕ). slice_get nb (i + place + 1)) same_inputs ∙ theirs.1 ∙ ap Some (sym name))

record Alike (n : ℕ) (na nb : List ℕ) : Type 0 where
  to : SameTo n na nb
  back : SameTo n nb na

alike : (listing : Listing) (a b : Aig) (na nb : List ℕ) (place : ℕ) → Two listing a b na nb → place ≤ length a.ands → place ≤ length b.ands → Alike (a.inputs + place + 1) na nb
alike listing a b na nb zero t la lb =
    let n : a.inputs + 1 ≡ a.inputs + 0 + 1 = omega arith in
    let m : b.inputs + 1 ≡ a.inputs + 0 + 1 = (let same = t.inputs in omega arith) in
    record { to = subst (λ (k : ℕ). SameTo k na nb) n (same_first listing a b na nb t.ra t.rb); back = subst (λ (k : ℕ). SameTo k nb na) m (same_first listing b a nb na t.rb t.ra) }
alike listing a b na nb (suc place) t la lb =
    let before = alike listing a b na nb place t (omega arith) (omega arith) in
    let one = get_inside a.ands place (omega arith) in
    let other = get_inside b.ands place (omega arith) in
    let next = next_same listing a b na nb place one.0 other.0 t before.to before.back one.1 other.1 in
    let n : a.inputs + place + 1 + 1 ≡ a.inputs + suc place + 1 = omega arith in
    record {
      to = subst (λ (k : ℕ). SameTo k na nb) n (to_more (a.inputs + place + 1) na nb next.0 before.to next.1 next.2);
      back = subst (λ (k : ℕ). SameTo k nb na) n (to_more (a.inputs + place + 1) nb na next.0 before.back next.2 next.1);
    }

-- the one has no fewer ANDs than the other
not_fewer : (listing : Listing) (a b : Aig) (na nb : List ℕ) → Two listing a b na nb → length a.ands < length b.ands → ⊥
not_fewer listing a b na nb t lt =
    let same = alike listing a b na nb (length a.ands) t (le_self (length a.ands)) (omega arith) in
    let extra = get_inside b.ands (length a.ands) lt in
    let line = t.rb.ands (length a.ands) extra.0 extra.1 in
    let mine = t.ra.lines line.0 (file_and nb extra.0) line.1 in
    let name_b = and_name listing b nb (length a.ands) extra.0 t.gb t.rb extra.1 in
    let name_a = and_name listing a na mine.0 mine.1 t.ga t.ra mine.2 in
    let inside = slice_get_within a.ands mine.0 mine.1 mine.2 in
    let name : name_b.0 ≡ name_a.0 = twice name_b.0 name_a.0 (sym name_b.2 ∙ ap (λ (x : And). x.lhs) mine.3 ∙ name_a.2) in
    let there : slice_get nb (a.inputs + mine.0 + 1) ≡ Some name_a.0 = same.to (a.inputs + mine.0 + 1) name_a.0 (omega arith) name_a.1 in
    let number : a.inputs + mine.0 + 1 ≡ b.inputs + length a.ands + 1 = t.rb.one_to_one (a.inputs + mine.0 + 1) (b.inputs + length a.ands + 1) name_a.0 there (name_b.1 ∙ ap Some name) in
    let inputs = t.inputs in
    omega arith
  where
    le_self : (n : ℕ) → n ≤ n
    le_self n = omega arith

same_count : (m n : ℕ) → (m < n → ⊥) → (n < m → ⊥) → m ≡ n
same_count zero zero a b = refl
same_count zero (suc n) a b = absurd (a (omega arith))
same_count (suc m) zero a b = absurd (b (omega arith))
same_count (suc m) (suc n) a b = ap suc (same_count m n (λ lt. a (omega arith)) (λ lt. b (omega arith)))

and_made : ℕ → ℕ → ℕ → And
and_made l r s = record { lhs = l; rhs0 = r; rhs1 = s }

same_ands : (listing : Listing) (a b : Aig) (names : List ℕ) (place : ℕ) (one other : And) → Two listing a b names names → length a.ands ≡ length b.ands → slice_get a.ands place ≡ Some one → slice_get b.ands place ≡ Some other → one ≡ other
unfolding and_made
same_ands listing a b names place one other t many at bt =
    let line = t.ra.ands place one at in
    let theirs = t.rb.lines line.0 (file_and names one) line.1 in
    let mine_name = and_name listing a names place one t.ga t.ra at in
    let name = and_name listing b names theirs.0 theirs.1 t.gb t.rb theirs.2 in
    let same_name : mine_name.0 ≡ name.0 = twice mine_name.0 name.0 (sym mine_name.2 ∙ ap (λ (x : And). x.lhs) theirs.3 ∙ name.2) in
    let number : a.inputs + place + 1 ≡ b.inputs + theirs.0 + 1 = t.ra.one_to_one (a.inputs + place + 1) (b.inputs + theirs.0 + 1) mine_name.0 mine_name.1 (name.1 ∙ ap Some (sym same_name)) in
    let inputs = t.inputs in
    let place_is : place ≡ theirs.0 = omega arith in
    let other_is : other ≡ theirs.1 = same_Some other theirs.1 (sym bt ∙ ap (slice_get b.ands) place_is ∙ theirs.2) in
    let files : file_and names one ≡ file_and names other = theirs.3 ∙ ap (file_and names) (sym other_is) in
    let x = t.ga.ands place one at in
    let y = t.gb.ands place other bt in
    let lt = slice_get_within a.ands place one at in
    let count = t.ra.count in
    let xl = x.lhs in
    let x0 = x.rhs0 in
    let x1 = x.rhs1 in
    let yl = y.lhs in
    let y0 = y.rhs0 in
    let y1 = y.rhs1 in
    let size : variables_of a + 1 ≡ length names = sym count in
    let lhs : one.lhs ≡ other.lhs = omega arith in
    let rhs0 : one.rhs0 ≡ other.rhs0 = same_literal names (variables_of a + 1) one.rhs0 other.rhs0 t.ra.one_to_one size (omega arith) (omega arith) (ap (λ (z : And). z.rhs0) files) in
    let rhs1 : one.rhs1 ≡ other.rhs1 = same_literal names (variables_of a + 1) one.rhs1 other.rhs1 t.ra.one_to_one size (omega arith) (omega arith) (ap (λ (z : And). z.rhs1) files) in
    ap (λ (l : ℕ). and_made l one.rhs0 one.rhs1) lhs ∙ ap (λ (r : ℕ). and_made other.lhs r one.rhs1) rhs0 ∙ ap (λ (s : ℕ). and_made other.lhs other.rhs0 s) rhs1

same_outputs : (names : List ℕ) (count : ℕ) (xs ys : List ℕ) → HoldsOnce names → count ≡ length names → All (λ l. l < 2 * count) xs → All (λ l. l < 2 * count) ys → map (file_literal names) xs ≡ map (file_literal names) ys → xs ≡ ys
same_outputs names count [] [] once size la lb e = refl
same_outputs names count [] (y ∷ ys) once size la lb e = absurd cc
same_outputs names count (x ∷ xs) [] once size la lb e = absurd cc
same_outputs names count (x ∷ xs) (y ∷ ys) once size la lb e =
    let first : x ≡ y = same_literal names count x y once size (la 0 0 (omega arith)) (lb 0 0 (omega arith)) (ap head_of e) in
    let rest : xs ≡ ys = same_outputs names count xs ys once size (λ k d lt. la (suc k) d (omega arith)) (λ k d lt. lb (suc k) d (omega arith)) (ap tail_of e) in
    ap (λ (z : ℕ). z ∷ xs) first ∙ ap (λ (zs : List ℕ). y ∷ zs) rest
  where
    head_of : List ℕ → ℕ
    head_of [] = 0
    head_of (z ∷ zs) = z

    tail_of : List ℕ → List ℕ
    tail_of [] = []
    tail_of (z ∷ zs) = zs

aig_made : ℕ → List And → List ℕ → List (Option (List ℕ)) → List (Option (List ℕ)) → Aig
aig_made inputs ands outputs ins outs = record { inputs = inputs; ands = ands; outputs = outputs; in_names = ins; out_names = outs }

same_graph : (listing : Listing) (a b : Aig) (na nb : List ℕ) → Two listing a b na nb → a ≡ b
unfolding aig_made
same_graph listing a b na nb t =
    let many : length a.ands ≡ length b.ands = same_count (length a.ands) (length b.ands) (not_fewer listing a b na nb t) (not_fewer listing b a nb na (other_way listing a b na nb t)) in
    let same = alike listing a b na nb (length a.ands) t (omega arith) (omega arith) in
    let count_a = t.ra.count in
    let count_b = t.rb.count in
    let inputs = t.inputs in
    let size : length na ≡ length nb = omega arith in
    let names : na ≡ nb = same_lists na nb size (λ i x y p q. same_Some x y (sym (same.to i x (let lt = slice_get_within na i x p in omega arith) p) ∙ q)) in
    let u : Two listing a b na na = subst (λ (n : List ℕ). Two listing a b na n) (sym names) t in
    let ands : a.ands ≡ b.ands = same_lists a.ands b.ands many (λ i x y p q. same_ands listing a b na i x y u many p q) in
    let outputs : a.outputs ≡ b.outputs = same_outputs na (variables_of a + 1) a.outputs b.outputs t.ra.one_to_one (sym count_a) t.ga.outputs (λ k d lt. (let low = t.gb.outputs k d lt in omega arith)) (sym u.ra.outputs ∙ u.rb.outputs) in
    let ins : a.in_names ≡ b.in_names = sym t.ra.in_names ∙ t.rb.in_names in
    let outs : a.out_names ≡ b.out_names = sym t.ra.out_names ∙ t.rb.out_names in
    ap (λ (i : ℕ). aig_made i a.ands a.outputs a.in_names a.out_names) inputs
    ∙ ap (λ (x : List And). aig_made b.inputs x a.outputs a.in_names a.out_names) ands
    ∙ ap (λ (o : List ℕ). aig_made b.inputs b.ands o a.in_names a.out_names) outputs
    ∙ ap (λ (n : List (Option (List ℕ))). aig_made b.inputs b.ands b.outputs n a.out_names) ins
    ∙ ap (λ (n : List (Option (List ℕ))). aig_made b.inputs b.ands b.outputs b.in_names n) outs

pub one_graph : IsOneGraph
one_graph listing one other graph_one graph_other (na, ra, fa) (nb, rb, fb) = same_graph listing one other na nb (record { ga = graph_one; gb = graph_other; ra = ra; rb = rb; fa = fa; fb = fb; inputs = sym ra.input_count ∙ rb.input_count })
