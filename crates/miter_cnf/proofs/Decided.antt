-- The inputs decide all variables: from a word follows of each variable the literal that is true.
use Rattle.std.proofs.Common.{◌≡◌, ◌∙◌, ◌<◌, ◌≤◌, ◌+◌, ◌*◌, ◌/◌, ◌%◌, ◌^◌, ℕ, zero, suc, Bool, true, false, not, cond, refl, sym, ap, subst, arith, List, [], ◌∷◌, ◌++◌, length, map, get_or, ◌⊎◌, inl, inr}
use Rattle.std.specs.Prelude.{◌==◌, ◌&&◌}
use Rattle.std.specs.Int.{bit_at}
use Rattle.std.specs.List.{All, Contains, enumerate_from, flat_map, range_with_len}
use Rattle.std.proofs.Math.Nat.{div-one, pow-suc}
use Rattle.std.proofs.lemmas.Bool.{eq-eqb, ne_eqb}
use Rattle.std.proofs.lemmas.Bool.Decides.{eqb_tells}
use Rattle.std.proofs.lemmas.Nat.{shr-shr}
use Rattle.std.proofs.lemmas.List.{length-map}
use Rattle.std.proofs.lemmas.List.Elements.{All-nil, All-cons, All-tail, Contains-append_right, Contains-append_cases}
use Rattle.rsfq_ids.specs.Run.{row_number}
use Rattle.rsfq_ids.specs.Formula.{Clause, opposite, value_of}
use Rattle.rsfq_ids.specs.Propagation.{Follows}
use Rattle.cell_truth.specs.Clause.{has_both, once_each, written}
use Rattle.cell_truth.specs.Truth.{digit, pin_literals, row_clause, signed, truth_clauses, truth_value}
use Rattle.cell_truth.proofs.ClauseLaws.{opposite_value}
use Rattle.miter_cnf.specs.Miter.{and_clauses_of, differ_clauses_of}
use Rattle.miter_cnf.proofs.Literals.{no_true, opposite_twice, opposite_differs, both_found, once_has, once_from, all_first, all_second, unlike}

-- ---- items of lists

flat_in : {X : Type 0} (P : X → Type 0) (f : ℕ → List X) (from count k : ℕ) → from ≤ k → k < from + count → All P (flat_map f (range_with_len from count)) → All P (f k)
flat_in P f from zero k low high all = absurd (omega arith)
flat_in P f from (suc count) k low high all = elim (eqb_tells from k) [
  | inl t ↦ subst (λ (n : ℕ). All P (f n)) t.1 (all_first P (f from) (flat_map f (range_with_len (from + 1) count)) all)
  | inr t ↦ (let ne = t.1 in flat_in P f (from + 1) count k (omega (arith, ne, low)) (omega arith) (all_second P (f from) (flat_map f (range_with_len (from + 1) count)) all))
]

module _ (clauses : List Clause) (word : List ℕ) (values : ℕ → Bool) where
  -- the true literal of a literal's variable follows
  pub record Told (lit : ℕ) : Type 0 where
    pub so : value_of values lit ≡ true → Follows clauses word lit
    pub not_so : value_of values lit ≡ false → Follows clauses word (opposite lit)

  pub told_opposite : (lit : ℕ) → Told lit → Told (opposite lit)
  told_opposite lit told = record {
    so = λ is. told.not_so (not_true (value_of values lit) (sym (opposite_value values lit) ∙ is));
    not_so = λ is. subst (Follows clauses word) (sym (opposite_twice lit)) (told.so (not_false (value_of values lit) (sym (opposite_value values lit) ∙ is)));
  } where
    not_true : (b : Bool) → not b ≡ true → b ≡ false
    not_true true e = sym e
    not_true false e = refl

    not_false : (b : Bool) → not b ≡ false → b ≡ true
    not_false true e = refl
    not_false false e = sym e

  -- a literal that is false, and told so
  abbrev pub IsDenied : ℕ → Type 0
  IsDenied lit = (value_of values lit ≡ false) × Follows clauses word (opposite lit)

  -- Of a clause whose other literals are denied the last one follows, also where it is not written as it always holds.
  pub forces : (lits : List ℕ) (lit : ℕ) → All (Contains clauses) (written lits) → Contains lits lit → ((other : ℕ) → Contains lits other → (other ≡ lit) ⊎ IsDenied other) → Follows clauses word lit
  forces lits lit there has others = go (has_both lits) refl
    where
      from_both : (one : ℕ) → Contains lits one → Contains lits (opposite one) → (one ≡ lit) ⊎ IsDenied one → (opposite one ≡ lit) ⊎ IsDenied (opposite one) → Follows clauses word lit
      from_both one has_one has_two (inl same) (inl again) = absurd (opposite_differs one (again ∙ sym same))
      from_both one has_one has_two (inl same) (inr denied) = subst (Follows clauses word) (opposite_twice one ∙ same) denied.1
      from_both one has_one has_two (inr denied) (inl same) = subst (Follows clauses word) same denied.1
      from_both one has_one has_two (inr denied) (inr also) =
          no_true (sym also.0 ∙ (opposite_value values one ∙ ap not denied.0))

      go : (both : Bool) → has_both lits ≡ both → Follows clauses word lit
      go true is = let found = both_found lits is in from_both found.0 found.1 found.2 (others found.0 found.1) (others (opposite found.0) found.2)
      go false is =
          let only : written lits ≡ once_each lits ∷ [] = rw is refl in
          let listed : Contains clauses (once_each lits) = subst (All (Contains clauses)) only there 0 (once_each lits) (omega arith) in
          Follows.Forced (once_each lits) lit listed (once_has lits lit has) (λ other among differ. elim (others other (once_from lits other among)) [
            | inl same ↦ absurd (differ same)
            | inr denied ↦ denied.1
          ])

  -- ---- the clauses of an AND

  two_of : (P : ℕ → Type 0) (a b : ℕ) → P a → P b → (other : ℕ) → Contains (a ∷ b ∷ []) other → P other
  two_of P a b one two other (zero, lt, at) = subst P at one
  two_of P a b one two other (suc zero, lt, at) = subst P at two
  two_of P a b one two other (suc (suc k), lt, at) = absurd (omega arith)

  three_of : (P : ℕ → Type 0) (a b c : ℕ) → P a → P b → P c → (other : ℕ) → Contains (a ∷ b ∷ c ∷ []) other → P other
  three_of P a b c one two three other (zero, lt, at) = subst P at one
  three_of P a b c one two three other (suc zero, lt, at) = subst P at two
  three_of P a b c one two three other (suc (suc zero), lt, at) = subst P at three
  three_of P a b c one two three other (suc (suc (suc k)), lt, at) = absurd (omega arith)

  denied_false : (lit : ℕ) → Told lit → value_of values lit ≡ false → IsDenied lit
  denied_false lit told is = (is, told.not_so is)

  denied_true : (lit : ℕ) → Told lit → value_of values lit ≡ true → IsDenied (opposite lit)
  denied_true lit told is = (opposite_value values lit ∙ ap not is, subst (Follows clauses word) (sym (opposite_twice lit)) (told.so is))

  and_true : (a b : Bool) → (a && b) ≡ true → (a ≡ true) × (b ≡ true)
  and_true true true e = (refl, refl)
  and_true true false e = no_true e
  and_true false b e = no_true e

  and_false : (a b : Bool) → (a && b) ≡ false → (a ≡ false) ⊎ (b ≡ false)
  and_false true true e = no_true (sym e)
  and_false true false e = inr refl
  and_false false b e = inl refl

  pub and_told : (v x y : ℕ) → All (Contains clauses) (and_clauses_of v x y) → value_of values v ≡ (value_of values x && value_of values y) → Told x → Told y → Told v
  and_told v x y there is one two =
      let a = written (opposite v ∷ x ∷ []) in
      let b = written (opposite v ∷ y ∷ []) in
      let c = written (v ∷ opposite x ∷ opposite y ∷ []) in
      let ab = all_first (Contains clauses) (a ++ b) c there in
      record {
        so = λ so.
            let both = and_true (value_of values x) (value_of values y) (sym is ∙ so) in
            forces (v ∷ opposite x ∷ opposite y ∷ []) v (all_second (Contains clauses) (a ++ b) c there) (zero, omega arith, refl)
            (three_of (λ other. (other ≡ v) ⊎ IsDenied other) v (opposite x) (opposite y) (inl refl) (inr (denied_true x one both.0)) (inr (denied_true y two both.1)));
        not_so = λ so. elim (and_false (value_of values x) (value_of values y) (sym is ∙ so)) [
          | inl e ↦
              forces (opposite v ∷ x ∷ []) (opposite v) (all_first (Contains clauses) a b ab) (zero, omega arith, refl)
              (two_of (λ other. (other ≡ opposite v) ⊎ IsDenied other) (opposite v) x (inl refl) (inr (denied_false x one e)))
          | inr e ↦
              forces (opposite v ∷ y ∷ []) (opposite v) (all_second (Contains clauses) a b ab) (zero, omega arith, refl)
              (two_of (λ other. (other ≡ opposite v) ⊎ IsDenied other) (opposite v) y (inl refl) (inr (denied_false y two e)))
        ];
      }

  -- ---- the clauses of a difference

  pub differ_told : (d n g : ℕ) → All (Contains clauses) (differ_clauses_of d n g) → value_of values d ≡ unlike (value_of values n) (value_of values g) → Told n → Told g → Told d
  differ_told d n g there is one two =
      let a = written (opposite d ∷ n ∷ g ∷ []) in
      let b = written (opposite d ∷ opposite n ∷ opposite g ∷ []) in
      let c = written (d ∷ opposite n ∷ g ∷ []) in
      let e = written (d ∷ n ∷ opposite g ∷ []) in
      let abc = all_first (Contains clauses) ((a ++ b) ++ c) e there in
      let ab = all_first (Contains clauses) (a ++ b) c abc in
      by (value_of values n) refl (value_of values g) refl (all_first (Contains clauses) a b ab) (all_second (Contains clauses) a b ab) (all_second (Contains clauses) (a ++ b) c abc) (all_second (Contains clauses) ((a ++ b) ++ c) e there)
    where
      by : (bn : Bool) → value_of values n ≡ bn → (bg : Bool) → value_of values g ≡ bg → All (Contains clauses) (written (opposite d ∷ n ∷ g ∷ [])) → All (Contains clauses) (written (opposite d ∷ opposite n ∷ opposite g ∷ []))
          → All (Contains clauses) (written (d ∷ opposite n ∷ g ∷ [])) → All (Contains clauses) (written (d ∷ n ∷ opposite g ∷ [])) → Told d
      by true is_n true is_g a b c e =
          let none : value_of values d ≡ false = is ∙ rw (is_n, is_g) refl in
          record {
            so = λ so. no_true (sym none ∙ so);
            not_so = λ so. forces (opposite d ∷ opposite n ∷ opposite g ∷ []) (opposite d) b (zero, omega arith, refl)
                (three_of (λ other. (other ≡ opposite d) ⊎ IsDenied other) (opposite d) (opposite n) (opposite g) (inl refl) (inr (denied_true n one is_n)) (inr (denied_true g two is_g)));
          }
      by false is_n false is_g a b c e =
          let none : value_of values d ≡ false = is ∙ rw (is_n, is_g) refl in
          record {
            so = λ so. no_true (sym none ∙ so);
            not_so = λ so. forces (opposite d ∷ n ∷ g ∷ []) (opposite d) a (zero, omega arith, refl)
                (three_of (λ other. (other ≡ opposite d) ⊎ IsDenied other) (opposite d) n g (inl refl) (inr (denied_false n one is_n)) (inr (denied_false g two is_g)));
          }
      by true is_n false is_g a b c e =
          let one_is : value_of values d ≡ true = is ∙ rw (is_n, is_g) refl in
          record {
            so = λ so. forces (d ∷ opposite n ∷ g ∷ []) d c (zero, omega arith, refl)
                (three_of (λ other. (other ≡ d) ⊎ IsDenied other) d (opposite n) g (inl refl) (inr (denied_true n one is_n)) (inr (denied_false g two is_g)));
            not_so = λ so. no_true (sym so ∙ one_is);
          }
      by false is_n true is_g a b c e =
          let one_is : value_of values d ≡ true = is ∙ rw (is_n, is_g) refl in
          record {
            so = λ so. forces (d ∷ n ∷ opposite g ∷ []) d e (zero, omega arith, refl)
                (three_of (λ other. (other ≡ d) ⊎ IsDenied other) d n (opposite g) (inl refl) (inr (denied_false n one is_n)) (inr (denied_true g two is_g)));
            not_so = λ so. no_true (sym so ∙ one_is);
          }

  -- ---- the clauses of a table

  pub number_small : (bits : List Bool) → row_number bits < 2 ^ length bits
  number_small [] = omega arith
  number_small (bit ∷ bits) =
      let double : 2 ^ suc (length bits) ≡ 2 ^ length bits * 2 = pow-suc 2 (length bits) in
      let less = number_small bits in
      let small : cond bit 1 0 ≤ 1 = elim bit as (λ b. cond b 1 0 ≤ 1) [ true ↦ omega arith | false ↦ omega arith ] in
      omega (arith, double, less, small)

  odd_row : (x n : ℕ) → x ≡ 1 + 2 * n → ((x % 2 == 1) ≡ true) × (x / 2 ≡ n)
  odd_row x n e = let one : x % 2 ≡ 1 = omega (arith, e) in (eq-eqb (x % 2) 1 one, omega (arith, e))

  even_row : (x n : ℕ) → x ≡ 0 + 2 * n → ((x % 2 == 1) ≡ false) × (x / 2 ≡ n)
  even_row x n e = let none : x % 2 ≡ 0 = omega (arith, e) in (ne_eqb (x % 2) 1 (omega (arith, none)), omega (arith, e))

  -- at the row of the pins' values each pin's literal is denied
  pins_denied : (row from : ℕ) (inputs : List ℕ) → row / 2 ^ from ≡ row_number (map (value_of values) inputs) → All Told inputs
      → All IsDenied (map (λ (pin, literal). signed (bit_at row pin == 1) literal) (enumerate_from from inputs))
  pins_denied row from [] is told = All-nil IsDenied
  pins_denied row from (literal ∷ literals) is told =
      let half : row / 2 ^ (from + 1) ≡ (row / 2 ^ from) / 2 = sym (shr-shr row from 1) in
      let here : Told literal = told 0 literal (omega arith) in
      let rest = All-tail Told literal literals told in
      by (value_of values literal) refl (row / 2 ^ from) refl is half here (λ next. pins_denied row (from + 1) literals next rest)
    where
      number : ℕ
      number = row_number (map (value_of values) literals)

      by : (bit : Bool) → value_of values literal ≡ bit → (x : ℕ) → row / 2 ^ from ≡ x → row / 2 ^ from ≡ row_number (map (value_of values) (literal ∷ literals)) → row / 2 ^ (from + 1) ≡ (row / 2 ^ from) / 2 → Told literal
          → (row / 2 ^ (from + 1) ≡ row_number (map (value_of values) literals) → All IsDenied (map (λ (pin, lit). signed (bit_at row pin == 1) lit) (enumerate_from (from + 1) literals)))
          → All IsDenied (map (λ (pin, lit). signed (bit_at row pin == 1) lit) (enumerate_from from (literal ∷ literals)))
      by true bit_is x x_is is half here later =
          let split = odd_row (row / 2 ^ from) (row_number (map (value_of values) literals)) (is ∙ rw bit_is refl) in
          let sign : signed (bit_at row from == 1) literal ≡ opposite literal = ap (λ b. signed b literal) split.0 in
          All-cons IsDenied (signed (bit_at row from == 1) literal) (map (λ (pin, lit). signed (bit_at row pin == 1) lit) (enumerate_from (from + 1) literals))
          (subst IsDenied (sym sign) (denied_true literal here bit_is)) (later (half ∙ split.1))
      by false bit_is x x_is is half here later =
          let split = even_row (row / 2 ^ from) (row_number (map (value_of values) literals)) (is ∙ rw bit_is refl) in
          let sign : signed (bit_at row from == 1) literal ≡ literal = ap (λ b. signed b literal) split.0 in
          All-cons IsDenied (signed (bit_at row from == 1) literal) (map (λ (pin, lit). signed (bit_at row pin == 1) lit) (enumerate_from (from + 1) literals))
          (subst IsDenied (sym sign) (denied_false literal here bit_is)) (later (half ∙ split.1))

  in_row : (pins : List ℕ) (lit : ℕ) → All IsDenied pins → (other : ℕ) → Contains (pins ++ lit ∷ []) other → (other ≡ lit) ⊎ IsDenied other
  in_row pins lit denied other has = elim (Contains-append_cases pins (lit ∷ []) other has) [
    | inl (k, lt, at) ↦ inr (subst IsDenied at (denied k other lt))
    | inr (k, lt, at) ↦ inl (only k lt at)
  ] where
    only : (k : ℕ) → k < 1 → get_or (lit ∷ []) k other ≡ other → other ≡ lit
    only zero lt at = sym at
    only (suc k) lt at = absurd (omega arith)

  last_in : (pins : List ℕ) (lit : ℕ) → Contains (pins ++ lit ∷ []) lit
  last_in pins lit = Contains-append_right pins (lit ∷ []) lit (zero, omega arith, refl)

  pub table_told : (rows pins output : ℕ) (inputs : List ℕ) → pins ≡ length inputs → All (Contains clauses) (truth_clauses rows pins inputs output) → value_of values output ≡ truth_value values rows inputs
      → All Told inputs → Told output
  table_told rows pins output inputs many there is told =
      let bits = map (value_of values) inputs in
      let row = row_number bits in
      let long = length-map inputs (value_of values) in
      let small : row < 2 ^ pins = subst (λ n. row < 2 ^ n) (long ∙ sym many) (number_small bits) in
      let whole : row / 2 ^ 0 ≡ row = div-one row in
      let denied = pins_denied row 0 inputs whole told in
      let here = flat_in (Contains clauses) (λ r. written (row_clause rows inputs output r)) 0 (2 ^ pins) row (omega arith) (omega (arith, small)) there in
      by (digit rows row) refl is denied here
    where
      by : (said : Bool) → digit rows (row_number (map (value_of values) inputs)) ≡ said → value_of values output ≡ digit rows (row_number (map (value_of values) inputs))
          → All IsDenied (pin_literals (row_number (map (value_of values) inputs)) inputs) → All (Contains clauses) (written (row_clause rows inputs output (row_number (map (value_of values) inputs)))) → Told output
      by true said is denied here =
          let row = row_number (map (value_of values) inputs) in
          let sign : signed (not (digit rows row)) output ≡ output = ap (λ b. signed (not b) output) said in
          let clause : row_clause rows inputs output row ≡ pin_literals row inputs ++ output ∷ [] = ap (λ (l : ℕ). pin_literals row inputs ++ l ∷ []) sign in
          record {
            so = λ so. forces (pin_literals row inputs ++ output ∷ []) output (subst (λ (c : List ℕ). All (Contains clauses) (written c)) clause here) (last_in (pin_literals row inputs) output) (in_row (pin_literals row inputs) output denied);
            not_so = λ so. no_true (sym so ∙ (is ∙ said));
          }
      by false said is denied here =
          let row = row_number (map (value_of values) inputs) in
          let sign : signed (not (digit rows row)) output ≡ opposite output = ap (λ b. signed (not b) output) said in
          let clause : row_clause rows inputs output row ≡ pin_literals row inputs ++ opposite output ∷ [] = ap (λ (l : ℕ). pin_literals row inputs ++ l ∷ []) sign in
          record {
            so = λ so. no_true (sym (is ∙ said) ∙ so);
            not_so = λ so. forces (pin_literals row inputs ++ opposite output ∷ []) (opposite output) (subst (λ (c : List ℕ). All (Contains clauses) (written c)) clause here) (last_in (pin_literals row inputs) (opposite output)) (in_row (pin_literals row inputs) (opposite output) denied);
          }
