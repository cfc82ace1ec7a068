-- Stamps and the bits that they stand for.
use Rattle.std.proofs.Common.{◌≡◌, ◌∙◌, ◌<◌, ◌≤◌, ◌+◌, ◌*◌, ◌-◌, ◌%◌, ℕ, Bool, true, false, zero, suc, refl, sym, ap, ap₂, subst, arith, take, ◌++◌, List, [], ◌∷◌, map, length, get_or, set, replicate, inl, inr}
use Rattle.std.specs.Prelude.{◌==◌, ◌||◌, cond, nat_lt, slice_index_or}
use Rattle.std.specs.List.{All, list_any}
use Rattle.std.specs.Ordering.{is_eq, nat_cmp}
use Rattle.std.specs.Cmp.{nat_cmp_is}
use Rattle.std.specs.declared.cmp.Ordering.TheVariants.{Less, Equal, Greater}
use Rattle.std.proofs.Math.Path.{fun_ext}
use Rattle.std.proofs.Math.Nat.{div-add-mod}
use Rattle.std.proofs.lemmas.List.{get_or-set_same, get_or-set_other, length-map}
use Rattle.std.proofs.lemmas.Bool.{cases_Bool, eqb-true, eq-eqb, lt-ltb}
use Rattle.std.proofs.lemmas.Bool.Decides.{leb_tells}
use Rattle.std.proofs.Math.ListN.{length-set}
use Rattle.std.proofs.lemmas.List.Elements.{All-head, All-tail}
use Rattle.rsfq_ids.specs.Formula.{opposite}
use Rattle.proof_arena.specs.Step.{makes_false}
use Rattle.proof_arena.specs.Table.{Marked, falses_of}

bools_differ : true ≡ false → ⊥
bools_differ e = cc

-- two numbers that differ do not pass the test
pub eqb-false : (m n : ℕ) → (m ≡ n → ⊥) → (m == n) ≡ false
eqb-false m n not_so = elim (cases_Bool (m == n)) [ inl e ↦ absurd (not_so (eqb-true m n e)) | inr e ↦ e ]

apart : (m n : ℕ) → (m == n) ≡ false → m ≡ n → ⊥
apart m n differ e = bools_differ (sym (eq-eqb m n e) ∙ differ)

-- after counting on, no stamp is the one that counts
pub none_marked : (now next : ℕ) (stamps : List ℕ) → now < next → All (λ (s : ℕ). s ≤ now) stamps → map (λ (s : ℕ). s == next) stamps ≡ replicate (length stamps) false
none_marked now next [] lt past = refl
none_marked now next (s ∷ stamps) lt past =
    let le : s ≤ now = All-head (λ (s : ℕ). s ≤ now) s stamps past in
    let not_so : (s ≡ next → ⊥) = λ e. omega arith in
    ap₂ (λ (b : Bool) (bs : List Bool). b ∷ bs) (eqb-false s next not_so) (none_marked now next stamps lt (All-tail (λ (s : ℕ). s ≤ now) s stamps past))

-- the stamp that counts, written at a place
pub one_marked : (now : ℕ) (stamps : List ℕ) (k : ℕ) → map (λ (s : ℕ). s == now) (set stamps k now) ≡ set (map (λ (s : ℕ). s == now) stamps) k true
one_marked now [] zero = refl
one_marked now [] (suc k) = refl
one_marked now (s ∷ stamps) zero = ap (λ b. b ∷ map (λ (s : ℕ). s == now) stamps) (eq-eqb now now refl)
one_marked now (s ∷ stamps) (suc k) = ap (λ bs. (s == now) ∷ bs) (one_marked now stamps k)

-- the bit of a literal of the table
abbrev bit : List Bool → ℕ → Bool
bit table lit = slice_index_or table lit false

marked_at : (marked : List Bool) (k m : ℕ) → k < length marked → bit (set marked k true) m ≡ makes_false (bit marked) k m
marked_at marked k m lt = elim (cases_Bool (m == k)) [
  | inl same ↦ rw same (subst (λ n. bit (set marked k true) n ≡ true) (sym (eqb-true m k same)) (get_or-set_same marked k true false lt))
  | inr differ ↦ rw differ (get_or-set_other marked k m true false (apart m k differ))
]

not_below : (a b : ℕ) → b ≤ a → nat_lt a b ≡ false
not_below a b le = elim (leb_tells (suc a) b) [ inl t ↦ let more = t.1 in absurd (omega arith) | inr t ↦ t.0 ]

-- a literal of the table, and one beyond it
pub in_table : (marked : Marked) (lit : ℕ) → lit < length marked.table → falses_of marked lit ≡ slice_index_or marked.table lit false
in_table marked lit lt = rw (lt-ltb lit (length marked.table) lt) refl

pub past_table : (marked : Marked) (lit : ℕ) → length marked.table ≤ lit → falses_of marked lit ≡ list_any (λ other. lit == other) marked.beyond
past_table marked lit le = rw (not_below lit (length marked.table) le) refl

table_at : (table : List Bool) (beyond : List ℕ) (k m : ℕ) → k < length table
    → falses_of (record { table = set table k true; beyond = beyond }) m ≡ makes_false (falses_of (record { table = table; beyond = beyond })) k m
table_at table beyond k m lt =
    let size : length (set table k true) ≡ length table = length-set {A = Bool} table k true in
    elim (leb_tells (suc m) (length table)) [
      | inl t ↦
          let below = t.1 in
          in_table (record { table = set table k true; beyond = beyond }) m (omega arith)
          ∙ (marked_at table k m lt ∙ ap (λ b. (m == k) || b) (sym (in_table (record { table = table; beyond = beyond }) m below)))
      | inr t ↦
          let above = t.1 in
          past_table (record { table = set table k true; beyond = beyond }) m (omega arith)
          ∙ (sym (past_table (record { table = table; beyond = beyond }) m (omega arith))
          ∙ ap (λ b. b || falses_of (record { table = table; beyond = beyond }) m) (sym (eqb-false m k (λ e. omega arith))))
    ]

-- a bit that is set makes its literal false
pub table_falses : (table : List Bool) (beyond : List ℕ) (k : ℕ) → k < length table
    → falses_of (record { table = set table k true; beyond = beyond }) ≡ makes_false (falses_of (record { table = table; beyond = beyond })) k
table_falses table beyond k lt = fun_ext (λ m. table_at table beyond k m lt)

beyond_at : (table : List Bool) (old new : List ℕ) (k m : ℕ) → length table ≤ k
    → ((q : ℕ) → list_any (λ other. q == other) new ≡ ((q == k) || list_any (λ other. q == other) old))
    → falses_of (record { table = table; beyond = new }) m ≡ makes_false (falses_of (record { table = table; beyond = old })) k m
beyond_at table old new k m le more = elim (leb_tells (suc m) (length table)) [
  | inl t ↦
      let below = t.1 in
      in_table (record { table = table; beyond = new }) m below
      ∙ (sym (in_table (record { table = table; beyond = old }) m below)
      ∙ ap (λ b. b || falses_of (record { table = table; beyond = old }) m) (sym (eqb-false m k (λ e. omega arith))))
  | inr t ↦
      let above = t.1 in
      past_table (record { table = table; beyond = new }) m (omega arith)
      ∙ (more m ∙ ap (λ b. (m == k) || b) (sym (past_table (record { table = table; beyond = old }) m (omega arith))))
]

-- one more literal beyond the table is false
pub beyond_falses : (table : List Bool) (old new : List ℕ) (k : ℕ) → length table ≤ k
    → ((q : ℕ) → list_any (λ other. q == other) new ≡ ((q == k) || list_any (λ other. q == other) old))
    → falses_of (record { table = table; beyond = new }) ≡ makes_false (falses_of (record { table = table; beyond = old })) k
beyond_falses table old new k le more = fun_ext (λ m. beyond_at table old new k m le more)

none_at : (n m : ℕ) → bit (replicate n false) m ≡ false
none_at zero m = refl
none_at (suc n) zero = refl
none_at (suc n) (suc m) = none_at n m

nothing_at : (marked : Marked) (n m : ℕ) → marked.table ≡ replicate n false → marked.beyond ≡ [] → falses_of marked m ≡ false
nothing_at marked n m table beyond = elim (leb_tells (suc m) (length marked.table)) [
  | inl t ↦ in_table marked m t.1 ∙ (ap (λ (bs : List Bool). slice_index_or bs m false) table ∙ none_at n m)
  | inr t ↦ let above = t.1 in past_table marked m (omega arith) ∙ ap (λ (ks : List ℕ). list_any (λ other. m == other) ks) beyond
]

-- no literal is false
pub nothing_false : (marked : Marked) (n : ℕ) → marked.table ≡ replicate n false → marked.beyond ≡ [] → falses_of marked ≡ (λ _. false)
nothing_false marked n table beyond = fun_ext (λ m. nothing_at marked n m table beyond)

-- what a stamp says of its literal
pub marked_by : (now : ℕ) (stamps : List ℕ) (k s : ℕ) → k < length stamps → s ≡ get_or stamps k s → slice_index_or (map (λ (s : ℕ). s == now) stamps) k false ≡ (s == now)
marked_by now [] k s lt is = absurd (omega arith)
marked_by now (x ∷ stamps) zero s lt is = ap (λ n. n == now) (sym is)
marked_by now (x ∷ stamps) (suc k) s lt is = marked_by now stamps k s (omega arith) is

-- the opposite is over the same variables
pub opposite-lt : (lit vars : ℕ) → lit < 2 * vars → opposite lit < 2 * vars
opposite-lt lit vars lt = elim (cases_Bool (lit % 2 == 0)) [
  | inl even ↦
      let is : lit % 2 ≡ 0 = eqb-true _ _ even in
      let whole = div-add-mod lit 2 in
      rw even (omega arith)
  | inr odd ↦ rw odd (omega arith)
]

map_same : (now n : ℕ) → 1 ≤ now → map (λ (s : ℕ). s == now) (replicate n 0) ≡ replicate n false
map_same now zero le = refl
map_same now (suc n) le = ap₂ (λ (b : Bool) (bs : List Bool). b ∷ bs) (eqb-false 0 now (λ e. omega arith)) (map_same now n le)

take_none : (n : ℕ) → ◌++◌ {A = ℕ} (take n []) (replicate n 0) ≡ replicate n 0
take_none zero = refl
take_none (suc n) = refl

-- stamps that were counted on, written anew, and just made
pub counted_on : (now : ℕ) (stamps : List ℕ) (marked : List Bool) → map (λ (s : ℕ). s == now) stamps ≡ marked → All (λ (s : ℕ). s ≤ now) stamps
    → map (λ (s : ℕ). s == now + 1) stamps ≡ replicate (length marked) false
counted_on now stamps marked is past =
    let len : length marked ≡ length stamps = sym (ap length is) ∙ length-map stamps (λ (s : ℕ). s == now) in
    rw len (none_marked now (now + 1) stamps (omega arith) past)

pub written_anew : (now : ℕ) (stamps filled : List ℕ) (marked : List Bool) → map (λ (s : ℕ). s == now) stamps ≡ marked
    → filled ≡ replicate (length stamps) 0 → map (λ (s : ℕ). s == 1) filled ≡ replicate (length marked) false
written_anew now stamps filled marked is fill =
    let len : length marked ≡ length stamps = sym (ap length is) ∙ length-map stamps (λ (s : ℕ). s == now) in
    rw (len, fill) (map_same 1 (length stamps) (omega arith))

pub just_made : (n len : ℕ) (old items : List ℕ) → old ≡ [] → len ≡ 0 → items ≡ take n old ++ replicate (n - len) 0
    → map (λ (s : ℕ). s == 1) items ≡ replicate n false
just_made n len old items none no_len is =
    let size : n - len ≡ n = omega arith in
    rw (is, none, size) (ap (map (λ (s : ℕ). s == 1)) (take_none n) ∙ map_same 1 n (omega arith))

pub stamped : (now : ℕ) (stamps beyond : List ℕ) (k : ℕ) → k < length (map (λ (s : ℕ). s == now) stamps)
    → falses_of (record { table = map (λ (s : ℕ). s == now) (set stamps k now); beyond = beyond })
    ≡ makes_false (falses_of (record { table = map (λ (s : ℕ). s == now) stamps; beyond = beyond })) k
stamped now stamps beyond k lt =
    ap (λ (t : List Bool). falses_of (record { table = t; beyond = beyond })) (one_marked now stamps k) ∙ table_falses (map (λ (s : ℕ). s == now) stamps) beyond k lt

turned : (q k : ℕ) (b : Bool) → cond (k == q) true b ≡ ((q == k) || b)
turned q k b = elim (cases_Bool (q == k)) [
  | inl e ↦ rw (e, eq-eqb k q (sym (eqb-true q k e))) refl
  | inr e ↦ rw (e, eqb-false k q (λ s. apart q k e (sym s))) refl
]

cmp_eq : (a b : ℕ) → is_eq (nat_cmp a b) ≡ (a == b)
cmp_eq a b = elim (leb_tells (suc a) b) [
  | inl t ↦ let lt = t.1 in rw (← nat_cmp_is a b Less lt, eqb-false a b (λ e. omega arith)) refl
  | inr t ↦ elim (leb_tells (suc b) a) [
    | inl u ↦ let gt = u.1 in rw (← nat_cmp_is a b Greater gt, eqb-false a b (λ e. omega arith)) refl
    | inr u ↦ let le = t.1 in let ge = u.1 in let same : a ≡ b = omega arith in rw (← nat_cmp_is a b Equal same, eq-eqb a b same) refl
  ]
]

-- whether a set has a number
pub has_number : (keys : List ℕ) (q : ℕ) → list_any (λ other. is_eq (nat_cmp q other)) keys ≡ list_any (λ other. q == other) keys
has_number keys q = ap (λ (f : ℕ → Bool). list_any f keys) (fun_ext (λ other. cmp_eq q other))

-- what an insertion into a set changes
pub inserted : (old new : List ℕ) (k : ℕ)
    → ((q : ℕ) → list_any (λ other. is_eq (nat_cmp q other)) new ≡ cond (is_eq (nat_cmp k q)) true (list_any (λ other. is_eq (nat_cmp q other)) old))
    → (q : ℕ) → list_any (λ other. q == other) new ≡ ((q == k) || list_any (λ other. q == other) old)
inserted old new k is q =
    sym (has_number new q) ∙ (is q ∙ (ap (λ b. cond b true (list_any (λ other. is_eq (nat_cmp q other)) old)) (cmp_eq k q)
    ∙ (turned q k _ ∙ ap (λ b. (q == k) || b) (has_number old q))))
