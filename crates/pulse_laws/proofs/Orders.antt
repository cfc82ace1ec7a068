-- The order within the lists of a run has no meaning: what is clean, and what an output shows, asks for none.
use Rattle.std.proofs.Common.{◌≡◌, ◌≢◌, ◌⊎◌, inl, inr, ℕ, ◌<◌, Bool, ℤ, List, [], ◌∷◌, length, get_or, refl, ap, ◌∙◌, arith}
use Rattle.std.specs.Prelude.{IsPermutation}
use Rattle.std.specs.List.{AllPairs, flat_map, swap}
use Rattle.std.proofs.lemmas.Bool.{cases_eq, cases_order}
use Rattle.std.proofs.lemmas.List.Sorted.{IsPermutation-refl, IsPermutation-append, IsPermutation-keeps, All-permutation, list_any-IsPermutation}
use Rattle.std.proofs.lemmas.List.Edits.{Swapped, swapped_from_swap, length-swap}
use Rattle.rsfq_ids.specs.declared.circuit.Strobe.{Strobe}
use Rattle.rsfq_ids.specs.Design.{Design}
use Rattle.rsfq_ids.specs.Time.{IsNear, IsInZone}
use Rattle.rsfq_ids.specs.Bench.{strobe_time}
use Rattle.rsfq_ids.specs.Run.{IsClean, AvoidZone, times_of, stream_bit}

-- ---- pairs of a list in another order

-- which place the item at a place had before two were swapped
abbrev Moves : ℕ → ℕ → ℕ → ℕ → Type 0
Moves a b i x = ((i ≡ a) × (x ≡ b)) ⊎ ((i ≢ a) × (i ≡ b) × (x ≡ a)) ⊎ ((i ≢ a) × (i ≢ b) × (x ≡ i))

one_place : (a b i j x y : ℕ) → Moves a b i x → Moves a b j y → x ≡ y → i ≡ j
one_place a b i j x y (inl (ia, xb)) (inl (ja, yb)) same = omega arith
one_place a b i j x y (inl (ia, xb)) (inr (inl (na, jb, ya))) same = absurd (na (omega arith))
one_place a b i j x y (inl (ia, xb)) (inr (inr (na, nb, yj))) same = absurd (nb (omega arith))
one_place a b i j x y (inr (inl (na, ib, xa))) (inl (ja, yb)) same = absurd (na (omega arith))
one_place a b i j x y (inr (inl (na, ib, xa))) (inr (inl (na', jb, ya))) same = omega arith
one_place a b i j x y (inr (inl (na, ib, xa))) (inr (inr (na', nb, yj))) same = absurd (na' (omega arith))
one_place a b i j x y (inr (inr (na, nb, xi))) (inl (ja, yb)) same = absurd (nb (omega arith))
one_place a b i j x y (inr (inr (na, nb, xi))) (inr (inl (na', jb, ya))) same = absurd (na (omega arith))
one_place a b i j x y (inr (inr (na, nb, xi))) (inr (inr (na', nb', yj))) same = omega arith

module _ (R : ℤ → ℤ → Type 0) (turned : (s t : ℤ) → R s t → R t s) where
  -- any two places
  any_two : (xs : List ℤ) → AllPairs R xs → (i j : ℕ) (d : ℤ) → i ≢ j → i < length xs → j < length xs → R (get_or xs i d) (get_or xs j d)
  any_two xs pairs i j d other l m = elim (cases_order i j) [
    | inl e ↦ absurd (other e)
    | inr (inl below) ↦ pairs i j d below m
    | inr (inr above) ↦ turned _ _ (pairs j i d above l)
  ]

  -- where the item at a place comes from
  came : (xs ys : List ℤ) (a b : ℕ) (d : ℤ) → a < length xs → b < length xs → Swapped (λ i. get_or xs i d) (λ i. get_or ys i d) a b → (i : ℕ) → i < length xs → (x : ℕ) × (x < length xs) × (get_or ys i d ≡ get_or xs x d) × Moves a b i x
  came xs ys a b d al bl (at_a, at_b, at_others) i l = elim (cases_eq i a) [
    | inl ia ↦ (b, bl, ap (λ (k : ℕ). get_or ys k d) ia ∙ at_a, inl (ia, refl))
    | inr na ↦
        (elim (cases_eq i b) [
          | inl ib ↦ (a, al, ap (λ (k : ℕ). get_or ys k d) ib ∙ at_b, inr (inl (na, ib, refl)))
          | inr nb ↦ (i, l, at_others i na nb, inr (inr (na, nb, refl)))
        ])
  ]

  swapped : (xs : List ℤ) (a b : ℕ) → a < length xs → b < length xs → AllPairs R xs → AllPairs R (swap xs a b)
  swapped xs a b al bl pairs i j d below l =
      let same : length (swap xs a b) ≡ length xs = length-swap xs a b in
      let moved = swapped_from_swap xs (swap xs a b) a b d al bl refl in
      let one = came xs (swap xs a b) a b d al bl moved i (omega arith) in
      let two = came xs (swap xs a b) a b d al bl moved j (omega arith) in
      rw (one.2, two.2) (any_two xs pairs one.0 two.0 d (λ e. let f = one_place a b i j one.0 two.0 one.3 two.3 e in absurd (omega arith)) one.1 two.1)

  pub pairs_permuted : (xs ys : List ℤ) → IsPermutation xs ys → AllPairs R xs → AllPairs R ys
  pairs_permuted xs ys permuted pairs = IsPermutation-keeps xs (AllPairs R) pairs swapped ys permuted

far_turned : (dead s t : ℤ) → ¬ IsNear dead s t → ¬ IsNear dead t s
far_turned dead s t far near = far (record { before = near.after; after = near.before })

-- ---- runs

module _ (p q : List (List ℤ)) (same : (net : ℕ) → IsPermutation (times_of p net) (times_of q net)) where
  joined : (nets : List ℕ) → IsPermutation (flat_map (times_of p) nets) (flat_map (times_of q) nets)
  joined [] = IsPermutation-refl []
  joined (net ∷ nets) = IsPermutation-append (times_of p net) (times_of q net) (flat_map (times_of p) nets) (flat_map (times_of q) nets) (same net) (joined nets)

  pub clean_over : (design : Design) (words : List (List Bool)) (clocks : ℕ) (tick : ℕ → ℤ) → IsClean design (record { words = words; clocks = clocks; tick = tick; pulses = p }) → IsClean design (record { words = words; clocks = clocks; tick = tick; pulses = q })
  clean_over design words clocks tick clean = record {
    passives = λ cell row nets of passive inputs. pairs_permuted (λ s t. ¬ IsNear row.dead s t) (far_turned row.dead) _ _ (joined nets) (clean.passives cell row nets of passive inputs);
    clocks = λ cell row clock of gate reads. pairs_permuted (λ s t. ¬ IsNear row.dead s t) (far_turned row.dead) _ _ (same clock) (clean.clocks cell row clock of gate reads);
    windows = λ cell row pin net clock of gate input reads clock_reads.
        All-permutation (λ at. AvoidZone row.setup row.hold at (times_of q net)) (times_of p clock) (times_of q clock) (same clock)
        (λ i d l. All-permutation (λ time. ¬ IsInZone row.setup row.hold (get_or (times_of p clock) i d) time) (times_of p net) (times_of q net) (same net) (clean.windows cell row pin net clock of gate input reads clock_reads i d l));
    strobes = λ port strobe net used reads k.
        All-permutation (λ time. ¬ IsInZone strobe.setup strobe.hold (strobe_time strobe tick k) time) (times_of p net) (times_of q net) (same net) (clean.strobes port strobe net used reads k);
  }

  pub stream_over : (strobe : Strobe) (tick : ℕ → ℤ) (k net : ℕ) → stream_bit strobe tick k (times_of p net) ≡ stream_bit strobe tick k (times_of q net)
  stream_over strobe tick k net = list_any-IsPermutation _ (times_of p net) (times_of q net) (same net)
