-- A circuit has one limit at most that is passed first.
use Rattle.std.proofs.Common.{◌≡◌, ◌≢◌, ◌⊎◌, inl, inr, ℕ, suc, ◌+◌, ◌<◌, ◌≤◌, List, [], ◌∷◌, ◌++◌, length, sum, refl, sym, ap, ◌∙◌, subst, arith}
use Rattle.std.proofs.lemmas.List.Sums.{sum_by-cons}
use Rattle.std.specs.List.{All, AllZip}
use Rattle.rsfq_ids.specs.declared.limits.TheConstants.{PIN_LANE_LIMIT, LANE_LIMIT}
use Rattle.rsfq_ids.specs.declared.circuit.Reader.{Reader}
use Rattle.rsfq_ids.specs.declared.offence.PathArc.{PathArc}
use Rattle.rsfq_ids.specs.Design.{Design}
use Rattle.rsfq_ids.specs.Circuit.{IsPin}
use Rattle.net_graph.specs.Graph.{IsWired}
use Rattle.lane_forest.specs.declared.fault.LaneFault.{LaneFault}
use Rattle.lane_forest.specs.declared.fault.LaneFault.TheVariants as fault
use Rattle.lane_forest.specs.Paths.{ArePathsTo, HasPaths, IsCountedUpTo}
use Rattle.lane_forest.specs.Faults.{IsLaneFault}
use Rattle.lane_forest.proofs.Unique.{paths_are_one}

module _ (design : Design) (wired : IsWired design.table design.flat) where
  -- the number of paths to a reader is one
  count_one : (at : Reader) (n m : ℕ) → HasPaths design at n → HasPaths design at m → n ≡ m
  count_one at n m one two =
      let nets : one.net ≡ two.net = wired.numbered.one_read at one.net two.net one.reads two.reads in
      let lists : one.paths ≡ two.paths = paths_are_one design two.net one.paths two.paths (subst (λ (net : ℕ). ArePathsTo design net one.paths) nets one.are) two.are in
      sym one.many ∙ ap (λ (xs : List (List PathArc)). length xs) lists ∙ two.many

  -- a reader that stands before a place up to which so many paths are counted
  abbrev Stands : Reader → ℕ → ℕ → Type 0
  Stands at earlier later = (count : ℕ) × HasPaths design at count × (count ≤ PIN_LANE_LIMIT) × (earlier + count ≤ later)

  -- of two places of one list, they are one, or one stands before the other
  places : (before others behind rest : List Reader) (at by : Reader) (counts more : List ℕ) → before ++ at ∷ behind ≡ others ++ by ∷ rest → AllZip (HasPaths design) before counts → AllZip (HasPaths design) others more → All (λ n. n ≤ PIN_LANE_LIMIT) counts → All (λ n. n ≤ PIN_LANE_LIMIT) more →
      ((at ≡ by) × (sum counts ≡ sum more)) ⊎ (Stands at (sum counts) (sum more) ⊎ Stands by (sum more) (sum counts))
  places [] [] behind rest at by [] [] e a b few low = inl (cc, refl)
  places [] [] behind rest at by [] (d ∷ more) e a b few low = absurd b
  places [] [] behind rest at by (c ∷ counts) more e a b few low = absurd a
  places [] (y ∷ others) behind rest at by [] [] e a b few low = absurd b
  places [] (y ∷ others) behind rest at by [] (d ∷ more) e a b few low =
      let same : y ≡ at = cc in
      let s = sum_by-cons (λ (n : ℕ). n) d more in inr (inl (d, subst (λ (r : Reader). HasPaths design r d) same b.0, low 0 0 (omega arith), omega arith))
  places [] (y ∷ others) behind rest at by (c ∷ counts) more e a b few low = absurd a
  places (x ∷ before) [] behind rest at by [] more e a b few low = absurd a
  places (x ∷ before) [] behind rest at by (c ∷ counts) [] e a b few low =
      let same : x ≡ by = cc in
      let s = sum_by-cons (λ (n : ℕ). n) c counts in inr (inr (c, subst (λ (r : Reader). HasPaths design r c) same a.0, few 0 0 (omega arith), omega arith))
  places (x ∷ before) [] behind rest at by (c ∷ counts) (d ∷ more) e a b few low = absurd b
  places (x ∷ before) (y ∷ others) behind rest at by [] more e a b few low = absurd a
  places (x ∷ before) (y ∷ others) behind rest at by (c ∷ counts) [] e a b few low = absurd b
  places (x ∷ before) (y ∷ others) behind rest at by (c ∷ counts) (d ∷ more) e a b few low =
      let same : x ≡ y = cc in
      let tails : before ++ at ∷ behind ≡ others ++ by ∷ rest = cc in
      let one : c ≡ d = count_one y c d (subst (λ (r : Reader). HasPaths design r c) same a.0) b.0 in
      let s = sum_by-cons (λ (n : ℕ). n) c counts in
      let t = sum_by-cons (λ (n : ℕ). n) d more in
      elim (places before others behind rest at by counts more tails a.1 b.1 (λ k z l. few (suc k) z (omega arith)) (λ k z l. low (suc k) z (omega arith))) [
        | inl (here, sums) ↦ inl (here, omega arith)
        | inr (inl (n, has, small, fits)) ↦ inr (inl (n, has, small, omega arith))
        | inr (inr (n, has, small, fits)) ↦ inr (inr (n, has, small, omega arith))
      ]

  module _ (order : List ℕ) where
    counted_one : (at by : Reader) (earlier later n m : ℕ) → IsCountedUpTo design order at earlier n → IsCountedUpTo design order by later m → ((at ≡ by) × (n ≡ m) × (earlier ≡ later)) ⊎ (Stands at earlier later ⊎ Stands by later earlier)
    counted_one at by earlier later n m one two =
        let s = one.earlier_is in
        let t = two.earlier_is in
        elim (places one.before two.before one.behind two.behind at by one.counts two.counts (sym one.parts ∙ two.parts) one.counted two.counted one.few two.few) [
          | inl (same, sums) ↦ inl (same, count_one by n m (subst (λ (r : Reader). HasPaths design r n) same one.here) two.here, s ∙ sums ∙ sym t)
          | inr (inl (k, has, small, fits)) ↦ inr (inl (k, has, small, omega arith))
          | inr (inr (k, has, small, fits)) ↦ inr (inr (k, has, small, omega arith))
        ]

    -- where a limit is passed, nothing is counted further
    ends : (at : Reader) (earlier later n : ℕ) → IsCountedUpTo design order at earlier n → (PIN_LANE_LIMIT < n) ⊎ (LANE_LIMIT < earlier + n) → later ≤ LANE_LIMIT → Stands at earlier later → ⊥
    ends at earlier later n is (inl many) within (k, has, small, fits) = let e : n ≡ k = count_one at n k is.here has in omega arith
    ends at earlier later n is (inr many) within (k, has, small, fits) = let e : n ≡ k = count_one at n k is.here has in omega arith

    pub fault_one : (one other : LaneFault) → IsLaneFault design order one → IsLaneFault design order other → one ≢ fault.Memory → other ≢ fault.Memory → one ≡ other
    fault_one (fault.Pin p n) (fault.Pin q m) a b some more = elim (counted_one a.at b.at a.earlier b.earlier n m a.reached b.reached) [
      | inl (same, counts, sums) ↦ (let pins : p ≡ q = wired.one_pin b.at p q a.net b.net (subst (λ (r : Reader). IsPin design.flat p r a.net) same a.pin_is) b.pin_is in cc)
      | inr (inl stands) ↦ absurd (ends a.at a.earlier b.earlier n a.reached (inl a.many) b.reached.small stands)
      | inr (inr stands) ↦ absurd (ends b.at b.earlier a.earlier m b.reached (inl b.many) a.reached.small stands)
    ]
    fault_one (fault.Pin p n) (fault.Total total) a b some more =
        let many = b.many in
        let is = b.total_is in
        let few = b.few in
        let above = a.many in
        elim (counted_one a.at b.at a.earlier b.earlier n b.count a.reached b.reached) [
          | inl (same, counts, sums) ↦ absurd (omega arith)
          | inr (inl stands) ↦ absurd (ends a.at a.earlier b.earlier n a.reached (inl a.many) b.reached.small stands)
          | inr (inr stands) ↦ absurd (ends b.at b.earlier a.earlier b.count b.reached (inr (omega arith)) a.reached.small stands)
        ]
    fault_one (fault.Pin p n) fault.Memory a b some more = absurd (more refl)
    fault_one (fault.Total total) (fault.Pin q m) a b some more =
        let many = a.many in
        let is = a.total_is in
        let few = a.few in
        let above = b.many in
        elim (counted_one a.at b.at a.earlier b.earlier a.count m a.reached b.reached) [
          | inl (same, counts, sums) ↦ absurd (omega arith)
          | inr (inl stands) ↦ absurd (ends a.at a.earlier b.earlier a.count a.reached (inr (omega arith)) b.reached.small stands)
          | inr (inr stands) ↦ absurd (ends b.at b.earlier a.earlier m b.reached (inl b.many) a.reached.small stands)
        ]
    fault_one (fault.Total total) (fault.Total count) a b some more =
        let many = a.many in
        let is = a.total_is in
        let many' = b.many in
        let is' = b.total_is in
        elim (counted_one a.at b.at a.earlier b.earlier a.count b.count a.reached b.reached) [
          | inl (same, counts, sums) ↦ (let totals : total ≡ count = omega arith in cc)
          | inr (inl stands) ↦ absurd (ends a.at a.earlier b.earlier a.count a.reached (inr (omega arith)) b.reached.small stands)
          | inr (inr stands) ↦ absurd (ends b.at b.earlier a.earlier b.count b.reached (inr (omega arith)) a.reached.small stands)
        ]
    fault_one (fault.Total total) fault.Memory a b some more = absurd (more refl)
    fault_one fault.Memory other a b some more = absurd (some refl)
