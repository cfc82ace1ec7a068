-- Delays that are raised and lowered in order, and the one choice of them that has a difference.
use Rattle.std.proofs.Common.{◌≡◌, ◌⊎◌, ℕ, zero, suc, ◌+◌, ◌-◌, ◌*◌, ◌<◌, ◌≤◌, ℤ, pos, ◌+ℤ◌, ◌-ℤ◌, ◌≤ℤ◌, ◌<ℤ◌, List, [], ◌∷◌, ◌++◌, length, map, take, drop, get_or, refl, sym, ap, ◌∙◌, subst, arith, inl, inr, append_assoc}
use Rattle.std.proofs.lemmas.Int.{ints, clamps, by_lt_z}
use Rattle.std.proofs.lemmas.List.{take_more, take_all, drop_all, map-append, length-map, length-drop, length-take-le, take-append-drop}
use Rattle.std.proofs.lemmas.List.Elements.{All-drop, All-take}
use Rattle.std.proofs.Math.Seq.{take-append_seam, drop-append_seam, drop-cons}
use Rattle.std.specs.Int.{int_min}
use Rattle.std.specs.List.{All, AllZip}
use Rattle.rsfq_ids.specs.Time.{IsWithin, total}
use Rattle.pulse_pairs.specs.declared.meeting.Interval.{Interval}
use Rattle.pulse_pairs.specs.Choice.{IsArc, AreLaneIntervals, MayTake, IsLeast, IsGreatest, ShareArcs, AreDelaysTogether, IsArcSpread, AreRaised, AreLowered, AreChosen, IsSplit, SpreadsAreExact, ChoicesAreOne, SharedIsNarrower, least_sum, greatest_sum, raise, lower}

pub total-append : (ds es : List ℤ) → total (ds ++ es) ≡ (total ds +ℤ total es)
total-append [] es = omega (arith, ints)
total-append (d ∷ ds) es = let more = total-append ds es in omega (arith, ints)

abbrev pub lows : List Interval → List ℤ
lows arcs = map (λ arc. arc.low) arcs

abbrev pub highs : List Interval → List ℤ
highs arcs = map (λ arc. arc.high) arcs

-- arcs one by one
abbrev pub AreArcs : List Interval → Type 0
AreArcs [] = Unit {0}
AreArcs (arc ∷ arcs) = IsArc arc × AreArcs arcs

pub are_arcs : (arcs : List Interval) → All IsArc arcs → AreArcs arcs
are_arcs [] all = tt
are_arcs (arc ∷ arcs) all = (all 0 arc (omega arith), are_arcs arcs (λ k d l. all (suc k) d (omega arith)))

-- ---- sums that are added up in a loop

pub record IsSumming (f : Interval → ℤ) (arcs : List Interval) (i : ℕ) (sum : ℤ) : Type 0 where
  pub value : sum ≡ total (map f (take i arcs))
  pub natural : pos 0 ≤ℤ sum
  pub small : sum ≤ℤ pos (i * 1000000000)

pub sum_more : (f : Interval → ℤ) (arcs : List Interval) (i : ℕ) (sum more : ℤ) (d : Interval) → IsSumming f arcs i sum → i < length arcs → pos 0 ≤ℤ f (get_or arcs i d) → f (get_or arcs i d) ≤ℤ pos 1000000000 → more ≡ (sum +ℤ f (get_or arcs i d)) → IsSumming f arcs (i + 1) more
sum_more f arcs i sum more d summing l natural most step =
    let here = take_more arcs i d l in
    let parts = map-append f (take i arcs) (get_or arcs i d ∷ []) in
    let sums = total-append (map f (take i arcs)) (f (get_or arcs i d) ∷ []) in
    let whole : total (map f (take (i + 1) arcs)) ≡ total (map f (take i arcs) ++ f (get_or arcs i d) ∷ []) = ap (λ (xs : List Interval). total (map f xs)) here ∙ ap total parts in
    let value = summing.value in
    let from = summing.natural in
    let to = summing.small in
    record { value = omega (arith, ints); natural = omega (arith, ints); small = omega (arith, ints) }

pub sum_whole : (f : Interval → ℤ) (arcs : List Interval) (i : ℕ) (sum : ℤ) → IsSumming f arcs i sum → length arcs ≤ i → sum ≡ total (map f arcs)
sum_whole f arcs i sum summing end = summing.value ∙ ap (λ (xs : List Interval). total (map f xs)) (take_all i arcs end)

-- ---- sums of least and of greatest delays

pub sums_order : (arcs : List Interval) → AreArcs arcs → (pos 0 ≤ℤ least_sum arcs) × (least_sum arcs ≤ℤ greatest_sum arcs) × (greatest_sum arcs ≤ℤ pos (length arcs * 1000000000))
sums_order [] fit = (omega (arith, ints), omega (arith, ints), omega (arith, ints))
sums_order (arc ∷ arcs) (here, fit) =
    let (a, b, c) = sums_order arcs fit in
    let d = here.natural in
    let e = here.order in
    let f = here.most in
    (omega (arith, ints), omega (arith, ints), omega (arith, ints))

pub totals_within : (arcs : List Interval) (ds : List ℤ) → AllZip MayTake arcs ds → IsWithin (least_sum arcs) (greatest_sum arcs) (total ds)
totals_within [] [] may = record { from = omega (arith, ints); to = omega (arith, ints) }
totals_within [] (d ∷ ds) may = absurd may
totals_within (arc ∷ arcs) [] may = absurd may
totals_within (arc ∷ arcs) (d ∷ ds) (here, rest) =
    let more = totals_within arcs ds rest in
    let a = here.from in
    let b = here.to in
    let c = more.from in
    let e = more.to in
    record { from = omega (arith, ints); to = omega (arith, ints) }

pub least_is : (arcs : List Interval) (ds : List ℤ) → AllZip IsLeast arcs ds → ds ≡ lows arcs
least_is [] [] zip = refl
least_is [] (d ∷ ds) zip = absurd zip
least_is (arc ∷ arcs) [] zip = absurd zip
least_is (arc ∷ arcs) (d ∷ ds) (here, rest) = let more = least_is arcs ds rest in cc

pub greatest_is : (arcs : List Interval) (ds : List ℤ) → AllZip IsGreatest arcs ds → ds ≡ highs arcs
greatest_is [] [] zip = refl
greatest_is [] (d ∷ ds) zip = absurd zip
greatest_is (arc ∷ arcs) [] zip = absurd zip
greatest_is (arc ∷ arcs) (d ∷ ds) (here, rest) = let more = greatest_is arcs ds rest in cc

pub are_least : (arcs : List Interval) → AllZip IsLeast arcs (lows arcs)
are_least [] = tt
are_least (arc ∷ arcs) = (refl, are_least arcs)

pub are_greatest : (arcs : List Interval) → AllZip IsGreatest arcs (highs arcs)
are_greatest [] = tt
are_greatest (arc ∷ arcs) = (refl, are_greatest arcs)

pub least_may : (arcs : List Interval) → AreArcs arcs → AllZip MayTake arcs (lows arcs)
least_may [] fit = tt
least_may (arc ∷ arcs) (here, fit) = (record { from = omega (arith, ints); to = here.order }, least_may arcs fit)

-- ---- raised

pub raise_may : (spare : ℤ) (arcs : List Interval) → AreArcs arcs → pos 0 ≤ℤ spare → AllZip MayTake arcs (raise spare arcs)
raise_may spare [] fit l = tt
raise_may spare (arc ∷ arcs) (here, fit) l =
    let order = here.order in
    (record { from = omega (arith, ints, clamps); to = omega (arith, ints, clamps) }, raise_may (spare -ℤ int_min spare (arc.high -ℤ arc.low)) arcs fit (omega (arith, ints, clamps)))

raise_zero : (spare : ℤ) (arcs : List Interval) → AreArcs arcs → spare ≡ pos 0 → raise spare arcs ≡ lows arcs
raise_zero spare [] fit none = refl
raise_zero spare (arc ∷ arcs) (here, fit) none =
    let order = here.order in
    let e : (arc.low +ℤ int_min spare (arc.high -ℤ arc.low)) ≡ arc.low = omega (arith, ints, clamps) in
    let more = raise_zero (spare -ℤ int_min spare (arc.high -ℤ arc.low)) arcs fit (omega (arith, ints, clamps)) in cc

pub raise_total : (spare : ℤ) (arcs : List Interval) → AreArcs arcs → pos 0 ≤ℤ spare → (least_sum arcs +ℤ spare) ≤ℤ greatest_sum arcs → total (raise spare arcs) ≡ (least_sum arcs +ℤ spare)
raise_total spare [] fit l h = omega (arith, ints)
raise_total spare (arc ∷ arcs) (here, fit) l h =
    let order = here.order in
    let (a, b, c) = sums_order arcs fit in
    let more = raise_total (spare -ℤ int_min spare (arc.high -ℤ arc.low)) arcs fit (omega (arith, ints, clamps)) (omega (arith, ints, clamps)) in
    omega (arith, ints)

pub raise_raised : (spare : ℤ) (arcs : List Interval) → AreArcs arcs → pos 0 ≤ℤ spare → AreRaised arcs (raise spare arcs)
raise_raised spare [] fit l = tt
raise_raised spare (arc ∷ arcs) (here, fit) l = (
  by_lt_z spare (arc.high -ℤ arc.low)
      (λ less.
      (let e : (spare -ℤ int_min spare (arc.high -ℤ arc.low)) ≡ pos 0 = omega (arith, ints, clamps) in
      inr (subst (λ (ds : List ℤ). AllZip IsLeast arcs ds) (sym (raise_zero (spare -ℤ int_min spare (arc.high -ℤ arc.low)) arcs fit e)) (are_least arcs))))
      (λ most. inl (omega (arith, ints, clamps))),
  raise_raised (spare -ℤ int_min spare (arc.high -ℤ arc.low)) arcs fit (let order = here.order in omega (arith, ints, clamps)),
)

pub raise_full : (spare : ℤ) (arcs : List Interval) → AreArcs arcs → greatest_sum arcs ≤ℤ (least_sum arcs +ℤ spare) → raise spare arcs ≡ highs arcs
raise_full spare [] fit l = refl
raise_full spare (arc ∷ arcs) (here, fit) l =
    let order = here.order in
    let (a, b, c) = sums_order arcs fit in
    let e : (arc.low +ℤ int_min spare (arc.high -ℤ arc.low)) ≡ arc.high = omega (arith, ints, clamps) in
    let more = raise_full (spare -ℤ int_min spare (arc.high -ℤ arc.low)) arcs fit (omega (arith, ints, clamps)) in cc

-- delays that are raised in order are those that are raised by their sum
pub raised_is : (arcs : List Interval) (ds : List ℤ) (spare : ℤ) → AreArcs arcs → AllZip MayTake arcs ds → AreRaised arcs ds → spare ≡ (total ds -ℤ least_sum arcs) → ds ≡ raise spare arcs
raised_is [] [] spare fit may raised is = refl
raised_is [] (d ∷ ds) spare fit may raised is = absurd may
raised_is (arc ∷ arcs) [] spare fit may raised is = absurd may
raised_is (arc ∷ arcs) (d ∷ ds) spare (here, fit) (takes, may) (first, raised) is =
    let more = totals_within arcs ds may in
    let order = here.order in
    let a = takes.from in
    let b = takes.to in
    let c = more.from in
    elim first [
      | inl high ↦
          (let e : d ≡ (arc.low +ℤ int_min spare (arc.high -ℤ arc.low)) = omega (arith, ints, clamps) in
          let rest = raised_is arcs ds (spare -ℤ int_min spare (arc.high -ℤ arc.low)) fit may raised (omega (arith, ints, clamps)) in cc)
      | inr least ↦
          (let same : total ds ≡ least_sum arcs = ap total (least_is arcs ds least) in
          let e : d ≡ (arc.low +ℤ int_min spare (arc.high -ℤ arc.low)) = omega (arith, ints, clamps) in
          let rest = raised_is arcs ds (spare -ℤ int_min spare (arc.high -ℤ arc.low)) fit may raised (omega (arith, ints, clamps)) in cc)
    ]

-- ---- lowered

pub lower_may : (spare : ℤ) (arcs : List Interval) → AreArcs arcs → pos 0 ≤ℤ spare → AllZip MayTake arcs (lower spare arcs)
lower_may spare [] fit l = tt
lower_may spare (arc ∷ arcs) (here, fit) l =
    let order = here.order in
    (record { from = omega (arith, ints, clamps); to = omega (arith, ints, clamps) }, lower_may (spare -ℤ int_min spare (arc.high -ℤ arc.low)) arcs fit (omega (arith, ints, clamps)))

pub lower_zero : (spare : ℤ) (arcs : List Interval) → AreArcs arcs → spare ≡ pos 0 → lower spare arcs ≡ highs arcs
lower_zero spare [] fit none = refl
lower_zero spare (arc ∷ arcs) (here, fit) none =
    let order = here.order in
    let e : (arc.high -ℤ int_min spare (arc.high -ℤ arc.low)) ≡ arc.high = omega (arith, ints, clamps) in
    let more = lower_zero (spare -ℤ int_min spare (arc.high -ℤ arc.low)) arcs fit (omega (arith, ints, clamps)) in cc

pub lower_total : (spare : ℤ) (arcs : List Interval) → AreArcs arcs → pos 0 ≤ℤ spare → least_sum arcs ≤ℤ (greatest_sum arcs -ℤ spare) → total (lower spare arcs) ≡ (greatest_sum arcs -ℤ spare)
lower_total spare [] fit l h = omega (arith, ints)
lower_total spare (arc ∷ arcs) (here, fit) l h =
    let order = here.order in
    let (a, b, c) = sums_order arcs fit in
    let more = lower_total (spare -ℤ int_min spare (arc.high -ℤ arc.low)) arcs fit (omega (arith, ints, clamps)) (omega (arith, ints, clamps)) in
    omega (arith, ints)

pub lower_lowered : (spare : ℤ) (arcs : List Interval) → AreArcs arcs → pos 0 ≤ℤ spare → AreLowered arcs (lower spare arcs)
lower_lowered spare [] fit l = tt
lower_lowered spare (arc ∷ arcs) (here, fit) l = (
  by_lt_z spare (arc.high -ℤ arc.low)
      (λ less.
      (let e : (spare -ℤ int_min spare (arc.high -ℤ arc.low)) ≡ pos 0 = omega (arith, ints, clamps) in
      inr (subst (λ (ds : List ℤ). AllZip IsGreatest arcs ds) (sym (lower_zero (spare -ℤ int_min spare (arc.high -ℤ arc.low)) arcs fit e)) (are_greatest arcs))))
      (λ most. inl (omega (arith, ints, clamps))),
  lower_lowered (spare -ℤ int_min spare (arc.high -ℤ arc.low)) arcs fit (let order = here.order in omega (arith, ints, clamps)),
)

pub lowered_is : (arcs : List Interval) (ds : List ℤ) (spare : ℤ) → AreArcs arcs → AllZip MayTake arcs ds → AreLowered arcs ds → spare ≡ (greatest_sum arcs -ℤ total ds) → ds ≡ lower spare arcs
lowered_is [] [] spare fit may lowered is = refl
lowered_is [] (d ∷ ds) spare fit may lowered is = absurd may
lowered_is (arc ∷ arcs) [] spare fit may lowered is = absurd may
lowered_is (arc ∷ arcs) (d ∷ ds) spare (here, fit) (takes, may) (first, lowered) is =
    let more = totals_within arcs ds may in
    let order = here.order in
    let a = takes.from in
    let b = takes.to in
    let c = more.to in
    elim first [
      | inl low ↦
          (let e : d ≡ (arc.high -ℤ int_min spare (arc.high -ℤ arc.low)) = omega (arith, ints, clamps) in
          let rest = lowered_is arcs ds (spare -ℤ int_min spare (arc.high -ℤ arc.low)) fit may lowered (omega (arith, ints, clamps)) in cc)
      | inr greatest ↦
          (let same : total ds ≡ greatest_sum arcs = ap total (greatest_is arcs ds greatest) in
          let e : d ≡ (arc.high -ℤ int_min spare (arc.high -ℤ arc.low)) = omega (arith, ints, clamps) in
          let rest = lowered_is arcs ds (spare -ℤ int_min spare (arc.high -ℤ arc.low)) fit may lowered (omega (arith, ints, clamps)) in cc)
    ]

-- ---- parts of lists

zip_length : {A B : Type 0} (R : A → B → Type 0) (xs : List A) (ys : List B) → AllZip R xs ys → length ys ≡ length xs
zip_length R [] [] zip = refl
zip_length R [] (y ∷ ys) zip = absurd zip
zip_length R (x ∷ xs) [] zip = absurd zip
zip_length R (x ∷ xs) (y ∷ ys) zip = ap suc (zip_length R xs ys zip.1)

zip_append : {A B : Type 0} (R : A → B → Type 0) (xs : List A) (ys : List B) (us : List A) (vs : List B) → AllZip R xs ys → AllZip R us vs → AllZip R (xs ++ us) (ys ++ vs)
zip_append R [] [] us vs one two = two
zip_append R [] (y ∷ ys) us vs one two = absurd one
zip_append R (x ∷ xs) [] us vs one two = absurd one
zip_append R (x ∷ xs) (y ∷ ys) us vs one two = (one.0, zip_append R xs ys us vs one.1 two)

zip_drop : {A B : Type 0} (R : A → B → Type 0) (n : ℕ) (xs : List A) (ys : List B) → AllZip R xs ys → AllZip R (drop n xs) (drop n ys)
zip_drop R zero xs ys zip = zip
zip_drop R (suc n) [] [] zip = tt
zip_drop R (suc n) [] (y ∷ ys) zip = absurd zip
zip_drop R (suc n) (x ∷ xs) [] zip = absurd zip
zip_drop R (suc n) (x ∷ xs) (y ∷ ys) zip = zip_drop R n xs ys zip.1

total_parts : (n : ℕ) (ds : List ℤ) → total ds ≡ (total (take n ds) +ℤ total (drop n ds))
total_parts n ds = sym (ap total (take-append-drop n ds)) ∙ total-append (take n ds) (drop n ds)

-- what two parts make
module _ (n : ℕ) (arcs : List Interval) (own : List ℤ) (within : n ≤ length arcs) where
  length_part : length (lows (take n arcs)) ≡ n
  length_part = length-map (take n arcs) (λ arc. arc.low) ∙ length-take-le n arcs within

  pub taken : take n (lows (take n arcs) ++ own) ≡ lows (take n arcs)
  taken = subst (λ (k : ℕ). take k (lows (take n arcs) ++ own) ≡ lows (take n arcs)) length_part (take-append_seam (lows (take n arcs)) own)

  pub dropped : drop n (lows (take n arcs) ++ own) ≡ own
  dropped = subst (λ (k : ℕ). drop k (lows (take n arcs) ++ own) ≡ own) length_part (drop-append_seam (lows (take n arcs)) own)

  pub parts_may : AreArcs (take n arcs) → AllZip MayTake (drop n arcs) own → AllZip MayTake arcs (lows (take n arcs) ++ own)
  parts_may fit may = subst (λ (xs : List Interval). AllZip MayTake xs (lows (take n arcs) ++ own)) (take-append-drop n arcs) (zip_append MayTake (take n arcs) (lows (take n arcs)) (drop n arcs) own (least_may (take n arcs) fit) may)

-- ---- the choice

module _ (shared : ℕ) (x y : List Interval) (first : AreLaneIntervals x) (second : AreLaneIntervals y) (share : ShareArcs shared x y) where
  own_arcs : AreArcs (drop shared x)
  own_arcs = are_arcs _ (All-drop IsArc shared x first.each)

  other_arcs : AreArcs (drop shared y)
  other_arcs = are_arcs _ (All-drop IsArc shared y second.each)

  same_lows : lows (take shared x) ≡ lows (take shared y)
  same_lows = ap (λ (xs : List Interval). lows xs) share.same

  -- the delays that are made for a difference
  pub made_choice : (difference spare raised : ℤ) (delays ends : List ℤ) → spare ≡ (difference -ℤ (least_sum (drop shared x) -ℤ greatest_sum (drop shared y))) → raised ≡ int_min spare (greatest_sum (drop shared x) -ℤ least_sum (drop shared x)) →
      pos 0 ≤ℤ spare → difference ≤ℤ (greatest_sum (drop shared x) -ℤ least_sum (drop shared y)) → delays ≡ lows (take shared x) ++ raise raised (drop shared x) → ends ≡ lows (take shared y) ++ lower (spare -ℤ raised) (drop shared y) → AreChosen shared x y difference delays ends
  made_choice difference spare raised delays ends spare_is raised_is natural reached delays_are ends_are =
      let (a, b, c) = sums_order (drop shared x) own_arcs in
      let (d, e, f) = sums_order (drop shared y) other_arcs in
      let low : pos 0 ≤ℤ raised = omega (arith, ints, clamps) in
      let rest : pos 0 ≤ℤ (spare -ℤ raised) = omega (arith, ints, clamps) in
      let up = raise_total raised (drop shared x) own_arcs low (omega (arith, ints, clamps)) in
      let down = lower_total (spare -ℤ raised) (drop shared y) other_arcs rest (omega (arith, ints, clamps)) in
      let total_first = ap total delays_are ∙ total-append (lows (take shared x)) (raise raised (drop shared x)) in
      let total_second = ap total ends_are ∙ total-append (lows (take shared y)) (lower (spare -ℤ raised) (drop shared y)) in
      let common = ap total same_lows in
      let taken_first : take shared delays ≡ lows (take shared x) = ap (λ (ds : List ℤ). take shared ds) delays_are ∙ taken shared x (raise raised (drop shared x)) share.first in
      let taken_second : take shared ends ≡ lows (take shared y) = ap (λ (ds : List ℤ). take shared ds) ends_are ∙ taken shared y (lower (spare -ℤ raised) (drop shared y)) share.second in
      let dropped_first : drop shared delays ≡ raise raised (drop shared x) = ap (λ (ds : List ℤ). drop shared ds) delays_are ∙ dropped shared x (raise raised (drop shared x)) share.first in
      let dropped_second : drop shared ends ≡ lower (spare -ℤ raised) (drop shared y) = ap (λ (ds : List ℤ). drop shared ds) ends_are ∙ dropped shared y (lower (spare -ℤ raised) (drop shared y)) share.second in
      let may_first : AllZip MayTake x delays = subst (λ (ds : List ℤ). AllZip MayTake x ds) (sym delays_are)
      (parts_may shared x (raise raised (drop shared x)) share.first (are_arcs _ (All-take IsArc shared x first.each)) (raise_may raised (drop shared x) own_arcs low)) in
      let may_second : AllZip MayTake y ends = subst (λ (ds : List ℤ). AllZip MayTake y ds) (sym ends_are)
      (parts_may shared y (lower (spare -ℤ raised) (drop shared y)) share.second (are_arcs _ (All-take IsArc shared y second.each)) (lower_may (spare -ℤ raised) (drop shared y) other_arcs rest)) in
      record {
        together = record { first = may_first; second = may_second; agree = taken_first ∙ same_lows ∙ sym taken_second };
        meets = omega (arith, ints);
        shared_least = subst (λ (ds : List ℤ). AllZip IsLeast (take shared x) ds) (sym taken_first) (are_least (take shared x));
        raised = subst (λ (ds : List ℤ). AreRaised (drop shared x) ds) (sym dropped_first) (raise_raised raised (drop shared x) own_arcs low);
        lowered = subst (λ (ds : List ℤ). AreLowered (drop shared y) ds) (sym dropped_second) (lower_lowered (spare -ℤ raised) (drop shared y) other_arcs rest);
        first_before = by_lt_z spare (greatest_sum (drop shared x) -ℤ least_sum (drop shared x))
            (λ less.
            (let none : (spare -ℤ raised) ≡ pos 0 = omega (arith, ints, clamps) in
            inr (subst (λ (ds : List ℤ). AllZip IsGreatest (drop shared y) ds) (sym (dropped_second ∙ lower_zero (spare -ℤ raised) (drop shared y) other_arcs none)) (are_greatest (drop shared y)))))
            (λ most. inl (subst (λ (ds : List ℤ). AllZip IsGreatest (drop shared x) ds) (sym (dropped_first ∙ raise_full raised (drop shared x) own_arcs (omega (arith, ints, clamps)))) (are_greatest (drop shared x))));
      }

  -- the difference of delays that two pulses may have together is that of the arcs that are not shared
  pub own_difference : (delays ends : List ℤ) → take shared delays ≡ take shared ends → (total delays -ℤ total ends) ≡ (total (drop shared delays) -ℤ total (drop shared ends))
  own_difference delays ends agree =
      let a = total_parts shared delays in
      let b = total_parts shared ends in
      let c = ap total agree in
      omega (arith, ints)

  pub together_within : (delays ends : List ℤ) → AreDelaysTogether shared x y delays ends → IsWithin (least_sum (drop shared x) -ℤ greatest_sum (drop shared y)) (greatest_sum (drop shared x) -ℤ least_sum (drop shared y)) (total delays -ℤ total ends)
  together_within delays ends together =
      let own = totals_within (drop shared x) (drop shared delays) (zip_drop MayTake shared x delays together.first) in
      let other = totals_within (drop shared y) (drop shared ends) (zip_drop MayTake shared y ends together.second) in
      let e = own_difference delays ends together.agree in
      let a = own.from in
      let b = own.to in
      let c = other.from in
      let d = other.to in
      record { from = omega (arith, ints); to = omega (arith, ints) }

  -- what the sums of the arcs that are not shared decide
  same_parts : (delays others : List ℤ) → take shared delays ≡ take shared others → drop shared delays ≡ drop shared others → delays ≡ others
  same_parts delays others one two = sym (take-append-drop shared delays) ∙ ap (λ (ds : List ℤ). ds ++ drop shared delays) one ∙ ap (λ (ds : List ℤ). take shared others ++ ds) two ∙ take-append-drop shared others

  shared_of : (difference : ℤ) (delays ends : List ℤ) → AreChosen shared x y difference delays ends → take shared delays ≡ lows (take shared x)
  shared_of difference delays ends chosen = least_is (take shared x) (take shared delays) chosen.shared_least

  by_sum : (difference : ℤ) (delays ends others stops : List ℤ) → AreChosen shared x y difference delays ends → AreChosen shared x y difference others stops → total (drop shared delays) ≡ total (drop shared others) → (delays ≡ others) × (ends ≡ stops)
  by_sum difference delays ends others stops one two same =
      let e = own_difference delays ends one.together.agree in
      let f = own_difference others stops two.together.agree in
      let g = one.meets in
      let h = two.meets in
      let same_other : total (drop shared ends) ≡ total (drop shared stops) = omega (arith, ints) in
      let a = raised_is (drop shared x) (drop shared delays) (total (drop shared delays) -ℤ least_sum (drop shared x)) own_arcs (zip_drop MayTake shared x delays one.together.first) one.raised refl in
      let b = raised_is (drop shared x) (drop shared others) (total (drop shared delays) -ℤ least_sum (drop shared x)) own_arcs (zip_drop MayTake shared x others two.together.first) two.raised (omega (arith, ints)) in
      let c = lowered_is (drop shared y) (drop shared ends) (greatest_sum (drop shared y) -ℤ total (drop shared ends)) other_arcs (zip_drop MayTake shared y ends one.together.second) one.lowered refl in
      let d = lowered_is (drop shared y) (drop shared stops) (greatest_sum (drop shared y) -ℤ total (drop shared ends)) other_arcs (zip_drop MayTake shared y stops two.together.second) two.lowered (omega (arith, ints)) in
      let i = shared_of difference delays ends one in
      let j = shared_of difference others stops two in (
        same_parts delays others (i ∙ sym j) (a ∙ sym b),
        same_parts ends stops (sym one.together.agree ∙ i ∙ sym j ∙ two.together.agree) (c ∙ sym d),
      )

  -- the lane with the lower sum of the first lane's delays is not raised to its greatest, so the second lane is not lowered
  no_less : (difference : ℤ) (delays ends others stops : List ℤ) → AreChosen shared x y difference delays ends → AreChosen shared x y difference others stops → total (drop shared delays) <ℤ total (drop shared others) → ⊥
  no_less difference delays ends others stops one two less =
      let own = totals_within (drop shared x) (drop shared others) (zip_drop MayTake shared x others two.together.first) in
      let other = totals_within (drop shared y) (drop shared stops) (zip_drop MayTake shared y stops two.together.second) in
      let e = own_difference delays ends one.together.agree in
      let f = own_difference others stops two.together.agree in
      let g = one.meets in
      let h = two.meets in
      let a = own.to in
      let b = other.to in
      elim one.first_before [
        | inl high ↦ (let all : total (drop shared delays) ≡ greatest_sum (drop shared x) = ap total (greatest_is (drop shared x) (drop shared delays) high) in absurd (omega (arith, ints)))
        | inr high ↦ (let all : total (drop shared ends) ≡ greatest_sum (drop shared y) = ap total (greatest_is (drop shared y) (drop shared ends) high) in absurd (omega (arith, ints)))
      ]

  pub choice_one : (difference : ℤ) (delays ends others stops : List ℤ) → AreChosen shared x y difference delays ends → AreChosen shared x y difference others stops → (delays ≡ others) × (ends ≡ stops)
  choice_one difference delays ends others stops one two =
      by_lt_z (total (drop shared delays)) (total (drop shared others)) (λ less. absurd (no_less difference delays ends others stops one two less))
      (λ le.
      by_lt_z (total (drop shared others)) (total (drop shared delays)) (λ less. absurd (no_less difference others stops delays ends two one less))
      (λ ge. by_sum difference delays ends others stops one two (omega (arith, ints))))

  pub chosen_there : (spread : Interval) (difference : ℤ) → IsArcSpread shared x y spread → IsWithin spread.low spread.high difference → (delays : List ℤ) × (ends : List ℤ) × AreChosen shared x y difference delays ends
  chosen_there spread difference is within =
      let spare : ℤ = difference -ℤ (least_sum (drop shared x) -ℤ greatest_sum (drop shared y)) in
      let raised : ℤ = int_min spare (greatest_sum (drop shared x) -ℤ least_sum (drop shared x)) in
      let a = is.least in
      let b = is.most in
      let c = within.from in
      let d = within.to in (
        lows (take shared x) ++ raise raised (drop shared x),
        lows (take shared y) ++ lower (spare -ℤ raised) (drop shared y),
        made_choice difference spare raised _ _ refl refl (omega (arith, ints)) (omega (arith, ints)) refl refl,
      )

pub spreads_are_exact : SpreadsAreExact
spreads_are_exact shared x y spread difference first second share is = (
  (
    λ within. (let (ds, es, chosen) = chosen_there shared x y first second share spread difference is within in (ds, es, chosen.together, chosen.meets)),
    λ (ds, es, together, meets). (let w = together_within shared x y first second share ds es together in let a = w.from in let b = w.to in let c = is.least in let d = is.most in record { from = omega (arith, ints); to = omega (arith, ints) }),
  ),
  λ within. chosen_there shared x y first second share spread difference is within,
)

pub choices_are_one : ChoicesAreOne
choices_are_one shared x y difference delays ends others stops first second share one two = choice_one shared x y first second share difference delays ends others stops one two

map_parts : (n : ℕ) (arcs : List Interval) (f : Interval → ℤ) → total (map f arcs) ≡ (total (map f (take n arcs)) +ℤ total (map f (drop n arcs)))
map_parts n arcs f = ap (λ (xs : List Interval). total (map f xs)) (sym (take-append-drop n arcs)) ∙ ap total (map-append f (take n arcs) (drop n arcs)) ∙ total-append (map f (take n arcs)) (map f (drop n arcs))

pub shared_is_narrower : SharedIsNarrower
shared_is_narrower shared x y level apart first second share is is_apart =
    let (a, b, c) = sums_order (drop shared x) (own_arcs shared x y first second share) in
    let (d, e, f) = sums_order (drop shared y) (other_arcs shared x y first second share) in
    let (g, h, i) = sums_order (take shared x) (are_arcs _ (All-take IsArc shared x first.each)) in
    let j = map_parts shared x (λ arc. arc.low) in
    let k = map_parts shared x (λ arc. arc.high) in
    let l = map_parts shared y (λ arc. arc.low) in
    let m = map_parts shared y (λ arc. arc.high) in
    let n : least_sum (take shared x) ≡ least_sum (take shared y) = ap (λ (xs : List Interval). least_sum xs) share.same in
    let o : greatest_sum (take shared x) ≡ greatest_sum (take shared y) = ap (λ (xs : List Interval). greatest_sum xs) share.same in
    let p = is.least in
    let q = is.most in
    let r : apart.low ≡ (least_sum x -ℤ greatest_sum y) = is_apart.least in
    let s : apart.high ≡ (greatest_sum x -ℤ least_sum y) = is_apart.most in
    (omega (arith, ints), omega (arith, ints), omega (arith, ints))

-- ---- delays that are added in a loop

drop_at : (arcs : List Interval) (i : ℕ) (d : Interval) → i < length arcs → drop i arcs ≡ get_or arcs i d ∷ drop (i + 1) arcs
drop_at arcs i d l = let e : suc i ≡ i + 1 = omega arith in drop-cons arcs i d l ∙ ap (λ (k : ℕ). get_or arcs i d ∷ drop k arcs) e

-- what is raised so far, and what is left to raise
pub record IsRaising (arcs : List Interval) (before : List ℤ) (spare : ℤ) (i : ℕ) (delays : List ℤ) (left : ℤ) : Type 0 where
  pub natural : pos 0 ≤ℤ left
  pub most : left ≤ℤ spare
  pub whole : delays ++ raise left (drop i arcs) ≡ before ++ raise spare arcs

pub raise_more : (arcs : List Interval) (before : List ℤ) (spare : ℤ) (i : ℕ) (delays made : List ℤ) (left rest delay : ℤ) (d : Interval) → IsRaising arcs before spare i delays left → i < length arcs → IsArc (get_or arcs i d) →
    delay ≡ ((get_or arcs i d).low +ℤ int_min left ((get_or arcs i d).high -ℤ (get_or arcs i d).low)) → rest ≡ (left -ℤ int_min left ((get_or arcs i d).high -ℤ (get_or arcs i d).low)) → made ≡ delays ++ delay ∷ [] → IsRaising arcs before spare (i + 1) made rest
raise_more arcs before spare i delays made left rest delay d raising l fits delay_is rest_is made_is =
    let order = fits.order in
    let natural = raising.natural in
    let most = raising.most in
    record {
      natural = omega (arith, ints, clamps);
      most = omega (arith, ints, clamps);
      whole = ap (λ (xs : List ℤ). xs ++ raise rest (drop (i + 1) arcs)) made_is ∙ append_assoc delays (delay ∷ []) (raise rest (drop (i + 1) arcs))
          ∙ ap (λ (z : ℤ). delays ++ z ∷ raise rest (drop (i + 1) arcs)) delay_is
          ∙ ap (λ (z : ℤ). delays ++ ((get_or arcs i d).low +ℤ int_min left ((get_or arcs i d).high -ℤ (get_or arcs i d).low)) ∷ raise z (drop (i + 1) arcs)) rest_is
          ∙ sym (ap (λ (xs : List Interval). delays ++ raise left xs) (drop_at arcs i d l))
          ∙ raising.whole;
    }

append_nil : (xs : List ℤ) → xs ++ [] ≡ xs
append_nil [] = refl
append_nil (x ∷ xs) = ap (λ (ys : List ℤ). x ∷ ys) (append_nil xs)

pub raise_ends : (arcs : List Interval) (before : List ℤ) (spare : ℤ) (i : ℕ) (delays : List ℤ) (left : ℤ) → IsRaising arcs before spare i delays left → length arcs ≤ i → delays ≡ before ++ raise spare arcs
raise_ends arcs before spare i delays left raising end = sym (append_nil delays) ∙ sym (ap (λ (xs : List Interval). delays ++ raise left xs) (drop_all i arcs end)) ∙ raising.whole

-- the same of delays that are lowered
pub record IsLowering (arcs : List Interval) (before : List ℤ) (spare : ℤ) (i : ℕ) (delays : List ℤ) (left : ℤ) : Type 0 where
  pub natural : pos 0 ≤ℤ left
  pub most : left ≤ℤ spare
  pub whole : delays ++ lower left (drop i arcs) ≡ before ++ lower spare arcs

pub lower_more : (arcs : List Interval) (before : List ℤ) (spare : ℤ) (i : ℕ) (delays made : List ℤ) (left rest delay : ℤ) (d : Interval) → IsLowering arcs before spare i delays left → i < length arcs → IsArc (get_or arcs i d) →
    delay ≡ ((get_or arcs i d).high -ℤ int_min left ((get_or arcs i d).high -ℤ (get_or arcs i d).low)) → rest ≡ (left -ℤ int_min left ((get_or arcs i d).high -ℤ (get_or arcs i d).low)) → made ≡ delays ++ delay ∷ [] → IsLowering arcs before spare (i + 1) made rest
lower_more arcs before spare i delays made left rest delay d lowering l fits delay_is rest_is made_is =
    let order = fits.order in
    let natural = lowering.natural in
    let most = lowering.most in
    record {
      natural = omega (arith, ints, clamps);
      most = omega (arith, ints, clamps);
      whole = ap (λ (xs : List ℤ). xs ++ lower rest (drop (i + 1) arcs)) made_is ∙ append_assoc delays (delay ∷ []) (lower rest (drop (i + 1) arcs))
          ∙ ap (λ (z : ℤ). delays ++ z ∷ lower rest (drop (i + 1) arcs)) delay_is
          ∙ ap (λ (z : ℤ). delays ++ ((get_or arcs i d).high -ℤ int_min left ((get_or arcs i d).high -ℤ (get_or arcs i d).low)) ∷ lower z (drop (i + 1) arcs)) rest_is
          ∙ sym (ap (λ (xs : List Interval). delays ++ lower left xs) (drop_at arcs i d l))
          ∙ lowering.whole;
    }

pub lower_ends : (arcs : List Interval) (before : List ℤ) (spare : ℤ) (i : ℕ) (delays : List ℤ) (left : ℤ) → IsLowering arcs before spare i delays left → length arcs ≤ i → delays ≡ before ++ lower spare arcs
lower_ends arcs before spare i delays left lowering end = sym (append_nil delays) ∙ sym (ap (λ (xs : List Interval). delays ++ lower left xs) (drop_all i arcs end)) ∙ lowering.whole

pub least_more : (arcs : List Interval) (before delays made : List ℤ) (i : ℕ) (d : Interval) (low : ℤ) → delays ≡ before ++ lows (take i arcs) → i < length arcs → low ≡ (get_or arcs i d).low → made ≡ delays ++ low ∷ [] → made ≡ before ++ lows (take (i + 1) arcs)
least_more arcs before delays made i d low so l is made_is =
    made_is ∙ ap (λ (xs : List ℤ). xs ++ low ∷ []) so ∙ ap (λ (z : ℤ). (before ++ lows (take i arcs)) ++ z ∷ []) is ∙ append_assoc before (lows (take i arcs)) ((get_or arcs i d).low ∷ [])
    ∙ sym (ap (λ (xs : List ℤ). before ++ xs) (ap (λ (xs : List Interval). lows xs) (take_more arcs i d l) ∙ map-append (λ arc. arc.low) (take i arcs) (get_or arcs i d ∷ [])))

pub least_ends : (arcs : List Interval) (before delays : List ℤ) (i : ℕ) → delays ≡ before ++ lows (take i arcs) → length arcs ≤ i → delays ≡ before ++ lows arcs
least_ends arcs before delays i so end = so ∙ ap (λ (xs : List Interval). before ++ lows xs) (take_all i arcs end)

-- ---- what is split

pub min_bounds : (a b r : ℤ) → r ≡ int_min a b → (r ≤ℤ a) × (r ≤ℤ b) × ((r ≡ a) ⊎ (r ≡ b))
min_bounds a b r e = (omega (arith, ints, clamps), omega (arith, ints, clamps), by_lt_z a b (λ l. inl (omega (arith, ints, clamps))) (λ h. inr (omega (arith, ints, clamps))))

pub split_is : (shared : ℕ) (x y : List Interval) (spread : Interval) (difference room spare raised lowered : ℤ) → AreLaneIntervals x → AreLaneIntervals y → ShareArcs shared x y → IsArcSpread shared x y spread → IsWithin spread.low spread.high difference → spare ≡ (difference -ℤ spread.low) →
    room ≡ (greatest_sum (drop shared x) -ℤ least_sum (drop shared x)) → raised ≡ int_min room spare → lowered ≡ (spare -ℤ raised) → IsSplit shared x y difference raised lowered
split_is shared x y spread difference room spare raised lowered first second share is within spare_is room_is raised_is lowered_is =
    let (a, b, c) = sums_order (drop shared x) (own_arcs shared x y first second share) in
    let (d, e, f) = sums_order (drop shared y) (other_arcs shared x y first second share) in
    let g = is.least in
    let h = is.most in
    let i = within.from in
    let j = within.to in
    let k = first.few in
    let l = second.few in
    let m = length-drop shared x in
    let n = length-drop shared y in
    record {
      spare = spare;
      spare_is = omega (arith, ints);
      raised_is = omega (arith, ints, clamps);
      lowered_is = lowered_is;
      raised_small = record { from = omega (arith, ints, clamps); to = omega (arith, ints, clamps) };
      lowered_small = record { from = omega (arith, ints, clamps); to = omega (arith, ints, clamps) };
    }

pub spread_small : (shared : ℕ) (x y : List Interval) (spread : Interval) → AreLaneIntervals x → AreLaneIntervals y → ShareArcs shared x y → IsArcSpread shared x y spread → IsWithin (pos 0 -ℤ pos 1000000000000000) (pos 1000000000000000) spread.low × IsWithin (pos 0 -ℤ pos 1000000000000000) (pos 1000000000000000) spread.high
spread_small shared x y spread first second share is =
    let (a, b, c) = sums_order (drop shared x) (own_arcs shared x y first second share) in
    let (d, e, f) = sums_order (drop shared y) (other_arcs shared x y first second share) in
    let g = is.least in
    let h = is.most in
    let k = first.few in
    let l = second.few in
    let m = length-drop shared x in
    let n = length-drop shared y in
    (record { from = omega (arith, ints); to = omega (arith, ints) }, record { from = omega (arith, ints); to = omega (arith, ints) })

pub choice_of : (shared : ℕ) (x y : List Interval) (difference raised lowered : ℤ) (delays ends : List ℤ) → AreLaneIntervals x → AreLaneIntervals y → ShareArcs shared x y → ((spread : Interval) → IsArcSpread shared x y spread → IsWithin spread.low spread.high difference) → IsSplit shared x y difference raised lowered →
    delays ≡ lows (take shared x) ++ raise raised (drop shared x) → ends ≡ lows (take shared y) ++ lower lowered (drop shared y) → AreChosen shared x y difference delays ends
choice_of shared x y difference raised lowered delays ends first second share within split one two =
    let w = within (record { low = least_sum (drop shared x) -ℤ greatest_sum (drop shared y); high = greatest_sum (drop shared x) -ℤ least_sum (drop shared y) }) (record { least = refl; most = refl }) in
    let a = w.from in
    let b = w.to in
    let c = split.spare_is in
    made_choice shared x y first second share difference split.spare raised delays ends split.spare_is split.raised_is (omega (arith, ints)) b one (two ∙ ap (λ (z : ℤ). lows (take shared y) ++ lower z (drop shared y)) split.lowered_is)

pub room_small : (shared : ℕ) (x : List Interval) (most least room : ℤ) → AreLaneIntervals x → most ≡ greatest_sum (drop shared x) → least ≡ least_sum (drop shared x) → room ≡ (most -ℤ least) → IsWithin (pos 0) (pos 1000000000000000) room
room_small shared x most least room lane most_is least_is is =
    let (a, b, c) = sums_order (drop shared x) (are_arcs _ (All-drop IsArc shared x lane.each)) in
    let k = lane.few in
    let m = length-drop shared x in
    record { from = omega (arith, ints); to = omega (arith, ints) }

pub tail_whole : (n : ℕ) (x : List Interval) → take (length x - n) (drop n x) ≡ drop n x
tail_whole n x = take_all (length x - n) (drop n x) (let e = length-drop n x in omega arith)
