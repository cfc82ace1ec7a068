-- The intervals of arcs, and the delays within them.
use Rattle.std.proofs.Common.{◌≡◌, ℕ, zero, suc, ◌+◌, ◌<◌, ◌≤◌, ℤ, pos, List, [], ◌∷◌, ◌++◌, length, get_or, take, refl, sym, ap, ◌∙◌, subst, arith, inl, inr}
use Rattle.std.proofs.lemmas.Int.{ints}
use Rattle.std.proofs.lemmas.Option.{slice_get_within, slice_get_cases, get_or_from_slice_get}
use Rattle.std.proofs.lemmas.List.{take_more, take_all}
use Rattle.std.proofs.lemmas.List.Elements.{All-get_or}
use Rattle.std.specs.Prelude.{slice_get, Some, None}
use Rattle.std.specs.Option.{option_and_then}
use Rattle.std.specs.List.{All, AllZip}
use Rattle.rsfq_ids.specs.declared.table.CellRow.{CellRow}
use Rattle.rsfq_ids.specs.declared.circuit.Bench.{Bench}
use Rattle.rsfq_ids.specs.declared.circuit.FlatCell.{FlatCell}
use Rattle.rsfq_ids.specs.declared.circuit.PortBit.{PortBit}
use Rattle.rsfq_ids.specs.declared.circuit.PortUse.{PortUse}
use Rattle.rsfq_ids.specs.declared.circuit.PortUse.TheVariants as port_use
use Rattle.rsfq_ids.specs.declared.offence.PathArc.{PathArc}
use Rattle.rsfq_ids.specs.declared.offence.PathArc.TheVariants as arc
use Rattle.rsfq_ids.specs.Design.{Design}
use Rattle.rsfq_ids.specs.Time.{IsWithin}
use Rattle.rsfq_ids.specs.Run.{IsPortDelay}
use Rattle.rsfq_ids.specs.Circuit.{IsOf}
use Rattle.rsfq_ids.specs.Path.{IsDelay}
use Rattle.rsfq_ids.specs.WellFormed.{IsRow, FitsUse}
use Rattle.rsfq_ids.specs.Ready.{IsSetUp}
use Rattle.pulse_pairs.specs.declared.meeting.Interval.{Interval}
use Rattle.pulse_pairs.specs.Choice.{IsArc, AreLaneIntervals, MayTake}
use Rattle.lane_pairs.specs.Arcs.{HasInterval, HaveIntervals, IsPortInterval}

-- ---- lists along lists

module _ {A B : Type 0} (R : A → B → Type 0) where
  pub zip_push : (xs : List A) (ys : List B) (x : A) (y : B) → AllZip R xs ys → R x y → AllZip R (xs ++ x ∷ []) (ys ++ y ∷ [])
  zip_push [] [] x y zip last = (last, tt)
  zip_push [] (z ∷ ys) x y zip last = absurd zip
  zip_push (w ∷ xs) [] x y zip last = absurd zip
  zip_push (w ∷ xs) (z ∷ ys) x y zip last = (zip.0, zip_push xs ys x y zip.1 last)

  pub zip_length : (xs : List A) (ys : List B) → AllZip R xs ys → length xs ≡ length ys
  zip_length [] [] zip = refl
  zip_length [] (y ∷ ys) zip = absurd zip
  zip_length (x ∷ xs) [] zip = absurd zip
  zip_length (x ∷ xs) (y ∷ ys) zip = ap suc (zip_length xs ys zip.1)

  pub zip_at : (xs : List A) (ys : List B) (i : ℕ) (d : A) (e : B) → AllZip R xs ys → i < length xs → R (get_or xs i d) (get_or ys i e)
  zip_at [] ys i d e zip l = absurd (omega arith)
  zip_at (x ∷ xs) [] i d e zip l = absurd zip
  zip_at (x ∷ xs) (y ∷ ys) zero d e zip l = zip.0
  zip_at (x ∷ xs) (y ∷ ys) (suc i) d e zip l = zip_at xs ys i d e zip.1 (omega arith)

  pub zip_take : (n : ℕ) (xs : List A) (ys : List B) → AllZip R xs ys → AllZip R (take n xs) (take n ys)
  zip_take zero xs ys zip = tt
  zip_take (suc n) [] [] zip = tt
  zip_take (suc n) [] (y ∷ ys) zip = absurd zip
  zip_take (suc n) (x ∷ xs) [] zip = absurd zip
  zip_take (suc n) (x ∷ xs) (y ∷ ys) zip = (zip.0, zip_take n xs ys zip.1)

  -- one more of a list that is gone through
  pub zip_more : (xs : List A) (ys ys' : List B) (i : ℕ) (d : A) (y : B) → AllZip R (take i xs) ys → i < length xs → R (get_or xs i d) y → ys' ≡ ys ++ y ∷ [] → AllZip R (take (i + 1) xs) ys'
  zip_more xs ys ys' i d y zip l last made = subst (λ (zs : List B). AllZip R (take (i + 1) xs) zs) (sym made) (subst (λ (ws : List A). AllZip R ws (ys ++ y ∷ [])) (sym (take_more xs i d l)) (zip_push (take i xs) ys (get_or xs i d) y zip last))

  pub zip_ends : (xs : List A) (ys : List B) (i : ℕ) → AllZip R (take i xs) ys → length xs ≤ i → AllZip R xs ys
  zip_ends xs ys i zip end = subst (λ (ws : List A). AllZip R ws ys) (take_all i xs end) zip

pub all_at : {X : Type 0} (P : X → Type 0) (xs : List X) (i : ℕ) (x : X) → slice_get xs i ≡ Some x → All P xs → P x
all_at P xs i x is all = subst P (get_or_from_slice_get xs i x x is) (All-get_or P xs i x (slice_get_within xs i x is) all)

pub at_below : {X : Type 0} (xs : List X) (i : ℕ) → i < length xs → (x : X) × (slice_get xs i ≡ Some x)
at_below xs i l = elim (slice_get_cases xs i).1 [ inl (x, within, is, same) ↦ (x, is) | inr (past, none) ↦ absurd (omega arith) ]

-- ---- intervals

interval_is : (i j : Interval) → i.low ≡ j.low → i.high ≡ j.high → i ≡ j
interval_is i j e f =
    let low : record { low = i.low; high = i.high } ≡ record { low = j.low; high = i.high } = ap (λ (z : ℤ). let made : Interval = record { low = z; high = i.high } in made) e in
    let high : record { low = j.low; high = i.high } ≡ record { low = j.low; high = j.high } = ap (λ (z : ℤ). let made : Interval = record { low = j.low; high = z } in made) f in
    low ∙ high

port_one : (bench : Bench) (used : PortUse) (i j : Interval) → IsPortInterval bench used i → IsPortInterval bench used j → i ≡ j
port_one bench port_use.Clock i j one two = interval_is i j (one.0 ∙ sym two.0) (one.1 ∙ sym two.1)
port_one bench (port_use.Arrival low high) i j one two = interval_is i j (one.0 ∙ sym two.0) (one.1 ∙ sym two.1)
port_one bench (port_use.Strobed strobe) i j one two = absurd one

port_within : (bench : Bench) (used : PortUse) (i : Interval) (d : ℤ) → IsPortInterval bench used i → IsPortDelay bench used d → IsWithin i.low i.high d
port_within bench port_use.Clock i d (low, high) may = let a = may.from in let b = may.to in record { from = omega (arith, ints); to = omega (arith, ints) }
port_within bench (port_use.Arrival l h) i d (low, high) may = let a = may.from in let b = may.to in record { from = omega (arith, ints); to = omega (arith, ints) }
port_within bench (port_use.Strobed strobe) i d one may = absurd one

port_may : (bench : Bench) (used : PortUse) (i : Interval) (d : ℤ) → IsPortInterval bench used i → IsWithin i.low i.high d → IsPortDelay bench used d
port_may bench port_use.Clock i d (low, high) may = let a = may.from in let b = may.to in record { from = omega (arith, ints); to = omega (arith, ints) }
port_may bench (port_use.Arrival l h) i d (low, high) may = let a = may.from in let b = may.to in record { from = omega (arith, ints); to = omega (arith, ints) }
port_may bench (port_use.Strobed strobe) i d one may = absurd one

port_there : (bench : Bench) (used : PortUse) (d : ℤ) → IsPortDelay bench used d → (i : Interval) × IsPortInterval bench used i
port_there bench port_use.Clock d may = (record { low = pos 0; high = bench.jitter }, (refl, refl))
port_there bench (port_use.Arrival l h) d may = (record { low = l; high = h }, (refl, refl))
port_there bench (port_use.Strobed strobe) d may = absurd may

some_use : (one other : PortUse) → Some one ≡ Some other → one ≡ other
some_use one other e = cc

some_row : (one other : CellRow) → Some one ≡ Some other → one ≡ other
some_row one other e = cc

module _ (design : Design) where
  pub interval_one : (a : PathArc) (i j : Interval) → HasInterval design a i → HasInterval design a j → i ≡ j
  interval_one (arc.Port port) i j (used, is, one) (used', is', two) =
      port_one design.bench used i j one (subst (λ (u : PortUse). IsPortInterval design.bench u j) (some_use used' used (sym is' ∙ is)) two)
  interval_one (arc.Through cell pin out) i j (row, of, low, high) (row', of', low', high') =
      let same = some_row row' row (sym of' ∙ of) in
      interval_is i j (low ∙ sym (low' ∙ ap (λ (r : CellRow). r.low) same)) (high ∙ sym (high' ∙ ap (λ (r : CellRow). r.high) same))

  pub delay_within : (a : PathArc) (i : Interval) (d : ℤ) → HasInterval design a i → IsDelay design a d → MayTake i d
  delay_within (arc.Port port) i d (used, is, one) (used', is', may) = port_within design.bench used i d one (subst (λ (u : PortUse). IsPortDelay design.bench u d) (some_use used' used (sym is' ∙ is)) may)
  delay_within (arc.Through cell pin out) i d (row, of, low, high) (row', of', may) =
      let within = subst (λ (r : CellRow). IsWithin r.low r.high d) (some_row row' row (sym of' ∙ of)) may in
      let a = within.from in
      let b = within.to in
      record { from = omega (arith, ints); to = omega (arith, ints) }

  pub delay_may : (a : PathArc) (i : Interval) (d : ℤ) → HasInterval design a i → MayTake i d → IsDelay design a d
  delay_may (arc.Port port) i d (used, is, one) may = (used, is, port_may design.bench used i d one may)
  delay_may (arc.Through cell pin out) i d (row, of, low, high) may = let a = may.from in let b = may.to in (row, of, record { from = omega (arith, ints); to = omega (arith, ints) })

  interval_there : (a : PathArc) (d : ℤ) → IsDelay design a d → (i : Interval) × HasInterval design a i
  interval_there (arc.Port port) d (used, is, may) = let (i, has) = port_there design.bench used d may in (i, (used, is, has))
  interval_there (arc.Through cell pin out) d (row, of, may) = (record { low = row.low; high = row.high }, (row, of, refl, refl))

  -- ---- of all arcs

  pub intervals_one : (arcs : List PathArc) (is js : List Interval) → HaveIntervals design arcs is → HaveIntervals design arcs js → is ≡ js
  intervals_one [] [] [] one two = refl
  intervals_one [] [] (j ∷ js) one two = absurd two
  intervals_one [] (i ∷ is) js one two = absurd one
  intervals_one (a ∷ arcs) [] js one two = absurd one
  intervals_one (a ∷ arcs) (i ∷ is) [] one two = absurd two
  intervals_one (a ∷ arcs) (i ∷ is) (j ∷ js) one two = let here = interval_one a i j one.0 two.0 in let rest = intervals_one arcs is js one.1 two.1 in cc

  pub delays_within : (arcs : List PathArc) (is : List Interval) (ds : List ℤ) → HaveIntervals design arcs is → AllZip (IsDelay design) arcs ds → AllZip MayTake is ds
  delays_within [] [] [] has may = tt
  delays_within [] [] (d ∷ ds) has may = absurd may
  delays_within [] (i ∷ is) ds has may = absurd has
  delays_within (a ∷ arcs) [] ds has may = absurd has
  delays_within (a ∷ arcs) (i ∷ is) [] has may = absurd may
  delays_within (a ∷ arcs) (i ∷ is) (d ∷ ds) has may = (delay_within a i d has.0 may.0, delays_within arcs is ds has.1 may.1)

  pub delays_may : (arcs : List PathArc) (is : List Interval) (ds : List ℤ) → HaveIntervals design arcs is → AllZip MayTake is ds → AllZip (IsDelay design) arcs ds
  delays_may [] [] [] has may = tt
  delays_may [] [] (d ∷ ds) has may = absurd may
  delays_may [] (i ∷ is) ds has may = absurd has
  delays_may (a ∷ arcs) [] ds has may = absurd has
  delays_may (a ∷ arcs) (i ∷ is) [] has may = absurd may
  delays_may (a ∷ arcs) (i ∷ is) (d ∷ ds) has may = (delay_may a i d has.0 may.0, delays_may arcs is ds has.1 may.1)

  pub intervals_there : (arcs : List PathArc) (ds : List ℤ) → AllZip (IsDelay design) arcs ds → (is : List Interval) × HaveIntervals design arcs is
  intervals_there [] [] may = ([], tt)
  intervals_there [] (d ∷ ds) may = absurd may
  intervals_there (a ∷ arcs) [] may = absurd may
  intervals_there (a ∷ arcs) (d ∷ ds) may = let here = interval_there a d may.0 in let rest = intervals_there arcs ds may.1 in (here.0 ∷ rest.0, (here.1, rest.1))

  -- ---- limits

  module _ (set_up : IsSetUp design) where
    pub row_fits : (cell : ℕ) (row : CellRow) → IsOf design cell row → IsRow row
    row_fits cell row of = elim (slice_get_cases design.flat.cells cell).1 [
      | inl (c, within, is, same) ↦
          (let below : c.row < length design.table.rows = all_at (λ (c : FlatCell). c.row < length design.table.rows) design.flat.cells cell c is set_up.flat_fits.rows in
          let (r, at) = at_below design.table.rows c.row below in
          let e : Some r ≡ Some row = sym (ap (option_and_then (λ (c : FlatCell). slice_get design.table.rows c.row)) is ∙ at) ∙ of in
          subst IsRow (some_row r row e) (all_at IsRow design.table.rows c.row r at set_up.table_fits.rows))
      | inr (past, none) ↦ (let e : None ≡ Some row = sym (ap (option_and_then (λ (c : FlatCell). slice_get design.table.rows c.row)) none) ∙ of in cc)
    ]

    pub cell_below : (cell : ℕ) (row : CellRow) → IsOf design cell row → cell < length design.flat.cells
    cell_below cell row of = elim (slice_get_cases design.flat.cells cell).1 [
      | inl (c, within, is, same) ↦ within
      | inr (past, none) ↦ (let e : None ≡ Some row = sym (ap (option_and_then (λ (c : FlatCell). slice_get design.table.rows c.row)) none) ∙ of in cc)
    ]

    port_fits : (port : ℕ) (used : PortUse) (i : Interval) (bit : PortBit) → FitsUse design.bench port bit used → IsPortInterval design.bench used i → IsArc i
    port_fits port port_use.Clock i bit fits (low, high) =
        let jitter = set_up.bench_fits.jitter in
        let a = jitter.from in
        let b = jitter.to in
        record { natural = omega (arith, ints); order = omega (arith, ints); most = omega (arith, ints) }
    port_fits port (port_use.Arrival l h) i bit (other, input, from, to, order) (low, high) =
        let a = from.from in
        let b = to.to in
        record { natural = omega (arith, ints); order = omega (arith, ints); most = omega (arith, ints) }
    port_fits port (port_use.Strobed strobe) i bit fits none = absurd none

    pub arc_fits : (a : PathArc) (i : Interval) → HasInterval design a i → IsArc i
    arc_fits (arc.Port port) i (used, is, has) =
        let within = slice_get_within design.bench.uses port used is in
        let count = set_up.bench_fits.ports in
        let (bit, at) = at_below design.flat.ports port (omega arith) in
        port_fits port used i bit (set_up.bench_fits.uses port bit used at is) has
    arc_fits (arc.Through cell pin out) i (row, of, low, high) =
        let fits = row_fits cell row of in
        let a = fits.low.from in
        let b = fits.high.to in
        let c = fits.delays in
        record { natural = omega (arith, ints); order = omega (arith, ints); most = omega (arith, ints) }

    pub intervals_fit : (arcs : List PathArc) (is : List Interval) → HaveIntervals design arcs is → All IsArc is
    intervals_fit [] [] has = λ k d l. absurd (omega arith)
    intervals_fit [] (i ∷ is) has = absurd has
    intervals_fit (a ∷ arcs) [] has = absurd has
    intervals_fit (a ∷ arcs) (i ∷ is) has = each (arc_fits a i has.0) (intervals_fit arcs is has.1)
      where
        each : IsArc i → All IsArc is → (k : ℕ) (d : Interval) → k < length (i ∷ is) → IsArc (get_or (i ∷ is) k d)
        each here rest zero d l = here
        each here rest (suc k) d l = rest k d (omega arith)

    pub lane_fits : (arcs : List PathArc) (is : List Interval) → length arcs < 1000000 → HaveIntervals design arcs is → AreLaneIntervals is
    lane_fits arcs is few has = record { each = intervals_fit arcs is has; few = (let n = zip_length (HasInterval design) arcs is has in omega arith) }
