-- Delays within their bounds, and delays raised in order.
use Rattle.std.proofs.Common.{◌≡◌, ℤ, pos, ◌+ℤ◌, ◌-ℤ◌, ◌≤ℤ◌, List, [], ◌∷◌, ◌++◌, map, refl, sym, ◌∙◌, subst, arith, inl, inr}
use Rattle.std.proofs.lemmas.Int.{ints, clamps, by_lt_z}
use Rattle.std.specs.Prelude.{Some}
use Rattle.std.specs.Int.{int_min}
use Rattle.std.specs.List.{AllZip}
use Rattle.rsfq_ids.specs.declared.table.CellRow.{CellRow}
use Rattle.rsfq_ids.specs.declared.circuit.PortUse.{PortUse}
use Rattle.rsfq_ids.specs.declared.circuit.PortUse.TheVariants as port_use
use Rattle.rsfq_ids.specs.declared.offence.PathArc.{PathArc}
use Rattle.rsfq_ids.specs.declared.offence.PathArc.TheVariants as arc
use Rattle.rsfq_ids.specs.Design.{Design}
use Rattle.rsfq_ids.specs.Time.{IsWithin, total}
use Rattle.rsfq_ids.specs.Run.{IsPortDelay}
use Rattle.rsfq_ids.specs.Path.{IsDelay}
use Rattle.wire_timing.specs.Reach.{HasBounds, raise}
use Rattle.wire_timing.specs.Window.{IsLeastDelay, AreRaisedInOrder}

abbrev pub lows : List (ℤ × ℤ) → List ℤ
lows bounds = map (λ b. b.0) bounds

abbrev pub highs : List (ℤ × ℤ) → List ℤ
highs bounds = map (λ b. b.1) bounds

-- bounds of a time that a table may hold
abbrev pub AreBounds : List (ℤ × ℤ) → Type 0
AreBounds [] = Unit {0}
AreBounds (b ∷ bounds) = (pos 0 ≤ℤ b.0) × (b.0 ≤ℤ b.1) × (b.1 ≤ℤ pos 1000000000) × AreBounds bounds

-- raised delays make the sum that is asked for
pub total-raise : (spare : ℤ) (bounds : List (ℤ × ℤ)) → AreBounds bounds → pos 0 ≤ℤ spare → (total (lows bounds) +ℤ spare) ≤ℤ total (highs bounds) → total (raise spare bounds) ≡ (total (lows bounds) +ℤ spare)
total-raise spare [] fit l h = omega (arith, ints)
total-raise spare (b ∷ bounds) (low, order, high, rest) l h =
    by_lt_z spare (b.1 -ℤ b.0)
    (λ less.
    (let e : int_min spare (b.1 -ℤ b.0) ≡ spare = omega (arith, ints, clamps) in
    let more = total-raise (spare -ℤ int_min spare (b.1 -ℤ b.0)) bounds rest (omega (arith, ints, clamps)) (let o = lows_highs bounds rest in omega (arith, ints, clamps)) in
    omega (arith, ints)))
    (λ most.
    (let e : int_min spare (b.1 -ℤ b.0) ≡ (b.1 -ℤ b.0) = omega (arith, ints, clamps) in
    let more = total-raise (spare -ℤ int_min spare (b.1 -ℤ b.0)) bounds rest (omega (arith, ints, clamps)) (omega (arith, ints, clamps)) in
    omega (arith, ints)))
  where
    lows_highs : (bounds : List (ℤ × ℤ)) → AreBounds bounds → total (lows bounds) ≤ℤ total (highs bounds)
    lows_highs [] fit = omega (arith, ints)
    lows_highs (b ∷ bounds) (low, order, high, rest) = let o = lows_highs bounds rest in omega (arith, ints)

pub raise_zero : (bounds : List (ℤ × ℤ)) (spare : ℤ) → AreBounds bounds → spare ≡ pos 0 → raise spare bounds ≡ lows bounds
raise_zero [] spare fit none = refl
raise_zero (b ∷ bounds) spare (low, order, high, rest) none =
    let e : int_min spare (b.1 -ℤ b.0) ≡ pos 0 = omega (arith, ints, clamps) in
    let f : (b.0 +ℤ int_min spare (b.1 -ℤ b.0)) ≡ b.0 = omega (arith, ints) in
    let more = raise_zero bounds (spare -ℤ int_min spare (b.1 -ℤ b.0)) rest (omega (arith, ints)) in cc

module _ (design : Design) where
  pub delay_within : (a : PathArc) (b : ℤ × ℤ) (d : ℤ) → HasBounds design a b → IsDelay design a d → IsWithin b.0 b.1 d
  delay_within (arc.Port port) b d has (used, is, may) =
      let e : Some used ≡ Some (port_use.Arrival b.0 b.1) = sym is ∙ has in
      let f : used ≡ port_use.Arrival b.0 b.1 = cc in subst (λ (u : PortUse). IsPortDelay design.bench u d) f may
  delay_within (arc.Through cell pin out) b d (row, of, low, high) (other, of', may) =
      let e : Some other ≡ Some row = sym of' ∙ of in
      let f : other ≡ row = cc in
      let within = subst (λ (r : CellRow). IsWithin r.low r.high d) f may in
      let a = within.from in
      let z = within.to in record { from = omega (arith, ints); to = omega (arith, ints) }

  pub may_take : (a : PathArc) (b : ℤ × ℤ) (d : ℤ) → HasBounds design a b → b.0 ≤ℤ d → d ≤ℤ b.1 → IsDelay design a d
  may_take (arc.Port port) b d has l h = (port_use.Arrival b.0 b.1, has, record { from = l; to = h })
  may_take (arc.Through cell pin out) b d (row, of, low, high) l h = (row, of, record { from = omega (arith, ints); to = omega (arith, ints) })

  -- the sum of delays lies between the sums of their bounds
  pub totals_within : (arcs : List PathArc) (bounds : List (ℤ × ℤ)) (delays : List ℤ) → AllZip (HasBounds design) arcs bounds → AllZip (IsDelay design) arcs delays → IsWithin (total (lows bounds)) (total (highs bounds)) (total delays)
  totals_within [] [] [] has may = record { from = omega (arith, ints); to = omega (arith, ints) }
  totals_within [] [] (d ∷ delays) has may = absurd may
  totals_within [] (b ∷ bounds) delays has may = absurd has
  totals_within (a ∷ arcs) [] delays has may = absurd has
  totals_within (a ∷ arcs) (b ∷ bounds) [] has may = absurd may
  totals_within (a ∷ arcs) (b ∷ bounds) (d ∷ delays) has may =
      let here = delay_within a b d has.0 may.0 in
      let rest = totals_within arcs bounds delays has.1 may.1 in
      let f = here.from in
      let t = here.to in
      let g = rest.from in
      let u = rest.to in record { from = omega (arith, ints); to = omega (arith, ints) }

  least : (a : PathArc) (b : ℤ × ℤ) → HasBounds design a b → b.0 ≤ℤ b.1 → IsLeastDelay design a b.0
  least a b has order = record { may = may_take a b b.0 has (omega (arith, ints)) order; least = λ other may. (delay_within a b other has may).from }

  leasts : (arcs : List PathArc) (bounds : List (ℤ × ℤ)) → AllZip (HasBounds design) arcs bounds → AreBounds bounds → AllZip (IsLeastDelay design) arcs (lows bounds)
  leasts [] [] has fit = tt
  leasts [] (b ∷ bounds) has fit = absurd has
  leasts (a ∷ arcs) [] has fit = absurd has
  leasts (a ∷ arcs) (b ∷ bounds) has (low, order, high, rest) = (least a b has.0 order, leasts arcs bounds has.1 rest)

  pub raise_may : (spare : ℤ) (arcs : List PathArc) (bounds : List (ℤ × ℤ)) → AllZip (HasBounds design) arcs bounds → AreBounds bounds → pos 0 ≤ℤ spare → AllZip (IsDelay design) arcs (raise spare bounds)
  raise_may spare [] [] has fit l = tt
  raise_may spare [] (b ∷ bounds) has fit l = absurd has
  raise_may spare (a ∷ arcs) [] has fit l = absurd has
  raise_may spare (a ∷ arcs) (b ∷ bounds) has (low, order, high, rest) l = (
    may_take a b (b.0 +ℤ int_min spare (b.1 -ℤ b.0)) has.0 (omega (arith, ints, clamps)) (omega (arith, ints, clamps)),
    raise_may (spare -ℤ int_min spare (b.1 -ℤ b.0)) arcs bounds has.1 rest (omega (arith, ints, clamps)),
  )

  pub raise_in_order : (spare : ℤ) (arcs : List PathArc) (bounds : List (ℤ × ℤ)) → AllZip (HasBounds design) arcs bounds → AreBounds bounds → pos 0 ≤ℤ spare → AreRaisedInOrder design arcs (raise spare bounds)
  raise_in_order spare [] [] has fit l = tt
  raise_in_order spare [] (b ∷ bounds) has fit l = absurd has
  raise_in_order spare (a ∷ arcs) [] has fit l = absurd has
  raise_in_order spare (a ∷ arcs) (b ∷ bounds) has (low, order, high, rest) l = (
    by_lt_z spare (b.1 -ℤ b.0)
        (λ less.
        (let e : (spare -ℤ int_min spare (b.1 -ℤ b.0)) ≡ pos 0 = omega (arith, ints, clamps) in
        inr (subst (λ (ds : List ℤ). AllZip (IsLeastDelay design) arcs ds) (sym (raise_zero bounds (spare -ℤ int_min spare (b.1 -ℤ b.0)) rest e)) (leasts arcs bounds has.1 rest))))
        (λ most.
        (let e : (b.0 +ℤ int_min spare (b.1 -ℤ b.0)) ≡ b.1 = omega (arith, ints, clamps) in
        inl (record {
          may = may_take a b (b.0 +ℤ int_min spare (b.1 -ℤ b.0)) has.0 (omega (arith, ints)) (omega (arith, ints));
          greatest = λ other may. (let t = (delay_within a b other has.0 may).to in omega (arith, ints));
        }))),
    raise_in_order (spare -ℤ int_min spare (b.1 -ℤ b.0)) arcs bounds has.1 rest (omega (arith, ints, clamps)),
  )

  pub total-append : (ds : List ℤ) (d : ℤ) → total (ds ++ d ∷ []) ≡ (total ds +ℤ d)
  total-append [] d = omega (arith, ints)
  total-append (e ∷ ds) d = let more = total-append ds d in omega (arith, ints)
