-- A bound source has one refusal, but that of several rings any may be named.
use Rattle.std.proofs.Common.{◌≡◌, ◌≢◌, ◌∙◌, ◌<◌, ℕ, inl, inr, List, Result, Ok, Err, refl, sym, ap, subst, arith}
use Rattle.std.specs.Prelude.{slice_get, IfOk, IfErr, OnOk}
use Rattle.std.proofs.lemmas.Bool.{cases_order}
use Rattle.std.proofs.lemmas.Option.{same_Some}
use Rattle.std.proofs.lemmas.Result.{IfErr-weaker}
use Rattle.rsfq_ids.specs.declared.table.CellTable.{CellTable}
use Rattle.rsfq_ids.specs.declared.circuit.Flat.{Flat}
use Rattle.rsfq_ids.specs.declared.circuit.Driver.{Driver}
use Rattle.bind_forms.specs.declared.bound.Bound.{Bound}
use Rattle.flat_places.specs.declared.limits.SizeFault.{SizeFault}
use Rattle.flat_places.specs.declared.limits.SizeFault.TheVariants as limit
use Rattle.flat_places.specs.Sizes.{PassesLimit}
use Rattle.flat_places.specs.Circuit.{IsCircuitOf}
use Rattle.flat_places.specs.Names.{place_name, driver_name, reader_name}
use Rattle.flat_places.specs.Places.{Place, places_of}
use Rattle.flat_places.specs.Refusal.{IsFirstTwo}
use Rattle.flattener.specs.declared.fault.FlatFault.{FlatFault}
use Rattle.flattener.specs.declared.fault.FlatFault.TheVariants.{NestingLimit, CellLimit, WireLimit, TwoDrivers, AliasLoop, NoDriver, Memory}
use Rattle.flattener.specs.Limits.{flat_fault}
use Rattle.flattener.specs.Refused.{shape_of, drivers_in, readers_in, IsSound, NamesTwo, NamesUndriven, IsFlatFault, AgreeButRings}
use Rattle.flattener.proofs.Excluding.{Excludes, excluded}

-- ---- limits

one_limit : (bound : Bound) (one other : SizeFault) → one ≢ limit.Memory → other ≢ limit.Memory → PassesLimit bound one → PassesLimit bound other → one ≡ other
one_limit bound (limit.Nesting count) (limit.Nesting most) a b p q = ap limit.Nesting (p.0 ∙ sym q.0)
one_limit bound (limit.Nesting count) (limit.Cells most) a b p q = absurd (q.1 p.1)
one_limit bound (limit.Nesting count) (limit.Wires most) a b p q = absurd (q.1 p.1)
one_limit bound (limit.Nesting count) limit.Memory a b p q = absurd (b refl)
one_limit bound (limit.Cells count) (limit.Nesting most) a b p q = absurd (p.1 q.1)
one_limit bound (limit.Cells count) (limit.Cells most) a b p q = ap limit.Cells (p.0 ∙ sym q.0)
one_limit bound (limit.Cells count) (limit.Wires most) a b p q = let more = p.2 in let few = q.2 in absurd (omega (arith, more, few))
one_limit bound (limit.Cells count) limit.Memory a b p q = absurd (b refl)
one_limit bound (limit.Wires count) (limit.Nesting most) a b p q = absurd (p.1 q.1)
one_limit bound (limit.Wires count) (limit.Cells most) a b p q = let few = p.2 in let more = q.2 in absurd (omega (arith, more, few))
one_limit bound (limit.Wires count) (limit.Wires most) a b p q = ap limit.Wires (p.0 ∙ sym q.0)
one_limit bound (limit.Wires count) limit.Memory a b p q = absurd (b refl)
one_limit bound limit.Memory other a b p q = absurd (a refl)

limit_agrees : (table : CellTable) (bound : Bound) → Excludes table bound → (one : SizeFault) → one ≢ limit.Memory → PassesLimit bound one → (other : FlatFault) → IsFlatFault table bound other → other ≢ Memory → flat_fault one ≡ other
limit_agrees table bound laws one named p (NestingLimit count) r known = ap flat_fault (one_limit bound one (limit.Nesting count) named (λ e. cc) p r)
limit_agrees table bound laws one named p (CellLimit count) r known = ap flat_fault (one_limit bound one (limit.Cells count) named (λ e. cc) p r)
limit_agrees table bound laws one named p (WireLimit count) r known = ap flat_fault (one_limit bound one (limit.Wires count) named (λ e. cc) p r)
limit_agrees table bound laws one named p (TwoDrivers wire first second) r known = absurd (laws.limits one named p r.0)
limit_agrees table bound laws one named p (AliasLoop wires) r known = absurd (laws.limits one named p r.0)
limit_agrees table bound laws one named p (NoDriver pin) r known = absurd (laws.limits one named p r.0.limits)
limit_agrees table bound laws one named p Memory r known = absurd (known refl)

-- ---- firsts

-- two numbers of which neither is smaller are equal
split : (a b : ℕ) → (a < b → ⊥) → (b < a → ⊥) → a ≡ b
split a b low high = elim (cases_order a b) [
  | inl same ↦ same
  | inr other ↦ elim other [
    | inl less ↦ absurd (low less)
    | inr more ↦ absurd (high more)
  ]
]

place_agrees : (table : CellTable) (bound : Bound) → Excludes table bound → (p q : Place) (a b c d : Driver) → (one : IsFirstTwo table bound (drivers_in table bound) p a b) → (other : IsFirstTwo table bound (drivers_in table bound) q c d) → p ≡ q
place_agrees table bound laws p q a b c d one other =
    let same : one.number ≡ other.number = split one.number other.number
    (λ low. laws.two (shape_of bound) p a b one (other.before one.number p low one.numbered))
    (λ low. laws.two (shape_of bound) q c d other (one.before other.number q low other.numbered)) in
    same_Some p q (sym one.numbered ∙ ap (slice_get (places_of bound)) same ∙ other.numbered)

-- of one place, the first two nets are one pair
low_agrees : (table : CellTable) (bound : Bound) (p : Place) (a b c d : Driver) → (one : IsFirstTwo table bound (drivers_in table bound) p a b) → (other : IsFirstTwo table bound (drivers_in table bound) p c d) → one.low ≡ other.low
low_agrees table bound p a b c d one other = elim (one.others other.low c other.first_at other.drives_first) [
  | inl same ↦ sym same
  | inr above ↦ elim (other.others one.low a one.first_at one.drives_first) [
    | inl same ↦ same
    | inr below ↦ let up = one.order in let down = other.order in absurd (omega (arith, above, below, up, down))
  ]
]

high_agrees : (table : CellTable) (bound : Bound) (p : Place) (a b c d : Driver) → (one : IsFirstTwo table bound (drivers_in table bound) p a b) → (other : IsFirstTwo table bound (drivers_in table bound) p c d) → one.high ≡ other.high
high_agrees table bound p a b c d one other =
    let low : one.low ≡ other.low = low_agrees table bound p a b c d one other in
    let up = one.order in
    let down = other.order in
    elim (one.others other.high d other.second_at other.drives_second) [
      | inl same ↦ absurd (omega (arith, same, low, down))
      | inr above ↦ elim (other.others one.high b one.second_at one.drives_second) [
        | inl same ↦ absurd (omega (arith, same, low, up))
        | inr below ↦ omega (arith, above, below)
      ]
    ]

two_agree : (table : CellTable) (bound : Bound) → Excludes table bound → (wire first second wire2 first2 second2 : List ℕ) → NamesTwo table bound wire first second → NamesTwo table bound wire2 first2 second2 →
    TwoDrivers wire first second ≡ TwoDrivers wire2 first2 second2
two_agree table bound laws wire first second wire2 first2 second2 n m =
    let place : m.place ≡ n.place = place_agrees table bound laws m.place n.place m.one m.other n.one n.other m.is_first n.is_first in
    let moved : IsFirstTwo table bound (drivers_in table bound) n.place m.one m.other = subst (λ (p : Place). IsFirstTwo table bound (drivers_in table bound) p m.one m.other) place m.is_first in
    let low = low_agrees table bound n.place n.one n.other m.one m.other n.is_first moved in
    let high = high_agrees table bound n.place n.one n.other m.one m.other n.is_first moved in
    let one : n.one ≡ m.one = same_Some n.one m.one (sym n.is_first.first_at ∙ ap (slice_get (drivers_in table bound)) low ∙ moved.first_at) in
    let other : n.other ≡ m.other = same_Some n.other m.other (sym n.is_first.second_at ∙ ap (slice_get (drivers_in table bound)) high ∙ moved.second_at) in
    by (n.wire_name ∙ ap (place_name bound) (sym place) ∙ sym m.wire_name) (n.first_name ∙ ap (driver_name table bound) one ∙ sym m.first_name) (n.second_name ∙ ap (driver_name table bound) other ∙ sym m.second_name) where
      by : wire ≡ wire2 → first ≡ first2 → second ≡ second2 → TwoDrivers wire first second ≡ TwoDrivers wire2 first2 second2
      by w f g = ap (λ (x : List ℕ). TwoDrivers x first second) w ∙ ap (λ (x : List ℕ). TwoDrivers wire2 x second) f ∙ ap (λ (x : List ℕ). TwoDrivers wire2 first2 x) g

undriven_agree : (table : CellTable) (bound : Bound) (pin other : List ℕ) → NamesUndriven table bound pin → NamesUndriven table bound other → NoDriver pin ≡ NoDriver other
undriven_agree table bound pin other n m =
    let one = n.is_first in
    let two = m.is_first in
    let same : one.pin ≡ two.pin = split one.pin two.pin
    (λ low. let r = two.before one.pin n.reader low one.numbered in one.undriven r.0 r.1)
    (λ low. let r = one.before two.pin m.reader low two.numbered in two.undriven r.0 r.1) in
    let reader : n.reader ≡ m.reader = same_Some n.reader m.reader (sym one.numbered ∙ ap (slice_get (readers_in table bound)) same ∙ two.numbered) in
    ap NoDriver (n.name ∙ ap (reader_name table bound) reader ∙ sym m.name)

-- ---- all causes

agrees : (table : CellTable) (bound : Bound) → Excludes table bound → (why : FlatFault) → IsFlatFault table bound why → why ≢ Memory → (other : FlatFault) → other ≢ Memory → IsFlatFault table bound other → AgreeButRings why other
agrees table bound laws (NestingLimit count) r known other named q = inl (limit_agrees table bound laws (limit.Nesting count) (λ e. cc) r other q named)
agrees table bound laws (CellLimit count) r known other named q = inl (limit_agrees table bound laws (limit.Cells count) (λ e. cc) r other q named)
agrees table bound laws (WireLimit count) r known other named q = inl (limit_agrees table bound laws (limit.Wires count) (λ e. cc) r other q named)
agrees table bound laws why r known (NestingLimit count) named q = inl (sym (limit_agrees table bound laws (limit.Nesting count) (λ e. cc) q why r known))
agrees table bound laws why r known (CellLimit count) named q = inl (sym (limit_agrees table bound laws (limit.Cells count) (λ e. cc) q why r known))
agrees table bound laws why r known (WireLimit count) named q = inl (sym (limit_agrees table bound laws (limit.Wires count) (λ e. cc) q why r known))
agrees table bound laws (TwoDrivers wire first second) r known (TwoDrivers wire2 first2 second2) named q = inl (two_agree table bound laws wire first second wire2 first2 second2 r.1 q.1)
agrees table bound laws (TwoDrivers wire first second) r known (AliasLoop wires) named q = let n = r.1 in absurd (laws.two (shape_of bound) n.place n.one n.other n.is_first (q.1 n.place))
agrees table bound laws (TwoDrivers wire first second) r known (NoDriver pin) named q = let n = r.1 in absurd (laws.two (shape_of bound) n.place n.one n.other n.is_first (q.0.once n.place))
agrees table bound laws (AliasLoop wires) r known (TwoDrivers wire first second) named q = let n = q.1 in absurd (laws.two (shape_of bound) n.place n.one n.other n.is_first (r.1 n.place))
agrees table bound laws (AliasLoop wires) r known (AliasLoop others) named q = inr ((wires, refl), (others, refl))
agrees table bound laws (AliasLoop wires) r known (NoDriver pin) named q = let n = r.2 in absurd (q.0.open_ended n.ring (laws.rings n.ring n.is_named))
agrees table bound laws (NoDriver pin) r known (TwoDrivers wire first second) named q = let n = q.1 in absurd (laws.two (shape_of bound) n.place n.one n.other n.is_first (r.0.once n.place))
agrees table bound laws (NoDriver pin) r known (AliasLoop wires) named q = let n = q.2 in absurd (r.0.open_ended n.ring (laws.rings n.ring n.is_named))
agrees table bound laws (NoDriver pin) r known (NoDriver other) named q = inl (undriven_agree table bound pin other r.1 q.1)
agrees table bound laws Memory r known other named q = absurd (known refl)
agrees table bound laws why r known Memory named q = absurd (named refl)

pub refusals_agree : (table : CellTable) (bound : Bound) → Excludes table bound → (result : Result Flat FlatFault) → IfErr result (IsFlatFault table bound) →
    IfErr result (λ why. why ≢ Memory → (other : FlatFault) → other ≢ Memory → IsFlatFault table bound other → AgreeButRings why other)
refusals_agree table bound laws result = IfErr-weaker result (IsFlatFault table bound) (λ why. why ≢ Memory → (other : FlatFault) → other ≢ Memory → IsFlatFault table bound other → AgreeButRings why other) (agrees table bound laws)

pub unrefused : (table : CellTable) (bound : Bound) → Excludes table bound → (result : Result Flat FlatFault) → IfOk result (IsCircuitOf table bound) → OnOk result (IsSound table bound) →
    IfOk result (λ flat. (other : FlatFault) → other ≢ Memory → IsFlatFault table bound other → ⊥)
unrefused table bound laws (Ok flat) circuit sound = λ other named r. excluded table bound laws other r named flat sound circuit
unrefused table bound laws (Err why) circuit sound = tt
