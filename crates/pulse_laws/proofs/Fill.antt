-- Between two choices of delays lie choices of every sum between.
use Rattle.std.proofs.Common.{◌≡◌, ℕ, ◌⊎◌, ℤ, ◌+ℤ◌, ◌-ℤ◌, ◌≤ℤ◌, List, [], ◌∷◌, refl, sym, ap, ◌∙◌, subst, arith, inl, inr}
use Rattle.std.proofs.lemmas.Int.{ints, by_lt_z}
use Rattle.std.proofs.lemmas.Bool.{cases_eq}
use Rattle.std.specs.Prelude.{Some}
use Rattle.std.specs.List.{AllZip}
use Rattle.rsfq_ids.specs.declared.circuit.Bench.{Bench}
use Rattle.rsfq_ids.specs.declared.circuit.PortUse.{PortUse}
use Rattle.rsfq_ids.specs.declared.circuit.PortUse.TheVariants as port_use
use Rattle.rsfq_ids.specs.declared.offence.PathArc.{PathArc}
use Rattle.rsfq_ids.specs.declared.offence.PathArc.TheVariants as arc
use Rattle.rsfq_ids.specs.Time.{IsWithin, total}
use Rattle.rsfq_ids.specs.Run.{IsPortDelay}
use Rattle.rsfq_ids.specs.Path.{IsDelay, SameDelays}
use Rattle.pulse_laws.proofs.Flows.{one_row}
use Rattle.rsfq_ids.specs.Design.{Design}

within_between : (low high d e f : ℤ) → IsWithin low high d → IsWithin low high e → d ≤ℤ f → f ≤ℤ e → IsWithin low high f
within_between low high d e f one two l m = let a = one.from in let b = two.to in record { from = omega (arith, ints); to = omega (arith, ints) }

port_between : (bench : Bench) (used : PortUse) (d e f : ℤ) → IsPortDelay bench used d → IsPortDelay bench used e → d ≤ℤ f → f ≤ℤ e → IsPortDelay bench used f
port_between bench port_use.Clock d e f one two l m = within_between _ _ d e f one two l m
port_between bench (port_use.Arrival low high) d e f one two l m = within_between _ _ d e f one two l m
port_between bench (port_use.Strobed strobe) d e f one two l m = one

-- whether two arcs are one
pub arc_cases : (a b : PathArc) → (a ≡ b) ⊎ (a ≡ b → ⊥)
arc_cases (arc.Port p) (arc.Port q) = elim (cases_eq p q) [ inl e ↦ inl (ap (λ (x : ℕ). arc.Port x) e) | inr n ↦ inr (λ e. n cc) ]
arc_cases (arc.Port p) (arc.Through cell pin out) = inr (λ e. cc)
arc_cases (arc.Through cell pin out) (arc.Port p) = inr (λ e. cc)
arc_cases (arc.Through cell pin out) (arc.Through other at to) = elim (cases_eq cell other) [
  | inl e ↦ elim (cases_eq pin at) [
    | inl f ↦ elim (cases_eq out to) [
      | inl g ↦ inl cc
      | inr n ↦ inr (λ h. n cc)
    ]
    | inr n ↦ inr (λ h. n cc)
  ]
  | inr n ↦ inr (λ h. n cc)
]

head_sum : (d t v : ℤ) → ((v -ℤ t) +ℤ t) ≡ v
head_sum d t v = omega (arith, ints)

module _ (design : Design) where
  delay_between : (a : PathArc) (d e f : ℤ) → IsDelay design a d → IsDelay design a e → d ≤ℤ f → f ≤ℤ e → IsDelay design a f
  delay_between (arc.Port port) d e f (used, is, one) (used', is', two) l m =
      let some : Some used' ≡ Some used = sym is' ∙ is in
      let same : used' ≡ used = cc in
      (used, is, port_between design.bench used d e f one (subst (λ (u : PortUse). IsPortDelay design.bench u e) same two) l m)
  delay_between (arc.Through cell pin out) d e f (row, of, one) (row', of', two) l m =
      let same = one_row design cell row' row of' of in
      (row, of, within_between row.low row.high d e f one (subst (λ r. IsWithin r.low r.high e) same two) l m)

  abbrev pub AreDelays : List PathArc → List ℤ → Type 0
  AreDelays arcs delays = AllZip (IsDelay design) arcs delays

  -- any sum between those of two lists of delays is that of one
  pub fill : (arcs : List PathArc) (ds es : List ℤ) → AreDelays arcs ds → AreDelays arcs es → (v : ℤ) → total ds ≤ℤ v → v ≤ℤ total es → (fs : List ℤ) × AreDelays arcs fs × (total fs ≡ v)
  fill [] [] [] one two v l m = ([], tt, omega (arith, ints))
  fill [] [] (e ∷ es) one two v l m = absurd two
  fill [] (d ∷ ds) es one two v l m = absurd one
  fill (a ∷ arcs) [] es one two v l m = absurd one
  fill (a ∷ arcs) (d ∷ ds) [] one two v l m = absurd two
  fill (a ∷ arcs) (d ∷ ds) (e ∷ es) one two v l m = by_lt_z (e +ℤ total ds) v
      (λ above.
      (let rest = fill arcs ds es one.1 two.1 (v -ℤ e) (omega (arith, ints)) (omega (arith, ints)) in
      (e ∷ rest.0, (two.0, rest.1), (let s = rest.2 in omega (arith, ints)))))
      (λ below. ((v -ℤ total ds) ∷ ds, (delay_between a d e (v -ℤ total ds) one.0 two.0 (omega (arith, ints)) (omega (arith, ints)), one.1), omega (arith, ints)))

  -- two lists of delays with a difference between two others
  pub record Meets (xs ys : List PathArc) (v : ℤ) : Type 0 where
    pub first : List ℤ
    pub second : List ℤ
    pub first_fits : AreDelays xs first
    pub second_fits : AreDelays ys second
    pub meets : (total first -ℤ total second) ≡ v

  pub meet_apart : (xs ys : List PathArc) (ds es ds' es' : List ℤ) → AreDelays xs ds → AreDelays ys es → AreDelays xs ds' → AreDelays ys es' → (v : ℤ) →
      (total ds -ℤ total es) ≤ℤ v → v ≤ℤ (total ds' -ℤ total es') → Meets xs ys v
  meet_apart xs ys ds es ds' es' d e d' e' v l m = by_lt_z (total ds' -ℤ total es) v
      (λ above.
      (let got = fill ys es' es e' e (total ds' -ℤ v) (omega (arith, ints)) (omega (arith, ints)) in
      record { first = ds'; second = got.0; first_fits = d'; second_fits = got.1; meets = (let s = got.2 in omega (arith, ints)) }))
      (λ below.
      (let got = fill xs ds ds' d d' (v +ℤ total es) (omega (arith, ints)) (omega (arith, ints)) in
      record { first = got.0; second = es; first_fits = got.1; second_fits = e; meets = (let s = got.2 in omega (arith, ints)) }))

  apart_shares : (a b : PathArc) (xs ys : List PathArc) (ds es : List ℤ) → (a ≡ b → ⊥) → SameDelays (a ∷ xs) ds (b ∷ ys) es
  apart_shares a b xs ys [] es other = tt
  apart_shares a b xs ys (d ∷ ds) [] other = tt
  apart_shares a b xs ys (d ∷ ds) (e ∷ es) other = λ same. absurd (other same)

  pub nil_shares : (xs : List PathArc) (ds es : List ℤ) → SameDelays xs ds [] es
  nil_shares [] ds es = tt
  nil_shares (a ∷ xs) [] es = tt
  nil_shares (a ∷ xs) (d ∷ ds) es = tt

  -- the same where what the arcs share has the same delays
  pub meet_shared : (xs ys : List PathArc) (ds es ds' es' : List ℤ) → AreDelays xs ds → AreDelays ys es → SameDelays xs ds ys es → AreDelays xs ds' → AreDelays ys es' → SameDelays xs ds' ys es' → (v : ℤ) →
      (total ds -ℤ total es) ≤ℤ v → v ≤ℤ (total ds' -ℤ total es') → (met : Meets xs ys v) × SameDelays xs met.first ys met.second
  meet_shared [] ys ds es ds' es' d e s d' e' s' v l m = (meet_apart [] ys ds es ds' es' d e d' e' v l m, tt)
  meet_shared (a ∷ xs) [] ds es ds' es' d e s d' e' s' v l m = let met = meet_apart (a ∷ xs) [] ds es ds' es' d e d' e' v l m in (met, nil_shares (a ∷ xs) met.first met.second)
  meet_shared (a ∷ xs) (b ∷ ys) [] es ds' es' d e s d' e' s' v l m = absurd d
  meet_shared (a ∷ xs) (b ∷ ys) (x ∷ ds) [] ds' es' d e s d' e' s' v l m = absurd e
  meet_shared (a ∷ xs) (b ∷ ys) (x ∷ ds) (y ∷ es) [] es' d e s d' e' s' v l m = absurd d'
  meet_shared (a ∷ xs) (b ∷ ys) (x ∷ ds) (y ∷ es) (x' ∷ ds') [] d e s d' e' s' v l m = absurd e'
  meet_shared (a ∷ xs) (b ∷ ys) (x ∷ ds) (y ∷ es) (x' ∷ ds') (y' ∷ es') d e s d' e' s' v l m = elim (arc_cases a b) [
    | inl same ↦
        (let here = s same in
        let there = s' same in
        let one : x ≡ y = here.0 in
        let two : x' ≡ y' = there.0 in
        let met = meet_shared xs ys ds es ds' es' d.1 e.1 here.1 d'.1 e'.1 there.1 v (omega (arith, ints)) (omega (arith, ints)) in
        let sum = met.0.meets in (
          record {
            first = x ∷ met.0.first;
            second = x ∷ met.0.second;
            first_fits = (d.0, met.0.first_fits);
            second_fits = (subst (λ (c : PathArc). IsDelay design c x) same d.0, met.0.second_fits);
            meets = omega (arith, ints);
          },
          λ same. (refl, met.1),
        ))
    | inr other ↦ (let met = meet_apart (a ∷ xs) (b ∷ ys) (x ∷ ds) (y ∷ es) (x' ∷ ds') (y' ∷ es') d e d' e' v l m in (met, apart_shares a b xs ys met.first met.second other))
  ]

  -- delays of one path that share with those of another what the paths share
  pub share : (xs ys : List PathArc) (ds es : List ℤ) → AreDelays xs ds → AreDelays ys es → (fs : List ℤ) × AreDelays ys fs × SameDelays xs ds ys fs
  share [] ys ds es d e = (es, e, tt)
  share (a ∷ xs) [] ds es d e = (es, e, nil_shares (a ∷ xs) ds es)
  share (a ∷ xs) (b ∷ ys) [] es d e = absurd d
  share (a ∷ xs) (b ∷ ys) (x ∷ ds) [] d e = absurd e
  share (a ∷ xs) (b ∷ ys) (x ∷ ds) (y ∷ es) d e = elim (arc_cases a b) [
    | inl same ↦ (let rest = share xs ys ds es d.1 e.1 in (x ∷ rest.0, (subst (λ (c : PathArc). IsDelay design c x) same d.0, rest.1), λ s. (refl, rest.2)))
    | inr other ↦ (y ∷ es, e, apart_shares a b xs ys (x ∷ ds) (y ∷ es) other)
  ]
