-- A list of delays that is raised place by place.
use Rattle.std.proofs.Common.{◌≡◌, ℕ, zero, suc, ◌+◌, ◌<◌, ◌≤◌, ℤ, pos, ◌+ℤ◌, ◌-ℤ◌, ◌≤ℤ◌, List, [], ◌∷◌, ◌++◌, length, get_or, drop, refl, sym, ap, ◌∙◌, subst, arith, append_assoc}
use Rattle.std.proofs.lemmas.Int.{ints, clamps}
use Rattle.std.specs.Prelude.{Some}
use Rattle.std.specs.Int.{int_min}
use Rattle.std.specs.List.{AllZip}
use Rattle.rsfq_ids.specs.declared.table.CellRow.{CellRow}
use Rattle.rsfq_ids.specs.declared.circuit.PortUse.TheVariants as port_use
use Rattle.rsfq_ids.specs.declared.offence.PathArc.{PathArc}
use Rattle.rsfq_ids.specs.declared.offence.PathArc.TheVariants as arc
use Rattle.rsfq_ids.specs.Design.{Design}
use Rattle.wire_timing.specs.Reach.{HasBounds, raise}
use Rattle.wire_timing.proofs.Lists.{zip_at, zip_length}

-- an arc has one pair of bounds
pub bounds_one : (design : Design) (a : PathArc) (b c : ℤ × ℤ) → HasBounds design a b → HasBounds design a c → (b.0 ≡ c.0) × (b.1 ≡ c.1)
bounds_one design (arc.Port port) b c one two =
    let e : Some (port_use.Arrival b.0 b.1) ≡ Some (port_use.Arrival c.0 c.1) = sym one ∙ two in (cc, cc)
bounds_one design (arc.Through cell pin out) b c (row, of, low, high) (other, of', low', high') =
    let e : Some row ≡ Some other = sym of ∙ of' in
    let f : row ≡ other = cc in
    (low ∙ ap (λ (r : CellRow). r.low) f ∙ sym low', high ∙ ap (λ (r : CellRow). r.high) f ∙ sym high')

drop_at : (bounds : List (ℤ × ℤ)) (i : ℕ) (d : ℤ × ℤ) → i < length bounds → drop i bounds ≡ get_or bounds i d ∷ drop (i + 1) bounds
drop_at [] i d l = absurd (omega arith)
drop_at (b ∷ bounds) zero d l = refl
drop_at (b ∷ bounds) (suc i) d l = let e : suc i + 1 ≡ suc (i + 1) = omega arith in drop_at bounds i d (omega arith) ∙ sym (ap (λ (k : ℕ). get_or (b ∷ bounds) (suc i) d ∷ drop k (b ∷ bounds)) e)

-- what is raised so far, and what is left to raise
abbrev pub IsRaising : Design → List PathArc → ℤ → ℕ → List ℤ → ℤ → Type 0
IsRaising design arcs spare i delays left = (pos 0 ≤ℤ left) × (left ≤ℤ spare) × ((bounds : List (ℤ × ℤ)) → AllZip (HasBounds design) arcs bounds → delays ++ raise left (drop i bounds) ≡ raise spare bounds)

pub raise_on : (design : Design) (arcs : List PathArc) (spare : ℤ) (i : ℕ) (delays : List ℤ) (left low high : ℤ) (a : PathArc) → IsRaising design arcs spare i delays left → i < length arcs → a ≡ get_or arcs i a →
    HasBounds design a (low, high) → low ≤ℤ high → IsRaising design arcs spare (i + 1) (delays ++ (low +ℤ int_min left (high -ℤ low)) ∷ []) (left -ℤ int_min left (high -ℤ low))
raise_on design arcs spare i delays left low high a (natural, most, whole) l is has order = (
  omega (arith, ints, clamps),
  omega (arith, ints, clamps),
  λ bounds zip.
      let n = zip_length (HasBounds design) arcs bounds zip in
      let here : HasBounds design a (get_or bounds i (low, high)) = subst (λ (x : PathArc). HasBounds design x (get_or bounds i (low, high))) (sym is) (zip_at (HasBounds design) arcs bounds i a (low, high) zip l) in
      let (e, f) = bounds_one design a (low, high) (get_or bounds i (low, high)) has here in
      let d = drop_at bounds i (low, high) (omega arith) in
      step delays left low high (get_or bounds i (low, high)) (drop i bounds) (drop (i + 1) bounds) (raise spare bounds) e f d (whole bounds zip),
)
  where
    step : (delays : List ℤ) (left low high : ℤ) (b : ℤ × ℤ) (now next : List (ℤ × ℤ)) (all : List ℤ) → low ≡ b.0 → high ≡ b.1 → now ≡ b ∷ next → delays ++ raise left now ≡ all →
        (delays ++ (low +ℤ int_min left (high -ℤ low)) ∷ []) ++ raise (left -ℤ int_min left (high -ℤ low)) next ≡ all
    step delays left low high b now next all e f d whole =
        append_assoc delays ((low +ℤ int_min left (high -ℤ low)) ∷ []) (raise (left -ℤ int_min left (high -ℤ low)) next) ∙ ap (λ (xs : List ℤ). delays ++ xs) (
        ap (λ (z : ℤ). (z +ℤ int_min left (high -ℤ z)) ∷ raise (left -ℤ int_min left (high -ℤ z)) next) e
        ∙ ap (λ (z : ℤ). (b.0 +ℤ int_min left (z -ℤ b.0)) ∷ raise (left -ℤ int_min left (z -ℤ b.0)) next) f
        ∙ sym (ap (raise left) d)
        ) ∙ whole

-- the same, of values that are shown as they are cast
pub raise_step : (design : Design) (arcs : List PathArc) (spare : ℤ) (i : ℕ) (delays : List ℤ) (left low high : ℤ) (a : PathArc) → IsRaising design arcs spare i delays left → i < length arcs → a ≡ get_or arcs i a →
    HasBounds design a (low, high) → low ≤ℤ high → (from to delay rest : ℤ) (made : List ℤ) → from ≡ low → to ≡ high → delay ≡ (from +ℤ int_min left (to -ℤ from)) → rest ≡ (left -ℤ int_min left (to -ℤ from)) → made ≡ delays ++ delay ∷ [] →
    IsRaising design arcs spare (i + 1) made rest
raise_step design arcs spare i delays left low high a raising l is has order from to delay rest made e f g h made_is =
    let least : int_min left (to -ℤ from) ≡ int_min left (high -ℤ low) = ap (λ (z : ℤ). int_min left (z -ℤ from)) f ∙ ap (λ (z : ℤ). int_min left (high -ℤ z)) e in
    let delay_is : delay ≡ (low +ℤ int_min left (high -ℤ low)) = g ∙ ap (λ (z : ℤ). from +ℤ z) least ∙ ap (λ (z : ℤ). z +ℤ int_min left (high -ℤ low)) e in
    let rest_is : rest ≡ (left -ℤ int_min left (high -ℤ low)) = h ∙ ap (λ (z : ℤ). left -ℤ z) least in
    subst (λ (ds : List ℤ). IsRaising design arcs spare (i + 1) ds rest) (sym (made_is ∙ ap (λ (z : ℤ). delays ++ z ∷ []) delay_is))
    (subst (λ (z : ℤ). IsRaising design arcs spare (i + 1) (delays ++ (low +ℤ int_min left (high -ℤ low)) ∷ []) z) (sym rest_is) (raise_on design arcs spare i delays left low high a raising l is has order))

-- the bounds of the arc at a place
pub bounds_there : (design : Design) (arcs : List PathArc) (i : ℕ) (a : PathArc) → ((bounds : List (ℤ × ℤ)) × AllZip (HasBounds design) arcs bounds) → i < length arcs → a ≡ get_or arcs i a → (b : ℤ × ℤ) × HasBounds design a b
bounds_there design arcs i a (bounds, zip) l is =
    (get_or bounds i (pos 0, pos 0), subst (λ (x : PathArc). HasBounds design x (get_or bounds i (pos 0, pos 0))) (sym is) (zip_at (HasBounds design) arcs bounds i a (pos 0, pos 0) zip l))

-- all raised
pub raise_ends : (design : Design) (arcs : List PathArc) (spare : ℤ) (i : ℕ) (delays : List ℤ) (left : ℤ) → IsRaising design arcs spare i delays left → length arcs ≤ i → (bounds : List (ℤ × ℤ)) → AllZip (HasBounds design) arcs bounds → delays ≡ raise spare bounds
raise_ends design arcs spare i delays left (natural, most, whole) end bounds zip =
    let n = zip_length (HasBounds design) arcs bounds zip in
    let none : drop i bounds ≡ [] = drop_past bounds i (omega arith) in
    sym (append_nil delays) ∙ sym (ap (λ (xs : List (ℤ × ℤ)). delays ++ raise left xs) none) ∙ whole bounds zip
  where
    drop_past : (bounds : List (ℤ × ℤ)) (i : ℕ) → length bounds ≤ i → drop i bounds ≡ []
    drop_past [] zero l = refl
    drop_past [] (suc i) l = refl
    drop_past (b ∷ bounds) zero l = absurd (omega arith)
    drop_past (b ∷ bounds) (suc i) l = drop_past bounds i (omega arith)

    append_nil : (xs : List ℤ) → xs ++ [] ≡ xs
    append_nil [] = refl
    append_nil (x ∷ xs) = ap (λ (ys : List ℤ). x ∷ ys) (append_nil xs)
