-- There is a filling.
use Rattle.std.proofs.Common.{◌≡◌, ℕ, zero, suc, ◌+◌, ◌-◌, ◌<◌, Bool, true, false, ◌⊎◌, pos, List, [], ◌∷◌, length, get_or, map, nat_lt, refl, ap, ◌∙◌, arith, inl, inr}
use Rattle.std.proofs.lemmas.Bool.{cases_eq}
use Rattle.std.specs.Prelude.{slice_get, Some}
use Rattle.std.specs.List.{AllZip}
use Rattle.rsfq_ids.specs.declared.table.CellRow.{CellRow}
use Rattle.rsfq_ids.specs.declared.circuit.Driver.{Driver}
use Rattle.rsfq_ids.specs.declared.circuit.Driver.TheVariants as driver
use Rattle.rsfq_ids.specs.declared.circuit.Reader.TheVariants as reader
use Rattle.rsfq_ids.specs.Circuit.{IsDrivenBy, IsOf, is_gate}
use Rattle.rsfq_ids.specs.Run.{truth_at}
use Rattle.rsfq_ids.specs.Path.{HasDepth}
use Rattle.rsfq_ids.specs.Value.{value_of}
use Rattle.pulse_laws.proofs.Flows.{one_row}
use Rattle.pulse_laws.specs.Premises.{IsTimedBelow}
use Rattle.rsfq_ids.specs.Filling.{IsFillBit}
use Rattle.pulse_laws.proofs.Depths.{input_count, input_net, gate_depth, pins_of, depth_one}
use Rattle.pulse_laws.proofs.Solutions.{fillings}
use Rattle.pulse_laws.proofs.Fillings.{and_at, in_time}
use Rattle.pulse_laws.proofs.FillPaths.{gate_rule, pin_paths}
use Rattle.rsfq_ids.specs.Design.{Design}
use Rattle.rsfq_ids.specs.Ready.{IsReady}
use Rattle.pulse_laws.specs.Values.{IsFillBelow}

driver_cases : (d : Driver) (cell out : ℕ) → (d ≡ driver.Out cell out) ⊎ (d ≡ driver.Out cell out → ⊥)
driver_cases (driver.Port port) cell out = inr (λ e. cc)
driver_cases (driver.Out c o) cell out = elim (cases_eq c cell) [
  | inl e ↦ elim (cases_eq o out) [
    | inl f ↦ inl cc
    | inr f ↦ inr (λ g. f cc)
  ]
  | inr e ↦ inr (λ g. e cc)
]

-- the net that an output of a cell drives, if there is one
find_net : (ds : List Driver) (cell out : ℕ) → ((n : ℕ) × (slice_get ds n ≡ Some (driver.Out cell out))) ⊎ ((n : ℕ) → slice_get ds n ≡ Some (driver.Out cell out) → ⊥)
find_net [] cell out = inr (λ n e. cc)
find_net (d ∷ ds) cell out = elim (driver_cases d cell out) [
  | inl here ↦ inl (0, ap (λ (x : Driver). Some x) here)
  | inr other ↦ elim (find_net ds cell out) [
    | inl (n, is) ↦ inl (suc n, is)
    | inr none ↦ inr (λ n is. neither n is other none)
  ]
]
  where
    neither : (n : ℕ) → slice_get (d ∷ ds) n ≡ Some (driver.Out cell out) → (d ≡ driver.Out cell out → ⊥) → ((n : ℕ) → slice_get ds n ≡ Some (driver.Out cell out) → ⊥) → ⊥
    neither zero is other none = other cc
    neither (suc n) is other none = none n is

zip_self : (R : ℕ → Bool → Type 0) (V : ℕ → Bool) (nets : List ℕ) → ((i : ℕ) → i < length nets → R (get_or nets i 0) (V (get_or nets i 0))) → AllZip R nets (map V nets)
zip_self R V [] each = tt
zip_self R V (m ∷ nets) each = (each 0 (omega arith), zip_self R V nets (λ i l. each (suc i) (omega arith)))

lt_from : (a b : ℕ) → nat_lt a b ≡ true → a < b
lt_from a b e = grind arith

lt_to : (a b : ℕ) → a < b → nat_lt a b ≡ true
lt_to a b l = grind arith

module _ (design : Design) (rank : ℕ → ℕ) (ready : IsReady design rank) (top : ℕ) (timed : IsTimedBelow design rank top) where
  fill_at : (net cell out k : ℕ) (row : CellRow) (g b : Bool) → is_gate row.kind ≡ g → nat_lt (rank cell) top ≡ b → IsDrivenBy design.flat net (driver.Out cell out) → IsOf design cell row → Bool
  fill_at net cell out k row false b passive low is of = false
  fill_at net cell out k row true false gate high is of = false
  fill_at net cell out k row true true gate low is of = value_of (fillings design rank ready top timed ((gate_depth design rank ready top timed cell row (lt_from (rank cell) top low) of gate (pins_of design rank ready top timed cell row of gate out net is)).0 - k)).0 net

  fill_found : (cell out k : ℕ) → ((n : ℕ) × (slice_get design.flat.nets n ≡ Some (driver.Out cell out))) ⊎ ((n : ℕ) → slice_get design.flat.nets n ≡ Some (driver.Out cell out) → ⊥) → Bool
  fill_found cell out k (inl (net, is)) = let c = ready.complete net (driver.Out cell out) is in fill_at net cell out k c.0 (is_gate c.0.kind) (nat_lt (rank cell) top) refl refl is c.2
  fill_found cell out k (inr none) = false

  fill_of : ℕ → ℕ → ℕ → Bool
  fill_of cell out k = fill_found cell out k (find_net design.flat.nets cell out)

  at_gate_is : (net cell out k depth early : ℕ) (row : CellRow) (g b : Bool) (e : is_gate row.kind ≡ g) (lo : nat_lt (rank cell) top ≡ b) (is : IsDrivenBy design.flat net (driver.Out cell out)) (of : IsOf design cell row) → g ≡ true → b ≡ true → HasDepth design (reader.Pin cell 0) (pos depth) → k + early ≡ depth →
      fill_at net cell out k row g b e lo is of ≡ value_of (fillings design rank ready top timed early).0 net
  unfolding fill_at
  at_gate_is net cell out k depth early row false b e lo is of gate low has entry = cc
  at_gate_is net cell out k depth early row true false e lo is of gate low has entry = cc
  at_gate_is net cell out k depth early row true true e lo is of gate low has entry =
      let deep = gate_depth design rank ready top timed cell row (lt_from (rank cell) top lo) of e (pins_of design rank ready top timed cell row of e out net is) in
      let same : deep.0 ≡ depth = depth_one design deep.0 depth deep.1 has in
      let less : deep.0 - k ≡ early = omega arith in
      ap (λ (x : ℕ). value_of (fillings design rank ready top timed x).0 net) less

  found_is : (cell out k depth early net : ℕ) (row : CellRow) (o : ((n : ℕ) × (slice_get design.flat.nets n ≡ Some (driver.Out cell out))) ⊎ ((n : ℕ) → slice_get design.flat.nets n ≡ Some (driver.Out cell out) → ⊥)) → IsDrivenBy design.flat net (driver.Out cell out) → IsOf design cell row →
      is_gate row.kind ≡ true → rank cell < top → HasDepth design (reader.Pin cell 0) (pos depth) → k + early ≡ depth → fill_found cell out k o ≡ value_of (fillings design rank ready top timed early).0 net
  unfolding fill_found
  found_is cell out k depth early net row (inl (n, at)) is of gate low has entry =
      let c = ready.complete n (driver.Out cell out) at in
      let same_row : c.0 ≡ row = one_row design cell c.0 row c.2 of in
      let same_net : n ≡ net = ready.numbered.one_net (driver.Out cell out) n net at is in
      at_gate_is n cell out k depth early c.0 (is_gate c.0.kind) (nat_lt (rank cell) top) refl refl at c.2 (ap (λ (r : CellRow). is_gate r.kind) same_row ∙ gate) (lt_to (rank cell) top low) has entry ∙ ap (λ (x : ℕ). value_of (fillings design rank ready top timed early).0 x) same_net
  found_is cell out k depth early net row (inr none) is of gate low has entry = absurd (none net is)

  fill_of_is : (cell out k depth early net : ℕ) (row : CellRow) → IsDrivenBy design.flat net (driver.Out cell out) → IsOf design cell row → is_gate row.kind ≡ true → rank cell < top → HasDepth design (reader.Pin cell 0) (pos depth) → k + early ≡ depth →
      fill_of cell out k ≡ value_of (fillings design rank ready top timed early).0 net
  unfolding fill_of
  fill_of_is cell out k depth early net row is of gate low has entry = found_is cell out k depth early net row (find_net design.flat.nets cell out) is of gate low has entry

  pub fill_exists : (fill : ℕ → ℕ → ℕ → Bool) × IsFillBelow design rank top fill
  fill_exists = (
    fill_of,
    λ cell out net row nets depth k low of gate is inputs has below.
        let early : ℕ = depth - k in
        let entry : k + early ≡ depth = omega arith in
        let some_early : 0 < early = omega arith in
        let values = fillings design rank ready top timed early in
        let pins = pins_of design rank ready top timed cell row of gate out net is in (
          map (value_of values.0) nets,
          zip_self (λ m bit. IsFillBit design fill_of m depth k bit) (value_of values.0) nets (λ i l.
              let input : i < length row.inputs = (let c = input_count design.flat cell row nets inputs in omega arith) in
              let reads = input_net design.flat cell row nets inputs i input in
              pin_paths design rank ready top timed early some_early values.0 values.1 fill_of cell i (get_or nets i 0) reads.0 pins.clock row depth k of gate input reads.1 pins.clock_reads has entry low
              (λ c o m r dp e less low' of' gate' is' has' entry'. fill_of_is c o e dp early m r is' of' gate' low' has' entry')),
          fill_of_is cell out k depth early net row is of gate low has entry
              ∙ gate_rule design rank ready top timed early some_early values.0 values.1 net cell out row nets depth low is of inputs gate has ∙ and_at (nat_lt depth early) (truth_at row out (map (value_of values.0) nets)) (in_time depth early (omega arith)),
        ),
  )
