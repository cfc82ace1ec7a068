-- What a driver gives its net in a well-formed design: there is such a value, and only one.
use Rattle.std.proofs.Common.{◌≡◌, ℕ, ◌+◌, ◌<◌, ◌≤◌, inl, inr, Bool, List, length, map, sym, ap, ◌∙◌, subst, arith}
use Rattle.std.specs.Prelude.{Some, None, slice_get}
use Rattle.std.proofs.lemmas.Bool.{cases_lt}
use Rattle.rsfq_ids.specs.declared.table.CellRow.{CellRow}
use Rattle.rsfq_ids.specs.declared.table.Kind.{Kind}
use Rattle.rsfq_ids.specs.declared.table.Kind.TheVariants as kind
use Rattle.rsfq_ids.specs.declared.circuit.Flat.{Flat}
use Rattle.rsfq_ids.specs.declared.circuit.PortUse.{PortUse}
use Rattle.rsfq_ids.specs.declared.circuit.Driver.{Driver}
use Rattle.rsfq_ids.specs.declared.circuit.Driver.TheVariants as driver
use Rattle.rsfq_ids.specs.Design.{Design}
use Rattle.rsfq_ids.specs.Circuit.{IsDrivenBy, IsOf, InputNets, row_of}
use Rattle.rsfq_ids.specs.Bench.{IsUsed}
use Rattle.rsfq_ids.specs.Value.{value_of, value_made, port_value, Gives}
use Rattle.rsfq_ids.specs.WellFormed.{FitsKind}
use Rattle.rsfq_ids.specs.Ready.{IsSetUp}
use Rattle.pulse_laws.proofs.Flows.{one_row, one_list}
use Rattle.pulse_laws.proofs.Ready.{rows, complete, numbered}

few : (k : Kind) (row : CellRow) → FitsKind k row → length row.inputs ≤ 3
few kind.Jtl row fits = let e = fits.0 in omega arith
few kind.Split row fits = let e = fits.0 in omega arith
few kind.Merge row fits = let e = fits.0 in omega arith
few kind.Gate row fits = fits.1

module _ (design : Design) (set_up : IsSetUp design) where
  -- the cell that drives a net has a row
  pub has_row : (net cell out : ℕ) → IsDrivenBy design.flat net (driver.Out cell out) → ¬ (row_of design cell ≡ None)
  has_row net cell out is none = let c = complete design set_up net (driver.Out cell out) is in let e : Some c.0 ≡ None = sym c.2 ∙ none in cc

  -- its inputs are at most three, and read nets
  pub few_inputs : (cell : ℕ) (row : CellRow) → IsOf design cell row → length row.inputs ≤ 3
  few_inputs cell row of = few row.kind row (rows design set_up cell row of).kind

  pub inputs_of : (net cell out : ℕ) → IsDrivenBy design.flat net (driver.Out cell out) → (row : CellRow) → IsOf design cell row → (nets : List ℕ) × InputNets design.flat cell row nets
  inputs_of net cell out is row of = let c = complete design set_up net (driver.Out cell out) is in (c.1, subst (λ (r : CellRow). InputNets design.flat cell r c.1) (one_row design cell c.0 row c.2 of) c.3)

  -- a port that drives a net has a use
  pub use_of : (net port : ℕ) → IsDrivenBy design.flat net (driver.Port port) → (used : PortUse) × IsUsed design.bench port used
  use_of net port is = complete design set_up net (driver.Port port) is

  -- a driver gives one value
  pub gives_one : (word values : List Bool) (d : Driver) (a b : Bool) → Gives design word values d a → Gives design word values d b → a ≡ b
  gives_one word values (driver.Port port) a b (used, is, same) (other, is', same') =
      let some : Some used ≡ Some other = sym is ∙ is' in
      let uses : used ≡ other = cc in
      same ∙ ap (λ (u : PortUse). port_value u design.bench port word) uses ∙ sym same'
  gives_one word values (driver.Out cell out) a b (row, nets, of, inputs, same) (row', nets', of', inputs', same') =
      let rows : row' ≡ row = one_row design cell row' row of' of in
      let lists : nets' ≡ nets = one_list design.flat cell (numbered design set_up.flat_fits) _ nets' nets (subst (λ (r : CellRow). InputNets design.flat cell r nets') rows inputs') inputs in
      same ∙ sym (ap (λ (ns : List ℕ). value_made row.kind row out (map (value_of values) ns)) lists) ∙ sym (ap (λ (r : CellRow). value_made r.kind r out (map (value_of values) nets')) rows) ∙ sym same'

-- what holds of the nets so far, and of the next one with its driver, holds of one net more
pub one_net_more : (flat : Flat) (P : ℕ → Driver → Type 0) (i : ℕ) (item : Driver) → slice_get flat.nets i ≡ Some item → ((net : ℕ) (d : Driver) → net < i → IsDrivenBy flat net d → P net d) → P i item → (net : ℕ) (d : Driver) → net < i + 1 → IsDrivenBy flat net d → P net d
one_net_more flat P i item at before here net d l is = elim (cases_lt net i) [
  | inl below ↦ before net d below is
  | inr above ↦
      (let same : net ≡ i = omega arith in
      let some : Some item ≡ Some d = sym at ∙ subst (λ (n : ℕ). slice_get flat.nets n ≡ Some d) same is in
      let drivers : item ≡ d = cc in
      subst (λ (x : Driver). P net x) drivers (subst (λ (n : ℕ). P n item) (sym same) here))
]
