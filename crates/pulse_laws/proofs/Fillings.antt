-- Filling values follow the drivers.
use Rattle.std.proofs.Common.{◌≡◌, ℕ, ◌+◌, ◌<◌, ◌≤◌, Bool, true, false, not, ◌&&◌, pos, List, map, nat_lt, refl, sym, ap, ◌∙◌, subst, arith}
use Rattle.std.proofs.lemmas.Bool.{false≢true}
use Rattle.std.specs.List.{list_any}
use Rattle.rsfq_ids.specs.declared.table.CellRow.{CellRow}
use Rattle.rsfq_ids.specs.declared.circuit.Driver.TheVariants as driver
use Rattle.rsfq_ids.specs.declared.circuit.Reader.TheVariants as reader
use Rattle.rsfq_ids.specs.Circuit.{IsDrivenBy, IsOf, InputNets, is_gate}
use Rattle.rsfq_ids.specs.Run.{Run, IsRun, truth_at}
use Rattle.rsfq_ids.specs.Path.{HasDepth}
use Rattle.rsfq_ids.specs.Value.{value_of}
use Rattle.pulse_laws.proofs.Flows.{one_row, one_list}
use Rattle.pulse_laws.specs.Premises.{IsTimedBelow}
use Rattle.rsfq_ids.specs.Filling.{FillMade, AreFilling}
use Rattle.pulse_laws.proofs.Depths.{depth_one}
use Rattle.pulse_laws.proofs.Valued.{IsValued}
use Rattle.rsfq_ids.specs.Design.{Design}
use Rattle.rsfq_ids.specs.Ready.{IsReady}

pub in_time : (depth early : ℕ) → early ≤ depth → nat_lt depth early ≡ false
in_time depth early l = grind arith

too_early : (depth early : ℕ) → depth < early → nat_lt depth early ≡ true
too_early depth early l = grind arith

pub is_covered : (r top : ℕ) → r < top → nat_lt r top ≡ true
is_covered r top l = grind arith

pub and_at : (a b : Bool) → a ≡ false → (not a && b) ≡ b
and_at true b e = cc
and_at false b e = refl

pub and_not : (a b : Bool) → a ≡ true → (not a && b) ≡ false
and_not true b e = refl
and_not false b e = cc

module _ (design : Design) (rank : ℕ → ℕ) (ready : IsReady design rank) (covered : ℕ → Bool) (early : ℕ) (values : List Bool) (are : AreFilling design covered early values) where
  pub at_port : (net port : ℕ) → IsDrivenBy design.flat net (driver.Port port) → value_of values net ≡ false
  at_port net port is = are.given net (driver.Port port) is

  pub at_cell : (net cell out : ℕ) (row : CellRow) (nets : List ℕ) → IsDrivenBy design.flat net (driver.Out cell out) → IsOf design cell row → InputNets design.flat cell row nets →
      FillMade (is_gate row.kind) design (covered cell) early row cell out (map (value_of values) nets) (value_of values net)
  at_cell net cell out row nets is of inputs =
      let given = are.given net (driver.Out cell out) is in
      let same_row : given.0 ≡ row = one_row design cell given.0 row given.2 of in
      let same_nets : given.1 ≡ nets = one_list design.flat cell ready.numbered _ given.1 nets (subst (λ (r : CellRow). InputNets design.flat cell r given.1) same_row given.3) inputs in
      subst (λ (ns : List ℕ). FillMade (is_gate row.kind) design (covered cell) early row cell out (map (value_of values) ns) (value_of values net)) same_nets
      (subst (λ (r : CellRow). FillMade (is_gate r.kind) design (covered cell) early r cell out (map (value_of values) given.1) (value_of values net)) same_row given.4)

  pub at_gate : (net cell out : ℕ) (row : CellRow) (bits : List Bool) (depth : ℕ) (g c : Bool) → g ≡ true → c ≡ true → HasDepth design (reader.Pin cell 0) (pos depth) → FillMade g design c early row cell out bits (value_of values net) →
      value_of values net ≡ (not (nat_lt depth early) && truth_at row out bits)
  at_gate net cell out row bits depth true true is covers has (deep, had, same) = same ∙ ap (λ (x : ℕ). not (nat_lt x early) && truth_at row out bits) (depth_one design deep depth had has)
  at_gate net cell out row bits depth true false is covers has made = cc
  at_gate net cell out row bits depth false c is covers has made = cc

  pub at_passive : (net cell out : ℕ) (row : CellRow) (bits : List Bool) (g c : Bool) → g ≡ false → FillMade g design c early row cell out bits (value_of values net) → value_of values net ≡ list_any (λ bit. bit) bits
  at_passive net cell out row bits true c is made = cc
  at_passive net cell out row bits false c is made = made

  some_net : (net cell out : ℕ) (row : CellRow) → IsDrivenBy design.flat net (driver.Out cell out) → IsOf design cell row → (nets : List ℕ) × InputNets design.flat cell row nets
  some_net net cell out row is of =
      let given = are.given net (driver.Out cell out) is in
      let same_row : given.0 ≡ row = one_row design cell given.0 row given.2 of in (given.1, subst (λ (r : CellRow). InputNets design.flat cell r given.1) same_row given.3)

module _ (design : Design) (run : Run) (rank : ℕ → ℕ) (ready : IsReady design rank) (is_run : IsRun design run)
    (top : ℕ) (timed : IsTimedBelow design rank top) (early : ℕ) (some_early : 0 < early) (values : List Bool) (are : AreFilling design (λ cell. nat_lt (rank cell) top) early values) where
  -- no pulse comes so early at a port
  none_early : (p : ℕ) → p + early ≡ 0 → ⊥
  none_early p e = omega arith

  pub fill_valued : IsValued design run rank ready is_run top timed 0 early (value_of values)
  fill_valued = record {
    port_up = λ net port used is is_used none one. absurd (false≢true (sym (at_port design rank ready (λ cell. nat_lt (rank cell) top) early values are net port is) ∙ one));
    port_down = λ net port used is is_used none place l same. absurd (none_early _ same);
    passive = λ net cell out row nets is of passive inputs. at_passive design rank ready (λ cell. nat_lt (rank cell) top) early values are net cell out row (map (value_of values) nets) (is_gate row.kind) (nat_lt (rank cell) top) passive (at_cell design rank ready (λ cell. nat_lt (rank cell) top) early values are net cell out row nets is of inputs);
    gate = λ net cell out row nets depth k is of gate low inputs has entry.
        at_gate design rank ready (λ cell. nat_lt (rank cell) top) early values are net cell out row (map (value_of values) nets) depth (is_gate row.kind) (nat_lt (rank cell) top) gate (is_covered (rank cell) top low) has (at_cell design rank ready (λ cell. nat_lt (rank cell) top) early values are net cell out row nets is of inputs) ∙ and_at (nat_lt depth early) (truth_at row out (map (value_of values) nets)) (in_time depth early (omega arith));
    before = λ net cell out row depth is of gate low has soon.
        (let inputs = some_net design rank ready (λ cell. nat_lt (rank cell) top) early values are net cell out row is of in
        at_gate design rank ready (λ cell. nat_lt (rank cell) top) early values are net cell out row (map (value_of values) inputs.0) depth (is_gate row.kind) (nat_lt (rank cell) top) gate (is_covered (rank cell) top low) has (at_cell design rank ready (λ cell. nat_lt (rank cell) top) early values are net cell out row inputs.0 is of inputs.1)
        ∙ and_not (nat_lt depth early) (truth_at row out (map (value_of values) inputs.0)) (too_early depth early (omega arith)));
  }
