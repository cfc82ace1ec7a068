-- The values under a word follow the drivers.
use Rattle.std.proofs.Common.{◌≡◌, ℕ, ◌+◌, ◌<◌, ◌≤◌, Bool, true, false, List, [], ◌∷◌, length, get_or, map, take, refl, sym, ap, ◌∙◌, subst, arith, inl, inr}
use Rattle.std.proofs.lemmas.Bool.{cases_lt, false≢true}
use Rattle.std.proofs.lemmas.List.FromFn.{length-range_with_len, get_or-range_with_len}
use Rattle.std.proofs.lemmas.List.Elements.{filter_passes}
use Rattle.std.proofs.Math.ListN.{get_or-eq_default}
use Rattle.std.specs.Prelude.{Some}
use Rattle.std.specs.List.{filter, list_any, count_by, range_with_len}
use Rattle.rsfq_ids.specs.declared.table.CellRow.{CellRow}
use Rattle.rsfq_ids.specs.declared.table.Kind.{Kind}
use Rattle.rsfq_ids.specs.declared.table.Kind.TheVariants as kind
use Rattle.rsfq_ids.specs.declared.circuit.PortUse.{PortUse}
use Rattle.rsfq_ids.specs.declared.circuit.PortUse.TheVariants as port_use
use Rattle.rsfq_ids.specs.declared.circuit.Driver.TheVariants as driver
use Rattle.rsfq_ids.specs.declared.offence.PathArc.TheVariants as arc
use Rattle.rsfq_ids.specs.Circuit.{IsDrivenBy, IsOf, InputNets, is_gate}
use Rattle.rsfq_ids.specs.Bench.{IsUsed, is_data, bit_of, ones}
use Rattle.rsfq_ids.specs.Run.{Run, IsRun, numbers_of, truth_at}
use Rattle.rsfq_ids.specs.Value.{AreValues, value_of, value_made, port_value}
use Rattle.pulse_laws.proofs.Flows.{one_row, one_list}
use Rattle.pulse_laws.specs.Premises.{IsTimedBelow}
use Rattle.pulse_laws.proofs.Depths.{NotClock}
use Rattle.pulse_laws.proofs.Spots.{kept_at}
use Rattle.pulse_laws.proofs.Valued.{IsValued}
use Rattle.rsfq_ids.specs.Design.{Design}
use Rattle.rsfq_ids.specs.Ready.{IsReady}

nil_bit : (i : ℕ) → get_or [] i false ≡ false
nil_bit i = refl

pub made_gate : (k : Kind) (row : CellRow) (out : ℕ) (bits : List Bool) → is_gate k ≡ true → value_made k row out bits ≡ truth_at row out bits
made_gate kind.Jtl row out bits is = cc
made_gate kind.Split row out bits is = cc
made_gate kind.Merge row out bits is = cc
made_gate kind.Gate row out bits is = refl

pub made_passive : (k : Kind) (row : CellRow) (out : ℕ) (bits : List Bool) → is_gate k ≡ false → value_made k row out bits ≡ list_any (λ bit. bit) bits
made_passive kind.Jtl row out bits is = refl
made_passive kind.Split row out bits is = refl
made_passive kind.Merge row out bits is = refl
made_passive kind.Gate row out bits is = cc

module _ (design : Design) (run : Run) (rank : ℕ → ℕ) (ready : IsReady design rank) (is_run : IsRun design run)
    (top : ℕ) (timed : IsTimedBelow design rank top) (j : ℕ) where
  -- past the last word there are no ones
  no_word : (port : ℕ) → length run.words ≤ j → bit_of design.bench port (get_or run.words j []) ≡ true → ⊥
  no_word port past one =
      let none : get_or run.words j [] ≡ [] = get_or-eq_default run.words [] past in
      let zero_bit : bit_of design.bench port (get_or run.words j []) ≡ false = ap (λ (w : List Bool). bit_of design.bench port w) none ∙ nil_bit (count_by is_data (take port design.bench.uses)) in
      let wrong : false ≡ true = sym zero_bit ∙ one in cc

  pub number_found : (port : ℕ) → bit_of design.bench port (get_or run.words j []) ≡ true → (place : ℕ) × (place < length (ones design.bench port run.words)) × (get_or (ones design.bench port run.words) place 0 ≡ j)
  number_found port one = elim (cases_lt j (length run.words)) [
    | inl below ↦
        (let within : j < length (range_with_len 0 (length run.words)) = omega (arith, length-range_with_len 0 (length run.words)) in
        let at : (d : ℕ) → get_or (range_with_len 0 (length run.words)) j d ≡ j = λ d. get_or-range_with_len 0 (length run.words) j d below ∙ omega arith in
        let kept = kept_at (λ i. bit_of design.bench port (get_or run.words i [])) (range_with_len 0 (length run.words)) j within (λ d. subst (λ (i : ℕ). bit_of design.bench port (get_or run.words i []) ≡ true) (sym (at d)) one) in
        (length (filter (λ i. bit_of design.bench port (get_or run.words i [])) (take j (range_with_len 0 (length run.words)))), kept.below, kept.same 0 ∙ at 0))
    | inr past ↦ absurd (no_word port past one)
  ]

  pub number_bit : (port place : ℕ) → place < length (ones design.bench port run.words) → get_or (ones design.bench port run.words) place 0 ≡ j → bit_of design.bench port (get_or run.words j []) ≡ true
  number_bit port place l same =
      subst (λ (i : ℕ). bit_of design.bench port (get_or run.words i []) ≡ true) same (filter_passes (λ i. bit_of design.bench port (get_or run.words i [])) (range_with_len 0 (length run.words)) place 0 l)

  plus_zero : (a b : ℕ) → a ≡ b → a + 0 ≡ b
  plus_zero a b e = omega arith

  up_by_use : (port : ℕ) (used : PortUse) → port_value used design.bench port (get_or run.words j []) ≡ true → (place : ℕ) × (place < length (numbers_of used design.bench port run)) × (get_or (numbers_of used design.bench port run) place 0 + 0 ≡ j)
  up_by_use port port_use.Clock one = absurd (false≢true one)
  up_by_use port (port_use.Arrival low high) one = let found = number_found port one in (found.0, found.1, plus_zero _ j found.2)
  up_by_use port (port_use.Strobed strobe) one = absurd (false≢true one)

  minus_zero : (a b : ℕ) → a + 0 ≡ b → a ≡ b
  minus_zero a b e = omega arith

  down_by_use : (net port : ℕ) (used : PortUse) → IsDrivenBy design.flat net (driver.Port port) → IsUsed design.bench port used → NotClock design net → (place : ℕ) → place < length (numbers_of used design.bench port run) → get_or (numbers_of used design.bench port run) place 0 + 0 ≡ j →
      port_value used design.bench port (get_or run.words j []) ≡ true
  down_by_use net port port_use.Clock is used none place l same = absurd (none (arc.Port port ∷ []) (record { route = (net, is, refl); clock = ap (λ (p : ℕ). arc.Port p) (ready.one_clock port used); alone = refl }))
  down_by_use net port (port_use.Arrival low high) is used none place l same = number_bit port place l (minus_zero _ j same)
  down_by_use net port (port_use.Strobed strobe) is used none place l same = absurd (omega arith)

  module _ (values : List Bool) (are : AreValues design (get_or run.words j []) values) where
    at_port : (net port : ℕ) (used : PortUse) → IsDrivenBy design.flat net (driver.Port port) → IsUsed design.bench port used → value_of values net ≡ port_value used design.bench port (get_or run.words j [])
    at_port net port used is is_used =
        let given = are.given net (driver.Port port) is in
        let some : Some given.0 ≡ Some used = sym given.1 ∙ is_used in
        let same : given.0 ≡ used = cc in
        given.2 ∙ ap (λ (u : PortUse). port_value u design.bench port (get_or run.words j [])) same

    at_cell : (net cell out : ℕ) (row : CellRow) (nets : List ℕ) → IsDrivenBy design.flat net (driver.Out cell out) → IsOf design cell row → InputNets design.flat cell row nets → value_of values net ≡ value_made row.kind row out (map (value_of values) nets)
    at_cell net cell out row nets is of inputs =
        let given = are.given net (driver.Out cell out) is in
        let same_row : given.0 ≡ row = one_row design cell given.0 row given.2 of in
        let same_nets : given.1 ≡ nets = one_list design.flat cell ready.numbered _ given.1 nets (subst (λ (r : CellRow). InputNets design.flat cell r given.1) same_row given.3) inputs in
        given.4 ∙ ap (λ (r : CellRow). value_made r.kind r out (map (value_of values) given.1)) same_row ∙ ap (λ (ns : List ℕ). value_made row.kind row out (map (value_of values) ns)) same_nets

    pub word_valued : IsValued design run rank ready is_run top timed j 0 (value_of values)
    word_valued = record {
      port_up = λ net port used is is_used none one. up_by_use port used (sym (at_port net port used is is_used) ∙ one);
      port_down = λ net port used is is_used none place l same. at_port net port used is is_used ∙ down_by_use net port used is is_used none place l same;
      passive = λ net cell out row nets is of passive inputs. at_cell net cell out row nets is of inputs ∙ made_passive row.kind row out (map (value_of values) nets) passive;
      gate = λ net cell out row nets depth k is of gate low inputs has entry. at_cell net cell out row nets is of inputs ∙ made_gate row.kind row out (map (value_of values) nets) gate;
      before = λ net cell out row depth is of gate low has early. absurd (omega arith);
    }
