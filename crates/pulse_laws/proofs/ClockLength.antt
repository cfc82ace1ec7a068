-- A clock net has one pulse for each clock pulse.
use Rattle.std.proofs.Common.{◌≡◌, ℕ, ◌+◌, ◌<◌, Bool, true, false, not, cond, ℤ, ◌-ℤ◌, List, [], ◌∷◌, length, refl, sym, ap, ◌∙◌, subst, arith, length-append}
use Rattle.std.proofs.lemmas.List.Sums.{sum_by-cons}
use Rattle.std.proofs.lemmas.List.FromFn.{length-range_with_len}
use Rattle.std.specs.Prelude.{Some}
use Rattle.std.specs.Option.{option_map_or}
use Rattle.std.specs.List.{count_by, flat_map, range_with_len}
use Rattle.rsfq_ids.specs.declared.table.CellRow.{CellRow}
use Rattle.rsfq_ids.specs.declared.table.Kind.{Kind}
use Rattle.rsfq_ids.specs.declared.table.Kind.TheVariants as kind
use Rattle.rsfq_ids.specs.declared.circuit.Flat.{Flat}
use Rattle.rsfq_ids.specs.declared.circuit.PortUse.{PortUse}
use Rattle.rsfq_ids.specs.declared.circuit.PortUse.TheVariants as port_use
use Rattle.rsfq_ids.specs.declared.circuit.Driver.TheVariants as driver
use Rattle.rsfq_ids.specs.declared.circuit.Reader.TheVariants as reader
use Rattle.rsfq_ids.specs.declared.offence.PathArc.{PathArc}
use Rattle.rsfq_ids.specs.declared.offence.PathArc.TheVariants as arc
use Rattle.rsfq_ids.specs.Time.{IsWithin, Follow}
use Rattle.rsfq_ids.specs.Circuit.{IsDrivenBy, Reads, IsOf, InputNets, PinsRead, is_gate, is_copying}
use Rattle.rsfq_ids.specs.Bench.{IsUsed}
use Rattle.rsfq_ids.specs.Run.{Run, IsRun, ComesOut, IsPortDelay, numbers_of, times_of}
use Rattle.rsfq_ids.specs.Path.{IsPassedFrom, ArcLeads, ArcsLead, IsClockRoute, passes}
use Rattle.rsfq_ids.specs.Numbering.{IsNumbered}
use Rattle.rsfq_ids.specs.WellFormed.{FitsKind}
use Rattle.pulse_laws.proofs.Flows.{one_row}
use Rattle.pulse_laws.proofs.Zips.{zip_length}
use Rattle.rsfq_ids.specs.Design.{Design}

-- what comes out of a JTL or a splitter
split_out : (k : Kind) (row : CellRow) (flat : Flat) (cell out : ℕ) (pulses : List (List ℤ)) (nets : List ℕ) (times : List ℤ) → is_copying k ≡ true → FitsKind k row → ComesOut k row flat cell out pulses nets times →
    (is_gate k ≡ false) × (length row.inputs ≡ 1) × Follow row.low row.high (flat_map (times_of pulses) nets) times
split_out kind.Jtl row flat cell out pulses nets times is fits comes = (refl, fits.0, comes)
split_out kind.Split row flat cell out pulses nets times is fits comes = (refl, fits.0, comes)
split_out kind.Merge row flat cell out pulses nets times is fits comes = cc
split_out kind.Gate row flat cell out pulses nets times is fits comes = cc

-- the pulses at the one input of a cell
one_list_length : (pulses : List (List ℤ)) (flat : Flat) (cell net : ℕ) → IsNumbered flat → (nets : List ℕ) → PinsRead flat cell 1 nets → Reads flat (reader.Pin cell 0) net → length (flat_map (times_of pulses) nets) ≡ length (times_of pulses net)
one_list_length pulses flat cell net numbered [] inputs reads = absurd inputs
one_list_length pulses flat cell net numbered (m ∷ []) inputs reads =
    let same : m ≡ net = numbered.one_read (reader.Pin cell 0) m net inputs.0 reads in
    length-append (times_of pulses m) [] ∙ omega arith ∙ ap (λ (x : ℕ). length (times_of pulses x)) same
one_list_length pulses flat cell net numbered (m ∷ l ∷ nets) inputs reads = absurd inputs.1

module _ (design : Design) (run : Run) (numbered : IsNumbered design.flat) (fits : (cell : ℕ) (row : CellRow) → IsOf design cell row → FitsKind row.kind row)
    (clock_used : IsUsed design.bench design.bench.clock port_use.Clock) (is_run : IsRun design run) where
  no_other : (b : Bool) (count : ℕ) → cond (not b) 1 0 + count ≡ 0 → (b ≡ true) × (count ≡ 0)
  no_other true count e = (refl, omega arith)
  no_other false count e = absurd (omega arith)

  through : (cell pin out net next : ℕ) (row : CellRow) → IsOf design cell row → IsPassedFrom (is_gate row.kind) row pin → Reads design.flat (reader.Pin cell pin) net → IsDrivenBy design.flat next (driver.Out cell out) → is_copying row.kind ≡ true →
      (nets : List ℕ) → InputNets design.flat cell row nets → ComesOut row.kind row design.flat cell out run.pulses nets (times_of run.pulses next) → length (times_of run.pulses next) ≡ length (times_of run.pulses net)
  through cell pin out net next row of passed reads driven splits nets inputs comes =
      let shape = split_out row.kind row design.flat cell out run.pulses nets (times_of run.pulses next) splits (fits cell row of) comes in
      let first : pin < length row.inputs = subst (λ b. IsPassedFrom b row pin) shape.0 passed in
      let zero_pin : pin ≡ 0 = omega (arith, shape.1) in
      let same : length (flat_map (times_of run.pulses) nets) ≡ length (times_of run.pulses next) = zip_length (λ c p. IsWithin row.low row.high (p -ℤ c)) (flat_map (times_of run.pulses) nets) (times_of run.pulses next) shape.2 in
      sym same ∙ one_list_length run.pulses design.flat cell net numbered nets (subst (λ (c : ℕ). PinsRead design.flat cell c nets) shape.1 inputs) (subst (λ (p : ℕ). Reads design.flat (reader.Pin cell p) net) zero_pin reads)

  step : (a : PathArc) (net next : ℕ) → ArcLeads design net a next → passes (λ k. not (is_copying k)) design a ≡ false → length (times_of run.pulses next) ≡ length (times_of run.pulses net)
  step (arc.Port port) net next leads alone = absurd leads
  step (arc.Through cell pin out) net next (row, of, passed, reads, driven) alone =
      let sent = is_run.sent next (driver.Out cell out) driven in
      let same : sent.0 ≡ row = one_row design cell sent.0 row sent.2 of in
      let off : not (is_copying row.kind) ≡ false = sym (ap (λ o. option_map_or (λ (r : CellRow). not (is_copying r.kind)) o false) of) ∙ alone in
      through cell pin out net next row of passed reads driven (not_false (is_copying row.kind) off) sent.1 (subst (λ (r : CellRow). InputNets design.flat cell r sent.1) same sent.3)
      (subst (λ (r : CellRow). ComesOut r.kind r design.flat cell out run.pulses sent.1 (times_of run.pulses next)) same sent.4)
    where
      not_false : (b : Bool) → not b ≡ false → b ≡ true
      not_false true e = refl
      not_false false e = cc

  along : (net : ℕ) (arcs : List PathArc) (last : ℕ) → ArcsLead design net arcs last → count_by (passes (λ k. not (is_copying k)) design) arcs ≡ 0 → length (times_of run.pulses last) ≡ length (times_of run.pulses net)
  along net [] last lead alone = ap (λ (x : ℕ). length (times_of run.pulses x)) (sym lead)
  along net (a ∷ arcs) last (next, leads, rest) alone =
      let parts = none_at (passes (λ k. not (is_copying k)) design a) (count_by (passes (λ k. not (is_copying k)) design) arcs)
      (sym (sum_by-cons (λ x. cond (passes (λ k. not (is_copying k)) design x) 1 0) a arcs) ∙ alone) in
      along next arcs last rest parts.1 ∙ step a net next leads parts.0
    where
      none_at : (b : Bool) (count : ℕ) → cond b 1 0 + count ≡ 0 → (b ≡ false) × (count ≡ 0)
      none_at true count e = absurd (omega arith)
      none_at false count e = (refl, omega arith)

  pub clock_length : (arcs : List PathArc) (net : ℕ) → IsClockRoute design arcs net → length (times_of run.pulses net) ≡ run.clocks
  clock_length [] net route = absurd route.route
  clock_length (arc.Through cell pin out ∷ arcs) net route = absurd route.route
  clock_length (arc.Port port ∷ arcs) net route =
      let lead = route.route in
      let ports : port ≡ design.bench.clock = (let e : arc.Port port ≡ arc.Port design.bench.clock = route.clock in cc) in
      let sent = is_run.sent lead.0 (driver.Port port) lead.1 in
      let some : Some sent.0 ≡ Some port_use.Clock = sym (subst (λ (p : ℕ). IsUsed design.bench p sent.0) ports sent.1) ∙ clock_used in
      let used : sent.0 ≡ port_use.Clock = cc in
      let numbers : length (numbers_of sent.0 design.bench port run) ≡ length (range_with_len 0 run.clocks) = ap (λ (u : PortUse). length (numbers_of u design.bench port run)) used in
      let first : length (numbers_of sent.0 design.bench port run) ≡ length (times_of run.pulses lead.0) =
      zip_length (λ number pulse. IsPortDelay design.bench sent.0 (pulse -ℤ run.tick number)) (numbers_of sent.0 design.bench port run) (times_of run.pulses lead.0) sent.2 in
      along lead.0 arcs net lead.2 (count_tail arcs route.alone) ∙ sym first ∙ numbers ∙ length-range_with_len 0 run.clocks
    where
      count_tail : (arcs : List PathArc) → count_by (passes (λ k. not (is_copying k)) design) (arc.Port port ∷ arcs) ≡ 0 → count_by (passes (λ k. not (is_copying k)) design) arcs ≡ 0
      count_tail arcs e = let f = sym (sum_by-cons (λ x. cond (passes (λ k. not (is_copying k)) design x) 1 0) (arc.Port port) arcs) ∙ e in omega arith
