-- A ready design has a run for all words and every number of clock pulses: each pulse takes the least delays.
use Rattle.std.proofs.Common.{◌≡◌, ℕ, suc, ◌<◌, Bool, true, false, ℤ, pos, ◌+ℤ◌, ◌-ℤ◌, ◌≤ℤ◌, List, [], ◌∷◌, ◌++◌, length, get_or, map, refl, sym, ap, ◌∙◌, subst, arith}
use Rattle.std.proofs.lemmas.Int.{ints}
use Rattle.std.specs.List.{AllZip, filter, flat_map}
use Rattle.rsfq_ids.specs.declared.table.CellRow.{CellRow}
use Rattle.rsfq_ids.specs.declared.table.Kind.{Kind}
use Rattle.rsfq_ids.specs.declared.table.Kind.TheVariants as kind
use Rattle.rsfq_ids.specs.declared.circuit.PortUse.{PortUse}
use Rattle.rsfq_ids.specs.declared.circuit.PortUse.TheVariants as port_use
use Rattle.rsfq_ids.specs.declared.circuit.Driver.{Driver}
use Rattle.rsfq_ids.specs.declared.circuit.Driver.TheVariants as driver
use Rattle.rsfq_ids.specs.declared.circuit.Reader.TheVariants as reader
use Rattle.rsfq_ids.specs.Design.{Design}
use Rattle.rsfq_ids.specs.Time.{Follow}
use Rattle.rsfq_ids.specs.Circuit.{IsDrivenBy, Reads, IsOf, InputNets, is_gate, clock_pin}
use Rattle.rsfq_ids.specs.Bench.{IsUsed, tick_at}
use Rattle.rsfq_ids.specs.Run.{Run, IsRun, Sends, ComesOut, times_of, truth_at, is_present, firings, numbers_of, IsPortDelay}
use Rattle.rsfq_ids.specs.Ready.{IsReady}
use Rattle.pulse_laws.specs.Statements.{RunsExist}
use Rattle.pulse_laws.proofs.Depths.{height, lower, input_count, input_net}
use Rattle.pulse_laws.proofs.Solve.{Agrees, solved}
use Rattle.pulse_laws.proofs.Solutions.{same_nets, same_use}

-- ---- lists of least delays

abbrev least : PortUse → ℤ
least port_use.Clock = pos 0
least (port_use.Arrival low high) = low
least (port_use.Strobed strobe) = pos 0

follow_later : (low high : ℤ) → low ≤ℤ high → (causes : List ℤ) → Follow low high causes (map (λ t. t +ℤ low) causes)
follow_later low high le [] = tt
follow_later low high le (c ∷ causes) = (record { from = omega (arith, ints); to = omega (arith, ints) }, follow_later low high le causes)

all_later : (P : ℕ → ℤ → Type 0) (f : ℕ → ℤ) → ((n : ℕ) → P n (f n)) → (numbers : List ℕ) → AllZip P numbers (map f numbers)
all_later P f each [] = tt
all_later P f each (n ∷ numbers) = (each n, all_later P f each numbers)

joined_map : (P : ℕ → List ℤ) (nets : List ℕ) → flat_map (λ (ts : List ℤ). ts) (map P nets) ≡ flat_map P nets
joined_map P [] = refl
joined_map P (net ∷ nets) = ap (λ (ts : List ℤ). P net ++ ts) (joined_map P nets)

present_map : (P : ℕ → List ℤ) (clock at : List ℤ) (time : ℤ) (nets : List ℕ) → map (λ ts. is_present ts clock time) (map P nets) ≡ map (λ net. is_present (P net) clock time) nets
present_map P clock at time [] = refl
present_map P clock at time (net ∷ nets) = ap (λ (bs : List Bool). is_present (P net) clock time ∷ bs) (present_map P clock at time nets)

same_filter : (p q : ℤ → Bool) (xs : List ℤ) → ((x : ℤ) → p x ≡ q x) → filter p xs ≡ filter q xs
same_filter p q xs same = ap (λ (f : ℤ → Bool). filter f xs) (λ i. λ x. same x i)

map_lists : (f g : ℕ → List ℤ) (ns : List ℕ) → ((pin : ℕ) → pin < length ns → f (get_or ns pin 0) ≡ g (get_or ns pin 0)) → map f ns ≡ map g ns
map_lists f g [] each = refl
map_lists f g (n ∷ ns) each =
    let head : f n ≡ g n = each 0 (omega arith) in
    let tail : map f ns ≡ map g ns = map_lists f g ns (λ pin l. each (suc pin) (omega arith)) in cc

module _ (design : Design) (rank : ℕ → ℕ) (ready : IsReady design rank) (words : List (List Bool)) (clocks : ℕ) where
  abbrev tall : Driver → ℕ
  tall d = height design rank d

  abbrev run_of : List (List ℤ) → Run
  run_of pulses = record { words = words; clocks = clocks; tick = tick_at design.bench; pulses = pulses }

  -- what a cell makes of the lists at its inputs
  abbrev Makes : Bool → CellRow → ℕ → ℕ → List (List ℤ) → (ℕ → List ℤ) → List ℤ → Type 0
  Makes true row cell out ins P times =
      (clock : ℕ) × Reads design.flat (reader.Pin cell (clock_pin row)) clock × (times ≡ map (λ t. t +ℤ row.low) (filter (λ at. truth_at row out (map (λ ts. is_present ts (P clock) at) ins)) (P clock)))
  Makes false row cell out ins P times = times ≡ map (λ t. t +ℤ row.low) (flat_map (λ (ts : List ℤ). ts) ins)

  abbrev Gives : Driver → (ℕ → List ℤ) → List ℤ → Type 0
  Gives (driver.Port port) P times = (used : PortUse) × IsUsed design.bench port used × (times ≡ map (λ number. tick_at design.bench number +ℤ least used) (numbers_of used design.bench port (run_of [])))
  Gives (driver.Out cell out) P times = (row : CellRow) × (nets : List ℕ) × IsOf design cell row × InputNets design.flat cell row nets × Makes (is_gate row.kind) row cell out (map P nets) P times

  make_cell : (row : CellRow) (cell out : ℕ) (nets : List ℕ) (P : ℕ → List ℤ) (g : Bool) → (g ≡ true → (clock : ℕ) × Reads design.flat (reader.Pin cell (clock_pin row)) clock) → (times : List ℤ) × Makes g row cell out (map P nets) P times
  make_cell row cell out nets P true clocked = let c = clocked refl in (map (λ t. t +ℤ row.low) (filter (λ at. truth_at row out (map (λ ts. is_present ts (P c.0) at) (map P nets))) (P c.0)), (c.0, c.1, refl))
  make_cell row cell out nets P false clocked = (map (λ t. t +ℤ row.low) (flat_map (λ (ts : List ℤ). ts) (map P nets)), refl)

  make : (net : ℕ) (d : Driver) → IsDrivenBy design.flat net d → (P : ℕ → List ℤ) → (times : List ℤ) × Gives d P times
  make net (driver.Port port) is P = let c = ready.complete net (driver.Port port) is in (map (λ number. tick_at design.bench number +ℤ least c.0) (numbers_of c.0 design.bench port (run_of [])), (c.0, c.1, refl))
  make net (driver.Out cell out) is P =
      let c = ready.complete net (driver.Out cell out) is in
      let made = make_cell c.0 cell out c.1 P (is_gate c.0.kind) c.4 in
      (made.0, (c.0, c.1, c.2, c.3, made.1))

  pin_agrees : (P Q : ℕ → List ℤ) (cell out pin net : ℕ) → Agrees design.flat tall (tall (driver.Out cell out)) P Q → Reads design.flat (reader.Pin cell pin) net → P net ≡ Q net
  pin_agrees P Q cell out pin net agree reads =
      let d = ready.numbered.has_driver (reader.Pin cell pin) net reads in
      agree net d.0 d.1 (lower design rank ready.ranked (suc (rank cell)) cell pin net d.0 d.1 reads (omega arith))

  ins_agree : (P Q : ℕ → List ℤ) (cell out : ℕ) (row : CellRow) (nets : List ℕ) → InputNets design.flat cell row nets → Agrees design.flat tall (tall (driver.Out cell out)) P Q → map P nets ≡ map Q nets
  ins_agree P Q cell out row nets inputs agree = map_lists P Q nets (λ pin l.
      let input : pin < length row.inputs = (let c = input_count design.flat cell row nets inputs in omega arith) in
      pin_agrees P Q cell out pin (get_or nets pin 0) agree (input_net design.flat cell row nets inputs pin input))

  made_one : (P Q : ℕ → List ℤ) (cell out : ℕ) (row : CellRow) (ins : List (List ℤ)) (g : Bool) (a b : List ℤ) → Agrees design.flat tall (tall (driver.Out cell out)) P Q → Makes g row cell out ins P a → Makes g row cell out ins Q b → a ≡ b
  made_one P Q cell out row ins true a b agree (clock, reads, same) (clock', reads', same') =
      let clocks : clock ≡ clock' = ready.numbered.one_read (reader.Pin cell (clock_pin row)) clock clock' reads reads' in
      let lists : P clock ≡ Q clock' = ap P clocks ∙ pin_agrees P Q cell out (clock_pin row) clock' agree reads' in
      same ∙ ap (λ (c : List ℤ). map (λ t. t +ℤ row.low) (filter (λ at. truth_at row out (map (λ ts. is_present ts c at) ins)) c)) lists ∙ sym same'
  made_one P Q cell out row ins false a b agree same same' = same ∙ sym same'

  one : (net : ℕ) (d : Driver) → IsDrivenBy design.flat net d → (P Q : ℕ → List ℤ) → Agrees design.flat tall (tall d) P Q → (a b : List ℤ) → Gives d P a → Gives d Q b → a ≡ b
  one net (driver.Port port) is P Q agree a b (used, is_used, same) (used', is_used', same') =
      same ∙ ap (λ (u : PortUse). map (λ number. tick_at design.bench number +ℤ least u) (numbers_of u design.bench port (run_of []))) (same_use design rank ready port used used' is_used is_used') ∙ sym same'
  one net (driver.Out cell out) is P Q agree a b (row, nets, of, inputs, made) (row', nets', of', inputs', made') =
      let alike = same_nets design rank ready cell row row' nets nets' of of' inputs inputs' in
      made_one P Q cell out row (map Q nets) (is_gate row.kind) a b agree
      (subst (λ (ins : List (List ℤ)). Makes (is_gate row.kind) row cell out ins P a) (ins_agree P Q cell out row nets inputs agree) made)
      (subst (λ (ns : List ℕ). Makes (is_gate row.kind) row cell out (map Q ns) Q b) alike.1 (subst (λ (r : CellRow). Makes (is_gate r.kind) r cell out (map Q nets') Q b) alike.0 made'))

  port_fits : (port : ℕ) (used : PortUse) → IsUsed design.bench port used → (net : ℕ) → IsDrivenBy design.flat net (driver.Port port) → (tick : ℤ) → IsPortDelay design.bench used ((tick +ℤ least used) -ℤ tick)
  port_fits port port_use.Clock is net driven tick = let low = ready.jitter.from in record { from = omega (arith, ints); to = omega (arith, ints) }
  port_fits port (port_use.Arrival low high) is net driven tick = let le = ready.arrivals port low high is in record { from = omega (arith, ints); to = omega (arith, ints) }
  port_fits port (port_use.Strobed strobe) is net driven tick = absurd (ready.sources net port strobe driven is)

  passive : (row : CellRow) (nets : List ℕ) (pulses : List (List ℤ)) (times : List ℤ) → row.low ≤ℤ row.high → times ≡ map (λ t. t +ℤ row.low) (flat_map (λ (ts : List ℤ). ts) (map (times_of pulses) nets)) → Follow row.low row.high (flat_map (times_of pulses) nets) times
  passive row nets pulses times le same =
      subst (λ (ts : List ℤ). Follow row.low row.high (flat_map (times_of pulses) nets) ts) (ap (λ (cs : List ℤ). map (λ t. t +ℤ row.low) cs) (sym (joined_map (times_of pulses) nets)) ∙ sym same) (follow_later row.low row.high le (flat_map (times_of pulses) nets))

  by_use : (pulses : List (List ℤ)) (port : ℕ) (used : PortUse) → IsUsed design.bench port used → (net : ℕ) → IsDrivenBy design.flat net (driver.Port port) →
      AllZip (λ number pulse. IsPortDelay design.bench used (pulse -ℤ tick_at design.bench number)) (numbers_of used design.bench port (run_of pulses)) (map (λ number. tick_at design.bench number +ℤ least used) (numbers_of used design.bench port (run_of [])))
  by_use pulses port port_use.Clock is net driven = all_later _ _ (λ n. port_fits port port_use.Clock is net driven (tick_at design.bench n)) _
  by_use pulses port (port_use.Arrival low high) is net driven = all_later _ _ (λ n. port_fits port (port_use.Arrival low high) is net driven (tick_at design.bench n)) _
  by_use pulses port (port_use.Strobed strobe) is net driven = tt

  comes : (k : Kind) (row : CellRow) (cell out : ℕ) (nets : List ℕ) (pulses : List (List ℤ)) (times : List ℤ) → row.low ≤ℤ row.high → Makes (is_gate k) row cell out (map (times_of pulses) nets) (times_of pulses) times → ComesOut k row design.flat cell out pulses nets times
  comes kind.Gate row cell out nets pulses times le (clock, reads, same) =
      let fire : filter (λ at. truth_at row out (map (λ ts. is_present ts (times_of pulses clock) at) (map (times_of pulses) nets))) (times_of pulses clock) ≡ firings row out pulses nets clock
      = same_filter _ _ (times_of pulses clock) (λ at. ap (truth_at row out) (present_map (times_of pulses) (times_of pulses clock) [] at nets)) in
      (clock, reads, subst (λ (ts : List ℤ). Follow row.low row.high (firings row out pulses nets clock) ts) (ap (λ (cs : List ℤ). map (λ t. t +ℤ row.low) cs) (sym fire) ∙ sym same) (follow_later row.low row.high le (firings row out pulses nets clock)))
  comes kind.Jtl row cell out nets pulses times le same = passive row nets pulses times le same
  comes kind.Split row cell out nets pulses times le same = passive row nets pulses times le same
  comes kind.Merge row cell out nets pulses times le same = passive row nets pulses times le same

  pub run_exists : (run : Run) × IsRun design run × (run.words ≡ words) × (run.clocks ≡ clocks)
  run_exists =
      let (pulses, count, given) = solved [] design.flat tall Gives make one in
      (run_of pulses, record { ticks = λ k. refl; nets = count; sent = λ net d is. sent pulses net d is (given net d is) }, refl, refl)
    where
      sent : (pulses : List (List ℤ)) (net : ℕ) (d : Driver) → IsDrivenBy design.flat net d → Gives d (times_of pulses) (times_of pulses net) → Sends design (run_of pulses) d (times_of pulses net)
      sent pulses net (driver.Port port) is (used, is_used, same) = (
        used,
        is_used,
        subst (λ (ts : List ℤ). AllZip (λ number pulse. IsPortDelay design.bench used (pulse -ℤ tick_at design.bench number)) (numbers_of used design.bench port (run_of pulses)) ts) (sym same)
            (by_use pulses port used is_used net is),
      )
      sent pulses net (driver.Out cell out) is (row, nets, of, inputs, made) = (row, nets, of, inputs, comes row.kind row cell out nets pulses (times_of pulses net) (ready.rows cell row of).delays made)

pub runs_exist : RunsExist
runs_exist design rank words clocks ready = run_exists design rank ready words clocks
