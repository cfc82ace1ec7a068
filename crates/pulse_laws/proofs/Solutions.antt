-- There are values under each word, and filling values.
use Rattle.std.proofs.Common.{◌≡◌, ℕ, suc, ◌<◌, Bool, true, false, not, ◌&&◌, List, length, get_or, map, nat_lt, refl, sym, ap, ◌∙◌, subst, arith}
use Rattle.std.specs.Prelude.{Some}
use Rattle.std.specs.List.{list_any}
use Rattle.rsfq_ids.specs.declared.table.CellRow.{CellRow}
use Rattle.rsfq_ids.specs.declared.circuit.PortUse.{PortUse}
use Rattle.rsfq_ids.specs.declared.circuit.Driver.{Driver}
use Rattle.rsfq_ids.specs.declared.circuit.Driver.TheVariants as driver
use Rattle.rsfq_ids.specs.declared.circuit.Reader.TheVariants as reader
use Rattle.rsfq_ids.specs.Circuit.{IsDrivenBy, IsOf, InputNets, is_gate}
use Rattle.rsfq_ids.specs.Bench.{IsUsed}
use Rattle.rsfq_ids.specs.Run.{truth_at}
use Rattle.rsfq_ids.specs.Value.{AreValues, Gives, value_of, value_made, port_value}
use Rattle.pulse_laws.proofs.Flows.{one_row, one_list}
use Rattle.pulse_laws.specs.Premises.{IsTimedBelow}
use Rattle.rsfq_ids.specs.Filling.{FillMade, FillGives, AreFilling}
use Rattle.pulse_laws.proofs.Depths.{height, lower, input_count, input_net, gate_depth, pins_of, depth_one}
use Rattle.pulse_laws.proofs.Spots.{map_same}
use Rattle.pulse_laws.proofs.Solve.{Agrees, solved, solved_one}
use Rattle.rsfq_ids.specs.Design.{Design}
use Rattle.rsfq_ids.specs.Ready.{IsReady}

lt_from : (a b : ℕ) → nat_lt a b ≡ true → a < b
lt_from a b e = grind arith

module _ (design : Design) (rank : ℕ → ℕ) (ready : IsReady design rank) where
  abbrev tall : Driver → ℕ
  tall d = height design rank d

  inputs_agree : (V W : ℕ → Bool) (cell out : ℕ) (row : CellRow) (nets : List ℕ) → InputNets design.flat cell row nets → Agrees design.flat tall (tall (driver.Out cell out)) V W → map V nets ≡ map W nets
  inputs_agree V W cell out row nets inputs agree = map_same V W nets (λ pin l.
      let input : pin < length row.inputs = (let c = input_count design.flat cell row nets inputs in omega arith) in
      let reads = input_net design.flat cell row nets inputs pin input in
      let d = ready.numbered.has_driver (reader.Pin cell pin) (get_or nets pin 0) reads in
      agree (get_or nets pin 0) d.0 d.1 (lower design rank ready.ranked (suc (rank cell)) cell pin (get_or nets pin 0) d.0 d.1 reads (omega arith)))

  pub same_use : (port : ℕ) (used other : PortUse) → IsUsed design.bench port used → IsUsed design.bench port other → used ≡ other
  same_use port used other one two = let e : Some used ≡ Some other = sym one ∙ two in cc

  pub same_nets : (cell : ℕ) (row other : CellRow) (nets others : List ℕ) → IsOf design cell row → IsOf design cell other → InputNets design.flat cell row nets → InputNets design.flat cell other others → (other ≡ row) × (others ≡ nets)
  same_nets cell row other nets others of of' inputs inputs' =
      let same : other ≡ row = one_row design cell other row of' of in
      (same, one_list design.flat cell ready.numbered _ others nets (subst (λ (r : CellRow). InputNets design.flat cell r others) same inputs') inputs)

  -- ---- values under a word

  module _ (word : List Bool) where
    abbrev GivesBy : Driver → (ℕ → Bool) → Bool → Type 0
    GivesBy (driver.Port port) V value = (used : PortUse) × IsUsed design.bench port used × (value ≡ port_value used design.bench port word)
    GivesBy (driver.Out cell out) V value = (row : CellRow) × (nets : List ℕ) × IsOf design cell row × InputNets design.flat cell row nets × (value ≡ value_made row.kind row out (map V nets))

    make : (net : ℕ) (d : Driver) → IsDrivenBy design.flat net d → (V : ℕ → Bool) → (b : Bool) × GivesBy d V b
    make net (driver.Port port) is V = let c = ready.complete net (driver.Port port) is in (port_value c.0 design.bench port word, (c.0, c.1, refl))
    make net (driver.Out cell out) is V = let c = ready.complete net (driver.Out cell out) is in (value_made c.0.kind c.0 out (map V c.1), (c.0, c.1, c.2, c.3, refl))

    one : (net : ℕ) (d : Driver) → IsDrivenBy design.flat net d → (V W : ℕ → Bool) → Agrees design.flat tall (tall d) V W → (a b : Bool) → GivesBy d V a → GivesBy d W b → a ≡ b
    one net (driver.Port port) is V W agree a b (used, is_used, same) (used', is_used', same') = same ∙ ap (λ (u : PortUse). port_value u design.bench port word) (same_use port used used' is_used is_used') ∙ sym same'
    one net (driver.Out cell out) is V W agree a b (row, nets, of, inputs, same) (row', nets', of', inputs', same') =
        let alike = same_nets cell row row' nets nets' of of' inputs inputs' in
        same ∙ ap (λ (bits : List Bool). value_made row.kind row out bits) (inputs_agree V W cell out row nets inputs agree)
        ∙ sym (ap (λ (ns : List ℕ). value_made row.kind row out (map W ns)) alike.1)
        ∙ sym (ap (λ (r : CellRow). value_made r.kind r out (map W nets')) alike.0)
        ∙ sym same'

    pub values : (values : List Bool) × AreValues design word values
    values =
        let got = solved false design.flat tall GivesBy make one in
        (got.0, record { nets = got.1; given = given got.0 got.2 })
      where
        given : (vs : List Bool) → ((net : ℕ) (d : Driver) → IsDrivenBy design.flat net d → GivesBy d (value_of vs) (value_of vs net)) → (net : ℕ) (d : Driver) → IsDrivenBy design.flat net d → Gives design word vs d (value_of vs net)
        given vs each net (driver.Port port) is = each net (driver.Port port) is
        given vs each net (driver.Out cell out) is = each net (driver.Out cell out) is

    by_values : (vs : List Bool) → AreValues design word vs → (net : ℕ) (d : Driver) → IsDrivenBy design.flat net d → GivesBy d (value_of vs) (value_of vs net)
    by_values vs are net (driver.Port port) is = are.given net (driver.Port port) is
    by_values vs are net (driver.Out cell out) is = are.given net (driver.Out cell out) is

    pub values_one : (vs ws : List Bool) → AreValues design word vs → AreValues design word ws → (net : ℕ) (d : Driver) → IsDrivenBy design.flat net d → value_of vs net ≡ value_of ws net
    values_one vs ws v w net d is = solved_one false design.flat tall GivesBy one (value_of vs) (value_of ws) (by_values vs v) (by_values ws w) (suc (tall d)) net d is (omega arith)

  -- ---- filling values

  module _ (top : ℕ) (timed : IsTimedBelow design rank top) (early : ℕ) where
    make_gate : (net cell out : ℕ) (row : CellRow) (bits : List Bool) → IsDrivenBy design.flat net (driver.Out cell out) → IsOf design cell row → (g c : Bool) → is_gate row.kind ≡ g → nat_lt (rank cell) top ≡ c → (b : Bool) × FillMade g design c early row cell out bits b
    make_gate net cell out row bits is of true true gate low =
        let deep = gate_depth design rank ready top timed cell row (lt_from (rank cell) top low) of gate (pins_of design rank ready top timed cell row of gate out net is) in (not (nat_lt deep.0 early) && truth_at row out bits, (deep.0, deep.1, refl))
    make_gate net cell out row bits is of true false gate high = (false, refl)
    make_gate net cell out row bits is of false c passive low = (list_any (λ bit. bit) bits, refl)

    fill_make : (net : ℕ) (d : Driver) → IsDrivenBy design.flat net d → (V : ℕ → Bool) → (b : Bool) × FillGives design (λ cell. nat_lt (rank cell) top) early V d b
    fill_make net (driver.Port port) is V = (false, refl)
    fill_make net (driver.Out cell out) is V =
        let c = ready.complete net (driver.Out cell out) is in
        let made = make_gate net cell out c.0 (map V c.1) is c.2 (is_gate c.0.kind) (nat_lt (rank cell) top) refl refl in
        (made.0, (c.0, c.1, c.2, c.3, made.1))

    made_one : (cell out : ℕ) (row : CellRow) (bits : List Bool) (g c : Bool) (a b : Bool) → FillMade g design c early row cell out bits a → FillMade g design c early row cell out bits b → a ≡ b
    made_one cell out row bits true true a b (deep, has, same) (deep', has', same') = same ∙ ap (λ (x : ℕ). not (nat_lt x early) && truth_at row out bits) (depth_one design deep deep' has has') ∙ sym same'
    made_one cell out row bits true false a b same same' = same ∙ sym same'
    made_one cell out row bits false c a b same same' = same ∙ sym same'

    fill_one : (net : ℕ) (d : Driver) → IsDrivenBy design.flat net d → (V W : ℕ → Bool) → Agrees design.flat tall (tall d) V W → (a b : Bool) → FillGives design (λ cell. nat_lt (rank cell) top) early V d a → FillGives design (λ cell. nat_lt (rank cell) top) early W d b → a ≡ b
    fill_one net (driver.Port port) is V W agree a b same same' = same ∙ sym same'
    fill_one net (driver.Out cell out) is V W agree a b (row, nets, of, inputs, made) (row', nets', of', inputs', made') =
        let alike = same_nets cell row row' nets nets' of of' inputs inputs' in
        let bits = inputs_agree V W cell out row nets inputs agree in
        made_one cell out row (map W nets) (is_gate row.kind) (nat_lt (rank cell) top) a b (subst (λ (bs : List Bool). FillMade (is_gate row.kind) design (nat_lt (rank cell) top) early row cell out bs a) bits made)
        (subst (λ (ns : List ℕ). FillMade (is_gate row.kind) design (nat_lt (rank cell) top) early row cell out (map W ns) b) alike.1
        (subst (λ (r : CellRow). FillMade (is_gate r.kind) design (nat_lt (rank cell) top) early r cell out (map W nets') b) alike.0 made'))

    pub fillings : (values : List Bool) × AreFilling design (λ cell. nat_lt (rank cell) top) early values
    fillings = let got = solved false design.flat tall (λ d V b. FillGives design (λ cell. nat_lt (rank cell) top) early V d b) fill_make fill_one in (got.0, record { nets = got.1; given = got.2 })

    pub fillings_one : (vs ws : List Bool) → AreFilling design (λ cell. nat_lt (rank cell) top) early vs → AreFilling design (λ cell. nat_lt (rank cell) top) early ws → (net : ℕ) (d : Driver) → IsDrivenBy design.flat net d → value_of vs net ≡ value_of ws net
    fillings_one vs ws v w net d is = solved_one false design.flat tall (λ d V b. FillGives design (λ cell. nat_lt (rank cell) top) early V d b) fill_one (value_of vs) (value_of ws) v.given w.given (suc (tall d)) net d is (omega arith)
