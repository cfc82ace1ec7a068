-- The examples, computed.
use Rattle.std.proofs.Common.{◌≡◌, ◌≢◌, ℕ, zero, suc, true, false, ℤ, pos, ◌-ℤ◌, List, [], ◌∷◌, refl, sym, ap, subst, ◌≤ℤ◌, ◌<ℤ◌, arith, map, get_or, lit<, ◌<◌}
use Rattle.std.proofs.lemmas.Int.{ints}
use Rattle.std.specs.Prelude.{Some, None, slice_get}
use Rattle.std.specs.List.{All, AllPairs}
use Rattle.rsfq_ids.specs.declared.circuit.PortBit.{PortBit}
use Rattle.rsfq_ids.specs.declared.circuit.FlatCell.{FlatCell}
use Rattle.rsfq_ids.specs.declared.circuit.PortUse.{PortUse}
use Rattle.rsfq_ids.specs.declared.circuit.PortUse.TheVariants as port_use
use Rattle.rsfq_ids.specs.declared.circuit.Driver.{Driver}
use Rattle.rsfq_ids.specs.declared.circuit.Driver.TheVariants as driver
use Rattle.rsfq_ids.specs.declared.circuit.Reader.TheVariants as reader
use Rattle.rsfq_ids.specs.declared.circuit.Pin.{Pin}
use Rattle.rsfq_ids.specs.declared.circuit.Strobe.{Strobe}
use Rattle.rsfq_ids.specs.declared.offence.Against.TheVariants as against
use Rattle.rsfq_ids.specs.Time.{IsWithin, IsInZone}
use Rattle.rsfq_ids.specs.Bench.{IsUsed}
use Rattle.rsfq_ids.specs.Path.{IsPick, strobe_at}
use Rattle.rsfq_ids.specs.Offence.{IsHeldAgainst}
use Rattle.rsfq_ids.specs.WellFormed.{AreDistinct, IsTime, IsPositiveTime, IsRow, IsBench, FitsUse}
use Rattle.rsfq_ids.specs.Circuit.{IsDrivenBy}
use Rattle.rsfq_ids.specs.Run.{Sends, times_of}
use Rattle.rsfq_ids.specs.Ready.{IsSetUp}
use Rattle.pulse_laws.specs.Examples.{jtl, ports, bench_of, wire, wire_run, late_pulse, WireRuns, WireOffends, dff, register, register_run, RegisterRuns}

pub some : {X : Type 0} {x y : X} → Some x ≡ Some y → x ≡ y
some e = cc

-- ---- lists of one to three items

all_one : {X : Type 0} (P : X → Type 0) (x : X) → P x → All P (x ∷ [])
all_one P x one zero d l = one
all_one P x one (suc i) d l = absurd (omega arith)

all_two : {X : Type 0} (P : X → Type 0) (x y : X) → P x → P y → All P (x ∷ y ∷ [])
all_two P x y one two zero d l = one
all_two P x y one two (suc i) d l = all_one P y two i d (omega arith)

all_three : {X : Type 0} (P : X → Type 0) (x y z : X) → P x → P y → P z → All P (x ∷ y ∷ z ∷ [])
all_three P x y z one two three zero d l = one
all_three P x y z one two three (suc i) d l = all_two P y z two three i d (omega arith)

pairs_one : {X : Type 0} (R : X → X → Type 0) (x : X) → AllPairs R (x ∷ [])
pairs_one R x i j d below l = absurd (omega arith)

pairs_two : {X : Type 0} (R : X → X → Type 0) (x y : X) → R x y → AllPairs R (x ∷ y ∷ [])
pairs_two R x y one zero zero d below l = absurd (omega arith)
pairs_two R x y one zero (suc zero) d below l = one
pairs_two R x y one zero (suc (suc j)) d below l = absurd (omega arith)
pairs_two R x y one (suc i) j d below l = absurd (omega arith)

pairs_three : {X : Type 0} (R : X → X → Type 0) (x y z : X) → R x y → R x z → R y z → AllPairs R (x ∷ y ∷ z ∷ [])
pairs_three R x y z one two three zero zero d below l = absurd (omega arith)
pairs_three R x y z one two three zero (suc zero) d below l = one
pairs_three R x y z one two three zero (suc (suc zero)) d below l = two
pairs_three R x y z one two three zero (suc (suc (suc j))) d below l = absurd (omega arith)
pairs_three R x y z one two three (suc zero) (suc zero) d below l = absurd (omega arith)
pairs_three R x y z one two three (suc zero) zero d below l = absurd (omega arith)
pairs_three R x y z one two three (suc zero) (suc (suc zero)) d below l = three
pairs_three R x y z one two three (suc zero) (suc (suc (suc j))) d below l = absurd (omega arith)
pairs_three R x y z one two three (suc (suc i)) j d below l = absurd (omega arith)

other_heads : (a b : ℕ) (xs ys : List ℕ) → (a ≡ b → ⊥) → a ∷ xs ≢ b ∷ ys
other_heads a b xs ys other e = other (ap (λ (ns : List ℕ). get_or ns 0 0) e)

within : (low high time : ℤ) → low ≤ℤ time → time ≤ℤ high → IsWithin low high time
within low high time from to = record { from = from; to = to }

-- ---- the bench

bench_fits : (cells : List FlatCell) (nets : List Driver) (pins : List Pin) (low high : ℤ) (strobe : Strobe) → IsTime low → IsTime high → low ≤ℤ high → IsTime strobe.offset → strobe.offset <ℤ pos 20000 → IsPositiveTime strobe.setup → IsPositiveTime strobe.hold →
    IsBench (record { ports = ports; cells = cells; nets = nets; pins = pins }) (bench_of low high strobe)
bench_fits cells nets pins low high strobe fit fit' below offset less setup hold = record {
  ports = refl;
  uses = uses;
  clock = refl;
  period = record { from = omega (arith, ints); to = omega (arith, ints) };
  jitter = record { from = omega (arith, ints); to = omega (arith, ints) };
}
  where
    uses : (at : ℕ) (port : PortBit) (used : PortUse) → slice_get ports at ≡ Some port → IsUsed (bench_of low high strobe) at used → FitsUse (bench_of low high strobe) at port used
    uses zero port used is used_so =
        let p : record { name = 99 ∷ 108 ∷ 107 ∷ []; output = false } ≡ port = some is in
        let u : port_use.Clock ≡ used = some used_so in
        subst (λ (x : PortUse). FitsUse (bench_of low high strobe) 0 port x) u (subst (λ (x : PortBit). FitsUse (bench_of low high strobe) 0 x port_use.Clock) p (refl, refl))
    uses (suc zero) port used is used_so =
        let p : record { name = 97 ∷ []; output = false } ≡ port = some is in
        let u : port_use.Arrival low high ≡ used = some used_so in
        subst (λ (x : PortUse). FitsUse (bench_of low high strobe) 1 port x) u (subst (λ (x : PortBit). FitsUse (bench_of low high strobe) 1 x (port_use.Arrival low high)) p (λ e. absurd (omega (arith, e)), refl, fit, fit', below))
    uses (suc (suc zero)) port used is used_so =
        let p : record { name = 121 ∷ []; output = true } ≡ port = some is in
        let u : port_use.Strobed strobe ≡ used = some used_so in
        subst (λ (x : PortUse). FitsUse (bench_of low high strobe) 2 port x) u (subst (λ (x : PortBit). FitsUse (bench_of low high strobe) 2 x (port_use.Strobed strobe)) p (refl, offset, less, setup, hold))
    uses (suc (suc (suc n))) port used is used_so = absurd (nothing is)
      where
        nothing : None ≡ Some port → ⊥
        nothing e = cc

port_names : AreDistinct (map (λ (port : PortBit). port.name) ports)
port_names = pairs_three (λ (one other : List ℕ). one ≢ other) (99 ∷ 108 ∷ 107 ∷ []) (97 ∷ []) (121 ∷ []) (other_heads _ _ _ _ (λ e. absurd (omega (arith, e)))) (other_heads _ _ _ _ (λ e. absurd (omega (arith, e)))) (other_heads _ _ _ _ (λ e. absurd (omega (arith, e))))

drives : (one other : Driver) → Some one ≡ Some other → one ≡ other
drives one other e = cc

-- ---- the wire

wire_sent : (net : ℕ) (d : Driver) → IsDrivenBy (wire (pos 4000) (pos 6000)).flat net d → Sends (wire (pos 4000) (pos 6000)) wire_run d (times_of wire_run.pulses net)
wire_sent zero d e = subst (λ x. Sends (wire (pos 4000) (pos 6000)) wire_run x (pos 0 ∷ pos 20000 ∷ [])) (drives (driver.Port 0) d e)
    (port_use.Clock, refl, (record { from = omega (arith, ints); to = omega (arith, ints) }, (record { from = omega (arith, ints); to = omega (arith, ints) }, tt)))
wire_sent (suc zero) d e = subst (λ x. Sends (wire (pos 4000) (pos 6000)) wire_run x (pos 25000 ∷ [])) (drives (driver.Port 1) d e) (port_use.Arrival (pos 4000) (pos 6000), refl, (record { from = omega (arith, ints); to = omega (arith, ints) }, tt))
wire_sent (suc (suc zero)) d e = subst (λ x. Sends (wire (pos 4000) (pos 6000)) wire_run x (pos 27500 ∷ [])) (drives (driver.Out 0 0) d e) (jtl, 1 ∷ [], refl, ((0, refl), tt), (record { from = omega (arith, ints); to = omega (arith, ints) }, tt))
wire_sent (suc (suc (suc n))) d e = cc

pub wire_set_up : (high : ℤ) → pos 4000 ≤ℤ high → high ≤ℤ pos 16999 → IsSetUp (wire (pos 4000) high)
wire_set_up high from to = record {
  table_fits = record {
    rows = all_one IsRow jtl (record {
      kind = (refl, refl, refl, refl, refl, refl);
      pins = pairs_two (λ (one other : List ℕ). one ≢ other) (97 ∷ []) (113 ∷ []) (other_heads _ _ _ _ (λ e. absurd (omega (arith, e))));
      low = record { from = omega (arith, ints); to = omega (arith, ints) };
      high = record { from = omega (arith, ints); to = omega (arith, ints) };
      dead = record { from = omega (arith, ints); to = omega (arith, ints) };
      delays = omega (arith, ints);
    });
    names = pairs_one (λ (one other : List ℕ). one ≢ other) (74 ∷ 84 ∷ 76 ∷ []);
  };
  flat_fits = record {
    cells = omega arith;
    rows = all_one (λ (cell : FlatCell). cell.row < 1) (record { path = 106 ∷ []; row = 0 }) (omega arith);
    names = port_names;
    nets = refl;
    pins = refl;
    read = all_two (λ (pin : Pin). pin.net < 3) (record { reader = reader.Pin 0 0; net = 1 }) (record { reader = reader.Port 2; net = 2 }) (omega arith) (omega arith);
  };
  bench_fits = bench_fits _ _ _ (pos 4000) high (record { offset = pos 0; setup = pos 1; hold = pos 1 }) (within _ _ _ (omega (arith, ints)) (omega (arith, ints))) (within _ _ _ (omega (arith, ints)) (omega (arith, ints))) (omega (arith, ints))
      (within _ _ _ (omega (arith, ints)) (omega (arith, ints))) (omega (arith, ints)) (within _ _ _ (omega (arith, ints)) (omega (arith, ints))) (within _ _ _ (omega (arith, ints)) (omega (arith, ints)));
}

pub wire_runs : WireRuns
wire_runs = record { set_up = wire_set_up (pos 6000) (omega (arith, ints)) (omega (arith, ints)); is_run = record { ticks = λ k. refl; nets = refl; sent = wire_sent }; zero_bit = refl; one_bit = refl; two_bit = refl }

late_pick : IsPick (wire (pos 4000) (pos 17000)) (late_pulse (pos 17000))
late_pick = record {
  path = (record { reader = reader.Port 2; net = 2 }, refl, record { route = (1, refl, (2, (jtl, refl, lit< tt, (0, refl), refl), refl)); one_gate = omega arith; clocked = λ l. absurd (omega (arith, l)) });
  delays = ((port_use.Arrival (pos 4000) (pos 17000), refl, within _ _ _ (omega (arith, ints)) (omega (arith, ints))), ((jtl, refl, within _ _ _ (omega (arith, ints)) (omega (arith, ints))), tt));
}

-- at the edge of the zone: 19999 is not later than 20000 less the setup
edge_free : (end : Pin) → record { reader = reader.Port 2; net = 2 } ≡ end →
    IsHeldAgainst (wire (pos 4000) (pos 17000)) end.reader (late_pulse (pos 16999)) (against.Strobe 1) (λ setup hold number time. IsInZone setup hold time (pos 19999)) → ⊥
edge_free end same held =
    let (strobe, used, zone) = subst (λ (p : Pin). IsHeldAgainst (wire (pos 4000) (pos 17000)) p.reader (late_pulse (pos 16999)) (against.Strobe 1) (λ setup hold number time. IsInZone setup hold time (pos 19999))) (sym same) held in
    let uses : port_use.Strobed (record { offset = pos 0; setup = pos 1; hold = pos 1 }) ≡ port_use.Strobed strobe = some used in
    let strobes : record { offset = pos 0; setup = pos 1; hold = pos 1 } ≡ strobe = cc in
    let late = subst (λ (s : Strobe). (strobe_at (wire (pos 4000) (pos 17000)).bench s 1 -ℤ s.setup) <ℤ pos 19999) (sym strobes) zone.after in
    absurd (omega (arith, ints, late))

pub wire_offends : WireOffends
wire_offends = record {
  inside = record {
    pick = late_pick;
    ends = refl;
    against = (record { reader = reader.Port 2; net = 2 }, refl, (record { offset = pos 0; setup = pos 1; hold = pos 1 }, refl, record { after = omega (arith, ints); before = omega (arith, ints) }));
  };
  edge = λ offends. let (end, is, held) = offends.against in edge_free end (some is) held;
}

-- ---- the register

register_sent : (net : ℕ) (d : Driver) → IsDrivenBy register.flat net d → Sends register register_run d (times_of register_run.pulses net)
register_sent zero d e = subst (λ x. Sends register register_run x (pos 0 ∷ pos 20000 ∷ pos 40000 ∷ [])) (drives (driver.Port 0) d e)
    (port_use.Clock, refl, (record { from = omega (arith, ints); to = omega (arith, ints) }, (record { from = omega (arith, ints); to = omega (arith, ints) }, (record { from = omega (arith, ints); to = omega (arith, ints) }, tt))))
register_sent (suc zero) d e = subst (λ x. Sends register register_run x (pos 5000 ∷ [])) (drives (driver.Port 1) d e) (port_use.Arrival (pos 4000) (pos 6000), refl, (record { from = omega (arith, ints); to = omega (arith, ints) }, tt))
register_sent (suc (suc zero)) d e = subst (λ x. Sends register register_run x (pos 26000 ∷ [])) (drives (driver.Out 0 0) d e)
    (dff, 1 ∷ [], refl, ((0, refl), tt), (0, (1, refl), (record { from = omega (arith, ints); to = omega (arith, ints) }, tt)))
register_sent (suc (suc (suc n))) d e = cc

register_set_up : IsSetUp register
register_set_up = record {
  table_fits = record {
    rows = all_one IsRow dff (record {
      kind = (omega arith, omega arith, refl, refl, omega arith, within _ _ _ (omega (arith, ints)) (omega (arith, ints)), within _ _ _ (omega (arith, ints)) (omega (arith, ints)), within _ _ _ (omega (arith, ints)) (omega (arith, ints)));
      pins = pairs_three (λ (one other : List ℕ). one ≢ other) (97 ∷ []) (99 ∷ 108 ∷ 107 ∷ []) (113 ∷ []) (other_heads _ _ _ _ (λ e. absurd (omega (arith, e)))) (other_heads _ _ _ _ (λ e. absurd (omega (arith, e)))) (other_heads _ _ _ _ (λ e. absurd (omega (arith, e))));
      low = record { from = omega (arith, ints); to = omega (arith, ints) };
      high = record { from = omega (arith, ints); to = omega (arith, ints) };
      dead = record { from = omega (arith, ints); to = omega (arith, ints) };
      delays = omega (arith, ints);
    });
    names = pairs_one (λ (one other : List ℕ). one ≢ other) (68 ∷ 70 ∷ 70 ∷ []);
  };
  flat_fits = record {
    cells = omega arith;
    rows = all_one (λ (cell : FlatCell). cell.row < 1) (record { path = 117 ∷ 49 ∷ []; row = 0 }) (omega arith);
    names = port_names;
    nets = refl;
    pins = refl;
    read = all_three (λ (pin : Pin). pin.net < 3) (record { reader = reader.Pin 0 0; net = 1 }) (record { reader = reader.Pin 0 1; net = 0 }) (record { reader = reader.Port 2; net = 2 }) (omega arith) (omega arith) (omega arith);
  };
  bench_fits = bench_fits _ _ _ (pos 4000) (pos 6000) (record { offset = pos 0; setup = pos 1000; hold = pos 1000 }) (within _ _ _ (omega (arith, ints)) (omega (arith, ints))) (within _ _ _ (omega (arith, ints)) (omega (arith, ints))) (omega (arith, ints))
      (within _ _ _ (omega (arith, ints)) (omega (arith, ints))) (omega (arith, ints)) (within _ _ _ (omega (arith, ints)) (omega (arith, ints))) (within _ _ _ (omega (arith, ints)) (omega (arith, ints)));
}

pub register_runs : RegisterRuns
register_runs = record { set_up = register_set_up; is_run = record { ticks = λ k. refl; nets = refl; sent = register_sent }; one_bit = refl; two_bit = refl }
