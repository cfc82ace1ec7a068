-- Wires on their bench are ready to be timed.
use Rattle.std.proofs.Common.{◌≡◌, ◌≢◌, ◌∙◌, inl, inr, ℕ, zero, suc, Bool, true, false, cond, ℤ, pos, ◌≤ℤ◌, List, [], ◌∷◌, Option, Some, None, Result, Ok, Err, IfOk, refl, sym, ap, subst, arith, codes}
use Rattle.std.specs.Prelude.{slice_get}
use Rattle.std.specs.Option.{option_and_then}
use Rattle.std.specs.List.{Contains}
use Rattle.std.specs.Str.{bytes_eq}
use Rattle.std.proofs.lemmas.Int.{ints}
use Rattle.std.proofs.lemmas.List.{length-map}
use Rattle.std.proofs.lemmas.List.Elements.{All-cons, All-nil}
use Rattle.std.proofs.lemmas.List.Kept.{AllPairs-cons}
use Rattle.std.proofs.lemmas.Slice.Eq.{bytes_eq-Decides}
use Rattle.rsfq_ids.specs.declared.circuit.PortBit.{PortBit}
use Rattle.rsfq_ids.specs.declared.circuit.Flat.{Flat}
use Rattle.rsfq_ids.specs.declared.circuit.FlatCell.{FlatCell}
use Rattle.rsfq_ids.specs.declared.circuit.PortUse.{PortUse}
use Rattle.rsfq_ids.specs.declared.circuit.PortUse.TheVariants as port_use
use Rattle.rsfq_ids.specs.declared.table.CellRow.{CellRow}
use Rattle.rsfq_ids.specs.WellFormed.{AreDistinct, IsTime, IsPositiveTime, IsRow, IsTable, IsFlat, IsBench, FitsUse}
use Rattle.flat_form.specs.declared.wires.Wires.{Wires}
use Rattle.flat_form.specs.Table.{jtl_row, jtl_table}
use Rattle.flat_form.specs.Form.{clock_name, IsClockPort, IsRead, IsOfForm, AreWires}
use Rattle.flat_form.specs.Bench.{use_of, wire_bench_of, design_on, IsTimeable}
use Rattle.flat_form.proofs.Lists.{some_same, got_none, got_first, got_rest, contains_cons, contains_none, map_got, got_map, one_place}
use Rattle.flat_form.proofs.PinByPin.{same_default}

pub ok_that : {A E : Type 0} (P Q : A → Type 0) (r : Result A E) → IfOk r P → ((x : A) → P x → Q x) → IfOk r Q
ok_that P Q (Ok x) p f = f x p
ok_that P Q (Err e) p f = tt

-- ---- the table

none_distinct : AreDistinct []
none_distinct = λ i j d l m. absurd (omega arith)

distinct_cons : (x : List ℕ) (xs : List (List ℕ)) → ¬ Contains xs x → AreDistinct xs → AreDistinct (x ∷ xs)
distinct_cons x xs none rest = AllPairs-cons (λ one other. one ≢ other) x xs (λ k d l e. none (k, l, same_default xs k x d l ∙ sym e)) rest

one_distinct : (name : List ℕ) → AreDistinct (name ∷ [])
one_distinct name = distinct_cons name [] (contains_none name) none_distinct

a_is_not_q : ¬ Contains (codes "q" ∷ []) (codes "a")
a_is_not_q c = elim (contains_cons (codes "q") [] (codes "a") c) [ inl e ↦ apart ((bytes_eq-Decides (codes "q") (codes "a")).1 e) | inr h ↦ contains_none (codes "a") h ] where
  apart : false ≡ true → ⊥
  apart e = absurd cc

pub table_fits : IsTable jtl_table
table_fits = record {
  rows = All-cons IsRow jtl_row [] (record {
    kind = (refl, refl, refl, refl, refl, refl);
    pins = distinct_cons (codes "a") (codes "q" ∷ []) a_is_not_q (one_distinct (codes "q"));
    low = record { from = omega (arith, ints); to = omega (arith, ints) };
    high = record { from = omega (arith, ints); to = omega (arith, ints) };
    dead = record { from = omega (arith, ints); to = omega (arith, ints) };
    delays = omega (arith, ints);
  }) (All-nil IsRow);
  names = one_distinct (codes "JTL");
}

-- each cell is of the one row
row_is : (n : ℕ) (row : CellRow) → slice_get (jtl_row ∷ []) n ≡ Some row → jtl_row ≡ row
row_is zero row e = got_first jtl_row [] row e
row_is (suc n) row e = absurd (got_none n row (got_rest jtl_row [] n row e))

of_row : (found : Option FlatCell) (row : CellRow) → option_and_then (λ (c : FlatCell). slice_get (jtl_row ∷ []) c.row) found ≡ Some row → jtl_row ≡ row
of_row None row e = absurd cc
of_row (Some cell) row e = row_is cell.row row e

-- ---- the clock

pub same_bench : (flat : Flat) (clock : ℕ) (period low high : ℤ) (p l h : ℤ) → p ≡ period → l ≡ low → h ≡ high → wire_bench_of flat clock p l h ≡ wire_bench_of flat clock period low high
same_bench flat clock period low high p l h e f g =
    ap (λ (x : ℤ). wire_bench_of flat clock x l h) e ∙ ap (λ (x : ℤ). wire_bench_of flat clock period x h) f ∙ ap (λ (x : ℤ). wire_bench_of flat clock period low x) g

module _ (flat : Flat) (fits : IsFlat jtl_table flat) where
  -- there is one input of the clock's name
  pub one_clock : (port other : ℕ) → IsClockPort flat port → IsClockPort flat other → port ≡ other
  one_clock port other is also =
      one_place _ fits.names port other clock_name (map_got (λ (p : PortBit). p.name) flat.ports port is.bit is.at ∙ ap Some is.named) (map_got (λ (p : PortBit). p.name) flat.ports other also.bit also.at ∙ ap Some also.named)

  pub unread_clock : (port : ℕ) → IsClockPort flat port → IsOfForm flat → ¬ IsRead flat port
  unread_clock port is form read = form.clock_unread (subst (IsRead flat) (one_clock port form.clock is form.clock_is) read)

  -- a port of its name is it
  named_clock : (clock at : ℕ) (port : PortBit) → IsClockPort flat clock → slice_get flat.ports at ≡ Some port → port.name ≡ clock_name → at ≡ clock
  named_clock clock at port is e n =
      one_place _ fits.names at clock clock_name (map_got (λ (p : PortBit). p.name) flat.ports at port e ∙ ap Some n) (map_got (λ (p : PortBit). p.name) flat.ports clock is.bit is.at ∙ ap Some is.named)

  -- ---- the bench

  module _ (clock : ℕ) (is_clock : IsClockPort flat clock) (period low high : ℤ) (in_period : IsPositiveTime period) (in_low : IsTime low) (in_high : IsTime high) (in_order : low ≤ℤ high) where
    use_fits : (at : ℕ) (port : PortBit) → slice_get flat.ports at ≡ Some port → FitsUse (wire_bench_of flat clock period low high) at port (use_of low high port)
    use_fits at port e = go port.output refl (bytes_eq port.name clock_name) refl where
      go : (b : Bool) → port.output ≡ b → (c : Bool) → bytes_eq port.name clock_name ≡ c
          → FitsUse (wire_bench_of flat clock period low high) at port (cond b (port_use.Strobed (record { offset = pos 0; setup = pos 1; hold = pos 1 })) (cond c port_use.Clock (port_use.Arrival low high)))
      go true is c is' = (
        is,
        record { from = omega (arith, ints); to = omega (arith, ints) },
        (let l = in_period.from in omega (arith, ints)),
        record { from = omega (arith, ints); to = omega (arith, ints) },
        record { from = omega (arith, ints); to = omega (arith, ints) },
      )
      go false is true is' = (named_clock clock at port is_clock e ((bytes_eq-Decides port.name clock_name).0 is'), is)
      go false is false is' = (apart, is, in_low, in_high, in_order) where
        apart : at ≡ clock → ⊥
        apart same =
            let found : is_clock.bit ≡ port = some_same is_clock.bit port (sym is_clock.at ∙ subst (λ (k : ℕ). slice_get flat.ports k ≡ Some port) same e) in
            let named : port.name ≡ clock_name = ap (λ (p : PortBit). p.name) (sym found) ∙ is_clock.named in
            let equal = (bytes_eq-Decides port.name clock_name).1 named in
            absurd cc

    bench_fits : IsBench flat (wire_bench_of flat clock period low high)
    bench_fits = record {
      ports = length-map flat.ports (use_of low high);
      uses = λ at port used e u.
          let g = got_map (use_of low high) flat.ports at used u in
          let same : use_of low high port ≡ used = ap (use_of low high) (some_same port g.0 (sym e ∙ g.1)) ∙ g.2 in
          subst (λ (w : PortUse). FitsUse (wire_bench_of flat clock period low high) at port w) same (use_fits at port e);
      clock = map_got (use_of low high) flat.ports clock is_clock.bit is_clock.at ∙ ap Some (use_clock is_clock.bit is_clock.input is_clock.named);
      period = in_period;
      jitter = record { from = omega (arith, ints); to = omega (arith, ints) };
    }
      where
        use_clock : (port : PortBit) → port.output ≡ false → port.name ≡ clock_name → use_of low high port ≡ port_use.Clock
        use_clock port o n = let equal : bytes_eq port.name clock_name ≡ true = (bytes_eq-Decides port.name clock_name).1 n in rw (o, equal) refl

    -- ---- all of it

    pub timeable : (wires : Wires) → AreWires flat wires → wires.clock ≡ clock → IsTimeable (design_on flat (wire_bench_of flat clock period low high)) wires.order
    timeable wires are same = record {
      set_up = record { table_fits = table_fits; flat_fits = fits; bench_fits = bench_fits };
      jtls = λ cell row of. ap (λ (r : CellRow). r.kind) (sym (of_row (slice_get flat.cells cell) row of));
      no_dead_time = λ cell row of. ap (λ (r : CellRow). r.dead) (sym (of_row (slice_get flat.cells cell) row of));
      clock_unread = λ net by driven reads. unread_clock clock is_clock are.form (net, by, driven, reads);
      fanout = λ net first second h. h.0 (are.form.one_reader net first second h.1.0 h.1.1 h.1.2 h.1.3);
      ordered = are.ordered;
    }
