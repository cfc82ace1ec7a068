-- A bound source has at most one circuit, and what is refused has none.
use Rattle.std.proofs.Common.{◌≡◌, ◌≢◌, ◌∙◌, ℕ, zero, suc, List, [], ◌∷◌, map, Some, refl, sym, ap, subst, arith}
use Rattle.std.specs.Prelude.{slice_get}
use Rattle.std.proofs.lemmas.Option.{same_Some}
use Rattle.rsfq_ids.specs.declared.table.CellTable.{CellTable}
use Rattle.rsfq_ids.specs.declared.circuit.Flat.{Flat}
use Rattle.rsfq_ids.specs.declared.circuit.FlatCell.{FlatCell}
use Rattle.rsfq_ids.specs.declared.circuit.PortBit.{PortBit}
use Rattle.rsfq_ids.specs.declared.circuit.Pin.{Pin}
use Rattle.rsfq_ids.specs.declared.circuit.Driver.{Driver}
use Rattle.rsfq_ids.specs.declared.circuit.Reader.{Reader}
use Rattle.rsfq_ids.specs.declared.circuit.Reader.TheVariants as reader
use Rattle.rsfq_ids.specs.WellFormed.{drivers_of, readers_of}
use Rattle.bind_forms.specs.declared.bound.BoundModule.{BoundModule}
use Rattle.bind_forms.specs.declared.bound.Bound.{Bound}
use Rattle.bind_forms.specs.WellFormed.{IsBound}
use Rattle.flat_places.specs.declared.limits.SizeFault.{SizeFault}
use Rattle.flat_places.specs.declared.limits.SizeFault.TheVariants.{Nesting, Cells, Wires, Memory}
use Rattle.flat_places.specs.Sizes.{IsWithinLimits, PassesLimit}
use Rattle.flat_places.specs.Circuit.{IsCircuitOf, ReadsFromDriver}
use Rattle.flat_places.specs.Drives.{Drives, ReadsAt}
use Rattle.flat_places.specs.Places.{Place, port_places}
use Rattle.flat_places.specs.Refusal.{HasOneDriver, IsFirstTwo, IsFirstUndriven}
use Rattle.flat_places.proofs.Joined.{map_got}
use Rattle.flat_places.specs.Whole.{IsShapeOf, ReadsNet}
use Rattle.flat_places.proofs.Distinct.{one_net}
use Rattle.flat_places.proofs.Pins.{pin_complete}

-- ---- circuits by their parts

drivers_same : (table : CellTable) (one other : Flat) → one.ports ≡ other.ports → one.cells ≡ other.cells → drivers_of table one ≡ drivers_of table other
drivers_same table one other ports cells =
    ap (λ (ps : List PortBit). drivers_of table (record { ports = ps; cells = one.cells; nets = []; pins = [] })) ports
    ∙ ap (λ (cs : List FlatCell). drivers_of table (record { ports = other.ports; cells = cs; nets = []; pins = [] })) cells

readers_same : (table : CellTable) (one other : Flat) → one.ports ≡ other.ports → one.cells ≡ other.cells → readers_of table one ≡ readers_of table other
readers_same table one other ports cells =
    ap (λ (ps : List PortBit). readers_of table (record { ports = ps; cells = one.cells; nets = []; pins = [] })) ports
    ∙ ap (λ (cs : List FlatCell). readers_of table (record { ports = other.ports; cells = cs; nets = []; pins = [] })) cells

parts_same : (one other : Flat) → one.ports ≡ other.ports → one.cells ≡ other.cells → one.nets ≡ other.nets → one.pins ≡ other.pins → one ≡ other
parts_same one other ports cells nets pins =
    ap (λ (ps : List PortBit). let f : Flat = record { ports = ps; cells = one.cells; nets = one.nets; pins = one.pins } in f) ports
    ∙ ap (λ (cs : List FlatCell). let f : Flat = record { ports = other.ports; cells = cs; nets = one.nets; pins = one.pins } in f) cells
    ∙ ap (λ (ns : List Driver). let f : Flat = record { ports = other.ports; cells = other.cells; nets = ns; pins = one.pins } in f) nets
    ∙ ap (λ (qs : List Pin). let f : Flat = record { ports = other.ports; cells = other.cells; nets = other.nets; pins = qs } in f) pins

first_same : (x y : Reader) (xs ys : List Reader) → x ∷ xs ≡ y ∷ ys → x ≡ y
first_same x y xs ys e = cc

rest_same : (x y : Reader) (xs ys : List Reader) → x ∷ xs ≡ y ∷ ys → xs ≡ ys
rest_same x y xs ys e = cc

-- pins with the same readers, where each net is one that its reader alone gives
pins_same : (P : Reader → ℕ → Type 0) → ((by : Reader) (net other : ℕ) → P by net → P by other → net ≡ other) → (xs ys : List Pin) → map (λ (pin : Pin). pin.reader) xs ≡ map (λ (pin : Pin). pin.reader) ys →
    ((at : ℕ) (pin : Pin) → slice_get xs at ≡ Some pin → P pin.reader pin.net) → ((at : ℕ) (pin : Pin) → slice_get ys at ≡ Some pin → P pin.reader pin.net) → xs ≡ ys
pins_same P one [] [] e f g = refl
pins_same P one [] (y ∷ ys) e f g = absurd cc
pins_same P one (x ∷ xs) [] e f g = absurd cc
pins_same P one (x ∷ xs) (y ∷ ys) e f g =
    let readers : x.reader ≡ y.reader = first_same x.reader y.reader (map (λ (pin : Pin). pin.reader) xs) (map (λ (pin : Pin). pin.reader) ys) e in
    let nets : x.net ≡ y.net = one y.reader x.net y.net (subst (λ (by : Reader). P by x.net) readers (f zero x refl)) (g zero y refl) in
    let pin : x ≡ y =
    ap (λ (by : Reader). let p : Pin = record { reader = by; net = x.net } in p) readers ∙ ap (λ (net : ℕ). let p : Pin = record { reader = y.reader; net = net } in p) nets in
    let rest : xs ≡ ys = pins_same P one xs ys (rest_same x.reader y.reader (map (λ (pin : Pin). pin.reader) xs) (map (λ (pin : Pin). pin.reader) ys) e) (λ at p h. f (suc at) p h) (λ at p h. g (suc at) p h) in
    ap (λ (p : Pin). p ∷ xs) pin ∙ ap (λ (ps : List Pin). y ∷ ps) rest

-- ---- one circuit

-- a reader reads at one place
reads_one : (table : CellTable) (bound : Bound) → IsBound table bound → (by : Reader) (place other : Place) → ReadsAt bound by place → ReadsAt bound by other → place ≡ other
reads_one table bound is (reader.Pin cell pin) place other a b = same_Some place other (sym (pin_complete table bound is cell pin a.found place a.numbered a) ∙ pin_complete table bound is cell pin a.found other a.numbered b)
reads_one table bound is (reader.Port port) place other a b =
    let top : a.top ≡ b.top = same_Some a.top b.top (sym a.there ∙ b.there) in
    same_Some place other (sym a.numbered ∙ ap (λ (t : BoundModule). slice_get (port_places t.ports) port) top ∙ b.numbered)

-- and so it reads one net, where no place has two drivers
net_one : (table : CellTable) (bound : Bound) → IsBound table bound → ((place : Place) → HasOneDriver table bound place) → (flat : Flat) (by : Reader) (net other : ℕ) →
    ReadsNet table bound (drivers_of table flat) by net → ReadsNet table bound (drivers_of table flat) by other → net ≡ other
net_one table bound is once flat by net other a b =
    let place : b.reads.place ≡ a.reads.place = reads_one table bound is by b.reads.place a.reads.place b.reads.reads a.reads.reads in
    let from : a.from ≡ b.from = once a.reads.place a.from b.from a.reads.drives (subst (λ (p : Place). Drives table bound b.from p) place b.reads.drives) in
    one_net table flat net other b.from (a.from_is ∙ ap Some from) b.from_is

pub one_circuit : (table : CellTable) (bound : Bound) → IsBound table bound → ((place : Place) → HasOneDriver table bound place) → (one other : Flat) → IsCircuitOf table bound one → IsCircuitOf table bound other → one ≡ other
one_circuit table bound is once one other a b = parts_same one other ports cells (a.nets ∙ drivers ∙ sym b.nets) pins where
  ports : one.ports ≡ other.ports
  ports = a.ports ∙ sym b.ports

  cells : one.cells ≡ other.cells
  cells = a.cells ∙ sym b.cells

  drivers : drivers_of table one ≡ drivers_of table other
  drivers = drivers_same table one other ports cells

  read_by : (flat : Flat) → IsCircuitOf table bound flat → drivers_of table flat ≡ drivers_of table other → (at : ℕ) (pin : Pin) → slice_get flat.pins at ≡ Some pin → ReadsNet table bound (drivers_of table other) pin.reader pin.net
  read_by flat c same at pin e =
      let r = c.read at pin e in
      record { from = r.0; from_is = subst (λ (nets : List Driver). slice_get nets pin.net ≡ Some r.0) (c.nets ∙ same) r.1; reads = r.2 }

  pins : one.pins ≡ other.pins
  pins = pins_same (ReadsNet table bound (drivers_of table other)) (net_one table bound is once other) one.pins other.pins (a.pins ∙ readers_same table one other ports cells ∙ sym b.pins) (read_by one a drivers) (read_by other b refl)

-- ---- no circuit

pub limit_passed : (bound : Bound) (fault : SizeFault) → fault ≢ Memory → PassesLimit bound fault → IsWithinLimits bound → ⊥
limit_passed bound (Nesting count) free passed within = within.nesting passed.1
limit_passed bound (Cells count) free passed within = let most = within.cells in let more = passed.2 in omega (arith, most, more)
limit_passed bound (Wires count) free passed within = let most = within.wires in let more = passed.3 in omega (arith, most, more)
limit_passed bound Memory free passed within = free refl

pub two_drivers : (table : CellTable) (bound : Bound) (flat : Flat) (place : Place) (one other : Driver) → IsFirstTwo table bound (drivers_of table flat) place one other → HasOneDriver table bound place → ⊥
two_drivers table bound flat place one other two once =
    let same : one ≡ other = once one other two.drives_first two.drives_second in
    let net : two.low ≡ two.high = one_net table flat two.low two.high other (two.first_at ∙ ap Some same) two.second_at in
    let order = two.order in
    omega (arith, net, order)

pub undriven_reader : (table : CellTable) (bound : Bound) (shape : Flat) → IsShapeOf bound shape → (by : Reader) → IsFirstUndriven table bound (readers_of table shape) by → (flat : Flat) → IsCircuitOf table bound flat → ⊥
undriven_reader table bound shape has by first flat circuit =
    let readers : readers_of table shape ≡ map (λ (pin : Pin). pin.reader) flat.pins = readers_same table shape flat (has.ports ∙ sym circuit.ports) (has.cells ∙ sym circuit.cells) ∙ sym circuit.pins in
    let m = map_got (λ (pin : Pin). pin.reader) flat.pins first.pin by (subst (λ (rs : List Reader). slice_get rs first.pin ≡ Some by) readers first.numbered) in
    let r = circuit.read first.pin m.0 m.1 in
    first.undriven r.0 (subst (ReadsFromDriver table bound r.0) m.2 r.2)
