use Rattle.std.proofs.Common.{◌≡◌, ◌<◌, ℕ, true, false, List, [], ◌∷◌, refl, sym, subst, arith, codes}
use Rattle.std.specs.List.{All}
use Rattle.std.proofs.lemmas.List.Elements.{All-cons, All-nil}
use Rattle.rsfq_ids.specs.declared.circuit.PortBit.{PortBit}
use Rattle.rsfq_ids.specs.declared.circuit.FlatCell.{FlatCell}
use Rattle.rsfq_ids.specs.declared.circuit.Pin.{Pin}
use Rattle.rsfq_ids.specs.declared.circuit.Driver.{Driver}
use Rattle.rsfq_ids.specs.declared.circuit.Driver.TheVariants as driver
use Rattle.rsfq_ids.specs.declared.circuit.Reader.TheVariants as reader
use Rattle.rsfq_ids.specs.WellFormed.{AreDistinct, IsFlat}
use Rattle.flat_form.specs.Table.{jtl_table}
use Rattle.flat_form.proofs.tests.circuit.Goals as goal

abbrev sample_ports : List ℕ → List ℕ → List PortBit
sample_ports first fourth =
    record { name = first; output = false } ∷ record { name = codes "a"; output = false } ∷ record { name = codes "b"; output = false } ∷ record { name = fourth; output = true } ∷ record { name = codes "z"; output = true } ∷ []

abbrev sample_cells : List FlatCell
sample_cells = record { path = codes "p"; row = 0 } ∷ record { path = codes "q"; row = 0 } ∷ record { path = codes "r"; row = 0 } ∷ []

abbrev sample_nets : List Driver
sample_nets = driver.Port 0 ∷ driver.Port 1 ∷ driver.Port 2 ∷ driver.Out 0 0 ∷ driver.Out 1 0 ∷ driver.Out 2 0 ∷ []

abbrev sample_pins : ℕ → ℕ → ℕ → ℕ → ℕ → List Pin
sample_pins p q r y z =
    record { reader = reader.Pin 0 0; net = p } ∷ record { reader = reader.Pin 1 0; net = q } ∷ record { reader = reader.Pin 2 0; net = r } ∷ record { reader = reader.Port 3; net = y } ∷ record { reader = reader.Port 4; net = z } ∷ []

-- a pin and more pins read nets
pins_more : (pin : Pin) (pins : List Pin) → pin.net < 6 → All (λ (p : Pin). p.net < 6) pins → All (λ (p : Pin). p.net < 6) (pin ∷ pins)
pins_more pin pins l all = All-cons (λ (p : Pin). p.net < 6) pin pins l all

cells_more : (path : List ℕ) (cells : List FlatCell) → All (λ (c : FlatCell). c.row < 1) cells → All (λ (c : FlatCell). c.row < 1) (record { path = path; row = 0 } ∷ cells)
cells_more path cells all = All-cons (λ (c : FlatCell). c.row < 1) (record { path = path; row = 0 }) cells (let l : 0 < 1 = omega arith in l) all

sample_fits : (first fourth : List ℕ) (p q r y z : ℕ) → AreDistinct (first ∷ codes "a" ∷ codes "b" ∷ fourth ∷ codes "z" ∷ []) → p < 6 → q < 6 → r < 6 → y < 6 → z < 6
    → IsFlat jtl_table (record { ports = sample_ports first fourth; cells = sample_cells; nets = sample_nets; pins = sample_pins p q r y z })
sample_fits first fourth p q r y z distinct lp lq lr ly lz = record {
  cells = omega arith;
  rows = cells_more (codes "p") (record { path = codes "q"; row = 0 } ∷ record { path = codes "r"; row = 0 } ∷ []) (cells_more (codes "q") (record { path = codes "r"; row = 0 } ∷ []) (cells_more (codes "r") ([]) (All-nil (λ (c : FlatCell). c.row < 1))));
  names = distinct;
  nets = refl;
  pins = refl;
  read = pins_more (record { reader = reader.Pin 0 0; net = p }) (record { reader = reader.Pin 1 0; net = q } ∷ record { reader = reader.Pin 2 0; net = r } ∷ record { reader = reader.Port 3; net = y } ∷ record { reader = reader.Port 4; net = z } ∷ []) lp (pins_more (record { reader = reader.Pin 1 0; net = q }) (record { reader = reader.Pin 2 0; net = r } ∷ record { reader = reader.Port 3; net = y } ∷ record { reader = reader.Port 4; net = z } ∷ []) lq (pins_more (record { reader = reader.Pin 2 0; net = r }) (record { reader = reader.Port 3; net = y } ∷ record { reader = reader.Port 4; net = z } ∷ []) lr (pins_more (record { reader = reader.Port 3; net = y }) (record { reader = reader.Port 4; net = z } ∷ []) ly (pins_more (record { reader = reader.Port 4; net = z }) ([]) lz (All-nil (λ (p : Pin). p.net < 6))))));
}

parts_fit : (ports : List PortBit) (cells : List FlatCell) (nets : List Driver) (pins : List Pin) (first fourth : List ℕ) (p q r y z : ℕ) → ports ≡ sample_ports first fourth → cells ≡ sample_cells → nets ≡ sample_nets → pins ≡ sample_pins p q r y z
    → AreDistinct (first ∷ codes "a" ∷ codes "b" ∷ fourth ∷ codes "z" ∷ []) → p < 6 → q < 6 → r < 6 → y < 6 → z < 6 → IsFlat jtl_table (record { ports = ports; cells = cells; nets = nets; pins = pins })
parts_fit ports cells nets pins first fourth p q r y z a b c d distinct lp lq lr ly lz =
    subst (λ (l : List PortBit). IsFlat jtl_table (record { ports = l; cells = cells; nets = nets; pins = pins })) (sym a)
    (subst (λ (l : List FlatCell). IsFlat jtl_table (record { ports = sample_ports first fourth; cells = l; nets = nets; pins = pins })) (sym b)
    (subst (λ (l : List Driver). IsFlat jtl_table (record { ports = sample_ports first fourth; cells = sample_cells; nets = l; pins = pins })) (sym c)
    (subst (λ (l : List Pin). IsFlat jtl_table (record { ports = sample_ports first fourth; cells = sample_cells; nets = sample_nets; pins = l })) (sym d) (sample_fits first fourth p q r y z distinct lp lq lr ly lz))))

pub returns : goal.returns
returns c =
    parts_fit c.in_ok-ports.field-0 c.in_ok-cells.field-0 c.in_ok-nets.field-0 c.in_ok-pins.field-0 c.names.result.0.now c.names.result.1.now c.args.reads.p c.args.reads.q c.args.reads.r c.args.reads.y c.args.reads.z
    c.in_ok-ports.ensures c.in_ok-cells.ensures c.in_ok-nets.ensures c.in_ok-pins.ensures c.names.ensures c.requires.0 c.requires.1 c.requires.2 c.requires.3 c.requires.4
