-- The clock's port, and what reads its net.
use Rattle.std.proofs.Common.{◌≡◌, ◌∙◌, ◌<◌, ◌≤◌, ℕ, true, false, List, length, Some, sym, ap, subst, arith, get_or}
use Rattle.std.specs.Prelude.{slice_get}
use Rattle.std.specs.Str.{bytes_eq}
use Rattle.std.proofs.lemmas.Slice.Eq.{bytes_eq-Decides}
use Rattle.std.proofs.lemmas.Bool.{eqb-true, eq-eqb}
use Rattle.std.proofs.Math.Dec.{eqb}
use Rattle.std.proofs.lemmas.Option.{slice_get-get_or, slice_get_within}
use Rattle.rsfq_ids.specs.declared.circuit.PortBit.{PortBit}
use Rattle.rsfq_ids.specs.declared.circuit.Pin.{Pin}
use Rattle.rsfq_ids.specs.declared.circuit.Flat.{Flat}
use Rattle.rsfq_ids.specs.declared.circuit.Driver.{Driver}
use Rattle.rsfq_ids.specs.declared.circuit.Driver.TheVariants as driver
use Rattle.rsfq_ids.specs.declared.circuit.Reader.{Reader}
use Rattle.rsfq_ids.specs.Circuit.{IsDrivenBy, IsPin}
use Rattle.rsfq_ids.specs.WellFormed.{IsFlat}
use Rattle.flat_form.specs.Table.{jtl_table}
use Rattle.flat_form.specs.Form.{clock_name, IsClockPort, IsRead}
use Rattle.flat_form.proofs.Lists.{some_same}
use Rattle.flat_form.proofs.Circuits.{pin_within}

-- an item that a loop comes to
pub item_at : {X : Type 0} (items all : List X) (place : ℕ) (item : X) → items ≡ all → place < length items → item ≡ get_or items place item → slice_get all place ≡ Some item
item_at {X} items all place item are l is = subst (λ (xs : List X). slice_get xs place ≡ Some item) are (slice_get-get_or items place item l ∙ ap Some (sym is))

-- ---- the port

module _ (flat : Flat) (place : ℕ) (bit : PortBit) (at : slice_get flat.ports place ≡ Some bit) where
  pub clock_here : (port : ℕ) → port ≡ place → bit.output ≡ false → bytes_eq bit.name clock_name ≡ true → IsClockPort flat port
  clock_here port same input named = record {
    bit = bit;
    at = subst (λ (k : ℕ). slice_get flat.ports k ≡ Some bit) (sym same) at;
    input = input;
    named = (bytes_eq-Decides bit.name clock_name).0 named;
  }

  pub output_here : bit.output ≡ true → ¬ IsClockPort flat place
  output_here output is =
      let same : is.bit ≡ bit = some_same is.bit bit (sym is.at ∙ at) in
      let input : bit.output ≡ false = ap (λ (b : PortBit). b.output) (sym same) ∙ is.input in
      absurd cc

  pub other_here : bytes_eq bit.name clock_name ≡ false → ¬ IsClockPort flat place
  other_here other is =
      let same : is.bit ≡ bit = some_same is.bit bit (sym is.at ∙ at) in
      let named : bytes_eq bit.name clock_name ≡ true = (bytes_eq-Decides bit.name clock_name).1 (ap (λ (b : PortBit). b.name) (sym same) ∙ is.named) in
      absurd cc

pub port_before : (flat : Flat) (port count : ℕ) → IsClockPort flat port → length flat.ports ≤ count → port < count
port_before flat port count is le = let l = slice_get_within flat.ports port is.bit is.at in omega arith

-- ---- its readers

module _ (flat : Flat) (fits : IsFlat jtl_table flat) (port place : ℕ) (pin : Pin) (at : slice_get flat.pins place ≡ Some pin) (nets : List Driver) (are : nets ≡ flat.nets) (k : ℕ) (net_is : k ≡ pin.net) (d : Driver) where
  got : slice_get flat.nets pin.net ≡ Some (get_or nets k d)
  got =
      let l : pin.net < length nets = subst (λ (xs : List Driver). pin.net < length xs) (sym are) (pin_within flat fits place pin at) in
      subst (λ (xs : List Driver). slice_get xs pin.net ≡ Some (get_or nets k d)) are (slice_get-get_or nets pin.net d l ∙ ap (λ (i : ℕ). Some (get_or nets i d)) (sym net_is))

  pub read_here : (from : ℕ) → get_or nets k d ≡ driver.Port from → eqb from port ≡ true → IsRead flat port
  read_here from is same = (pin.net, pin.reader, got ∙ ap Some is ∙ ap (λ (p : ℕ). Some (driver.Port p)) (eqb-true from port same), (place, at))

  unread_here : ((from : ℕ) → get_or nets k d ≡ driver.Port from → ¬ (from ≡ port)) → (net : ℕ) (by : Reader) → IsPin flat place by net → ¬ IsDrivenBy flat net (driver.Port port)
  unread_here other net by is driven =
      let same : pin ≡ record { reader = by; net = net } = some_same pin (record { reader = by; net = net }) (sym at ∙ is) in
      let net' : pin.net ≡ net = ap (λ (p : Pin). p.net) same in
      let from : get_or nets k d ≡ driver.Port port = some_same (get_or nets k d) (driver.Port port) (sym got ∙ subst (λ (n : ℕ). slice_get flat.nets n ≡ Some (driver.Port port)) (sym net') driven) in
      other port from (let p : port ≡ port = omega arith in p)

  pub not_driven_here : (cell out : ℕ) → get_or nets k d ≡ driver.Out cell out → (net : ℕ) (by : Reader) → IsPin flat place by net → ¬ IsDrivenBy flat net (driver.Port port)
  not_driven_here cell out is = unread_here (λ from e. let both : driver.Out cell out ≡ driver.Port from = sym is ∙ e in absurd cc)

  pub other_driven_here : (from : ℕ) → get_or nets k d ≡ driver.Port from → eqb from port ≡ false → (net : ℕ) (by : Reader) → IsPin flat place by net → ¬ IsDrivenBy flat net (driver.Port port)
  other_driven_here from is unlike =
      unread_here (λ other e same. let both : driver.Port from ≡ driver.Port other = sym is ∙ e in let yes' : eqb from port ≡ true = eq-eqb from port (let f : from ≡ other = cc in f ∙ same) in absurd cc)

-- no pin reads it
pub never_read : (flat : Flat) (port count : ℕ) → length flat.pins ≤ count → ((pin : ℕ) → pin < count → (net : ℕ) (by : Reader) → IsPin flat pin by net → ¬ IsDrivenBy flat net (driver.Port port)) → ¬ IsRead flat port
never_read flat port count all none read = none read.3.0 (let l = slice_get_within flat.pins read.3.0 _ read.3.1 in omega arith) read.0 read.1 read.3.1 read.2
