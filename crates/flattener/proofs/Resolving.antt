-- What is found over the numbers of a shape, said of its places.
use Rattle.std.proofs.Common.{◌≡◌, ◌∙◌, ◌+◌, ◌<◌, ◌≤◌, ℕ, zero, suc, List, [], ◌∷◌, ◌++◌, map, drop, length, get_or, Option, Some, None, refl, sym, ap, subst, arith, add-one, drop-cons, append_assoc, length-drop}
use Rattle.std.specs.Prelude.{slice_get}
use Rattle.std.specs.Option.{option_map, MatchOption}
use Rattle.std.specs.List.{All}
use Rattle.std.proofs.lemmas.Option.{same_Some, slice_get_within, slice_get-get_or, slice_get-map}
use Rattle.std.proofs.lemmas.List.{append-nil}
use Rattle.rsfq_ids.specs.declared.circuit.Driver.{Driver}
use Rattle.rsfq_ids.specs.declared.circuit.Reader.{Reader}
use Rattle.rsfq_ids.specs.declared.circuit.Pin.{Pin}
use Rattle.rsfq_ids.specs.declared.circuit.Flat.{Flat}
use Rattle.rsfq_ids.specs.declared.circuit.FlatCell.{FlatCell}
use Rattle.rsfq_ids.specs.declared.circuit.PortBit.{PortBit}
use Rattle.rsfq_ids.specs.WellFormed.{drivers_of, readers_of}
use Rattle.flat_aliases.specs.declared.link.Link.{Link}
use Rattle.flat_aliases.specs.Drives as number
use Rattle.bind_forms.specs.declared.bound.Bound.{Bound}
use Rattle.flat_places.specs.Hierarchy.{bit_count}
use Rattle.flat_places.specs.Places.{Place, places_of}
use Rattle.flat_places.specs.Names.{place_name, driver_name, reader_name}
use Rattle.flat_places.specs.Circuit.{ReadsFromDriver}
use Rattle.flat_places.specs.Refusal.{IsFirstTwo, HasNoDriver}
use Rattle.flat_places.specs.Whole.{whole_piece, starts_of, reads_of, AreListed, NumbersFirstTwo, ReadsNet}
use Rattle.flattener.specs.declared.shape.Shape.{Shape}
use Rattle.flattener.specs.Ends.{bare, HasDriver, HasReader, printed_driver, printed_reader}
use Rattle.flattener.specs.Refused.{shape_of, readers_in, NamesTwo, NamesUndriven}
use Rattle.flattener.specs.Shape.{IsShaped, numbered_name, NoDriverAt}
use Rattle.flattener.proofs.Members.{driver_there, reader_there, few_readers}
use Rattle.flattener.proofs.Naming.{driver_printed, reader_printed, name_listed}
use Rattle.flat_places.proofs.Joined.{got_left}

-- the circuit's ports and cells alone
abbrev flat_of : Shape → Flat
flat_of shape = bare shape.ports.now shape.cells.now

-- equal ports and cells make one shape
pub same_shape : (ports others : List PortBit) (cells more : List FlatCell) → ports ≡ others → cells ≡ more → bare ports cells ≡ bare others more
same_shape ports others cells more p c = ap (λ (ps : List PortBit). bare ps cells) p ∙ ap (bare others) c

pub is_shape : (shape : Shape) → IsShaped shape → flat_of shape ≡ shape_of shape.source.bound.now
is_shape shape s = same_shape shape.ports.now (shape_of shape.source.bound.now).ports shape.cells.now (shape_of shape.source.bound.now).cells s.has_shape.ports s.has_shape.cells

-- ---- drivers and readers

pub net_fits : (shape : Shape) → IsShaped shape → (net : ℕ) (from : Driver) → slice_get shape.nets.now net ≡ Some from → HasDriver shape.source.cells.now shape.ports.now shape.cells.now from
net_fits shape s net from e = driver_there shape.source.cells.now shape.ports.now shape.cells.now net from (subst (λ (ns : List Driver). slice_get ns net ≡ Some from) s.nets e)

pub pin_fits : (shape : Shape) → IsShaped shape → (pin : ℕ) (by : Reader) → slice_get shape.readers.now pin ≡ Some by → HasReader shape.source.cells.now shape.ports.now shape.cells.now by
pin_fits shape s pin by e = reader_there shape.source.cells.now shape.ports.now shape.cells.now pin by (subst (λ (rs : List Reader). slice_get rs pin ≡ Some by) s.readers e)

pub net_printed : (shape : Shape) → IsShaped shape → (net : ℕ) (d from : Driver) (name : List ℕ) → net < length shape.nets.now → name ≡ printed_driver shape.source.cells.now shape.ports.now shape.cells.now (get_or shape.nets.now net d) → slice_get shape.nets.now net ≡ Some from →
    name ≡ driver_name shape.source.cells.now shape.source.bound.now from
net_printed shape s net d from name low is e =
    let got = slice_get-get_or shape.nets.now net d low in
    is ∙ ap (printed_driver shape.source.cells.now shape.ports.now shape.cells.now) (same_Some (get_or shape.nets.now net d) from (sym got ∙ e)) ∙ driver_printed shape.source.cells.now shape.source.bound.now shape.ports.now shape.cells.now s.has_shape from (net_fits shape s net from e)

pub pin_printed_as : (shape : Shape) → IsShaped shape → (pin : ℕ) (d by : Reader) (name : List ℕ) → pin < length shape.readers.now → name ≡ printed_reader shape.source.cells.now shape.ports.now shape.cells.now (get_or shape.readers.now pin d) → slice_get shape.readers.now pin ≡ Some by →
    name ≡ reader_name shape.source.cells.now shape.source.bound.now by
pin_printed_as shape s pin d by name low is e =
    let got = slice_get-get_or shape.readers.now pin d low in
    is ∙ ap (printed_reader shape.source.cells.now shape.ports.now shape.cells.now) (same_Some (get_or shape.readers.now pin d) by (sym got ∙ e)) ∙ reader_printed shape.source.cells.now shape.source.bound.now shape.ports.now shape.cells.now s.has_shape by (pin_fits shape s pin by e)

-- ---- links and starts

-- what holds of a shape's links and starts holds of those that are written out, and the other way round
pub to_whole : (shape : Shape) → IsShaped shape → (P : List Link → List (Option ℕ) → Type 0) → P shape.links.now shape.starts.now →
    P (whole_piece shape.source.cells.now shape.source.bound.now).links (starts_of shape.ports.now (whole_piece shape.source.cells.now shape.source.bound.now))
to_whole shape s P h = subst (λ (ls : List Link). P ls (starts_of shape.ports.now (whole_piece shape.source.cells.now shape.source.bound.now))) s.links (subst (P shape.links.now) s.starts h)

pub from_whole : (shape : Shape) → IsShaped shape → (P : List Link → List (Option ℕ) → Type 0) → P (whole_piece shape.source.cells.now shape.source.bound.now).links (starts_of shape.ports.now (whole_piece shape.source.cells.now shape.source.bound.now)) →
    P shape.links.now shape.starts.now
from_whole shape s P h = subst (P shape.links.now) (sym s.starts) (subst (λ (ls : List Link). P ls (starts_of shape.ports.now (whole_piece shape.source.cells.now shape.source.bound.now))) (sym s.links) h)

-- ---- two drivers

pub two_there : (shape : Shape) → IsShaped shape → (place first second : ℕ) → NumbersFirstTwo shape.source.cells.now shape.source.bound.now (drivers_of shape.source.cells.now (flat_of shape)) place first second → (first < length shape.nets.now) × (second < length shape.nets.now)
two_there shape s place first second two =
    let count = ap length s.nets in
    let one = slice_get_within (drivers_of shape.source.cells.now (flat_of shape)) first two.one two.first_is in
    let other = slice_get_within (drivers_of shape.source.cells.now (flat_of shape)) second two.other two.second_is in
    (omega (arith, count, one), omega (arith, count, other))

pub two_named : (shape : Shape) → IsShaped shape → (place first second : ℕ) (wire one other : List ℕ) → NumbersFirstTwo shape.source.cells.now shape.source.bound.now (drivers_of shape.source.cells.now (flat_of shape)) place first second →
    wire ≡ numbered_name shape.source.bound.now place →
    ((from : Driver) → slice_get shape.nets.now first ≡ Some from → one ≡ driver_name shape.source.cells.now shape.source.bound.now from) →
    ((from : Driver) → slice_get shape.nets.now second ≡ Some from → other ≡ driver_name shape.source.cells.now shape.source.bound.now from) → NamesTwo shape.source.cells.now shape.source.bound.now wire one other
two_named shape s place first second wire one other two is of_first of_second =
    let table = shape.source.cells.now in
    let bound = shape.source.bound.now in
    record {
      place = two.at;
      one = two.one;
      other = two.other;
      is_first = subst (λ (flat : Flat). IsFirstTwo table bound (drivers_of table flat) two.at two.one two.other) (is_shape shape s) two.two;
      wire_name = is ∙ name_listed bound place two.at two.listed;
      first_name = of_first two.one (subst (λ (ns : List Driver). slice_get ns first ≡ Some two.one) (sym s.nets) two.first_is);
      second_name = of_second two.other (subst (λ (ns : List Driver). slice_get ns second ≡ Some two.other) (sym s.nets) two.second_is);
    }

-- ---- rings

pub listed_there : (bound : Bound) (numbers : List ℕ) (places : List Place) → length (places_of bound) ≡ bit_count bound 64 bound.top → AreListed bound numbers places → (at number : ℕ) → slice_get numbers at ≡ Some number → number < bit_count bound 64 bound.top
listed_there bound [] places count h at number e = absurd cc
listed_there bound (n ∷ numbers) [] count h at number e = absurd h
listed_there bound (n ∷ numbers) (place ∷ places) count h zero number e =
    let low = slice_get_within (places_of bound) n place h.0 in
    let same = same_Some n number e in
    omega (arith, low, same, count)
listed_there bound (n ∷ numbers) (place ∷ places) count h (suc at) number e = listed_there bound numbers places count h.1 at number e

pub listed_names : (bound : Bound) (numbers : List ℕ) (places : List Place) → AreListed bound numbers places → map (numbered_name bound) numbers ≡ map (place_name bound) places
listed_names bound [] [] h = refl
listed_names bound [] (place ∷ places) h = absurd h
listed_names bound (n ∷ numbers) [] h = absurd h
listed_names bound (n ∷ numbers) (place ∷ places) h =
    ap (λ (name : List ℕ). name ∷ map (numbered_name bound) numbers) (name_listed bound n place h.0) ∙ ap (λ (names : List (List ℕ)). place_name bound place ∷ names) (listed_names bound numbers places h.1)

-- ---- readers

pub read_driven : (shape : Shape) → IsShaped shape → (found : List (Option ℕ)) → number.IsResolved shape.links.now shape.starts.now shape.places found → (pin place net : ℕ) →
    ((by : Reader) → slice_get (readers_of shape.source.cells.now (flat_of shape)) pin ≡ Some by → slice_get (reads_of shape.ports.now (whole_piece shape.source.cells.now shape.source.bound.now)) pin ≡ Some (Some place) →
    number.Drives (whole_piece shape.source.cells.now shape.source.bound.now).links (starts_of shape.ports.now (whole_piece shape.source.cells.now shape.source.bound.now)) net place →
    ReadsNet shape.source.cells.now shape.source.bound.now (drivers_of shape.source.cells.now (flat_of shape)) by net) →
    slice_get shape.reads.now pin ≡ Some (Some place) → slice_get found place ≡ Some (Some net) → (by : Reader) → slice_get shape.readers.now pin ≡ Some by → ReadsNet shape.source.cells.now shape.source.bound.now shape.nets.now by net
read_driven shape s found r pin place net law reads is by e =
    subst (λ (ns : List Driver). ReadsNet shape.source.cells.now shape.source.bound.now ns by net) (sym s.nets)
    (law by (subst (λ (rs : List Reader). slice_get rs pin ≡ Some by) s.readers e) (subst (λ (rs : List (Option ℕ)). slice_get rs pin ≡ Some (Some place)) s.reads reads)
    (to_whole shape s (λ (ls : List Link) (st : List (Option ℕ)). number.Drives ls st net place) (r.drives place net is)))

pub read_undriven : (shape : Shape) → IsShaped shape → (found : List (Option ℕ)) → number.IsResolved shape.links.now shape.starts.now shape.places found → (pin : ℕ) (at : Option ℕ) →
    ((by : Reader) → slice_get (readers_of shape.source.cells.now (flat_of shape)) pin ≡ Some by → slice_get (reads_of shape.ports.now (whole_piece shape.source.cells.now shape.source.bound.now)) pin ≡ Some at →
    ((place net : ℕ) → at ≡ Some place → number.Drives (whole_piece shape.source.cells.now shape.source.bound.now).links (starts_of shape.ports.now (whole_piece shape.source.cells.now shape.source.bound.now)) net place → ⊥) →
    HasNoDriver shape.source.cells.now shape.source.bound.now by) →
    slice_get shape.reads.now pin ≡ Some at → ((place net : ℕ) → at ≡ Some place → slice_get found place ≡ Some (Some net) → ⊥) → NoDriverAt shape pin
read_undriven shape s found r pin at law reads none by e =
    law by (subst (λ (rs : List Reader). slice_get rs pin ≡ Some by) s.readers e) (subst (λ (rs : List (Option ℕ)). slice_get rs pin ≡ Some at) s.reads reads)
    (λ place net is d. none place net is (r.found place net (from_whole shape s (λ (ls : List Link) (st : List (Option ℕ)). number.Drives ls st net place) d)))

pub few_pins_read : (shape : Shape) → IsShaped shape → length shape.readers.now ≤ 2400000
few_pins_read shape s =
    let count = ap length s.readers in
    let few = few_readers shape.source.cells.now shape.ports.now shape.cells.now s.source.table in
    let cells = s.few_cells in
    let ports = s.few_ports in
    omega (arith, count, few, cells, ports)

-- the next reader was read
pub pins_more : (shape : Shape) (pins more : List Pin) (at : ℕ) (reader : Reader) (net : ℕ) → at < length shape.readers.now → reader ≡ get_or shape.readers.now at reader → more ≡ pins ++ record { reader = reader; net = net } ∷ [] → map (λ (pin : Pin). pin.reader) pins ++ drop at shape.readers.now ≡ shape.readers.now →
    map (λ (pin : Pin). pin.reader) more ++ drop (at + 1) shape.readers.now ≡ shape.readers.now
pins_more shape pins more at reader net low is e inv =
    let readers = shape.readers.now in
    ap (λ (ps : List Pin). map (λ (pin : Pin). pin.reader) ps ++ drop (at + 1) readers) e
    ∙ ap (λ (rs : List Reader). rs ++ drop (at + 1) readers) (mapped_last pins (record { reader = reader; net = net }))
    ∙ append_assoc (map (λ (pin : Pin). pin.reader) pins) (reader ∷ []) (drop (at + 1) readers)
    ∙ ap (λ (k : ℕ). map (λ (pin : Pin). pin.reader) pins ++ (reader ∷ drop k readers)) (add-one at)
    ∙ ap (λ (r : Reader). map (λ (pin : Pin). pin.reader) pins ++ (r ∷ drop (suc at) readers)) is
    ∙ ap (λ (rs : List Reader). map (λ (pin : Pin). pin.reader) pins ++ rs) (sym (drop-cons readers at reader low))
    ∙ inv where
      mapped_last : (ps : List Pin) (p : Pin) → map (λ (pin : Pin). pin.reader) (ps ++ p ∷ []) ≡ map (λ (pin : Pin). pin.reader) ps ++ p.reader ∷ []
      mapped_last [] p = refl
      mapped_last (q ∷ ps) p = ap (λ (rs : List Reader). q.reader ∷ rs) (mapped_last ps p)

pub all_more : {X : Type 0} (P : X → Type 0) (xs ys : List X) (x : X) → ys ≡ xs ++ x ∷ [] → All P xs → P x → All P ys
all_more {X} P xs ys x e h p = subst (All P) (sym e) (added xs h) where
  added : (zs : List X) → All P zs → All P (zs ++ x ∷ [])
  added [] g zero d low = p
  added [] g (suc k) d low = absurd (omega arith)
  added (z ∷ zs) g zero d low = g 0 d (omega arith)
  added (z ∷ zs) g (suc k) d low = added zs (λ j d' low'. g (suc j) d' (omega arith)) k d (omega arith)

-- the readers before were read from nets
pub first_undriven : (shape : Shape) → IsShaped shape → (pins : List Pin) (pin : ℕ) (name : List ℕ) → length pins ≡ pin → map (λ (p : Pin). p.reader) pins ++ drop pin shape.readers.now ≡ shape.readers.now →
    All (λ (p : Pin). ReadsNet shape.source.cells.now shape.source.bound.now shape.nets.now p.reader p.net) pins → pin < length shape.readers.now → NoDriverAt shape pin →
    ((by : Reader) → slice_get shape.readers.now pin ≡ Some by → name ≡ reader_name shape.source.cells.now shape.source.bound.now by) → (d : Reader) → NamesUndriven shape.source.cells.now shape.source.bound.now name
first_undriven shape s pins pin name count inv read low none named d =
    let table = shape.source.cells.now in
    let bound = shape.source.bound.now in
    let readers = shape.readers.now in
    let by = get_or readers pin d in
    let got : slice_get readers pin ≡ Some by = slice_get-get_or readers pin d low in
    let all : readers ≡ readers_in table bound = s.readers ∙ ap (readers_of table) (is_shape shape s) in
    record {
      reader = by;
      is_first = record {
        pin = pin;
        numbered = subst (λ (rs : List Reader). slice_get rs pin ≡ Some by) all got;
        undriven = none by got;
        before = λ earlier one less e. driven earlier one less (subst (λ (rs : List Reader). slice_get rs earlier ≡ Some one) (sym all) e);
      };
      name = named by got;
    } where
      driven : (earlier : ℕ) (one : Reader) → earlier < pin → slice_get shape.readers.now earlier ≡ Some one → (from : Driver) × ReadsFromDriver shape.source.cells.now shape.source.bound.now from one
      driven earlier one less e =
          let p0 : Pin = record { reader = d; net = 0 } in
          let within : earlier < length pins = omega (arith, less, count) in
          let p = get_or pins earlier p0 in
          let is : slice_get pins earlier ≡ Some p = slice_get-get_or pins earlier p0 within in
          let here : slice_get (map (λ (p : Pin). p.reader) pins) earlier ≡ Some p.reader = slice_get-map (λ (p : Pin). p.reader) pins earlier ∙ ap (option_map (λ (p : Pin). p.reader)) is in
          let there : slice_get shape.readers.now earlier ≡ Some p.reader = subst (λ (rs : List Reader). slice_get rs earlier ≡ Some p.reader) inv (got_left (map (λ (p : Pin). p.reader) pins) (drop pin shape.readers.now) earlier p.reader here) in
          let same : p.reader ≡ one = same_Some p.reader one (sym there ∙ e) in
          let r = read earlier p0 within in
          (r.from, subst (λ (by : Reader). ReadsFromDriver shape.source.cells.now shape.source.bound.now r.from by) same r.reads)

-- all readers were read
pub all_read : (shape : Shape) (pins : List Pin) (pin : ℕ) → length shape.readers.now ≤ pin → map (λ (p : Pin). p.reader) pins ++ drop pin shape.readers.now ≡ shape.readers.now → map (λ (p : Pin). p.reader) pins ≡ shape.readers.now
all_read shape pins pin high inv =
    sym (append-nil (map (λ (p : Pin). p.reader) pins)) ∙ ap (λ (rs : List Reader). map (λ (p : Pin). p.reader) pins ++ rs) (sym (none (drop pin shape.readers.now) (simp length-drop (omega arith)))) ∙ inv where
      none : (rs : List Reader) → length rs ≡ 0 → rs ≡ []
      none [] z = refl
      none (r ∷ rs) z = absurd (omega arith)

-- what is found at the place of a reader
pub read_found : (shape : Shape) → IsShaped shape → (found : List (Option ℕ)) → number.IsResolved shape.links.now shape.starts.now shape.places found → (pin place : ℕ) →
    ((net : ℕ) (by : Reader) → slice_get (readers_of shape.source.cells.now (flat_of shape)) pin ≡ Some by → slice_get (reads_of shape.ports.now (whole_piece shape.source.cells.now shape.source.bound.now)) pin ≡ Some (Some place) →
    number.Drives (whole_piece shape.source.cells.now shape.source.bound.now).links (starts_of shape.ports.now (whole_piece shape.source.cells.now shape.source.bound.now)) net place →
    ReadsNet shape.source.cells.now shape.source.bound.now (drivers_of shape.source.cells.now (flat_of shape)) by net) →
    (((net place' : ℕ) → Some place ≡ Some place' → slice_get found place' ≡ Some (Some net) → ⊥) → NoDriverAt shape pin) →
    slice_get shape.reads.now pin ≡ Some (Some place) → (o : Option ℕ) → slice_get found place ≡ Some o →
    MatchOption o (NoDriverAt shape pin) (λ net. (by : Reader) → slice_get shape.readers.now pin ≡ Some by → ReadsNet shape.source.cells.now shape.source.bound.now shape.nets.now by net)
read_found shape s found r pin place law none reads None e =
    none (λ net place' is g. absurd (nothing net (same_Some None (Some net) (sym e ∙ ap (slice_get found) (same_Some place place' is) ∙ g)))) where
      nothing : (net : ℕ) → None ≡ Some net → ⊥
      nothing net f = cc
read_found shape s found r pin place law none reads (Some net) e = read_driven shape s found r pin place net (law net) reads e
