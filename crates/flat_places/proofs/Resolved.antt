-- What is answered over numbers, said of places.
use Rattle.std.proofs.Common.{◌≡◌, ◌≢◌, ◌∙◌, ◌<◌, ◌≤◌, ℕ, zero, suc, true, List, [], ◌∷◌, map, length, get_or, Option, Some, refl, sym, ap, subst, arith}
use Rattle.std.specs.Prelude.{slice_get}
use Rattle.std.specs.List.{AllPairs}
use Rattle.std.proofs.Math.ListN.{get_or-map}
use Rattle.std.proofs.lemmas.List.{length-map}
use Rattle.std.proofs.lemmas.Option.{same_Some}
use Rattle.flat_aliases.specs.Drives as number
use Rattle.rsfq_ids.specs.declared.table.CellTable.{CellTable}
use Rattle.rsfq_ids.specs.declared.circuit.Flat.{Flat}
use Rattle.rsfq_ids.specs.declared.circuit.Driver.{Driver}
use Rattle.rsfq_ids.specs.declared.circuit.Reader.{Reader}
use Rattle.rsfq_ids.specs.declared.circuit.Reader.TheVariants as reader
use Rattle.rsfq_ids.specs.WellFormed.{drivers_of, readers_of}
use Rattle.bind_forms.specs.declared.bound.Bound.{Bound}
use Rattle.bind_forms.specs.WellFormed.{IsBound}
use Rattle.flat_places.specs.Hierarchy.{bit_count, IsDeeper}
use Rattle.flat_places.specs.Drives.{Follows, StartsAt, ReadsAt, Drives, IsPlaceIn}
use Rattle.flat_places.specs.Places.{Place, places_of}
use Rattle.flat_places.specs.Refusal.{HasOneDriver, GoesRound, IsRing, IsNamedRing, HasNoDriver}
use Rattle.flat_places.proofs.Numbered.{number_is}
use Rattle.flat_places.proofs.Listed.{place_listed, place_there}
use Rattle.flat_places.specs.Whole.{number_of, whole_piece, IsShapeOf, starts_of, reads_of, IsNumberAt, AreListed, NumbersFirstTwo, ReadsNet}
use Rattle.flat_places.proofs.Ends.{are_starts, are_reads}
use Rattle.flat_places.proofs.There.{follows_there, drives_there, starts_there, pin_there, port_there}
use Rattle.flat_places.proofs.Distinct.{one_net}
use Rattle.flat_places.proofs.Driven.{same_place, number_low, lead_hop, hop_lead, zip_got, got_zip, drives_found, drives_at, drives_listed}
use Rattle.flat_places.proofs.Joined.{all_got}

pub is_inside : (table : CellTable) (bound : Bound) → IsBound table bound → (IsDeeper bound 64 bound.top → ⊥) → (flat : Flat) → IsShapeOf bound flat →
    number.AreInside (whole_piece table bound).links (starts_of flat.ports (whole_piece table bound)) (bit_count bound 64 bound.top)
is_inside table bound is deep flat shape = record { linked = linked; started = started } where
  linked : (from to : ℕ) → number.Leads (whole_piece table bound).links from to → (from < bit_count bound 64 bound.top) × (to < bit_count bound 64 bound.top)
  linked from to l =
      let h = lead_hop table bound is deep from to l in
      let there = follows_there table bound is bound.top h.0 h.1 h.2 in
      let f = number_low bound deep h.0 there.0 in
      let t = number_low bound deep h.1 there.1 in
      let a = h.3 in
      let b = h.4 in
      (omega (arith, a, f), omega (arith, b, t))

  started : (net place : ℕ) → slice_get (starts_of flat.ports (whole_piece table bound)) net ≡ Some (Some place) → place < bit_count bound 64 bound.top
  started net place e =
      let z = got_zip (λ (one : Driver) (at : Option ℕ). IsNumberAt bound (StartsAt table bound one) at) (drivers_of table flat) (starts_of flat.ports (whole_piece table bound)) net (Some place) (are_starts table bound is deep flat shape) e in
      let f = z.2.found place refl in
      let low = number_low bound deep f.0 (starts_there table bound is z.0 f.0 f.1) in
      let a = f.2 in
      omega (arith, a, low)

-- the net of what drives a place has a driver
pub net_listed : (table : CellTable) (bound : Bound) → IsBound table bound → (IsDeeper bound 64 bound.top → ⊥) → (flat : Flat) → IsShapeOf bound flat → (net place : ℕ) →
    number.Drives (whole_piece table bound).links (starts_of flat.ports (whole_piece table bound)) net place → (from : Driver) × (slice_get (drivers_of table flat) net ≡ Some from)
net_listed table bound is deep flat shape net place (number.start _ s) =
    let z = got_zip (λ (one : Driver) (at : Option ℕ). IsNumberAt bound (StartsAt table bound one) at) (drivers_of table flat) (starts_of flat.ports (whole_piece table bound)) net (Some place) (are_starts table bound is deep flat shape) s in
    (z.0, z.1)
net_listed table bound is deep flat shape net place (number.next before _ d l) = net_listed table bound is deep flat shape net before d

-- ---- two drivers

pub one_driver : (table : CellTable) (bound : Bound) → IsBound table bound → (IsDeeper bound 64 bound.top → ⊥) → (flat : Flat) → IsShapeOf bound flat → (place : Place) →
    number.HasOneDriver (whole_piece table bound).links (starts_of flat.ports (whole_piece table bound)) (number_of bound place) → HasOneDriver table bound place
one_driver table bound is deep flat shape place once one other d e =
    let a = drives_listed table bound is deep flat shape one place d in
    let b = drives_listed table bound is deep flat shape other place e in
    let same = once a.0 b.0 (drives_at table bound is deep flat shape a.0 one a.1 place d) (drives_at table bound is deep flat shape b.0 other b.1 place e) in
    same_Some one other (sym a.1 ∙ ap (slice_get (drivers_of table flat)) same ∙ b.1)

-- and the other way
pub one_number : (table : CellTable) (bound : Bound) → IsBound table bound → (IsDeeper bound 64 bound.top → ⊥) → (flat : Flat) → IsShapeOf bound flat → (at : ℕ) (place : Place) → slice_get (places_of bound) at ≡ Some place → HasOneDriver table bound place →
    number.HasOneDriver (whole_piece table bound).links (starts_of flat.ports (whole_piece table bound)) at
one_number table bound is deep flat shape at place listed once one other d e =
    let a = net_listed table bound is deep flat shape one at d in
    let b = net_listed table bound is deep flat shape other at e in
    let f = drives_found table bound is deep flat shape one a.0 a.1 at d in
    let g = drives_found table bound is deep flat shape other b.0 b.1 at e in
    let there = place_there bound 64 bound.top at place listed in
    let here = number_is bound 64 bound.top at place listed in
    let p = same_place bound deep f.0 place (drives_there table bound is a.0 f.0 f.1) there (sym f.2 ∙ here) in
    let q = same_place bound deep g.0 place (drives_there table bound is b.0 g.0 g.1) there (sym g.2 ∙ here) in
    let same = once a.0 b.0 (subst (Drives table bound a.0) p f.1) (subst (Drives table bound b.0) q g.1) in
    one_net table flat one other a.0 a.1 (b.1 ∙ ap Some (sym same))

pub first_two : (table : CellTable) (bound : Bound) → IsBound table bound → (IsDeeper bound 64 bound.top → ⊥) → (flat : Flat) → IsShapeOf bound flat → (place first second : ℕ) →
    number.IsFirstTwo (whole_piece table bound).links (starts_of flat.ports (whole_piece table bound)) place first second →
    NumbersFirstTwo table bound (drivers_of table flat) place first second
first_two table bound is deep flat shape place first second two =
    let one = net_listed table bound is deep flat shape first place two.drives_first in
    let other = net_listed table bound is deep flat shape second place two.drives_second in
    let a = drives_found table bound is deep flat shape first one.0 one.1 place two.drives_first in
    let b = drives_found table bound is deep flat shape second other.0 other.1 place two.drives_second in
    let there = drives_there table bound is one.0 a.0 a.1 in
    let same = same_place bound deep b.0 a.0 (drives_there table bound is other.0 b.0 b.1) there (sym b.2 ∙ a.2) in
    let listed : slice_get (places_of bound) place ≡ Some a.0 = ap (slice_get (places_of bound)) a.2 ∙ place_listed bound 64 bound.top a.0 deep there in
    record {
      at = a.0;
      one = one.0;
      other = other.0;
      listed = listed;
      first_is = one.1;
      second_is = other.1;
      two = record {
        number = place;
        numbered = listed;
        drives_first = a.1;
        drives_second = subst (Drives table bound other.0) same b.1;
        low = first;
        high = second;
        first_at = one.1;
        second_at = other.1;
        order = two.order;
        others = λ net third e d. two.others net (subst (number.Drives (whole_piece table bound).links (starts_of flat.ports (whole_piece table bound)) net) (sym a.2) (drives_at table bound is deep flat shape net third e a.0 d));
        before = λ earlier before l e. one_driver table bound is deep flat shape before (subst (number.HasOneDriver (whole_piece table bound).links (starts_of flat.ports (whole_piece table bound))) (number_is bound 64 bound.top earlier before e) (two.before earlier l));
      };
      differ = λ same. let nets = one_net table flat first second one.0 one.1 (other.1 ∙ ap Some (sym same)) in let order = two.order in omega (arith, nets, order);
    }

-- ---- rings

round_found : (table : CellTable) (bound : Bound) → IsBound table bound → (IsDeeper bound 64 bound.top → ⊥) → (first before : Place) → IsPlaceIn bound bound.top first → IsPlaceIn bound bound.top before → (numbers : List ℕ) →
    number.LeadsOver (whole_piece table bound).links (number_of bound before) numbers (number_of bound first) → (places : List Place) × GoesRound bound first before places × AreListed bound numbers places
round_found table bound is deep first before p q [] l =
    let h = lead_hop table bound is deep (number_of bound before) (number_of bound first) l in
    let there = follows_there table bound is bound.top h.0 h.1 h.2 in
    let from = same_place bound deep h.0 before there.0 q (sym h.3) in
    let to = same_place bound deep h.1 first there.1 p (sym h.4) in
    ([], subst (λ (one : Place). Follows bound bound.top one first) from (subst (Follows bound bound.top h.0) to h.2), tt)
round_found table bound is deep first before p q (n ∷ numbers) l =
    let h = lead_hop table bound is deep (number_of bound before) n l.0 in
    let there = follows_there table bound is bound.top h.0 h.1 h.2 in
    let from = same_place bound deep h.0 before there.0 q (sym h.3) in
    let r = round_found table bound is deep first h.1 p there.1 numbers (subst (λ (m : ℕ). number.LeadsOver (whole_piece table bound).links m numbers (number_of bound first)) h.4 l.1) in
    (h.1 ∷ r.0, (subst (λ (one : Place). Follows bound bound.top one h.1) from h.2, r.1), (ap (slice_get (places_of bound)) h.4 ∙ place_listed bound 64 bound.top h.1 deep there.1, r.2))

-- the first place of a ring
ring_first : (table : CellTable) (bound : Bound) → IsBound table bound → (IsDeeper bound 64 bound.top → ⊥) → (from to : ℕ) (numbers : List ℕ) → number.LeadsOver (whole_piece table bound).links from numbers to → (first : Place) × IsPlaceIn bound bound.top first × (from ≡ number_of bound first)
ring_first table bound is deep from to [] l = let h = lead_hop table bound is deep from to l in (h.0, (follows_there table bound is bound.top h.0 h.1 h.2).0, h.3)
ring_first table bound is deep from to (n ∷ numbers) l = let h = lead_hop table bound is deep from n l.0 in (h.0, (follows_there table bound is bound.top h.0 h.1 h.2).0, h.3)

pub ring_found : (table : CellTable) (bound : Bound) → IsBound table bound → (IsDeeper bound 64 bound.top → ⊥) → (ring : List ℕ) → number.IsRing (whole_piece table bound).links ring → (places : List Place) × IsRing bound places × AreListed bound ring places
ring_found table bound is deep [] r = absurd r
ring_found table bound is deep (n ∷ numbers) r =
    let f = ring_first table bound is deep n n numbers r in
    let g = round_found table bound is deep f.0 f.0 f.1 f.1 numbers (subst (λ (m : ℕ). number.LeadsOver (whole_piece table bound).links m numbers m) f.2 r) in
    (f.0 ∷ g.0, g.1, (ap (slice_get (places_of bound)) f.2 ∙ place_listed bound 64 bound.top f.0 deep f.1, g.2))

round_leads : (table : CellTable) (bound : Bound) → IsBound table bound → (IsDeeper bound 64 bound.top → ⊥) → (first before : Place) (places : List Place) → GoesRound bound first before places →
    number.LeadsOver (whole_piece table bound).links (number_of bound before) (map (number_of bound) places) (number_of bound first)
round_leads table bound is deep first before [] r = hop_lead table bound is deep before first r
round_leads table bound is deep first before (place ∷ places) r = (hop_lead table bound is deep before place r.0, round_leads table bound is deep first place places r.1)

pub no_ring : (table : CellTable) (bound : Bound) → IsBound table bound → (IsDeeper bound 64 bound.top → ⊥) → ((ring : List ℕ) → number.IsRing (whole_piece table bound).links ring → ⊥) → (ring : List Place) → IsRing bound ring → ⊥
no_ring table bound is deep none [] r = r
no_ring table bound is deep none (place ∷ places) r = none (map (number_of bound) (place ∷ places)) (round_leads table bound is deep place place places r)

listed_numbers : (bound : Bound) (numbers : List ℕ) (places : List Place) → AreListed bound numbers places → numbers ≡ map (number_of bound) places
listed_numbers bound [] [] l = refl
listed_numbers bound [] (place ∷ places) l = absurd l
listed_numbers bound (n ∷ numbers) [] l = absurd l
listed_numbers bound (n ∷ numbers) (place ∷ places) l =
    ap (λ (m : ℕ). m ∷ numbers) (number_is bound 64 bound.top n place l.0) ∙ ap (λ (ns : List ℕ). number_of bound place ∷ ns) (listed_numbers bound numbers places l.1)

-- places that are listed at different numbers differ
listed_once : (bound : Bound) (numbers : List ℕ) (places : List Place) → AreListed bound numbers places → AllPairs (λ (one other : ℕ). one ≢ other) numbers → AllPairs (λ (one other : Place). one ≢ other) places
listed_once bound numbers places l once i j d low within same =
    let is = listed_numbers bound numbers places l in
    let long : length numbers ≡ length places = ap length is ∙ length-map places (number_of bound) in
    let one : get_or numbers i (number_of bound d) ≡ number_of bound (get_or places i d) = ap (λ (ns : List ℕ). get_or ns i (number_of bound d)) is ∙ get_or-map (number_of bound) places i d in
    let other : get_or numbers j (number_of bound d) ≡ number_of bound (get_or places j d) = ap (λ (ns : List ℕ). get_or ns j (number_of bound d)) is ∙ get_or-map (number_of bound) places j d in
    once i j (number_of bound d) low (omega (arith, long, within)) (one ∙ ap (number_of bound) same ∙ sym other)

-- the first of them is listed first
listed_least : (bound : Bound) (numbers : List ℕ) (places : List Place) → AreListed bound numbers places → number.BeginsAtLeast numbers → (first : Place) → slice_get places 0 ≡ Some first → (k low high : ℕ) (other : Place) → slice_get places k ≡ Some other →
    slice_get (places_of bound) low ≡ Some first → slice_get (places_of bound) high ≡ Some other → low ≤ high
listed_least bound [] places l least first f k low high other g a b = absurd least
listed_least bound (n ∷ numbers) [] l least first f k low high other g a b = absurd l
listed_least bound (n ∷ numbers) (place ∷ places) l least first f zero low high other g a b =
    let same : first ≡ other = same_Some first other (sym f ∙ g) in
    let x = number_is bound 64 bound.top low first a in
    let y = number_is bound 64 bound.top high other b in
    let z = ap (number_of bound) same in
    omega (arith, x, y, z)
listed_least bound (n ∷ numbers) (place ∷ places) l least first f (suc k) low high other g a b =
    let same : place ≡ first = same_Some place first f in
    let x = number_is bound 64 bound.top low first a in
    let y = number_is bound 64 bound.top high other b in
    let w = number_is bound 64 bound.top n place l.0 in
    let z = ap (number_of bound) same in
    let r = got_zip (λ (number : ℕ) (one : Place). slice_get (places_of bound) number ≡ Some one) numbers places k other l.1 g in
    let v = number_is bound 64 bound.top r.0 other r.2 in
    let le : n ≤ r.0 = all_got (λ (m : ℕ). n ≤ m) numbers k r.0 least r.1 in
    omega (arith, x, y, w, z, v, le)

pub named_ring : (table : CellTable) (bound : Bound) → IsBound table bound → (IsDeeper bound 64 bound.top → ⊥) → (ring : List ℕ) → number.IsNamedRing (whole_piece table bound).links ring → (places : List Place) × IsNamedRing bound places × AreListed bound ring places
named_ring table bound is deep ring named =
    let r = ring_found table bound is deep ring named.closed in
    (r.0, record { closed = r.1; once = listed_once bound ring r.0 r.2 named.once; least = listed_least bound ring r.0 r.2 named.least }, r.2)

-- ---- readers

reads_there : (table : CellTable) (bound : Bound) → IsBound table bound → (by : Reader) (place : Place) → ReadsAt bound by place → IsPlaceIn bound bound.top place
reads_there table bound is (reader.Pin cell pin) place r = pin_there table bound is cell pin place r
reads_there table bound is (reader.Port port) place r = port_there table bound is port true place r

pub read_from : (table : CellTable) (bound : Bound) → IsBound table bound → (IsDeeper bound 64 bound.top → ⊥) → (flat : Flat) → IsShapeOf bound flat → (pin place net : ℕ) (by : Reader) → slice_get (readers_of table flat) pin ≡ Some by →
    slice_get (reads_of flat.ports (whole_piece table bound)) pin ≡ Some (Some place) → number.Drives (whole_piece table bound).links (starts_of flat.ports (whole_piece table bound)) net place →
    ReadsNet table bound (drivers_of table flat) by net
read_from table bound is deep flat shape pin place net by e f d =
    let z = zip_got (λ (one : Reader) (at : Option ℕ). IsNumberAt bound (ReadsAt bound one) at) (readers_of table flat) (reads_of flat.ports (whole_piece table bound)) pin by (are_reads table bound is deep flat shape) e in
    let r = z.2.found place (same_Some z.0 (Some place) (sym z.1 ∙ f)) in
    let from = net_listed table bound is deep flat shape net place d in
    let g = drives_found table bound is deep flat shape net from.0 from.1 place d in
    let same = same_place bound deep g.0 r.0 (drives_there table bound is from.0 g.0 g.1) (reads_there table bound is by r.0 r.1) (sym g.2 ∙ r.2) in
    record { from = from.0; from_is = from.1; reads = record { place = r.0; reads = r.1; drives = subst (Drives table bound from.0) same g.1 } }

pub not_read : (table : CellTable) (bound : Bound) → IsBound table bound → (IsDeeper bound 64 bound.top → ⊥) → (flat : Flat) → IsShapeOf bound flat → (pin : ℕ) (at : Option ℕ) (by : Reader) → slice_get (readers_of table flat) pin ≡ Some by →
    slice_get (reads_of flat.ports (whole_piece table bound)) pin ≡ Some at → ((place net : ℕ) → at ≡ Some place → number.Drives (whole_piece table bound).links (starts_of flat.ports (whole_piece table bound)) net place → ⊥) → HasNoDriver table bound by
not_read table bound is deep flat shape pin at by e f none from r =
    let z = zip_got (λ (one : Reader) (at : Option ℕ). IsNumberAt bound (ReadsAt bound one) at) (readers_of table flat) (reads_of flat.ports (whole_piece table bound)) pin by (are_reads table bound is deep flat shape) e in
    let placed : at ≡ Some (number_of bound r.place) = same_Some at z.0 (sym f ∙ z.1) ∙ z.2.placed r.place r.reads in
    let n = drives_listed table bound is deep flat shape from r.place r.drives in
    none (number_of bound r.place) n.0 placed (drives_at table bound is deep flat shape n.0 from n.1 r.place r.drives)
