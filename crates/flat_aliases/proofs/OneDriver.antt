-- What is held of each place is its one driver, or shows the first place with two.
use Rattle.std.proofs.Common.{◌≡◌, ◌∙◌, ◌<◌, ℕ, List, length, Option, Some, None, sym, ap, subst, arith}
use Rattle.std.specs.Prelude.{slice_get}
use Rattle.std.proofs.lemmas.Option.{slice_get_within}
use Rattle.flat_aliases.specs.declared.link.Link.{Link}
use Rattle.flat_aliases.specs.declared.link.AliasFault.{AliasFault}
use Rattle.flat_aliases.specs.declared.link.AliasFault.TheVariants.{TwoDrivers, Ring, Memory}
use Rattle.flat_aliases.specs.declared.held.Held.{Held}
use Rattle.flat_aliases.specs.declared.held.Held.TheVariants.{Nothing, One, Two}
use Rattle.flat_aliases.specs.declared.net.Net.{Net}
use Rattle.flat_aliases.specs.declared.spread.Spread.{Spread}
use Rattle.flat_aliases.specs.Drives.{Drives, start, next, HasOneDriver, IsRing, AreInside, IsResolved, IsAliasFault}
use Rattle.flat_aliases.specs.Spreads.{AreTrue, AreHeld, AreSingle, IsHeldTwice}
use Rattle.flat_aliases.specs.Nets.{IsNetOf, IsDone}
use Rattle.flat_aliases.proofs.Got.{within, one_item}

module _ (links : List Link) (starts : List (Option ℕ)) (places : ℕ) (inside : AreInside links starts places) where
  driver_below : (driver place : ℕ) → Drives links starts driver place → driver < length starts
  driver_below driver _ (start place e) = slice_get_within starts driver (Some place) e
  driver_below driver _ (next from to d l) = driver_below driver from d

  place_below : (driver place : ℕ) → Drives links starts driver place → place < places
  place_below driver _ (start place e) = inside.started driver place e
  place_below driver _ (next from to d l) = (inside.linked from to l).1

  pub resolved : (held : List Held) (drivers : List (Option ℕ)) → AreHeld links starts places held → AreSingle held drivers → ((ring : List ℕ) → IsRing links ring → ⊥) → IsResolved links starts places drivers
  resolved held drivers h s ring = record {
    count = s.count ∙ h.count;
    drives = λ place driver e. (h.hold place (One driver) (s.one place driver e)).1;
    found = λ place driver d. there place driver d (within drivers place (omega (arith, s.count, h.count, place_below driver place d)));
    no_ring = ring;
  } where
    there : (place driver : ℕ) → Drives links starts driver place → (o : Option ℕ) × (slice_get drivers place ≡ Some o) → slice_get drivers place ≡ Some (Some driver)
    there place driver d (None, e) = absurd (h.hold place Nothing (s.none place e) driver (driver_below driver place d) d)
    there place driver d (Some one, e) = e ∙ ap (λ (n : ℕ). Some (Some n)) (sym ((h.hold place (One one) (s.one place one e)).2 driver (driver_below driver place d) d))

  -- a place that does not hold two has one driver
  one_driver : (held : List Held) (place : ℕ) → AreHeld links starts places held → ((one other : ℕ) → slice_get held place ≡ Some (Two one other) → ⊥) → HasOneDriver links starts place
  one_driver held place h single one other d e = go (within held place (omega (arith, h.count, place_below one place d))) where
    go : (x : Held) × (slice_get held place ≡ Some x) → one ≡ other
    go (Nothing, f) = absurd (h.hold place Nothing f one (driver_below one place d) d)
    go (One first, f) = let t = h.hold place (One first) f in t.2 one (driver_below one place d) d ∙ sym (t.2 other (driver_below other place e) e)
    go (Two first second, f) = absurd (single first second f)

  pub refused_two : (held : List Held) (fault : AliasFault) → AreHeld links starts places held → IsHeldTwice held fault → IsAliasFault links starts fault
  refused_two held (TwoDrivers place first second) h two =
      let t = h.hold place (Two first second) two.two in
      record {
        drives_first = t.2;
        drives_second = t.3;
        order = t.0;
        others = λ driver d. t.4 driver (driver_below driver place d) d;
        before = λ earlier l. one_driver held earlier h (λ one other e. two.before earlier one other l e);
      }
  refused_two held (Ring ring) h two = absurd two
  refused_two held Memory h two = tt

  pub all_single : (held : List Held) (drivers : List (Option ℕ)) → AreHeld links starts places held → AreSingle held drivers → (place : ℕ) → HasOneDriver links starts place
  all_single held drivers h s place = one_driver held place h (λ one other e. go one other e (within drivers place (omega (arith, s.count, slice_get_within held place (Two one other) e)))) where
    nothing_two : (one other : ℕ) → Nothing ≡ Two one other → ⊥
    nothing_two one other e = cc

    one_two : (d one other : ℕ) → One d ≡ Two one other → ⊥
    one_two d one other e = cc

    go : (one other : ℕ) → slice_get held place ≡ Some (Two one other) → (o : Option ℕ) × (slice_get drivers place ≡ Some o) → ⊥
    go one other e (None, f) = nothing_two one other (one_item held place Nothing (Two one other) (s.none place f) e)
    go one other e (Some d, f) = one_two d one other (one_item held place (One d) (Two one other) (s.one place d f) e)

-- what is held after all drivers were spread
pub held_all : (links : List Link) (starts : List (Option ℕ)) (places : ℕ) (net : Net) (spread : Spread) → IsNetOf links starts places net → IsDone net (length net.starts.now) spread → AreHeld links starts places spread.held.items
held_all links starts places net spread n s = record {
  count = s.count ∙ n.same_places;
  hold = subst (λ (ls : List Link). AreTrue ls starts (length starts) (length starts) spread.held.items) n.same_links
      (subst (λ (ss : List (Option ℕ)). AreTrue net.links.now ss (length ss) (length ss) spread.held.items) n.same_starts s.held);
}
