use Rattle.std.proofs.Common.{◌≡◌, ◌∙◌, ◌<◌, ℕ, List, map, Option, Some, sym, ap, subst, arith}
use Rattle.std.specs.Prelude.{slice_get}
use Rattle.std.proofs.lemmas.Option.{slice_get_within}
use Rattle.flat_aliases.specs.declared.link.Link.{Link}
use Rattle.flat_aliases.specs.declared.link.AliasFault.{AliasFault}
use Rattle.flat_aliases.specs.Drives as number
use Rattle.flat_places.specs.Hierarchy.{bit_count}
use Rattle.flat_places.specs.Places.{places_of}
use Rattle.flat_places.specs.Whole.{number_of}
use Rattle.flattener.specs.Ends.{bare}
use Rattle.flattener.specs.Shape.{numbered_name}
use Rattle.flattener.proofs.Resolving.{to_whole, two_there, two_named, listed_there, listed_names}
use Rattle.flattener.proofs.shape.Shape.named.Goals as goal

pub wire_name-requires-clause-there : goal.wire_name-requires-clause-there
wire_name-requires-clause-there c =
    let shape = c.args.self in
    let s = c.requires.shaped in
    let bound = shape.source.bound.now in
    let place = c.in-TwoDrivers.place in
    let first = c.in-TwoDrivers.first in
    let second = c.in-TwoDrivers.second in
    let fault : number.IsFirstTwo shape.links.now shape.starts.now place first second = subst (λ (f : AliasFault). number.IsAliasFault shape.links.now shape.starts.now f) c.in-TwoDrivers.is c.requires.fault in
    let two = c.numbers_tell_two.ensures.two (bare shape.ports.now shape.cells.now) s.has_shape place first second (to_whole shape s (λ (ls : List Link) (st : List (Option ℕ)). number.IsFirstTwo ls st place first second) fault) in
    let low = slice_get_within (places_of bound) place two.at two.listed in
    let count = c.places_are_counted.ensures.places 64 bound.top in
    omega (arith, low, count)

pub net_name-requires-clause-there : goal.net_name-requires-clause-there
net_name-requires-clause-there c =
    let shape = c.args.self in
    let s = c.requires.shaped in
    let bound = shape.source.bound.now in
    let place = c.in-TwoDrivers.place in
    let first = c.in-TwoDrivers.first in
    let second = c.in-TwoDrivers.second in
    let fault : number.IsFirstTwo shape.links.now shape.starts.now place first second = subst (λ (f : AliasFault). number.IsAliasFault shape.links.now shape.starts.now f) c.in-TwoDrivers.is c.requires.fault in
    let two = c.numbers_tell_two.ensures.two (bare shape.ports.now shape.cells.now) s.has_shape place first second (to_whole shape s (λ (ls : List Link) (st : List (Option ℕ)). number.IsFirstTwo ls st place first second) fault) in
    (two_there shape s place first second two).0

pub net_name-requires-in-TwoDrivers-clause-there : goal.net_name-requires-in-TwoDrivers-clause-there
net_name-requires-in-TwoDrivers-clause-there c =
    let shape = c.args.self in
    let s = c.requires.shaped in
    let bound = shape.source.bound.now in
    let place = c.in-TwoDrivers.place in
    let first = c.in-TwoDrivers.first in
    let second = c.in-TwoDrivers.second in
    let fault : number.IsFirstTwo shape.links.now shape.starts.now place first second = subst (λ (f : AliasFault). number.IsAliasFault shape.links.now shape.starts.now f) c.in-TwoDrivers.is c.requires.fault in
    let two = c.numbers_tell_two.ensures.two (bare shape.ports.now shape.cells.now) s.has_shape place first second (to_whole shape s (λ (ls : List Link) (st : List (Option ℕ)). number.IsFirstTwo ls st place first second) fault) in
    (two_there shape s place first second two).1

pub wire_names-requires-clause-there : goal.wire_names-requires-clause-there
wire_names-requires-clause-there c =
    let shape = c.args.self in
    let s = c.requires.shaped in
    let bound = shape.source.bound.now in
    let ring = c.in-Ring.places in
    let fault : ((place : ℕ) → number.HasOneDriver shape.links.now shape.starts.now place) × number.IsNamedRing shape.links.now ring = subst (λ (f : AliasFault). number.IsAliasFault shape.links.now shape.starts.now f) c.in-Ring.is c.requires.fault in
    let found = c.numbers_tell_rings.ensures.ring ring (subst (λ (ls : List Link). number.IsNamedRing ls ring) s.links fault.1) in
    subst (λ (ns : List ℕ). (at number : ℕ) → slice_get ns at ≡ Some number → number < bit_count bound 64 bound.top) (sym c.as_slice.ensures) (listed_there bound ring found.0 (c.places_are_counted.ensures.places 64 bound.top) found.2)

pub returns-in_ok-net_name-in-TwoDrivers-2 : goal.returns-in_ok-net_name-in-TwoDrivers-2
returns-in_ok-net_name-in-TwoDrivers-2 c =
    let shape = c.args.self in
    let s = c.requires.shaped in
    let bound = shape.source.bound.now in
    let place = c.in-TwoDrivers.place in
    let first = c.in-TwoDrivers.first in
    let second = c.in-TwoDrivers.second in
    let fault : number.IsFirstTwo shape.links.now shape.starts.now place first second = subst (λ (f : AliasFault). number.IsAliasFault shape.links.now shape.starts.now f) c.in-TwoDrivers.is c.requires.fault in
    let two = c.numbers_tell_two.ensures.two (bare shape.ports.now shape.cells.now) s.has_shape place first second (to_whole shape s (λ (ls : List Link) (st : List (Option ℕ)). number.IsFirstTwo ls st place first second) fault) in (
      s.within,
      two_named shape s place first second c.in_ok-wire_name-in-TwoDrivers.field-0 c.in_ok-net_name-in-TwoDrivers.field-0 c.in_ok-net_name-in-TwoDrivers-2.field-0 two c.in_ok-wire_name-in-TwoDrivers.ensures c.in_ok-net_name-in-TwoDrivers.ensures
          c.in_ok-net_name-in-TwoDrivers-2.ensures,
    )

pub returns-in_ok-wire_names-in-Ring : goal.returns-in_ok-wire_names-in-Ring
returns-in_ok-wire_names-in-Ring c =
    let shape = c.args.self in
    let s = c.requires.shaped in
    let bound = shape.source.bound.now in
    let ring = c.in-Ring.places in
    let fault : ((place : ℕ) → number.HasOneDriver shape.links.now shape.starts.now place) × number.IsNamedRing shape.links.now ring = subst (λ (f : AliasFault). number.IsAliasFault shape.links.now shape.starts.now f) c.in-Ring.is c.requires.fault in
    let found = c.numbers_tell_rings.ensures.ring ring (subst (λ (ls : List Link). number.IsNamedRing ls ring) s.links fault.1) in (
      s.within,
      (λ place. c.numbers_tell_two.ensures.once (bare shape.ports.now shape.cells.now) s.has_shape place (to_whole shape s (λ (ls : List Link) (st : List (Option ℕ)). number.HasOneDriver ls st (number_of bound place)) (fault.0 (number_of bound place)))),
      record { ring = found.0; is_named = found.1; names = c.in_ok-wire_names-in-Ring.ensures ∙ ap (map (numbered_name bound)) c.as_slice.ensures ∙ listed_names bound ring found.0 found.2 },
    )
