use Rattle.std.proofs.Common.{◌∙◌, ℕ, List, Option, Some, sym, subst}
use Rattle.std.proofs.lemmas.Option.{same_Some}
use Rattle.flat_aliases.specs.declared.link.Link.{Link}
use Rattle.flat_aliases.specs.Drives as number
use Rattle.flat_places.specs.Whole.{number_of, whole_piece, starts_of}
use Rattle.flattener.specs.Ends.{bare}
use Rattle.flattener.specs.Refused.{IsSound}
use Rattle.flattener.proofs.Lists.{on_ok}
use Rattle.flattener.proofs.Resolving.{from_whole, to_whole}
use Rattle.flattener.proofs.shape.Shape.pins.Goals as goal

pub resolve-requires-clause-inside : goal.resolve-requires-clause-inside
resolve-requires-clause-inside c =
    let shape = c.args.self in
    let s = c.requires in
    let piece = whole_piece shape.source.cells.now shape.source.bound.now in
    from_whole shape s (λ (ls : List Link) (st : List (Option ℕ)). number.AreInside ls st shape.places)
    (subst (λ (n : ℕ). number.AreInside piece.links (starts_of shape.ports.now piece) n) (sym s.places) (c.numbers_drive_places.ensures.inside (bare shape.ports.now shape.cells.now) s.has_shape))

pub read_pins-requires-clause-sound : goal.read_pins-requires-clause-sound
read_pins-requires-clause-sound c =
    let shape = c.args.self in
    let s = c.requires in
    let bound = shape.source.bound.now in
    let r = c.in-Ok.ensures.ok in
    let sound : IsSound shape.source.cells.now bound = record {
      limits = s.within;
      once = λ place.
          c.numbers_tell_two.ensures.once (bare shape.ports.now shape.cells.now) s.has_shape place
          (to_whole shape s (λ (ls : List Link) (st : List (Option ℕ)). number.HasOneDriver ls st (number_of bound place))
          (λ one other d e. same_Some one other (same_Some (Some one) (Some other) (sym (r.found (number_of bound place) one d) ∙ r.found (number_of bound place) other e))));
      open_ended = c.numbers_tell_rings.ensures.none (λ ring g. r.no_ring ring (subst (λ (ls : List Link). number.IsRing ls ring) (sym s.links) g));
    } in
    sound

pub returns-in-Ok-clause-sound : goal.returns-in-Ok-clause-sound
returns-in-Ok-clause-sound c =
    let shape = c.args.self in
    let s = c.requires in
    let bound = shape.source.bound.now in
    let r = c.in-Ok.ensures.ok in
    let sound : IsSound shape.source.cells.now bound = record {
      limits = s.within;
      once = λ place.
          c.numbers_tell_two.ensures.once (bare shape.ports.now shape.cells.now) s.has_shape place
          (to_whole shape s (λ (ls : List Link) (st : List (Option ℕ)). number.HasOneDriver ls st (number_of bound place))
          (λ one other d e. same_Some one other (same_Some (Some one) (Some other) (sym (r.found (number_of bound place) one d) ∙ r.found (number_of bound place) other e))));
      open_ended = c.numbers_tell_rings.ensures.none (λ ring g. r.no_ring ring (subst (λ (ls : List Link). number.IsRing ls ring) (sym s.links) g));
    } in
    on_ok (IsSound shape.source.cells.now bound) sound c.read_pins.result
