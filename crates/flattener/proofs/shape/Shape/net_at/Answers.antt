use Rattle.std.proofs.Common.{◌≡◌, ◌∙◌, ◌≤◌, ℕ, Some, None, length, get_or, refl, ap, arith}
use Rattle.std.specs.Prelude.{slice_get}
use Rattle.std.proofs.lemmas.Option.{slice_get-get_or, slice_get_read, slice_get_within, same_Some}
use Rattle.flattener.specs.Ends.{bare}
use Rattle.flattener.proofs.Resolving.{read_undriven, read_found}
use Rattle.flattener.proofs.shape.Shape.net_at.Goals as goal

pub returns-in-Some-get : goal.returns-in-Some-get
returns-in-Some-get c =
    let shape = c.args.self in
    let s = c.requires.shaped in
    let flat = bare shape.ports.now shape.cells.now in
    let found = c.args.found.now in
    let pin = c.args.pin in
    let place = c.in-Some.place in
    let reads : slice_get shape.reads.now pin ≡ Some (Some place) = slice_get-get_or shape.reads.now pin None c.requires.there ∙ ap Some c.in-Some.is in
    let net = c.in-Some-get.net.now in
    let there : slice_get found place ≡ Some net = slice_get_read found (length found) place net refl c.in-Some-get.ensures.lookup.3.0 c.in-Some-get.ensures.lookup.1 in
    read_found shape s found c.requires.resolved pin place (λ net by. c.numbers_tell_readers.ensures.driven flat s.has_shape pin place net by)
    (λ none. read_undriven shape s found c.requires.resolved pin (Some place) (λ by. c.numbers_tell_readers.ensures.undriven flat s.has_shape pin (Some place) by) reads (λ place' net' is g. none net' place' is g)) reads net there

pub returns-in-None-get : goal.returns-in-None-get
returns-in-None-get c =
    let shape = c.args.self in
    let s = c.requires.shaped in
    let flat = bare shape.ports.now shape.cells.now in
    let found = c.args.found.now in
    let pin = c.args.pin in
    let place = c.in-Some.place in
    let reads : slice_get shape.reads.now pin ≡ Some (Some place) = slice_get-get_or shape.reads.now pin None c.requires.there ∙ ap Some c.in-Some.is in
    let past : length found ≤ place = c.in-None-get.ensures.lookup.3 in
    read_undriven shape s found c.requires.resolved pin (Some place) (λ by. c.numbers_tell_readers.ensures.undriven flat s.has_shape pin (Some place) by) reads
    (λ place' net is g. let same = same_Some place place' is in let low = slice_get_within found place' (Some net) g in absurd (omega (arith, past, same, low)))

pub returns-in-None : goal.returns-in-None
returns-in-None c =
    let shape = c.args.self in
    let s = c.requires.shaped in
    let flat = bare shape.ports.now shape.cells.now in
    let found = c.args.found.now in
    let pin = c.args.pin in
    let none : get_or shape.reads.now pin None ≡ None = c.in-None.is in
    let reads : slice_get shape.reads.now pin ≡ Some None = slice_get-get_or shape.reads.now pin None c.requires.there ∙ ap Some none in
    read_undriven shape s found c.requires.resolved pin None (λ by. c.numbers_tell_readers.ensures.undriven flat s.has_shape pin None by) reads (λ place net is g. absurd (nothing place is)) where
      nothing : (place : ℕ) → None ≡ Some place → ⊥
      nothing place e = cc
