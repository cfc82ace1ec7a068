use Rattle.std.proofs.Common.{◌≡◌, ◌∙◌, ◌<◌, ◌*◌, length, ap, sym, subst, arith, get_or}
use Rattle.std.proofs.lemmas.List.{get_or_read}
use Rattle.cdcl_core.specs.Oldest.{Truths}
use Rattle.cdcl_core.proofs.Pushing.{place_found}
use Rattle.cdcl_core.proofs.trail.Trail.place_of.Goals as goal

pub returns : goal.returns
returns c = λ place l at.
    let places = c.self.inside.places.items in
    let size = c.self.invariant.places_size in
    let vars = ap (λ (t : Truths). t.vars) c.self.view_is in
    let below : c.index.result < length places = omega (arith, c.requires, size, vars, c.index.ensures.number) in
    let read : c.index-2.result.now ≡ get_or places c.index.result 0 = get_or_read places c.index.result c.index-2.result.now below c.index-2.ensures 0 in
    place_found c.self.inside c.args.self.now place c.args.lit c.index-2.result.now c.self.view_is c.self.invariant l at (read ∙ ap (λ k. get_or places k 0) c.index.ensures.number)
