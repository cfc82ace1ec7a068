use Rattle.std.proofs.Common.{◌≡◌, ◌∙◌, ap, sym, inr, refl}
use Rattle.std.proofs.lemmas.Option.{get_or_from_slice_get}
use Rattle.signoff.specs.Text.{stages_text}
use Rattle.signoff.proofs.verdict.accept.Goals as goal

pub returns-in_ok-stages_text-in-Some : goal.returns-in_ok-stages_text-in-Some
returns-in_ok-stages_text-in-Some c = inr (record { answer = refl; place = c.in-Some.place; first = c.in-Some.ensures; printed = c.in_ok-stages_text-in-Some.ensures ∙ ap (stages_text c.args.flat.now) (c.index-depths-place.is ∙ get_or_from_slice_get c.args.depths.now c.in-Some.place c.in-Some.ensures.found _ c.in-Some.ensures.there) })
