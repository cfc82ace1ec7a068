use Rattle.std.proofs.Common.{◌∙◌, Option, Some, None, IfNone, sym, arith}
use Rattle.std.proofs.lemmas.Option.{same_Some}
use Rattle.flat_aliases.specs.declared.rings.Mark.TheVariants.{New}
use Rattle.flat_aliases.proofs.Got.{read_at}
use Rattle.flat_aliases.proofs.Walking.{begun, marked}
use Rattle.flat_aliases.proofs.rings.run_from.Goals as goal

pub run-requires-clause-walk : goal.run-requires-clause-walk
run-requires-clause-walk c =
    (begun c.args.links.now c.args.places c.args.place c.args.walk.now c.open.new.walk c.requires.rest
    (marked c.args.walk.now.marks.items c.args.places c.args.place c.index.result.now New c.requires.rest.is_walk.is_walk.mark_count c.requires.place c.index.ensures c.in-New.is) c.in_ok-open.ensures).0

then_none : {X P Q : Type 0} (o : Option X) → (P → Q) → IfNone o P → IfNone o Q
then_none None f p = f p
then_none (Some x) f p = p

pub returns-in-New-clause-seen : goal.returns-in-New-clause-seen
returns-in-New-clause-seen c =
    let m = marked c.args.walk.now.marks.items c.args.places c.args.place c.index.result.now New c.requires.rest.is_walk.is_walk.mark_count c.requires.place c.index.ensures c.in-New.is in
    let b = begun c.args.links.now c.args.places c.args.place c.args.walk.now c.open.new.walk c.requires.rest m c.in_ok-open.ensures in
    then_none c.in_ok-found.found (λ seen place unseen. seen place (b.1 place unseen)) c.in_ok-found.ensures.seen

pub returns-in-New-clause-place : goal.returns-in-New-clause-place
returns-in-New-clause-place c =
    let m = marked c.args.walk.now.marks.items c.args.places c.args.place c.index.result.now New c.requires.rest.is_walk.is_walk.mark_count c.requires.place c.index.ensures c.in-New.is in
    let b = begun c.args.links.now c.args.places c.args.place c.args.walk.now c.open.new.walk c.requires.rest m c.in_ok-open.ensures in
    then_none c.in_ok-found.found (λ seen. seen c.args.place b.2) c.in_ok-found.ensures.seen

pub returns-clause-place : goal.returns-clause-place
returns-clause-place c = λ e. c.in_default.not-New (same_Some c.index.result.now New (sym (read_at c.args.walk.now.marks.items c.args.place c.index.result.now (omega (arith, c.requires.rest.is_walk.is_walk.mark_count, c.requires.place)) c.index.ensures) ∙ e))
