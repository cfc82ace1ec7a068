use Rattle.std.proofs.Common.{◌<◌, length, ap, arith, set}
use Rattle.std.proofs.lemmas.Bool.{false≢true}
use Rattle.std.specs.Vec.{with_item}
use Rattle.flat_aliases.specs.declared.held.Held.{Held}
use Rattle.flat_aliases.specs.declared.spread.Spread.{Spread}
use Rattle.flat_aliases.proofs.Got.{read_at}
use Rattle.flat_aliases.proofs.Spreading.{reached}
use Rattle.flat_aliases.proofs.spread.reach.Goals as goal

pub returns : goal.returns
returns c =
    let now : Spread = record { held = with_item c.args.spread.now.held c.args.place c.with.result; waiting = c.push.new.self } in
    let inside : c.args.place < length c.args.spread.now.held.items = omega (arith, c.requires.inside, c.requires.spreading.count) in
    let all = reached c.args.net.now.links.now c.args.net.now.starts.now c.args.net.now.places c.args.driver c.args.place c.index-held.result.now c.args.spread.now now c.requires.inside c.requires.drives
    (read_at c.args.spread.now.held.items c.args.place c.index-held.result.now inside c.index-held.ensures)
    (λ s. let h = c.if-is_settled.ensures.1 s in false≢true h)
    (ap (λ (h : Held). set c.args.spread.now.held.items c.args.place h) c.with.ensures)
    c.in_ok-push.ensures.items
    c.requires.spreading in
    record { spreading = all.0; on = all.1; settled = all.2 }
