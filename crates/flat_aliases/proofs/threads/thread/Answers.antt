use Rattle.std.proofs.Common.{◌≡◌, ◌<◌, length, arith, get_or}
use Rattle.std.proofs.lemmas.Option.{slice_get-get_or}
use Rattle.flat_aliases.specs.declared.link.Link.{Link}
use Rattle.flat_aliases.proofs.Got.{read_at}
use Rattle.flat_aliases.proofs.Threading.{thread_more, threaded}
use Rattle.flat_aliases.proofs.threads.thread.Goals as goal

none : Link
none = record { from = 0; to = 0 }

pub index-requires : goal.index-requires
index-requires c =
    let l : c.loop-at.at < length c.args.links.now = omega arith in
    let link = get_or c.args.links.now c.loop-at.at (record { from = 0; to = 0 }) in
    omega (arith, c.loop-at.last.ok, c.loop-at.invariant.lasts, (c.requires link.from link.to (c.loop-at.at, slice_get-get_or c.args.links.now c.loop-at.at (record { from = 0; to = 0 }) l)).0)

pub index_mut-requires : goal.index_mut-requires
index_mut-requires c =
    let l : c.loop-at.at < length c.args.links.now = omega arith in
    let link = get_or c.args.links.now c.loop-at.at (record { from = 0; to = 0 }) in
    omega (arith, c.loop-at.last.ok, c.loop-at.invariant.lasts, (c.requires link.from link.to (c.loop-at.at, slice_get-get_or c.args.links.now c.loop-at.at (record { from = 0; to = 0 }) l)).0)

pub loop-at-preserved : goal.loop-at-preserved
loop-at-preserved c =
    let l : c.loop-at.at < length c.args.links.now = omega arith in
    let link = get_or c.args.links.now c.loop-at.at (record { from = 0; to = 0 }) in
    let here = slice_get-get_or c.args.links.now c.loop-at.at (record { from = 0; to = 0 }) l in
    let inside : link.from < length c.loop-at.last.items = omega (arith, c.loop-at.invariant.lasts, (c.requires link.from link.to (c.loop-at.at, here)).0) in
    rw c.in_ok-push.ensures.items (thread_more c.args.links.now c.args.places c.loop-at.at c.loop-at.last.items c.loop-at.before.items link c.index.result.now here
    (read_at c.loop-at.last.items link.from c.index.result.now inside c.index.ensures) c.loop-at.invariant)

pub returns : goal.returns
returns c =
    let e : c.loop-at.at ≡ length c.args.links.now = omega arith in
    threaded c.args.links.now c.args.places c.loop-at.at c.loop-at.last.items c.loop-at.before.items e c.loop-at.invariant
