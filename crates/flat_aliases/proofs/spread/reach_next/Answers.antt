use Rattle.std.proofs.Common.{◌<◌, ℕ, length, Option, sym, subst, arith}
use Rattle.std.proofs.lemmas.Option.{slice_get_within}
use Rattle.flat_aliases.specs.Threads.{left_of}
use Rattle.flat_aliases.specs.Drives.{next}
use Rattle.flat_aliases.proofs.Got.{read_at}
use Rattle.flat_aliases.proofs.Spreading.{then_goes, link_at, less_left, settled_step}
use Rattle.flat_aliases.proofs.spread.reach_next.Goals as goal

pub reach-requires-clause-inside : goal.reach-requires-clause-inside
reach-requires-clause-inside c =
    let n = c.along.invariant.next in
    let here = link_at c.args.net.now.links.now c.args.place n.0 c.along.cursor c.in-Some.at c.in-Some.is n.1 in
    (c.requires.net.inside.linked c.args.place _ (c.in-Some.at, here)).1

pub reach-requires-clause-drives : goal.reach-requires-clause-drives
reach-requires-clause-drives c =
    let n = c.along.invariant.next in
    let here = link_at c.args.net.now.links.now c.args.place n.0 c.along.cursor c.in-Some.at c.in-Some.is n.1 in
    next c.args.place _ c.requires.drives (c.in-Some.at, here)

pub index-cursor-requires-in-Some : goal.index-cursor-requires-in-Some
index-cursor-requires-in-Some c =
    let n = c.along.invariant.next in
    let here = link_at c.args.net.now.links.now c.args.place n.0 c.along.cursor c.in-Some.at c.in-Some.is n.1 in
    omega (arith, slice_get_within c.args.net.now.links.now c.in-Some.at _ here, c.requires.net.threads.befores, c.args.net.now.threads.before.ok)

pub along-smaller : goal.along-smaller
along-smaller c =
    let n = c.along.invariant.next in
    let here = link_at c.args.net.now.links.now c.args.place n.0 c.along.cursor c.in-Some.at c.in-Some.is n.1 in
    let l : c.in-Some.at < length c.args.net.now.threads.before.items = omega (arith, slice_get_within c.args.net.now.links.now c.in-Some.at _ here, c.requires.net.threads.befores) in
    let got = read_at c.args.net.now.threads.before.items c.in-Some.at c.index-cursor-in-Some.result.now l c.index-cursor-in-Some.ensures in
    let low = less_left c.args.net.now.links.now c.args.place c.in-Some.at c.index-cursor-in-Some.result.now (c.requires.net.threads.before_of c.in-Some.at c.args.place _ c.index-cursor-in-Some.result.now here got) in
    subst (λ (o : Option ℕ). left_of c.index-cursor-in-Some.result.now < left_of o) (sym c.in-Some.is) (omega (arith, low))

pub along-preserved : goal.along-preserved
along-preserved c =
    let n = c.along.invariant.next in
    let here = link_at c.args.net.now.links.now c.args.place n.0 c.along.cursor c.in-Some.at c.in-Some.is n.1 in
    let l : c.in-Some.at < length c.args.net.now.threads.before.items = omega (arith, slice_get_within c.args.net.now.links.now c.in-Some.at _ here, c.requires.net.threads.befores) in
    let got = read_at c.args.net.now.threads.before.items c.in-Some.at c.index-cursor-in-Some.result.now l c.index-cursor-in-Some.ensures in
    record {
      spreading = c.in_ok-reach.ensures.spreading;
      on = then_goes c.args.net.now.links.now c.args.net.now.starts.now c.args.driver c.args.spread.now c.along.spread c.reach.new.spread c.along.invariant.on c.in_ok-reach.ensures.on;
      next = (
        c.in-Some.at,
        c.requires.net.threads.before_of c.in-Some.at c.args.place _ c.index-cursor-in-Some.result.now here got,
        settled_step c.args.net.now.links.now c.reach.new.spread.held.items c.args.driver c.args.place n.0 c.in-Some.at _ c.along.cursor c.in-Some.is n.1 here c.in_ok-reach.ensures.settled
            (λ k to m e. c.in_ok-reach.ensures.on.grows to (n.2 k to m e)),
      );
    }
