use Rattle.std.proofs.Common.{◌≡◌, ◌∙◌, ◌<◌, ◌+◌, ℕ, length, take, rules, Some, sym, ap, subst, arith, get_or, set}
use Rattle.std.proofs.lemmas.Option.{slice_get_within}
use Rattle.std.proofs.Common.{List, [], ◌∷◌, length-append}
use Rattle.std.specs.List.{sum_by}
use Rattle.std.specs.Vec.{with_item}
use Rattle.flat_aliases.specs.declared.rings.Walk.{Walk}
use Rattle.flat_aliases.specs.Drives.{Leads}
use Rattle.flat_aliases.specs.Threads.{left_of}
use Rattle.flat_aliases.specs.declared.rings.Mark.TheVariants.{New, Open, Done}
use Rattle.flat_aliases.specs.Walks.{IsWalkOf, StaysSeen}
use Rattle.flat_aliases.proofs.Got.{read_at}
use Rattle.flat_aliases.proofs.Walking.{end_inside, link_here, goes_back, goes_on, opens, closes, opened_walk, advance, marked, same_end}
use Rattle.flat_aliases.proofs.rings.step.Goals as goal

pub index-requires : goal.index-requires
index-requires c =
    let w = c.requires.walk.is_walk in
    omega (arith, w.cursor_count, c.args.walk.now.cursors.ok, end_inside c.args.links.now c.args.places c.args.place c.args.walk.now.marks.items c.args.walk.now.cursors.items c.args.walk.now.path.items w c.requires.end)

pub index_mut-requires : goal.index_mut-requires
index_mut-requires c =
    let w = c.requires.walk.is_walk in
    omega (arith, w.mark_count, c.args.walk.now.marks.ok, end_inside c.args.links.now c.args.places c.args.place c.args.walk.now.marks.items c.args.walk.now.cursors.items c.args.walk.now.path.items w c.requires.end)

pub index-requires-in-Some : goal.index-requires-in-Some
index-requires-in-Some c =
    let here = link_here c.args.links.now c.args.places c.args.place c.in-Some.link c.index.result.now c.args.walk.now.marks.items c.args.walk.now.cursors.items c.args.walk.now.path.items c.requires.walk.is_walk c.requires.end c.index.ensures c.in-Some.is in
    omega (arith, slice_get_within c.args.links.now c.in-Some.link _ here.1, c.requires.walk.links_before.count, c.args.walk.now.before.ok)

pub index_mut-requires-in-Some : goal.index_mut-requires-in-Some
index_mut-requires-in-Some c =
    let w = c.requires.walk.is_walk in
    omega (arith, w.cursor_count, c.args.walk.now.cursors.ok, end_inside c.args.links.now c.args.places c.args.place c.args.walk.now.marks.items c.args.walk.now.cursors.items c.args.walk.now.path.items w c.requires.end)

pub offset_bounds-links-link : goal.offset_bounds-links-link
offset_bounds-links-link c =
    let here = link_here c.args.links.now c.args.places c.args.place c.in-Some.link c.index.result.now c.args.walk.now.marks.items c.args.walk.now.cursors.items c.args.walk.now.path.items c.requires.walk.is_walk c.requires.end c.index.ensures c.in-Some.is in
    let l : c.in-Some.link < length c.args.links.now = slice_get_within c.args.links.now c.in-Some.link _ here.1 in
    search rules

pub bounds-links-link : goal.bounds-links-link
bounds-links-link c =
    let here = link_here c.args.links.now c.args.places c.args.place c.in-Some.link c.index.result.now c.args.walk.now.marks.items c.args.walk.now.cursors.items c.args.walk.now.path.items c.requires.walk.is_walk c.requires.end c.index.ensures c.in-Some.is in
    slice_get_within c.args.links.now c.in-Some.link _ here.1

pub index-requires-in-Some-2 : goal.index-requires-in-Some-2
index-requires-in-Some-2 c =
    let here = link_here c.args.links.now c.args.places c.args.place c.in-Some.link c.index.result.now c.args.walk.now.marks.items c.args.walk.now.cursors.items c.args.walk.now.path.items c.requires.walk.is_walk c.requires.end c.index.ensures c.in-Some.is in
    omega (arith, (c.requires.inside c.args.place _ (c.in-Some.link, here.1)).1, c.requires.walk.is_walk.mark_count, c.args.walk.now.marks.ok)

pub open-requires : goal.open-requires
open-requires c =
    let s = advance c.args.links.now c.args.places c.args.place c.in-Some.link c.index.result.now c.index-in-Some.result.now c.args.walk.now c.requires.inside c.requires.walk c.requires.end c.index.ensures c.in-Some.is c.index-in-Some.ensures in
    let m = marked c.args.walk.now.marks.items c.args.places (get_or c.args.links.now c.in-Some.link (record { from = 0; to = 0 })).to c.index-in-Some-2.result.now New c.requires.walk.is_walk.mark_count s.to_inside c.index-in-Some-2.ensures c.in-New.is in
    m

pub returns-in-None-clause-walk : goal.returns-in-None-clause-walk
returns-in-None-clause-walk c =
    let w = c.requires.walk.is_walk in
    let end = c.requires.end in
    let l = end_inside c.args.links.now c.args.places c.args.place c.args.walk.now.marks.items c.args.walk.now.cursors.items c.args.walk.now.path.items w end in
    let inside : c.args.place < length c.args.walk.now.cursors.items = omega (arith, w.cursor_count, l) in
    let none = read_at c.args.walk.now.cursors.items c.args.place c.index.result.now inside c.index.ensures ∙ ap Some c.in-None.is in
    let path : c.pop.new.self.items ≡ take end.0 c.args.walk.now.path.items = c.pop.ensures.rest ∙ ap (λ (n : ℕ). take n c.args.walk.now.path.items) (omega (arith, c.args.walk.now.path.ok, end.1)) in
    record {
      links_before = c.requires.walk.links_before;
      is_walk = subst (λ (ps : List ℕ). IsWalkOf c.args.links.now c.args.places (set c.args.walk.now.marks.items c.args.place Done) c.args.walk.now.cursors.items ps) (sym path)
          (goes_back c.args.links.now c.args.places c.args.place end.0 c.args.walk.now.marks.items c.args.walk.now.cursors.items c.args.walk.now.path.items w end.1 end.2 none).0;
    }

pub returns-in-None-clause-seen : goal.returns-in-None-clause-seen
returns-in-None-clause-seen c =
    let w = c.requires.walk.is_walk in
    let end = c.requires.end in
    let l = end_inside c.args.links.now c.args.places c.args.place c.args.walk.now.marks.items c.args.walk.now.cursors.items c.args.walk.now.path.items w end in
    let inside : c.args.place < length c.args.walk.now.cursors.items = omega (arith, w.cursor_count, l) in
    let none = read_at c.args.walk.now.cursors.items c.args.place c.index.result.now inside c.index.ensures ∙ ap Some c.in-None.is in
    (goes_back c.args.links.now c.args.places c.args.place end.0 c.args.walk.now.marks.items c.args.walk.now.cursors.items c.args.walk.now.path.items w end.1 end.2 none).1

pub returns-in_ok-open-in-New-clause-walk : goal.returns-in_ok-open-in-New-clause-walk
returns-in_ok-open-in-New-clause-walk c =
    let s = advance c.args.links.now c.args.places c.args.place c.in-Some.link c.index.result.now c.index-in-Some.result.now c.args.walk.now c.requires.inside c.requires.walk c.requires.end c.index.ensures c.in-Some.is c.index-in-Some.ensures in
    let m = marked c.args.walk.now.marks.items c.args.places (get_or c.args.links.now c.in-Some.link (record { from = 0; to = 0 })).to c.index-in-Some-2.result.now New c.requires.walk.is_walk.mark_count s.to_inside c.index-in-Some-2.ensures c.in-New.is in
    let all = opens c.args.links.now c.args.places c.args.place (get_or c.args.links.now c.in-Some.link (record { from = 0; to = 0 })).to c.args.walk.now.marks.items c.args.walk.now.cursors.items (set c.args.walk.now.cursors.items c.args.place c.index-in-Some.result.now) c.args.walk.now.path.items c.requires.walk.is_walk s.on m
    (λ from e. subst (λ (n : ℕ). Leads c.args.links.now n (get_or c.args.links.now c.in-Some.link (record { from = 0; to = 0 })).to) (same_end c.args.walk.now.path.items c.args.place from c.requires.end e) (c.in-Some.link, s.link)) in
    let old : Walk = record { marks = c.args.walk.now.marks; cursors = with_item c.args.walk.now.cursors c.args.place c.index-in-Some.result.now; before = c.args.walk.now.before; path = c.args.walk.now.path } in
    opened_walk c.args.links.now c.args.places (get_or c.args.links.now c.in-Some.link (record { from = 0; to = 0 })).to old c.open.new.walk c.in_ok-open-in-New.ensures c.requires.walk.links_before all.0

pub returns-in_ok-open-in-New-clause-less : goal.returns-in_ok-open-in-New-clause-less
returns-in_ok-open-in-New-clause-less c =
    let s = advance c.args.links.now c.args.places c.args.place c.in-Some.link c.index.result.now c.index-in-Some.result.now c.args.walk.now c.requires.inside c.requires.walk c.requires.end c.index.ensures c.in-Some.is c.index-in-Some.ensures in
    let cursors : sum_by left_of c.open.new.walk.cursors.items ≡ sum_by left_of (set c.args.walk.now.cursors.items c.args.place c.index-in-Some.result.now) = ap (sum_by left_of) c.in_ok-open-in-New.ensures.cursors in
    let path : length c.open.new.walk.path.items ≡ length c.args.walk.now.path.items + 1 =
    ap length c.in_ok-open-in-New.ensures.path ∙ length-append c.args.walk.now.path.items ((get_or c.args.links.now c.in-Some.link (record { from = 0; to = 0 })).to ∷ []) in
    omega (arith, s.less, cursors, path)

pub returns-in_ok-open-in-New-clause-seen : goal.returns-in_ok-open-in-New-clause-seen
returns-in_ok-open-in-New-clause-seen c =
    let s = advance c.args.links.now c.args.places c.args.place c.in-Some.link c.index.result.now c.index-in-Some.result.now c.args.walk.now c.requires.inside c.requires.walk c.requires.end c.index.ensures c.in-Some.is c.index-in-Some.ensures in
    let m = marked c.args.walk.now.marks.items c.args.places (get_or c.args.links.now c.in-Some.link (record { from = 0; to = 0 })).to c.index-in-Some-2.result.now New c.requires.walk.is_walk.mark_count s.to_inside c.index-in-Some-2.ensures c.in-New.is in
    let all = opens c.args.links.now c.args.places c.args.place (get_or c.args.links.now c.in-Some.link (record { from = 0; to = 0 })).to c.args.walk.now.marks.items c.args.walk.now.cursors.items (set c.args.walk.now.cursors.items c.args.place c.index-in-Some.result.now) c.args.walk.now.path.items c.requires.walk.is_walk s.on m
    (λ from e. subst (λ (n : ℕ). Leads c.args.links.now n (get_or c.args.links.now c.in-Some.link (record { from = 0; to = 0 })).to) (same_end c.args.walk.now.path.items c.args.place from c.requires.end e) (c.in-Some.link, s.link)) in
    let old : Walk = record { marks = c.args.walk.now.marks; cursors = with_item c.args.walk.now.cursors c.args.place c.index-in-Some.result.now; before = c.args.walk.now.before; path = c.args.walk.now.path } in
    subst (StaysSeen c.args.walk.now.marks.items) (sym c.in_ok-open-in-New.ensures.marks) all.1

pub returns-in-Open-clause-ring : goal.returns-in-Open-clause-ring
returns-in-Open-clause-ring c =
    let s = advance c.args.links.now c.args.places c.args.place c.in-Some.link c.index.result.now c.index-in-Some.result.now c.args.walk.now c.requires.inside c.requires.walk c.requires.end c.index.ensures c.in-Some.is c.index-in-Some.ensures in
    let m = marked c.args.walk.now.marks.items c.args.places (get_or c.args.links.now c.in-Some.link (record { from = 0; to = 0 })).to c.index-in-Some-2.result.now (Open c.in-Open.first) c.requires.walk.is_walk.mark_count s.to_inside c.index-in-Some-2.ensures c.in-Open.is in
    closes c.args.links.now c.args.places c.args.place (get_or c.args.links.now c.in-Some.link (record { from = 0; to = 0 })).to c.in-Open.first c.args.walk.now.marks.items c.args.walk.now.cursors.items c.args.walk.now.path.items c.requires.walk.is_walk c.requires.end (c.in-Some.link, s.link) m

pub returns-in-Done-clause-walk : goal.returns-in-Done-clause-walk
returns-in-Done-clause-walk c =
    let s = advance c.args.links.now c.args.places c.args.place c.in-Some.link c.index.result.now c.index-in-Some.result.now c.args.walk.now c.requires.inside c.requires.walk c.requires.end c.index.ensures c.in-Some.is c.index-in-Some.ensures in
    let m = marked c.args.walk.now.marks.items c.args.places (get_or c.args.links.now c.in-Some.link (record { from = 0; to = 0 })).to c.index-in-Some-2.result.now Done c.requires.walk.is_walk.mark_count s.to_inside c.index-in-Some-2.ensures c.in-Done.is in
    record {
      links_before = c.requires.walk.links_before;
      is_walk = goes_on c.args.links.now c.args.places c.args.place (get_or c.args.links.now c.in-Some.link (record { from = 0; to = 0 })).to c.args.walk.now.marks.items c.args.walk.now.cursors.items (set c.args.walk.now.cursors.items c.args.place c.index-in-Some.result.now) c.args.walk.now.path.items c.requires.walk.is_walk s.on m;
    }

pub returns-in-Done-clause-less : goal.returns-in-Done-clause-less
returns-in-Done-clause-less c =
    let s = advance c.args.links.now c.args.places c.args.place c.in-Some.link c.index.result.now c.index-in-Some.result.now c.args.walk.now c.requires.inside c.requires.walk c.requires.end c.index.ensures c.in-Some.is c.index-in-Some.ensures in
    omega (arith, s.less)
