use Rattle.std.proofs.Common.{◌≡◌, ◌∙◌, ℕ, List, length, sym, subst}
use Rattle.flat_aliases.specs.declared.link.Link.{Link}
use Rattle.flat_aliases.specs.Drives.{AreLinksInside, IsRing, IsNamedRing}
use Rattle.net_graph.specs.Graph.{IsNamedLoop}
use Rattle.net_graph.proofs.Links.{links_inside, named_loop, no_loop, where_none, where_some}
use Rattle.net_graph.proofs.loops.find_loop.Goals as goal

pub find_ring-requires-clause-inside : goal.find_ring-requires-clause-inside
find_ring-requires-clause-inside c =
    subst (λ (n : ℕ). AreLinksInside c.as_slice.result.now n) (sym c.len.ensures.len)
    (subst (λ (ls : List Link). AreLinksInside ls (length c.args.flat.now.cells)) (sym c.as_slice.ensures.value) (links_inside c.args.table.now c.args.flat.now c.requires c.in_ok-links.links.items c.in_ok-links.ensures))

pub returns-in-None-clause-none : goal.returns-in-None-clause-none
returns-in-None-clause-none c =
    no_loop c.args.table.now c.args.flat.now c.requires c.in_ok-links.links.items c.in_ok-links.ensures
    (subst (λ (ls : List Link). (ring : List ℕ) → ¬ IsRing ls ring) c.as_slice.ensures.value (where_none c.in_ok-found.found ((ring : List ℕ) → ¬ IsRing c.as_slice.result.now ring) c.in-None.is c.in_ok-found.ensures.no_ring))

pub returns-clause-some : goal.returns-clause-some
returns-clause-some c =
    let links = c.in_ok-links.links.items in
    let named : IsNamedRing links c.in-Some.ring = subst (λ (ls : List Link). IsNamedRing ls c.in-Some.ring) c.as_slice.ensures.value (where_some c.in_ok-found.found c.in-Some.ring (IsNamedRing c.as_slice.result.now) c.in-Some.is c.in_ok-found.ensures.ring) in
    let cells : c.in_ok-cells-in-Some.cells ≡ c.in-Some.ring = c.in_ok-cells-in-Some.ensures ∙ c.as_slice-in-Some.ensures in
    subst (IsNamedLoop c.args.flat.now) (sym cells) (named_loop c.args.table.now c.args.flat.now c.requires links c.in_ok-links.ensures c.in-Some.ring named)
