use Rattle.std.proofs.Common.{◌≡◌, ◌∙◌, ℕ, List, length, sym, ap, subst, arith}
use Rattle.std.proofs.lemmas.List.{length-map}
use Rattle.golden_aig.specs.declared.graph.And.{And}
use Rattle.golden_aig.specs.Aig.{IsAig}
use Rattle.aiger_order.specs.Numbers.{file_literal}
use Rattle.aiger_order.specs.Listing.{AreLines}
use Rattle.aiger_order.specs.Renaming.{IsRenaming, IsOrdered}
use Rattle.aiger_order.specs.Ring.{AreFed, IsRingOfAnds}
use Rattle.aiger_order.proofs.Renamings.{lines_ok, few_lines, all_fed, all_known, no_graph, graph_made, renaming_made, order_made}
use Rattle.aiger_order.proofs.renaming.renumber.Goals as goal

pub sort_lines-requires-clause-lines : goal.sort_lines-requires-clause-lines
sort_lines-requires-clause-lines c = subst (AreLines c.args.listing.top) (sym c.as_slice-lines.ensures) (lines_ok c.args.listing c.requires.listing)

pub sort_lines-requires-clause-few : goal.sort_lines-requires-clause-few
sort_lines-requires-clause-few c = let few = few_lines c.args.listing c.requires.listing in rw c.as_slice-lines.ensures (omega arith)

pub find_left-requires-clause-lines : goal.find_left-requires-clause-lines
find_left-requires-clause-lines c = subst (AreLines c.args.listing.top) (sym c.as_slice-lines.ensures) (lines_ok c.args.listing c.requires.listing)

pub find_ring-requires-clause-lines : goal.find_ring-requires-clause-lines
find_ring-requires-clause-lines c = subst (AreLines c.args.listing.top) (sym c.as_slice-lines.ensures) (lines_ok c.args.listing c.requires.listing)

pub find_ring-requires-clause-fed : goal.find_ring-requires-clause-fed
find_ring-requires-clause-fed c =
    let sorted = c.in_ok-sorted.sorted in
    let s = rw (c.as_slice.ensures, c.as_slice-lines.ensures) at c.in_ok-sorted.ensures.sorted in
    subst (AreFed sorted.numbering.names.items) (sym c.as_slice-lines.ensures) (all_fed c.args.listing sorted.numbering.names.items sorted.ands c.requires.listing s)

pub returns-in-Some-clause-fault : goal.returns-in-Some-clause-fault
returns-in-Some-clause-fault c =
    let ring = subst (λ (lines : List And). IsRingOfAnds lines c.in_ok-ring.ring) c.as_slice-lines.ensures c.in_ok-ring.ensures in
    (ring, no_graph c.args.listing c.in_ok-ring.ring ring)

pub renumber_all-requires-clause-known : goal.renumber_all-requires-clause-known
renumber_all-requires-clause-known c at literal is =
    let sorted = c.in_ok-sorted.sorted in
    let s = rw (c.as_slice.ensures, c.as_slice-lines.ensures) at c.in_ok-sorted.ensures.sorted in
    let done = rw c.as_slice-lines.ensures at c.in_default.ensures.none in
    let there = rw c.as_slice-2.ensures at is in
    all_known c.args.listing sorted.numbering.names.items sorted.ands literal c.requires.listing s done (c.requires.listing.outputs at literal there)

pub returns-clause-graph : goal.returns-clause-graph
returns-clause-graph c =
    let listing = c.args.listing in
    let sorted = c.in_ok-sorted.sorted in
    let outputs = c.in_ok-outputs.outputs in
    let s = rw (c.as_slice.ensures, c.as_slice-lines.ensures) at c.in_ok-sorted.ensures.sorted in
    let same = c.in_ok-outputs.ensures.same ∙ c.as_slice-2.ensures in
    let many : length outputs ≡ length listing.outputs = sym (length-map outputs (file_literal sorted.numbering.names.items)) ∙ ap length same in
    subst (λ (n : ℕ). IsAig (record { inputs = n; ands = sorted.ands; outputs = outputs; in_names = listing.in_names; out_names = listing.out_names })) (sym c.len.ensures)
    (graph_made listing sorted.numbering.names.items sorted.numbering.numbers.items sorted.ands outputs c.requires.listing c.in_ok-sorted.ensures.numbers s many c.in_ok-outputs.ensures.within)

pub returns-clause-renaming : goal.returns-clause-renaming
returns-clause-renaming c =
    let listing = c.args.listing in
    let sorted = c.in_ok-sorted.sorted in
    let outputs = c.in_ok-outputs.outputs in
    let s = rw (c.as_slice.ensures, c.as_slice-lines.ensures) at c.in_ok-sorted.ensures.sorted in
    let done = rw c.as_slice-lines.ensures at c.in_default.ensures.none in
    let same = c.in_ok-outputs.ensures.same ∙ c.as_slice-2.ensures in
    subst (λ (n : ℕ). IsRenaming listing (record { inputs = n; ands = sorted.ands; outputs = outputs; in_names = listing.in_names; out_names = listing.out_names })) (sym c.len.ensures)
    (sorted.numbering.names.items, renaming_made listing sorted.numbering.names.items sorted.numbering.numbers.items sorted.ands outputs c.requires.listing c.in_ok-sorted.ensures.numbers s done same)

pub returns-clause-order : goal.returns-clause-order
returns-clause-order c =
    let listing = c.args.listing in
    let sorted = c.in_ok-sorted.sorted in
    let names = sorted.numbering.names.items in
    let outputs = c.in_ok-outputs.outputs in
    let s = rw (c.as_slice.ensures, c.as_slice-lines.ensures) at c.in_ok-sorted.ensures.sorted in
    let done = rw c.as_slice-lines.ensures at c.in_default.ensures.none in
    let same = c.in_ok-outputs.ensures.same ∙ c.as_slice-2.ensures in
    subst (λ (n : ℕ). IsOrdered listing (record { inputs = n; ands = sorted.ands; outputs = outputs; in_names = listing.in_names; out_names = listing.out_names })) (sym c.len.ensures)
    (names, renaming_made listing names sorted.numbering.numbers.items sorted.ands outputs c.requires.listing c.in_ok-sorted.ensures.numbers s done same, order_made listing names sorted.ands outputs s)
