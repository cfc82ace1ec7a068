use Rattle.std.proofs.Common.{◌≡◌, ℕ, ◌+◌, List, length, Some, None, refl, sym, ap, ◌∙◌, subst, arith}
use Rattle.std.specs.Prelude.{slice_get}
use Rattle.std.proofs.lemmas.List.{length-map}
use Rattle.std.proofs.lemmas.Option.{slice_get_within, slice_get_read, get_or_from_slice_get}
use Rattle.clock_tree.specs.Clock.{design_of}
use Rattle.lane_forest.specs.declared.growth.Span.{Span}
use Rattle.lane_forest.specs.Gates.{gate_along}
use Rattle.lane_forest.specs.Growth.{IsSpan, IsThrough}
use Rattle.lane_forest.proofs.Nodes.{cell_interval}
use Rattle.lane_forest.proofs.Gates.{passes_row}
use Rattle.lane_forest.proofs.Served.{cell_there}
use Rattle.lane_forest.proofs.Through.{through_more, through_all}
use Rattle.lane_forest.proofs.growth.Growth.go_through.Goals as goal

pub row-row-requires : goal.row-row-requires
row-row-requires c = cell_there (design_of c.args.graph.now c.args.bench.now) c.requires.ready c.args.net c.args.cell c.args.out c.requires.driven

pub pins-preserved : goal.pins-preserved
pins-preserved c =
    let here = c.pin.ensures.1 in
    let inside = slice_get_within c.args.graph.now.flat.pins c.pin.result _ here in
    let many = c.requires.safe.spans_many in
    let kept : length c.pins.self.spans.items ≡ length c.args.self.now.spans.items = ap (λ (xs : List Span). length xs) c.pins.invariant.spans in
    let number : c.index.result ≡ c.pin.result = c.index.ensures.number in
    let read : slice_get c.pins.self.spans.items c.index.result ≡ Some c.index-span.result.now = slice_get_read c.pins.self.spans.items (length c.pins.self.spans.items) c.index.result c.index-span.result.now refl (omega arith) c.index-span.ensures in
    let at_is : slice_get c.args.self.now.spans.items c.pin.result ≡ Some c.index-span.result.now = subst (λ (k : ℕ). slice_get c.args.self.now.spans.items k ≡ Some c.index-span.result.now) number (subst (λ (xs : List Span). slice_get xs c.index.result ≡ Some c.index-span.result.now) c.pins.invariant.spans read) in
    let fits : IsSpan (length c.args.self.now.forest.nodes) c.index-span.result.now = subst (λ (s : Span). IsSpan (length c.args.self.now.forest.nodes) s) (get_or_from_slice_get c.args.self.now.spans.items c.pin.result c.index-span.result.now c.index-span.result.now at_is) (c.requires.safe.spans_fit c.pin.result c.index-span.result.now (omega arith)) in
    let low = c.pins.auto.pin in
    let paths = c.requires.served c.row-row.result.now c.pins.pin c.pin.result c.pin.ensures.0 c.row-row.ensures.row (c.passed_pins-first.ensures.passed c.pins.pin (omega arith) (omega arith)) here in
    through_more (design_of c.args.graph.now c.args.bench.now) c.args.cell c.args.out c.passed_pins-first.result.0 c.args.self.now c.requires.safe c.pins.self (record { forest = c.extend_all.new.self; spans = c.pins.self.spans }) c.pins.pin c.pin.result c.pin.ensures.0 c.index-span.result.now c.delay_of-delay.result
    c.pins.invariant here at_is fits paths (cell_interval (design_of c.args.graph.now c.args.bench.now) c.args.cell c.pins.pin c.args.out c.row-row.result.now c.delay_of-delay.result c.row-row.ensures.row c.row-row.ensures.fits c.delay_of-delay.ensures.low c.delay_of-delay.ensures.high) refl
    c.in_ok-extend_all.ensures.lanes c.is_clocked-gated.result (passes_row (design_of c.args.graph.now c.args.bench.now) c.args.cell c.pins.pin c.args.out c.row-row.result.now c.row-row.ensures.row ∙ sym c.is_clocked-gated.ensures) c.in_ok-extend_all.ensures.gates

pub returns : goal.returns
returns c =
    let low = c.pins.auto.pin in
    let high = c.pins.auto.pin-end in
    let at : c.pins.pin ≡ c.passed_pins-first.result.0 + c.passed_pins-first.result.1 = omega arith in
    through_all (design_of c.args.graph.now c.args.bench.now) c.args.cell c.args.out c.passed_pins-first.result.0 c.args.self.now c.requires.safe c.requires.ready c.pins.self c.args.net c.passed_pins-first.result.1 c.row-row.result.now c.row-row.ensures.row c.requires.driven c.passed_pins-first.ensures
    (subst (λ (p : ℕ). IsThrough (design_of c.args.graph.now c.args.bench.now) c.args.cell c.args.out c.passed_pins-first.result.0 p c.args.self.now c.pins.self) at c.pins.invariant)

pub extend_all-requires-clause-even_gates : goal.extend_all-requires-clause-even_gates
extend_all-requires-clause-even_gates c =
    ap (λ (gates : List _). length gates) c.pins.invariant.gates ∙ length-map c.pins.self.forest.arcs (gate_along (design_of c.args.graph.now c.args.bench.now) None) ∙ c.pins.invariant.even
